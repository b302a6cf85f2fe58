-- Proof of the contract of `in_utf8`.
use Rattle.std.proofs.Common.{[], ◌∷◌, refl, sym, ◌+◌, ◌-◌, ◌*◌, subst, ℕ}
use Rattle.std.specs.Char.{InScalarRange}
use Rattle.json_text.proofs.character.in_utf8.Goals as goal

pub whole-requires : goal.whole-requires
whole-requires c =
    subst (λ (k : ℕ). InScalarRange (c.args.bits * 64 + k)) (sym c.from.ensures)
    (c.requires.scalar (c.args.byte ∷ []) (c.args.bits * 64 + (c.args.byte - 128)) (sym c.if-owed-eq1.true, (c.if-byte-low.false, c.if-byte-high.false, refl)))
