-- Proof of the contract of `first`.
use Rattle.std.proofs.Common.{arith, refl, sym, subst, ℕ, inl, inr}
use Rattle.json_text.specs.Scan.{inside}
use Rattle.json_text.specs.inner.CharacterLeft.{Starts, LeavesNone}
use Rattle.json_text.proofs.CharacterLemmas.{next_is, first_ascii, first_dead, first_two, first_e0, first_ed, first_mid, first_f0, first_f1, first_f4}
use Rattle.json_text.proofs.character.first.Goals as goal

pub returns-in-32-to-127 : goal.returns-in-32-to-127
returns-in-32-to-127 c =
    subst (λ (k : ℕ). LeavesNone Starts inside c.args.byte k) (sym c.from.ensures) (first_ascii c.args.byte (omega arith) (omega arith) (omega arith) (omega arith))

pub returns-in-194-to-223 : goal.returns-in-194-to-223
returns-in-194-to-223 c = next_is _ _ _ c.args.byte _ _ refl c.utf8-in-194-to-223.ensures (first_two c.args.byte (omega arith) (omega arith))

pub returns-in-224 : goal.returns-in-224
returns-in-224 c = next_is _ _ _ 224 _ _ c.in-224.is c.utf8-2.ensures first_e0

pub returns-in-237 : goal.returns-in-237
returns-in-237 c = next_is _ _ _ 237 _ _ c.in-237.is c.utf8-in-237.ensures first_ed

pub returns-in-225-to-239 : goal.returns-in-225-to-239
returns-in-225-to-239 c = next_is _ _ _ c.args.byte _ _ refl c.utf8-in-225-to-239.ensures (first_mid c.args.byte (omega arith) (omega arith) (omega arith))

pub returns-in-240 : goal.returns-in-240
returns-in-240 c = next_is _ _ _ 240 _ _ c.in-240.is c.utf8-in-240.ensures first_f0

pub returns-in-244 : goal.returns-in-244
returns-in-244 c = next_is _ _ _ 244 _ _ c.in-244.is c.utf8-in-244.ensures first_f4

pub returns-in-241-to-243 : goal.returns-in-241-to-243
returns-in-241-to-243 c = next_is _ _ _ c.args.byte _ _ refl c.utf8-in-241-to-243.ensures (first_f1 c.args.byte (omega arith) (omega arith))

pub returns-in_default : goal.returns-in_default
returns-in_default c = first_dead c.args.byte (omega arith) (omega arith) (inl (omega arith))

pub returns-in_default-2 : goal.returns-in_default-2
returns-in_default-2 c = first_dead c.args.byte (omega arith) (omega arith) (inr (inl (omega arith, omega arith)))

pub returns-in_default-3 : goal.returns-in_default-3
returns-in_default-3 c = first_dead c.args.byte (omega arith) (omega arith) (inr (inr (omega arith)))
