-- Proof of the contract of `in_escape`.
use Rattle.std.proofs.Common.{sym, ℕ, subst}
use Rattle.json_text.specs.Scan.{escaped}
use Rattle.json_text.specs.inner.CharacterLeft.{LeavesNext, LeftOfCharacter}
use Rattle.json_text.specs.declared.character.CharacterState.TheVariants as character_states
use Rattle.json_text.proofs.CharacterLemmas.{escape_letter, escape_unit, escape_dead}
use Rattle.json_text.proofs.character.in_escape.Goals as goal

pub returns-in-Some : goal.returns-in-Some
returns-in-Some c = escape_letter c.args.byte c.in-Some.c (sym c.in-Some.ensures)

pub returns-then-byte-eq117 : goal.returns-then-byte-eq117
returns-then-byte-eq117 c = subst (λ (k : ℕ). LeavesNext (LeftOfCharacter character_states.Escape) escaped k (character_states.First 4 0)) (sym c.if-byte-eq117.true) escape_unit

pub returns-else-byte-eq117 : goal.returns-else-byte-eq117
returns-else-byte-eq117 c = escape_dead c.args.byte (sym c.in-None.ensures) c.if-byte-eq117.false
