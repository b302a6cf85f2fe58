-- What the loop of `rest_of_character` keeps, and why it ends.
use Rattle.std.proofs.Common.{ℕ, List, ◌≤◌, ◌-◌, length}
use Rattle.json_text.specs.inner.CharacterLeft.{IsSound}
use Rattle.json_text.specs.inner.ReaderStates.{Level, Role, character_in}
use Rattle.json_text.specs.inner.ReaderProgress.{ReadTo, IsRoleSound}
use Rattle.json_text.proofs.tokens.rest_of_character.Given as goal

abbrev pub invariant-loop-here : goal.invariant-loop-here
invariant-loop-here l = record {
  sound : IsSound l.within;
  forward : l.fn.offset ≤ l.here;
  fits : l.here ≤ length l.bytes;
  comes : (role : Role) (text : List ℕ) (st : List Level) → IsRoleSound role → ReadTo l.bytes l.fn.offset (character_in role text l.fn.begun) st → ReadTo l.bytes l.here (character_in role text l.within) st;
}

abbrev pub decreases-loop-here : goal.decreases-loop-here
decreases-loop-here l = length l.bytes - l.here
