-- Proof of the contract of `CharacterState::next`.
use Rattle.json_text.specs.declared.character.CharacterState.TheVariants as character_states
use Rattle.json_text.proofs.CharacterLemmas.{in_state}
use Rattle.json_text.proofs.character.CharacterState.next.Goals as goal

pub returns-in-Escape : goal.returns-in-Escape
returns-in-Escape c = in_state c.args.self character_states.Escape c.args.byte c.in_escape.result c.in-Escape.is c.in_escape.ensures
