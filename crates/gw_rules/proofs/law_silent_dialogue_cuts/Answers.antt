-- Proof of the contract of `law_silent_dialogue_cuts`.
use Rattle.gw_rules.proofs.TrickleExampleLemmas.{trickle-cut, trickle-silent}
use Rattle.gw_rules.proofs.UnsaidLemmas.{silent-dialogue-is-cut}
use Rattle.gw_rules.proofs.law_silent_dialogue_cuts.Goals as goal

pub returns-clause-cuts : goal.returns-clause-cuts
returns-clause-cuts c = silent-dialogue-is-cut

pub returns-clause-example : goal.returns-clause-example
returns-clause-example c = trickle-silent

pub returns-clause-example_cut : goal.returns-clause-example_cut
returns-clause-example_cut c = trickle-cut
