-- Proof of the contract of `law_outside_alone`.
use Rattle.gw_rules.proofs.AloneExampleLemmas.{outside-leaves-other, too-long-ends-own-link}
use Rattle.gw_rules.proofs.AloneLemmas.{outside-is-alone, too-long-is-alone}
use Rattle.gw_rules.proofs.law_outside_alone.Goals as goal

pub returns-clause-outside : goal.returns-clause-outside
returns-clause-outside c = outside-is-alone

pub returns-clause-too_long : goal.returns-clause-too_long
returns-clause-too_long c = too-long-is-alone

pub returns-clause-example : goal.returns-clause-example
returns-clause-example c = outside-leaves-other

pub returns-clause-too_long_example : goal.returns-clause-too_long_example
returns-clause-too_long_example c = too-long-ends-own-link
