-- Proof of the contract of `law_power`.
use Rattle.gw_run.proofs.PowerExampleLemmas.{later-of-script, power-has-text, power-of-script, unmeasured-of-script, unopened-of-script}
use Rattle.gw_run.proofs.laws.law_power.Goals as goal

pub returns-clause-script : goal.returns-clause-script
returns-clause-script c = power-of-script

pub returns-clause-text : goal.returns-clause-text
returns-clause-text c = power-has-text

pub returns-clause-unopened : goal.returns-clause-unopened
returns-clause-unopened c = unopened-of-script

pub returns-clause-unmeasured : goal.returns-clause-unmeasured
returns-clause-unmeasured c = unmeasured-of-script

pub returns-clause-later : goal.returns-clause-later
returns-clause-later c = later-of-script
