-- Proof of the contract of `law_drill`.
use Rattle.std.proofs.Common.{refl}
use Rattle.std.specs.Fmt.{digits}
use Rattle.sale_values.specs.Money.{money_text}
use Rattle.gw_script.proofs.site.NoFailureLemmas.{drill-fails-no-call, no-call-fails}
use Rattle.gw_script.proofs.law_drill.Goals as goal

pub returns-clause-one : goal.returns-clause-one
returns-clause-one c = record { first = refl; second = refl; third = refl; payment = refl; none = refl }

pub returns-clause-six : goal.returns-clause-six
returns-clause-six c = record { first = refl; both = refl; plays = refl; others = refl }

pub returns-clause-lines : goal.returns-clause-lines
unfolding digits money_text
returns-clause-lines c = record { payment = refl; status = refl; lines = refl }

pub returns-clause-images : goal.returns-clause-images
returns-clause-images c = record { new = refl; junk = refl }

pub returns-clause-no_failures : goal.returns-clause-no_failures
returns-clause-no_failures c = no-call-fails

pub returns-clause-none : goal.returns-clause-none
returns-clause-none c = drill-fails-no-call
