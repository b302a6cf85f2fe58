-- Proof of the contract of `law_drill_counts`.
use Rattle.std.proofs.Common.{refl}
use Rattle.std.specs.Fmt.{digits}
use Rattle.gw_drill.proofs.law_drill_counts.Goals as goal

pub returns-clause-none : goal.returns-clause-none
unfolding digits
returns-clause-none c = refl

pub returns-clause-one : goal.returns-clause-one
unfolding digits
returns-clause-one c = refl
