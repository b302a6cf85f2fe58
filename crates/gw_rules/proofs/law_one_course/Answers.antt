-- Proof of the contract of `law_one_course`.
use Rattle.gw_rules.proofs.LeanLemmas.{each-has-one-lean-course}
use Rattle.gw_rules.proofs.law_one_course.Goals as goal

pub returns : goal.returns
returns c = record { one = each-has-one-lean-course }
