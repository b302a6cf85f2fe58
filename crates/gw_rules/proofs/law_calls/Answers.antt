-- Proof of the contract of `law_calls`.
use Rattle.gw_rules.proofs.OwedLemmas.{calls-end-in-one}
use Rattle.gw_rules.proofs.law_calls.Goals as goal

pub returns : goal.returns
returns c = record { calls = calls-end-in-one }
