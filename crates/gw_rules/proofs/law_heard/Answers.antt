-- Proof of the contract of `law_heard`.
use Rattle.gw_rules.proofs.HeardLemmas.{each-heard-is-bytes, till-bytes-bring, pt-bytes-bring}
use Rattle.gw_rules.proofs.law_heard.Goals as goal

pub returns : goal.returns
returns c = record { bytes = each-heard-is-bytes; tills = till-bytes-bring; terminals = pt-bytes-bring }
