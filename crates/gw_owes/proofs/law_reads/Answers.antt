-- Proof of the contract of `law_reads`.
use Rattle.gw_owes.proofs.ReadLemmas.{reads-one}
use Rattle.gw_owes.proofs.law_reads.Goals as goal

pub returns : goal.returns
returns c = record { one = reads-one }
