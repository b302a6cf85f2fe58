-- Proof of the contract of `law_no_proper_prefix`.
use Rattle.zvt_tlv.proofs.ObjectsDecodeLemmas.{no_proper_prefix}
use Rattle.zvt_tlv.proofs.laws.law_no_proper_prefix.Goals as goal

pub returns : goal.returns
returns c = no_proper_prefix
