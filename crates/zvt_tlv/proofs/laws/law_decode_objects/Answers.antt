-- Proof of the contract of `law_decode_objects`.
use Rattle.zvt_tlv.proofs.ObjectsDecodeLemmas.{fills_is, fault_is, split_whole, split_none}
use Rattle.zvt_tlv.proofs.laws.law_decode_objects.Goals as goal

pub returns : goal.returns
returns c = record { fills = fills_is; fault = fault_is; whole = split_whole; none = split_none }
