-- Proof of the contract of `law_decode_apdus`.
use Rattle.zvt_apdu.proofs.DecodeStreamLemmas.{split_is, split_whole, split_incomplete, split_too_long}
use Rattle.zvt_apdu.proofs.laws.law_decode_apdus.Goals as goal

pub returns : goal.returns
returns c = record { is = split_is; whole = split_whole; incomplete = split_incomplete; too_long = split_too_long }
