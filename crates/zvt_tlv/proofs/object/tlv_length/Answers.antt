-- Proof of the contract of `tlv_length`.
use Rattle.zvt_tlv.proofs.ResultLemmas.{length_some, length_none}
use Rattle.zvt_tlv.proofs.object.tlv_length.Goals as goal

pub returns-clause-some : goal.returns-clause-some
returns-clause-some c = length_some c.args.bytes.now c.first_length.result c.first_length.ensures.within c.first_length.ensures.computes

pub returns-clause-none : goal.returns-clause-none
returns-clause-none c = length_none c.args.bytes.now c.first_length.result c.first_length.ensures.within c.first_length.ensures.computes
