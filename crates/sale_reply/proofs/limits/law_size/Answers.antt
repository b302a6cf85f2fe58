-- Proof of the contract of `law_size`.
use Rattle.sale_reply.proofs.BodySizeLemmas.{StampSizes}
use Rattle.sale_reply.proofs.ReplySizeLemmas.{reply_size}
use Rattle.sale_reply.proofs.limits.law_size.Goals as goal

pub returns : goal.returns
returns c =
    let stamps : StampSizes = λ now. (c.law_stamp.ensures.plain now).0 in
    λ reply is. (reply_size stamps reply is).holds
