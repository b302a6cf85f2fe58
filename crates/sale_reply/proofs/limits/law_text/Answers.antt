-- Proof of the contract of `law_text`.
use Rattle.sale_reply.specs.Reply.{tree_of}
use Rattle.sale_reply.proofs.SpellableLemmas.{StampsPrintable, reply_spellable}
use Rattle.sale_reply.proofs.limits.law_text.Goals as goal

pub returns : goal.returns
returns c =
    let stamps : StampsPrintable = λ now. (c.law_stamp.ensures.plain now).1 in
    λ reply is. c.spellable_trees_have_texts.ensures.has (tree_of reply) (reply_spellable stamps reply is)
