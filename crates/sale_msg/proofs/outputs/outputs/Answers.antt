-- Proof of the contract of `outputs`.
use Rattle.json_text.specs.ValueOf.{value_of}
use Rattle.sale_msg.specs.Grammar.{IsOutput}
use Rattle.sale_msg.proofs.MessageLemmas.{zipped_more}
use Rattle.sale_msg.proofs.outputs.outputs.Goals as goal

pub loop-part-preserved : goal.loop-part-preserved
loop-part-preserved c =
    rw c.in_ok-push.ensures.items
    (zipped_more IsOutput value_of c.args.parts.now c.loop-part.outputs.items c.loop-part.part-index c.part-item.result c.in_ok-output.field-0
    c.loop-part-test.true c.part-item.is c.loop-part.invariant c.in_ok-output.ensures)
