-- Proof of the contract of `print_block`: a block that was read has whole objects.
use Rattle.std.proofs.Common.{ap}
use Rattle.zvt_msg.specs.Message.{MessageValue, value_of}
use Rattle.samples_zvt.proofs.print_block.Goals as goal

pub print_message-requires-clause-form : goal.print_message-requires-clause-form
print_message-requires-clause-form g c =
    ((c.in-Ok-Block.ensures.message (MessageValue.Block c.in-Ok-Block.objects.now)).0 (ap value_of c.in-Ok-Block.field-0-is)).1.1
