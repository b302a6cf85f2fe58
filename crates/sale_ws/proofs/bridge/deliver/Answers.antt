-- Proof of the contract of `deliver`.
use Rattle.std.proofs.Common.{[], arith}
use Rattle.sale_ws.proofs.DeliveryLemmas.{delivered-all, delivering-more, delivering-none, delivery-stops}
use Rattle.sale_ws.proofs.bridge.deliver.Goals as goal

pub loop-fault-init : goal.loop-fault-init
loop-fault-init g c = record { sent = ([], delivering-none _ _ _ _); later = omega arith }

pub loop-fault-preserved : goal.loop-fault-preserved
loop-fault-preserved g c = record {
  sent = delivering-more g.W.Wire.observed g.W.Wire.sends c.args.wire.now c.loop-fault.wire c.deliver_first.new.wire c.args.reader.now c.loop-fault.reader c.deliver_first.new.reader c.loop-fault.invariant.sent.0 c.loop-fault.invariant.sent.1
      (rw c.in-Ok-true.field-0-test at c.in-Ok-true.ensures.first) c.in-Ok-true.ensures.left;
  later = omega (arith, c.loop-fault.invariant.later, c.in-Ok-true.ensures.cause.later);
}

pub returns-in-Ok-false-clause-delivered : goal.returns-in-Ok-false-clause-delivered
returns-in-Ok-false-clause-delivered g c =
    delivered-all g.W.Wire.observed g.W.Wire.sends c.args.wire.now c.loop-fault.wire c.deliver_first.new.wire c.args.reader.now c.loop-fault.reader c.deliver_first.new.reader c.loop-fault.invariant.sent.0 c.loop-fault.invariant.sent.1
    (rw c.in-Ok-false.field-0-test at c.in-Ok-false.ensures.first)

pub returns-in-Err-clause-delivered : goal.returns-in-Err-clause-delivered
returns-in-Err-clause-delivered g c =
    delivery-stops g.W.Wire.observed g.W.Wire.sends c.args.wire.now c.loop-fault.wire c.deliver_first.new.wire c.args.reader.now c.loop-fault.reader c.deliver_first.new.reader c.loop-fault.invariant.sent.0 c.in-Err.fault c.loop-fault.invariant.sent.1
    c.in-Err.ensures.first c.in-Err.ensures.left
