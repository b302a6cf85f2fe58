-- Proof of the contract of `take_slots`.
use Rattle.std.proofs.Common.{arith, ap, Ok}
use Rattle.jrn_log.proofs.ReadLemmas.{chunk_slot}
use Rattle.jrn_log.proofs.read.take_slots.Goals as goal

pub returns-in-Ok-End-clause-taken : goal.returns-in-Ok-End-clause-taken
returns-in-Ok-End-clause-taken c = λ file size part begins.
    rw c.in-Ok-End.field-0-is at (c.in-Ok-End.ensures.taken file size (chunk_slot file c.args.chunk.now _ _ c.loop-index.index _ part (omega (arith, c.loop-index.bodies.ok, c.args.bodies.now.ok, c.loop-index.invariant.count)) c.loop-index-test.true (omega arith)) (c.loop-index.invariant.begins file size part begins))

pub returns-in-Err-clause-taken : goal.returns-in-Err-clause-taken
returns-in-Err-clause-taken c = λ file size part begins.
    c.in-Err.ensures.taken file size (chunk_slot file c.args.chunk.now _ _ c.loop-index.index _ part (omega (arith, c.loop-index.bodies.ok, c.args.bodies.now.ok, c.loop-index.invariant.count)) c.loop-index-test.true (omega arith)) (c.loop-index.invariant.begins file size part begins)

pub loop-index-preserved : goal.loop-index-preserved
loop-index-preserved c = record {
  within = omega (arith, c.in-Ok-More.ensures.within);
  count = omega (arith, c.in-Ok-More.ensures.more (ap Ok c.in-Ok-More.field-0-is), c.loop-index.invariant.count);
  begins = λ file size part begins.
      rw c.in-Ok-More.field-0-is at (c.in-Ok-More.ensures.taken file size (chunk_slot file c.args.chunk.now _ _ c.loop-index.index _ part (omega (arith, c.loop-index.bodies.ok, c.args.bodies.now.ok, c.loop-index.invariant.count)) c.loop-index-test.true (omega arith)) (c.loop-index.invariant.begins file size part begins));
}
