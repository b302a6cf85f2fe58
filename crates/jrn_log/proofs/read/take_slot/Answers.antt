-- Proof of the contract of `take_slot`.
use Rattle.std.proofs.Common.{arith, rules}
use Rattle.jrn_log.proofs.ReadLemmas.{slot_ends, slot_more}
use Rattle.jrn_log.proofs.read.take_slot.Goals as goal

pub returns-then-slot-clause-taken : goal.returns-then-slot-clause-taken
returns-then-slot-clause-taken c = λ file size part begins. slot_ends file c.args.slot.now c.args.bodies.now.items part c.if-slot.true begins

pub returns-in-Ok-clause-taken : goal.returns-in-Ok-clause-taken
returns-in-Ok-clause-taken c = λ file size part begins.
    slot_more file c.args.slot.now c.args.bodies.now.items _ c.copy_from_slice.new.self _ part (omega (arith, c.requires.some, size)) c.if-slot.false (omega arith) c.copy_from_slice.ensures.after (search rules) begins
