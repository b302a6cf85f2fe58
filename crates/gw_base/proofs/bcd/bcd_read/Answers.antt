-- Proof of the contract of `bcd_read`.
use Rattle.std.proofs.Common.{arith, rules}
use Rattle.gw_base.proofs.BcdLemmas.{bcd_value-small, bcd_take-more}
use Rattle.gw_base.proofs.bcd.bcd_read.Goals as goal

pub overflow_mul-value : goal.overflow_mul-value
overflow_mul-value c =
    let small = bcd_value-small c.args.bytes.now c.loop-offset.offset c.loop-offset.invariant.0 (omega arith) in
    omega (arith, small, c.loop-offset.invariant.1)

pub overflow_add-value : goal.overflow_add-value
overflow_add-value c =
    let small = bcd_value-small c.args.bytes.now c.loop-offset.offset c.loop-offset.invariant.0 (omega arith) in
    omega (arith, small, c.loop-offset.invariant.1)

pub loop-offset-preserved : goal.loop-offset-preserved
loop-offset-preserved c =
    let more = bcd_take-more c.args.bytes.now c.loop-offset.offset (omega arith) c.loop-offset.invariant.0 (search rules) in
    (more.0, omega (arith, more.1, c.loop-offset.invariant.1))
