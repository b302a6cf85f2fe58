-- Proof of the contract of `ascii_len`.
use Rattle.std.proofs.Common.{rules, arith}
use Rattle.sale_reply.specs.inner.ShownByte.{shown_byte}
use Rattle.sale_reply.proofs.PlainLemmas.{one_more_plain, lanes_after, all_lanes_after}
use Rattle.sale_reply.proofs.plain.ascii_len.Goals as goal

pub returns-then-plain-lt-LANES-clause-plain : goal.returns-then-plain-lt-LANES-clause-plain
returns-then-plain-lt-LANES-clause-plain c =
    lanes_after shown_byte c.args.bytes.now c.loop-len.len c.ascii_lanes-plain.result c.if-plain-lt-LANES.true c.loop-len.invariant.plain c.ascii_lanes-plain.ensures

pub loop-len-preserved : goal.loop-len-preserved
loop-len-preserved c = record {
  within = omega (arith, c.loop-len-test.true, c.loop-len.invariant.within);
  plain = all_lanes_after shown_byte c.args.bytes.now c.loop-len.len c.ascii_lanes-plain.result (omega (arith, c.loop-len-test.true, c.loop-len.invariant.within)) (omega (arith, c.if-plain-lt-LANES.false)) c.loop-len.invariant.plain c.ascii_lanes-plain.ensures;
}

pub loop-len-2-preserved : goal.loop-len-2-preserved
loop-len-2-preserved c = record {
  within = omega (arith, c.loop-len-2-test.true);
  plain = one_more_plain shown_byte c.args.bytes.now c.loop-len-2.len c.loop-len-2-test.true (search rules) c.loop-len-2.invariant.plain;
}
