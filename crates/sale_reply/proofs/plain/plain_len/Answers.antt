-- Proof of the contract of `plain_len`.
use Rattle.std.proofs.Common.{arith}
use Rattle.std.proofs.lemmas.List.{take_rest}
use Rattle.json_text.specs.Canonical.{canonical_byte}
use Rattle.sale_reply.proofs.PlainLemmas.{lanes_after, all_lanes_after, rest_after}
use Rattle.sale_reply.proofs.plain.plain_len.Goals as goal

pub returns-then-plain-lt-LANES-clause-plain : goal.returns-then-plain-lt-LANES-clause-plain
returns-then-plain-lt-LANES-clause-plain c =
    lanes_after canonical_byte c.args.bytes.now c.loop-len.len c.plain_lanes-plain.result c.if-plain-lt-LANES.true c.loop-len.invariant.plain c.plain_lanes-plain.ensures

pub loop-len-preserved : goal.loop-len-preserved
loop-len-preserved c = record {
  within = omega (arith, c.loop-len-test.true, c.loop-len.invariant.within);
  plain = all_lanes_after canonical_byte c.args.bytes.now c.loop-len.len c.plain_lanes-plain.result (omega (arith, c.loop-len-test.true, c.loop-len.invariant.within)) (omega (arith, c.if-plain-lt-LANES.false)) c.loop-len.invariant.plain c.plain_lanes-plain.ensures;
}

pub returns-clause-plain : goal.returns-clause-plain
returns-clause-plain c =
    let bytes = c.args.bytes.now in
    rest_after canonical_byte bytes c.loop-len.len c.plain_rest_len.result c.loop-len.invariant.plain (rw (take_rest bytes c.loop-len.len) at c.plain_rest_len.ensures.plain)
