-- Proof of the contract of `digits_len`.
use Rattle.std.proofs.Common.{arith}
use Rattle.json_text.proofs.DigitLemmas.{all_digits_after, digits_after}
use Rattle.json_text.proofs.digits.digits_len.Goals as goal

pub returns-then-digits-lt-LANES-clause-digits : goal.returns-then-digits-lt-LANES-clause-digits
returns-then-digits-lt-LANES-clause-digits c =
    digits_after c.args.bytes.now c.loop-len.len c.digit_lanes-digits.result (omega (arith, c.loop-len-test.true, c.loop-len.invariant.within)) c.if-digits-lt-LANES.true c.loop-len.invariant.digits c.digit_lanes-digits.ensures

pub loop-len-preserved : goal.loop-len-preserved
loop-len-preserved c = record {
  within = omega (arith, c.loop-len-test.true, c.loop-len.invariant.within);
  digits = all_digits_after c.args.bytes.now c.loop-len.len c.digit_lanes-digits.result (omega (arith, c.loop-len-test.true, c.loop-len.invariant.within)) (omega (arith, c.if-digits-lt-LANES.false)) c.loop-len.invariant.digits c.digit_lanes-digits.ensures;
}
