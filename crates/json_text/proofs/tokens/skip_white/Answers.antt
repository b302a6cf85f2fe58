-- Proof of the contract of `skip_white`.
use Rattle.std.proofs.Common.{refl, sym, arith}
use Rattle.json_text.proofs.TokenLemmas.{skips_one}
use Rattle.json_text.proofs.tokens.skip_white.Goals as goal

pub loop-offset-preserved : goal.loop-offset-preserved
loop-offset-preserved c = record {
  skips = skips_one c.args.bytes.now c.args.offset.now c.loop-offset.offset _ c.loop-offset-test.true refl (sym c.if-is_white.ensures) c.loop-offset.invariant.skips;
  forward = omega (arith, c.loop-offset.invariant.forward);
}
