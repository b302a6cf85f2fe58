-- Proof of the contract of `number_len`.
use Rattle.std.proofs.Common.{◌+◌, ℕ, List, ap, arith, refl, length}
use Rattle.std.proofs.lemmas.List.{length-drop, take_rest}
use Rattle.json_text.proofs.PlainLemmas.{one_more_plain}
use Rattle.json_text.proofs.TokenLemmas.{number_none, number_next, number_byte_plain, digits_grow, digits_stay_plain}
use Rattle.json_text.proofs.tokens.number_len.Goals as goal

pub loop-len-init : goal.loop-len-init
loop-len-init c = record { leads = number_none c.args.begun; plain = tt; within = omega arith }

pub loop-len-preserved-then-takes_digits : goal.loop-len-preserved-then-takes_digits
loop-len-preserved-then-takes_digits c =
    let b : List ℕ = c.args.bytes.now in
    let len : ℕ = c.loop-len.len in
    let n : ℕ = c.digits_len-len.result in
    let leads = number_next c.args.begun c.loop-len.last _ b len _ c.loop-len-test.true refl c.loop-len.invariant.leads c.in-Some.ensures in
    let plain = one_more_plain b len _ c.loop-len-test.true refl c.loop-len.invariant.plain (number_byte_plain _ _ _ c.in-Some.ensures) in
    record {
      within = omega (arith, c.digits_len-len.ensures.within, ap length (take_rest b (len + 1)), length-drop (len + 1) b, c.loop-len-test.true);
      leads = digits_grow c.args.begun c.in-Some.next b (len + 1) n c.if-takes_digits.ensures leads c.digits_len-len.ensures.digits;
      plain = digits_stay_plain b (len + 1) n plain c.digits_len-len.ensures.digits;
    }

pub loop-len-preserved : goal.loop-len-preserved
loop-len-preserved c = record {
  within = omega (arith, c.loop-len-test.true);
  leads = number_next c.args.begun c.loop-len.last _ c.args.bytes.now c.loop-len.len _ c.loop-len-test.true refl c.loop-len.invariant.leads c.in-Some.ensures;
  plain = one_more_plain c.args.bytes.now c.loop-len.len _ c.loop-len-test.true refl c.loop-len.invariant.plain (number_byte_plain _ _ _ c.in-Some.ensures);
}
