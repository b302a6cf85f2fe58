-- Proof of the contract of `decimal`.
use Rattle.std.proofs.Common.{◌≡◌, take, arith, ap, ◌∙◌}
use Rattle.std.proofs.lemmas.List.{take_all}
use Rattle.std.proofs.lemmas.List.Elements.{All-get_or}
use Rattle.std.specs.Char.{IsAsciiDigit}
use Rattle.gw_base.specs.Amount.{decimal_value}
use Rattle.gw_base.proofs.AmountLemmas.{decimal_take-more, decimal_value-small, decimal_value-ten}
use Rattle.gw_base.proofs.amount.decimal.Goals as goal

pub overflow_mul-value : goal.overflow_mul-value
overflow_mul-value c =
    let small = decimal_value-small c.args.digits.now c.loop-digit.digit-index c.requires.digits (omega arith) c.requires.few in
    omega (arith, small, c.loop-digit.invariant)

pub overflow_add-value : goal.overflow_add-value
overflow_add-value c =
    let small = decimal_value-small c.args.digits.now c.loop-digit.digit-index c.requires.digits (omega arith) c.requires.few in
    let digit = All-get_or IsAsciiDigit c.args.digits.now c.loop-digit.digit-index 0 (omega arith) c.requires.digits in
    omega (arith, small, c.loop-digit.invariant, digit)

pub loop-digit-preserved : goal.loop-digit-preserved
loop-digit-preserved c =
    let more = decimal_take-more c.args.digits.now c.loop-digit.digit-index (omega arith) in
    omega (arith, more, c.loop-digit.invariant)

pub returns-clause-bound : goal.returns-clause-bound
returns-clause-bound c =
    let ten = decimal_value-ten c.args.digits.now c.requires.digits c.requires.few in
    let e : take c.loop-digit.digit-index c.args.digits.now ≡ c.args.digits.now = take_all c.loop-digit.digit-index c.args.digits.now (omega arith) in
    omega (arith, ten, c.loop-digit.invariant ∙ ap decimal_value e)
