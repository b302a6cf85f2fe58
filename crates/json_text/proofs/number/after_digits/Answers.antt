-- Proof of the contract of `after_digits`.
use Rattle.std.proofs.Common.{arith}
use Rattle.json_text.proofs.NumberLemmas.{digits_point, digits_letter, digits_digit, digits_stop, swap}
use Rattle.json_text.proofs.number.after_digits.Goals as goal

pub returns-in-46 : goal.returns-in-46
returns-in-46 c = digits_point c.args.byte c.in-46.is

pub returns-in-101 : goal.returns-in-101
returns-in-101 c = digits_letter c.args.byte (swap c.in-101.is)

pub returns-in-48-to-57 : goal.returns-in-48-to-57
returns-in-48-to-57 c = digits_digit c.args.byte (omega arith, omega arith)

pub returns-in_default : goal.returns-in_default
returns-in_default c = digits_stop c.args.byte (λ d. omega (arith, d)) (omega arith) (omega arith) (omega arith)

pub returns-in_default-2 : goal.returns-in_default-2
returns-in_default-2 c = digits_stop c.args.byte (λ d. omega (arith, d)) (omega arith) (grind arith) (grind arith)
