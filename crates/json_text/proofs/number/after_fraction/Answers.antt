-- Proof of the contract of `after_fraction`.
use Rattle.std.proofs.Common.{arith}
use Rattle.json_text.proofs.NumberLemmas.{fraction_letter, fraction_digit, fraction_stops, swap}
use Rattle.json_text.proofs.number.after_fraction.Goals as goal

pub returns-in-101 : goal.returns-in-101
returns-in-101 c = fraction_letter c.args.byte (swap c.in-101.is)

pub returns-in-48-to-57 : goal.returns-in-48-to-57
returns-in-48-to-57 c = fraction_digit c.args.byte (omega arith, omega arith)

pub returns-in_default : goal.returns-in_default
returns-in_default c = fraction_stops c.args.byte (λ d. omega (arith, d)) (omega arith) (omega arith)

pub returns-in_default-2 : goal.returns-in_default-2
returns-in_default-2 c = fraction_stops c.args.byte (λ d. omega (arith, d)) (grind arith) (grind arith)
