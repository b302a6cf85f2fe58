-- Proof of the contract of `after_minus`.
use Rattle.std.proofs.Common.{arith}
use Rattle.json_text.proofs.NumberLemmas.{minus_zero, minus_digit}
use Rattle.json_text.proofs.number.after_minus.Goals as goal

pub returns-in-48 : goal.returns-in-48
returns-in-48 c = minus_zero c.args.byte c.in-48.is

pub returns-in-49-to-57 : goal.returns-in-49-to-57
returns-in-49-to-57 c = minus_digit c.args.byte (omega arith) (omega arith)
