-- Proof of the contract of `NumberState::first`.
use Rattle.std.proofs.Common.{arith}
use Rattle.json_text.proofs.NumberLemmas.{start_zero, start_digit}
use Rattle.json_text.proofs.number.NumberState.first.Goals as goal

pub returns-in-48 : goal.returns-in-48
returns-in-48 c = start_zero c.args.byte c.in-48.is

pub returns-in-49-to-57 : goal.returns-in-49-to-57
returns-in-49-to-57 c = start_digit c.args.byte (omega arith) (omega arith)
