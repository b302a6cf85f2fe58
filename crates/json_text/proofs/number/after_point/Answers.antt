-- Proof of the contract of `after_point`.
use Rattle.std.proofs.Common.{arith}
use Rattle.json_text.proofs.NumberLemmas.{point_digit}
use Rattle.json_text.proofs.number.after_point.Goals as goal

pub returns-in-48-to-57 : goal.returns-in-48-to-57
returns-in-48-to-57 c = point_digit c.args.byte (omega arith, omega arith)
