-- What holds at each turn of the loop of `fill_digits`.
use Rattle.std.proofs.Common.{◌≡◌, ◌++◌, length, drop}
use Rattle.gw_base.specs.Digits.{digits}
use Rattle.gw_base.proofs.transaction.fill_digits.Given as goal

-- the digits still to be written, and those that are, spell the value
abbrev pub invariant-loop-index : goal.invariant-loop-index
invariant-loop-index l = digits l.index l.rest ++ drop l.index l.cells ≡ digits (length l.initial.cells) l.value
