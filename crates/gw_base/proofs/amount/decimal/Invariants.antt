-- What the loop of `decimal` keeps.
use Rattle.std.proofs.Common.{◌≡◌, take}
use Rattle.gw_base.specs.Amount.{decimal_value}
use Rattle.gw_base.proofs.amount.decimal.Given as goal

-- the value is that of the digits read
abbrev pub invariant-loop-digit : goal.invariant-loop-digit
invariant-loop-digit l = l.value ≡ decimal_value (take l.digit-index l.digits)
