-- What the loop of `bcd_read` keeps.
use Rattle.std.proofs.Common.{◌≡◌, take}
use Rattle.gw_base.specs.Bcd.{IsBcd, bcd_value}
use Rattle.gw_base.proofs.bcd.bcd_read.Given as goal

-- the digits before this offset spell the value
abbrev pub invariant-loop-offset : goal.invariant-loop-offset
invariant-loop-offset l = IsBcd (take l.offset l.bytes) × (l.value ≡ bcd_value (take l.offset l.bytes))
