-- What the loop of `bcd_write` keeps.
use Rattle.std.proofs.Common.{◌≡◌, ◌++◌, length, drop}
use Rattle.gw_base.specs.Bcd.{bcd_of}
use Rattle.gw_base.proofs.bcd.bcd_write.Given as goal

-- the digits still to be written, and those that are, spell the value
abbrev pub invariant-loop-offset : goal.invariant-loop-offset
invariant-loop-offset l = bcd_of l.offset l.rest ++ drop l.offset l.out ≡ bcd_of (length l.initial.out) l.value
