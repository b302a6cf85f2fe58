-- What the loop of `display_line` keeps.
use Rattle.std.proofs.Common.{◌≡◌, map}
use Rattle.gw_base.specs.Text437.{byte_of}
use Rattle.xlate.proofs.display.display_line.Given as goal

-- the bytes of the characters so far
abbrev pub invariant-loop-c : goal.invariant-loop-c
invariant-loop-c l = l.line.items ≡ map byte_of l.yielded
