-- What the loop of `push_whole` keeps, and why it ends.
use Rattle.std.proofs.Common.{length}
use Rattle.terminal_tests.proofs.apdus.push_whole.Given as goal

-- an APDU that is given leaves fewer bytes
abbrev pub decreases-loop-apdu : goal.decreases-loop-apdu
decreases-loop-apdu l = length l.reader
