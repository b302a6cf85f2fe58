-- What the loop of `read_chunk` keeps, and why it ends.
use Rattle.std.proofs.Common.{length}
use Rattle.bench_apdu.proofs.read_chunk.Given as goal

-- an APDU that is given leaves fewer bytes
abbrev pub decreases-loop-apdu : goal.decreases-loop-apdu
decreases-loop-apdu l = length l.reader
