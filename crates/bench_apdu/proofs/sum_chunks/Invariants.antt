-- What the loop of `sum_chunks` keeps, and why it ends.
use Rattle.std.proofs.Common.{length}
use Rattle.bench_apdu.proofs.sum_chunks.Given as goal

abbrev pub decreases-loop-rest : goal.decreases-loop-rest
decreases-loop-rest l = length l.rest
