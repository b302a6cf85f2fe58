-- What the loop of `read_chunks` keeps, and why it ends.
use Rattle.std.proofs.Common.{◌≡◌, length}
use Rattle.zvt_apdu.specs.Decode.{DecodedApdu, decode_apdu}
use Rattle.bench_apdu.proofs.read_chunks.Given as goal

-- what waits is less than an APDU
abbrev pub invariant-loop-rest : goal.invariant-loop-rest
invariant-loop-rest l = decode_apdu l.reader ≡ DecodedApdu.Incomplete

abbrev pub decreases-loop-rest : goal.decreases-loop-rest
decreases-loop-rest l = length l.rest
