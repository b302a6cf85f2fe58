-- What the loop of `new_readers` keeps.
use Rattle.std.proofs.Common.{◌≡◌, [], replicate}
use Rattle.gw_dispatch.proofs.pts.new_readers.Given as goal

abbrev pub invariant-loop : goal.invariant-loop
invariant-loop l = (l.readers.items ≡ replicate l.counter [])
