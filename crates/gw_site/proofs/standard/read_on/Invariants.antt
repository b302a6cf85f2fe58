-- What the loop of `read_on` keeps.
use Rattle.std.proofs.Common.{◌≡◌, length}
use Rattle.gw_site.proofs.standard.read_on.Given as goal

abbrev pub invariant-loop : goal.invariant-loop
invariant-loop g l = length l.buf ≡ 4096
