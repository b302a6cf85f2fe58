-- What the loop of `take_out` keeps.
use Rattle.std.proofs.Common.{◌≡◌}
use Rattle.net_site.proofs.tills.take_out.Given as goal

abbrev pub invariant-loop-index : goal.invariant-loop-index
invariant-loop-index l = l.connections ≡ l.fn.connections
