-- What the loop of `NetSite::flush_tills` keeps.
use Rattle.std.proofs.Common.{◌≡◌}
use Rattle.net_site.proofs.site.NetSite.flush_tills.Given as goal

abbrev pub invariant-loop-index : goal.invariant-loop-index
invariant-loop-index g l = l.self ≡ l.fn.self
