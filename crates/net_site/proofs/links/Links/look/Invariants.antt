-- What the loop of `Links::look` keeps.
use Rattle.std.proofs.Common.{◌≡◌}
use Rattle.net_site.proofs.links.Links.look.Given as goal

abbrev pub invariant-loop-at : goal.invariant-loop-at
invariant-loop-at g l = l.self ≡ l.fn.self
