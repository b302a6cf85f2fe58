-- What the loop of `next_coming` keeps, and why it ends.
use Rattle.std.proofs.Common.{◌≡◌, length}
use Rattle.gw_site.specs.Outside.{Outside}
use Rattle.gw_script.specs.site.Playing.{Play, met_coming}
use Rattle.sim_site.specs.Connected.{HasConnections}
use Rattle.sim_site.specs.Peering.{coming_value}
use Rattle.sim_site.proofs.peers.next_coming.Given as goal

abbrev pub invariant-loop-event : goal.invariant-loop-event
invariant-loop-event l = (o : Outside) → HasConnections o l.connections → (p : Play) → met_coming o (coming_value l.initial.coming.items) p ≡ met_coming o (coming_value l.coming.items) p

abbrev pub decreases-loop-event : goal.decreases-loop-event
decreases-loop-event l = length l.coming.items
