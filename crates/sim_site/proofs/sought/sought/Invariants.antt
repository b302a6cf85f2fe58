-- What the loop of `sought` keeps, and why it ends.
use Rattle.std.proofs.Common.{◌≡◌, ◌-◌, length, drop}
use Rattle.gw_site.specs.Outside.{Outside}
use Rattle.gw_script.specs.site.Playing.{met}
use Rattle.sim_script.specs.Values.{lines_value}
use Rattle.sim_site.specs.Connected.{HasConnections}
use Rattle.sim_site.specs.Places.{left}
use Rattle.sim_site.specs.Sought.{bare}
use Rattle.sim_site.proofs.sought.sought.Given as goal

abbrev pub invariant-loop-place : goal.invariant-loop-place
invariant-loop-place l = (o : Outside) → HasConnections o l.connections → met o (bare l.initial.place) (left l.initial.place.early (lines_value (drop l.initial.place.at l.lines))) ≡ met o (bare l.place) (left l.place.early (lines_value (drop l.place.at l.lines)))

abbrev pub decreases-loop-place : goal.decreases-loop-place
decreases-loop-place l = length l.lines - l.place.at
