-- What the loop of `catch_up` keeps.
use Rattle.std.proofs.Common.{◌≡◌, ℕ, ◌<◌, length, get_or, take}
use Rattle.std.specs.List.{list_any}
use Rattle.std.specs.Prelude.{if◌then◌else◌}
use Rattle.gw_site.specs.Image.{covers}
use Rattle.sim_site.specs.Ranges.{range_value}
use Rattle.sim_site.proofs.disk.catch_up.Given as goal

abbrev pub invariant-loop-range : goal.invariant-loop-range
invariant-loop-range l = (k : ℕ) → k < length l.initial.stable → get_or l.stable k 0 ≡ (if list_any (λ w. covers k (range_value w)) (take l.range-index l.written) then get_or l.file k 0 else get_or l.initial.stable k 0)
