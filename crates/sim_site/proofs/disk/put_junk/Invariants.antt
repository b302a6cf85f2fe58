-- What the loop of `put_junk` keeps.
use Rattle.std.proofs.Common.{◌≡◌, ℕ, ◌<◌, length, get_or, take}
use Rattle.std.specs.List.{list_any}
use Rattle.std.specs.Prelude.{if◌then◌else◌}
use Rattle.gw_site.specs.Image.{covers}
use Rattle.sim_site.specs.Ranges.{range_value}
use Rattle.sim_site.proofs.disk.put_junk.Given as goal

abbrev pub invariant-loop-range : goal.invariant-loop-range
invariant-loop-range l = (k : ℕ) → k < length l.initial.file → get_or l.file k 0 ≡ (if list_any (λ w. covers k (range_value w)) (take l.range-index l.written) then l.junk else get_or l.initial.file k 0)
