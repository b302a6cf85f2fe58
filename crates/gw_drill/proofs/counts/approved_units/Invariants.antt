-- What the loop of `approved_units` keeps.
use Rattle.std.proofs.Common.{◌≡◌, ◌≤◌, ◌*◌, take}
use Rattle.gw_drill.specs.Counts.{approved_in, units_of}
use Rattle.gw_drill.proofs.counts.approved_units.Given as goal

abbrev pub invariant-loop-entry : goal.invariant-loop-entry
invariant-loop-entry l = record {
  units : l.units ≡ units_of (approved_in (take l.entry-index l.book));
  bound : l.units ≤ 1000000000000 * l.entry-index;
}
