-- What the loop of `approved_count` keeps.
use Rattle.std.proofs.Common.{◌≡◌, ◌≤◌, length, take}
use Rattle.gw_drill.specs.Counts.{approved_in}
use Rattle.gw_drill.proofs.counts.approved_count.Given as goal

abbrev pub invariant-loop-entry : goal.invariant-loop-entry
invariant-loop-entry l = record {
  count : l.count ≡ length (approved_in (take l.entry-index l.book));
  bound : l.count ≤ l.entry-index;
}
