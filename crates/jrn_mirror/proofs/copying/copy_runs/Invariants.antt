-- Before this place all runs of the part are written, and here one begins, or the part ends.
use Rattle.std.proofs.Common.{◌-◌, ◌<◌, ◌≤◌, length, get_or, true}
use Rattle.std.specs.Prelude.{◌≢◌}
use Rattle.jrn_mirror.specs.inner.Copying.{ArePartCopiedTo}
use Rattle.jrn_mirror.specs.inner.Opening.{KeepsOpening}
use Rattle.jrn_mirror.proofs.copying.copy_runs.Given as goal

abbrev pub invariant-loop-begin : goal.invariant-loop-begin
invariant-loop-begin g l = record {
  within : l.begin ≤ length l.original;
  goes : KeepsOpening (g.P.Pair.observed l.initial.pair) (g.P.Pair.observed l.pair) true true true true;
  part : ArePartCopiedTo (g.P.Pair.observed l.pair) l.fn.copying l.offset l.original l.copy l.begin;
  differs : l.begin < length l.original → l.begin < l.known → get_or l.copy l.begin 0 ≢ get_or l.original l.begin 0;
}

abbrev pub decreases-loop-begin : goal.decreases-loop-begin
decreases-loop-begin g l = length l.original - l.begin
