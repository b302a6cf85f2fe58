-- The file is copied up to here.
use Rattle.std.proofs.Common.{◌-◌, ◌≤◌, true}
use Rattle.jrn_mirror.specs.inner.Copying.{AreCopiedTo}
use Rattle.jrn_mirror.specs.inner.Opening.{KeepsOpening}
use Rattle.jrn_mirror.proofs.copying.copy_file.Given as goal

abbrev pub invariant-loop-offset : goal.invariant-loop-offset
invariant-loop-offset g l = record {
  within : l.offset ≤ l.copying.size;
  goes : KeepsOpening (g.P.Pair.observed l.initial.pair) (g.P.Pair.observed l.pair) true true true true;
  copied : AreCopiedTo (g.P.Pair.observed l.pair) l.copying l.offset;
}

abbrev pub decreases-loop-offset : goal.decreases-loop-offset
decreases-loop-offset g l = l.copying.size - l.offset
