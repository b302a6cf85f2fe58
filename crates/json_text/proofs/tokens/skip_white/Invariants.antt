-- What the loop of `skip_white` keeps, and why it ends.
use Rattle.std.proofs.Common.{◌≤◌, ◌-◌, length}
use Rattle.json_text.specs.inner.ReaderProgress.{Skips}
use Rattle.json_text.proofs.tokens.skip_white.Given as goal

abbrev pub invariant-loop-offset : goal.invariant-loop-offset
invariant-loop-offset l = record {
  skips : Skips l.bytes l.fn.offset l.offset;
  forward : l.fn.offset ≤ l.offset;
}

abbrev pub decreases-loop-offset : goal.decreases-loop-offset
decreases-loop-offset l = length l.bytes - l.offset
