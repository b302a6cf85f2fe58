-- Before this place no known byte of the copy is the original's.
use Rattle.std.proofs.Common.{ℕ, ◌<◌, ◌≤◌, get_or}
use Rattle.std.specs.Prelude.{◌≢◌}
use Rattle.jrn_mirror.proofs.copying.end_of_run.Given as goal

abbrev pub invariant-loop-index : goal.invariant-loop-index
invariant-loop-index l = (index : ℕ) → l.start ≤ index → index < l.index → index < l.known → get_or l.copy index 0 ≢ get_or l.original index 0
