-- Before this place the copy is known and has the original's bytes.
use Rattle.std.proofs.Common.{◌≡◌, ◌<◌, ◌≤◌, ℕ, get_or}
use Rattle.jrn_mirror.proofs.copying.next_difference.Given as goal

abbrev pub invariant-loop-index : goal.invariant-loop-index
invariant-loop-index l = (index : ℕ) → l.start ≤ index → index < l.index → (index < l.known) × (get_or l.copy index 0 ≡ get_or l.original index 0)
