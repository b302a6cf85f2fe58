-- What the loop of `open_gates` keeps.
use Rattle.std.proofs.Common.{ℕ, ◌<◌}
use Rattle.jrn_log.specs.Slots.{HasGate}
use Rattle.net_site.proofs.file.open_gates.Given as goal

abbrev pub invariant-loop-slot : goal.invariant-loop-slot
invariant-loop-slot l = (lower : ℕ) → lower < l.slot → HasGate l.buf lower
