-- What the loop of `clear_seat` keeps, and why it ends.
use Rattle.std.proofs.Common.{◌≡◌, ◌≤◌, ◌+◌, ◌*◌, length, not, eqb}
use Rattle.std.specs.Prelude.{filter}
use Rattle.gw_links.specs.Waiting.{Waiting, of_seat}
use Rattle.gw_core.specs.Queues.{AreLinesApart}
use Rattle.gw_core.proofs.gone.clear_seat.Given as goal

abbrev pub invariant-loop-id : goal.invariant-loop-id
invariant-loop-id g l = record {
  apart : AreLinesApart l.lines;
  others : filter (λ (w : Waiting). not (eqb w.item.seat l.fn.seat)) l.lines ≡ filter (λ (w : Waiting). not (eqb w.item.seat l.fn.seat)) l.fn.lines;
  few : l.steps + 8 * length (of_seat l.fn.seat l.lines) ≤ l.fn.steps + 8 * length (of_seat l.fn.seat l.fn.lines);
}

abbrev pub decreases-loop-id : goal.decreases-loop-id
decreases-loop-id g l = length (of_seat l.fn.seat l.lines)
