-- What the loop of `seat_of` keeps.
use Rattle.std.proofs.Common.{◌≡◌, ℕ, ◌<◌, false}
use Rattle.gw_links.specs.Waiting.{of_seat}
use Rattle.gw_core.specs.Queues.{is_first_of}
use Rattle.gw_core.proofs.queues.seat_of.Given as goal

abbrev pub invariant-loop-seat : goal.invariant-loop-seat
invariant-loop-seat l = (other : ℕ) → other < l.seat → is_first_of l.till (of_seat other l.lines) ≡ false
