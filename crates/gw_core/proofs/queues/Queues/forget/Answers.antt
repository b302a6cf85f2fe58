-- Proof of the contract of `forget`.
use Rattle.std.proofs.Common.{◌≡◌, eqb, not, refl, arith, length}
use Rattle.gw_links.specs.Waiting.{Waiting, of_seat}
use Rattle.gw_core.specs.Queues.{waits_in, waits_of}
use Rattle.gw_core.proofs.QueueLemmas.{left-apart, none-forgotten, seat-forgotten, seat-length}
use Rattle.gw_core.proofs.queues.Queues.forget.Goals as goal

pub invariant_of-self : goal.invariant_of-self
invariant_of-self g c = rw c.clear_seat.ensures.cleared (left-apart (λ (w : Waiting). not (eqb w.item.seat c.in-Some.seat)) c.self.inside.lines c.self.invariant)

pub returns-in-Some-clause-forgotten : goal.returns-in-Some-clause-forgotten
returns-in-Some-clause-forgotten g c = rw (← c.self.view_is, c.clear_seat.ensures.cleared) (seat-forgotten c.self.inside.lines c.self.invariant c.args.till c.in-Some.seat c.in-Some.ensures.found.0 c.in-Some.ensures.found.1)

pub returns-in-Some-clause-few : goal.returns-in-Some-clause-few
returns-in-Some-clause-few g c =
    let same : length (of_seat c.in-Some.seat c.self.inside.lines) ≡ length (waits_of c.args.till (waits_in c.self.inside.lines)) = seat-length c.self.inside.lines c.self.invariant c.args.till c.in-Some.seat c.in-Some.ensures.found.0 c.in-Some.ensures.found.1 in
    rw (← c.self.view_is) (omega (arith, same, c.clear_seat.ensures.few))

pub returns-in_default-clause-forgotten : goal.returns-in_default-clause-forgotten
returns-in_default-clause-forgotten g c = rw (← c.self.view_is) (none-forgotten c.self.inside.lines c.self.invariant c.args.till (λ seat within. c.in_default.ensures.none seat refl within))
