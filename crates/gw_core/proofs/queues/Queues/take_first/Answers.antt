-- Proof of the contract of `take_first`.
use Rattle.std.proofs.Common.{eqb, not, sym, ◌∙◌}
use Rattle.gw_links.specs.Waiting.{Waiting, at_terminal}
use Rattle.gw_owes.specs.Waits.{first_waiting, queue_of}
use Rattle.gw_core.specs.Queues.{waits_in}
use Rattle.gw_core.proofs.QueueLemmas.{at-terminal-there, first-at, left-apart, none-taken, nothing-taken, taken-first}
use Rattle.gw_core.proofs.queues.Queues.take_first.Goals as goal

pub invariant_of-self : goal.invariant_of-self
invariant_of-self c = rw c.take.ensures.removed (left-apart (λ (w : Waiting). not (eqb w.id c.in-Some.id)) c.self.inside.lines c.self.invariant)

pub returns-in-None : goal.returns-in-None
returns-in-None c =
    rw (← c.self.view_is)
    (nothing-taken (first_waiting (queue_of c.args.pt (waits_in c.self.inside.lines))) (waits_in c.self.inside.lines)
    (sym (first-at c.args.pt c.self.inside.lines) ∙ none-taken (at_terminal c.args.pt c.self.inside.lines) c.in-None.ensures.first))

pub returns-in-Some : goal.returns-in-Some
returns-in-Some c =
    rw (← c.self.view_is, c.take.ensures.removed)
    (taken-first (at_terminal c.args.pt c.self.inside.lines) c.self.inside.lines c.self.invariant (at-terminal-there c.args.pt c.self.inside.lines) (first_waiting (queue_of c.args.pt (waits_in c.self.inside.lines)))
    (first-at c.args.pt c.self.inside.lines) c.in-Some.id c.take.result c.in-Some.ensures.first c.take.ensures.item)
