-- Proof of the contract of `take_overdue`.
use Rattle.std.proofs.Common.{◌≡◌, ℤ, eqb, not, pos, sym, subst, ◌∙◌}
use Rattle.std.specs.Prelude.{Some, None}
use Rattle.std.proofs.lemmas.Int.{to_z-of_z}
use Rattle.gw_links.specs.Waiting.{Waiting, by_deadline, due_at, first_id}
use Rattle.gw_core.specs.Queues.{first_overdue, waits_in}
use Rattle.gw_core.proofs.QueueLemmas.{due-there, first-due-is, left-apart, none-taken, nothing-taken, taken-first}
use Rattle.gw_core.proofs.queues.Queues.take_overdue.Goals as goal

pub invariant_of-self : goal.invariant_of-self
invariant_of-self c = rw c.take.ensures.removed (left-apart (λ (w : Waiting). not (eqb w.id c.in-Some.id)) c.self.inside.lines c.self.invariant)

pub returns-in-None : goal.returns-in-None
returns-in-None c = λ moment now_is.
    let first : None ≡ first_id (due_at (pos moment) (by_deadline c.self.inside.lines)) =
    subst (λ (m : ℤ). None ≡ first_id (due_at m (by_deadline c.self.inside.lines))) now_is (simp (to_z-of_z, c.ranges.now) at c.in-None.ensures.first) in
    rw (← c.self.view_is)
    (nothing-taken (first_overdue moment (waits_in c.self.inside.lines)) (waits_in c.self.inside.lines)
    (sym (first-due-is moment c.self.inside.lines) ∙ none-taken (due_at (pos moment) (by_deadline c.self.inside.lines)) first))

pub returns-in-Some : goal.returns-in-Some
returns-in-Some c = λ moment now_is.
    let first : Some c.in-Some.id ≡ first_id (due_at (pos moment) (by_deadline c.self.inside.lines)) =
    subst (λ (m : ℤ). Some c.in-Some.id ≡ first_id (due_at m (by_deadline c.self.inside.lines))) now_is (simp (to_z-of_z, c.ranges.now) at c.in-Some.ensures.first) in
    rw (← c.self.view_is, c.take.ensures.removed)
    (taken-first (due_at (pos moment) (by_deadline c.self.inside.lines)) c.self.inside.lines c.self.invariant (due-there moment c.self.inside.lines) (first_overdue moment (waits_in c.self.inside.lines))
    (first-due-is moment c.self.inside.lines) c.in-Some.id c.take.result first c.take.ensures.item)
