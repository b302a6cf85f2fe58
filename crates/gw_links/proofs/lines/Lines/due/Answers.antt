-- Proof of the contract of `due`.
use Rattle.std.proofs.Common.{sym, ap, ◌∙◌, to_z, of_z, w64}
use Rattle.std.specs.Prelude.{int_lt}
use Rattle.std.proofs.lemmas.Int.{to_z-of_z}
use Rattle.gw_links.specs.Waiting.{by_deadline}
use Rattle.gw_links.specs.inner.Table.{accepted_in}
use Rattle.gw_links.specs.declared.link.Order.TheVariants.{Deadline}
use Rattle.gw_links.proofs.FindLemmas.{first_is, first_listed, none_timed, first_later, first_due, timed_sorted}
use Rattle.gw_links.proofs.SoundLemmas.{is_some_from, timed_item, timed_held, timed_apart, listed_some, item_of-is_some, item_is}
use Rattle.gw_links.proofs.lines.Lines.due.Goals as goal

pub returns-in_err-id-clause-first : goal.returns-in_err-id-clause-first
returns-in_err-id-clause-first c =
    rw (← c.self.view_is)
    (c.from_residual.ensures
    ∙ sym (none_timed c.args.now _ (sym c.in_err-id.was ∙ first_is c.self.inside.nodes Deadline c.self.inside.deadlines _ (timed_held _ _ _ _ _ _ c.self.invariant) (timed_apart _ _ _ _ _ _ c.self.invariant) c.self.invariant.in_time)))

pub index-first-requires : goal.index-first-requires
index-first-requires c =
    let here = sym c.in_ok-id.was ∙ first_is c.self.inside.nodes Deadline c.self.inside.deadlines _ (timed_held _ _ _ _ _ _ c.self.invariant) (timed_apart _ _ _ _ _ _ c.self.invariant) c.self.invariant.in_time in
    listed_some c.self.inside.nodes _ (timed_held _ _ _ _ _ _ c.self.invariant) c.in_ok-id.id (first_listed _ c.in_ok-id.id here)

pub returns-then-is_later-clause-first : goal.returns-then-is_later-clause-first
returns-then-is_later-clause-first c =
    let here = sym c.in_ok-id.was ∙ first_is c.self.inside.nodes Deadline c.self.inside.deadlines _ (timed_held _ _ _ _ _ _ c.self.invariant) (timed_apart _ _ _ _ _ _ c.self.invariant) c.self.invariant.in_time in
    let there = item_of-is_some (by_deadline (accepted_in c.self.inside.nodes c.self.inside.accepted)) c.in_ok-id.id (first_listed _ c.in_ok-id.id here) in
    let item = item_is c.self.inside.nodes _ (timed_held _ _ _ _ _ _ c.self.invariant) c.in_ok-id.id there.0 _ there.1 c.index-first.ensures in
    rw (← c.self.view_is, ← to_z-of_z _ c.args.now c.ranges.now)
    (sym (first_later (to_z w64 (of_z w64 c.args.now)) (by_deadline (accepted_in c.self.inside.nodes c.self.inside.accepted)) c.in_ok-id.id there.0 (timed_sorted (accepted_in c.self.inside.nodes c.self.inside.accepted)) here there.1 (ap (λ i. int_lt (to_z w64 (of_z w64 c.args.now)) i.deadline) (sym item) ∙ sym c.is_later.ensures ∙ c.if-is_later.true)))

pub returns-clause-first : goal.returns-clause-first
returns-clause-first c =
    let here = sym c.in_ok-id.was ∙ first_is c.self.inside.nodes Deadline c.self.inside.deadlines _ (timed_held _ _ _ _ _ _ c.self.invariant) (timed_apart _ _ _ _ _ _ c.self.invariant) c.self.invariant.in_time in
    let there = item_of-is_some (by_deadline (accepted_in c.self.inside.nodes c.self.inside.accepted)) c.in_ok-id.id (first_listed _ c.in_ok-id.id here) in
    let item = item_is c.self.inside.nodes _ (timed_held _ _ _ _ _ _ c.self.invariant) c.in_ok-id.id there.0 _ there.1 c.index-first.ensures in
    rw (c.of.ensures, ← c.self.view_is, ← to_z-of_z _ c.args.now c.ranges.now)
    (sym (first_due (to_z w64 (of_z w64 c.args.now)) (by_deadline (accepted_in c.self.inside.nodes c.self.inside.accepted)) c.in_ok-id.id there.0 here there.1 (ap (λ i. int_lt (to_z w64 (of_z w64 c.args.now)) i.deadline) (sym item) ∙ sym c.is_later.ensures ∙ c.if-is_later.false)))

pub returns-clause-live : goal.returns-clause-live
returns-clause-live c =
    let here = sym c.in_ok-id.was ∙ first_is c.self.inside.nodes Deadline c.self.inside.deadlines _ (timed_held _ _ _ _ _ _ c.self.invariant) (timed_apart _ _ _ _ _ _ c.self.invariant) c.self.invariant.in_time in
    let there = item_of-is_some (by_deadline (accepted_in c.self.inside.nodes c.self.inside.accepted)) c.in_ok-id.id (first_listed _ c.in_ok-id.id here) in
    rw (c.of.ensures, ← c.self.view_is) (is_some_from _ there.0 (timed_item _ _ _ _ _ _ c.self.invariant c.in_ok-id.id there.0 there.1))
