-- Proof of the contract of `first_later`.
use Rattle.std.proofs.Common.{refl, sym, ap, ◌∙◌, Some}
use Rattle.std.specs.Prelude.{int_lt}
use Rattle.gw_links.specs.declared.link.Order.TheVariants.{Deadline}
use Rattle.gw_links.specs.Waiting.{first_id, later_than}
use Rattle.gw_links.proofs.FindLemmas.{walk_start, walk_some, walk_item, walk_next, walk_less, nothing_left, later_found, later_passed}
use Rattle.gw_links.proofs.SoundLemmas.{timed_held, timed_apart}
use Rattle.gw_links.proofs.WalkLemmas.{walk_here}
use Rattle.gw_links.proofs.lines.Lines.first_later.Goals as goal

pub loop-at-init : goal.loop-at-init
loop-at-init c =
    walk_start c.self.inside.nodes Deadline c.self.inside.deadlines _ (timed_held _ _ _ _ _ _ c.self.invariant) (timed_apart _ _ _ _ _ _ c.self.invariant) c.self.invariant.in_time _ refl

pub index-node-requires : goal.index-node-requires
index-node-requires c =
    walk_some c.self.inside.nodes Deadline c.self.inside.deadlines _ (timed_held _ _ _ _ _ _ c.self.invariant) (timed_apart _ _ _ _ _ _ c.self.invariant) c.self.invariant.in_time _ c.in-Some.id (rw c.in-Some.is at c.loop-at.invariant)

pub returns-then-is_due_before : goal.returns-then-is_due_before
returns-then-is_due_before c =
    let walk = rw c.in-Some.is at c.loop-at.invariant in
    let here = walk_here _ (timed_apart _ _ _ _ _ _ c.self.invariant) _ c.in-Some.id walk in
    let item = walk_item c.self.inside.nodes Deadline c.self.inside.deadlines _ (timed_held _ _ _ _ _ _ c.self.invariant) (timed_apart _ _ _ _ _ _ c.self.invariant) c.self.invariant.in_time _ c.in-Some.id walk c.index-node.result.now c.index-node.ensures in
    rw (← c.self.view_is)
    (sym (ap first_id (walk.fact ∙ ap (later_than c.args.item.now.deadline) here.is ∙ later_found c.args.item.now.deadline here.waiting here.later (ap (λ i. int_lt c.args.item.now.deadline i.deadline) (sym item) ∙ sym c.is_due_before.ensures ∙ c.if-is_due_before.true)) ∙ ap Some here.same))

pub loop-at-smaller : goal.loop-at-smaller
loop-at-smaller c =
    rw c.in-Some.is
    (walk_less c.self.inside.nodes Deadline c.self.inside.deadlines _ (timed_held _ _ _ _ _ _ c.self.invariant) (timed_apart _ _ _ _ _ _ c.self.invariant) c.self.invariant.in_time _ c.in-Some.id (rw c.in-Some.is at c.loop-at.invariant) c.index-node.result.now c.index-node.ensures _ c.of-at.ensures)

pub loop-at-preserved : goal.loop-at-preserved
loop-at-preserved c =
    walk_next c.self.inside.nodes Deadline c.self.inside.deadlines _ (timed_held _ _ _ _ _ _ c.self.invariant) (timed_apart _ _ _ _ _ _ c.self.invariant) c.self.invariant.in_time _ c.in-Some.id (rw c.in-Some.is at c.loop-at.invariant) c.index-node.result.now c.index-node.ensures _ _ c.of-at.ensures
    (λ waiting later same item fact. fact ∙ later_passed c.args.item.now.deadline waiting later (ap (λ i. int_lt c.args.item.now.deadline i.deadline) (sym item) ∙ sym c.is_due_before.ensures ∙ c.if-is_due_before.false))

pub returns : goal.returns
returns c =
    let walk = rw c.in_default.is at c.loop-at.invariant in
    rw (← c.self.view_is)
    (sym (ap first_id (walk.fact ∙ ap (later_than c.args.item.now.deadline) (nothing_left walk.rest walk.here))))
