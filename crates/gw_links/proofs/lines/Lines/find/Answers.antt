-- Proof of the contract of `find`.
use Rattle.std.proofs.Common.{◌≢◌, Some, sym, ap, ◌∙◌, subst, ◌++◌, append-nil, refl}
use Rattle.std.specs.Ordering.{is_eq}
use Rattle.gw_base.specs.Key.{key_cmp}
use Rattle.gw_links.specs.Waiting.{first_id, with_key}
use Rattle.gw_links.specs.declared.link.Order.TheVariants.{Deadline}
use Rattle.std.proofs.lemmas.Bool.{false≢true}
use Rattle.gw_links.specs.inner.Chain.{Every}
use Rattle.gw_links.proofs.FindLemmas.{walk_start, walk_some, walk_item, walk_next, walk_less, nothing_left, if_each, key_found, key_passed}
use Rattle.gw_links.proofs.OrderLemmas.{Every-push, item_of-every}
use Rattle.gw_links.proofs.SoundLemmas.{timed_held, timed_apart, timed_item, timed_from, is_some_from}
use Rattle.gw_links.proofs.WalkLemmas.{walk_here}
use Rattle.gw_links.proofs.lines.Lines.find.Goals as goal

pub loop-at-init : goal.loop-at-init
loop-at-init c =
    walk_start c.self.inside.nodes Deadline c.self.inside.deadlines _ (timed_held _ _ _ _ _ _ c.self.invariant) (timed_apart _ _ _ _ _ _ c.self.invariant) c.self.invariant.in_time _ (tt, refl)

pub index-node-requires : goal.index-node-requires
index-node-requires c =
    walk_some c.self.inside.nodes Deadline c.self.inside.deadlines _ (timed_held _ _ _ _ _ _ c.self.invariant) (timed_apart _ _ _ _ _ _ c.self.invariant) c.self.invariant.in_time _ c.in-Some.id (rw c.in-Some.is at c.loop-at.invariant)

pub returns-then-has_key-clause-first : goal.returns-then-has_key-clause-first
returns-then-has_key-clause-first c =
    let walk = rw c.in-Some.is at c.loop-at.invariant in
    let here = walk_here _ (timed_apart _ _ _ _ _ _ c.self.invariant) _ c.in-Some.id walk in
    let item = walk_item c.self.inside.nodes Deadline c.self.inside.deadlines _ (timed_held _ _ _ _ _ _ c.self.invariant) (timed_apart _ _ _ _ _ _ c.self.invariant) c.self.invariant.in_time _ c.in-Some.id walk c.index-node.result.now c.index-node.ensures in
    rw (c.of.ensures, ← c.self.view_is)
    (sym (ap first_id (walk.fact.1 ∙ ap (with_key c.args.key.now) here.is ∙ key_found c.args.key.now here.waiting here.later (ap (λ i. is_eq (key_cmp i.key c.args.key.now)) (sym item) ∙ sym c.has_key.ensures.test ∙ c.if-has_key.true)) ∙ ap Some here.same))

pub returns-then-has_key-clause-found : goal.returns-then-has_key-clause-found
returns-then-has_key-clause-found c =
    let walk = rw c.in-Some.is at c.loop-at.invariant in
    let here = walk_here _ (timed_apart _ _ _ _ _ _ c.self.invariant) _ c.in-Some.id walk in
    let item = walk_item c.self.inside.nodes Deadline c.self.inside.deadlines _ (timed_held _ _ _ _ _ _ c.self.invariant) (timed_apart _ _ _ _ _ _ c.self.invariant) c.self.invariant.in_time _ c.in-Some.id walk c.index-node.result.now c.index-node.ensures in
    rw (c.of.ensures, ← c.self.view_is, timed_item _ _ _ _ _ _ c.self.invariant c.in-Some.id here.waiting.item here.item)
    (ap (λ i. i.key) (sym item) ∙ c.has_key.ensures.same.0 c.if-has_key.true)

pub returns-then-has_key-clause-live : goal.returns-then-has_key-clause-live
returns-then-has_key-clause-live c =
    let walk = rw c.in-Some.is at c.loop-at.invariant in
    let here = walk_here _ (timed_apart _ _ _ _ _ _ c.self.invariant) _ c.in-Some.id walk in
    rw (c.of.ensures, ← c.self.view_is)
    (is_some_from _ here.waiting.item (timed_item _ _ _ _ _ _ c.self.invariant c.in-Some.id here.waiting.item here.item))

pub loop-at-smaller : goal.loop-at-smaller
loop-at-smaller c =
    rw c.in-Some.is
    (walk_less c.self.inside.nodes Deadline c.self.inside.deadlines _ (timed_held _ _ _ _ _ _ c.self.invariant) (timed_apart _ _ _ _ _ _ c.self.invariant) c.self.invariant.in_time _ c.in-Some.id (rw c.in-Some.is at c.loop-at.invariant) c.index-node.result.now c.index-node.ensures _ c.of-at.ensures)

pub loop-at-preserved : goal.loop-at-preserved
loop-at-preserved c =
    let walk = rw c.in-Some.is at c.loop-at.invariant in
    let differs : c.index-node.result.now.item.key ≢ c.args.key.now = λ same. false≢true (sym c.if-has_key.false ∙ c.has_key.ensures.same.1 same) in
    walk_next c.self.inside.nodes Deadline c.self.inside.deadlines _ (timed_held _ _ _ _ _ _ c.self.invariant) (timed_apart _ _ _ _ _ _ c.self.invariant) c.self.invariant.in_time _ c.in-Some.id walk c.index-node.result.now c.index-node.ensures _ _ c.of-at.ensures
    (λ waiting later same item fact. (
      Every-push (λ w. w.item.key ≢ c.args.key.now) walk.passed waiting fact.0 (λ is. differs (ap (λ i. i.key) item ∙ is)),
      fact.1 ∙ key_passed c.args.key.now waiting later (ap (λ i. is_eq (key_cmp i.key c.args.key.now)) (sym item) ∙ sym c.has_key.ensures.test ∙ c.if-has_key.false),
    ))

pub returns-clause-first : goal.returns-clause-first
returns-clause-first c =
    let walk = rw c.in_default.is at c.loop-at.invariant in
    rw (← c.self.view_is)
    (sym (ap first_id (walk.fact.1 ∙ ap (with_key c.args.key.now) (nothing_left walk.rest walk.here))))

pub returns-clause-none : goal.returns-clause-none
returns-clause-none c id nothing =
    let walk = rw c.in_default.is at c.loop-at.invariant in
    let all = subst (Every (λ w. w.item.key ≢ c.args.key.now)) (sym (append-nil walk.passed) ∙ ap (λ l. walk.passed ++ l) (sym (nothing_left walk.rest walk.here)) ∙ walk.splits) walk.fact.0 in
    rw (← c.self.view_is)
    (if_each _ (λ item. item.key ≢ c.args.key.now) (λ item found. item_of-every (λ w. w.item.key ≢ c.args.key.now) _ id item all (timed_from _ _ _ _ _ _ c.self.invariant id item found)))
