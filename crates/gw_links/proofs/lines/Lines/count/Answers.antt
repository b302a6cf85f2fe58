-- Proof of the contract of `count`.
use Rattle.std.proofs.Common.{◌≡◌, ◌+◌, ◌∷◌, ◌++◌, [], eqb, length, refl, sym, ap, ◌∙◌, Some, None, arith, append-nil, length-append}
use Rattle.gw_links.specs.declared.link.Order.TheVariants.{Terminal}
use Rattle.gw_links.specs.Waiting.{at_terminal}
use Rattle.gw_links.specs.inner.Table.{accepted_in, ends_at, IsHeldAt}
use Rattle.gw_links.proofs.FindLemmas.{walk_some, walk_next, walk_less, nothing_left, terminal_below, few_filtered}
use Rattle.gw_links.proofs.OrderLemmas.{Every-filter, IsApart-filter, item_of-is_in}
use Rattle.gw_links.proofs.WalkLemmas.{Walk, walk_here}
use Rattle.gw_links.proofs.lines.Lines.count.Goals as goal

pub loop-at-init : goal.loop-at-init
loop-at-init c = record { passed = []; rest = at_terminal c.args.terminal c.args.self.now; splits = refl; here = c.first_at-at.ensures; fact = refl }

pub overflow_add-count : goal.overflow_add-count
overflow_add-count c =
    let there : Walk (at_terminal c.args.terminal (accepted_in c.self.inside.nodes c.self.inside.accepted)) (Some c.in-Some.id) (λ passed rest. c.loop-at.count ≡ length passed) = rw (c.in-Some.is, ← c.self.view_is) at c.loop-at.invariant in
    let apart = IsApart-filter (λ w. eqb w.item.terminal c.args.terminal) (accepted_in c.self.inside.nodes c.self.inside.accepted) c.self.invariant.apart in
    let all = Every-filter (IsHeldAt c.self.inside.nodes) (λ w. eqb w.item.terminal c.args.terminal) (accepted_in c.self.inside.nodes c.self.inside.accepted) c.self.invariant.requests in
    let here = walk_here (at_terminal c.args.terminal (accepted_in c.self.inside.nodes c.self.inside.accepted)) apart _ c.in-Some.id there in
    let below = terminal_below _ _ _ _ _ _ c.self.invariant c.args.terminal c.in-Some.id (item_of-is_in (at_terminal c.args.terminal (accepted_in c.self.inside.nodes c.self.inside.accepted)) c.in-Some.id here.waiting.item here.item) in
    let chain = c.self.invariant.by_terminal c.args.terminal below in
    record {
      fits = omega (arith, there.fact, ap length there.splits, length-append there.passed there.rest, ap length here.is, few_filtered (λ w. eqb w.item.terminal c.args.terminal) c.self.inside.nodes c.self.inside.accepted, c.self.invariant.bounded);
    }

pub index-requires : goal.index-requires
index-requires c =
    let there : Walk (at_terminal c.args.terminal (accepted_in c.self.inside.nodes c.self.inside.accepted)) (Some c.in-Some.id) (λ passed rest. c.loop-at.count ≡ length passed) = rw (c.in-Some.is, ← c.self.view_is) at c.loop-at.invariant in
    let apart = IsApart-filter (λ w. eqb w.item.terminal c.args.terminal) (accepted_in c.self.inside.nodes c.self.inside.accepted) c.self.invariant.apart in
    let all = Every-filter (IsHeldAt c.self.inside.nodes) (λ w. eqb w.item.terminal c.args.terminal) (accepted_in c.self.inside.nodes c.self.inside.accepted) c.self.invariant.requests in
    let here = walk_here (at_terminal c.args.terminal (accepted_in c.self.inside.nodes c.self.inside.accepted)) apart _ c.in-Some.id there in
    let below = terminal_below _ _ _ _ _ _ c.self.invariant c.args.terminal c.in-Some.id (item_of-is_in (at_terminal c.args.terminal (accepted_in c.self.inside.nodes c.self.inside.accepted)) c.in-Some.id here.waiting.item here.item) in
    let chain = c.self.invariant.by_terminal c.args.terminal below in
    walk_some c.self.inside.nodes Terminal (ends_at c.self.inside.terminals c.args.terminal) (at_terminal c.args.terminal (accepted_in c.self.inside.nodes c.self.inside.accepted)) all apart chain _ c.in-Some.id there

pub loop-at-smaller : goal.loop-at-smaller
loop-at-smaller c =
    let there : Walk (at_terminal c.args.terminal (accepted_in c.self.inside.nodes c.self.inside.accepted)) (Some c.in-Some.id) (λ passed rest. c.loop-at.count ≡ length passed) = rw (c.in-Some.is, ← c.self.view_is) at c.loop-at.invariant in
    let apart = IsApart-filter (λ w. eqb w.item.terminal c.args.terminal) (accepted_in c.self.inside.nodes c.self.inside.accepted) c.self.invariant.apart in
    let all = Every-filter (IsHeldAt c.self.inside.nodes) (λ w. eqb w.item.terminal c.args.terminal) (accepted_in c.self.inside.nodes c.self.inside.accepted) c.self.invariant.requests in
    let here = walk_here (at_terminal c.args.terminal (accepted_in c.self.inside.nodes c.self.inside.accepted)) apart _ c.in-Some.id there in
    let below = terminal_below _ _ _ _ _ _ c.self.invariant c.args.terminal c.in-Some.id (item_of-is_in (at_terminal c.args.terminal (accepted_in c.self.inside.nodes c.self.inside.accepted)) c.in-Some.id here.waiting.item here.item) in
    let chain = c.self.invariant.by_terminal c.args.terminal below in
    rw (c.in-Some.is, ← c.self.view_is) (walk_less c.self.inside.nodes Terminal (ends_at c.self.inside.terminals c.args.terminal) (at_terminal c.args.terminal (accepted_in c.self.inside.nodes c.self.inside.accepted)) all apart chain _ c.in-Some.id there c.index.result.now c.index.ensures _ c.of-at.ensures)

pub loop-at-preserved : goal.loop-at-preserved
loop-at-preserved c =
    let there : Walk (at_terminal c.args.terminal (accepted_in c.self.inside.nodes c.self.inside.accepted)) (Some c.in-Some.id) (λ passed rest. c.loop-at.count ≡ length passed) = rw (c.in-Some.is, ← c.self.view_is) at c.loop-at.invariant in
    let apart = IsApart-filter (λ w. eqb w.item.terminal c.args.terminal) (accepted_in c.self.inside.nodes c.self.inside.accepted) c.self.invariant.apart in
    let all = Every-filter (IsHeldAt c.self.inside.nodes) (λ w. eqb w.item.terminal c.args.terminal) (accepted_in c.self.inside.nodes c.self.inside.accepted) c.self.invariant.requests in
    let here = walk_here (at_terminal c.args.terminal (accepted_in c.self.inside.nodes c.self.inside.accepted)) apart _ c.in-Some.id there in
    let below = terminal_below _ _ _ _ _ _ c.self.invariant c.args.terminal c.in-Some.id (item_of-is_in (at_terminal c.args.terminal (accepted_in c.self.inside.nodes c.self.inside.accepted)) c.in-Some.id here.waiting.item here.item) in
    let chain = c.self.invariant.by_terminal c.args.terminal below in
    rw (← c.self.view_is)
    (walk_next c.self.inside.nodes Terminal (ends_at c.self.inside.terminals c.args.terminal) (at_terminal c.args.terminal (accepted_in c.self.inside.nodes c.self.inside.accepted)) all apart chain _ c.in-Some.id there c.index.result.now c.index.ensures (λ passed rest. c.loop-at.count + 1 ≡ length passed) _ c.of-at.ensures
    (λ waiting later same item fact. omega (arith, fact, length-append there.passed (waiting ∷ []))))

pub returns : goal.returns
returns c =
    let there : Walk (at_terminal c.args.terminal c.args.self.now) None (λ passed rest. c.loop-at.count ≡ length passed) = rw c.in_default.is at c.loop-at.invariant in
    there.fact ∙ ap length (sym (append-nil there.passed) ∙ ap (λ l. there.passed ++ l) (sym (nothing_left there.rest there.here)) ∙ there.splits)
