-- Proof of the contract of `take_counted`.
use Rattle.std.proofs.Common.{◌≡◌, eqb, eq-eqb, refl, sym, ap, ◌∙◌, subst, Some, inr, [], arith}
use Rattle.gw_links.specs.declared.item.Item.{Item}
use Rattle.gw_links.specs.declared.link.Order.TheVariants.{Till, Terminal, Deadline}
use Rattle.gw_links.specs.Waiting.{item_of, of_seat, at_terminal, by_deadline}
use Rattle.gw_links.specs.inner.Table.{accepted_in, ends_at, IsHeldAt, IsSoundTable}
use Rattle.gw_links.proofs.OrderLemmas.{Every-filter, item_of-every, item_of-is_in, item_of-is_in_filter, IsIn-place_all}
use Rattle.gw_links.proofs.SoundLemmas.{some_value, item_some, item_is, slot_item, timed_held}
use Rattle.gw_links.proofs.TakeLemmas.{place_next, place_prev, till_terminal, till_deadline, terminal_deadline, IsSound-taken, taken}
use Rattle.gw_links.proofs.lines.Lines.take_counted.Goals as goal

pub index-requires : goal.index-requires
index-requires g c =
    let there = some_value _ (rw (← c.self.view_is) at c.requires.live) in
    let found : item_of (accepted_in c.self.inside.nodes c.self.inside.accepted) c.index-id.result ≡ Some there.0 = ap (item_of (accepted_in c.self.inside.nodes c.self.inside.accepted)) c.index-id.ensures ∙ there.1 in
    item_some c.self.inside.nodes (accepted_in c.self.inside.nodes c.self.inside.accepted) c.self.invariant.requests c.index-id.result there.0 found

pub bounds-self-inside-seat : goal.bounds-self-inside-seat
bounds-self-inside-seat g c =
    let there = some_value _ (rw (← c.self.view_is) at c.requires.live) in
    let found : item_of (accepted_in c.self.inside.nodes c.self.inside.accepted) c.index-id.result ≡ Some there.0 = ap (item_of (accepted_in c.self.inside.nodes c.self.inside.accepted)) c.index-id.ensures ∙ there.1 in
    let its = item_of-every (IsHeldAt c.self.inside.nodes) (accepted_in c.self.inside.nodes c.self.inside.accepted) c.index-id.result there.0 c.self.invariant.requests found in
    let item = item_is c.self.inside.nodes (accepted_in c.self.inside.nodes c.self.inside.accepted) c.self.invariant.requests c.index-id.result there.0 c.index.result.now found c.index.ensures in
    omega (arith, c.from-seat.ensures, ap (λ (i : Item). i.seat) item, ap (λ (i : Item). i.terminal) item, its.seat, its.terminal)

pub bounds-self-inside-terminal : goal.bounds-self-inside-terminal
bounds-self-inside-terminal g c =
    let there = some_value _ (rw (← c.self.view_is) at c.requires.live) in
    let found : item_of (accepted_in c.self.inside.nodes c.self.inside.accepted) c.index-id.result ≡ Some there.0 = ap (item_of (accepted_in c.self.inside.nodes c.self.inside.accepted)) c.index-id.ensures ∙ there.1 in
    let its = item_of-every (IsHeldAt c.self.inside.nodes) (accepted_in c.self.inside.nodes c.self.inside.accepted) c.index-id.result there.0 c.self.invariant.requests found in
    let item = item_is c.self.inside.nodes (accepted_in c.self.inside.nodes c.self.inside.accepted) c.self.invariant.requests c.index-id.result there.0 c.index.result.now found c.index.ensures in
    omega (arith, c.from-terminal.ensures, ap (λ (i : Item). i.seat) item, ap (λ (i : Item). i.terminal) item, its.seat, its.terminal)

pub detach-requires-clause-next : goal.detach-requires-clause-next
detach-requires-clause-next g c =
    let there = some_value _ (rw (← c.self.view_is) at c.requires.live) in
    let found : item_of (accepted_in c.self.inside.nodes c.self.inside.accepted) c.index-id.result ≡ Some there.0 = ap (item_of (accepted_in c.self.inside.nodes c.self.inside.accepted)) c.index-id.ensures ∙ there.1 in
    let its = item_of-every (IsHeldAt c.self.inside.nodes) (accepted_in c.self.inside.nodes c.self.inside.accepted) c.index-id.result there.0 c.self.invariant.requests found in
    place_next Till c.self.inside.nodes c.self.inside.nodes (ends_at c.self.inside.tills there.0.seat) (of_seat there.0.seat (accepted_in c.self.inside.nodes c.self.inside.accepted)) (Every-filter (IsHeldAt c.self.inside.nodes) (λ w. eqb w.item.seat there.0.seat) (accepted_in c.self.inside.nodes c.self.inside.accepted) c.self.invariant.requests) (c.self.invariant.by_seat there.0.seat (its.seat)) (λ k. refl) (λ k. refl) c.index-id.result (item_of-is_in_filter (λ w. eqb w.item.seat there.0.seat) (accepted_in c.self.inside.nodes c.self.inside.accepted) c.index-id.result there.0 found (eq-eqb there.0.seat there.0.seat refl))

pub detach-requires-clause-prev : goal.detach-requires-clause-prev
detach-requires-clause-prev g c =
    let there = some_value _ (rw (← c.self.view_is) at c.requires.live) in
    let found : item_of (accepted_in c.self.inside.nodes c.self.inside.accepted) c.index-id.result ≡ Some there.0 = ap (item_of (accepted_in c.self.inside.nodes c.self.inside.accepted)) c.index-id.ensures ∙ there.1 in
    let its = item_of-every (IsHeldAt c.self.inside.nodes) (accepted_in c.self.inside.nodes c.self.inside.accepted) c.index-id.result there.0 c.self.invariant.requests found in
    place_prev Till c.self.inside.nodes c.self.inside.nodes (ends_at c.self.inside.tills there.0.seat) (of_seat there.0.seat (accepted_in c.self.inside.nodes c.self.inside.accepted)) (Every-filter (IsHeldAt c.self.inside.nodes) (λ w. eqb w.item.seat there.0.seat) (accepted_in c.self.inside.nodes c.self.inside.accepted) c.self.invariant.requests) (c.self.invariant.by_seat there.0.seat (its.seat)) (λ k. refl) (λ k. refl) c.index-id.result (item_of-is_in_filter (λ w. eqb w.item.seat there.0.seat) (accepted_in c.self.inside.nodes c.self.inside.accepted) c.index-id.result there.0 found (eq-eqb there.0.seat there.0.seat refl))

pub detach-requires-2-clause-next : goal.detach-requires-2-clause-next
detach-requires-2-clause-next g c =
    let there = some_value _ (rw (← c.self.view_is) at c.requires.live) in
    let found : item_of (accepted_in c.self.inside.nodes c.self.inside.accepted) c.index-id.result ≡ Some there.0 = ap (item_of (accepted_in c.self.inside.nodes c.self.inside.accepted)) c.index-id.ensures ∙ there.1 in
    let its = item_of-every (IsHeldAt c.self.inside.nodes) (accepted_in c.self.inside.nodes c.self.inside.accepted) c.index-id.result there.0 c.self.invariant.requests found in
    place_next Terminal c.self.inside.nodes c.detach.new.nodes (ends_at c.self.inside.terminals there.0.terminal) (at_terminal there.0.terminal (accepted_in c.self.inside.nodes c.self.inside.accepted)) (Every-filter (IsHeldAt c.self.inside.nodes) (λ w. eqb w.item.terminal there.0.terminal) (accepted_in c.self.inside.nodes c.self.inside.accepted) c.self.invariant.requests) (c.self.invariant.by_terminal there.0.terminal (its.terminal)) (c.detach.ensures.elsewhere.requests) (λ k. c.detach.ensures.elsewhere.links Terminal (λ same. till_terminal (sym same)) k) c.index-id.result (item_of-is_in_filter (λ w. eqb w.item.terminal there.0.terminal) (accepted_in c.self.inside.nodes c.self.inside.accepted) c.index-id.result there.0 found (eq-eqb there.0.terminal there.0.terminal refl))

pub detach-requires-2-clause-prev : goal.detach-requires-2-clause-prev
detach-requires-2-clause-prev g c =
    let there = some_value _ (rw (← c.self.view_is) at c.requires.live) in
    let found : item_of (accepted_in c.self.inside.nodes c.self.inside.accepted) c.index-id.result ≡ Some there.0 = ap (item_of (accepted_in c.self.inside.nodes c.self.inside.accepted)) c.index-id.ensures ∙ there.1 in
    let its = item_of-every (IsHeldAt c.self.inside.nodes) (accepted_in c.self.inside.nodes c.self.inside.accepted) c.index-id.result there.0 c.self.invariant.requests found in
    place_prev Terminal c.self.inside.nodes c.detach.new.nodes (ends_at c.self.inside.terminals there.0.terminal) (at_terminal there.0.terminal (accepted_in c.self.inside.nodes c.self.inside.accepted)) (Every-filter (IsHeldAt c.self.inside.nodes) (λ w. eqb w.item.terminal there.0.terminal) (accepted_in c.self.inside.nodes c.self.inside.accepted) c.self.invariant.requests) (c.self.invariant.by_terminal there.0.terminal (its.terminal)) (c.detach.ensures.elsewhere.requests) (λ k. c.detach.ensures.elsewhere.links Terminal (λ same. till_terminal (sym same)) k) c.index-id.result (item_of-is_in_filter (λ w. eqb w.item.terminal there.0.terminal) (accepted_in c.self.inside.nodes c.self.inside.accepted) c.index-id.result there.0 found (eq-eqb there.0.terminal there.0.terminal refl))

pub detach-requires-3-clause-next : goal.detach-requires-3-clause-next
detach-requires-3-clause-next g c =
    let there = some_value _ (rw (← c.self.view_is) at c.requires.live) in
    let found : item_of (accepted_in c.self.inside.nodes c.self.inside.accepted) c.index-id.result ≡ Some there.0 = ap (item_of (accepted_in c.self.inside.nodes c.self.inside.accepted)) c.index-id.ensures ∙ there.1 in
    let its = item_of-every (IsHeldAt c.self.inside.nodes) (accepted_in c.self.inside.nodes c.self.inside.accepted) c.index-id.result there.0 c.self.invariant.requests found in
    place_next Deadline c.self.inside.nodes c.detach-2.new.nodes c.self.inside.deadlines (by_deadline (accepted_in c.self.inside.nodes c.self.inside.accepted)) (timed_held _ _ _ _ _ _ c.self.invariant) (c.self.invariant.in_time) (λ k. c.detach-2.ensures.elsewhere.requests k ∙ c.detach.ensures.elsewhere.requests k) (λ k. c.detach-2.ensures.elsewhere.links Deadline (λ same. terminal_deadline (sym same)) k ∙ c.detach.ensures.elsewhere.links Deadline (λ same. till_deadline (sym same)) k) c.index-id.result (IsIn-place_all c.index-id.result [] (accepted_in c.self.inside.nodes c.self.inside.accepted) (inr (item_of-is_in (accepted_in c.self.inside.nodes c.self.inside.accepted) c.index-id.result there.0 found)))

pub detach-requires-3-clause-prev : goal.detach-requires-3-clause-prev
detach-requires-3-clause-prev g c =
    let there = some_value _ (rw (← c.self.view_is) at c.requires.live) in
    let found : item_of (accepted_in c.self.inside.nodes c.self.inside.accepted) c.index-id.result ≡ Some there.0 = ap (item_of (accepted_in c.self.inside.nodes c.self.inside.accepted)) c.index-id.ensures ∙ there.1 in
    let its = item_of-every (IsHeldAt c.self.inside.nodes) (accepted_in c.self.inside.nodes c.self.inside.accepted) c.index-id.result there.0 c.self.invariant.requests found in
    place_prev Deadline c.self.inside.nodes c.detach-2.new.nodes c.self.inside.deadlines (by_deadline (accepted_in c.self.inside.nodes c.self.inside.accepted)) (timed_held _ _ _ _ _ _ c.self.invariant) (c.self.invariant.in_time) (λ k. c.detach-2.ensures.elsewhere.requests k ∙ c.detach.ensures.elsewhere.requests k) (λ k. c.detach-2.ensures.elsewhere.links Deadline (λ same. terminal_deadline (sym same)) k ∙ c.detach.ensures.elsewhere.links Deadline (λ same. till_deadline (sym same)) k) c.index-id.result (IsIn-place_all c.index-id.result [] (accepted_in c.self.inside.nodes c.self.inside.accepted) (inr (item_of-is_in (accepted_in c.self.inside.nodes c.self.inside.accepted) c.index-id.result there.0 found)))

pub invariant_of-self : goal.invariant_of-self
invariant_of-self g c =
    let there = some_value _ (rw (← c.self.view_is) at c.requires.live) in
    let found : item_of (accepted_in c.self.inside.nodes c.self.inside.accepted) c.index-id.result ≡ Some there.0 = ap (item_of (accepted_in c.self.inside.nodes c.self.inside.accepted)) c.index-id.ensures ∙ there.1 in
    let its = item_of-every (IsHeldAt c.self.inside.nodes) (accepted_in c.self.inside.nodes c.self.inside.accepted) c.index-id.result there.0 c.self.invariant.requests found in
    let item = item_is c.self.inside.nodes (accepted_in c.self.inside.nodes c.self.inside.accepted) c.self.invariant.requests c.index-id.result there.0 c.index.result.now found c.index.ensures in
    let seat_is : c.from-seat.result ≡ there.0.seat = c.from-seat.ensures ∙ ap (λ (i : Item). i.seat) item in
    let terminal_is : c.from-terminal.result ≡ there.0.terminal = c.from-terminal.ensures ∙ ap (λ (i : Item). i.terminal) item in
    subst (IsSoundTable c.remove.new.self _ _ _ c.self.inside.accepted) (sym (taken c.self.inside.nodes c.detach.new.nodes c.detach-2.new.nodes c.detach-3.new.nodes c.remove.new.self c.self.inside.tills c.self.inside.terminals c.self.inside.deadlines c.self.inside.accepted (accepted_in c.self.inside.nodes c.self.inside.accepted) c.self.invariant c.index-id.result there.0 found c.detach.new.ends c.detach-2.new.ends c.detach-3.new.ends c.from-seat.result c.from-terminal.result seat_is terminal_is c.detach.ensures.nexts c.detach.ensures.prevs c.detach.ensures.elsewhere c.detach-2.ensures.nexts c.detach-2.ensures.prevs c.detach-2.ensures.elsewhere c.detach-3.ensures.nexts c.detach-3.ensures.prevs c.detach-3.ensures.elsewhere c.remove.ensures.updates refl)) (IsSound-taken c.self.inside.nodes c.detach.new.nodes c.detach-2.new.nodes c.detach-3.new.nodes c.remove.new.self c.self.inside.tills c.self.inside.terminals c.self.inside.deadlines c.self.inside.accepted (accepted_in c.self.inside.nodes c.self.inside.accepted) c.self.invariant c.index-id.result there.0 found c.detach.new.ends c.detach-2.new.ends c.detach-3.new.ends c.from-seat.result c.from-terminal.result seat_is terminal_is c.detach.ensures.nexts c.detach.ensures.prevs c.detach.ensures.elsewhere c.detach-2.ensures.nexts c.detach-2.ensures.prevs c.detach-2.ensures.elsewhere c.detach-3.ensures.nexts c.detach-3.ensures.prevs c.detach-3.ensures.elsewhere c.remove.ensures.updates)

pub returns-clause-item : goal.returns-clause-item
returns-clause-item g c =
    let there = some_value _ (rw (← c.self.view_is) at c.requires.live) in
    let found : item_of (accepted_in c.self.inside.nodes c.self.inside.accepted) c.index-id.result ≡ Some there.0 = ap (item_of (accepted_in c.self.inside.nodes c.self.inside.accepted)) c.index-id.ensures ∙ there.1 in
    let its = item_of-every (IsHeldAt c.self.inside.nodes) (accepted_in c.self.inside.nodes c.self.inside.accepted) c.index-id.result there.0 c.self.invariant.requests found in
    rw (← c.self.view_is)
    (there.1 ∙ ap Some (sym (slot_item c.detach-3.new.nodes c.index-id.result there.0 its.number c.remove.result
    (c.detach-3.ensures.elsewhere.requests c.index-id.result ∙ c.detach-2.ensures.elsewhere.requests c.index-id.result ∙ c.detach.ensures.elsewhere.requests c.index-id.result ∙ its.holds) c.remove.ensures.value)))

pub returns-clause-removed : goal.returns-clause-removed
returns-clause-removed g c =
    let there = some_value _ (rw (← c.self.view_is) at c.requires.live) in
    let found : item_of (accepted_in c.self.inside.nodes c.self.inside.accepted) c.index-id.result ≡ Some there.0 = ap (item_of (accepted_in c.self.inside.nodes c.self.inside.accepted)) c.index-id.ensures ∙ there.1 in
    let its = item_of-every (IsHeldAt c.self.inside.nodes) (accepted_in c.self.inside.nodes c.self.inside.accepted) c.index-id.result there.0 c.self.invariant.requests found in
    let item = item_is c.self.inside.nodes (accepted_in c.self.inside.nodes c.self.inside.accepted) c.self.invariant.requests c.index-id.result there.0 c.index.result.now found c.index.ensures in
    let seat_is : c.from-seat.result ≡ there.0.seat = c.from-seat.ensures ∙ ap (λ (i : Item). i.seat) item in
    let terminal_is : c.from-terminal.result ≡ there.0.terminal = c.from-terminal.ensures ∙ ap (λ (i : Item). i.terminal) item in
    rw (← c.self.view_is, ← c.index-id.ensures) (taken c.self.inside.nodes c.detach.new.nodes c.detach-2.new.nodes c.detach-3.new.nodes c.remove.new.self c.self.inside.tills c.self.inside.terminals c.self.inside.deadlines c.self.inside.accepted (accepted_in c.self.inside.nodes c.self.inside.accepted) c.self.invariant c.index-id.result there.0 found c.detach.new.ends c.detach-2.new.ends c.detach-3.new.ends c.from-seat.result c.from-terminal.result seat_is terminal_is c.detach.ensures.nexts c.detach.ensures.prevs c.detach.ensures.elsewhere c.detach-2.ensures.nexts c.detach-2.ensures.prevs c.detach-2.ensures.elsewhere c.detach-3.ensures.nexts c.detach-3.ensures.prevs c.detach-3.ensures.elsewhere c.remove.ensures.updates refl)
