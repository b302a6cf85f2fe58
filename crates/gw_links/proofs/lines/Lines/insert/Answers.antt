-- Proof of the contract of `insert`.
use Rattle.std.proofs.Common.{◌≡◌, ◌≢◌, ◌+◌, [], eqb, refl, sym, ◌∙◌, subst, Some, arith, append-nil}
use Rattle.gw_links.specs.declared.link.Order.TheVariants.{Till, Terminal, Deadline}
use Rattle.gw_links.specs.Waiting.{of_seat, at_terminal, by_deadline, later_than, first_id}
use Rattle.gw_links.specs.inner.Chain.{Every, IsInChain}
use Rattle.gw_links.specs.inner.Table.{accepted_in, ends_at, IsHeldAt, IsSoundTable, IsPlace, Links_up, prev_in}
use Rattle.gw_links.proofs.InsertLemmas.{not_waiting, not_timed, join_before, join_before_apart, join_place, join_apart, IsSound-added, accepted_more, accepted_in-refused, IsSound-refused}
use Rattle.gw_links.proofs.OrderLemmas.{Every-filter, IsIn-filter, item_of-absent, until_later, later-split}
use Rattle.gw_links.proofs.SoundLemmas.{timed_held}
use Rattle.gw_links.proofs.TakeLemmas.{till_terminal, till_deadline, terminal_deadline}
use Rattle.gw_links.proofs.lines.Lines.insert.Goals as goal

pub invariant_of-self : goal.invariant_of-self
invariant_of-self c = IsSound-refused c.self.inside.nodes _ c.self.inside.tills c.self.inside.terminals c.self.inside.deadlines c.self.inside.accepted c.insert.new.self c.in-Err.ensures.err c.self.invariant

pub returns-in-Err-clause-refused : goal.returns-in-Err-clause-refused
returns-in-Err-clause-refused c = rw (← c.self.view_is) (accepted_in-refused c.self.inside.nodes _ c.self.inside.tills c.self.inside.terminals c.self.inside.deadlines c.self.inside.accepted c.insert.new.self c.in-Err.ensures.err)

pub attach-requires-clause-before : goal.attach-requires-clause-before
attach-requires-clause-before c =
    join_before c.self.inside.nodes c.insert.new.self c.self.inside.tills c.self.inside.terminals c.self.inside.deadlines c.self.inside.accepted (accepted_in c.self.inside.nodes c.self.inside.accepted) c.self.invariant c.in-Ok.id c.args.item _ c.in-Ok.ensures.was_vacant c.in-Ok.ensures.updates refl refl Till (ends_at c.self.inside.tills c.from-seat.result) (of_seat c.from-seat.result (accepted_in c.self.inside.nodes c.self.inside.accepted)) []
    (λ found. not_waiting c.self.inside.nodes c.insert.new.self c.self.inside.tills c.self.inside.terminals c.self.inside.deadlines c.self.inside.accepted (accepted_in c.self.inside.nodes c.self.inside.accepted) c.self.invariant c.in-Ok.id c.args.item _ c.in-Ok.ensures.was_vacant c.in-Ok.ensures.updates refl refl (IsIn-filter (λ w. eqb w.item.seat c.from-seat.result) c.in-Ok.id (accepted_in c.self.inside.nodes c.self.inside.accepted) (subst (IsInChain c.in-Ok.id) (append-nil (of_seat c.from-seat.result (accepted_in c.self.inside.nodes c.self.inside.accepted))) found)))
    (subst (Every (IsHeldAt c.self.inside.nodes)) (sym (append-nil (of_seat c.from-seat.result (accepted_in c.self.inside.nodes c.self.inside.accepted)))) (Every-filter (IsHeldAt c.self.inside.nodes) (λ w. eqb w.item.seat c.from-seat.result) (accepted_in c.self.inside.nodes c.self.inside.accepted) c.self.invariant.requests))
    (subst (Links_up Till c.self.inside.nodes (ends_at c.self.inside.tills c.from-seat.result)) (sym (append-nil (of_seat c.from-seat.result (accepted_in c.self.inside.nodes c.self.inside.accepted)))) (c.self.invariant.by_seat c.from-seat.result (omega (arith, c.from-seat.ensures, c.requires.seat))))
    c.insert.new.self (λ k. refl) (λ k. refl)

pub attach-requires-clause-before_apart : goal.attach-requires-clause-before_apart
attach-requires-clause-before_apart c =
    join_before_apart c.self.inside.nodes c.insert.new.self c.self.inside.tills c.self.inside.terminals c.self.inside.deadlines c.self.inside.accepted (accepted_in c.self.inside.nodes c.self.inside.accepted) c.self.invariant c.in-Ok.id c.args.item _ c.in-Ok.ensures.was_vacant c.in-Ok.ensures.updates refl refl Till (ends_at c.self.inside.tills c.from-seat.result) (of_seat c.from-seat.result (accepted_in c.self.inside.nodes c.self.inside.accepted)) []
    (λ found. not_waiting c.self.inside.nodes c.insert.new.self c.self.inside.tills c.self.inside.terminals c.self.inside.deadlines c.self.inside.accepted (accepted_in c.self.inside.nodes c.self.inside.accepted) c.self.invariant c.in-Ok.id c.args.item _ c.in-Ok.ensures.was_vacant c.in-Ok.ensures.updates refl refl (IsIn-filter (λ w. eqb w.item.seat c.from-seat.result) c.in-Ok.id (accepted_in c.self.inside.nodes c.self.inside.accepted) (subst (IsInChain c.in-Ok.id) (append-nil (of_seat c.from-seat.result (accepted_in c.self.inside.nodes c.self.inside.accepted))) found)))
    (subst (Every (IsHeldAt c.self.inside.nodes)) (sym (append-nil (of_seat c.from-seat.result (accepted_in c.self.inside.nodes c.self.inside.accepted)))) (Every-filter (IsHeldAt c.self.inside.nodes) (λ w. eqb w.item.seat c.from-seat.result) (accepted_in c.self.inside.nodes c.self.inside.accepted) c.self.invariant.requests))
    (subst (Links_up Till c.self.inside.nodes (ends_at c.self.inside.tills c.from-seat.result)) (sym (append-nil (of_seat c.from-seat.result (accepted_in c.self.inside.nodes c.self.inside.accepted)))) (c.self.invariant.by_seat c.from-seat.result (omega (arith, c.from-seat.ensures, c.requires.seat))))
    c.insert.new.self (λ k. refl) (λ k. refl)

pub attach-requires-2-clause-before : goal.attach-requires-2-clause-before
attach-requires-2-clause-before c =
    join_before c.self.inside.nodes c.insert.new.self c.self.inside.tills c.self.inside.terminals c.self.inside.deadlines c.self.inside.accepted (accepted_in c.self.inside.nodes c.self.inside.accepted) c.self.invariant c.in-Ok.id c.args.item _ c.in-Ok.ensures.was_vacant c.in-Ok.ensures.updates refl refl Terminal (ends_at c.self.inside.terminals c.from-terminal.result) (at_terminal c.from-terminal.result (accepted_in c.self.inside.nodes c.self.inside.accepted)) []
    (λ found. not_waiting c.self.inside.nodes c.insert.new.self c.self.inside.tills c.self.inside.terminals c.self.inside.deadlines c.self.inside.accepted (accepted_in c.self.inside.nodes c.self.inside.accepted) c.self.invariant c.in-Ok.id c.args.item _ c.in-Ok.ensures.was_vacant c.in-Ok.ensures.updates refl refl (IsIn-filter (λ w. eqb w.item.terminal c.from-terminal.result) c.in-Ok.id (accepted_in c.self.inside.nodes c.self.inside.accepted) (subst (IsInChain c.in-Ok.id) (append-nil (at_terminal c.from-terminal.result (accepted_in c.self.inside.nodes c.self.inside.accepted))) found)))
    (subst (Every (IsHeldAt c.self.inside.nodes)) (sym (append-nil (at_terminal c.from-terminal.result (accepted_in c.self.inside.nodes c.self.inside.accepted)))) (Every-filter (IsHeldAt c.self.inside.nodes) (λ w. eqb w.item.terminal c.from-terminal.result) (accepted_in c.self.inside.nodes c.self.inside.accepted) c.self.invariant.requests))
    (subst (Links_up Terminal c.self.inside.nodes (ends_at c.self.inside.terminals c.from-terminal.result)) (sym (append-nil (at_terminal c.from-terminal.result (accepted_in c.self.inside.nodes c.self.inside.accepted)))) (c.self.invariant.by_terminal c.from-terminal.result (omega (arith, c.from-terminal.ensures, c.requires.terminal))))
    c.attach.new.nodes c.attach.ensures.elsewhere.requests (λ k. c.attach.ensures.elsewhere.links Terminal (λ same. till_terminal (sym same)) k)

pub attach-requires-2-clause-before_apart : goal.attach-requires-2-clause-before_apart
attach-requires-2-clause-before_apart c =
    join_before_apart c.self.inside.nodes c.insert.new.self c.self.inside.tills c.self.inside.terminals c.self.inside.deadlines c.self.inside.accepted (accepted_in c.self.inside.nodes c.self.inside.accepted) c.self.invariant c.in-Ok.id c.args.item _ c.in-Ok.ensures.was_vacant c.in-Ok.ensures.updates refl refl Terminal (ends_at c.self.inside.terminals c.from-terminal.result) (at_terminal c.from-terminal.result (accepted_in c.self.inside.nodes c.self.inside.accepted)) []
    (λ found. not_waiting c.self.inside.nodes c.insert.new.self c.self.inside.tills c.self.inside.terminals c.self.inside.deadlines c.self.inside.accepted (accepted_in c.self.inside.nodes c.self.inside.accepted) c.self.invariant c.in-Ok.id c.args.item _ c.in-Ok.ensures.was_vacant c.in-Ok.ensures.updates refl refl (IsIn-filter (λ w. eqb w.item.terminal c.from-terminal.result) c.in-Ok.id (accepted_in c.self.inside.nodes c.self.inside.accepted) (subst (IsInChain c.in-Ok.id) (append-nil (at_terminal c.from-terminal.result (accepted_in c.self.inside.nodes c.self.inside.accepted))) found)))
    (subst (Every (IsHeldAt c.self.inside.nodes)) (sym (append-nil (at_terminal c.from-terminal.result (accepted_in c.self.inside.nodes c.self.inside.accepted)))) (Every-filter (IsHeldAt c.self.inside.nodes) (λ w. eqb w.item.terminal c.from-terminal.result) (accepted_in c.self.inside.nodes c.self.inside.accepted) c.self.invariant.requests))
    (subst (Links_up Terminal c.self.inside.nodes (ends_at c.self.inside.terminals c.from-terminal.result)) (sym (append-nil (at_terminal c.from-terminal.result (accepted_in c.self.inside.nodes c.self.inside.accepted)))) (c.self.invariant.by_terminal c.from-terminal.result (omega (arith, c.from-terminal.ensures, c.requires.terminal))))
    c.attach.new.nodes c.attach.ensures.elsewhere.requests (λ k. c.attach.ensures.elsewhere.links Terminal (λ same. till_terminal (sym same)) k)

pub attach-requires-3-clause-place : goal.attach-requires-3-clause-place
attach-requires-3-clause-place c =
    let later : c.first_later-after.result ≡ first_id (later_than c.args.item.deadline (by_deadline (accepted_in c.self.inside.nodes c.self.inside.accepted))) = rw (← c.self.view_is) at c.first_later-after.ensures in
    subst (IsPlace c.attach-2.new.nodes) (sym later)
    (join_place c.self.inside.nodes c.insert.new.self c.self.inside.tills c.self.inside.terminals c.self.inside.deadlines c.self.inside.accepted (accepted_in c.self.inside.nodes c.self.inside.accepted) c.self.invariant c.in-Ok.id c.args.item _ c.in-Ok.ensures.was_vacant c.in-Ok.ensures.updates refl refl Deadline c.self.inside.deadlines (until_later c.args.item.deadline (by_deadline (accepted_in c.self.inside.nodes c.self.inside.accepted))) (later_than c.args.item.deadline (by_deadline (accepted_in c.self.inside.nodes c.self.inside.accepted)))
    (λ found. not_timed c.self.inside.nodes c.insert.new.self c.self.inside.tills c.self.inside.terminals c.self.inside.deadlines c.self.inside.accepted (accepted_in c.self.inside.nodes c.self.inside.accepted) c.self.invariant c.in-Ok.id c.args.item _ c.in-Ok.ensures.was_vacant c.in-Ok.ensures.updates refl refl (subst (IsInChain c.in-Ok.id) (later-split c.args.item.deadline (by_deadline (accepted_in c.self.inside.nodes c.self.inside.accepted))) found))
    (subst (Every (IsHeldAt c.self.inside.nodes)) (sym (later-split c.args.item.deadline (by_deadline (accepted_in c.self.inside.nodes c.self.inside.accepted)))) (timed_held _ _ _ _ _ _ c.self.invariant))
    (subst (Links_up Deadline c.self.inside.nodes c.self.inside.deadlines) (sym (later-split c.args.item.deadline (by_deadline (accepted_in c.self.inside.nodes c.self.inside.accepted)))) c.self.invariant.in_time)
    c.attach-2.new.nodes (λ k. c.attach-2.ensures.elsewhere.requests k ∙ c.attach.ensures.elsewhere.requests k) (λ k. c.attach-2.ensures.elsewhere.links Deadline (λ same. terminal_deadline (sym same)) k ∙ c.attach.ensures.elsewhere.links Deadline (λ same. till_deadline (sym same)) k))

pub attach-requires-3-clause-before : goal.attach-requires-3-clause-before
attach-requires-3-clause-before c =
    let later : c.first_later-after.result ≡ first_id (later_than c.args.item.deadline (by_deadline (accepted_in c.self.inside.nodes c.self.inside.accepted))) = rw (← c.self.view_is) at c.first_later-after.ensures in
    subst (λ p. IsPlace c.attach-2.new.nodes (prev_in Deadline c.attach-2.new.nodes c.self.inside.deadlines p)) (sym later)
    (join_before c.self.inside.nodes c.insert.new.self c.self.inside.tills c.self.inside.terminals c.self.inside.deadlines c.self.inside.accepted (accepted_in c.self.inside.nodes c.self.inside.accepted) c.self.invariant c.in-Ok.id c.args.item _ c.in-Ok.ensures.was_vacant c.in-Ok.ensures.updates refl refl Deadline c.self.inside.deadlines (until_later c.args.item.deadline (by_deadline (accepted_in c.self.inside.nodes c.self.inside.accepted))) (later_than c.args.item.deadline (by_deadline (accepted_in c.self.inside.nodes c.self.inside.accepted)))
    (λ found. not_timed c.self.inside.nodes c.insert.new.self c.self.inside.tills c.self.inside.terminals c.self.inside.deadlines c.self.inside.accepted (accepted_in c.self.inside.nodes c.self.inside.accepted) c.self.invariant c.in-Ok.id c.args.item _ c.in-Ok.ensures.was_vacant c.in-Ok.ensures.updates refl refl (subst (IsInChain c.in-Ok.id) (later-split c.args.item.deadline (by_deadline (accepted_in c.self.inside.nodes c.self.inside.accepted))) found))
    (subst (Every (IsHeldAt c.self.inside.nodes)) (sym (later-split c.args.item.deadline (by_deadline (accepted_in c.self.inside.nodes c.self.inside.accepted)))) (timed_held _ _ _ _ _ _ c.self.invariant))
    (subst (Links_up Deadline c.self.inside.nodes c.self.inside.deadlines) (sym (later-split c.args.item.deadline (by_deadline (accepted_in c.self.inside.nodes c.self.inside.accepted)))) c.self.invariant.in_time)
    c.attach-2.new.nodes (λ k. c.attach-2.ensures.elsewhere.requests k ∙ c.attach.ensures.elsewhere.requests k) (λ k. c.attach-2.ensures.elsewhere.links Deadline (λ same. terminal_deadline (sym same)) k ∙ c.attach.ensures.elsewhere.links Deadline (λ same. till_deadline (sym same)) k))

pub attach-requires-3-clause-apart : goal.attach-requires-3-clause-apart
attach-requires-3-clause-apart c =
    let later : c.first_later-after.result ≡ first_id (later_than c.args.item.deadline (by_deadline (accepted_in c.self.inside.nodes c.self.inside.accepted))) = rw (← c.self.view_is) at c.first_later-after.ensures in
    subst (λ p. p ≢ Some c.in-Ok.id) (sym later)
    (join_apart c.self.inside.nodes c.insert.new.self c.self.inside.tills c.self.inside.terminals c.self.inside.deadlines c.self.inside.accepted (accepted_in c.self.inside.nodes c.self.inside.accepted) c.self.invariant c.in-Ok.id c.args.item _ c.in-Ok.ensures.was_vacant c.in-Ok.ensures.updates refl refl Deadline c.self.inside.deadlines (until_later c.args.item.deadline (by_deadline (accepted_in c.self.inside.nodes c.self.inside.accepted))) (later_than c.args.item.deadline (by_deadline (accepted_in c.self.inside.nodes c.self.inside.accepted)))
    (λ found. not_timed c.self.inside.nodes c.insert.new.self c.self.inside.tills c.self.inside.terminals c.self.inside.deadlines c.self.inside.accepted (accepted_in c.self.inside.nodes c.self.inside.accepted) c.self.invariant c.in-Ok.id c.args.item _ c.in-Ok.ensures.was_vacant c.in-Ok.ensures.updates refl refl (subst (IsInChain c.in-Ok.id) (later-split c.args.item.deadline (by_deadline (accepted_in c.self.inside.nodes c.self.inside.accepted))) found))
    (subst (Every (IsHeldAt c.self.inside.nodes)) (sym (later-split c.args.item.deadline (by_deadline (accepted_in c.self.inside.nodes c.self.inside.accepted)))) (timed_held _ _ _ _ _ _ c.self.invariant))
    (subst (Links_up Deadline c.self.inside.nodes c.self.inside.deadlines) (sym (later-split c.args.item.deadline (by_deadline (accepted_in c.self.inside.nodes c.self.inside.accepted)))) c.self.invariant.in_time)
    c.attach-2.new.nodes (λ k. c.attach-2.ensures.elsewhere.requests k ∙ c.attach.ensures.elsewhere.requests k) (λ k. c.attach-2.ensures.elsewhere.links Deadline (λ same. terminal_deadline (sym same)) k ∙ c.attach.ensures.elsewhere.links Deadline (λ same. till_deadline (sym same)) k))

pub attach-requires-3-clause-before_apart : goal.attach-requires-3-clause-before_apart
attach-requires-3-clause-before_apart c =
    let later : c.first_later-after.result ≡ first_id (later_than c.args.item.deadline (by_deadline (accepted_in c.self.inside.nodes c.self.inside.accepted))) = rw (← c.self.view_is) at c.first_later-after.ensures in
    subst (λ p. prev_in Deadline c.attach-2.new.nodes c.self.inside.deadlines p ≢ Some c.in-Ok.id) (sym later)
    (join_before_apart c.self.inside.nodes c.insert.new.self c.self.inside.tills c.self.inside.terminals c.self.inside.deadlines c.self.inside.accepted (accepted_in c.self.inside.nodes c.self.inside.accepted) c.self.invariant c.in-Ok.id c.args.item _ c.in-Ok.ensures.was_vacant c.in-Ok.ensures.updates refl refl Deadline c.self.inside.deadlines (until_later c.args.item.deadline (by_deadline (accepted_in c.self.inside.nodes c.self.inside.accepted))) (later_than c.args.item.deadline (by_deadline (accepted_in c.self.inside.nodes c.self.inside.accepted)))
    (λ found. not_timed c.self.inside.nodes c.insert.new.self c.self.inside.tills c.self.inside.terminals c.self.inside.deadlines c.self.inside.accepted (accepted_in c.self.inside.nodes c.self.inside.accepted) c.self.invariant c.in-Ok.id c.args.item _ c.in-Ok.ensures.was_vacant c.in-Ok.ensures.updates refl refl (subst (IsInChain c.in-Ok.id) (later-split c.args.item.deadline (by_deadline (accepted_in c.self.inside.nodes c.self.inside.accepted))) found))
    (subst (Every (IsHeldAt c.self.inside.nodes)) (sym (later-split c.args.item.deadline (by_deadline (accepted_in c.self.inside.nodes c.self.inside.accepted)))) (timed_held _ _ _ _ _ _ c.self.invariant))
    (subst (Links_up Deadline c.self.inside.nodes c.self.inside.deadlines) (sym (later-split c.args.item.deadline (by_deadline (accepted_in c.self.inside.nodes c.self.inside.accepted)))) c.self.invariant.in_time)
    c.attach-2.new.nodes (λ k. c.attach-2.ensures.elsewhere.requests k ∙ c.attach.ensures.elsewhere.requests k) (λ k. c.attach-2.ensures.elsewhere.links Deadline (λ same. terminal_deadline (sym same)) k ∙ c.attach.ensures.elsewhere.links Deadline (λ same. till_deadline (sym same)) k))

pub invariant_of-self-2 : goal.invariant_of-self-2
invariant_of-self-2 c =
    let later : c.first_later-after.result ≡ first_id (later_than c.args.item.deadline (by_deadline (accepted_in c.self.inside.nodes c.self.inside.accepted))) = rw (← c.self.view_is) at c.first_later-after.ensures in
    subst (IsSoundTable c.attach-3.new.nodes _ _ _ (c.self.inside.accepted + 1)) (sym (accepted_more c.self.inside.nodes c.insert.new.self c.self.inside.tills c.self.inside.terminals c.self.inside.deadlines c.self.inside.accepted (accepted_in c.self.inside.nodes c.self.inside.accepted) c.self.invariant c.in-Ok.id c.args.item _ c.in-Ok.ensures.was_vacant c.in-Ok.ensures.updates refl refl c.attach.new.nodes c.attach-2.new.nodes c.attach-3.new.nodes c.attach.new.ends c.attach-2.new.ends c.attach-3.new.ends c.from-seat.result c.from-terminal.result c.from-seat.ensures c.from-terminal.ensures c.requires.seat c.requires.terminal (omega (arith, c.self.invariant.bounded)) c.attach.ensures.inserts c.attach.ensures.elsewhere c.attach-2.ensures.inserts c.attach-2.ensures.elsewhere (rw later at c.attach-3.ensures.inserts) c.attach-3.ensures.elsewhere)) (IsSound-added c.self.inside.nodes c.insert.new.self c.self.inside.tills c.self.inside.terminals c.self.inside.deadlines c.self.inside.accepted (accepted_in c.self.inside.nodes c.self.inside.accepted) c.self.invariant c.in-Ok.id c.args.item _ c.in-Ok.ensures.was_vacant c.in-Ok.ensures.updates refl refl c.attach.new.nodes c.attach-2.new.nodes c.attach-3.new.nodes c.attach.new.ends c.attach-2.new.ends c.attach-3.new.ends c.from-seat.result c.from-terminal.result c.from-seat.ensures c.from-terminal.ensures c.requires.seat c.requires.terminal (omega (arith, c.self.invariant.bounded)) c.attach.ensures.inserts c.attach.ensures.elsewhere c.attach-2.ensures.inserts c.attach-2.ensures.elsewhere (rw later at c.attach-3.ensures.inserts) c.attach-3.ensures.elsewhere)

pub returns-clause-added : goal.returns-clause-added
returns-clause-added c =
    let later : c.first_later-after.result ≡ first_id (later_than c.args.item.deadline (by_deadline (accepted_in c.self.inside.nodes c.self.inside.accepted))) = rw (← c.self.view_is) at c.first_later-after.ensures in
    rw (c.of.ensures, ← c.self.view_is) (accepted_more c.self.inside.nodes c.insert.new.self c.self.inside.tills c.self.inside.terminals c.self.inside.deadlines c.self.inside.accepted (accepted_in c.self.inside.nodes c.self.inside.accepted) c.self.invariant c.in-Ok.id c.args.item _ c.in-Ok.ensures.was_vacant c.in-Ok.ensures.updates refl refl c.attach.new.nodes c.attach-2.new.nodes c.attach-3.new.nodes c.attach.new.ends c.attach-2.new.ends c.attach-3.new.ends c.from-seat.result c.from-terminal.result c.from-seat.ensures c.from-terminal.ensures c.requires.seat c.requires.terminal (omega (arith, c.self.invariant.bounded)) c.attach.ensures.inserts c.attach.ensures.elsewhere c.attach-2.ensures.inserts c.attach-2.ensures.elsewhere (rw later at c.attach-3.ensures.inserts) c.attach-3.ensures.elsewhere)

pub returns-clause-fresh : goal.returns-clause-fresh
returns-clause-fresh c = rw (c.of.ensures, ← c.self.view_is) (item_of-absent (accepted_in c.self.inside.nodes c.self.inside.accepted) c.in-Ok.id (not_waiting c.self.inside.nodes c.insert.new.self c.self.inside.tills c.self.inside.terminals c.self.inside.deadlines c.self.inside.accepted (accepted_in c.self.inside.nodes c.self.inside.accepted) c.self.invariant c.in-Ok.id c.args.item _ c.in-Ok.ensures.was_vacant c.in-Ok.ensures.updates refl refl))
