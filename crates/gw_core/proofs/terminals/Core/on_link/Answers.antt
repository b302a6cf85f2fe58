-- Proof of the contract of `on_link`.
use Rattle.std.proofs.Common.{ℕ, ap, sym, subst, ◌≡◌, ◌∙◌, to_z, of_z, w64}
use Rattle.std.specs.Prelude.{slice_get, Some}
use Rattle.std.proofs.lemmas.Int.{to_z-of_z}
use Rattle.std.proofs.lemmas.List.{length-set}
use Rattle.gw_base.specs.Moment.{IsMoment, moment_of}
use Rattle.gw_owes.specs.Core.{Core as CoreValue}
use Rattle.gw_owes.specs.Terminals.{after_command, unlinks, with_terminal}
use Rattle.gw_owes.specs.declared.terminal.Standing.TheVariants.{Registering}
use Rattle.gw_owes.specs.declared.terminal.Terminal.{Terminal}
use Rattle.gw_core.specs.IsRow.{IsRow, alone, known_with}
use Rattle.gw_core.proofs.CoreLemmas.{moment-stays, settings-stay, found-at, made-row, lost-row, registration-writable}
use Rattle.gw_core.proofs.terminals.Core.on_link.Goals as goal

pub returns-then-up-clause-row : goal.returns-then-up-clause-row
returns-then-up-clause-row c = λ setup kept.
    let core : CoreValue = record { terminals = c.self.inside.terminals.items; waits = c.self.inside.queues; logged_out = c.self.inside.sessions; device_requests = c.self.inside.device_requests } in
    let terminal : Terminal = c.index_mut-terminal.result.now in
    let found : slice_get core.terminals c.args.pt ≡ Some terminal = found-at core.terminals c.args.self.now c.args.pt c.from.result terminal (sym (ap (λ (held : CoreValue). held.terminals) c.self.view_is)) c.requires.there c.from.ensures c.index_mut-terminal.ensures.value in
    let taken : moment_of (to_z w64 (of_z w64 c.to_moment-now.result)) ≡ moment_of c.args.now =
    moment-stays c.args.now _ (to_z-of_z w64 c.to_moment-now.result (assumption (c.to_moment-now.type_inv)) ∙ simp (to_z-of_z, c.ranges.now) at c.to_moment-now.ensures.value) in
    rw (← c.self.view_is, c.from.ensures, c.if-up.true)
    (made-row (known_with setup kept core (moment_of c.args.now)) kept c.args.pt terminal c.ask.new.terminal c.registration-command.result c.ask.result found c.registration-command.ensures
    (subst (λ (moment : ℕ). c.ask.new.terminal ≡ after_command (record terminal { awaited = 0 }) c.registration-command.result Registering moment) taken c.ask.ensures.asked) c.ask.ensures.act)

pub returns-then-up-clause-wanted : goal.returns-then-up-clause-wanted
returns-then-up-clause-wanted c =
    let items = c.self.inside.terminals.items in
    let terminal : Terminal = c.index_mut-terminal.result.now in
    let found : slice_get items c.args.pt ≡ Some terminal = found-at items c.args.self.now c.args.pt c.from.result terminal (sym (ap (λ (held : CoreValue). held.terminals) c.self.view_is)) c.requires.there c.from.ensures c.index_mut-terminal.ensures.value in
    c.ask.ensures.wanted (rw c.registration-command.ensures (registration-writable terminal.pt (c.self.invariant.1 c.args.pt terminal found)))

pub invariant_of-self : goal.invariant_of-self
invariant_of-self c =
    let items = c.self.inside.terminals.items in
    let terminal : Terminal = c.index_mut-terminal.result.now in
    let found : slice_get items c.args.pt ≡ Some terminal = found-at items c.args.self.now c.args.pt c.from.result terminal (sym (ap (λ (held : CoreValue). held.terminals) c.self.view_is)) c.requires.there c.from.ensures c.index_mut-terminal.ensures.value in
    rw c.from.ensures (rw length-set c.self.invariant.0, settings-stay items c.args.pt terminal c.ask.new.terminal c.self.invariant.1 found (ap (λ (t : Terminal). t.pt) c.ask.ensures.asked), c.self.invariant.2)

pub invariant_of-self-2 : goal.invariant_of-self-2
invariant_of-self-2 c =
    let items = c.self.inside.terminals.items in
    let terminal : Terminal = c.index_mut-terminal.result.now in
    let found : slice_get items c.args.pt ≡ Some terminal = found-at items c.args.self.now c.args.pt c.from.result terminal (sym (ap (λ (held : CoreValue). held.terminals) c.self.view_is)) c.requires.there c.from.ensures c.index_mut-terminal.ensures.value in
    rw c.from.ensures (rw length-set c.self.invariant.0, settings-stay items c.args.pt terminal c.unlink.new.terminal c.self.invariant.1 found c.unlink.ensures.settings, c.self.invariant.2)

pub returns-clause-row : goal.returns-clause-row
returns-clause-row c = λ setup kept.
    let core : CoreValue = record { terminals = c.self.inside.terminals.items; waits = c.self.inside.queues; logged_out = c.self.inside.sessions; device_requests = c.self.inside.device_requests } in
    let terminal : Terminal = c.index_mut-terminal.result.now in
    let held : c.args.self.now.terminals ≡ core.terminals = sym (ap (λ (held : CoreValue). held.terminals) c.self.view_is) in
    let found : slice_get core.terminals c.args.pt ≡ Some terminal = found-at core.terminals c.args.self.now c.args.pt c.from.result terminal held c.requires.there c.from.ensures c.index_mut-terminal.ensures.value in
    let taken : moment_of (to_z w64 (of_z w64 c.to_moment-now.result)) ≡ moment_of c.args.now =
    moment-stays c.args.now _ (to_z-of_z w64 c.to_moment-now.result (assumption (c.to_moment-now.type_inv)) ∙ simp (to_z-of_z, c.ranges.now) at c.to_moment-now.ensures.value) in
    rw (← c.self.view_is, c.from.ensures, c.if-up.false)
    (lost-row (known_with setup kept core (moment_of c.args.now)) kept c.args.pt terminal c.unlink.new.terminal (alone c.unlink.result) found
    (subst (λ (moment : ℕ). IsRow kept (unlinks (known_with setup kept core moment) c.args.pt terminal) (with_terminal core c.args.pt c.unlink.new.terminal) (alone c.unlink.result)) taken (c.unlink.ensures.row setup kept core c.args.pt)))

pub ask-requires-clause-moment : goal.ask-requires-clause-moment
ask-requires-clause-moment c = subst IsMoment (sym (to_z-of_z w64 c.to_moment-now.result (assumption (c.to_moment-now.type_inv)))) c.to_moment-now.ensures.moment

pub unlink-requires : goal.unlink-requires
unlink-requires c = subst IsMoment (sym (to_z-of_z w64 c.to_moment-now.result (assumption (c.to_moment-now.type_inv)))) c.to_moment-now.ensures.moment
