-- Proof of the contract of `on_pt`.
use Rattle.std.proofs.Common.{◌≡◌, ◌<◌, ◌∙◌, ℕ, w64, to_z, of_z, length, refl, sym, subst, ap}
use Rattle.std.specs.Prelude.{get_or, slice_get, Some}
use Rattle.std.proofs.lemmas.Int.{to_z-of_z}
use Rattle.std.proofs.lemmas.List.{length-set}
use Rattle.zvt_msg.specs.Message.{value_of}
use Rattle.gw_base.specs.Moment.{IsMoment, moment_of}
use Rattle.gw_owes.specs.Row.{owing_where}
use Rattle.gw_owes.specs.Core.{Core as CoreValue}
use Rattle.gw_owes.specs.Handling.{handle_message}
use Rattle.gw_owes.specs.Links.{is_linked}
use Rattle.gw_owes.specs.declared.terminal.Terminal.{Terminal}
use Rattle.gw_core.specs.IsRow.{IsRow, known_with, with_numbered}
use Rattle.gw_core.proofs.CoreLemmas.{moment-stays, found-at, settings-stay}
use Rattle.gw_core.proofs.HandlingLemmas.{pt-row}
use Rattle.gw_core.proofs.terminals.Core.on_pt.Goals as goal

pub handle-acts-requires-clause-settings : goal.handle-acts-requires-clause-settings
handle-acts-requires-clause-settings c =
    let items = c.self.inside.terminals.items in
    let terminal : Terminal = c.index_mut-terminal.result.now in
    c.self.invariant.1 c.args.pt terminal
    (found-at items c.args.self.now c.args.pt c.from.result terminal (sym (ap (λ (held : CoreValue). held.terminals) c.self.view_is)) c.requires.there c.from.ensures c.index_mut-terminal.ensures.value)

pub handle-acts-requires-clause-order : goal.handle-acts-requires-clause-order
handle-acts-requires-clause-order c =
    let items = c.self.inside.terminals.items in
    let terminal : Terminal = c.index_mut-terminal.result.now in
    let found : slice_get items c.args.pt ≡ Some terminal = found-at items c.args.self.now c.args.pt c.from.result terminal (sym (ap (λ (held : CoreValue). held.terminals) c.self.view_is)) c.requires.there c.from.ensures c.index_mut-terminal.ensures.value in
    c.requires.order c.args.pt terminal (subst (λ (held : CoreValue). slice_get held.terminals c.args.pt ≡ Some terminal) c.self.view_is found)

pub returns-clause-row : goal.returns-clause-row
returns-clause-row c = λ setup.
    let kept = c.args.ledger.now.records in
    let core : CoreValue = record { terminals = c.self.inside.terminals.items; waits = c.self.inside.queues; logged_out = c.self.inside.sessions; device_requests = c.self.inside.device_requests } in
    let inside : c.args.pt < length core.terminals = subst (λ (held : CoreValue). c.args.pt < length held.terminals) (sym c.self.view_is) c.requires.there in
    let is : c.index_mut-terminal.result.now ≡ get_or core.terminals c.args.pt c.index_mut-terminal.result.now =
    subst (λ (at : ℕ). c.index_mut-terminal.result.now ≡ get_or core.terminals at c.index_mut-terminal.result.now) c.from.ensures c.index_mut-terminal.ensures.value in
    let taken : moment_of (to_z w64 (of_z w64 c.to_moment-now.result)) ≡ moment_of c.args.now =
    moment-stays c.args.now _ (to_z-of_z w64 c.to_moment-now.result (assumption (c.to_moment-now.type_inv)) ∙ simp (to_z-of_z, c.ranges.now) at c.to_moment-now.ensures.value) in
    rw (← c.self.view_is, c.from.ensures)
    (pt-row (known_with setup kept core (moment_of c.args.now)) c.args.pt c.index_mut-terminal.result.now (value_of c.args.message.now) (with_numbered core c.args.pt c.handle-acts.new.terminal c.handle-acts.new.number) c.handle-acts.result inside is
    (λ found. subst (λ (moment : ℕ). IsRow kept (owing_where (is_linked c.index_mut-terminal.result.now.standing) (known_with setup kept core moment)
    (handle_message (known_with setup kept core moment) c.args.pt c.index_mut-terminal.result.now (value_of c.args.message.now)))
    (with_numbered core c.args.pt c.handle-acts.new.terminal c.handle-acts.new.number) c.handle-acts.result) taken (c.handle-acts.ensures.row setup core found refl)))

pub invariant_of-self : goal.invariant_of-self
invariant_of-self c =
    let items = c.self.inside.terminals.items in
    let terminal : Terminal = c.index_mut-terminal.result.now in
    let found : slice_get items c.args.pt ≡ Some terminal = found-at items c.args.self.now c.args.pt c.from.result terminal (sym (ap (λ (held : CoreValue). held.terminals) c.self.view_is)) c.requires.there c.from.ensures c.index_mut-terminal.ensures.value in
    rw c.from.ensures (rw length-set c.self.invariant.0, settings-stay items c.args.pt terminal c.handle-acts.new.terminal c.self.invariant.1 found c.handle-acts.ensures.settings, c.handle-acts.ensures.number)

pub handle-acts-requires-clause-moment : goal.handle-acts-requires-clause-moment
handle-acts-requires-clause-moment c = subst IsMoment (sym (to_z-of_z w64 c.to_moment-now.result (assumption (c.to_moment-now.type_inv)))) c.to_moment-now.ensures.moment
