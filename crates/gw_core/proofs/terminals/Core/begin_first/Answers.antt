-- Proof of the contract of `begin_first`.
use Rattle.std.proofs.Common.{◌≡◌, ◌∙◌, ℕ, w64, to_z, of_z, sym, subst, ap}
use Rattle.std.specs.Prelude.{slice_get, IfSome, Option, Some}
use Rattle.std.proofs.lemmas.Int.{to_z-of_z}
use Rattle.std.proofs.lemmas.List.{length-set}
use Rattle.std.proofs.lemmas.Option.{same_Some}
use Rattle.gw_base.specs.Moment.{IsMoment, moment_of}
use Rattle.gw_owes.specs.Core.{Core as CoreValue}
use Rattle.gw_owes.specs.Terminals.{with_terminal}
use Rattle.gw_owes.specs.WaitingRows.{begins_from_queue}
use Rattle.gw_owes.specs.declared.terminal.Terminal.{Terminal}
use Rattle.gw_core.specs.Beginning.{MayBegin, begun_row}
use Rattle.gw_core.specs.IsRow.{IsRow, known_with}
use Rattle.gw_core.proofs.CoreLemmas.{moment-stays, found-at, settings-stay}
use Rattle.gw_core.proofs.FirstInQueueLemmas.{from-queue, none-prepared}
use Rattle.gw_core.proofs.terminals.Core.begin_first.Goals as goal

pub begin_request-requires-clause-settings : goal.begin_request-requires-clause-settings
begin_request-requires-clause-settings c =
    let items = c.self.inside.terminals.items in
    let terminal : Terminal = c.index_mut-terminal.result.now in
    c.self.invariant.1 c.args.pt terminal
    (found-at items c.args.self.now c.args.pt c.from.result terminal (sym (ap (λ (held : CoreValue). held.terminals) c.self.view_is)) c.requires.there c.from.ensures c.index_mut-terminal.ensures.value)

pub begin_request-requires-clause-prepared : goal.begin_request-requires-clause-prepared
begin_request-requires-clause-prepared c = none-prepared c.args.item.request c.requires.may

pub begin_request-requires-clause-begins : goal.begin_request-requires-clause-begins
begin_request-requires-clause-begins c =
    let items = c.self.inside.terminals.items in
    let terminal : Terminal = c.index_mut-terminal.result.now in
    let found : slice_get items c.args.pt ≡ Some terminal = found-at items c.args.self.now c.args.pt c.from.result terminal (sym (ap (λ (held : CoreValue). held.terminals) c.self.view_is)) c.requires.there c.from.ensures c.index_mut-terminal.ensures.value in
    let held : slice_get c.args.self.now.terminals c.args.pt ≡ Some terminal = subst (λ (held : CoreValue). slice_get held.terminals c.args.pt ≡ Some terminal) c.self.view_is found in
    let taken : moment_of (to_z w64 (of_z w64 c.to_moment-now.result)) ≡ moment_of c.args.now =
    moment-stays c.args.now _ (to_z-of_z w64 c.to_moment-now.result (assumption (c.to_moment-now.type_inv)) ∙ simp (to_z-of_z, c.ranges.now) at c.to_moment-now.ensures.value) in
    subst (λ (moment : ℕ). MayBegin c.args.ledger.now.records moment c.args.item.header c.args.item.request terminal) (sym taken)
    (subst (λ (found : Option Terminal). IfSome found (MayBegin c.args.ledger.now.records (moment_of c.args.now) c.args.item.header c.args.item.request)) held c.requires.begins)

pub invariant_of-self : goal.invariant_of-self
invariant_of-self c =
    let items = c.self.inside.terminals.items in
    let terminal : Terminal = c.index_mut-terminal.result.now in
    let found : slice_get items c.args.pt ≡ Some terminal = found-at items c.args.self.now c.args.pt c.from.result terminal (sym (ap (λ (held : CoreValue). held.terminals) c.self.view_is)) c.requires.there c.from.ensures c.index_mut-terminal.ensures.value in
    rw c.from.ensures (rw length-set c.self.invariant.0, settings-stay items c.args.pt terminal c.begin_request.new.terminal c.self.invariant.1 found c.begin_request.ensures.settings, c.self.invariant.2)

pub returns-clause-row : goal.returns-clause-row
returns-clause-row c = λ setup one is.
    let items = c.self.inside.terminals.items in
    let terminal : Terminal = c.index_mut-terminal.result.now in
    let found : slice_get items c.args.pt ≡ Some terminal = found-at items c.args.self.now c.args.pt c.from.result terminal (sym (ap (λ (held : CoreValue). held.terminals) c.self.view_is)) c.requires.there c.from.ensures c.index_mut-terminal.ensures.value in
    let held : slice_get c.args.self.now.terminals c.args.pt ≡ Some terminal = subst (λ (held : CoreValue). slice_get held.terminals c.args.pt ≡ Some terminal) c.self.view_is found in
    let taken : moment_of (to_z w64 (of_z w64 c.to_moment-now.result)) ≡ moment_of c.args.now =
    moment-stays c.args.now _ (to_z-of_z w64 c.to_moment-now.result (assumption (c.to_moment-now.type_inv)) ∙ simp (to_z-of_z, c.ranges.now) at c.to_moment-now.ensures.value) in
    let same : terminal ≡ one = same_Some terminal one (sym held ∙ is) in
    let known = known_with setup c.args.ledger.now.records c.args.self.now (moment_of c.args.now) in
    let core : CoreValue = with_terminal c.args.self.now c.args.pt c.begin_request.new.terminal in
    let row : IsRow c.args.ledger.now.records (begins_from_queue known c.args.pt c.args.item.till c.args.item.header c.args.item.request terminal) core c.begin_request.result =
    from-queue c.args.ledger.now.records known c.args.pt c.args.item.till c.args.item.header c.args.item.request terminal core c.begin_request.result c.requires.may
    (subst (λ (moment : ℕ). IsRow c.args.ledger.now.records
    (begun_row (known_with setup c.args.ledger.now.records c.args.self.now moment) c.args.pt c.args.item.till c.args.item.header terminal c.args.item.request) core c.begin_request.result) taken
    (c.begin_request.ensures.row setup c.args.self.now held)) in
    rw c.from.ensures (subst (λ (before : CoreValue). IsRow c.args.ledger.now.records (begins_from_queue known c.args.pt c.args.item.till c.args.item.header c.args.item.request one)
    (with_terminal before c.args.pt c.begin_request.new.terminal) c.begin_request.result) (sym c.self.view_is)
    (subst (λ (t : Terminal). IsRow c.args.ledger.now.records (begins_from_queue known c.args.pt c.args.item.till c.args.item.header c.args.item.request t) core c.begin_request.result) same row))

pub begin_request-requires-clause-moment : goal.begin_request-requires-clause-moment
begin_request-requires-clause-moment c = subst IsMoment (sym (to_z-of_z w64 c.to_moment-now.result (assumption (c.to_moment-now.type_inv)))) c.to_moment-now.ensures.moment
