-- Proof of the contract of `begin_at_terminal`.
use Rattle.std.proofs.Common.{◌≡◌, ◌∙◌, ℕ, w64, to_z, of_z, sym, subst, ap}
use Rattle.std.specs.Prelude.{slice_get, Some, pos}
use Rattle.std.proofs.lemmas.Int.{to_z-of_z}
use Rattle.std.proofs.lemmas.List.{length-set}
use Rattle.gw_base.specs.Moment.{IsMoment, moment_of}
use Rattle.gw_owes.specs.Core.{Core as CoreValue}
use Rattle.gw_owes.specs.Payments.{serve_row}
use Rattle.gw_owes.specs.Terminals.{with_terminal}
use Rattle.gw_owes.specs.declared.terminal.Terminal.{Terminal}
use Rattle.gw_core.specs.Beginning.{MayBegin, begun_row}
use Rattle.gw_core.specs.IsRow.{IsRow, known_with}
use Rattle.gw_core.proofs.BeginLemmas.{IsAlone, begins-may, begins-row}
use Rattle.gw_core.proofs.CoreLemmas.{moment-stays, found-at, settings-stay}
use Rattle.gw_core.proofs.terminals.Core.begin_at_terminal.Goals as goal

pub begin_request-requires-clause-settings : goal.begin_request-requires-clause-settings
begin_request-requires-clause-settings c =
    let items = c.self.inside.terminals.items in
    let terminal : Terminal = c.index_mut-terminal.result.now in
    c.self.invariant.1 c.args.pt terminal
    (found-at items c.args.self.now c.args.pt c.from.result terminal (sym (ap (λ (held : CoreValue). held.terminals) c.self.view_is)) c.requires.there c.from.ensures c.index_mut-terminal.ensures.value)

pub begin_request-requires-clause-begins : goal.begin_request-requires-clause-begins
begin_request-requires-clause-begins c =
    let items = c.self.inside.terminals.items in
    let terminal : Terminal = c.index_mut-terminal.result.now in
    let found : slice_get items c.args.pt ≡ Some terminal = found-at items c.args.self.now c.args.pt c.from.result terminal (sym (ap (λ (held : CoreValue). held.terminals) c.self.view_is)) c.requires.there c.from.ensures c.index_mut-terminal.ensures.value in
    let held : slice_get c.args.self.now.terminals c.args.pt ≡ Some terminal = subst (λ (held : CoreValue). slice_get held.terminals c.args.pt ≡ Some terminal) c.self.view_is found in
    let taken : moment_of (to_z w64 (of_z w64 c.to_moment-now.result)) ≡ moment_of c.args.now =
    moment-stays c.args.now _ (to_z-of_z w64 c.to_moment-now.result (assumption (c.to_moment-now.type_inv)) ∙ simp (to_z-of_z, c.ranges.now) at c.to_moment-now.ensures.value) in
    let moment_is : IsMoment (pos (moment_of c.args.now)) = subst IsMoment (simp (to_z-of_z, c.ranges.now) at c.to_moment-now.ensures.value) c.to_moment-now.ensures.moment in
    let alone : IsAlone c.args.ledger.now.records terminal c.args.gateway.now.slots (moment_of c.args.now) = record {
      rows = c.law_records.ensures.rows;
      settled = c.law_fits.ensures.settled;
      folded = c.law_folded.ensures;
      settings = c.self.invariant.1 c.args.pt terminal found;
      order = c.requires.order c.args.pt terminal held;
      greatest = c.requires.slots;
      at = moment_is;
    } in
    subst (λ (moment : ℕ). MayBegin c.args.ledger.now.records moment c.args.header.now c.args.request.now terminal) (sym taken)
    (begins-may c.args.gateway.now c.args.ledger.now.records c.args.self.now (moment_of c.args.now) c.args.pt c.args.header.now c.args.request.now c.requires.other c.requires.begins terminal held alone)

pub invariant_of-self : goal.invariant_of-self
invariant_of-self c =
    let items = c.self.inside.terminals.items in
    let terminal : Terminal = c.index_mut-terminal.result.now in
    let found : slice_get items c.args.pt ≡ Some terminal = found-at items c.args.self.now c.args.pt c.from.result terminal (sym (ap (λ (held : CoreValue). held.terminals) c.self.view_is)) c.requires.there c.from.ensures c.index_mut-terminal.ensures.value in
    rw c.from.ensures (rw length-set c.self.invariant.0, settings-stay items c.args.pt terminal c.begin_request.new.terminal c.self.invariant.1 found c.begin_request.ensures.settings, c.self.invariant.2)

pub returns-clause-row : goal.returns-clause-row
returns-clause-row c = λ known is.
    let items = c.self.inside.terminals.items in
    let terminal : Terminal = c.index_mut-terminal.result.now in
    let found : slice_get items c.args.pt ≡ Some terminal = found-at items c.args.self.now c.args.pt c.from.result terminal (sym (ap (λ (held : CoreValue). held.terminals) c.self.view_is)) c.requires.there c.from.ensures c.index_mut-terminal.ensures.value in
    let held : slice_get c.args.self.now.terminals c.args.pt ≡ Some terminal = subst (λ (held : CoreValue). slice_get held.terminals c.args.pt ≡ Some terminal) c.self.view_is found in
    let taken : moment_of (to_z w64 (of_z w64 c.to_moment-now.result)) ≡ moment_of c.args.now =
    moment-stays c.args.now _ (to_z-of_z w64 c.to_moment-now.result (assumption (c.to_moment-now.type_inv)) ∙ simp (to_z-of_z, c.ranges.now) at c.to_moment-now.ensures.value) in
    let row = begins-row c.args.gateway.now c.args.ledger.now.records c.args.self.now (moment_of c.args.now) c.args.pt c.args.header.now c.args.request.now c.requires.other c.requires.begins c.args.till terminal c.begin_request.new.terminal c.begin_request.result held
    (λ setup. subst (λ (moment : ℕ). IsRow c.args.ledger.now.records
    (begun_row (known_with setup c.args.ledger.now.records c.args.self.now moment) c.args.pt c.args.till c.args.header.now terminal c.args.request.now)
    (with_terminal c.args.self.now c.args.pt c.begin_request.new.terminal) c.begin_request.result) taken (c.begin_request.ensures.row setup c.args.self.now held)) known is in
    rw c.from.ensures (subst (λ (held : CoreValue). IsRow c.args.ledger.now.records (serve_row known c.args.pt c.args.till c.args.header.now c.args.request.now)
    (with_terminal held c.args.pt c.begin_request.new.terminal) c.begin_request.result) (sym c.self.view_is) row)

pub begin_request-requires-clause-moment : goal.begin_request-requires-clause-moment
begin_request-requires-clause-moment c = subst IsMoment (sym (to_z-of_z w64 c.to_moment-now.result (assumption (c.to_moment-now.type_inv)))) c.to_moment-now.ensures.moment
