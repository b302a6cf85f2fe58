-- Proof of the contract of `begin_waiting`.
use Rattle.std.proofs.Common.{◌≡◌, ◌∙◌, ℤ, w64, [], ◌∷◌, refl, sym, subst, ap}
use Rattle.std.proofs.lemmas.Int.{to_z-of_z}
use Rattle.std.specs.Prelude.{slice_get, IfSome, Option, Some, None}
use Rattle.std.proofs.lemmas.Option.{same_Some}
use Rattle.gw_base.specs.declared.condition.Condition.{Condition}
use Rattle.gw_base.specs.declared.setup.Setup.{Setup}
use Rattle.gw_base.specs.Moment.{moment_of}
use Rattle.gw_owes.specs.Items.{NextWaiting}
use Rattle.gw_owes.specs.Steps.{refused_again}
use Rattle.gw_owes.specs.WaitingRows.{begins_from_queue}
use Rattle.gw_owes.specs.declared.terminal.Terminal.{Terminal}
use Rattle.gw_core.specs.Beginning.{MayBegin, MayBeNext, first_left_row}
use Rattle.gw_core.specs.IsRow.{IsRow, IsRowThen, known_with}
use Rattle.gw_core.specs.Queues.{as_wait}
use Rattle.gw_core.proofs.terminals.Core.begin_waiting.Goals as goal

-- some setup, of which nothing here depends
some_setup : Setup
some_setup = record { name = []; listen = []; journal = []; line = 0; wait = 1; slots = 2; terminals = [] }

pub returns-in-Some-clause-wanted : goal.returns-in-Some-clause-wanted
returns-in-Some-clause-wanted c = c.refusal_of.ensures.wanted c.args.pt

pub returns-in-Some-clause-row : goal.returns-in-Some-clause-row
returns-in-Some-clause-row c = λ setup one found.
    let known = known_with setup c.args.ledger.now.records c.args.self.now (moment_of c.args.now) in
    let wait = as_wait c.args.item in
    let same : c.terminal.result.now ≡ one = same_Some c.terminal.result.now one (sym c.terminal.ensures ∙ found) in
    let is : refused_again known wait.header wait.request (Some (record { number = c.args.pt; terminal = one })) ≡ Some c.in-Some.condition =
    sym (c.refused_again.ensures known refl c.args.pt ∙ ap (λ (t : Terminal). refused_again known wait.header wait.request (Some (record { number = c.args.pt; terminal = t }))) same) ∙ c.in-Some.is in
    subst (λ (refused : Option Condition). IsRowThen c.args.ledger.now.records (first_left_row known c.args.pt one wait refused) c.args.self.now (record { keep = None; act = Some c.refusal_of.result }) (NextWaiting c.args.pt ∷ [])) (sym is)
    (record { core_is = refl; calls_are = c.refusal_of.ensures.calls; items_are = refl })

pub begin_first-requires-clause-begins : goal.begin_first-requires-clause-begins
begin_first-requires-clause-begins c =
    let wait = as_wait c.args.item in
    let next : MayBeNext c.args.ledger.now.records (moment_of c.args.now) c.args.pt wait c.terminal.result.now =
    subst (λ (found : Option Terminal). IfSome found (MayBeNext c.args.ledger.now.records (moment_of c.args.now) c.args.pt wait)) c.terminal.ensures c.requires.begins in
    let passes = sym (c.refused_again.ensures (known_with some_setup c.args.ledger.now.records c.args.self.now (moment_of c.args.now)) refl c.args.pt) ∙ c.in-None.is in
    subst (λ (now : ℤ). IfSome (slice_get c.args.self.now.terminals c.args.pt) (MayBegin c.args.ledger.now.records (moment_of now) c.args.item.header c.args.item.request)) (sym (to_z-of_z w64 c.args.now c.ranges.now))
    (subst (λ (found : Option Terminal). IfSome found (MayBegin c.args.ledger.now.records (moment_of c.args.now) c.args.item.header c.args.item.request)) (sym c.terminal.ensures) (next.begins some_setup c.args.self.now passes))

pub begin_first-requires-clause-may : goal.begin_first-requires-clause-may
begin_first-requires-clause-may c =
    let next : MayBeNext c.args.ledger.now.records (moment_of c.args.now) c.args.pt (as_wait c.args.item) c.terminal.result.now =
    subst (λ (found : Option Terminal). IfSome found (MayBeNext c.args.ledger.now.records (moment_of c.args.now) c.args.pt (as_wait c.args.item))) c.terminal.ensures c.requires.begins in
    next.may

pub returns-in-None-clause-row : goal.returns-in-None-clause-row
returns-in-None-clause-row c = λ setup one found.
    let known = known_with setup c.args.ledger.now.records c.args.self.now (moment_of c.args.now) in
    let wait = as_wait c.args.item in
    let same : c.terminal.result.now ≡ one = same_Some c.terminal.result.now one (sym c.terminal.ensures ∙ found) in
    let is : refused_again known wait.header wait.request (Some (record { number = c.args.pt; terminal = one })) ≡ None =
    sym (c.refused_again.ensures known refl c.args.pt ∙ ap (λ (t : Terminal). refused_again known wait.header wait.request (Some (record { number = c.args.pt; terminal = t }))) same) ∙ c.in-None.is in
    let row : IsRow c.args.ledger.now.records (begins_from_queue known c.args.pt wait.till wait.header wait.request one) c.begin_first.new.self c.begin_first.result =
    subst (λ (now : ℤ). IsRow c.args.ledger.now.records (begins_from_queue (known_with setup c.args.ledger.now.records c.args.self.now (moment_of now)) c.args.pt wait.till wait.header wait.request one) c.begin_first.new.self c.begin_first.result)
    (to_z-of_z w64 c.args.now c.ranges.now) (c.begin_first.ensures.row setup one found) in
    subst (λ (refused : Option Condition). IsRowThen c.args.ledger.now.records (first_left_row known c.args.pt one wait refused) c.begin_first.new.self c.begin_first.result []) (sym is)
    (record { core_is = row.core_is; calls_are = row.calls_are; items_are = row.items_are })
