-- What recovery rests on: a key that a report has resolved has its terminal's Outcome, a report of what is open is said, and no terminal is set aside.
use Rattle.std.proofs.Common.{◌≡◌, ◌∙◌, ◌⊎◌, ◌≤◌, ◌<◌, ℕ, ltb, Bool, true, false, List, [], ◌∷◌, ◌++◌, length, refl, sym, ap, subst, inl, inr, arith, eqb, eq-eqb, eqb-true, leb-true, append_assoc}
use Rattle.std.proofs.lemmas.Bool.{and_from, and_parts, ltb-false, ltb-true}
use Rattle.std.proofs.lemmas.Option.{same_Some}
use Rattle.std.specs.Prelude.{◌==◌, ◌&&◌, nat_le, not, is_some, if◌then◌else◌, IsTrue, Option, Some, None, option_and_then, option_map, option_to_list, slice_get}
use Rattle.std.specs.List.{list_any, list_all}
use Rattle.gw_base.specs.declared.condition.Condition.TheVariants.{Aborted}
use Rattle.gw_base.specs.declared.figures.Figures.{Figures}
use Rattle.zvt_apdu.specs.Grammar.{ApduValue}
use Rattle.jrn_record.specs.Limits.{IsRecord}
use Rattle.jrn_record.specs.declared.records.Intent.{Intent as TheIntent}
use Rattle.jrn_record.specs.declared.records.Outcome.{Outcome as TheOutcome}
use Rattle.jrn_record.specs.declared.records.Record.{Record}
use Rattle.jrn_record.specs.declared.records.Record.TheVariants.{Intent, Outcome, Settled}
use Rattle.gw_ledger.specs.declared.entry.Entry.{Entry as TheEntry}
use Rattle.gw_ledger.specs.Accounts.{is_poi, open_slot}
use Rattle.gw_ledger.specs.Fold.{AreFolded, fits_beside_key}
use Rattle.gw_ledger.specs.History.{history}
use Rattle.gw_ledger.specs.Keys.{intent_key}
use Rattle.gw_ledger.specs.Slots.{as_outcome, ended_at, ended_in, intent_at, is_open, is_outcome_of}
use Rattle.gw_ledger.proofs.FoldLemmas.{along}
use Rattle.gw_ledger.proofs.HistoryLemmas.{history-push}
use Rattle.gw_ledger.proofs.RecordLemmas.{folded_beside, get_last}
use Rattle.gw_owes.specs.declared.terminal.Terminal.{Terminal}
use Rattle.gw_owes.specs.Calls.{records_kept}
use Rattle.gw_owes.specs.Handling.{handle_row}
use Rattle.gw_owes.specs.Items.{Handle}
use Rattle.gw_owes.specs.PaymentLaws.{ReportedApprovalIsKept, ReportedDeclineIsKept, ReportsOfOpen, UnperformedIsAborted, outcome_calls}
use Rattle.gw_owes.specs.RecordLaws.{IsInOrder}
use Rattle.gw_owes.specs.Reports.{Report, outcome_as_last, outcome_reported}
use Rattle.gw_owes.specs.Row.{Known}
use Rattle.gw_owes.specs.Serving.{refused_outcome, reply_to_outcome}
use Rattle.gw_owes.specs.WaitingLaws.{AreWaitsInOrder}
use Rattle.gw_owes.proofs.KeepingLemmas.{replies-keep-nothing}
use Rattle.gw_owes.proofs.RecordLemmas.{LedgerLaws, intent-stays, open-parts, open-without-outcome, same-text-itself, still-there}
use Rattle.gw_rules.specs.Lawful.{Stands}
use Rattle.gw_rules.specs.RecordOrder.{records_coming}
use Rattle.gw_rules.specs.Scene.{known_in}
use Rattle.gw_rules.specs.Stage.{is_running}
use Rattle.gw_rules.specs.View.{View, at_first, view_from}
use Rattle.gw_rules.proofs.RecordOrderLemmas.{between-items, each-log-folds, log-ordered, waits-between-items}
use Rattle.gw_rules.proofs.RecordRowLemmas.{LeavesInOrder, OrderLaws, rows-in-order}
use Rattle.gw_rules.proofs.SetupLemmas.{HasSetup, setup-within-limits}
use Rattle.gw_books.specs.Kinds.{booked_kind_of}
use Rattle.gw_books.specs.Past.{MadeLink, MadePoll, Past, numbering_at, past_of}
use Rattle.gw_books.specs.Books.{BookedEntry, Honest, is_caused}
use Rattle.gw_books.specs.Agrees.{is_approved_entry, is_report_on, is_resolved_on, report_resolves}
use Rattle.gw_books.specs.RecoveryLaws.{EachOutcomeIsTrue, HasTrueOutcome, HonestSetsNoneAside, IsReportedAt, ReportIsSaid, ReportedIsResolved, agrees_outcome, is_as_asked, is_entry_of}
use Rattle.gw_books.proofs.AgreeLemmas.{approved-for, entry-kind, none-approved, same-kind}
use Rattle.gw_books.proofs.HeadlineLemmas.{HoldsNumbered, holds-along, lean-folds}
use Rattle.gw_books.proofs.Holding.{AreKeyed, AreOutcomesTrue, BearsOut, IsFirstOf, IsOutcomeTrue}
use Rattle.gw_books.proofs.KeptReplyLemmas.{ended-entry, entry-found, first-reply-is-kept}
use Rattle.gw_books.proofs.ListLemmas.{In, all-in, any-from}
use Rattle.gw_books.proofs.Numbering.{IsStandingNumbered}
use Rattle.gw_books.proofs.RecordMoreLemmas.{first-of-first, outcomes-of-first}
use Rattle.gw_books.proofs.RecordNumberLemmas.{folded-first}
use Rattle.gw_books.proofs.RoundLemmas.{outcome-is-said}
use Rattle.gw_books.proofs.TillLemmas.{at-in, so-agrees}

-- ---- a slot that has ended

-- its Outcome is there
pub record HasEnd (records : List Record) (slot at : ℕ) : Type 0 where
  pub outcome : TheOutcome
  pub found : slice_get records at ≡ Some (Outcome outcome)
  pub slot_is : outcome.slot ≡ slot

-- so it is of each slot that has ended
abbrev EndsAreThere : List Record → Type 0
EndsAreThere records = (slot at : ℕ) → ended_at records slot ≡ Some at → HasEnd records slot at

-- the last record is the Outcome of the slot
own-end : (before : List Record) (next : Record) (slot : ℕ) → is_outcome_of slot next ≡ true → HasEnd (before ++ next ∷ []) slot (length before)
own-end before (Intent intent) slot own = absurd cc
own-end before (Outcome outcome) slot own = record { outcome = outcome; found = get_last before (Outcome outcome); slot_is = eqb-true outcome.slot slot own }
own-end before (Settled settled) slot own = absurd cc

end-step : (before : List Record) (next : Record) → EndsAreThere before → IsRecord next → IsTrue (fits_beside_key before next) → EndsAreThere (before ++ next ∷ [])
end-step before next ends within fitting slot at ended = by-last (eqb (length before) slot) (is_outcome_of slot next) refl (sym (ap (ended_in slot) (history-push before next)) ∙ ended)
  where
    by-last : (last own : Bool) → is_outcome_of slot next ≡ own → (if last then None else (if own then Some (length before) else ended_at before slot)) ≡ Some at → HasEnd (before ++ next ∷ []) slot at
    by-last true own test is = absurd cc
    by-last false true test is = subst (HasEnd (before ++ next ∷ []) slot) (same_Some (length before) at is) (own-end before next slot test)
    by-last false false test is = let was = ends slot at is in record { outcome = was.outcome; found = still-there before (next ∷ []) at (Outcome was.outcome) was.found; slot_is = was.slot_is }

none-ended : EndsAreThere []
unfolding history
none-ended slot at ended = absurd cc

pub end-there : (records : List Record) (slot at : ℕ) → AreFolded records → ended_at records slot ≡ Some at → HasEnd records slot at
end-there records slot at folded ended = along EndsAreThere end-step none-ended records (folded_beside records folded) slot at ended

-- an Intent is its terminal's open one, or has ended
open-or-ended : (laws : LedgerLaws) (records : List Record) (slot : ℕ) (intent : TheIntent) → AreFolded records → intent_at records slot ≡ Some intent
    → (open_slot records intent.poi ≡ Some slot) ⊎ ((at : ℕ) × (ended_at records slot ≡ Some at))
open-or-ended laws records slot intent folded asked = by-end (ended_at records slot) refl
  where
    by-end : (end : Option ℕ) → ended_at records slot ≡ end → (open_slot records intent.poi ≡ Some slot) ⊎ ((at : ℕ) × (ended_at records slot ≡ Some at))
    by-end (Some at) is = inr (at, is)
    by-end None is =
        let opened : is_open records slot ≡ true = ap (λ (i : Option TheIntent). is_some i && not (is_some (ended_at records slot))) asked ∙ ap (λ (end : Option ℕ). not (is_some end)) is in
        let mine : is_poi intent.poi (option_map (λ (i : TheIntent). i.poi) (intent_at records slot)) ≡ true =
        ap (λ (i : Option TheIntent). is_poi intent.poi (option_map (λ (one : TheIntent). one.poi) i)) asked ∙ same-text-itself intent.poi in
        inl ((laws.open_slots records folded intent.poi slot).1 (opened, mine))

-- ---- an Outcome agrees with the book

-- the Outcome of an Intent that is kept
module _ (laws : LedgerLaws) (kept : List Record) (folded : AreFolded kept) (past : Past) (book : List BookedEntry) (keyed : AreKeyed kept past.place past.commands) (honest : Honest past book) (place slot : ℕ) (intent : TheIntent)
    (intent_is : intent_at kept slot ≡ Some intent) (outcome : TheOutcome) where
  -- the entry of an approval has its numbers and its amount
  approval-agrees : BearsOut true past.commands book place (intent_key intent) outcome → list_any (is_entry_of past intent outcome) book ≡ true
  approval-agrees own =
      let entry = own.booked.entry in
      let approved : is_approved_entry past (intent_key intent) entry ≡ true = approved-for past keyed.falling own.command own.sent (intent_key intent) own.key_is entry own.booked.caused own.booked.approved in
      let caused : is_caused past entry entry.cause ≡ true = all-in (λ (one : BookedEntry). is_caused past one one.cause) book honest.caused entry own.booked.within in
      let kind = entry-kind laws kept folded past keyed entry caused own.command own.sent own.booked.caused slot intent intent_is own.key_is in
      any-from (is_entry_of past intent outcome) book entry own.booked.within
      (and_from (is_approved_entry past (intent_key intent) entry) _ approved
      (and_from (is_as_asked intent entry) _ (same-kind (booked_kind_of intent.what) entry.kind (sym kind))
      (and_from (entry.number == outcome.number) _ (eq-eqb entry.number outcome.number own.booked.number)
      (and_from (entry.receipt == outcome.receipt) (entry.amount == outcome.amount) (eq-eqb entry.receipt outcome.receipt own.booked.receipt) (eq-eqb entry.amount outcome.amount own.booked.amount)))))

  outcome-agrees : IsOutcomeTrue past.commands book place (intent_key intent) outcome → agrees_outcome past book intent outcome ≡ true
  outcome-agrees own = by-approved outcome.approved own
    where
      by-approved : (b : Bool) → BearsOut b past.commands book place (intent_key intent) outcome
          → (if b then list_any (is_entry_of past intent outcome) book else not (list_any (is_approved_entry past (intent_key intent)) book)) ≡ true
      by-approved true borne = approval-agrees borne
      by-approved false borne = none-approved past book (intent_key intent) borne

-- the Outcomes of a poll's records are true
polled-true : (v : View) (past : Past) (book : List BookedEntry) → HoldsNumbered v past book → (poll : MadePoll) → In poll past.polls → AreOutcomesTrue past.commands book past.place poll.kept
polled-true v past book both poll made =
    outcomes-of-first past.commands book past.place poll.kept coming.0 (subst (AreOutcomesTrue past.commands book past.place) coming.1 both.holds.outcomes)
  where
    coming : IsFirstOf poll.kept (records_coming v)
    coming = first-of-first poll.kept v.scene.kept (records_coming v) (both.holds.kept_polled poll made) (option_to_list v.scene.flight ++ records_kept v.calls, append_assoc v.scene.kept (option_to_list v.scene.flight) (records_kept v.calls))

pub each-outcome-is-true : OrderLaws → LedgerLaws → EachOutcomeIsTrue
each-outcome-is-true orders laws log past book polled poll at outcome intent has honest polled_is found asked =
    let own : Honest (past_of has.moves) book = subst (λ (p : Past). Honest p book) has.past_is honest in
    let both : HoldsNumbered (view_from at_first has.moves) (past_of has.moves) book = holds-along orders laws book has.moves has.lean.lawful own in
    let made : In poll (past_of has.moves).polls = at-in (past_of has.moves).polls polled poll (subst (λ (p : Past). slice_get p.polls polled ≡ Some poll) has.past_is polled_is) in
    let first : IsFirstOf poll.kept (view_from at_first has.moves).scene.kept = both.holds.kept_polled poll made in
    let asked_now : intent_at (view_from at_first has.moves).scene.kept outcome.slot ≡ Some intent =
    subst (λ (records : List Record). intent_at records outcome.slot ≡ Some intent) (sym first.1) (intent-stays poll.kept first.0 outcome.slot intent asked) in
    subst (λ (p : Past). agrees_outcome p book intent outcome ≡ true) (sym has.past_is)
    (outcome-agrees laws (view_from at_first has.moves).scene.kept (lean-folds orders log has.moves has.lean) (past_of has.moves) book both.holds.commands own (past_of has.moves).place outcome.slot intent asked_now outcome
    (polled-true (view_from at_first has.moves) (past_of has.moves) book both poll made at outcome intent found asked))

-- ---- what a report has resolved

module _ (laws : LedgerLaws) (v : View) (past : Past) (book : List BookedEntry) (folded : AreFolded v.scene.kept) (both : HoldsNumbered v past book) (honest : Honest past book) (poll : MadePoll) (link : MadeLink) (slot : ℕ) (intent : TheIntent)
    (reported : IsReportedAt past poll link slot intent) where
  made : In poll past.polls
  made = at-in past.polls reported.polled poll reported.poll_is

  -- the records of the poll are the first of those that are kept now
  kept-then : IsFirstOf poll.kept v.scene.kept
  kept-then = both.holds.kept_polled poll made

  poll-folds : AreFolded poll.kept
  poll-folds = folded-first poll.kept kept-then.0 (subst AreFolded kept-then.1 folded)

  -- their Outcomes are true
  then-true : AreOutcomesTrue past.commands book past.place poll.kept
  then-true = polled-true v past book both poll made

  -- what was open as the link was made is resolved
  resolved : is_resolved_on poll link ≡ true
  resolved =
      let each : list_all (report_resolves past poll) poll.links ≡ true = all-in (λ (one : MadePoll). list_all (report_resolves past one) one.links) past.polls both.holds.polls poll made in
      let own : report_resolves past poll link ≡ true = all-in (report_resolves past poll) poll.links each link (at-in poll.links reported.lasting link reported.link_is) in
      so-agrees (list_any (is_report_on poll link) past.ends) (is_resolved_on poll link) reported.reported own

  -- so that the Intent isn't open
  not-open : open_slot poll.kept intent.poi ≡ Some slot → ⊥
  not-open is_open =
      let there : open_slot poll.kept link.numbering.poi ≡ Some slot = ap (open_slot poll.kept) (sym reported.poi_is) ∙ is_open in
      let all : list_all (λ (at : ℕ). nat_le link.records at) (slot ∷ []) ≡ true = subst (λ (found : Option ℕ). list_all (λ (at : ℕ). nat_le link.records at) (option_to_list found) ≡ true) there resolved in
      let late : link.records ≤ slot = leb-true link.records slot (and_parts (nat_le link.records slot) true all).0 in
      let early : slot < link.records = reported.before in
      absurd (omega (arith, late, early))

  ended-true : (at : ℕ) → ended_at poll.kept slot ≡ Some at → HasTrueOutcome past book poll.kept slot intent
  ended-true at ended =
      let end = end-there poll.kept slot at poll-folds ended in
      let there = ended-entry poll.kept slot at intent end.outcome reported.intent_is ended (ap (option_and_then as_outcome) end.found) in
      let asked : intent_at poll.kept end.outcome.slot ≡ Some intent = ap (intent_at poll.kept) end.slot_is ∙ reported.intent_is in
      let asked-now : intent_at v.scene.kept end.outcome.slot ≡ Some intent =
      subst (λ (records : List Record). intent_at records end.outcome.slot ≡ Some intent) (sym kept-then.1) (intent-stays poll.kept kept-then.0 end.outcome.slot intent asked) in
      record {
        outcome = end.outcome;
        found = entry-found laws poll.kept slot intent _ poll-folds reported.intent_is there;
        true_outcome = outcome-agrees laws v.scene.kept folded past book both.holds.commands honest past.place end.outcome.slot intent asked-now end.outcome (then-true at end.outcome intent end.found asked);
      }

  pub resolved-true : HasTrueOutcome past book poll.kept slot intent
  resolved-true = by-end (open-or-ended laws poll.kept slot intent poll-folds reported.intent_is)
    where
      by-end : (open_slot poll.kept intent.poi ≡ Some slot) ⊎ ((at : ℕ) × (ended_at poll.kept slot ≡ Some at)) → HasTrueOutcome past book poll.kept slot intent
      by-end (inl is_open) = absurd (not-open is_open)
      by-end (inr ended) = ended-true ended.0 ended.1

pub reported-is-resolved : OrderLaws → LedgerLaws → ReportedIsResolved
reported-is-resolved orders laws log past book poll link slot intent has honest reported =
    let own : Honest (past_of has.moves) book = subst (λ (p : Past). Honest p book) has.past_is honest in
    let stands : Stands log (view_from at_first has.moves) = record { course = has.moves; log_is = has.lean.turns_are; lawful = has.lean.lawful; view_is = refl } in
    subst (λ (p : Past). HasTrueOutcome p book poll.kept slot intent) (sym has.past_is)
    (resolved-true laws (view_from at_first has.moves) (past_of has.moves) book (each-log-folds orders log (view_from at_first has.moves) stands).kept (holds-along orders laws book has.moves has.lean.lawful own) own poll link slot intent
    (subst (λ (p : Past). IsReportedAt p poll link slot intent) has.past_is reported))

-- ---- no terminal is set aside

pub sets-none-aside : OrderLaws → LedgerLaws → HonestSetsNoneAside
sets-none-aside orders laws log moves book number before reported lean honest aside =
    let along-moves = holds-along orders laws book moves lean.lawful honest in
    subst (IsStandingNumbered (past_of moves).links (past_of moves).commands (past_of moves).place book (numbering_at aside.terminal.pt)) aside.standing_is (along-moves.numbers.standings number aside.terminal aside.found)

-- ---- a report is said

-- the laws of what a report of what is open leaves
pub record ReportLaws : Type 0 where
  pub approved : ReportedApprovalIsKept
  pub declined : ReportedDeclineIsKept
  pub unperformed : UnperformedIsAborted

-- the Outcome of a report is that of the entry
slot-reported : (entry : TheEntry) (report : Report) (moment : ℕ) → (outcome_reported entry report moment).slot ≡ entry.slot
slot-reported entry report moment = by-test (ltb entry.intent.before report.trace) report.approved
  where
    by-test : (b : Bool) (approved : Option Figures)
        → (if b then outcome_as_last entry.slot approved report.result_code moment else refused_outcome entry.slot Aborted moment).slot ≡ entry.slot
    by-test true (Some figures) = refl
    by-test true None = refl
    by-test false approved = refl

module _ (reports : ReportLaws) (known : Known) (number : ℕ) (apdu : ApduValue) (terminal : Terminal) (report : Report) (entry : TheEntry) (of_open : ReportsOfOpen known number apdu terminal report entry)
    (not_below : entry.intent.before ≤ report.trace) where
  -- the Outcome is kept, and said
  abbrev Calls : TheOutcome → Type 0
  Calls outcome = (handle_row known number apdu).calls ≡ outcome_calls known terminal outcome

  last-calls : (approved : Option Figures) → report.approved ≡ approved → entry.intent.before < report.trace → Calls (outcome_as_last entry.slot approved report.result_code known.moment)
  last-calls (Some figures) is above = (reports.approved known number apdu terminal report entry figures of_open above is).calls_are
  last-calls None is above = (reports.declined known number apdu terminal report entry of_open above is).calls_are

  pub report-calls : Calls (outcome_reported entry report known.moment)
  report-calls = by-test (ltb entry.intent.before report.trace) refl
    where
      by-test : (b : Bool) → ltb entry.intent.before report.trace ≡ b
          → Calls (if b then outcome_as_last entry.slot report.approved report.result_code known.moment else refused_outcome entry.slot Aborted known.moment)
      by-test true above = last-calls report.approved refl (ltb-true entry.intent.before report.trace above)
      by-test false below =
          let most : report.trace ≤ entry.intent.before = ltb-false entry.intent.before report.trace below in
          let same : report.trace ≡ entry.intent.before = omega (arith, most, not_below) in
          (reports.unperformed known number apdu terminal report entry of_open same).calls_are

pub report-is-said : OrderLaws → LedgerLaws → ReportLaws → ReportIsSaid
report-is-said orders laws reports log v moves setup number apdu terminal report entry ends next of_open not_below =
    let k : HasSetup v.scene = record { setup = setup; setup_is = next.setup_is; within = setup-within-limits log v setup ends.before next.setup_is } in
    let known : Known = known_in v.scene setup in
    let order : IsInOrder known = between-items log v (log-ordered orders log v ends.before) k (ap is_running next.stage) next.calls in
    let waits : AreWaitsInOrder known = waits-between-items log v (log-ordered orders log v ends.before) k (ap is_running next.stage) next.calls in
    let outcome : TheOutcome = outcome_reported entry report v.scene.outside.moment in
    let calls : (handle_row known number apdu).calls ≡ outcome_calls known terminal outcome = report-calls reports known number apdu terminal report entry of_open not_below in
    let row : LeavesInOrder known (handle_row known number apdu) = rows-in-order orders v.scene.outside.tills known (Handle number apdu) order waits tt in
    let records : records_kept (handle_row known number apdu).calls ≡ Outcome outcome ∷ [] =
    ap records_kept calls ∙ ap (λ (more : List Record). Outcome outcome ∷ more) (replies-keep-nothing terminal.asker (reply_to_outcome v.scene.kept outcome.slot outcome)).no_records in
    let folded : AreFolded (v.scene.kept ++ Outcome outcome ∷ []) = subst (λ (more : List Record). AreFolded (v.scene.kept ++ more)) records row.folded in
    let opened = open-parts laws v.scene.kept order.folded terminal.pt.poi entry.slot entry.intent (open-without-outcome laws v.scene.kept order.folded terminal.pt.poi entry of_open.opened) in
    let asked : intent_at v.scene.kept outcome.slot ≡ Some entry.intent = ap (intent_at v.scene.kept) (slot-reported entry report v.scene.outside.moment) ∙ opened.intent_is in
    let first = first-reply-is-kept laws v.scene.kept outcome entry.intent folded asked in
    outcome-is-said log v moves setup number apdu terminal outcome first.reply ends next calls first.is_sent
