-- What a message of a terminal leaves and owes keeps what is known in order.
use Rattle.std.proofs.Common.{◌≡◌, ◌∙◌, ℕ, ◌^◌, ◌<◌, ◌≤◌, max, Bool, true, false, ltb, leb, List, [], ◌∷◌, ◌++◌, length, refl, sym, ap, subst, arith}
use Rattle.std.specs.Prelude.{Option, Some, None, option_and_then, if◌then◌else◌, pos}
use Rattle.std.proofs.lemmas.Bool.{leb-true, ltb-true}
use Rattle.gw_base.specs.Limits.{IsTrace}
use Rattle.gw_base.specs.Moment.{IsMoment}
use Rattle.gw_base.specs.declared.condition.Condition.TheVariants.{Aborted}
use Rattle.gw_base.specs.declared.figures.Figures.{Figures}
use Rattle.gw_base.specs.declared.key.Key.{Key}
use Rattle.gw_base.specs.declared.setup.Pt.{Pt}
use Rattle.sale_values.specs.declared.header.Header.{Header}
use Rattle.sale_values.specs.declared.names.Period.{Period}
use Rattle.sale_reply.specs.declared.reply.Shown.{Shown}
use Rattle.zvt_talk.specs.declared.meaning.Heard.{Heard}
use Rattle.zvt_talk.specs.declared.meaning.Heard.TheVariants as heard
use Rattle.zvt_talk.specs.Limits.{FiguresFitRecord}
use Rattle.jrn_record.specs.Limits.{IsOutcome}
use Rattle.jrn_record.specs.declared.records.Intent.{Intent as TheIntent}
use Rattle.jrn_record.specs.declared.records.Outcome.{Outcome as TheOutcome}
use Rattle.jrn_record.specs.declared.records.Record.TheVariants.{Outcome, Settled}
use Rattle.jrn_record.specs.declared.records.How.TheVariants as hows
use Rattle.jrn_record.specs.declared.records.Settled.{Settled as TheSettled}
use Rattle.gw_ledger.specs.declared.entry.Entry.{Entry as TheEntry}
use Rattle.gw_ledger.specs.Accounts.{last_number_of}
use Rattle.gw_ledger.specs.Fold.{fits, found_of, open_entry}
use Rattle.gw_ledger.specs.Keys.{settled_key}
use Rattle.gw_ledger.specs.Laws.{IsEntryWithin}
use Rattle.gw_ledger.specs.Slots.{entry_at}
use Rattle.gw_ledger.specs.Sums.{open_count_of}
use Rattle.gw_owes.specs.declared.terminal.Service.{Service}
use Rattle.gw_owes.specs.declared.terminal.Service.TheVariants.{Transaction, EndOfDay, Display}
use Rattle.gw_owes.specs.declared.terminal.Standing.{Standing}
use Rattle.gw_owes.specs.declared.terminal.Standing.TheVariants.{Unlinked, Registering, Enquiring, Ready, Serving, Aside}
use Rattle.gw_owes.specs.declared.terminal.Terminal.{Terminal}
use Rattle.gw_owes.specs.Awaited.{one_more_awaited}
use Rattle.gw_owes.specs.Calls.{OwedCall}
use Rattle.gw_owes.specs.Displays.{serving_display}
use Rattle.gw_owes.specs.HeardLaws.{AreFiguresOf, FitsRecord, IsReportFit, IsTraceOrNone}
use Rattle.gw_owes.specs.Handling.{consequence, enquires, enquiring, enquiry_command, registering, serving}
use Rattle.gw_owes.specs.Reconciliations.{day_done, reply_to_settled, serving_day, settled_of}
use Rattle.gw_owes.specs.RecordLaws.{AreRecordsOf, HasNoneOpen, IsDayServed, IsDisplayServed, IsInOrder, IsServedOpen, IsTerminalInOrder}
use Rattle.gw_owes.specs.Reports.{Report, on_record, outcome_as_last, outcome_reported, report_against, report_of_open, report_row, standing_reported}
use Rattle.gw_owes.specs.Row.{Known}
use Rattle.gw_owes.specs.Serving.{at_rest, approved_outcome, approved_row, declined_outcome, declined_row, done_with, breaking, last_after_decline, refused_outcome, reply_to_outcome, resolves, serving_transaction, staying, stops, was_stopped}
use Rattle.gw_owes.specs.Terminals.{after_command, reply_calls_to, terminal_at, terminal_becomes}
use Rattle.gw_owes.proofs.DayLemmas.{days-no-more, days-set, days_in}
use Rattle.gw_owes.proofs.KeepingLemmas.{KeepNothing, RowKeeps, becomes-keeps, breaking-keeps, command-read, no-calls, nothing-keeps, record-keeps, replies-keep-nothing, rests-still}
use Rattle.gw_owes.proofs.LimitLemmas.{approval-within, decline-within, keyed-within, refusal-within, settled-key-is, settled-within}
use Rattle.gw_owes.proofs.RecordLemmas.{LedgerLaws, open-counted, open-not-below, open-parts, open-within, open-without-outcome, open_entry_of, outcome-closes, outcome-number, outcome-poi, settled-leaves}

-- ---- limits

-- the number before an open entry lies within its limits
open-before-within : (laws : LedgerLaws) (known : Known) → IsInOrder known → (poi : List ℕ) (last slot : ℕ) → IsServedOpen known.kept poi last slot → IsTrace last
open-before-within laws known order poi last slot has =
    let opened = open-parts laws known.kept order.folded poi slot has.intent has.is_open in
    let there : entry_at known.kept slot ≡ Some (open_entry_of slot has.intent) = sym (ap (option_and_then (entry_at known.kept)) opened.slot_is) ∙ has.is_open in
    let within : IsEntryWithin (open_entry_of slot has.intent) = (laws.within known.kept order.folded).0 slot (open_entry_of slot has.intent) there in
    subst IsTrace has.before within.intent.before

-- the slot of an open entry is a small number
pub slot-small : (laws : LedgerLaws) (known : Known) → IsInOrder known → (poi : List ℕ) (slot : ℕ) (intent : TheIntent) → open_entry known.kept poi ≡ Some (open_entry_of slot intent) → slot < 2 ^ 32
slot-small laws known order poi slot intent is_open =
    let inside : slot < length known.kept = open-within laws known.kept order.folded poi slot intent (open-parts laws known.kept order.folded poi slot intent is_open) in
    let most : known.setup.slots ≤ 1000000 = order.of_setup.within.slots.1 in
    let room = order.room in
    omega (arith, inside, most, room)

last-after-within : (last : ℕ) (reported : Option ℕ) → IsTrace last → IsTraceOrNone reported → IsTrace (last_after_decline last reported)
last-after-within last None trace fits = trace
last-after-within last (Some reported) trace fits = by-test (ltb last reported)
  where
    by-test : (b : Bool) → IsTrace (if b then reported else last)
    by-test true = fits
    by-test false = trace

last-after-above : (last : ℕ) (reported : Option ℕ) → last ≤ last_after_decline last reported
last-after-above last None = omega arith
last-after-above last (Some reported) = by-test (ltb last reported) refl
  where
    by-test : (b : Bool) → ltb last reported ≡ b → last ≤ (if b then reported else last)
    by-test true above = let lt : last < reported = ltb-true last reported above in omega arith
    by-test false above = omega arith

-- ---- what a terminal reports of what is open

-- the Outcome of the entry with this slot and number before, where this trace number is reported: it is within its limits, and its number is above the one before where it approves, and at most the one reported
pub record IsOutcomeReported (slot before trace : ℕ) (outcome : TheOutcome) : Type 0 where
  pub slot_is : outcome.slot ≡ slot
  pub within : IsOutcome outcome
  pub above : outcome.approved ≡ true → before < outcome.number
  pub not_above : outcome.number ≤ trace

last-reported : (slot before trace : ℕ) (approved : Option Figures) (result_code moment : ℕ) → slot < 2 ^ 32 → IsMoment (pos moment) → IsReportFit trace approved → before < trace
    → IsOutcomeReported slot before trace (outcome_as_last slot approved result_code moment)
last-reported slot before trace None result_code moment small at fit lt = record {
  slot_is = refl;
  within = decline-within slot result_code false moment small at;
  above = λ approved. absurd cc;
  not_above = omega arith;
}
last-reported slot before trace (Some figures) result_code moment small at fit lt =
    let are : AreFiguresOf trace figures = fit.figures in
    let same : figures.number ≡ trace = are.number_is in
    record {
      slot_is = refl;
      within = approval-within slot figures moment small are.fit at;
      above = λ approved. omega arith;
      not_above = omega arith;
    }

pub reported-outcome : (entry : TheEntry) (report : Report) (moment : ℕ) → entry.slot < 2 ^ 32 → IsMoment (pos moment) → IsReportFit report.trace report.approved
    → IsOutcomeReported entry.slot entry.intent.before report.trace (outcome_reported entry report moment)
reported-outcome entry report moment small at fit = by-test (ltb entry.intent.before report.trace) refl
  where
    by-test : (b : Bool) → ltb entry.intent.before report.trace ≡ b
        → IsOutcomeReported entry.slot entry.intent.before report.trace (if b then outcome_as_last entry.slot report.approved report.result_code moment else refused_outcome entry.slot Aborted moment)
    by-test true rises = last-reported entry.slot entry.intent.before report.trace report.approved report.result_code moment small at fit (ltb-true entry.intent.before report.trace rises)
    by-test false rises = record {
      slot_is = refl;
      within = refusal-within entry.slot Aborted moment small (omega arith) at;
      above = λ approved. absurd cc;
      not_above = omega arith;
    }

-- ---- what a terminal becomes

module _ (laws : LedgerLaws) (known : Known) (order : IsInOrder known) (number : ℕ) (old now : Terminal) (here : terminal_at known number ≡ Some old) (same : now.pt ≡ old.pt) (stands : now.standing ≡ old.standing) (has : IsTerminalInOrder known.kept now) where
  -- it serves an end of day where it did
  days-stay : days_in now.standing ≤ days_in old.standing
  days-stay = let counted : days_in now.standing ≡ days_in old.standing = ap days_in stands in omega (arith, counted)

  -- it stays as it is
  stays-keeps : RowKeeps known number (staying known number now)
  stays-keeps = becomes-keeps known order number old now [] here no-calls days-stay has

  -- its connection is cut
  breaks-keeps : RowKeeps known number (breaking known number now)
  breaks-keeps = breaking-keeps known order number old now here days-stay

  -- no dialogue runs any more, and it has this standing, in which it serves nothing
  rests-keeps : (standing : Standing) → days_in standing ≡ 0 → AreRecordsOf known.kept now.pt.poi standing → RowKeeps known number (terminal_becomes known number (at_rest now standing) [])
  rests-keeps standing none records = becomes-keeps known order number old (at_rest now standing) [] here no-calls (omega (arith, none)) (record { records = records; read = tt })

  -- so it is once its till has its reply
  done-keeps : (last : ℕ) (calls : List OwedCall) → KeepNothing calls → HasNoneOpen known.kept now.pt.poi last → RowKeeps known number (terminal_becomes known number (done_with now (Ready last)) calls)
  done-keeps last calls nothing rests = becomes-keeps known order number old (done_with now (Ready last)) calls here nothing (omega arith) (record { records = rests; read = tt })

  -- the Outcome of its open entry is kept, and it is ready with a number that isn't below
  resolves-keeps : (outcome : TheOutcome) (intent : TheIntent) (ready : ℕ) → open_entry known.kept now.pt.poi ≡ Some (open_entry_of outcome.slot intent) → IsOutcome outcome → (outcome.approved ≡ true → intent.before < outcome.number)
      → last_number_of known.kept now.pt.poi ≤ ready → outcome.number ≤ ready → IsTrace ready → RowKeeps known number (resolves known number now (Ready ready) outcome)
  resolves-keeps outcome intent ready is_open within above last_not_above not_above trace =
      let opened = open-parts laws known.kept order.folded now.pt.poi outcome.slot intent is_open in
      let counted : 1 ≤ open_count_of known.kept = open-counted laws known.kept order.folded now.pt.poi outcome.slot intent opened in
      let room = order.room in
      let days = days-no-more known.core.terminals number old (done_with now (Ready ready)) here (omega arith) in
      let fitting : fits known.kept (Outcome outcome) ≡ true = laws.outcome known.kept order.folded now.pt.poi (open_entry_of outcome.slot intent) outcome is_open refl above in
      let after : last_number_of (known.kept ++ Outcome outcome ∷ []) now.pt.poi ≡ max (last_number_of known.kept now.pt.poi) outcome.number = outcome-number laws known.kept order.folded now.pt.poi intent outcome opened in
      record-keeps known order number laws (Outcome outcome) within fitting old (done_with now (Ready ready)) (reply_calls_to now.asker (reply_to_outcome known.kept outcome.slot outcome))
      (replies-keep-nothing now.asker (reply_to_outcome known.kept outcome.slot outcome)) here (omega (arith, counted, room, days))
      (outcome-poi laws known.kept order.folded now.pt.poi intent outcome opened ∙ ap (λ pt. Some pt.poi) same)
      (record {
        records = record {
          none_open = ap (option_and_then (entry_at (known.kept ++ Outcome outcome ∷ []))) (outcome-closes laws known.kept order.folded now.pt.poi intent outcome opened);
          not_below = omega (arith, after, last_not_above, not_above);
          within = trace;
        };
        read = tt;
      })

  -- so it is of what is served
  served-keeps : (outcome : TheOutcome) (last ready : ℕ) → IsServedOpen known.kept now.pt.poi last outcome.slot → IsOutcome outcome → (outcome.approved ≡ true → last < outcome.number)
      → last ≤ ready → outcome.number ≤ ready → IsTrace ready → RowKeeps known number (resolves known number now (Ready ready) outcome)
  served-keeps outcome last ready has within above not_below not_above trace =
      let before : last_number_of known.kept now.pt.poi ≤ last = has.not_below in
      resolves-keeps outcome has.intent ready has.is_open within (λ approved. subst (λ (n : ℕ). n < outcome.number) (sym has.before) (above approved)) (omega arith) not_above trace

  -- a payment is approved
  approved-keeps : (slot last : ℕ) (figures : Figures) → IsServedOpen known.kept now.pt.poi last slot → FiguresFitRecord figures → RowKeeps known number (approved_row known number now slot last figures)
  approved-keeps slot last figures has fit = by-test (ltb last figures.number) refl
    where
      by-test : (b : Bool) → ltb last figures.number ≡ b
          → RowKeeps known number (if b then resolves known number now (Ready figures.number) (approved_outcome slot figures known.moment) else terminal_becomes known number (at_rest now (Aside last figures.number)) [])
      by-test true rises =
          let above : last < figures.number = ltb-true last figures.number rises in
          served-keeps (approved_outcome slot figures known.moment) last figures.number has (approval-within slot figures known.moment (slot-small laws known order now.pt.poi slot has.intent has.is_open) fit order.moment) (λ approved. above) (omega arith)
          (omega arith) fit.trace
      by-test false rises = rests-keeps (Aside last figures.number) refl tt

  -- or declined
  declined-keeps : (slot last result_code : ℕ) (reported : Option ℕ) → IsServedOpen known.kept now.pt.poi last slot → IsTraceOrNone reported → RowKeeps known number (declined_row known number now slot last result_code reported)
  declined-keeps slot last result_code reported has fits =
      served-keeps (declined_outcome slot result_code (was_stopped now.talk) known.moment) last (last_after_decline last reported) has
      (decline-within slot result_code (was_stopped now.talk) known.moment (slot-small laws known order now.pt.poi slot has.intent has.is_open) order.moment) (λ approved. absurd cc) (last-after-above last reported) (omega arith)
      (last-after-within last reported (open-before-within laws known order now.pt.poi last slot has) fits)

  -- the stop of what is served
  stops-keeps : RowKeeps known number (stops known number now)
  stops-keeps = becomes-keeps known order number old (record now { awaited = one_more_awaited now.awaited }) _ here (record { no_records = refl; no_cut = refl }) days-stay (record { records = has.records; read = has.read })

  -- the enquiry after the registration
  enquires-keeps : RowKeeps known number (enquires known number now)
  enquires-keeps =
      becomes-keeps known order number old (after_command now (enquiry_command now.pt) Enquiring known.moment) _ here (record { no_records = refl; no_cut = refl }) (omega arith)
      (record { records = tt; read = command-read now.pt (enquiry_command now.pt) known.moment })

  registering-keeps : (meant : Heard) → RowKeeps known number (registering known number now meant)
  registering-keeps (heard.Begun stop) = stays-keeps
  registering-keeps (heard.Note intermediate_status) = stays-keeps
  registering-keeps heard.Line = stays-keeps
  registering-keeps heard.Block = stays-keeps
  registering-keeps heard.Seen = stays-keeps
  registering-keeps (heard.Approved figures) = stays-keeps
  registering-keeps heard.Done = enquires-keeps
  registering-keeps (heard.Told reported approved result_code) = stays-keeps
  registering-keeps (heard.Declined result_code reported) = breaks-keeps
  registering-keeps heard.Unclear = breaks-keeps
  registering-keeps heard.Stray = stays-keeps

  -- what a terminal reports without an open entry
  reported-none-open : (reported : ℕ) → IsTrace reported → open_entry known.kept now.pt.poi ≡ None
      → RowKeeps known number (terminal_becomes known number (at_rest now (standing_reported (last_number_of known.kept now.pt.poi) reported)) [])
  reported-none-open reported trace none = by-test (leb (last_number_of known.kept now.pt.poi) reported) refl
    where
      by-test : (b : Bool) → leb (last_number_of known.kept now.pt.poi) reported ≡ b
          → RowKeeps known number (terminal_becomes known number (at_rest now (if b then Ready reported else Aside (last_number_of known.kept now.pt.poi) reported)) [])
      by-test true above = rests-keeps (Ready reported) refl (record { none_open = none; not_below = leb-true (last_number_of known.kept now.pt.poi) reported above; within = trace })
      by-test false above = rests-keeps (Aside (last_number_of known.kept now.pt.poi) reported) refl tt

  -- and with one
  reported-of-open : (report : Report) (entry : TheEntry) → IsReportFit report.trace report.approved → open_entry known.kept now.pt.poi ≡ Some entry → RowKeeps known number (report_of_open known number now report entry)
  reported-of-open report entry fit is = by-test (leb entry.intent.before report.trace) refl
    where
      by-test : (b : Bool) → leb entry.intent.before report.trace ≡ b
          → RowKeeps known number (if b then resolves known number now (Ready report.trace) (outcome_reported entry report known.moment)
          else terminal_becomes known number (at_rest now (Aside entry.intent.before report.trace)) [])
      by-test true above =
          let not_below : entry.intent.before ≤ report.trace = leb-true entry.intent.before report.trace above in
          let last : last_number_of known.kept now.pt.poi ≤ entry.intent.before = open-not-below laws known.kept order.folded now.pt.poi entry is in
          let is_open = open-without-outcome laws known.kept order.folded now.pt.poi entry is in
          let outcome = reported-outcome entry report known.moment (slot-small laws known order now.pt.poi entry.slot entry.intent is_open) order.moment fit in
          resolves-keeps (outcome_reported entry report known.moment) entry.intent report.trace
          (subst (λ (slot : ℕ). open_entry known.kept now.pt.poi ≡ Some (open_entry_of slot entry.intent)) (sym outcome.slot_is) is_open) outcome.within outcome.above (omega arith) outcome.not_above fit.within
      by-test false above = rests-keeps (Aside entry.intent.before report.trace) refl tt

  reported-keeps : (report : Report) → IsReportFit report.trace report.approved → RowKeeps known number (report_row (on_record known.kept now.pt.poi) known number now report)
  reported-keeps report fit = by-open (open_entry known.kept now.pt.poi) refl
    where
      by-open : (opened : Option TheEntry) → open_entry known.kept now.pt.poi ≡ opened → RowKeeps known number (report_against opened (last_number_of known.kept now.pt.poi) known number now report)
      by-open None none = reported-none-open report.trace fit.within none
      by-open (Some entry) is = reported-of-open report entry fit is

  enquiring-keeps : (meant : Heard) → FitsRecord meant → RowKeeps known number (enquiring known number now meant)
  enquiring-keeps (heard.Begun stop) fits = stays-keeps
  enquiring-keeps (heard.Note intermediate_status) fits = stays-keeps
  enquiring-keeps heard.Line fits = stays-keeps
  enquiring-keeps heard.Block fits = stays-keeps
  enquiring-keeps heard.Seen fits = stays-keeps
  enquiring-keeps (heard.Approved figures) fits = stays-keeps
  enquiring-keeps heard.Done fits = stays-keeps
  enquiring-keeps (heard.Told trace approved result_code) fits = reported-keeps (record { trace = trace; approved = approved; result_code = result_code }) fits
  enquiring-keeps (heard.Declined result_code reported) fits = breaks-keeps
  enquiring-keeps heard.Unclear fits = breaks-keeps
  enquiring-keeps heard.Stray fits = stays-keeps

  transaction-keeps : (slot last : ℕ) (meant : Heard) → IsServedOpen known.kept now.pt.poi last slot → FitsRecord meant → RowKeeps known number (serving_transaction known number now slot last meant)
  transaction-keeps slot last (heard.Begun true) served fits = stops-keeps
  transaction-keeps slot last (heard.Begun false) served fits = stays-keeps
  transaction-keeps slot last (heard.Note intermediate_status) served fits = stays-keeps
  transaction-keeps slot last heard.Line served fits = stays-keeps
  transaction-keeps slot last heard.Block served fits = stays-keeps
  transaction-keeps slot last heard.Seen served fits = stays-keeps
  transaction-keeps slot last (heard.Approved figures) served fits = approved-keeps slot last figures served fits
  transaction-keeps slot last heard.Done served fits = stays-keeps
  transaction-keeps slot last (heard.Told reported approved result_code) served fits = stays-keeps
  transaction-keeps slot last (heard.Declined result_code reported) served fits = declined-keeps slot last result_code reported served fits
  transaction-keeps slot last heard.Unclear served fits = breaks-keeps
  transaction-keeps slot last heard.Stray served fits = stays-keeps

  -- an end of day is done: its Settled is kept
  day-done-keeps : (header : Header) (period : Period) (last : ℕ) → now.standing ≡ Serving (EndOfDay header period) last → IsDayServed known.kept now.pt.poi last header period → RowKeeps known number (day_done known number now last header)
  day-done-keeps header period last standing served =
      let settled : TheSettled = settled_of hows.Acquirer header now.pt.currency known.moment in
      let unknown : found_of known.kept (settled_key settled) ≡ None =
      subst (λ (key : Key). found_of known.kept key ≡ None) (sym (settled-key-is hows.Acquirer header now.pt.currency known.moment served.key served.key_is)) served.unknown in
      let fitting : fits known.kept (Settled settled) ≡ true = laws.settled known.kept order.folded settled unknown in
      let counted : days_in old.standing ≡ 1 = ap days_in (sym stands ∙ standing) in
      let days = days-set known.core.terminals number old (done_with now (Ready last)) here in
      let room = order.room in
      record-keeps known order number laws (Settled settled) (settled-within hows.Acquirer header now.pt.currency known.moment (keyed-within header served.key served.heading served.key_is) order.moment) fitting
      old (done_with now (Ready last)) (reply_calls_to now.asker (reply_to_settled known.kept settled)) (replies-keep-nothing now.asker (reply_to_settled known.kept settled)) here (omega (arith, counted, days, room))
      (ap Some served.names ∙ ap (λ (pt : Pt). Some pt.poi) same)
      (record { records = rests-still laws known.kept (Settled settled) now.pt.poi order.folded (settled-leaves laws known.kept settled now.pt.poi) last served.rests; read = tt })

  day-keeps : (header : Header) (period : Period) (last : ℕ) (meant : Heard) → now.standing ≡ Serving (EndOfDay header period) last → IsDayServed known.kept now.pt.poi last header period → RowKeeps known number (serving_day known number now last header meant)
  day-keeps header period last (heard.Begun true) standing served = stops-keeps
  day-keeps header period last (heard.Begun false) standing served = stays-keeps
  day-keeps header period last (heard.Note intermediate_status) standing served = stays-keeps
  day-keeps header period last heard.Line standing served = stays-keeps
  day-keeps header period last heard.Block standing served = stays-keeps
  day-keeps header period last heard.Seen standing served = stays-keeps
  day-keeps header period last (heard.Approved figures) standing served = stays-keeps
  day-keeps header period last heard.Done standing served = day-done-keeps header period last standing served
  day-keeps header period last (heard.Told reported approved result_code) standing served = stays-keeps
  day-keeps header period last (heard.Declined result_code reported) standing served = done-keeps last _ (replies-keep-nothing now.asker _) served.rests
  day-keeps header period last heard.Unclear standing served = breaks-keeps
  day-keeps header period last heard.Stray standing served = stays-keeps

  display-keeps : (header : Header) (results : Option (List Shown)) (last : ℕ) (meant : Heard) → IsDisplayServed known.kept now.pt.poi last header results → RowKeeps known number (serving_display known number now last header results meant)
  display-keeps header results last (heard.Begun stop) served = stays-keeps
  display-keeps header results last (heard.Note intermediate_status) served = stays-keeps
  display-keeps header results last heard.Line served = stays-keeps
  display-keeps header results last heard.Block served = stays-keeps
  display-keeps header results last heard.Seen served = stays-keeps
  display-keeps header results last (heard.Approved figures) served = stays-keeps
  display-keeps header results last heard.Done served = done-keeps last _ (replies-keep-nothing now.asker _) served.rests
  display-keeps header results last (heard.Told reported approved result_code) served = stays-keeps
  display-keeps header results last (heard.Declined result_code reported) served = done-keeps last _ (replies-keep-nothing now.asker _) served.rests
  display-keeps header results last heard.Unclear served = breaks-keeps
  display-keeps header results last heard.Stray served = stays-keeps

  serving-keeps : (service : Service) (last : ℕ) (meant : Heard) → now.standing ≡ Serving service last → AreRecordsOf known.kept now.pt.poi (Serving service last) → FitsRecord meant → RowKeeps known number (serving known number now service last meant)
  serving-keeps (Transaction slot) last meant standing records fits = transaction-keeps slot last meant records fits
  serving-keeps (EndOfDay header period) last meant standing records fits = day-keeps header period last meant standing records
  serving-keeps (Display header results) last meant standing records fits = display-keeps header results last meant records

  -- in each standing
  pub consequence-keeps : (meant : Heard) (standing : Standing) → now.standing ≡ standing → AreRecordsOf known.kept now.pt.poi standing → FitsRecord meant → RowKeeps known number (consequence known number now meant standing)
  consequence-keeps meant (Unlinked due) is records fits = nothing-keeps known order number
  consequence-keeps meant Registering is records fits = registering-keeps meant
  consequence-keeps meant Enquiring is records fits = enquiring-keeps meant fits
  consequence-keeps meant (Ready last) is records fits = stays-keeps
  consequence-keeps meant (Serving service last) is records fits = serving-keeps service last meant is records fits
  consequence-keeps meant (Aside before reported) is records fits = stays-keeps
