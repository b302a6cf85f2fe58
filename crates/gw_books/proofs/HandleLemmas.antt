-- What a terminal says: what its end leaves and owes is borne out by the book.
use Rattle.std.proofs.Common.{◌≡◌, ◌⊎◌, ◌≤◌, ◌<◌, ◌∙◌, ℕ, ◌^◌, Bool, true, false, ◌&&◌, eqb, leb, ltb, List, [], ◌∷◌, ◌++◌, length, inl, inr, refl, sym, ap, subst, arith, append-nil}
use Rattle.std.specs.Prelude.{bytes_eq, if◌then◌else◌, nat_lt, slice_get, Option, Some, None, option_and_then, option_map, Result, Ok, Err}
use Rattle.std.specs.List.{flat_map, list_any}
use Rattle.std.specs.Option.{option_to_list}
use Rattle.std.proofs.lemmas.Bool.{and_parts, eqb-false, eqb-true, leb-false, ltb-true}
use Rattle.std.proofs.lemmas.Bool.Decides.{nat_tests}
use Rattle.std.proofs.lemmas.Option.{same_Some}
use Rattle.gw_base.specs.declared.figures.Figures.{Figures}
use Rattle.sale_values.specs.declared.header.Header.{Header}
use Rattle.sale_values.specs.declared.names.Period.{Period}
use Rattle.sale_reply.specs.Limits.{IsVerdictWithinLimits}
use Rattle.sale_reply.specs.declared.reply.Shown.{Shown}
use Rattle.sale_reply.specs.declared.reply.Verdict.{Verdict}
use Rattle.zvt_apdu.specs.Grammar.{ApduValue}
use Rattle.zvt_msg.specs.declared.fault.PtFault.{PtFault}
use Rattle.zvt_msg.specs.Message.{MessageValue}
use Rattle.zvt_msg.specs.MessageDecode.{decode_pt_message}
use Rattle.zvt_talk.specs.declared.meaning.Heard.{Heard}
use Rattle.zvt_talk.specs.declared.meaning.Heard.TheVariants as heard
use Rattle.zvt_talk.specs.Came.{is_taken}
use Rattle.jrn_record.specs.Limits.{IsOutcome, IsSettled}
use Rattle.jrn_record.specs.declared.records.Intent.{Intent as TheIntent}
use Rattle.jrn_record.specs.declared.records.Outcome.{Outcome as TheOutcome}
use Rattle.jrn_record.specs.declared.records.Record.{Record}
use Rattle.jrn_record.specs.declared.records.How.TheVariants as hows
use Rattle.jrn_record.specs.declared.records.Record.TheVariants.{Outcome, Settled}
use Rattle.jrn_record.specs.declared.records.Settled.{Settled as TheSettled}
use Rattle.gw_ledger.specs.declared.entry.Entry.{Entry as TheEntry}
use Rattle.gw_ledger.specs.Accounts.{last_number_of, open_slot}
use Rattle.gw_ledger.specs.Fold.{AreFolded, fits, open_entry}
use Rattle.gw_ledger.specs.History.{same_text}
use Rattle.gw_ledger.specs.Keys.{intent_key}
use Rattle.xlate.specs.Codes.{condition_of_code}
use Rattle.gw_owes.specs.declared.terminal.Service.{Service}
use Rattle.gw_owes.specs.declared.terminal.Service.TheVariants.{Transaction, EndOfDay, Display}
use Rattle.gw_owes.specs.declared.terminal.Standing.{Standing}
use Rattle.gw_owes.specs.declared.terminal.Standing.TheVariants.{Unlinked, Registering, Enquiring, Ready, Serving, Aside}
use Rattle.gw_owes.specs.declared.terminal.Terminal.{Terminal}
use Rattle.gw_owes.specs.Awaited.{one_more_awaited}
use Rattle.gw_owes.specs.Calls.{OwedCall, Ask, SendPt, SendTill, CutPt, keep_calls, records_kept}
use Rattle.gw_owes.specs.Core.{Core}
use Rattle.gw_owes.specs.DeviceRequests.{requests_device, with_device_request}
use Rattle.gw_owes.specs.Dialogues.{IsDialogueOf}
use Rattle.gw_owes.specs.Displays.{display_ends, serving_display, with_customer_verdict}
use Rattle.gw_owes.specs.Handling.{consequence, enquiring, enquiry_command, handle_decoded, handle_message, meaning_at, registering, serving, taken_as, taken_row, taking}
use Rattle.gw_owes.specs.HeardLaws.{FitsRecord, IsReportFit}
use Rattle.gw_owes.specs.Items.{Handle}
use Rattle.gw_owes.specs.Links.{is_linked}
use Rattle.gw_owes.specs.Reconciliations.{day_done, reply_to_settled, serving_day, settle_calls, settled_of}
use Rattle.gw_owes.specs.RecordLaws.{AreRecordsOf, IsDayServed, IsInOrder, IsServedOpen, IsServiceOnRecord, IsTerminalInOrder}
use Rattle.gw_owes.specs.Replies.{display_reply, failure, failure_reply, success}
use Rattle.gw_owes.specs.Reply.{ReplyValue}
use Rattle.gw_owes.specs.Reports.{Report, least_against, on_record, outcome_reported, report_against, report_row, standing_reported}
use Rattle.gw_owes.specs.Row.{Known, Row, owing_nothing, owing_where}
use Rattle.gw_owes.specs.Serving.{at_rest, approved_outcome, approved_row, breaking, declined_outcome, declined_row, done_with, last_after_decline, reply_to_outcome, resolves, serving_transaction, staying, stops, was_stopped}
use Rattle.gw_owes.specs.Terminals.{after_command, of_terminal, reply_calls_to, terminal_at, terminal_becomes, with_terminal}
use Rattle.gw_owes.proofs.DayLemmas.{days-set, days_in}
use Rattle.gw_owes.proofs.HandlingLemmas.{RequestsDevice, means-taken, taken-cases}
use Rattle.gw_owes.proofs.HeardLemmas.{meant-fits}
use Rattle.gw_owes.proofs.KeepingLemmas.{apart-pois, replies-keep-nothing}
use Rattle.gw_owes.proofs.LimitLemmas.{approval-within, decline-within, keyed-within, settled-within}
use Rattle.gw_owes.proofs.RecordLemmas.{IsOpenWith, LedgerLaws, folded-more, none-open, open-parts, open-without-outcome, open_entry_of, outcome-closes, same-text-itself}
use Rattle.gw_owes.proofs.ServingLemmas.{reported-outcome, slot-small}
use Rattle.gw_rules.specs.TranscriptLaws.{cut_owed}
use Rattle.gw_books.specs.Agrees.{is_report}
use Rattle.gw_books.specs.Books.{BookedEntry, Honest, is_true}
use Rattle.gw_books.specs.Past.{Occasion, OfMessage, OfNothing, SentCommand, MadeLink, Ending, Approved, Declined, HeardEnd, Past, command_served, ending_with, ends_by, ends_of, numbering_at, occasion_decoded, served_in, waiting_keys}
use Rattle.gw_books.proofs.HandledLemmas.{IsHandled, IsMessageSmall, message-small}
use Rattle.gw_books.proofs.Holding.{AreCallsSound, HasNoApproval, HoldsAfterRow, HoldsBetween, IsLastSentFor, IsOfTerminal, IsOutcomeTrue, IsReplySound, IsResolvedOn, IsServiceRepliable, IsServingSound, IsRepliable, is_report_after}
use Rattle.gw_books.proofs.ListLemmas.{In, bytes-are, found-in}
use Rattle.gw_books.proofs.MeaningLemmas.{IsReport, IsNoReport, end-here, report-meant, report-enquires, shown-no-report}
use Rattle.gw_books.proofs.NoteLemmas.{noted}
use Rattle.gw_books.proofs.Numbering.{AreLinkedBeforeHearing, NumberedBetween, RowHolds}
use Rattle.gw_books.proofs.RecordMoreLemmas.{outcomes-and-outcome, outcomes-and-settled, resolved-none}
use Rattle.gw_books.proofs.ReplyLimitLemmas.{outcome-within}
use Rattle.gw_books.proofs.ReplyTruthLemmas.{outcome-true, reply-true-more}
use Rattle.gw_books.proofs.ReportLemmas.{ReportFacts, approval-borne, decline-borne, end-true, end_heard, past_with, report-borne}
use Rattle.gw_books.proofs.ServedReplyLemmas.{beside-sound, code-idle, device-sound, replies-sound, results-sound, served-key, settled-sound, verdict-within}
use Rattle.gw_books.proofs.RowPartsLemmas.{from-set, grows-none, grows-one, onto-same, onto-set, parts-hold}

-- ---- tests

own-number : (n : ℕ) → eqb n n ≡ true
own-number n = grind (arith, nat_tests)

-- its own cut is owed
own-cut : (number : ℕ) → cut_owed number (CutPt number ∷ []) ≡ true
own-cut number = rw (own-number number) refl

-- ---- the terminal of a link

-- two terminals with one POIID have one number
one-number : (known : Known) (number : ℕ) (old : Terminal) (link : MadeLink) (it : IsOfTerminal known.core link) → IsInOrder known → terminal_at known number ≡ Some old → old.pt.poi ≡ link.numbering.poi → IsOfTerminal.number it ≡ number
one-number known number old link it order here poi = by-test (eqb it.number number) refl
  where
    by-test : (b : Bool) → eqb it.number number ≡ b → it.number ≡ number
    by-test true is = eqb-true it.number number is
    by-test false is =
        let apart : same_text it.terminal.pt.poi old.pt.poi ≡ false = apart-pois known number it.number old it.terminal order.of_setup (eqb-false it.number number is) here it.found in
        let same : same_text it.terminal.pt.poi old.pt.poi ≡ true = ap (same_text it.terminal.pt.poi) (poi ∙ sym it.poi_is) ∙ same-text-itself it.terminal.pt.poi in
        absurd cc

-- ---- a message of a terminal

-- calls that keep nothing and send no reply and no command that may charge
record IsQuiet (calls : List OwedCall) : Type 0 where
  pub no_records : records_kept calls ≡ []
  pub sound : (records : List Record) (core : Core) (commands : List SentCommand) (occasion : Occasion) → AreCallsSound records core commands occasion calls

module _ (laws : LedgerLaws) (known : Known) (past : Past) (book : List BookedEntry) (holds : HoldsBetween known past book) (numbered : NumberedBetween known past book) (linked : AreLinkedBeforeHearing past)
    (number : ℕ) (old : Terminal) (here : terminal_at known number ≡ Some old) (message : MessageValue) (prints : IsMessageSmall message) (honest : Honest (past_with past number message old) book) where
  -- what holds after the row
  abbrev Leaves : Row → Type 0
  Leaves row = HoldsAfterRow known (past_with past number message old) book row

  -- the terminal once it was taken
  abbrev now : Terminal
  now = taking old message known.moment

  -- where it is a report, its cut is owed, or nothing of the terminal is open
  abbrev Resolves : List OwedCall → List Record → Type 0
  Resolves calls records = IsReport (meaning_at old message) → (cut_owed number calls ≡ true) ⊎ (open_slot records old.pt.poi ≡ None)

  -- so it is of each link
  link-reported : (calls : List OwedCall) (records : List Record) → Resolves calls records → (link : MadeLink) (it : IsOfTerminal known.core link) → list_any (is_report_after link) (ends_by past message old) ≡ true
      → (cut_owed (IsOfTerminal.number it) calls ≡ true) ⊎ IsResolvedOn records link
  link-reported calls records resolving link it any =
      let end = end-here past message old (is_report_after link) any in
      let parts = and_parts (is_report end.ending) (bytes_eq old.pt.poi link.numbering.poi && nat_lt link.place past.heard) end.passes in
      let as_report : IsReport (meaning_at old message) = report-meant (option_and_then (command_served past old.pt.poi) (served_in old.standing)) (meaning_at old message) end.ending end.ending_is parts.0 in
      let poi : old.pt.poi ≡ link.numbering.poi = bytes-are old.pt.poi link.numbering.poi (and_parts (bytes_eq old.pt.poi link.numbering.poi) (nat_lt link.place past.heard) parts.1).0 in
      elim (resolving as_report) [
        | inl cut ↦ inl (subst (λ (n : ℕ). cut_owed n calls ≡ true) (sym (one-number known number old link it holds.in_order here poi)) cut)
        | inr none ↦ inr (resolved-none records link (subst (λ (p : List ℕ). open_slot records p ≡ None) poi none))
      ]

  -- nothing is owed
  nothing-leaves : IsNoReport (meaning_at old message) → Leaves (owing_nothing known)
  nothing-leaves no_report = parts-hold known past book (OfMessage number message) (ends_by past message old) (owing_nothing known) known.kept holds (record {
    records_are = append-nil known.kept;
    grows = grows-none known.kept past.commands;
    outcomes = holds.outcomes;
    calls = tt;
    from = λ other terminal found. inl found;
    onto = λ other terminal found. onto-same known.core other terminal found;
    inside = λ deed. refl;
    no_items = refl;
    reported = link-reported [] known.kept (λ as_report. absurd (no_report as_report));
  })

  -- the terminal becomes another, and the calls keep nothing
  quiet-leaves : (new : Terminal) (calls : List OwedCall) → IsQuiet calls → new.pt ≡ old.pt → IsRepliable new.standing → IsServingSound known.kept past.commands new.pt.poi new.standing → Resolves calls known.kept
      → Leaves (terminal_becomes known number new calls)
  quiet-leaves new calls quiet same can_reply serves resolving = parts-hold known past book (OfMessage number message) (ends_by past message old) (terminal_becomes known number new calls) known.kept holds (record {
    records_are = ap (λ (more : List Record). known.kept ++ more) quiet.no_records ∙ append-nil known.kept;
    grows = grows-none known.kept past.commands;
    outcomes = holds.outcomes;
    calls = quiet.sound known.kept (with_terminal known.core number new) past.commands (OfMessage number message);
    from = from-set known number new known.kept past.commands calls (record { repliable = can_reply; serving = λ uncharged uncut. serves });
    onto = onto-set known number old new here same;
    inside = λ deed. refl;
    no_items = refl;
    reported = link-reported calls known.kept resolving;
  })

  stays-leaves : IsNoReport (meaning_at old message) → Leaves (staying known number now)
  stays-leaves no_report =
      quiet-leaves now [] (record { no_records = refl; sound = λ records core commands occasion. tt }) refl (holds.repliable number old here) (holds.serving number old here) (λ as_report. absurd (no_report as_report))

  breaks-leaves : Leaves (breaking known number now)
  breaks-leaves =
      quiet-leaves now (CutPt number ∷ []) (record { no_records = refl; sound = λ records core commands occasion. (tt, tt) }) refl (holds.repliable number old here) (holds.serving number old here) (λ as_report. inl (own-cut number))

  stops-leaves : IsNoReport (meaning_at old message) → Leaves (stops known number now)
  stops-leaves no_report =
      quiet-leaves (record now { awaited = one_more_awaited now.awaited }) _ (record { no_records = refl; sound = λ records core commands occasion. (tt, tt) }) refl (holds.repliable number old here) (holds.serving number old here)
      (λ as_report. absurd (no_report as_report))

  -- ---- a registration

  registering-leaves : (meant : Heard) → IsNoReport (meaning_at old message) → Leaves (registering known number now meant)
  registering-leaves (heard.Begun stop) no_report = stays-leaves no_report
  registering-leaves (heard.Note intermediate_status) no_report = stays-leaves no_report
  registering-leaves heard.Line no_report = stays-leaves no_report
  registering-leaves heard.Block no_report = stays-leaves no_report
  registering-leaves heard.Seen no_report = stays-leaves no_report
  registering-leaves (heard.Approved figures) no_report = stays-leaves no_report
  registering-leaves heard.Done no_report =
      quiet-leaves (after_command now (enquiry_command now.pt) Enquiring known.moment) (SendPt number (Ask (enquiry_command now.pt)) ∷ []) (record { no_records = refl; sound = λ records core commands occasion. (tt, tt) }) refl tt tt
      (λ as_report. absurd (no_report as_report))
  registering-leaves (heard.Told reported approved result_code) no_report = stays-leaves no_report
  registering-leaves (heard.Declined result_code reported) no_report = breaks-leaves
  registering-leaves heard.Unclear no_report = breaks-leaves
  registering-leaves heard.Stray no_report = stays-leaves no_report

  -- ---- an Outcome

  -- the Outcome of what is open is kept, and its till gets the reply
  resolves-leaves : (ready : ℕ) (outcome : TheOutcome) (intent : TheIntent) → open_entry known.kept old.pt.poi ≡ Some (open_entry_of outcome.slot intent) → IsOutcome outcome → (outcome.approved ≡ true → intent.before < outcome.number)
      → IsOutcomeTrue past.commands book past.place (intent_key intent) outcome → Leaves (resolves known number now (Ready ready) outcome)
  resolves-leaves ready outcome intent is_open within above borne =
      let folded : AreFolded known.kept = holds.in_order.folded in
      let opened : IsOpenWith known.kept old.pt.poi outcome.slot intent = open-parts laws known.kept folded old.pt.poi outcome.slot intent is_open in
      let fitting : fits known.kept (Outcome outcome) ≡ true = laws.outcome known.kept folded old.pt.poi (open_entry_of outcome.slot intent) outcome is_open refl above in
      let more : AreFolded (known.kept ++ Outcome outcome ∷ []) = folded-more known.kept (Outcome outcome) folded within fitting in
      let replies : List OwedCall = reply_calls_to now.asker (reply_to_outcome known.kept outcome.slot outcome) in
      let calls : List OwedCall = keep_calls (length known.kept) (Outcome outcome) ++ replies in
      parts-hold known past book (OfMessage number message) (ends_by past message old) (resolves known number now (Ready ready) outcome) (known.kept ++ Outcome outcome ∷ []) holds (record {
        records_are = ap (λ (rest : List Record). known.kept ++ Outcome outcome ∷ rest) (replies-keep-nothing now.asker (reply_to_outcome known.kept outcome.slot outcome)).no_records;
        grows = grows-one laws known.kept (Outcome outcome) past.commands;
        outcomes =
            outcomes-and-outcome past.commands book past.place known.kept outcome folded holds.outcomes
            (λ other is. subst (λ (i : TheIntent). IsOutcomeTrue past.commands book past.place (intent_key i) outcome) (same_Some intent other (sym opened.intent_is ∙ is)) borne);
        calls = (
          tt,
          (
            tt,
            (
              tt,
              (
                tt,
                replies-sound (known.kept ++ Outcome outcome ∷ []) (with_terminal known.core number (done_with now (Ready ready))) past.commands (OfMessage number message) now.asker (reply_to_outcome known.kept outcome.slot outcome)
                    (λ reply is. record {
                      within = outcome-within laws known outcome.slot outcome reply holds.in_order within is;
                      says = reply-true-more (known.kept ++ Outcome outcome ∷ []) (waiting_keys (with_terminal known.core number (done_with now (Ready ready)))) (OfMessage number message) reply
                          (outcome-true laws known.kept outcome.slot outcome intent (OfMessage number message) reply folded more refl opened.intent_is is);
                    }),
              ),
            ),
          ),
        );
        from = from-set known number (done_with now (Ready ready)) (known.kept ++ Outcome outcome ∷ []) past.commands calls (record { repliable = tt; serving = λ uncharged uncut. tt });
        onto = onto-set known number old (done_with now (Ready ready)) here refl;
        inside = λ deed. refl;
        no_items = refl;
        reported = link-reported calls (known.kept ++ Outcome outcome ∷ []) (λ as_report. inr (outcome-closes laws known.kept folded old.pt.poi intent outcome opened));
      })

  -- ---- an enquiry

  -- a report: nothing of the terminal is open, or what is open gets its Outcome; its trace number is never too low
  report-leaves : (report : Report) → IsReportFit report.trace report.approved → ReportFacts book past.commands known.kept (numbering_at old.pt) past.place report → Leaves (report_row (on_record known.kept old.pt.poi) known number now report)
  report-leaves report fit facts = by-open (open_entry known.kept old.pt.poi) refl
    where
      transaction : (b : Bool) → IsRepliable (if b then Ready report.trace else Aside (last_number_of known.kept old.pt.poi) report.trace)
      transaction true = tt
      transaction false = tt

      serves : (b : Bool) → IsServingSound known.kept past.commands old.pt.poi (if b then Ready report.trace else Aside (last_number_of known.kept old.pt.poi) report.trace)
      serves true = tt
      serves false = tt

      resolved : (entry : TheEntry) → open_entry known.kept old.pt.poi ≡ Some entry → Leaves (resolves known number now (Ready report.trace) (outcome_reported entry report known.moment))
      resolved entry is =
          let is_open = open-without-outcome laws known.kept holds.in_order.folded old.pt.poi entry is in
          let outcome = reported-outcome entry report known.moment (slot-small laws known holds.in_order old.pt.poi entry.slot entry.intent is_open) holds.in_order.moment fit in
          resolves-leaves report.trace (outcome_reported entry report known.moment) entry.intent
          (subst (λ (slot : ℕ). open_entry known.kept old.pt.poi ≡ Some (open_entry_of slot entry.intent)) (sym outcome.slot_is) is_open) outcome.within outcome.above (facts.outcome entry known.moment is)

      by-open : (opened : Option TheEntry) → open_entry known.kept old.pt.poi ≡ opened → Leaves (report_against opened (last_number_of known.kept old.pt.poi) known number now report)
      by-open None none =
          quiet-leaves (at_rest now (standing_reported (last_number_of known.kept old.pt.poi) report.trace)) [] (record { no_records = refl; sound = λ records core commands occasion. tt }) refl
          (transaction (leb (last_number_of known.kept old.pt.poi) report.trace)) (serves (leb (last_number_of known.kept old.pt.poi) report.trace))
          (λ as_report. inr (none-open laws known.kept holds.in_order.folded old.pt.poi none))
      by-open (Some entry) is = by-test (leb entry.intent.before report.trace) refl
        where
          by-test : (b : Bool) → leb entry.intent.before report.trace ≡ b
              → Leaves (if b then resolves known number now (Ready report.trace) (outcome_reported entry report known.moment) else terminal_becomes known number (at_rest now (Aside entry.intent.before report.trace)) [])
          by-test true above = resolved entry is
          by-test false below =
              let least : entry.intent.before ≤ report.trace = subst (λ (found : Option TheEntry). least_against found (last_number_of known.kept old.pt.poi) ≤ report.trace) is facts.not_below in
              let low : report.trace < entry.intent.before = leb-false entry.intent.before report.trace below in
              absurd (omega (arith, least, low))

  enquiring-leaves : (meant : Heard) → old.standing ≡ Enquiring → meaning_at old message ≡ meant → FitsRecord meant → Leaves (enquiring known number now meant)
  enquiring-leaves (heard.Begun stop) enquires means fit = stays-leaves (λ as_report. subst IsReport means as_report)
  enquiring-leaves (heard.Note intermediate_status) enquires means fit = stays-leaves (λ as_report. subst IsReport means as_report)
  enquiring-leaves heard.Line enquires means fit = stays-leaves (λ as_report. subst IsReport means as_report)
  enquiring-leaves heard.Block enquires means fit = stays-leaves (λ as_report. subst IsReport means as_report)
  enquiring-leaves heard.Seen enquires means fit = stays-leaves (λ as_report. subst IsReport means as_report)
  enquiring-leaves (heard.Approved figures) enquires means fit = stays-leaves (λ as_report. subst IsReport means as_report)
  enquiring-leaves heard.Done enquires means fit = stays-leaves (λ as_report. subst IsReport means as_report)
  enquiring-leaves (heard.Told trace approved result_code) enquires means fit =
      report-leaves (record { trace = trace; approved = approved; result_code = result_code }) fit
      (report-borne laws known past book holds numbered linked number old message here enquires honest trace approved result_code means)
  enquiring-leaves (heard.Declined result_code reported) enquires means fit = breaks-leaves
  enquiring-leaves heard.Unclear enquires means fit = breaks-leaves
  enquiring-leaves heard.Stray enquires means fit = stays-leaves (λ as_report. subst IsReport means as_report)

  -- ---- a payment

  module _ (slot last : ℕ) (standing_is : old.standing ≡ Serving (Transaction slot) last) (has : IsServedOpen known.kept old.pt.poi last slot) where
    -- the Intent that is served
    served : IsOpenWith known.kept old.pt.poi slot has.intent
    served = open-parts laws known.kept holds.in_order.folded old.pt.poi slot has.intent has.is_open

    small : slot < 2 ^ 32
    small = slot-small laws known holds.in_order old.pt.poi slot has.intent has.is_open

    -- the last command to the terminal was sent for it
    sent-for : IsLastSentFor past.commands old.pt.poi (intent_key has.intent)
    sent-for = subst (IsServingSound known.kept past.commands old.pt.poi) standing_is (holds.serving number old here) has.intent served.intent_is

    sent-there : In sent-for.command past.commands
    sent-there = (found-in (λ (one : SentCommand). bytes_eq one.numbering.poi old.pt.poi) past.commands sent-for.command sent-for.last).0

    -- the end that the message brings of it is true
    its-end-true : (meant : Heard) (ending : Ending) → meaning_at old message ≡ meant → ending_with (Some sent-for.command.place) meant ≡ Some ending → is_true book (end_heard past old.pt ending) ending ≡ true
    its-end-true meant ending means is =
        end-true past book number message old ending honest
        (ap (λ (s : Standing). ending_with (option_and_then (command_served past old.pt.poi) (served_in s)) (meaning_at old message)) standing_is
        ∙ ap (λ (m : Heard). ending_with (command_served past old.pt.poi (Transaction slot)) m) means
        ∙ ap (λ (c : Option SentCommand). ending_with (option_map (λ (one : SentCommand). one.place) c) meant) sent-for.last
        ∙ is)

    -- an approval
    approved-leaves : (figures : Figures) → meaning_at old message ≡ heard.Approved figures → FitsRecord (heard.Approved figures) → Leaves (approved_row known number now slot last figures)
    approved-leaves figures means fit = by-test (ltb last figures.number) refl
      where
        borne : IsOutcomeTrue past.commands book past.place (intent_key has.intent) (approved_outcome slot figures known.moment)
        borne = record {
          command = sent-for.command;
          sent = sent-there;
          key_is = sent-for.key_is;
          booked = approval-borne book past.place sent-for.command (end_heard past old.pt (Approved sent-for.command.place figures)) slot figures known.moment holds.heard
              (its-end-true (heard.Approved figures) (Approved sent-for.command.place figures) means refl);
        }

        by-test : (b : Bool) → ltb last figures.number ≡ b
            → Leaves (if b then resolves known number now (Ready figures.number) (approved_outcome slot figures known.moment) else terminal_becomes known number (at_rest now (Aside last figures.number)) [])
        by-test true rises =
            resolves-leaves figures.number (approved_outcome slot figures known.moment) has.intent has.is_open (approval-within slot figures known.moment small fit holds.in_order.moment)
            (λ approved. subst (λ (n : ℕ). n < figures.number) (sym has.before) (ltb-true last figures.number rises)) borne
        by-test false rises =
            quiet-leaves (at_rest now (Aside last figures.number)) [] (record { no_records = refl; sound = λ records core commands occasion. tt }) refl tt tt (λ as_report. absurd (subst IsReport means as_report))

    -- a decline
    declined-leaves : (result_code : ℕ) (trace : Option ℕ) → meaning_at old message ≡ heard.Declined result_code trace → Leaves (declined_row known number now slot last result_code trace)
    declined-leaves result_code trace means =
        resolves-leaves (last_after_decline last trace) (declined_outcome slot result_code (was_stopped now.talk) known.moment) has.intent has.is_open
        (decline-within slot result_code (was_stopped now.talk) known.moment small holds.in_order.moment) (λ approved. absurd cc) borne
      where
        none : HasNoApproval book sent-for.command
        none = decline-borne book sent-for.command (end_heard past old.pt (Declined sent-for.command.place trace)) trace
            (its-end-true (heard.Declined result_code trace) (Declined sent-for.command.place trace) means refl)

        -- no other command was sent for the key
        borne : IsOutcomeTrue past.commands book past.place (intent_key has.intent) (declined_outcome slot result_code (was_stopped now.talk) known.moment)
        borne command sent key_is = subst (HasNoApproval book) (holds.commands.once sent-for.command command (intent_key has.intent) sent-there sent sent-for.key_is key_is) none

    transaction-leaves : (meant : Heard) → meaning_at old message ≡ meant → FitsRecord meant → IsNoReport (meaning_at old message) → Leaves (serving_transaction known number now slot last meant)
    transaction-leaves (heard.Begun true) means fits_record no_report = stops-leaves no_report
    transaction-leaves (heard.Begun false) means fits_record no_report = stays-leaves no_report
    transaction-leaves (heard.Note intermediate_status) means fits_record no_report = stays-leaves no_report
    transaction-leaves heard.Line means fits_record no_report = stays-leaves no_report
    transaction-leaves heard.Block means fits_record no_report = stays-leaves no_report
    transaction-leaves heard.Seen means fits_record no_report = stays-leaves no_report
    transaction-leaves (heard.Approved figures) means fits_record no_report = approved-leaves figures means fits_record
    transaction-leaves heard.Done means fits_record no_report = stays-leaves no_report
    transaction-leaves (heard.Told reported approved result_code) means fits_record no_report = stays-leaves no_report
    transaction-leaves (heard.Declined result_code trace) means fits_record no_report = declined-leaves result_code trace means
    transaction-leaves heard.Unclear means fits_record no_report = breaks-leaves
    transaction-leaves heard.Stray means fits_record no_report = stays-leaves no_report

  -- ---- an end of day, and a display

  -- what is served there can be replied to
  repliable : (service : Service) (last : ℕ) → old.standing ≡ Serving service last → IsServiceRepliable service
  repliable service last is = subst IsRepliable is (holds.repliable number old here)

  -- the terminal is ready as before, nothing is kept, and its till gets the reply, where there is one
  replied-leaves : (last : ℕ) (reply : Option ReplyValue) → ((records : List Record) (core : Core) (occasion : Occasion) (own : ReplyValue) → reply ≡ Some own → IsReplySound records (waiting_keys core) occasion own)
      → IsNoReport (meaning_at old message) → Leaves (terminal_becomes known number (done_with now (Ready last)) (reply_calls_to now.asker reply))
  replied-leaves last reply sound no_report =
      quiet-leaves (done_with now (Ready last)) (reply_calls_to now.asker reply) (record {
        no_records = (replies-keep-nothing now.asker reply).no_records;
        sound = λ records core commands occasion. replies-sound records core commands occasion now.asker reply (λ own is. sound records core occasion own is);
      }) refl tt tt (λ as_report. absurd (no_report as_report))

  -- an end of day is done: its Settled is kept
  settles-leaves : (header : Header) (period : Period) (last : ℕ) → old.standing ≡ Serving (EndOfDay header period) last → IsDayServed known.kept old.pt.poi last header period → IsNoReport (meaning_at old message)
      → Leaves (day_done known number now last header)
  settles-leaves header period last is has no_report =
      let settled : TheSettled = settled_of hows.Acquirer header now.pt.currency known.moment in
      let new : Terminal = done_with now (Ready last) in
      let records : List Record = known.kept ++ Settled settled ∷ [] in
      let within : IsSettled settled = settled-within hows.Acquirer header now.pt.currency known.moment (keyed-within header has.key has.heading has.key_is) holds.in_order.moment in
      let counted : days_in old.standing ≡ 1 = ap days_in is in
      let days = days-set known.core.terminals number old new here in
      let room = holds.in_order.room in
      let slot : length known.kept < known.setup.slots = omega (arith, counted, days, room) in
      let reply : Option ReplyValue = reply_to_settled known.kept settled in
      let calls : List OwedCall = settle_calls known.kept now.asker settled in
      parts-hold known past book (OfMessage number message) (ends_by past message old) (day_done known number now last header) records holds (record {
        records_are = ap (λ (rest : List Record). known.kept ++ Settled settled ∷ rest) (replies-keep-nothing now.asker reply).no_records;
        grows = grows-one laws known.kept (Settled settled) past.commands;
        outcomes = outcomes-and-settled past.commands book past.place known.kept settled holds.in_order.folded holds.outcomes;
        calls = (
          tt,
          (
            tt,
            (
              tt,
              (
                tt,
                replies-sound records (with_terminal known.core number new) past.commands (OfMessage number message) now.asker reply
                    (λ own replied. settled-sound known records (waiting_keys (with_terminal known.core number new)) (OfMessage number message) settled own holds.in_order within slot replied),
              ),
            ),
          ),
        );
        from = from-set known number new records past.commands calls (record { repliable = tt; serving = λ uncharged uncut. tt });
        onto = onto-set known number old new here refl;
        inside = λ deed. refl;
        no_items = refl;
        reported = link-reported calls records (λ as_report. absurd (no_report as_report));
      })

  day-leaves : (header : Header) (period : Period) (last : ℕ) → old.standing ≡ Serving (EndOfDay header period) last → IsDayServed known.kept old.pt.poi last header period → (meant : Heard) → IsNoReport (meaning_at old message)
      → Leaves (serving_day known number now last header meant)
  day-leaves header period last is has (heard.Begun true) no_report = stops-leaves no_report
  day-leaves header period last is has (heard.Begun false) no_report = stays-leaves no_report
  day-leaves header period last is has (heard.Note intermediate_status) no_report = stays-leaves no_report
  day-leaves header period last is has heard.Line no_report = stays-leaves no_report
  day-leaves header period last is has heard.Block no_report = stays-leaves no_report
  day-leaves header period last is has heard.Seen no_report = stays-leaves no_report
  day-leaves header period last is has (heard.Approved figures) no_report = stays-leaves no_report
  day-leaves header period last is has heard.Done no_report = settles-leaves header period last is has no_report
  day-leaves header period last is has (heard.Told reported approved result_code) no_report = stays-leaves no_report
  day-leaves header period last is has (heard.Declined result_code reported) no_report =
      let reply : ReplyValue = failure_reply header (condition_of_code result_code (was_stopped now.talk)) in
      replied-leaves last (Some reply) (λ records core occasion own same. subst (IsReplySound records (waiting_keys core) occasion) (same_Some reply own same)
      (beside-sound records (waiting_keys core) occasion header (condition_of_code result_code (was_stopped now.talk)) (repliable (EndOfDay header period) last is) (code-idle result_code (was_stopped now.talk)))) no_report
  day-leaves header period last is has heard.Unclear no_report = breaks-leaves
  day-leaves header period last is has heard.Stray no_report = stays-leaves no_report

  -- a display ends with a verdict
  shown-leaves : (header : Header) (results : Option (List Shown)) (last : ℕ) (verdict : Verdict) → old.standing ≡ Serving (Display header results) last → IsVerdictWithinLimits verdict → IsNoReport (meaning_at old message)
      → Leaves (display_ends known number now last header results verdict)
  shown-leaves header results last verdict is within no_report =
      let can_reply = repliable (Display header results) last is in
      replied-leaves last (display_reply header (option_map (with_customer_verdict verdict) results)) (λ records core occasion own same.
      results-sound records (waiting_keys core) occasion header (option_map (with_customer_verdict verdict) results) own can_reply.0 (verdict-within verdict results within can_reply.1) same) no_report

  display-leaves : (header : Header) (results : Option (List Shown)) (last : ℕ) → old.standing ≡ Serving (Display header results) last → (meant : Heard) → IsNoReport (meaning_at old message)
      → Leaves (serving_display known number now last header results meant)
  display-leaves header results last is (heard.Begun stop) no_report = stays-leaves no_report
  display-leaves header results last is (heard.Note intermediate_status) no_report = stays-leaves no_report
  display-leaves header results last is heard.Line no_report = stays-leaves no_report
  display-leaves header results last is heard.Block no_report = stays-leaves no_report
  display-leaves header results last is heard.Seen no_report = stays-leaves no_report
  display-leaves header results last is (heard.Approved figures) no_report = stays-leaves no_report
  display-leaves header results last is heard.Done no_report = shown-leaves header results last success is tt no_report
  display-leaves header results last is (heard.Told reported approved result_code) no_report = stays-leaves no_report
  display-leaves header results last is (heard.Declined result_code reported) no_report = shown-leaves header results last (failure (condition_of_code result_code (was_stopped now.talk))) is tt no_report
  display-leaves header results last is heard.Unclear no_report = breaks-leaves
  display-leaves header results last is heard.Stray no_report = stays-leaves no_report

  -- ---- a device request

  -- what the terminal shows or prints is shown or printed at its till
  requests-leave : (at : RequestsDevice known number now (meaning_at old message) message) → IsTerminalInOrder known.kept old → IsNoReport (meaning_at old message) → Leaves (requests_device known number now at.till at.request)
  requests-leave at order no_report =
      let core : Core = with_device_request (with_terminal known.core number now) in
      let calls : List OwedCall = SendTill at.till at.request ∷ [] in
      let has : IsServiceOnRecord known.kept old.pt.poi at.last at.service = subst (AreRecordsOf known.kept old.pt.poi) at.standing_is order.records in
      let key = served-key laws known.kept old.pt.poi at.service at.last at.key holds.in_order.folded has at.key_is in
      parts-hold known past book (OfMessage number message) (ends_by past message old) (requests_device known number now at.till at.request) known.kept holds (record {
        records_are = append-nil known.kept;
        grows = grows-none known.kept past.commands;
        outcomes = holds.outcomes;
        calls = (
          device-sound known.kept (waiting_keys core) (OfMessage number message) (meaning_at old message) message known.core.device_requests at.key at.request prints
              (λ status same. noted old.talk old.awaited message status same) key holds.in_order.numbered at.request_is,
          tt,
        );
        from = from-set known number now known.kept past.commands calls (record { repliable = holds.repliable number old here; serving = λ uncharged uncut. holds.serving number old here });
        onto = λ other terminal found. let stays = onto-set known number old now here refl other terminal found in record { terminal = stays.terminal; found = stays.found; same = stays.same };
        inside = λ deed. refl;
        no_items = refl;
        reported = link-reported calls known.kept (λ as_report. absurd (no_report as_report));
      })

  -- ---- in each standing

  serving-leaves : (service : Service) (last : ℕ) (meant : Heard) → old.standing ≡ Serving service last → IsServiceOnRecord known.kept old.pt.poi last service → meaning_at old message ≡ meant → FitsRecord meant
      → IsNoReport (meaning_at old message) → Leaves (serving known number now service last meant)
  serving-leaves (Transaction slot) last meant is has means fits_record no_report = transaction-leaves slot last is has meant means fits_record no_report
  serving-leaves (EndOfDay header period) last meant is has means fits_record no_report = day-leaves header period last is has meant no_report
  serving-leaves (Display header results) last meant is has means fits_record no_report = display-leaves header results last is meant no_report

  consequence-leaves : (standing : Standing) (meant : Heard) → old.standing ≡ standing → AreRecordsOf known.kept old.pt.poi standing → IsDialogueOf standing old.talk old.awaited → meaning_at old message ≡ meant → FitsRecord meant
      → Leaves (consequence known number now meant standing)
  consequence-leaves (Unlinked due) meant is has runs means fits_record = nothing-leaves (report-enquires old message (Unlinked due) runs (λ e. cc))
  consequence-leaves Registering meant is has runs means fits_record = registering-leaves meant (report-enquires old message Registering runs (λ e. cc))
  consequence-leaves Enquiring meant is has runs means fits_record = enquiring-leaves meant is means fits_record
  consequence-leaves (Ready last) meant is has runs means fits_record = stays-leaves (report-enquires old message (Ready last) runs (λ e. cc))
  consequence-leaves (Serving service last) meant is has runs means fits_record =
      serving-leaves service last meant is has means fits_record (report-enquires old message (Serving service last) runs (λ e. cc))
  consequence-leaves (Aside before reported) meant is has runs means fits_record = stays-leaves (report-enquires old message (Aside before reported) runs (λ e. cc))

  -- a message that isn't taken reports nothing
  untaken-no-report : is_taken message ≡ false → IsNoReport (meaning_at old message)
  untaken-no-report untaken as_report =
      let taken : is_taken message ≡ true = means-taken old message (meaning_at old message) refl (λ stray. subst IsReport stray as_report) in
      cc

  -- one of a terminal that isn't linked neither
  unlinked-no-report : is_linked old.standing ≡ false → IsNoReport (meaning_at old message)
  unlinked-no-report unlinked = report-enquires old message old.standing (holds.dialogues number old here) (λ enquires. let on_link : is_linked old.standing ≡ true = ap is_linked enquires in cc)

  -- a message
  message-leaves : Leaves (owing_where (is_linked old.standing) known (handle_message known number old message))
  message-leaves = by-linked (is_linked old.standing) refl
    where
      in-order : IsTerminalInOrder known.kept old
      in-order = holds.in_order.terminals number old here

      -- what the message means follows, or a device request
      taken-leaves : Leaves (taken_row known number now (meaning_at old message) message)
      taken-leaves =
          taken-cases Leaves known number now (meaning_at old message) message
          (consequence-leaves old.standing (meaning_at old message) refl in-order.records (holds.dialogues number old here) refl (meant-fits old.talk (taken_as old.awaited message) in-order.read))
          (λ at stays. requests-leave at in-order (shown-no-report (meaning_at old message) at.is_shown))

      by-taken : (b : Bool) → is_taken message ≡ b → Leaves (owing_where b known (taken_row known number now (meaning_at old message) message))
      by-taken true is = taken-leaves
      by-taken false is = nothing-leaves (untaken-no-report is)

      by-linked : (b : Bool) → is_linked old.standing ≡ b → Leaves (owing_where b known (handle_message known number old message))
      by-linked true is = by-taken (is_taken message) refl
      by-linked false is = nothing-leaves (unlinked-no-report is)

-- ---- an APDU

-- nothing is owed, and no end is brought
none-holds : (known : Known) (past : Past) (book : List BookedEntry) (occasion : Occasion) → HoldsBetween known past book → HoldsAfterRow known (record past { occasion = occasion; ends = [] ++ past.ends }) book (owing_nothing known)
none-holds known past book occasion holds = parts-hold known past book occasion [] (owing_nothing known) known.kept holds (record {
  records_are = append-nil known.kept;
  grows = grows-none known.kept past.commands;
  outcomes = holds.outcomes;
  calls = tt;
  from = λ other terminal found. inl found;
  onto = λ other terminal found. onto-same known.core other terminal found;
  inside = λ deed. absurd cc;
  no_items = refl;
  reported = λ link it any. absurd cc;
})

-- with these ends
abbrev with-ends : Past → Occasion → List HeardEnd → Past
with-ends past occasion ends = record past { occasion = occasion; ends = ends ++ past.ends }

-- a message of the terminal of this number, where there is one
found-holds : (laws : LedgerLaws) (known : Known) (past : Past) (book : List BookedEntry) (number : ℕ) (message : MessageValue) (found : Option Terminal) → IsMessageSmall message → HoldsBetween known past book → NumberedBetween known past book → AreLinkedBeforeHearing past
    → terminal_at known number ≡ found → Honest (with-ends past (OfMessage number message) (flat_map (ends_by past message) (option_to_list found))) book
    → HoldsAfterRow known (with-ends past (OfMessage number message) (flat_map (ends_by past message) (option_to_list found))) book
    (of_terminal known (λ terminal. owing_where (is_linked terminal.standing) known (handle_message known number terminal message)) found)
found-holds laws known past book number message None prints holds numbered linked is honest = none-holds known past book (OfMessage number message) holds
found-holds laws known past book number message (Some old) prints holds numbered linked is honest =
    let same : ends_by past message old ++ [] ≡ ends_by past message old = append-nil (ends_by past message old) in
    subst (λ (ends : List HeardEnd). HoldsAfterRow known (with-ends past (OfMessage number message) ends) book (owing_where (is_linked old.standing) known (handle_message known number old message))) (sym same)
    (message-leaves laws known past book holds numbered linked number old is message prints (subst (λ (ends : List HeardEnd). Honest (with-ends past (OfMessage number message) ends) book) same honest))

-- what a terminal says
pub handle-holds : (laws : LedgerLaws) (number : ℕ) (apdu : ApduValue) → IsHandled apdu → RowHolds (Handle number apdu)
handle-holds laws number apdu handled scene tills known past book same holds numbered linked read honest = by-decoded (decode_pt_message apdu) refl honest
  where
    by-decoded : (decoded : Result MessageValue PtFault) → decode_pt_message apdu ≡ decoded → Honest (with-ends past (occasion_decoded number decoded) (ends_of scene past (occasion_decoded number decoded))) book
        → HoldsAfterRow known (with-ends past (occasion_decoded number decoded) (ends_of scene past (occasion_decoded number decoded))) book (handle_decoded known number decoded)
    by-decoded (Err fault) is true_of = none-holds known past book OfNothing holds
    by-decoded (Ok message) is true_of =
        let ends : ends_of scene past (OfMessage number message) ≡ flat_map (ends_by past message) (option_to_list (terminal_at known number)) =
        ap (λ (core : Core). flat_map (ends_by past message) (option_to_list (slice_get core.terminals number))) same in
        subst (λ (es : List HeardEnd). HoldsAfterRow known (with-ends past (OfMessage number message) es) book (handle_decoded known number (Ok message))) (sym ends)
        (found-holds laws known past book number message (terminal_at known number) (message-small apdu message handled is) holds numbered (linked refl) refl
        (subst (λ (es : List HeardEnd). Honest (with-ends past (OfMessage number message) es) book) ends true_of))
