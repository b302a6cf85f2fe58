-- What a message of a terminal's dialogue leaves of trace numbers: what was booked by then is what the terminal's last trace number says.
use Rattle.std.proofs.Common.{◌≡◌, ◌≤◌, ◌<◌, ◌∙◌, ℕ, Bool, true, false, ◌&&◌, ◌||◌, not, leb, ltb, List, [], ◌∷◌, ◌++◌, length, inl, inr, refl, sym, ap, subst, arith, append-nil}
use Rattle.std.specs.Prelude.{bytes_eq, if◌then◌else◌, slice_get, Option, Some, None, Result, Ok, Err}
use Rattle.std.specs.List.{flat_map, list_all}
use Rattle.std.specs.Option.{option_and_then, option_map, option_to_list}
use Rattle.std.proofs.lemmas.Bool.{and_parts, leb-false, ltb-false, ltb-true}
use Rattle.gw_base.specs.declared.condition.Condition.TheVariants.{Aborted}
use Rattle.gw_base.specs.declared.figures.Figures.{Figures}
use Rattle.sale_values.specs.declared.header.Header.{Header}
use Rattle.sale_reply.specs.declared.reply.Shown.{Shown}
use Rattle.zvt_apdu.specs.Grammar.{ApduValue}
use Rattle.zvt_msg.specs.declared.fault.PtFault.{PtFault}
use Rattle.zvt_msg.specs.Message.{MessageValue}
use Rattle.zvt_msg.specs.MessageDecode.{decode_pt_message}
use Rattle.zvt_talk.specs.declared.meaning.Heard.{Heard}
use Rattle.zvt_talk.specs.declared.meaning.Heard.TheVariants as heard
use Rattle.zvt_talk.specs.Came.{is_taken}
use Rattle.jrn_record.specs.declared.records.Intent.{Intent as TheIntent}
use Rattle.jrn_record.specs.declared.records.Outcome.{Outcome as TheOutcome}
use Rattle.jrn_record.specs.declared.records.Record.{Record}
use Rattle.jrn_record.specs.declared.records.How.TheVariants as hows
use Rattle.jrn_record.specs.declared.records.Record.TheVariants.{Outcome, Settled}
use Rattle.jrn_record.specs.declared.records.Settled.{Settled as TheSettled}
use Rattle.gw_ledger.specs.declared.entry.Entry.{Entry as TheEntry}
use Rattle.gw_ledger.specs.Accounts.{last_number_of}
use Rattle.gw_ledger.specs.Fold.{AreFolded, open_entry}
use Rattle.gw_ledger.specs.Keys.{intent_key}
use Rattle.xlate.specs.Codes.{condition_of_code}
use Rattle.gw_owes.specs.declared.terminal.Service.{Service}
use Rattle.gw_owes.specs.declared.terminal.Service.TheVariants.{Transaction, EndOfDay, Display}
use Rattle.gw_owes.specs.declared.terminal.Standing.{Standing}
use Rattle.gw_owes.specs.declared.terminal.Standing.TheVariants.{Unlinked, Registering, Enquiring, Ready, Serving, Aside}
use Rattle.gw_owes.specs.declared.terminal.Terminal.{Terminal}
use Rattle.gw_owes.specs.Awaited.{one_more_awaited}
use Rattle.gw_owes.specs.Calls.{OwedCall, Ask, SendPt, CutPt, keep_calls, records_kept}
use Rattle.gw_owes.specs.Core.{Core}
use Rattle.gw_owes.specs.DeviceRequests.{requests_device}
use Rattle.gw_owes.specs.Displays.{serving_display, with_customer_verdict}
use Rattle.gw_owes.specs.Handling.{consequence, enquiring, enquiry_command, handle_decoded, handle_message, meaning_at, registering, serving, taken_row, taking}
use Rattle.gw_owes.specs.Items.{Handle}
use Rattle.gw_owes.specs.Links.{is_linked}
use Rattle.gw_owes.specs.Reconciliations.{day_done, reply_to_settled, serving_day, settled_of}
use Rattle.gw_owes.specs.RecordLaws.{AreRecordsOf, IsServedOpen, IsServiceOnRecord, IsTerminalInOrder}
use Rattle.gw_owes.specs.Replies.{display_reply, failure, failure_reply, success}
use Rattle.gw_owes.specs.Reply.{ReplyValue}
use Rattle.gw_owes.specs.Reports.{Report, least_against, on_record, outcome_as_last, outcome_reported, report_against, report_row, standing_reported}
use Rattle.gw_owes.specs.Row.{Known, Row, owing_nothing, owing_where}
use Rattle.gw_owes.specs.Serving.{approved_outcome, approved_row, at_rest, breaking, declined_outcome, declined_row, done_with, last_after_decline, refused_outcome, reply_to_outcome, resolves, serving_transaction, staying, stops, was_stopped}
use Rattle.gw_owes.specs.Terminals.{after_command, of_terminal, reply_calls_to, terminal_at, terminal_becomes, with_terminal}
use Rattle.gw_owes.proofs.HandlingLemmas.{taken-cases}
use Rattle.gw_owes.proofs.KeepingLemmas.{replies-keep-nothing}
use Rattle.gw_owes.proofs.RecordLemmas.{IsOpenWith, LedgerLaws, open-parts, open-without-outcome, open_entry_of}
use Rattle.gw_books.specs.Books.{BookedEntry, Honest, is_caused_by, is_entry_number, is_over, is_true, was_booked}
use Rattle.gw_books.specs.Past.{Approved, Declined, Ending, HeardEnd, OfMessage, Past, SentCommand, command_served, ending_with, ends_by, ends_of, occasion_decoded, served_in, Numbering, numbering_at, numbering_of}
use Rattle.gw_books.proofs.BookLemmas.{after-cause, booked-is, booked-later, booked-trace, earlier-lower, is-caused, numbered-within, of-sent, one-caused}
use Rattle.gw_books.proofs.Holding.{HasApprovedEntry, HasNoApproval, HoldsBetween, IsLastSentFor, IsServingSound, charge_owed, deed_owed}
use Rattle.gw_books.proofs.KeyedLemmas.{sent-below, sent-same}
use Rattle.gw_books.proofs.ListLemmas.{In, all-in, found-in}
use Rattle.gw_books.proofs.NumberStepLemmas.{standings-set}
use Rattle.gw_books.proofs.Numbering.{AreLinkedBeforeHearing, AreRecordsNumbered, AreStandingsNumbered, IsBookedNumber, IsForKey, IsOpenNumbered, IsQuiet, IsReadyNumber, IsStandingNumbered, NumberedAfterRow, NumberedBetween, RowNumbers}
use Rattle.gw_books.proofs.RecordNumberLemmas.{numbered-with-outcome, numbered-with-settled, open-numbered, open-numbering}
use Rattle.gw_books.proofs.ReportLemmas.{ReportFacts, approval-borne, decline-borne, end-true, end_heard, or-other, past_with, report-borne}
use Rattle.gw_books.proofs.RowNumberLemmas.{charge-is-deed, nothing-quiet, numbers-begun, quiet-numbers}
use Rattle.gw_books.proofs.ServedReplyLemmas.{replies-no-deed}
use Rattle.gw_base.specs.declared.setup.Pt.{Pt}

-- the replies that a terminal's end owes ask for nothing
replies-uncharged : (number : ℕ) (asker : Option ℕ) (reply : Option ReplyValue) → charge_owed number (reply_calls_to asker reply) ≡ false
replies-uncharged number None reply = refl
replies-uncharged number (Some till) None = refl
replies-uncharged number (Some till) (Some reply) = refl

-- the Outcome of what a report resolves is of its slot
reported-slot : (entry : TheEntry) (report : Report) (moment : ℕ) → (outcome_reported entry report moment).slot ≡ entry.slot
reported-slot entry report moment = by-report (ltb entry.intent.before report.trace) report.approved
  where
    by-report : (rises : Bool) (approved : Option Figures) → (if rises then outcome_as_last entry.slot approved report.result_code moment else refused_outcome entry.slot Aborted moment).slot ≡ entry.slot
    by-report true None = refl
    by-report true (Some figures) = refl
    by-report false approved = refl

-- ---- a message of a terminal

module _ (laws : LedgerLaws) (known : Known) (past : Past) (book : List BookedEntry) (between : HoldsBetween known past book) (n : NumberedBetween known past book) (number : ℕ) (old : Terminal) (here : terminal_at known number ≡ Some old) (message : MessageValue) where
  -- the terminal once it was taken
  abbrev now : Terminal
  now = taking old message known.moment

  abbrev After : Row → Type 0
  After row = NumberedAfterRow known past book row

  -- what the book has of the terminal in a standing
  abbrev Stands : Standing → Type 0
  Stands standing = IsStandingNumbered past.links past.commands past.place book (numbering_at old.pt) standing

  -- the terminal becomes another with its settings
  set : (new : Terminal) → new.pt ≡ old.pt → Stands new.standing → AreStandingsNumbered past book (with_terminal known.core number new)
  set new same stands =
      standings-set past book known.core number old new here (λ other one apart found. n.standings other one found)
      (subst (λ (pt : Pt). IsStandingNumbered past.links past.commands past.place book (numbering_at pt) new.standing) (sym same) stands)

  -- and nothing is kept, and nothing asked that may charge a card
  quiet-after : (new : Terminal) (calls : List OwedCall) → records_kept calls ≡ [] → deed_owed calls ≡ false → new.pt ≡ old.pt → Stands new.standing → After (terminal_becomes known number new calls)
  quiet-after new calls none_kept no_deed same stands = record {
    records = subst (λ (records : List Record). AreRecordsNumbered book past.commands past.place records) (sym (ap (λ l. known.kept ++ l) none_kept ∙ append-nil known.kept)) n.records;
    standings = set new same stands;
    asked = λ other terminal found owed. let clash : true ≡ false = sym (charge-is-deed other calls owed) ∙ no_deed in absurd cc;
  }

  nothing-after : After (owing_nothing known)
  nothing-after = quiet-numbers known past book (owing_nothing known) n (nothing-quiet known)

  stays-after : After (staying known number now)
  stays-after = quiet-after now [] refl refl refl (n.standings number old here)

  breaks-after : After (breaking known number now)
  breaks-after = quiet-after now (CutPt number ∷ []) refl refl refl (n.standings number old here)

  stops-after : After (stops known number now)
  stops-after = quiet-after (record now { awaited = one_more_awaited now.awaited }) _ refl refl refl (n.standings number old here)

  -- what is open has its Outcome
  resolves-after : (standing : Standing) (outcome : TheOutcome) (intent : TheIntent) → open_entry known.kept old.pt.poi ≡ Some (open_entry_of outcome.slot intent) → IsBookedNumber book (numbering_at old.pt) past.place outcome.number → Stands standing → After (resolves known number now standing outcome)
  resolves-after standing outcome intent is_open booked stands =
      let folded : AreFolded known.kept = between.in_order.folded in
      let opened : IsOpenWith known.kept old.pt.poi outcome.slot intent = open-parts laws known.kept folded old.pt.poi outcome.slot intent is_open in
      let same : numbering_of intent ≡ numbering_at old.pt = open-numbering laws known.kept folded old.pt outcome.slot intent opened.slot_is opened.intent_is in
      let kept : records_kept (keep_calls (length known.kept) (Outcome outcome) ++ reply_calls_to now.asker (reply_to_outcome known.kept outcome.slot outcome)) ≡ Outcome outcome ∷ [] =
      ap (λ (rest : List Record). Outcome outcome ∷ rest) (replies-keep-nothing now.asker (reply_to_outcome known.kept outcome.slot outcome)).no_records in
      record {
        records = subst (λ (records : List Record). AreRecordsNumbered book past.commands past.place records) (sym (ap (λ l. known.kept ++ l) kept))
            (numbered-with-outcome known.kept outcome intent opened.intent_is book past.commands past.place n.records (subst (λ (n : Numbering). IsBookedNumber book n past.place outcome.number) (sym same) booked));
        standings = set (done_with now standing) refl stands;
        asked = λ other terminal found owed. let clash : true ≡ false = sym owed ∙ replies-uncharged other now.asker (reply_to_outcome known.kept outcome.slot outcome) in absurd cc;
      }

  -- ---- a registration

  registering-after : (meant : Heard) → old.standing ≡ Registering → After (registering known number now meant)
  registering-after (heard.Begun stop) is = stays-after
  registering-after (heard.Note intermediate_status) is = stays-after
  registering-after heard.Line is = stays-after
  registering-after heard.Block is = stays-after
  registering-after heard.Seen is = stays-after
  registering-after (heard.Approved figures) is = stays-after
  registering-after heard.Done is =
      quiet-after (after_command now (enquiry_command now.pt) Enquiring known.moment) (SendPt number (Ask (enquiry_command now.pt)) ∷ []) refl refl refl (subst Stands is (n.standings number old here))
  registering-after (heard.Told reported approved result_code) is = stays-after
  registering-after (heard.Declined result_code reported) is = breaks-after
  registering-after heard.Unclear is = breaks-after
  registering-after heard.Stray is = stays-after

  module _ (linked : AreLinkedBeforeHearing past) (honest : Honest (past_with past number message old) book) where
    -- ---- an enquiry

    -- a report: what is open has its Outcome, and the terminal is ready
    report-after : (trace : ℕ) (approved : Option Figures) (result_code : ℕ) → old.standing ≡ Enquiring → meaning_at old message ≡ heard.Told trace approved result_code
        → After (report_row (on_record known.kept old.pt.poi) known number now (record { trace = trace; approved = approved; result_code = result_code }))
    report-after trace approved result_code is means = by-open (open_entry known.kept old.pt.poi) refl facts.not_below
      where
        report : Report
        report = record { trace = trace; approved = approved; result_code = result_code }

        facts : ReportFacts book past.commands known.kept (numbering_at old.pt) past.place report
        facts = report-borne laws known past book between n linked number old message here is honest trace approved result_code means

        by-least : (least : ℕ) → least ≤ trace → (b : Bool) → leb least trace ≡ b → Stands (if b then Ready trace else Aside least trace)
        by-least least above true is = facts.ready
        by-least least above false is = absurd (let below = leb-false least trace is in omega (arith, below, above))

        by-entry : (entry : TheEntry) → open_entry known.kept old.pt.poi ≡ Some entry → entry.intent.before ≤ trace → (b : Bool) → leb entry.intent.before trace ≡ b
            → After (if b then resolves known number now (Ready trace) (outcome_reported entry report known.moment) else terminal_becomes known number (at_rest now (Aside entry.intent.before trace)) [])
        by-entry entry opened above true test =
            let is_open : open_entry known.kept old.pt.poi ≡ Some (open_entry_of entry.slot entry.intent) = open-without-outcome laws known.kept between.in_order.folded old.pt.poi entry opened in
            resolves-after (Ready trace) (outcome_reported entry report known.moment) entry.intent
            (subst (λ (slot : ℕ). open_entry known.kept old.pt.poi ≡ Some (open_entry_of slot entry.intent)) (sym (reported-slot entry report known.moment)) is_open) (facts.number entry known.moment opened) facts.ready
        by-entry entry opened above false test = absurd (let below = leb-false entry.intent.before trace test in omega (arith, below, above))

        by-open : (found : Option TheEntry) → open_entry known.kept old.pt.poi ≡ found → least_against found (last_number_of known.kept old.pt.poi) ≤ trace → After (report_against found (last_number_of known.kept old.pt.poi) known number now report)
        by-open None none least =
            quiet-after (at_rest now (standing_reported (last_number_of known.kept old.pt.poi) trace)) [] refl refl refl
            (by-least (last_number_of known.kept old.pt.poi) least (leb (last_number_of known.kept old.pt.poi) trace) refl)
        by-open (Some entry) opened least = by-entry entry opened least (leb entry.intent.before trace) refl

    enquiring-after : (meant : Heard) → old.standing ≡ Enquiring → meaning_at old message ≡ meant → After (enquiring known number now meant)
    enquiring-after (heard.Begun stop) is means = stays-after
    enquiring-after (heard.Note intermediate_status) is means = stays-after
    enquiring-after heard.Line is means = stays-after
    enquiring-after heard.Block is means = stays-after
    enquiring-after heard.Seen is means = stays-after
    enquiring-after (heard.Approved figures) is means = stays-after
    enquiring-after heard.Done is means = stays-after
    enquiring-after (heard.Told trace approved result_code) is means = report-after trace approved result_code is means
    enquiring-after (heard.Declined result_code reported) is means = breaks-after
    enquiring-after heard.Unclear is means = breaks-after
    enquiring-after heard.Stray is means = stays-after

    -- ---- a payment

    module _ (slot last : ℕ) (standing_is : old.standing ≡ Serving (Transaction slot) last) (has : IsServedOpen known.kept old.pt.poi last slot) where
      folded : AreFolded known.kept
      folded = between.in_order.folded

      abbrev intent : TheIntent
      intent = has.intent

      opened : IsOpenWith known.kept old.pt.poi slot intent
      opened = open-parts laws known.kept folded old.pt.poi slot intent has.is_open

      -- the last command to the terminal was sent for what it serves
      sent : IsLastSentFor past.commands old.pt.poi (intent_key intent)
      sent = subst (IsServingSound known.kept past.commands old.pt.poi) standing_is (between.serving number old here) intent opened.intent_is

      found : In sent.command past.commands × (bytes_eq sent.command.numbering.poi old.pt.poi ≡ true)
      found = found-in (λ (one : SentCommand). bytes_eq one.numbering.poi old.pt.poi) past.commands sent.command sent.last

      key-open : IsOpenNumbered book past.commands (numbering_at old.pt) past.place (intent_key intent) intent.before
      key-open =
          subst (λ (n : Numbering). IsOpenNumbered book past.commands n past.place (intent_key intent) intent.before) (open-numbering laws known.kept folded old.pt slot intent opened.slot_is opened.intent_is)
          (open-numbered laws known.kept folded book past.commands past.place n.records.intents old.pt.poi slot intent opened.slot_is opened.intent_is)

      -- an entry of the key is the command's
      own-cause : (entry : BookedEntry) → IsForKey past.commands (intent_key intent) entry → entry.cause ≡ Some sent.command.place
      own-cause entry own =
          own.caused ∙ ap (λ (command : SentCommand). Some command.place) (between.commands.once own.command sent.command (intent_key intent) own.sent found.0 own.key_is sent.key_is)

      -- once the command is over, all is booked
      over-quiet : (end : HeardEnd) → end.place ≤ past.place → is_over book end sent.command.place ≡ true → IsQuiet book past.commands (numbering_at old.pt) past.place
      over-quiet end until over entry within same of = elim (key-open.others entry within same of sent.command found.0 sent.key_is) [
        | inl early ↦ (let before = sent-below past.place past.commands between.commands.falling sent.command found.0 in omega (arith, early, before))
        | inr own ↦
            (let booked : was_booked end entry ≡ true =
            or-other (is_caused_by sent.command.place entry) (was_booked end entry) (all-in (λ (one : BookedEntry). not (is_caused_by sent.command.place one) || was_booked end one) book over entry within)
            (is-caused sent.command.place entry (own-cause entry own)) in
            let placed = (booked-is end entry booked).1 in
            omega (arith, placed, until))
      ]

      -- the end that the message brings is true
      end-is-true : (meant : Heard) (ending : Ending) → meaning_at old message ≡ meant → ending_with (Some sent.command.place) meant ≡ Some ending → is_true book (end_heard past old.pt ending) ending ≡ true
      end-is-true meant ending means is =
          end-true past book number message old ending honest
          (ap (λ (s : Standing). ending_with (option_and_then (command_served past old.pt.poi) (served_in s)) (meaning_at old message)) standing_is
          ∙ ap (λ (m : Heard). ending_with (command_served past old.pt.poi (Transaction slot)) m) means
          ∙ ap (λ (c : Option SentCommand). ending_with (option_map (λ (one : SentCommand). one.place) c) meant) sent.last
          ∙ is)

      -- the number before is booked, and so each later number that is
      last-booked : IsBookedNumber book (numbering_at old.pt) past.place last
      last-booked = subst (λ (trace : ℕ). IsBookedNumber book (numbering_at old.pt) past.place trace) has.before (elim key-open.base [
        | inl none ↦ inl none
        | inr before ↦ inr before.numbered
      ])

      -- an approval: its number is above the one before, and the terminal is ready with it
      module _ (figures : Figures) (means : meaning_at old message ≡ heard.Approved figures) where
        abbrev end : HeardEnd
        end = end_heard past old.pt (Approved sent.command.place figures)

        ends : is_true book end (Approved sent.command.place figures) ≡ true
        ends = end-is-true (heard.Approved figures) (Approved sent.command.place figures) means refl

        booked : HasApprovedEntry book past.place sent.command (approved_outcome slot figures known.moment)
        booked = approval-borne book past.place sent.command end slot figures known.moment between.heard ends

        booked-numbering : booked.entry.numbering ≡ numbering_at old.pt
        booked-numbering =
            let was = of-sent (past_with past number message old) book honest booked.entry booked.within booked.placed sent.command.place booked.caused in
            let one : was.command ≡ sent.command = sent-same past.place past.commands between.commands.falling was.command sent.command was.sent found.0 was.place_is in
            sym was.numbering_is ∙ ap (λ (command : SentCommand). command.numbering) one ∙ key-open.sent_to sent.command found.0 sent.key_is

        above : intent.before < figures.number
        above = elim key-open.base [
          | inl none ↦ (let some = numbered-within (past_with past number message old) book honest booked.entry booked.within in let number = booked.number in omega (arith, none, some, number))
          | inr before ↦
              (let early = before.earlier sent.command found.0 sent.key_is in
              let late = after-cause (past_with past number message old) book honest booked.entry booked.within sent.command.place booked.caused in
              let rises = earlier-lower book honest.ordered before.numbered.entry booked.entry before.numbered.within booked.within (before.numbered.numbering_is ∙ sym booked-numbering) (omega (arith, early, late)) in
              let number = booked.number in
              let own = before.numbered.number_is in
              omega (arith, rises, number, own))
        ]

        approved-ready : IsReadyNumber book past.commands (numbering_at old.pt) past.place figures.number
        approved-ready = record {
          booked = inr (record { entry = booked.entry; within = booked.within; numbering_is = booked-numbering; placed = booked.placed; number_is = booked.number });
          greatest = λ entry within same of approved. elim (key-open.lower entry within same of approved) [
            | inl low ↦ omega (arith, low, above)
            | inr own ↦
                (let one : entry ≡ booked.entry = one-caused book honest.ordered entry booked.entry within booked.within (ap (λ (n : Numbering). n.poi) (same ∙ sym booked-numbering)) sent.command.place (own-cause entry own) booked.caused in
                let number : entry.number ≡ figures.number = ap (λ (e : BookedEntry). e.number) one ∙ booked.number in
                omega (arith, number))
          ];
          quiet = over-quiet end between.heard (and_parts (is_over book end sent.command.place) _ ends).0;
        }

        approved-after : After (approved_row known number now slot last figures)
        approved-after = by-test (ltb last figures.number) refl
          where
            by-test : (b : Bool) → ltb last figures.number ≡ b
                → After (if b then resolves known number now (Ready figures.number) (approved_outcome slot figures known.moment) else terminal_becomes known number (at_rest now (Aside last figures.number)) [])
            by-test true rises =
                resolves-after (Ready figures.number) (approved_outcome slot figures known.moment) intent has.is_open approved-ready.booked approved-ready
            by-test false falls = absurd (let below = ltb-false last figures.number falls in let before = has.before in let rises = above in omega (arith, below, before, rises))

      -- a decline: the terminal is ready with the last status' number where that is greater
      module _ (result_code : ℕ) (trace : Option ℕ) (means : meaning_at old message ≡ heard.Declined result_code trace) where
        abbrev decline-end : HeardEnd
        decline-end = end_heard past old.pt (Declined sent.command.place trace)

        decline-ends : is_true book decline-end (Declined sent.command.place trace) ≡ true
        decline-ends = end-is-true (heard.Declined result_code trace) (Declined sent.command.place trace) means refl

        none-approved : HasNoApproval book sent.command
        none-approved = decline-borne book sent.command decline-end trace decline-ends

        traces : list_all (is_entry_number book decline-end) (option_to_list trace) ≡ true
        traces =
            let over = and_parts (is_over book decline-end sent.command.place) _ decline-ends in
            (and_parts (list_all (λ (one : BookedEntry). not (is_caused_by sent.command.place one && one.approved)) book) (list_all (is_entry_number book decline-end) (option_to_list trace)) over.1).1

        after-booked : (reported : Option ℕ) → list_all (is_entry_number book decline-end) (option_to_list reported) ≡ true → IsBookedNumber book (numbering_at old.pt) past.place (last_after_decline last reported)
        after-booked None all = last-booked
        after-booked (Some reported) all = by-test (ltb last reported)
          where
            by-test : (b : Bool) → IsBookedNumber book (numbering_at old.pt) past.place (if b then reported else last)
            by-test true =
                booked-later decline-end.place past.place between.heard book (numbering_at old.pt) reported (booked-trace past book decline-end reported (and_parts (is_entry_number book decline-end reported) true all).0)
            by-test false = last-booked

        not-below : (reported : Option ℕ) → last ≤ last_after_decline last reported
        not-below None = omega arith
        not-below (Some reported) = by-test (ltb last reported) refl
          where
            by-test : (b : Bool) → ltb last reported ≡ b → last ≤ (if b then reported else last)
            by-test true rises = let rise = ltb-true last reported rises in omega (arith, rise)
            by-test false is = omega arith

        declined-ready : IsReadyNumber book past.commands (numbering_at old.pt) past.place (last_after_decline last trace)
        declined-ready = record {
          booked = after-booked trace traces;
          greatest = λ entry within same of approved. elim (key-open.lower entry within same of approved) [
            | inl low ↦ (let before = has.before in let least = not-below trace in omega (arith, low, before, least))
            | inr own ↦ (let none : entry.approved ≡ false = none-approved entry within (own-cause entry own) in let clash : true ≡ false = sym approved ∙ none in absurd cc)
          ];
          quiet = over-quiet decline-end between.heard (and_parts (is_over book decline-end sent.command.place) _ decline-ends).0;
        }

        declined-after : After (declined_row known number now slot last result_code trace)
        declined-after =
            resolves-after (Ready (last_after_decline last trace)) (declined_outcome slot result_code (was_stopped now.talk) known.moment) intent has.is_open (inl refl) declined-ready

      transaction-after : (meant : Heard) → meaning_at old message ≡ meant → After (serving_transaction known number now slot last meant)
      transaction-after (heard.Begun true) means = stops-after
      transaction-after (heard.Begun false) means = stays-after
      transaction-after (heard.Note intermediate_status) means = stays-after
      transaction-after heard.Line means = stays-after
      transaction-after heard.Block means = stays-after
      transaction-after heard.Seen means = stays-after
      transaction-after (heard.Approved figures) means = approved-after figures means
      transaction-after heard.Done means = stays-after
      transaction-after (heard.Told reported approved result_code) means = stays-after
      transaction-after (heard.Declined result_code trace) means = declined-after result_code trace means
      transaction-after heard.Unclear means = breaks-after
      transaction-after heard.Stray means = stays-after

    -- ---- an end of day, and a display

    -- the terminal is ready as before, nothing is kept, and its till gets the reply, where there is one
    replied-after : (last : ℕ) (reply : Option ReplyValue) → IsReadyNumber book past.commands (numbering_at old.pt) past.place last → After (terminal_becomes known number (done_with now (Ready last)) (reply_calls_to now.asker reply))
    replied-after last reply ready =
        quiet-after (done_with now (Ready last)) (reply_calls_to now.asker reply) (replies-keep-nothing now.asker reply).no_records (replies-no-deed now.asker reply) refl ready

    -- an end of day is done: its Settled is kept
    settles-after : (header : Header) (last : ℕ) → IsReadyNumber book past.commands (numbering_at old.pt) past.place last → After (day_done known number now last header)
    settles-after header last ready =
        let settled : TheSettled = settled_of hows.Acquirer header now.pt.currency known.moment in
        let reply : Option ReplyValue = reply_to_settled known.kept settled in
        record {
          records = subst (λ (records : List Record). AreRecordsNumbered book past.commands past.place records)
              (sym (ap (λ (rest : List Record). known.kept ++ Settled settled ∷ rest) (replies-keep-nothing now.asker reply).no_records))
              (numbered-with-settled laws known.kept settled book past.commands past.place n.records);
          standings = set (done_with now (Ready last)) refl ready;
          asked = λ other terminal found owed. let clash : true ≡ false = sym owed ∙ replies-uncharged other now.asker reply in absurd cc;
        }

    day-after : (header : Header) (last : ℕ) (meant : Heard) → IsReadyNumber book past.commands (numbering_at old.pt) past.place last → After (serving_day known number now last header meant)
    day-after header last (heard.Begun true) ready = stops-after
    day-after header last (heard.Begun false) ready = stays-after
    day-after header last (heard.Note intermediate_status) ready = stays-after
    day-after header last heard.Line ready = stays-after
    day-after header last heard.Block ready = stays-after
    day-after header last heard.Seen ready = stays-after
    day-after header last (heard.Approved figures) ready = stays-after
    day-after header last heard.Done ready = settles-after header last ready
    day-after header last (heard.Told reported approved result_code) ready = stays-after
    day-after header last (heard.Declined result_code reported) ready = replied-after last (Some (failure_reply header (condition_of_code result_code (was_stopped now.talk)))) ready
    day-after header last heard.Unclear ready = breaks-after
    day-after header last heard.Stray ready = stays-after

    display-after : (header : Header) (results : Option (List Shown)) (last : ℕ) (meant : Heard) → IsReadyNumber book past.commands (numbering_at old.pt) past.place last → After (serving_display known number now last header results meant)
    display-after header results last (heard.Begun stop) ready = stays-after
    display-after header results last (heard.Note intermediate_status) ready = stays-after
    display-after header results last heard.Line ready = stays-after
    display-after header results last heard.Block ready = stays-after
    display-after header results last heard.Seen ready = stays-after
    display-after header results last (heard.Approved figures) ready = stays-after
    display-after header results last heard.Done ready = replied-after last (display_reply header (option_map (with_customer_verdict success) results)) ready
    display-after header results last (heard.Told reported approved result_code) ready = stays-after
    display-after header results last (heard.Declined result_code reported) ready =
        replied-after last (display_reply header (option_map (with_customer_verdict (failure (condition_of_code result_code (was_stopped now.talk)))) results)) ready
    display-after header results last heard.Unclear ready = breaks-after
    display-after header results last heard.Stray ready = stays-after

    -- ---- a device request

    -- what the terminal shows or prints changes no terminal
    requests-after : (till : ℕ) (request : ReplyValue) → After (requests_device known number now till request)
    requests-after till request = record {
      records = subst (λ (records : List Record). AreRecordsNumbered book past.commands past.place records) (sym (append-nil known.kept)) n.records;
      standings = λ other terminal found. set now refl (n.standings number old here) other terminal found;
      asked = λ other terminal found owed. absurd cc;
    }

    -- ---- in each standing

    serving-after : (service : Service) (last : ℕ) (meant : Heard) → old.standing ≡ Serving service last → IsServiceOnRecord known.kept old.pt.poi last service → meaning_at old message ≡ meant
        → After (serving known number now service last meant)
    serving-after (Transaction slot) last meant is has means = transaction-after slot last is has meant means
    serving-after (EndOfDay header period) last meant is has means = day-after header last meant (subst Stands is (n.standings number old here))
    serving-after (Display header results) last meant is has means = display-after header results last meant (subst Stands is (n.standings number old here))

    consequence-after : (standing : Standing) (meant : Heard) → old.standing ≡ standing → AreRecordsOf known.kept old.pt.poi standing → meaning_at old message ≡ meant → After (consequence known number now meant standing)
    consequence-after (Unlinked due) meant is has means = nothing-after
    consequence-after Registering meant is has means = registering-after meant is
    consequence-after Enquiring meant is has means = enquiring-after meant is means
    consequence-after (Ready last) meant is has means = stays-after
    consequence-after (Serving service last) meant is has means = serving-after service last meant is has means
    consequence-after (Aside before reported) meant is has means = stays-after

    message-after : After (owing_where (is_linked old.standing) known (handle_message known number old message))
    message-after = by-linked (is_linked old.standing)
      where
        in-order : IsTerminalInOrder known.kept old
        in-order = between.in_order.terminals number old here

        by-taken : (b : Bool) → After (owing_where b known (taken_row known number now (meaning_at old message) message))
        by-taken true =
            taken-cases After known number now (meaning_at old message) message
            (consequence-after old.standing (meaning_at old message) refl in-order.records refl) (λ at stays. requests-after at.till at.request)
        by-taken false = nothing-after

        by-linked : (b : Bool) → After (owing_where b known (handle_message known number old message))
        by-linked true = by-taken (is_taken message)
        by-linked false = nothing-after

-- ---- an APDU

pub handle-numbers : (laws : LedgerLaws) (number : ℕ) (apdu : ApduValue) → RowNumbers (Handle number apdu)
handle-numbers laws number apdu scene tills known past book same between n linked read honest =
    numbers-begun scene known past book (Handle number apdu) _ (by-decoded (decode_pt_message apdu) honest)
  where
    nothing : NumberedAfterRow known past book (owing_nothing known)
    nothing = quiet-numbers known past book (owing_nothing known) n (nothing-quiet known)

    by-found : (message : MessageValue) (found : Option Terminal) → terminal_at known number ≡ found
        → Honest (record past { occasion = OfMessage number message; ends = flat_map (ends_by past message) (option_to_list found) ++ past.ends }) book
        → NumberedAfterRow known past book (of_terminal known (λ terminal. owing_where (is_linked terminal.standing) known (handle_message known number terminal message)) found)
    by-found message None is true_of = nothing
    by-found message (Some old) is true_of =
        message-after laws known past book between n number old is message (linked refl)
        (subst (λ (ends : List HeardEnd). Honest (record past { occasion = OfMessage number message; ends = ends ++ past.ends }) book) (append-nil (ends_by past message old)) true_of)

    by-decoded : (decoded : Result MessageValue PtFault) → Honest (record past { occasion = occasion_decoded number decoded; ends = ends_of scene past (occasion_decoded number decoded) ++ past.ends }) book
        → NumberedAfterRow known past book (handle_decoded known number decoded)
    by-decoded (Err fault) true_of = nothing
    by-decoded (Ok message) true_of =
        let ends : ends_of scene past (OfMessage number message) ≡ flat_map (ends_by past message) (option_to_list (terminal_at known number)) =
        ap (λ (core : Core). flat_map (ends_by past message) (option_to_list (slice_get core.terminals number))) same in
        by-found message (terminal_at known number) refl (subst (λ (es : List HeardEnd). Honest (record past { occasion = OfMessage number message; ends = es ++ past.ends }) book) ends true_of)
