-- All bytes that are sent to a till are the frame of a message: each reply that is owed can be spelled, whatever the books say.
use Rattle.std.proofs.Common.{◌≡◌, ◌<◌, ◌^◌, ℕ, Bool, true, false, List, [], ◌∷◌, ◌++◌, length, refl, sym, ◌∙◌, ◌+◌, ap, subst, arith}
use Rattle.std.proofs.lemmas.List.{length-append}
use Rattle.std.specs.Prelude.{if◌then◌else◌, option_map, nat_lt, nat_le, slice_get, Option, Some, None, Result, Ok, Err}
use Rattle.gw_base.specs.declared.condition.Condition.TheVariants.{Aborted}
use Rattle.gw_base.specs.declared.condition.Condition.{Condition}
use Rattle.gw_base.specs.declared.figures.Figures.{Figures}
use Rattle.gw_base.specs.declared.setup.Setup.{Setup}
use Rattle.gw_site.specs.Outside.{Connection, is_connected}
use Rattle.gw_site.specs.declared.turn.Turn.{Turn}
use Rattle.gw_site.specs.declared.turn.Turn.TheVariants.{Start, OpenFailed, Polled, Opened, HeardTill, Closed, HeardPt, Lost, Stopped, Linked, LinkFailed, SentTill, SentPt, CutTill, CutPt, Wrote, Synced, DiskFailed, Crash}
use Rattle.sale_values.specs.declared.header.Header.{Header}
use Rattle.sale_values.specs.declared.names.Period.{Period}
use Rattle.sale_values.specs.declared.names.Period.TheVariants.{AcquirerReconciliation, SaleReconciliation}
use Rattle.sale_values.specs.declared.request.SaleRequest.{SaleRequest}
use Rattle.sale_values.specs.declared.request.SaleRequest.TheVariants as requests
use Rattle.sale_values.specs.Key.{key_of}
use Rattle.sale_reply.specs.Limits.{IsVerdictWithinLimits}
use Rattle.sale_reply.specs.declared.reply.Shown.{Shown}
use Rattle.sale_reply.specs.declared.reply.Verdict.{Verdict}
use Rattle.zvt_msg.specs.declared.fault.PtFault.{PtFault}
use Rattle.zvt_msg.specs.Message.{MessageValue, Ack, Nack, Intermediate, Line, Block, Status, Completion, Abort, Other}
use Rattle.zvt_msg.specs.MessageDecode.{decode_pt_message}
use Rattle.zvt_talk.specs.Came.{is_taken}
use Rattle.zvt_talk.specs.declared.meaning.Heard.{Heard}
use Rattle.zvt_talk.specs.declared.meaning.Heard.TheVariants as heard
use Rattle.jrn_record.specs.Limits.{IsOutcome, IsSettled}
use Rattle.jrn_record.specs.declared.records.How.TheVariants as hows
use Rattle.jrn_record.specs.declared.records.Outcome.{Outcome as TheOutcome}
use Rattle.jrn_record.specs.declared.records.Record.TheVariants.{Settled}
use Rattle.jrn_record.specs.declared.records.Settled.{Settled as TheSettled}
use Rattle.gw_ledger.specs.declared.entry.Entry.{Entry as TheEntry}
use Rattle.gw_ledger.specs.Accounts.{last_number_of}
use Rattle.gw_ledger.specs.Fold.{open_entry}
use Rattle.xlate.specs.Codes.{condition_of_code}
use Rattle.gw_owes.specs.declared.terminal.Service.{Service}
use Rattle.gw_owes.specs.declared.terminal.Service.TheVariants.{Transaction, EndOfDay, Display}
use Rattle.gw_owes.specs.declared.terminal.Standing.{Standing}
use Rattle.gw_owes.specs.declared.terminal.Standing.TheVariants.{Unlinked, Registering, Enquiring, Ready, Serving, Aside}
use Rattle.gw_owes.specs.declared.terminal.Terminal.{Terminal}
use Rattle.gw_owes.specs.Calls.{OwedCall, SendTill, SendPt, LinkPt, WriteBody, WriteGate, WriteFirstGate, Sync, CutTill as OwedCutTill, CutPt as OwedCutPt}
use Rattle.gw_owes.specs.Core.{Core, new_core, new_terminal}
use Rattle.gw_owes.specs.Deadlines.{is_late, is_due}
use Rattle.gw_owes.specs.DeviceRequests.{requests_device}
use Rattle.gw_owes.specs.Displays.{display_ends, serving_display, with_customer_verdict}
use Rattle.gw_owes.specs.Greeting.{greeting, sending_calls, greet_decoded}
use Rattle.gw_owes.specs.Handling.{consequence, enquiring, handle_decoded, handle_message, meaning_at, registering, serving, taken_as, taken_row, taking}
use Rattle.gw_owes.specs.HeardLaws.{FitsRecord, IsReportFit}
use Rattle.gw_owes.specs.Items.{RoundItem, Crowded, Message, Asked, Unframed, Gone, Greet, Handle, Serve, Queue, NextWaiting, Oversized, LinkLost, Late, Overdue, Due}
use Rattle.gw_owes.specs.Links.{cutting}
use Rattle.gw_owes.specs.Reconciliations.{day_done, reply_to_settled, serving_day, settled_of}
use Rattle.gw_owes.specs.ReadAs.{Request}
use Rattle.gw_owes.specs.RecordLaws.{AreRecordsOf, IsDayServed, IsInOrder, IsReadItem, IsReadRequest, IsServedOpen, IsServiceOnRecord, KeepsInOrder, IsReadFromTill}
use Rattle.gw_owes.specs.Replies.{display_reply, failure, failure_reply, success}
use Rattle.gw_owes.specs.Reply.{ReplyValue, reply_value_tree}
use Rattle.gw_owes.specs.Reports.{Report, on_record, outcome_reported, report_against, report_row, standing_reported}
use Rattle.gw_owes.specs.Requests.{reply_to}
use Rattle.gw_owes.specs.Row.{Known, Row, owing, owing_nothing, owing_where}
use Rattle.gw_owes.specs.Rows.{asked_row, row_of}
use Rattle.gw_owes.specs.Serving.{at_rest, approved_outcome, approved_row, declined_outcome, reply_to_outcome, done_with, resolves, serving_transaction, staying, was_stopped}
use Rattle.gw_owes.specs.Terminals.{core_without, forgets_till, link_lost, link_made, registers, reply_calls_to, reply_to_lost, terminal_at, terminal_becomes, unlinks}
use Rattle.gw_owes.specs.WaitingLaws.{AreWaitsInOrder}
use Rattle.gw_owes.proofs.NextLemmas.{each-next, each-overdue, each-queued, known_without}
use Rattle.gw_owes.proofs.NextOrderLemmas.{first-there}
use Rattle.gw_owes.proofs.WaitingListLemmas.{waits-under}
use Rattle.gw_owes.proofs.BeginLemmas.{serve-keeps}
use Rattle.gw_owes.proofs.DayLemmas.{days-set, days_in}
use Rattle.gw_owes.proofs.HandlingLemmas.{RequestsDevice, by-where, each-linked, each-terminal, taken-cases}
use Rattle.gw_owes.proofs.HeardLemmas.{meant-fits}
use Rattle.gw_owes.proofs.KeepingLemmas.{RowKeeps}
use Rattle.gw_owes.proofs.LimitLemmas.{approval-within, decline-within, keyed-within, reconciliation-within, settled-within}
use Rattle.gw_owes.proofs.PaymentLemmas.{SettlesAt, each-served, settled_row}
use Rattle.gw_owes.proofs.RecordLemmas.{LedgerLaws, open-without-outcome}
use Rattle.gw_owes.proofs.ServingLemmas.{reported-outcome, slot-small}
use Rattle.gw_owes.proofs.SetLemmas.{same-some}
use Rattle.gw_rules.specs.Lawful.{Begins, IsCourse, Stands, first_call, turns_of}
use Rattle.gw_rules.specs.Opening.{opening}
use Rattle.gw_rules.specs.Scene.{Scene, known_in, records_of, row_at, row_in, link_made_at, link_lost_at}
use Rattle.gw_rules.specs.View.{View, Move, Begin, Read, Make, after, after_turn, at_first, later}
use Rattle.gw_rules.proofs.CourseLemmas.{stands-more}
use Rattle.gw_rules.proofs.KeptPhaseLemmas.{round-runs}
use Rattle.gw_rules.proofs.LinkedLemmas.{round-setup}
use Rattle.gw_rules.proofs.RecordOrderLemmas.{Ordered, begin-ordered, between-items, first-ordered, first-was-read, read-ordered, row-is, turn-ordered, waits-between-items}
use Rattle.gw_rules.proofs.RecordRowLemmas.{OrderLaws}
use Rattle.gw_rules.proofs.TranscriptLogLemmas.{image-there, there-image}
use Rattle.gw_books.specs.Past.{OfNothing}
use Rattle.gw_books.specs.Said.{IsFramed}
use Rattle.gw_books.specs.SaidLaws.{EachSentIsFramed}
use Rattle.gw_books.proofs.WaitingRowLemmas.{waiting-within}
use Rattle.gw_books.proofs.FrameRowLemmas.{repliable-stay}
use Rattle.gw_books.proofs.HandledLemmas.{IsItemHandled, IsMessageSmall, first-handled, first-stands, message-small, stands-begun, stands-read}
use Rattle.gw_books.proofs.Holding.{AreRepliable, IsRepliable, IsReplyWithin, IsServiceRepliable}
use Rattle.gw_books.proofs.NoteLemmas.{noted}
use Rattle.gw_books.proofs.ReplyLimitLemmas.{asked-within, failure-within, outcome-within, results-within, settled-reply-within, some-holds, success-within}
use Rattle.gw_books.proofs.SentBytesLemmas.{own-frame}
use Rattle.gw_books.proofs.ServeLemmas.{day-beside, display-beside}
use Rattle.gw_books.proofs.ServedReplyLemmas.{device-sound, lost-sound, served-key, verdict-within}

-- ---- what is owed

-- a reply that is owed is within its limits
abbrev IsCallWithin : OwedCall → Type 0
IsCallWithin (SendTill till reply) = IsReplyWithin reply
IsCallWithin (SendPt number sending) = Unit {0}
IsCallWithin (LinkPt number) = Unit {0}
IsCallWithin (WriteBody slot the_record) = Unit {0}
IsCallWithin (WriteGate slot the_record) = Unit {0}
IsCallWithin WriteFirstGate = Unit {0}
IsCallWithin Sync = Unit {0}
IsCallWithin (OwedCutTill till) = Unit {0}
IsCallWithin (OwedCutPt number) = Unit {0}

-- so is each
abbrev AreWithin : List OwedCall → Type 0
AreWithin [] = Unit {0}
AreWithin (call ∷ calls) = IsCallWithin call × AreWithin calls

within-both : (calls more : List OwedCall) → AreWithin calls → AreWithin more → AreWithin (calls ++ more)
within-both [] more all rest = rest
within-both (call ∷ calls) more all rest = (all.0, within-both calls more all.1 rest)

within-later : (calls : List OwedCall) → AreWithin calls → AreWithin (later calls)
within-later [] all = tt
within-later (call ∷ calls) all = all.1

within-first : (calls : List OwedCall) (call : OwedCall) → first_call calls ≡ Some call → AreWithin calls → IsCallWithin call
within-first [] call next all = absurd (let n : None ≡ Some call = next in cc)
within-first (one ∷ calls) call next all = subst IsCallWithin (same-some one call next) all.0

-- a reply to a till, where there is one, and the till
reply-within : (asker : Option ℕ) (reply : Option ReplyValue) → ((own : ReplyValue) → reply ≡ Some own → IsReplyWithin own) → AreWithin (reply_calls_to asker reply)
reply-within None reply each = tt
reply-within (Some till) None each = tt
reply-within (Some till) (Some reply) each = (each reply refl, tt)

-- what a row leaves and owes: what is served can be replied to, and each reply is within its limits
record LeavesWithin (row : Row) : Type 0 where
  repliable : AreRepliable row.core
  calls : AreWithin row.calls

module _ (known : Known) (serve : AreRepliable known.core) where
  -- these calls
  owing-within : (calls : List OwedCall) → AreWithin calls → LeavesWithin (owing known calls)
  owing-within calls all = record { repliable = serve; calls = all }

  nothing-within : LeavesWithin (owing_nothing known)
  nothing-within = owing-within [] tt

  cut-within : (number : ℕ) → LeavesWithin (cutting known number)
  cut-within number = owing-within (OwedCutPt number ∷ []) (tt, tt)

  -- a terminal that is so now
  becomes-within : (number : ℕ) (new : Terminal) (calls : List OwedCall) → IsRepliable new.standing → AreWithin calls → LeavesWithin (terminal_becomes known number new calls)
  becomes-within number new calls serves all = record { repliable = repliable-stay known.core number new serve serves; calls = all }

  -- ---- links

  lost-within : (number : ℕ) → LeavesWithin (link_lost known number)
  lost-within number = each-terminal LeavesWithin known number (unlinks known number) nothing-within (λ terminal found.
      becomes-within number _ _ tt
      (reply-within terminal.asker (reply_to_lost terminal.standing) (λ own replies. (lost-sound known.kept [] OfNothing terminal.standing own (serve number terminal found) replies).within)))

  made-within : (number : ℕ) → LeavesWithin (link_made known number)
  made-within number = each-terminal LeavesWithin known number (registers known number) nothing-within (λ terminal found. becomes-within number _ _ tt (tt, tt))

  -- ---- messages of terminals

  greeted-within : (number : ℕ) (message : MessageValue) → AreWithin (sending_calls number (greeting message))
  greeted-within number Ack = tt
  greeted-within number (Nack error_code) = tt
  greeted-within number (Intermediate intermediate_status) = (tt, tt)
  greeted-within number (Line text) = (tt, tt)
  greeted-within number (Block objects) = (tt, tt)
  greeted-within number (Status fields) = (tt, tt)
  greeted-within number Completion = (tt, tt)
  greeted-within number (Abort result_code) = (tt, tt)
  greeted-within number Other = (tt, tt)

  greet-within : (number : ℕ) (decoded : Result MessageValue PtFault) → LeavesWithin (greet_decoded known number decoded)
  greet-within number (Ok message) =
      each-linked LeavesWithin known number (λ terminal. owing known (sending_calls number (greeting message))) nothing-within (λ terminal found linked. owing-within (sending_calls number (greeting message)) (greeted-within number message))
  greet-within number (Err fault) = each-linked LeavesWithin known number (λ terminal. cutting known number) nothing-within (λ terminal found linked. cut-within number)

module _ (laws : LedgerLaws) (known : Known) (order : IsInOrder known) (serve : AreRepliable known.core) (number : ℕ) (old : Terminal) (here : terminal_at known number ≡ Some old) (message : MessageValue) (prints : IsMessageSmall message) where
  -- the terminal once the message was taken
  abbrev now : Terminal
  now = taking old message known.moment

  own-serves : IsRepliable old.standing
  own-serves = serve number old here

  stays-within : (calls : List OwedCall) → AreWithin calls → LeavesWithin (terminal_becomes known number now calls)
  stays-within calls all = becomes-within known serve number now calls own-serves all

  registering-kept : (meant : Heard) → LeavesWithin (registering known number now meant)
  registering-kept (heard.Begun stop) = stays-within [] tt
  registering-kept (heard.Note intermediate_status) = stays-within [] tt
  registering-kept heard.Line = stays-within [] tt
  registering-kept heard.Block = stays-within [] tt
  registering-kept heard.Seen = stays-within [] tt
  registering-kept (heard.Approved figures) = stays-within [] tt
  registering-kept heard.Done = becomes-within known serve number _ _ tt (tt, tt)
  registering-kept (heard.Told reported approved result_code) = stays-within [] tt
  registering-kept (heard.Declined result_code reported) = stays-within (OwedCutPt number ∷ []) (tt, tt)
  registering-kept heard.Unclear = stays-within (OwedCutPt number ∷ []) (tt, tt)
  registering-kept heard.Stray = stays-within [] tt

  -- the Outcome is kept, and its reply owed
  resolves-within : (last : ℕ) (outcome : TheOutcome) → IsOutcome outcome → LeavesWithin (resolves known number now (Ready last) outcome)
  resolves-within last outcome is =
      becomes-within known serve number _ _ tt
      (tt, (tt, (tt, (tt, reply-within old.asker (reply_to_outcome known.kept outcome.slot outcome) (λ own replies. outcome-within laws known outcome.slot outcome own order is replies)))))

  -- the terminal reports its last transaction
  report-kept : (report : Report) → IsReportFit report.trace report.approved → LeavesWithin (report_row (on_record known.kept now.pt.poi) known number now report)
  report-kept report fit = by-open (open_entry known.kept now.pt.poi) refl
    where
      by-least : (least : ℕ) (b : Bool) → IsRepliable (if b then Ready report.trace else Aside least report.trace)
      by-least least true = tt
      by-least least false = tt

      of-open : (entry : TheEntry) → open_entry known.kept now.pt.poi ≡ Some entry → (b : Bool)
          → LeavesWithin (if b then resolves known number now (Ready report.trace) (outcome_reported entry report known.moment)
          else terminal_becomes known number (at_rest now (Aside entry.intent.before report.trace)) [])
      of-open entry is true =
          let small : entry.slot < 2 ^ 32 = slot-small laws known order now.pt.poi entry.slot entry.intent (open-without-outcome laws known.kept order.folded now.pt.poi entry is) in
          resolves-within report.trace (outcome_reported entry report known.moment) (reported-outcome entry report known.moment small order.moment fit).within
      of-open entry is false = becomes-within known serve number (at_rest now (Aside entry.intent.before report.trace)) [] tt tt

      by-open : (opened : Option TheEntry) → open_entry known.kept now.pt.poi ≡ opened → LeavesWithin (report_against opened (last_number_of known.kept now.pt.poi) known number now report)
      by-open None none =
          becomes-within known serve number (at_rest now (standing_reported (last_number_of known.kept now.pt.poi) report.trace)) []
          (by-least (last_number_of known.kept now.pt.poi) (nat_le (last_number_of known.kept now.pt.poi) report.trace)) tt
      by-open (Some entry) is = of-open entry is (nat_le entry.intent.before report.trace)

  enquiring-kept : (meant : Heard) → FitsRecord meant → LeavesWithin (enquiring known number now meant)
  enquiring-kept (heard.Begun stop) fit = stays-within [] tt
  enquiring-kept (heard.Note intermediate_status) fit = stays-within [] tt
  enquiring-kept heard.Line fit = stays-within [] tt
  enquiring-kept heard.Block fit = stays-within [] tt
  enquiring-kept heard.Seen fit = stays-within [] tt
  enquiring-kept (heard.Approved figures) fit = stays-within [] tt
  enquiring-kept heard.Done fit = stays-within [] tt
  enquiring-kept (heard.Told trace approved result_code) fit = report-kept (record { trace = trace; approved = approved; result_code = result_code }) fit
  enquiring-kept (heard.Declined result_code reported) fit = stays-within (OwedCutPt number ∷ []) (tt, tt)
  enquiring-kept heard.Unclear fit = stays-within (OwedCutPt number ∷ []) (tt, tt)
  enquiring-kept heard.Stray fit = stays-within [] tt

  approved-kept : (slot last : ℕ) (figures : Figures) → IsServedOpen known.kept old.pt.poi last slot → FitsRecord (heard.Approved figures) → LeavesWithin (approved_row known number now slot last figures)
  approved-kept slot last figures has fit = by-test (nat_lt last figures.number)
    where
      by-test : (b : Bool) → LeavesWithin (if b then resolves known number now (Ready figures.number) (approved_outcome slot figures known.moment) else terminal_becomes known number (at_rest now (Aside last figures.number)) [])
      by-test true = resolves-within figures.number (approved_outcome slot figures known.moment) (approval-within slot figures known.moment (slot-small laws known order old.pt.poi slot has.intent has.is_open) fit order.moment)
      by-test false = becomes-within known serve number (at_rest now (Aside last figures.number)) [] tt tt

  transaction-kept : (slot last : ℕ) (meant : Heard) → IsServedOpen known.kept old.pt.poi last slot → FitsRecord meant → LeavesWithin (serving_transaction known number now slot last meant)
  transaction-kept slot last (heard.Begun true) has fit = becomes-within known serve number _ _ own-serves (tt, tt)
  transaction-kept slot last (heard.Begun false) has fit = stays-within [] tt
  transaction-kept slot last (heard.Note intermediate_status) has fit = stays-within [] tt
  transaction-kept slot last heard.Line has fit = stays-within [] tt
  transaction-kept slot last heard.Block has fit = stays-within [] tt
  transaction-kept slot last heard.Seen has fit = stays-within [] tt
  transaction-kept slot last (heard.Approved figures) has fit = approved-kept slot last figures has fit
  transaction-kept slot last heard.Done has fit = stays-within [] tt
  transaction-kept slot last (heard.Told reported approved result_code) has fit = stays-within [] tt
  transaction-kept slot last (heard.Declined result_code reported) has fit =
      resolves-within _ (declined_outcome slot result_code (was_stopped now.talk) known.moment)
      (decline-within slot result_code (was_stopped now.talk) known.moment (slot-small laws known order old.pt.poi slot has.intent has.is_open) order.moment)
  transaction-kept slot last heard.Unclear has fit = stays-within (OwedCutPt number ∷ []) (tt, tt)
  transaction-kept slot last heard.Stray has fit = stays-within [] tt

  -- what is served there can be replied to
  can_reply : (service : Service) (last : ℕ) → old.standing ≡ Serving service last → IsServiceRepliable service
  can_reply service last is = subst IsRepliable is own-serves

  -- an end of day is done: its Settled is kept
  settles-within : (header : Header) (period : Period) (last : ℕ) → old.standing ≡ Serving (EndOfDay header period) last → IsDayServed known.kept old.pt.poi last header period → LeavesWithin (day_done known number now last header)
  settles-within header period last is has =
      let settled : TheSettled = settled_of hows.Acquirer header now.pt.currency known.moment in
      let within : IsSettled settled = settled-within hows.Acquirer header now.pt.currency known.moment (keyed-within header has.key has.heading has.key_is) order.moment in
      let counted : days_in old.standing ≡ 1 = ap days_in is in
      let days = days-set known.core.terminals number old (done_with now (Ready last)) here in
      let room = order.room in
      let slot : length known.kept < known.setup.slots = omega (arith, counted, days, room) in
      becomes-within known serve number _ _ tt
      (tt, (tt, (tt, (tt, reply-within old.asker (reply_to_settled known.kept settled) (λ own replies. settled-reply-within known settled own order within slot replies)))))

  day-kept : (header : Header) (period : Period) (last : ℕ) (meant : Heard) → old.standing ≡ Serving (EndOfDay header period) last → IsDayServed known.kept old.pt.poi last header period → LeavesWithin (serving_day known number now last header meant)
  day-kept header period last (heard.Begun true) is has = becomes-within known serve number _ _ own-serves (tt, tt)
  day-kept header period last (heard.Begun false) is has = stays-within [] tt
  day-kept header period last (heard.Note intermediate_status) is has = stays-within [] tt
  day-kept header period last heard.Line is has = stays-within [] tt
  day-kept header period last heard.Block is has = stays-within [] tt
  day-kept header period last heard.Seen is has = stays-within [] tt
  day-kept header period last (heard.Approved figures) is has = stays-within [] tt
  day-kept header period last heard.Done is has = settles-within header period last is has
  day-kept header period last (heard.Told reported approved result_code) is has = stays-within [] tt
  day-kept header period last (heard.Declined result_code reported) is has =
      let condition : Condition = condition_of_code result_code (was_stopped now.talk) in
      becomes-within known serve number _ _ tt
      (reply-within old.asker (Some (failure_reply header condition))
      (λ own replies. subst IsReplyWithin (same-some (failure_reply header condition) own replies) (failure-within header condition (can_reply (EndOfDay header period) last is).within)))
  day-kept header period last heard.Unclear is has = stays-within (OwedCutPt number ∷ []) (tt, tt)
  day-kept header period last heard.Stray is has = stays-within [] tt

  -- a display ends with a verdict
  ends-within : (header : Header) (results : Option (List Shown)) (last : ℕ) (verdict : Verdict) → old.standing ≡ Serving (Display header results) last → IsVerdictWithinLimits verdict → LeavesWithin (display_ends known number now last header results verdict)
  ends-within header results last verdict is within =
      let own_repliable = can_reply (Display header results) last is in
      becomes-within known serve number _ _ tt
      (reply-within old.asker (display_reply header (option_map (with_customer_verdict verdict) results)) (λ own replies.
      some-holds IsReplyWithin (display_reply header (option_map (with_customer_verdict verdict) results)) own
      (results-within header (option_map (with_customer_verdict verdict) results) own_repliable.0.within (verdict-within verdict results within own_repliable.1)) replies))

  display-kept : (header : Header) (results : Option (List Shown)) (last : ℕ) (meant : Heard) → old.standing ≡ Serving (Display header results) last → LeavesWithin (serving_display known number now last header results meant)
  display-kept header results last (heard.Begun stop) is = stays-within [] tt
  display-kept header results last (heard.Note intermediate_status) is = stays-within [] tt
  display-kept header results last heard.Line is = stays-within [] tt
  display-kept header results last heard.Block is = stays-within [] tt
  display-kept header results last heard.Seen is = stays-within [] tt
  display-kept header results last (heard.Approved figures) is = stays-within [] tt
  display-kept header results last heard.Done is = ends-within header results last success is tt
  display-kept header results last (heard.Told reported approved result_code) is = stays-within [] tt
  display-kept header results last (heard.Declined result_code reported) is = ends-within header results last (failure (condition_of_code result_code (was_stopped now.talk))) is tt
  display-kept header results last heard.Unclear is = stays-within (OwedCutPt number ∷ []) (tt, tt)
  display-kept header results last heard.Stray is = stays-within [] tt

  -- what the terminal shows or prints is shown or printed at its till
  requests-kept : (at : RequestsDevice known number now (meaning_at old message) message) → AreRecordsOf known.kept old.pt.poi old.standing → LeavesWithin (requests_device known number now at.till at.request)
  requests-kept at records =
      let has : IsServiceOnRecord known.kept old.pt.poi at.last at.service = subst (AreRecordsOf known.kept old.pt.poi) at.standing_is records in
      let key = served-key laws known.kept old.pt.poi at.service at.last at.key order.folded has at.key_is in
      let sound = device-sound known.kept [] OfNothing (meaning_at old message) message known.core.device_requests at.key at.request prints
      (λ status same. noted old.talk old.awaited message status same) key order.numbered at.request_is in
      let stays : LeavesWithin (staying known number now) = stays-within [] tt in
      record { repliable = λ other terminal found. stays.repliable other terminal found; calls = (sound.within, tt) }

  serving-kept : (service : Service) (last : ℕ) (meant : Heard) → old.standing ≡ Serving service last → AreRecordsOf known.kept old.pt.poi (Serving service last) → FitsRecord meant → LeavesWithin (serving known number now service last meant)
  serving-kept (Transaction slot) last meant is has fit = transaction-kept slot last meant has fit
  serving-kept (EndOfDay header period) last meant is has fit = day-kept header period last meant is has
  serving-kept (Display header results) last meant is has fit = display-kept header results last meant is

  consequence-kept : (standing : Standing) (meant : Heard) → old.standing ≡ standing → AreRecordsOf known.kept old.pt.poi standing → FitsRecord meant → LeavesWithin (consequence known number now meant standing)
  consequence-kept (Unlinked due) meant is has fit = nothing-within known serve
  consequence-kept Registering meant is has fit = registering-kept meant
  consequence-kept Enquiring meant is has fit = enquiring-kept meant fit
  consequence-kept (Ready last) meant is has fit = stays-within [] tt
  consequence-kept (Serving service last) meant is has fit = serving-kept service last meant is has fit
  consequence-kept (Aside before reported) meant is has fit = stays-within [] tt

  message-kept : LeavesWithin (handle_message known number old message)
  message-kept = by-where LeavesWithin known (taken_row known number now (meaning_at old message) message) (is_taken message) (nothing-within known serve) (λ taken.
      let own = order.terminals number old here in
      taken-cases LeavesWithin known number now (meaning_at old message) message
      (consequence-kept old.standing (meaning_at old message) refl own.records (meant-fits old.talk (taken_as old.awaited message) own.read)) (λ at stays. requests-kept at own.records))

handled-within : (laws : LedgerLaws) (known : Known) → IsInOrder known → AreRepliable known.core → (number : ℕ) (decoded : Result MessageValue PtFault) → ((message : MessageValue) → decoded ≡ Ok message → IsMessageSmall message) → LeavesWithin (handle_decoded known number decoded)
handled-within laws known order serve number (Ok message) prints =
    each-linked LeavesWithin known number (λ terminal. handle_message known number terminal message) (nothing-within known serve) (λ terminal found linked. message-kept laws known order serve number terminal found message (prints message refl))
handled-within laws known order serve number (Err fault) prints = nothing-within known serve

-- ---- items

-- what is served can be replied to where a till is forgotten, too
without-serve : (core : Core) (till : ℕ) → AreRepliable core → AreRepliable (core_without core till)
without-serve core till serve number terminal found =
    let was = image-there (forgets_till till) core.terminals number terminal found in
    let same : forgets_till till was.0 ≡ terminal = same-some (forgets_till till was.0) terminal (sym (there-image (forgets_till till) core.terminals number was.0 was.1) ∙ found) in
    subst (λ (t : Terminal). IsRepliable t.standing) same (serve number was.0 was.1)

-- a reconciliation of the till's own is settled
settled-kept : (laws : LedgerLaws) (known : Known) → IsInOrder known → AreRepliable known.core → (number till : ℕ) (header : Header) (request : SaleRequest) (terminal : Terminal) → IsReadItem known.setup (Serve number till header request)
    → SettlesAt known number header request terminal → RowKeeps known number (settled_row known till header terminal) → LeavesWithin (settled_row known till header terminal)
settled-kept laws known order serve number till header request terminal read at keeps =
    let settled : TheSettled = settled_of hows.Sale header terminal.pt.currency known.moment in
    let read-as : IsReadRequest known.setup number header (requests.Reconciliation SaleReconciliation) = subst (IsReadRequest known.setup number header) at.request_is read in
    let within : IsSettled settled = settled-within hows.Sale header terminal.pt.currency known.moment (reconciliation-within header SaleReconciliation read-as.read) order.moment in
    let kept : KeepsInOrder known (Settled settled ∷ []) known.core = keeps.uncut refl in
    let room = kept.room in
    let more : length (known.kept ++ Settled settled ∷ []) ≡ length known.kept + 1 = length-append known.kept (Settled settled ∷ []) in
    record {
      repliable = serve;
      calls = (tt, (tt, (tt, (tt, reply-within (Some till) (reply_to_settled known.kept settled) (λ own replies. settled-reply-within known settled own order within (omega (arith, room, more)) replies)))));
    }

-- each item's row
row-within : (laws : LedgerLaws) (tills : List Connection) (known : Known) (item : RoundItem) → IsInOrder known → AreWaitsInOrder known → AreRepliable known.core → IsReadItem known.setup item → IsItemHandled item → LeavesWithin (row_of tills known item)
row-within laws tills known (Crowded till) order waits serve read handled = owing-within known serve (OwedCutTill till ∷ []) (tt, tt)
row-within laws tills known (Message till bytes) order waits serve read handled = nothing-within known serve
row-within laws tills known (Asked till as_read) order waits serve read handled =
    by-where LeavesWithin known (asked_row known till as_read) (is_connected tills till) (nothing-within known serve)
    (λ there. record { repliable = serve; calls = reply-within (Some till) (reply_to known as_read) (λ own replies. asked-within laws known as_read own order read replies) })
row-within laws tills known (Unframed till) order waits serve read handled =
    by-where LeavesWithin known (owing known (OwedCutTill till ∷ [])) (is_connected tills till) (nothing-within known serve) (λ there. owing-within known serve (OwedCutTill till ∷ []) (tt, tt))
row-within laws tills known (Gone till) order waits serve read handled = record { repliable = without-serve known.core till serve; calls = tt }
row-within laws tills known (Greet number apdu) order waits serve read handled = greet-within known serve number (decode_pt_message apdu)
row-within laws tills known (Handle number apdu) order waits serve read handled = handled-within laws known order serve number (decode_pt_message apdu) (λ message is. message-small apdu message handled is)
row-within laws tills known (Serve number till header request) order waits serve read handled =
    each-served (λ (row : Row). RowKeeps known number row → LeavesWithin row) known number till header request (record {
      none = λ keeps. nothing-within known serve;
      begins = λ terminal last asking at keeps. becomes-within known serve number _ _ tt (tt, (tt, (tt, (tt, (tt, tt)))));
      sent = λ terminal talk at may keeps. becomes-within known serve number _ _ (serve number terminal at.found) (tt, tt);
      wished = λ terminal talk at may keeps. becomes-within known serve number _ _ (serve number terminal at.found) tt;
      session = λ session keeps. record { repliable = serve; calls = (success-within header request read.read, tt) };
      settles = λ terminal at keeps. settled-kept laws known order serve number till header request terminal read at keeps;
      day = λ terminal last at keeps.
          let read-as : IsReadRequest known.setup number header (requests.Reconciliation AcquirerReconciliation) = subst (IsReadRequest known.setup number header) at.request_is read in
          becomes-within known serve number _ _ (day-beside header AcquirerReconciliation read-as.read) (tt, tt);
      displays = λ terminal last outputs command at keeps.
          let read-as : IsReadRequest known.setup number header (requests.Display outputs) = subst (IsReadRequest known.setup number header) at.request_is read in
          becomes-within known serve number _ _ (display-beside header outputs read-as.read) (tt, tt);
    }) (serve-keeps laws known order number till header request read)
row-within laws tills known (Queue number till header request) order waits serve read handled =
    each-queued LeavesWithin known number till header request (record {
      none = nothing-within known serve;
      joins = λ terminal key at. record { repliable = serve; calls = tt };
      taken = λ wait at.
          let there = waits-under (key_of header at.reference) known.core.waits wait at.waits_is in
          record { repliable = serve; calls = (waiting-within known wait Aborted (waits.each there.place wait there.there), tt) };
    })
row-within laws tills known (NextWaiting number) order waits serve read handled =
    each-next LeavesWithin known number (record {
      none = nothing-within known serve;
      refused = λ terminal last wait condition at refuses.
          let there = first-there number known.core.waits wait at.first_is in
          record { repliable = serve; calls = (waiting-within known wait condition (waits.each there.at wait there.there), tt) };
      begins = λ terminal last wait asking at. becomes-within (known_without known wait) serve number _ _ tt (tt, (tt, (tt, (tt, (tt, tt)))));
      day = λ terminal last wait at.
          let there = first-there number known.core.waits wait at.first.first_is in
          let one = waits.each there.at wait there.there in
          becomes-within (known_without known wait) serve number _ _ (day-beside wait.header at.period (subst (λ (r : SaleRequest). IsReadFromTill (Request wait.header r)) at.request_is one.read.read)) (tt, tt);
      left = λ terminal last wait at. record { repliable = serve; calls = tt };
    })
row-within laws tills known (Oversized number) order waits serve read handled =
    each-linked LeavesWithin known number (λ terminal. cutting known number) (nothing-within known serve) (λ terminal found linked. cut-within known serve number)
row-within laws tills known (LinkLost number) order waits serve read handled = lost-within known serve number
row-within laws tills known (Late number) order waits serve read handled =
    each-terminal LeavesWithin known number (λ terminal. owing_where (is_late known.moment terminal.talk) known (cutting known number)) (nothing-within known serve)
    (λ terminal found. by-where LeavesWithin known (cutting known number) (is_late known.moment terminal.talk) (nothing-within known serve) (λ late. cut-within known serve number))
row-within laws tills known (Overdue key) order waits serve read handled =
    each-overdue LeavesWithin known key (record {
      none = nothing-within known serve;
      taken = λ wait found overdue.
          let there = waits-under key known.core.waits wait found in
          record { repliable = serve; calls = (waiting-within known wait Aborted (waits.each there.place wait there.there), tt) };
    })
row-within laws tills known (Due number) order waits serve read handled =
    each-terminal LeavesWithin known number (λ terminal. owing_where (is_due known.moment terminal.standing) known (owing known (LinkPt number ∷ []))) (nothing-within known serve)
    (λ terminal found. by-where LeavesWithin known (owing known (LinkPt number ∷ [])) (is_due known.moment terminal.standing) (nothing-within known serve) (λ due. owing-within known serve (LinkPt number ∷ []) (tt, tt)))

-- ---- along a course

-- what holds along a course
record Framed (v : View) : Type 0 where
  repliable : AreRepliable v.scene.core
  calls : AreWithin v.calls

begin-framed : LedgerLaws → (log : List Turn) (v : View) → Stands log v → Ordered log v → Begins v → Framed v → Framed (after v Begin)
begin-framed laws log v s o b f = by-items v.items refl
  where
    by-items : (items : List RoundItem) → v.items ≡ items → Framed (after v Begin)
    by-items [] e = subst (λ (items : List RoundItem). Framed (after (record v { items = items }) Begin)) (sym e) (record { repliable = f.repliable; calls = tt })
    by-items (item ∷ rest) e =
        let k = round-setup v o.agrees.run b.idle.round in
        let known : Known = known_in v.scene k.setup in
        let order : IsInOrder known = between-items log v o k (round-runs v.scene.stage b.idle.round) b.idle.calls in
        let row = row-within laws v.scene.outside.tills known item order (waits-between-items log v o k (round-runs v.scene.stage b.idle.round) b.idle.calls) f.repliable (first-was-read log v item rest o k e) (first-handled log v item rest s e) in
        let own : LeavesWithin (row_at v.scene item) = subst LeavesWithin (sym (row-is v.scene k item)) row in
        subst (λ (items : List RoundItem). Framed (after (record v { items = items }) Begin)) (sym e) (record { repliable = own.repliable; calls = own.calls })

-- what a link's event leaves and owes
link-within : (scene : Scene) (row : Known → Row) → AreRepliable scene.core → ((setup : Setup) → LeavesWithin (row (known_in scene setup))) → LeavesWithin (row_in scene row scene.setup)
link-within scene row serve each = by-setup scene.setup
  where
    by-setup : (setup : Option Setup) → LeavesWithin (row_in scene row setup)
    by-setup None = record { repliable = serve; calls = tt }
    by-setup (Some setup) = each setup

-- as a run begins
new-serve : (setup : Setup) → AreRepliable (new_core setup)
new-serve setup number terminal found =
    let was = image-there new_terminal setup.terminals number terminal found in
    subst (λ (t : Terminal). IsRepliable t.standing) (same-some (new_terminal was.0) terminal (sym (there-image new_terminal setup.terminals number was.0 was.1) ∙ found)) tt

none-serve : (number : ℕ) (terminal : Terminal) → slice_get [] number ≡ Some terminal → IsRepliable terminal.standing
none-serve number terminal found = absurd (let n : None ≡ Some terminal = found in cc)

opening-within : (setup : Setup) (file : List ℕ) (scene : Scene) → AreWithin (opening setup file (records_of scene)).calls
opening-within setup file scene = (tt, by-size (nat_le (length file) 1))
  where
    by-size : (b : Bool) → AreWithin (if b then WriteFirstGate ∷ Sync ∷ [] else [])
    by-size true = (tt, (tt, tt))
    by-size false = tt

-- each turn
turn-framed : (v : View) (turn : Turn) → Framed v → Framed (after_turn v turn)
turn-framed v (Start setup) f = record { repliable = new-serve setup; calls = opening-within setup v.scene.outside.file v.scene }
turn-framed v OpenFailed f = record { repliable = none-serve; calls = tt }
turn-framed v (Polled moment) f = record { repliable = f.repliable; calls = tt }
turn-framed v (Opened till) f = record { repliable = f.repliable; calls = tt }
turn-framed v (HeardTill till bytes) f = record { repliable = f.repliable; calls = tt }
turn-framed v (Closed till) f = record { repliable = f.repliable; calls = tt }
turn-framed v (HeardPt pt bytes) f = record { repliable = f.repliable; calls = tt }
turn-framed v (Lost pt) f = record { repliable = f.repliable; calls = tt }
turn-framed v Stopped f = record { repliable = f.repliable; calls = tt }
turn-framed v (Linked pt) f =
    let own : LeavesWithin (link_made_at v.scene pt) = link-within v.scene (λ known. link_made known pt) f.repliable (λ setup. made-within (known_in v.scene setup) f.repliable pt) in
    record { repliable = own.repliable; calls = within-both (link_made_at v.scene pt).calls (later v.calls) own.calls (within-later v.calls f.calls) }
turn-framed v (LinkFailed pt) f =
    let own : LeavesWithin (link_lost_at v.scene pt) = link-within v.scene (λ known. link_lost known pt) f.repliable (λ setup. lost-within (known_in v.scene setup) f.repliable pt) in
    record { repliable = own.repliable; calls = within-both (link_lost_at v.scene pt).calls [] own.calls tt }
turn-framed v (SentTill till bytes true) f = record { repliable = f.repliable; calls = within-later v.calls f.calls }
turn-framed v (SentTill till bytes false) f = record { repliable = f.repliable; calls = (tt, tt) }
turn-framed v (SentPt pt bytes true) f = record { repliable = f.repliable; calls = within-later v.calls f.calls }
turn-framed v (SentPt pt bytes false) f = record { repliable = f.repliable; calls = (tt, tt) }
turn-framed v (CutTill till) f = record { repliable = without-serve v.scene.core till f.repliable; calls = within-later v.calls f.calls }
turn-framed v (CutPt pt) f =
    let own : LeavesWithin (link_lost_at v.scene pt) = link-within v.scene (λ known. link_lost known pt) f.repliable (λ setup. lost-within (known_in v.scene setup) f.repliable pt) in
    record { repliable = own.repliable; calls = within-both (link_lost_at v.scene pt).calls (later v.calls) own.calls (within-later v.calls f.calls) }
turn-framed v (Wrote offset bytes) f = record { repliable = f.repliable; calls = within-later v.calls f.calls }
turn-framed v Synced f = record { repliable = f.repliable; calls = within-later v.calls f.calls }
turn-framed v DiskFailed f = record { repliable = f.repliable; calls = tt }
turn-framed v (Crash file) f = record { repliable = none-serve; calls = tt }

module _ (orders : OrderLaws) (laws : LedgerLaws) where
  -- all bytes that are sent along the moves are framed
  moves-frame : (log : List Turn) (v : View) (moves : List Move) (before rest : List Turn) (till : ℕ) (bytes : List ℕ) → Stands log v → Ordered log v → Framed v → IsCourse v moves
      → turns_of moves ≡ before ++ SentTill till bytes true ∷ rest → (reply : ReplyValue) × IsFramed bytes (reply_value_tree reply)
  moves-frame log v [] [] rest till bytes s o f c e = absurd (let n : [] ≡ SentTill till bytes true ∷ rest = e in cc)
  moves-frame log v [] (turn ∷ before) rest till bytes s o f c e = absurd (let n : [] ≡ turn ∷ (before ++ SentTill till bytes true ∷ rest) = e in cc)
  moves-frame log v (Begin ∷ moves) before rest till bytes s o f c e =
      moves-frame log (after v Begin) moves before rest till bytes (stands-begun log v s c.0) (begin-ordered orders log v o c.0) (begin-framed laws log v s o c.0 f) c.1 e
  moves-frame log v (Read as_read ∷ moves) before rest till bytes s o f c e =
      moves-frame log (after v (Read as_read)) moves before rest till bytes (stands-read log v as_read s c.0) (read-ordered log v as_read o c.0) (record { repliable = f.repliable; calls = tt }) c.1 e
  moves-frame log v (Make turn ∷ moves) [] rest till bytes s o f c e =
      let same : turn ≡ SentTill till bytes true = (let n : turn ∷ turns_of moves ≡ SentTill till bytes true ∷ rest = e in cc) in
      let made : IsCourse v (Make (SentTill till bytes true) ∷ moves) = subst (λ (one : Turn). IsCourse v (Make one ∷ moves)) same c in
      let reply : ReplyValue = made.0.0 in
      let within : IsReplyWithin reply = within-first v.calls (SendTill till reply) made.0.1 f.calls in
      (reply, subst (λ (all : List ℕ). IsFramed all (reply_value_tree reply)) (sym made.0.2) (own-frame reply within))
  moves-frame log v (Make turn ∷ moves) (first ∷ before) rest till bytes s o f c e =
      let tails : turns_of moves ≡ before ++ SentTill till bytes true ∷ rest = (let n : turn ∷ turns_of moves ≡ first ∷ (before ++ SentTill till bytes true ∷ rest) = e in cc) in
      moves-frame (log ++ turn ∷ []) (after_turn v turn) moves before rest till bytes (stands-more log v (Make turn ∷ []) s (c.0, tt)) (turn-ordered orders log v turn o c.0) (turn-framed v turn f) c.1 tails

  pub each-sent-is-framed : EachSentIsFramed
  each-sent-is-framed before rest till bytes (v, s) =
      moves-frame [] at_first s.course before rest till bytes first-stands first-ordered (record { repliable = none-serve; calls = tt }) s.lawful s.log_is
