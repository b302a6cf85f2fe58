-- What waits stays in order with what a terminal's messages and a till's requests leave and keep.
use Rattle.std.proofs.Common.{◌≡◌, ◌∙◌, ℕ, Bool, true, false, leb, ltb, List, [], ◌∷◌, refl, sym, ap, subst}
use Rattle.std.specs.Prelude.{if◌then◌else◌, is_some, slice_get, Option, Some, None, option_and_then, option_map, unwrap_or}
use Rattle.std.proofs.lemmas.Bool.{or_parts}
use Rattle.std.proofs.lemmas.Option.{same_Some}
use Rattle.gw_base.specs.declared.key.Key.{Key}
use Rattle.gw_base.specs.declared.setup.Pt.{Pt}
use Rattle.gw_base.specs.declared.figures.Figures.{Figures}
use Rattle.sale_values.specs.declared.header.Header.{Header}
use Rattle.sale_values.specs.declared.names.Period.{Period}
use Rattle.sale_values.specs.declared.names.Period.TheVariants.{SaleReconciliation, AcquirerReconciliation}
use Rattle.sale_values.specs.declared.request.SaleRequest.{SaleRequest}
use Rattle.sale_values.specs.declared.request.SaleRequest.TheVariants as requests
use Rattle.sale_reply.specs.declared.reply.Shown.{Shown}
use Rattle.zvt_apdu.specs.Grammar.{ApduValue}
use Rattle.zvt_talk.specs.declared.meaning.Heard.{Heard}
use Rattle.zvt_talk.specs.declared.meaning.Heard.TheVariants as heard
use Rattle.jrn_record.specs.declared.records.How.TheVariants as hows
use Rattle.jrn_record.specs.declared.records.Outcome.{Outcome as TheOutcome}
use Rattle.jrn_record.specs.declared.records.Record.{Record}
use Rattle.jrn_record.specs.declared.records.Record.TheVariants.{Intent, Outcome, Settled}
use Rattle.jrn_record.specs.declared.records.Settled.{Settled as TheSettled}
use Rattle.gw_ledger.specs.declared.entry.Entry.{Entry as TheEntry}
use Rattle.gw_ledger.specs.Fold.{open_entry}
use Rattle.gw_ledger.specs.Keys.{intent_key, is_key, same_key, settled_key}
use Rattle.gw_owes.specs.declared.terminal.Service.{Service}
use Rattle.gw_owes.specs.declared.terminal.Service.TheVariants.{Transaction, EndOfDay, Display}
use Rattle.gw_owes.specs.declared.terminal.Standing.{Standing}
use Rattle.gw_owes.specs.declared.terminal.Standing.TheVariants.{Unlinked, Registering, Enquiring, Ready, Serving, Aside}
use Rattle.gw_owes.specs.declared.terminal.Terminal.{Terminal}
use Rattle.gw_owes.specs.Awaited.{one_more_awaited}
use Rattle.gw_owes.specs.Calls.{OwedCall, CutPt, records_kept}
use Rattle.gw_owes.specs.Core.{Wait}
use Rattle.gw_owes.specs.Days.{is_day_key, serves_day}
use Rattle.gw_owes.specs.Diagnosis.{NamedTerminal}
use Rattle.gw_owes.specs.DeviceRequests.{requests_device}
use Rattle.gw_owes.specs.Displays.{serving_display}
use Rattle.gw_owes.specs.Handling.{consequence, enquiring, enquiry_command, handle_row, registering, serving, taking}
use Rattle.gw_owes.specs.KeptReplies.{own_key}
use Rattle.gw_owes.specs.Payments.{Asking, asked_for, asking_of, beginning_row, payment_asking, reversal_asking, serve_row}
use Rattle.gw_owes.specs.ReadAs.{Request}
use Rattle.gw_owes.specs.Reconciliations.{asked_for_day, reply_to_settled, serving_day, settled_of}
use Rattle.gw_owes.specs.RecordLaws.{AreRecordsOf, IsDayServed, IsInOrder, IsReadFromTill, IsReadRequest}
use Rattle.gw_owes.specs.Reply.{ReplyValue}
use Rattle.gw_owes.specs.Reports.{Report, on_record, outcome_reported, report_against, standing_reported}
use Rattle.gw_owes.specs.Reversals.{original_of}
use Rattle.gw_owes.specs.Row.{Known}
use Rattle.gw_owes.specs.Serving.{approved_outcome, approved_row, at_rest, breaking, declined_outcome, done_with, last_after_decline, reply_to_outcome, resolves, serving_transaction, staying, stops, was_stopped}
use Rattle.gw_owes.specs.Stops.{wishing}
use Rattle.gw_owes.specs.Terminals.{after_command, reply_calls_to, terminal_at, terminal_becomes}
use Rattle.gw_owes.specs.WaitingLaws.{IsWaitInOrder}
use Rattle.gw_owes.specs.Waits.{is_pending_key, waiting_for, waiting_with}
use Rattle.gw_owes.proofs.HandlingLemmas.{each-handled}
use Rattle.gw_owes.proofs.KeepingLemmas.{own-key-poi, replies-keep-nothing}
use Rattle.gw_owes.proofs.LimitLemmas.{IsHeaderWithin, own-key-is, payment-within, reconciliation-within, reversal-within, settled-key-is}
use Rattle.gw_owes.proofs.PaymentLemmas.{BeginsAt, BeginsDayAt, PassesSteps, SettlesAt, day_row, each-served, passes-steps, settled_row}
use Rattle.gw_owes.proofs.RecordLemmas.{LedgerLaws, apart-keys, apart-keys-turned}
use Rattle.gw_owes.proofs.WaitingFrameLemmas.{AddNothing, LeavesWaits, becomes-leaves, day-before, named-is, no-records-add, nothing-leaves, one-record-adds, same-leaves}
use Rattle.gw_owes.proofs.WaitingListLemmas.{none-under, same-key-itself}

-- ---- what follows from a message

module _ (laws : LedgerLaws) (known : Known) (order : IsInOrder known) (number : ℕ) (old now : Terminal) (here : terminal_at known number ≡ Some old) (settings : now.pt ≡ old.pt) (stands : now.standing ≡ old.standing) where
  -- the terminal becomes one that serves no end of day unless it did, and no record with a key is kept
  quiet : (new : Terminal) (calls : List OwedCall) → new.pt ≡ now.pt → ((key : Key) → serves_day key now.standing ≡ false → serves_day key new.standing ≡ false) → ((key : Key) → AddNothing known calls key)
      → LeavesWaits known (terminal_becomes known number new calls)
  quiet new calls same days adds =
      becomes-leaves known number old new calls here (same ∙ settings) (λ at wait there was. adds wait.key)
      (λ at wait there was no. days wait.key (ap (serves_day wait.key) stands ∙ no))

  none-kept : (calls : List OwedCall) → records_kept calls ≡ [] → (key : Key) → AddNothing known calls key
  none-kept calls none key = no-records-add known calls key none

  stays : LeavesWaits known (staying known number now)
  stays = quiet now [] refl (λ key no. no) (none-kept [] refl)

  breaks : LeavesWaits known (breaking known number now)
  breaks = quiet now (CutPt number ∷ []) refl (λ key no. no) (none-kept (CutPt number ∷ []) refl)

  stopped : LeavesWaits known (stops known number now)
  stopped = quiet (record now { awaited = one_more_awaited now.awaited }) _ refl (λ key no. no) (λ key. no-records-add known _ key refl)

  -- it serves no end of day any more, and replies alone are owed
  replied : (new : Terminal) (reply : Option ReplyValue) → new.pt ≡ now.pt → ((key : Key) → serves_day key new.standing ≡ false) → LeavesWaits known (terminal_becomes known number new (reply_calls_to now.asker reply))
  replied new reply same days = quiet new (reply_calls_to now.asker reply) same (λ key no. days key) (none-kept (reply_calls_to now.asker reply) (replies-keep-nothing now.asker reply).no_records)

  rests : (standing : Standing) → ((key : Key) → serves_day key standing ≡ false) → LeavesWaits known (terminal_becomes known number (at_rest now standing) [])
  rests standing days = quiet (at_rest now standing) [] refl (λ key no. days key) (none-kept [] refl)

  resolved : (standing : Standing) (outcome : TheOutcome) → ((key : Key) → serves_day key standing ≡ false) → LeavesWaits known (resolves known number now standing outcome)
  resolved standing outcome days =
      quiet (done_with now standing) _ refl (λ key no. days key)
      (λ key. one-record-adds laws known (Outcome outcome) _ key order.folded (ap (λ (records : List Record). Outcome outcome ∷ records) (replies-keep-nothing now.asker (reply_to_outcome known.kept outcome.slot outcome)).no_records) refl)

  ready-or-aside : (b : Bool) (one other : ℕ) (key : Key) → serves_day key (if b then Ready other else Aside one other) ≡ false
  ready-or-aside true one other key = refl
  ready-or-aside false one other key = refl

  reported : (report : Report) (opened : Option TheEntry) → LeavesWaits known (report_against opened (on_record known.kept now.pt.poi).last known number now report)
  reported report None = rests (standing_reported (on_record known.kept now.pt.poi).last report.trace) (ready-or-aside (leb (on_record known.kept now.pt.poi).last report.trace) (on_record known.kept now.pt.poi).last report.trace)
  reported report (Some entry) = by-test (leb entry.intent.before report.trace)
    where
      by-test : (b : Bool) → LeavesWaits known (if b then resolves known number now (Ready report.trace) (outcome_reported entry report known.moment) else terminal_becomes known number (at_rest now (Aside entry.intent.before report.trace)) [])
      by-test true = resolved (Ready report.trace) (outcome_reported entry report known.moment) (λ key. refl)
      by-test false = rests (Aside entry.intent.before report.trace) (λ key. refl)

  registering-leaves : (meant : Heard) → LeavesWaits known (registering known number now meant)
  registering-leaves (heard.Begun stop) = stays
  registering-leaves (heard.Note intermediate_status) = stays
  registering-leaves heard.Line = stays
  registering-leaves heard.Block = stays
  registering-leaves heard.Seen = stays
  registering-leaves (heard.Approved figures) = stays
  registering-leaves heard.Done = quiet (after_command now (enquiry_command now.pt) Enquiring known.moment) _ refl (λ key no. refl) (λ key. no-records-add known _ key refl)
  registering-leaves (heard.Told trace approved result_code) = stays
  registering-leaves (heard.Declined result_code trace) = breaks
  registering-leaves heard.Unclear = breaks
  registering-leaves heard.Stray = stays

  enquiring-leaves : (meant : Heard) → LeavesWaits known (enquiring known number now meant)
  enquiring-leaves (heard.Begun stop) = stays
  enquiring-leaves (heard.Note intermediate_status) = stays
  enquiring-leaves heard.Line = stays
  enquiring-leaves heard.Block = stays
  enquiring-leaves heard.Seen = stays
  enquiring-leaves (heard.Approved figures) = stays
  enquiring-leaves heard.Done = stays
  enquiring-leaves (heard.Told trace approved result_code) = reported (record { trace = trace; approved = approved; result_code = result_code }) (open_entry known.kept now.pt.poi)
  enquiring-leaves (heard.Declined result_code trace) = breaks
  enquiring-leaves heard.Unclear = breaks
  enquiring-leaves heard.Stray = stays

  approved-leaves : (slot last : ℕ) (figures : Figures) → LeavesWaits known (approved_row known number now slot last figures)
  approved-leaves slot last figures = by-test (ltb last figures.number)
    where
      by-test : (b : Bool) → LeavesWaits known (if b then resolves known number now (Ready figures.number) (approved_outcome slot figures known.moment) else terminal_becomes known number (at_rest now (Aside last figures.number)) [])
      by-test true = resolved (Ready figures.number) (approved_outcome slot figures known.moment) (λ key. refl)
      by-test false = rests (Aside last figures.number) (λ key. refl)

  transaction-leaves : (slot last : ℕ) (meant : Heard) → LeavesWaits known (serving_transaction known number now slot last meant)
  transaction-leaves slot last (heard.Begun true) = stopped
  transaction-leaves slot last (heard.Begun false) = stays
  transaction-leaves slot last (heard.Note intermediate_status) = stays
  transaction-leaves slot last heard.Line = stays
  transaction-leaves slot last heard.Block = stays
  transaction-leaves slot last heard.Seen = stays
  transaction-leaves slot last (heard.Approved figures) = approved-leaves slot last figures
  transaction-leaves slot last heard.Done = stays
  transaction-leaves slot last (heard.Told trace approved result_code) = stays
  transaction-leaves slot last (heard.Declined result_code trace) = resolved (Ready (last_after_decline last trace)) (declined_outcome slot result_code (was_stopped now.talk) known.moment) (λ key. refl)
  transaction-leaves slot last heard.Unclear = breaks
  transaction-leaves slot last heard.Stray = stays

  -- an end of day is done: its key is none of those that wait
  day-done-leaves : (header : Header) (period : Period) (last : ℕ) → now.standing ≡ Serving (EndOfDay header period) last → IsDayServed known.kept now.pt.poi last header period → LeavesWaits known (serving_day known number now last header heard.Done)
  day-done-leaves header period last standing served =
      becomes-leaves known number old (done_with now (Ready last)) _ here settings
      (λ at wait there was. one-record-adds laws known (Settled settled) _ wait.key order.folded
      (ap (λ (records : List Record). Settled settled ∷ records) (replies-keep-nothing now.asker (reply_to_settled known.kept settled)).no_records) (apart wait was))
      (λ at wait there was no. refl)
    where
      settled : TheSettled
      settled = settled_of hows.Acquirer header now.pt.currency known.moment

      key_is : settled_key settled ≡ served.key
      key_is = settled-key-is hows.Acquirer header now.pt.currency known.moment served.key served.key_is

      -- else the terminal that its POIID names would serve its end of day
      apart : (wait : Wait) → IsWaitInOrder known wait → is_key wait.key (Some (settled_key settled)) ≡ false
      apart wait was = apart-keys wait.key (settled_key settled) (λ same. none same)
        where
          none : wait.key ≡ settled_key settled → ⊥
          none same =
              let is : wait.key ≡ served.key = same ∙ key_is in
              let poi : old.pt.poi ≡ wait.key.poi = ap (λ (pt : Pt). pt.poi) (sym settings) ∙ sym served.names ∙ sym (own-key-poi header served.key served.key_is) ∙ ap (λ (k : Key). k.poi) (sym is) in
              let named = named-is known number old wait.key.poi order.of_setup here poi in
              let one : record { number = number; terminal = old } ≡ record { number = wait.pt; terminal = was.terminal } = same_Some _ (record { number = wait.pt; terminal = was.terminal }) (sym named ∙ was.named) in
              let mine : serves_day wait.key old.standing ≡ false = ap (λ (n : NamedTerminal). serves_day wait.key n.terminal.standing) one ∙ day-before known wait was in
              let serves : serves_day wait.key old.standing ≡ is_key wait.key (own_key header) = ap (serves_day wait.key) (sym stands ∙ standing) in
              let self : same_key wait.key served.key ≡ false = ap (is_key wait.key) (sym served.key_is) ∙ sym serves ∙ mine in
              let yes : same_key wait.key wait.key ≡ false = ap (same_key wait.key) is ∙ self in
              let itself : same_key wait.key wait.key ≡ true = same-key-itself wait.key in
              absurd cc

  day-leaves : (header : Header) (period : Period) (last : ℕ) (meant : Heard) → now.standing ≡ Serving (EndOfDay header period) last → IsDayServed known.kept now.pt.poi last header period → LeavesWaits known (serving_day known number now last header meant)
  day-leaves header period last (heard.Begun true) standing served = stopped
  day-leaves header period last (heard.Begun false) standing served = stays
  day-leaves header period last (heard.Note intermediate_status) standing served = stays
  day-leaves header period last heard.Line standing served = stays
  day-leaves header period last heard.Block standing served = stays
  day-leaves header period last heard.Seen standing served = stays
  day-leaves header period last (heard.Approved figures) standing served = stays
  day-leaves header period last heard.Done standing served = day-done-leaves header period last standing served
  day-leaves header period last (heard.Told trace approved result_code) standing served = stays
  day-leaves header period last (heard.Declined result_code trace) standing served = replied (done_with now (Ready last)) _ refl (λ key. refl)
  day-leaves header period last heard.Unclear standing served = breaks
  day-leaves header period last heard.Stray standing served = stays

  display-leaves : (header : Header) (results : Option (List Shown)) (last : ℕ) (meant : Heard) → LeavesWaits known (serving_display known number now last header results meant)
  display-leaves header results last (heard.Begun stop) = stays
  display-leaves header results last (heard.Note intermediate_status) = stays
  display-leaves header results last heard.Line = stays
  display-leaves header results last heard.Block = stays
  display-leaves header results last heard.Seen = stays
  display-leaves header results last (heard.Approved figures) = stays
  display-leaves header results last heard.Done = replied (done_with now (Ready last)) _ refl (λ key. refl)
  display-leaves header results last (heard.Told trace approved result_code) = stays
  display-leaves header results last (heard.Declined result_code trace) = replied (done_with now (Ready last)) _ refl (λ key. refl)
  display-leaves header results last heard.Unclear = breaks
  display-leaves header results last heard.Stray = stays

  service-leaves : (service : Service) (last : ℕ) (meant : Heard) → now.standing ≡ Serving service last → AreRecordsOf known.kept now.pt.poi (Serving service last) → LeavesWaits known (serving known number now service last meant)
  service-leaves (Transaction slot) last meant standing records = transaction-leaves slot last meant
  service-leaves (EndOfDay header period) last meant standing records = day-leaves header period last meant standing records
  service-leaves (Display header results) last meant standing records = display-leaves header results last meant

  consequence-leaves : (meant : Heard) (standing : Standing) → now.standing ≡ standing → AreRecordsOf known.kept now.pt.poi standing → LeavesWaits known (consequence known number now meant standing)
  consequence-leaves meant (Unlinked due) is records = nothing-leaves known
  consequence-leaves meant Registering is records = registering-leaves meant
  consequence-leaves meant Enquiring is records = enquiring-leaves meant
  consequence-leaves meant (Ready last) is records = stays
  consequence-leaves meant (Serving service last) is records = service-leaves service last meant is records
  consequence-leaves meant (Aside before trace) is records = stays

-- a device request changes no terminal more
device-leaves : (known : Known) (number : ℕ) (now : Terminal) (till : ℕ) (request : ReplyValue) → LeavesWaits known (staying known number now) → LeavesWaits known (requests_device known number now till request)
device-leaves known number now till request left = record {
  waits = left.waits;
  settings = left.settings;
  each = λ at wait there was. let one = left.each at wait there was in record { unknown = one.unknown; no_day = one.no_day };
}

-- a message of a terminal
pub handle-leaves-waits : (laws : LedgerLaws) (known : Known) (number : ℕ) (apdu : ApduValue) → IsInOrder known → LeavesWaits known (handle_row known number apdu)
handle-leaves-waits laws known number apdu order =
    each-handled (LeavesWaits known) known number apdu (nothing-leaves known)
    (λ terminal message found linked is taken.
    consequence-leaves laws known order number terminal (taking terminal message known.moment) found refl refl _ terminal.standing refl (order.terminals number terminal found).records)
    (λ terminal message found linked is taken at stays. device-leaves known number (taking terminal message known.moment) at.till at.request stays)

-- ---- what a terminal serves

-- the key of what is asked for is that of the request
abbrev pub request_key : Header → Key
request_key header = record { sale = header.sale; poi = header.poi; service = unwrap_or header.service [] }

pub asking-key : (known : Known) (header : Header) (request : SaleRequest) (terminal : Terminal) (last : ℕ) (asking : Asking) → asking_of known header request terminal last ≡ Some asking → intent_key asking.intent ≡ request_key header
asking-key known header requests.Login terminal last asking is = absurd cc
asking-key known header requests.Logout terminal last asking is = absurd cc
asking-key known header (requests.Payment payment) terminal last asking is = sym (ap (λ (a : Asking). intent_key a.intent) (same_Some (payment_asking known header payment terminal last) asking is))
asking-key known header (requests.Reversal reversal) terminal last asking is = by-original (original_of known.kept header.poi reversal) is
  where
    by-original : (found : Option TheEntry) → option_map (reversal_asking known header last) found ≡ Some asking → intent_key asking.intent ≡ request_key header
    by-original None none = absurd cc
    by-original (Some original) some = sym (ap (λ (a : Asking). intent_key a.intent) (same_Some (reversal_asking known header last original) asking some))
asking-key known header (requests.Abort reference) terminal last asking is = absurd cc
asking-key known header (requests.Status reference) terminal last asking is = absurd cc
asking-key known header (requests.Reconciliation period) terminal last asking is = absurd cc
asking-key known header (requests.Display outputs) terminal last asking is = absurd cc
asking-key known header (requests.Print qualifier) terminal last asking is = absurd cc
asking-key known header requests.Diagnosis terminal last asking is = absurd cc

-- a request that was read and asks for something has a key
asking-within : (known : Known) (header : Header) (request : SaleRequest) (terminal : Terminal) (last : ℕ) (asking : Asking) → IsReadFromTill (Request header request) → asking_of known header request terminal last ≡ Some asking → IsHeaderWithin header
asking-within known header requests.Login terminal last asking read is = absurd cc
asking-within known header requests.Logout terminal last asking read is = absurd cc
asking-within known header (requests.Payment payment) terminal last asking read is = (payment-within header payment read).heading
asking-within known header (requests.Reversal reversal) terminal last asking read is = reversal-within header reversal read
asking-within known header (requests.Abort reference) terminal last asking read is = absurd cc
asking-within known header (requests.Status reference) terminal last asking read is = absurd cc
asking-within known header (requests.Reconciliation period) terminal last asking read is = absurd cc
asking-within known header (requests.Display outputs) terminal last asking read is = absurd cc
asking-within known header (requests.Print qualifier) terminal last asking read is = absurd cc
asking-within known header requests.Diagnosis terminal last asking read is = absurd cc

pub request-key-is : (header : Header) → IsHeaderWithin header → own_key header ≡ Some (request_key header)
request-key-is header heading = own-key-is header heading ∙ ap (λ (service : Option (List ℕ)). Some (record { sale = header.sale; poi = header.poi; service = unwrap_or service [] })) (sym heading.service_is)

not-waiting : (found : Option Wait) → is_some found ≡ false → found ≡ None
not-waiting None none = refl
not-waiting (Some wait) none = absurd cc

-- a request whose key isn't pending has that of none that waits
pub apart-from-waiting : (known : Known) (header : Header) (named : Option NamedTerminal) (key : Key) → is_pending_key known.core header named ≡ false → own_key header ≡ Some key → (at : ℕ) (wait : Wait) → slice_get known.core.waits at ≡ Some wait
    → same_key wait.key key ≡ false
apart-from-waiting known header named key pending key_is at wait there =
    let none : waiting_for known.core header ≡ None = not-waiting (waiting_for known.core header) (or_parts (is_day_key header named) (is_some (waiting_for known.core header)) pending).1 in
    let under : waiting_with key known.core.waits ≡ None = sym (ap (option_and_then (λ (k : Key). waiting_with k known.core.waits)) key_is) ∙ none in
    apart-keys-turned key wait.key (none-under key known.core.waits under at wait there)

module _ (laws : LedgerLaws) (known : Known) (order : IsInOrder known) (number till : ℕ) (header : Header) where
  begins-leaves : (request : SaleRequest) (terminal : Terminal) (last : ℕ) (asking : Asking) → IsReadRequest known.setup number header request → BeginsAt known number header request terminal last asking
      → LeavesWaits known (beginning_row known number till terminal last asking.intent asking.original)
  begins-leaves request terminal last asking read at =
      let heading = asking-within known header request terminal last asking read.read at.asking_is in
      let passes = passes-steps known header request (Some (record { number = number; terminal = terminal })) at.begins_is in
      becomes-leaves known number terminal (asked_for known till terminal last asking.intent asking.original) _ at.found refl
      (λ place wait there was. one-record-adds laws known (Intent asking.intent) _ wait.key order.folded refl
      (ap (same_key wait.key) (asking-key known header request terminal last asking at.asking_is) ∙ apart-from-waiting known header (Some (record { number = number; terminal = terminal })) (request_key header) passes.not_pending (request-key-is header heading) place wait there))
      (λ place wait there was no. refl)

  settles-leaves : (request : SaleRequest) (terminal : Terminal) → IsReadRequest known.setup number header request → SettlesAt known number header request terminal → LeavesWaits known (settled_row known till header terminal)
  settles-leaves request terminal read at = record {
    waits = refl;
    settings = refl;
    each = λ place wait there was. record {
      unknown = (one-record-adds laws known (Settled settled) (settled_row known till header terminal).calls wait.key order.folded
          (ap (λ (records : List Record). Settled settled ∷ records) (replies-keep-nothing (Some till) (reply_to_settled known.kept settled)).no_records)
          (apart-from-waiting known header (Some (record { number = number; terminal = terminal })) (settled_key settled) passes.not_pending (request-key-is header heading) place wait there)).stays was.unknown;
      no_day = was.no_day;
    };
  }
    where
      settled : TheSettled
      settled = settled_of hows.Sale header terminal.pt.currency known.moment

      heading : IsHeaderWithin header
      heading = reconciliation-within header SaleReconciliation (subst (λ (r : SaleRequest). IsReadFromTill (Request header r)) at.request_is read.read)

      passes : PassesSteps known header request (Some (record { number = number; terminal = terminal }))
      passes = passes-steps known header request (Some (record { number = number; terminal = terminal })) at.begins_is

  day-begun-leaves : (request : SaleRequest) (terminal : Terminal) (last : ℕ) → IsReadRequest known.setup number header request → BeginsDayAt known number header request terminal last → LeavesWaits known (day_row known number till header terminal last)
  day-begun-leaves request terminal last read at =
      let heading = reconciliation-within header AcquirerReconciliation (subst (λ (r : SaleRequest). IsReadFromTill (Request header r)) at.request_is read.read) in
      let passes = passes-steps known header request (Some (record { number = number; terminal = terminal })) at.begins_is in
      becomes-leaves known number terminal (asked_for_day known till terminal last header) _ at.found refl (λ place wait there was. no-records-add known _ wait.key refl)
      (λ place wait there was no. ap (is_key wait.key) (request-key-is header heading)
      ∙ apart-from-waiting known header (Some (record { number = number; terminal = terminal })) (request_key header) passes.not_pending (request-key-is header heading) place wait there)

  pub serve-leaves-waits : (request : SaleRequest) → IsReadRequest known.setup number header request → LeavesWaits known (serve_row known number till header request)
  serve-leaves-waits request read =
      each-served (LeavesWaits known) known number till header request (record {
        none = nothing-leaves known;
        begins = λ terminal last asking at. begins-leaves request terminal last asking read at;
        sent = λ terminal talk at may.
            becomes-leaves known number terminal (record (wishing terminal talk) { awaited = one_more_awaited terminal.awaited }) _ at.found refl (λ place wait there was. no-records-add known _ wait.key refl) (λ place wait there was no. no);
        wished = λ terminal talk at may. becomes-leaves known number terminal (wishing terminal talk) [] at.found refl (λ place wait there was. no-records-add known [] wait.key refl) (λ place wait there was no. no);
        session = λ success. same-leaves known _ refl refl refl;
        settles = λ terminal at. settles-leaves request terminal read at;
        day = λ terminal last at. day-begun-leaves request terminal last read at;
        displays = λ terminal last outputs command at. becomes-leaves known number terminal _ _ at.found refl (λ place wait there was. no-records-add known _ wait.key refl) (λ place wait there was no. refl);
      })
