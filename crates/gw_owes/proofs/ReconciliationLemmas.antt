-- Reconciliations: which begin, what their Settled says, how an end of day ends, what its key gets meanwhile and later, and that nothing else is settled.
use Rattle.std.proofs.Common.{◌≡◌, ◌⊎◌, ℕ, ◌+◌, inl, inr, Bool, true, false, ◌&&◌, cond, List, [], ◌∷◌, ◌++◌, length, refl, sym, ◌∙◌, ap, subst}
use Rattle.std.proofs.Math.Seq.{take-append_seam}
use Rattle.std.proofs.lemmas.Bool.{and_parts}
use Rattle.std.proofs.lemmas.List.{append-nil, append_assoc}
use Rattle.std.proofs.lemmas.Option.{same_Some}
use Rattle.std.specs.Ordering.{is_eq}
use Rattle.std.specs.Prelude.{is_some, not, option_and_then, option_map, set, slice_get, codes, ◌||◌, if◌then◌else◌, Option, Some, None, Result, Ok, Err}
use Rattle.gw_base.proofs.KeyLemmas.{key_cmp-ties}
use Rattle.gw_base.specs.declared.condition.Condition.TheVariants.{Busy, InProgress, LoggedOut, NotAllowed, UnavailableDevice, UnavailableService}
use Rattle.gw_base.specs.declared.key.Key.{Key}
use Rattle.gw_site.specs.Outside.{is_connected}
use Rattle.sale_values.specs.declared.header.Header.{Header}
use Rattle.sale_values.specs.declared.names.Class.TheVariants as classes
use Rattle.sale_values.specs.declared.names.Kind.TheVariants as kinds
use Rattle.sale_values.specs.declared.names.Period.{Period}
use Rattle.sale_values.specs.declared.names.Period.TheVariants.{SaleReconciliation, AcquirerReconciliation}
use Rattle.sale_values.specs.declared.request.SaleRequest.{SaleRequest}
use Rattle.sale_values.specs.declared.request.SaleRequest.TheVariants as requests
use Rattle.sale_reply.specs.declared.reply.Told.TheVariants.{Reconciled}
use Rattle.zvt_apdu.specs.Grammar.{ApduValue}
use Rattle.zvt_msg.specs.declared.fault.PtFault.{PtFault}
use Rattle.zvt_msg.specs.Message.{MessageValue}
use Rattle.zvt_msg.specs.MessageDecode.{decode_pt_message}
use Rattle.zvt_talk.specs.declared.meaning.Heard.TheVariants as heard
use Rattle.jrn_record.specs.declared.records.How.{How}
use Rattle.jrn_record.specs.declared.records.How.TheVariants as hows
use Rattle.jrn_record.specs.declared.records.Record.{Record}
use Rattle.jrn_record.specs.declared.records.Record.TheVariants.{Intent, Outcome, Settled}
use Rattle.jrn_record.specs.declared.records.Settled.{Settled as TheSettled}
use Rattle.gw_ledger.proofs.KeyTableLemmas.{slot_push}
use Rattle.gw_ledger.specs.declared.entry.Entry.{Entry as TheEntry}
use Rattle.gw_ledger.specs.declared.entry.Found.{Found}
use Rattle.gw_ledger.specs.declared.entry.Found.TheVariants.{Closed}
use Rattle.gw_ledger.specs.declared.totals.Totals.{Totals}
use Rattle.gw_ledger.specs.Accounts.{is_settled}
use Rattle.gw_ledger.specs.Fold.{AreFolded, FitBy, fits, fits_beside_key, found_by, found_of, has_new_key, is_unknown}
use Rattle.gw_ledger.specs.Keys.{intent_key, is_key, record_key, same_key, settled_key, slot_of}
use Rattle.gw_ledger.specs.Laws.{NamedIsEntry, SettledIsAfter, TotalsBeginAnew}
use Rattle.gw_ledger.specs.Slots.{ended_at, entry_at, entry_with, intent_at}
use Rattle.gw_ledger.specs.Sums.{totals_of}
use Rattle.xlate.specs.Codes.{condition_of_code}
use Rattle.xlate.specs.Reply.{period_of}
use Rattle.gw_owes.specs.declared.terminal.Service.TheVariants.{EndOfDay}
use Rattle.gw_owes.specs.declared.terminal.Standing.{Standing}
use Rattle.gw_owes.specs.declared.terminal.Standing.TheVariants.{Unlinked, Ready}
use Rattle.gw_owes.specs.declared.terminal.Terminal.{Terminal}
use Rattle.gw_owes.specs.Calls.{OwedCall, Sending, CutTill, LinkPt, records_kept}
use Rattle.gw_owes.specs.Content.{is_same_period}
use Rattle.gw_owes.specs.DayLaws.{SaysWhatIsSettled, PassesUpToStanding, EachReconciliationBegins, OtherPeriodIsUnserved, SettlesAtOnce, EachSaleIsSettled, BeginsDay, EachDayBegins, DoneIsSettled, DeclinedKeepsNothing, UnclearDayIsCut, LostKeepsNothing, ServesDayOf, EachServedDayIsReplied, SettledIsRepliedAgain, NextHasNoTotals, SettledIsNotReversed, IsSaleServed, IsDayDone, EachSettledHasCause}
use Rattle.gw_owes.specs.Core.{Wait}
use Rattle.gw_owes.specs.Days.{asks_day, is_day_key, is_day_served, is_key_of_day, named_serves_day, serves_day}
use Rattle.gw_owes.specs.Deadlines.{is_due, is_late, due_row, late_row}
use Rattle.gw_owes.specs.Diagnosis.{NamedTerminal, named_terminal}
use Rattle.gw_owes.specs.Greeting.{greeting, sending_calls, greet_decoded}
use Rattle.gw_owes.specs.Handling.{taken_as, handle_row}
use Rattle.gw_owes.specs.Items.{RoundItem, Crowded, Message, Asked, Unframed, Gone, Greet, Handle, Serve, Queue, NextWaiting, Oversized, LinkLost, Late, Overdue, Due}
use Rattle.gw_owes.specs.KeptReplies.{own_key, found_for, is_open_found, status_reply_at}
use Rattle.gw_owes.specs.Links.{LinkIsLost, cutting, link_row}
use Rattle.gw_owes.specs.PaymentLaws.{KeepsAtEnd, outcome_calls}
use Rattle.gw_owes.specs.Payments.{serve_row}
use Rattle.gw_owes.specs.Reconciliations.{asked_for_day, begins_day, begins_period, closed_after, reconciliation_row, settled_of}
use Rattle.gw_owes.specs.Replies.{failure_reply}
use Rattle.gw_owes.specs.Reply.{ReplyValue, Finished}
use Rattle.gw_owes.specs.Requests.{abort_reply, reply_to}
use Rattle.gw_owes.specs.Row.{Known, Row, owing, owing_where}
use Rattle.gw_owes.specs.Rows.{asked_row, row_of}
use Rattle.gw_owes.specs.Sessions.{is_logged_out}
use Rattle.gw_owes.specs.Steps.{StepResult, Fails, Begins, Waits, is_beginning, is_out_of_service, is_ready_standing, is_sale_period, is_unserved_period, lacks_room, reply_of_result, result_at_queue, service_reply, step_result}
use Rattle.gw_owes.specs.TerminalLaws.{GoesOnTo}
use Rattle.gw_owes.specs.Terminals.{terminal_at, of_terminal, reply_calls_to, reply_to_lost, unlinks}
use Rattle.gw_owes.specs.WaitingRows.{next_waiting_row, overdue_row, queue_row}
use Rattle.gw_owes.specs.Waits.{is_pending, is_pending_key, is_queue_full, repeats_waiting, waiting_for, waiting_with}
use Rattle.gw_owes.proofs.AskedLemmas.{each-accepted-begins}
use Rattle.gw_owes.proofs.DisplayLemmas.{lost-is}
use Rattle.gw_owes.proofs.HandlingLemmas.{by-where, each-linked, each-terminal}
use Rattle.gw_owes.proofs.KeepingLemmas.{replies-keep-nothing}
use Rattle.gw_owes.proofs.LimitLemmas.{settled-key-is}
use Rattle.gw_owes.proofs.NextLemmas.{each-next, each-overdue, each-queued}
use Rattle.gw_owes.proofs.PaymentLawLemmas.{each-record-of-an-end, served-leads, stopped-same}
use Rattle.gw_owes.proofs.PaymentLemmas.{each-served, passes-steps}
use Rattle.gw_owes.proofs.RecordLemmas.{same-key-is}
use Rattle.gw_owes.proofs.RefusalLemmas.{irreversible-is-not-allowed}
use Rattle.gw_owes.proofs.SetLemmas.{new-is-there, same-some}
use Rattle.gw_owes.proofs.StepLemmas.{each-on-record-is-replied, each-service-has-steps, new-result-is, not-pending-result, rest-of-steps, result-apart}

-- ---- the steps

-- the result of the steps of a Reconciliation on a key that isn't on record, doesn't wait and isn't that of an end of day that is served
abbrev pub result_of_new : Period → Standing → Bool → Bool → Bool → StepResult
result_of_new period standing out no_room full =
    if out then Fails LoggedOut else (if is_unserved_period period then Fails UnavailableService else (if no_room then Fails UnavailableService else (if is_sale_period period then Begins else
    (if is_out_of_service standing then Fails UnavailableDevice else (if is_ready_standing standing then Begins else (if full then Fails Busy else Waits))))))

pub result-new : (known : Known) (header : Header) (period : Period) (named : NamedTerminal) → found_for known.kept header ≡ None → is_pending_key known.core header (Some named) ≡ false
    → step_result known header (requests.Reconciliation period) (Some named)
    ≡ result_of_new period named.terminal.standing (is_logged_out known.core header.sale header.poi) (lacks_room known.setup.slots known.kept known.core) (is_queue_full known (Some named))
result-new known header period named unknown not_pending = not-pending-result known header (requests.Reconciliation period) (Some named) unknown not_pending

-- where it may begin, that goes by the type, the standing and how many wait
result-may : (known : Known) (header : Header) (period : Period) (named : NamedTerminal) → PassesUpToStanding known header named
    → step_result known header (requests.Reconciliation period) (Some named) ≡ result_of_new period named.terminal.standing false false (is_queue_full known (Some named))
result-may known header period named may =
    result-new known header period named may.unknown may.not_pending
    ∙ (ap (λ (out : Bool). result_of_new period named.terminal.standing out (lacks_room known.setup.slots known.kept known.core) (is_queue_full known (Some named))) may.logged_in
    ∙ ap (λ (no_room : Bool). result_of_new period named.terminal.standing false no_room (is_queue_full known (Some named))) may.room)

sale-begins : (known : Known) (header : Header) (named : NamedTerminal) → PassesUpToStanding known header named → step_result known header (requests.Reconciliation SaleReconciliation) (Some named) ≡ Begins
sale-begins known header named may = result-may known header SaleReconciliation named may

day-begins : (known : Known) (header : Header) (named : NamedTerminal) (last : ℕ) → PassesUpToStanding known header named → named.terminal.standing ≡ Ready last
    → step_result known header (requests.Reconciliation AcquirerReconciliation) (Some named) ≡ Begins
day-begins known header named last may ready =
    result-may known header AcquirerReconciliation named may ∙ ap (λ (standing : Standing). result_of_new AcquirerReconciliation standing false false (is_queue_full known (Some named))) ready

pub each-reconciliation-begins : EachReconciliationBegins
each-reconciliation-begins tills known till header named there named_is may = record {
  sale = each-accepted-begins tills known till header (requests.Reconciliation SaleReconciliation) named there named_is refl (sale-begins known header named may);
  day = λ last ready. each-accepted-begins tills known till header (requests.Reconciliation AcquirerReconciliation) named there named_is refl (day-begins known header named last may ready);
}

pub other-period-unserved : OtherPeriodIsUnserved
other-period-unserved known header period named named_is unknown not_pending logged_in unserved =
    ap (λ (n : Option NamedTerminal). service_reply known header (requests.Reconciliation period) n) named_is ∙ ap (reply_of_result known.kept header) result_is
  where
    room : Bool
    room = lacks_room known.setup.slots known.kept known.core

    standing : Standing
    standing = named.terminal.standing

    result_is : step_result known header (requests.Reconciliation period) (Some named) ≡ Fails UnavailableService
    result_is =
        result-new known header period named unknown not_pending
        ∙ (ap (λ (out : Bool). result_of_new period standing out room (is_queue_full known (Some named))) logged_in
        ∙ ap (λ (b : Bool). if b then Fails UnavailableService else (if room then Fails UnavailableService else (if is_sale_period period then Begins else (if is_out_of_service standing then Fails UnavailableDevice else (if is_ready_standing standing then Begins else result_at_queue known (Some named)))))) unserved)

-- ---- what is settled at once

-- what the Settled says
says-settled : (moment : ℕ) (how : How) (header : Header) (terminal : Terminal) → SaysWhatIsSettled moment how header terminal (settled_of how header terminal.pt.currency moment)
says-settled moment how header terminal = record { how_is = refl; key = settled-key-is how header terminal.pt.currency moment; currency = refl; moment_is = refl }

-- the row of a Reconciliation that begins, at a terminal that is there
begun-period : (known : Known) (number till : ℕ) (header : Header) (period : Period) (terminal : Terminal) → terminal_at known number ≡ Some terminal
    → step_result known header (requests.Reconciliation period) (Some (record { number = number; terminal = terminal })) ≡ Begins
    → serve_row known number till header (requests.Reconciliation period) ≡ begins_period known number till header period terminal
begun-period known number till header period terminal found begins =
    ap (of_terminal known (reconciliation_row known number till header period)) found
    ∙ ap (λ (result : StepResult). owing_where (is_beginning result) known (begins_period known number till header period terminal)) begins

pub each-sale-settled : EachSaleIsSettled
each-sale-settled tills known number till header terminal found may =
    subst (SettlesAtOnce known till header terminal) (sym (begun-period known number till header SaleReconciliation terminal found (sale-begins known header _ may))) (record {
      settled = settled_of hows.Sale header terminal.pt.currency known.moment;
      says = says-settled known.moment hows.Sale header terminal;
      calls_are = refl;
      core_is = refl;
      none_more = refl;
    })

-- ---- an end of day

pub each-day-begins : EachDayBegins
each-day-begins tills known number till header terminal last found ready may =
    subst (BeginsDay till header number terminal last)
    (sym (begun-period known number till header AcquirerReconciliation terminal found (day-begins known header _ last may ready) ∙ ap (begins_day known number till header terminal) ready)) (record {
      goes_on = record { terminal = asked; found = there; standing_is = refl; calls_are = refl };
      for_till = ap (option_map (λ (serving : Terminal). serving.asker)) there;
      none_more = refl;
    })
  where
    asked : Terminal
    asked = asked_for_day known till terminal last header

    there : slice_get (set known.core.terminals number asked) number ≡ Some asked
    there = new-is-there known.core.terminals number terminal asked found

pub done-settled : DoneIsSettled
done-settled known number apdu terminal header period last at = record {
  settled = settled_of hows.Acquirer header terminal.pt.currency known.moment;
  says = says-settled known.moment hows.Acquirer header terminal;
  goes_on = served-leads known number apdu terminal (EndOfDay header period) last heard.Done _ _ at (λ e. cc) (λ is_shown. is_shown)
      (record { terminal = _; found = new-is-there known.core.terminals number terminal _ at.found; standing_is = refl; calls_are = refl });
}

pub declined-keeps-nothing : DeclinedKeepsNothing
declined-keeps-nothing known number apdu terminal header period last result_code reported at =
    served-leads known number apdu terminal (EndOfDay header period) last (heard.Declined result_code reported) _ _ at (λ e. cc) (λ is_shown. is_shown)
    (record {
      terminal = _;
      found = new-is-there known.core.terminals number terminal _ at.found;
      standing_is = refl;
      calls_are = ap (λ (stopped : Bool). reply_calls_to terminal.asker (Some (failure_reply header (condition_of_code result_code stopped))))
          (stopped-same terminal.talk (taken_as terminal.awaited at.message) known.moment result_code reported at.means);
    })

pub unclear-day-cut : UnclearDayIsCut
unclear-day-cut known number apdu terminal header period last at =
    served-leads known number apdu terminal (EndOfDay header period) last heard.Unclear _ _ at (λ e. cc) (λ is_shown. is_shown)
    (record { terminal = _; found = new-is-there known.core.terminals number terminal _ at.found; standing_is = at.standing_is; calls_are = refl })

pub lost-keeps-nothing : LostKeepsNothing
lost-keeps-nothing known number terminal header period last found serves =
    subst (GoesOnTo number (Unlinked (Some (known.moment + 5))) (reply_calls_to terminal.asker (Some (failure_reply header UnavailableDevice)))) (sym (lost-is known number terminal found))
    (record {
      terminal = _;
      found = new-is-there known.core.terminals number terminal _ found;
      standing_is = refl;
      calls_are = ap (λ (standing : Standing). reply_calls_to terminal.asker (reply_to_lost standing)) serves;
    })

-- ---- its key again

-- a key is itself
own-tie : (key : Key) → same_key key key ≡ true
own-tie key = ap is_eq ((key_cmp-ties key key).1 refl)

-- the POIID of a request's key is the request's
poi-of-own : (asked : Header) (key : Key) → own_key asked ≡ Some key → asked.poi ≡ key.poi
poi-of-own asked key = by-service asked.service
  where
    by-service : (service : Option (List ℕ)) → option_map (λ (s : List ℕ). record { sale = asked.sale; poi = asked.poi; service = s }) service ≡ Some key → asked.poi ≡ key.poi
    by-service None own = absurd cc
    by-service (Some service) own = ap (λ (k : Key). k.poi) (same_Some (record { sale = asked.sale; poi = asked.poi; service = service }) key own)

-- the terminal serves the end of day of the key
serves-it : (known : Known) (key : Key) (serves : ServesDayOf known key) → serves_day key (ServesDayOf.named serves).terminal.standing ≡ true
serves-it known key serves =
    ap (λ (standing : Standing). serves_day key standing) serves.standing_is ∙ (ap (is_key key) serves.key_is ∙ own-tie key)

-- the result of the steps of a request on the key
served-step : (known : Known) (key : Key) (serves : ServesDayOf known key) (asked : Header) (request : SaleRequest) → own_key asked ≡ Some key
    → step_result known asked request (Some (ServesDayOf.named serves)) ≡ Fails (if asks_day request then InProgress else NotAllowed)
served-step known key serves asked request own =
    new-result-is known asked request (Some serves.named) (ap (option_and_then (found_of known.kept)) own ∙ serves.unknown)
    ∙ by-parts (is_day_key asked (Some serves.named)) (waiting_for known.core asked) (asks_day request) (ap (λ (k : Option Key). is_key_of_day k (Some serves.named)) own ∙ serves-it known key serves)
    (ap (option_and_then (λ (k : Key). waiting_with k known.core.waits)) own ∙ serves.no_wait)
  where
    by-parts : (of_day : Bool) (waiting : Option Wait) (day : Bool) → of_day ≡ true → waiting ≡ None
        → result-apart ((of_day && day) || repeats_waiting known.kept asked.poi request waiting) (of_day || is_some waiting) (rest-of-steps known asked request (Some serves.named)) ≡ Fails (if day then InProgress else NotAllowed)
    by-parts true None true is none = refl
    by-parts true None false is none = refl
    by-parts true (Some wait) day is none = absurd cc
    by-parts false waiting day is none = absurd cc

served-result : (known : Known) (key : Key) (serves : ServesDayOf known key) (asked : Header) (request : SaleRequest) → own_key asked ≡ Some key
    → service_reply known asked request (named_terminal known.core asked.poi) ≡ Some (failure_reply asked (if asks_day request then InProgress else NotAllowed))
served-result known key serves asked request own =
    ap (λ (poi : List ℕ). service_reply known asked request (named_terminal known.core poi)) (poi-of-own asked key own)
    ∙ (ap (service_reply known asked request) serves.named_is ∙ ap (reply_of_result known.kept asked) (served-step known key serves asked request own))

-- it is the end of day that is served
is-served : (known : Known) (key : Key) → ServesDayOf known key → is_day_served known.core key ≡ true
is-served known key serves = ap (named_serves_day key) serves.named_is ∙ serves-it known key serves

-- so that it is pending
is-pending-there : (known : Known) (key : Key) → ServesDayOf known key → is_pending known.core key ≡ true
is-pending-there known key serves = ap (λ (b : Bool). b || is_some (waiting_with key known.core.waits)) (is-served known key serves)

pub each-served-day-replied : EachServedDayIsReplied
each-served-day-replied known key serves = record {
  again = λ asked own. served-result known key serves asked (requests.Reconciliation AcquirerReconciliation) own;
  other = λ asked request own has other.
      each-service-has-steps known asked request has
      ∙ (served-result known key serves asked request own ∙ ap (λ (day : Bool). Some (failure_reply asked (if day then InProgress else NotAllowed))) other);
  status = λ asking reference is.
      ap (λ (k : Key). Some (status_reply_at asking (found_of known.kept k) (is_pending known.core k))) is
      ∙ (ap (λ (found : Option Found). Some (status_reply_at asking found (is_pending known.core key))) serves.unknown
      ∙ ap (λ (served : Bool). Some (status_reply_at asking None served)) (is-pending-there known key serves));
  abort = λ asking reference is.
      ap (λ (k : Key). abort_reply (is_open_found (found_of known.kept k) || is_pending known.core k) known asking) is
      ∙ (ap (λ (found : Option Found). abort_reply (is_open_found found || is_pending known.core key) known asking) serves.unknown
      ∙ ap (λ (served : Bool). abort_reply served known asking) (is-pending-there known key serves));
}

-- ---- the reply again

-- a record that may come next has no key that is known
new-key-apart : (kept : List Record) (key other : Key) (slot : ℕ) → is_unknown kept other ≡ true → slot_of kept key ≡ Some slot → same_key key other ≡ false
new-key-apart kept key other slot unknown there = by-test (same_key key other) refl
  where
    by-test : (test : Bool) → same_key key other ≡ test → test ≡ false
    by-test true tie =
        let known_too : slot_of kept other ≡ Some slot = ap (slot_of kept) (sym (same-key-is key other tie)) ∙ there in
        let e : false ≡ true = ap (λ (s : Option ℕ). not (is_some s)) (sym known_too) ∙ unknown in
        absurd cc
    by-test false tie = refl

next-apart : (kept : List Record) (next : Record) (key : Key) (slot : ℕ) → has_new_key kept next ≡ true → slot_of kept key ≡ Some slot → is_key key (record_key next) ≡ false
next-apart kept (Intent intent) key slot new there = new-key-apart kept key (intent_key intent) slot new there
next-apart kept (Outcome outcome) key slot new there = refl
next-apart kept (Settled settled) key slot new there = new-key-apart kept key (settled_key settled) slot new there

-- a key keeps its slot
slot-of-more : (kept : List Record) (next : Record) (key : Key) (slot : ℕ) → fits kept next ≡ true → slot_of kept key ≡ Some slot → slot_of (kept ++ next ∷ []) key ≡ Some slot
slot-of-more kept next key slot fitting there =
    slot_push kept next key
    ∙ (ap (λ (own : Bool). cond own (Some (length kept)) (slot_of kept key)) (next-apart kept next key slot (and_parts (has_new_key kept next) (fits_beside_key kept next) fitting).0 there) ∙ there)

slot-of-rest : (kept rest : List Record) (key : Key) (slot : ℕ) → FitBy fits kept rest → slot_of kept key ≡ Some slot → slot_of (kept ++ rest) key ≡ Some slot
slot-of-rest kept [] key slot fit there = subst (λ (records : List Record). slot_of records key ≡ Some slot) (sym (append-nil kept)) there
slot-of-rest kept (next ∷ rest) key slot fit there =
    subst (λ (records : List Record). slot_of records key ≡ Some slot) (append_assoc kept (next ∷ []) rest) (slot-of-rest (kept ++ next ∷ []) rest key slot fit.1 (slot-of-more kept next key slot fit.0 there))

-- the records after the first ones fit after them
fit-later : (kept first rest : List Record) → FitBy fits kept (first ++ rest) → FitBy fits (kept ++ first) rest
fit-later kept [] rest fit = subst (λ (records : List Record). FitBy fits records rest) (sym (append-nil kept)) fit
fit-later kept (one ∷ first) rest fit = subst (λ (records : List Record). FitBy fits records rest) (append_assoc kept (one ∷ []) first) (fit-later (kept ++ one ∷ []) first rest fit.1)

last-there : {A : Type 0} (before after : List A) (one : A) → slice_get (before ++ one ∷ after) (length before) ≡ Some one
last-there [] after one = refl
last-there (first ∷ before) after one = last-there before after one

module _ (before after : List Record) (settled : TheSettled) (folded : AreFolded (before ++ Settled settled ∷ after)) where
  abbrev all : List Record
  all = before ++ Settled settled ∷ after

  slot_is : slot_of all (settled_key settled) ≡ Some (length before)
  slot_is =
      subst (λ (records : List Record). slot_of records (settled_key settled) ≡ Some (length before)) (append_assoc before (Settled settled ∷ []) after)
      (slot-of-rest (before ++ Settled settled ∷ []) after (settled_key settled) (length before) (fit-later before (Settled settled ∷ []) after (fit-later [] before (Settled settled ∷ after) folded.fit))
      (slot_push before (Settled settled) (settled_key settled) ∙ ap (λ (own : Bool). cond own (Some (length before)) (slot_of before (settled_key settled))) (own-tie (settled_key settled))))

  -- its key has the reconciliation, with the totals of the records before it
  settled-found : found_of all (settled_key settled) ≡ Some (Closed (closed_after before settled))
  settled-found =
      ap (option_and_then (λ (slot : ℕ). option_and_then (found_by all slot) (slice_get all slot))) slot_is
      ∙ (ap (option_and_then (found_by all (length before))) (last-there before after (Settled settled))
      ∙ ap (λ (records : List Record). Some (Closed (record { slot = length before; settled = settled; totals = totals_of records settled.poi settled.currency }))) (take-append_seam before (Settled settled ∷ after)))

same-type : (how : How) → is_same_period (period_of how) how ≡ true
same-type hows.Sale = refl
same-type hows.Acquirer = refl

pub settled-replied-again : SettledIsRepliedAgain
settled-replied-again known header before after settled kept_is folded own =
    let found : found_for known.kept header ≡ Some (Closed (closed_after before settled)) =
    ap (option_and_then (found_of known.kept)) own
    ∙ (ap (λ (records : List Record). found_of records (settled_key settled)) kept_is ∙ settled-found before after settled (subst AreFolded kept_is folded)) in
    (each-on-record-is-replied known header (requests.Reconciliation (period_of settled.how)) (named_terminal known.core header.poi) (Closed (closed_after before settled)) found).finished (same-type settled.how) _ refl

-- ---- what is summed up

pub next-has-no-totals : TotalsBeginAnew → NextHasNoTotals
next-has-no-totals fresh kept settled next same =
    ap with_totals (ap (λ (poi : List ℕ). totals_of (kept ++ Settled settled ∷ []) poi next.currency) same ∙ fresh kept settled next.currency)
  where
    with_totals : Totals → ReplyValue
    with_totals totals =
        Finished (record { class = classes.Service; category = codes "Reconciliation"; kind = kinds.Response; service = Some next.service; device = None; sale = next.sale; poi = next.poi })
        (Reconciled (period_of next.how) next.currency totals.debit totals.reversed)

-- the Intent of an entry
intent-of-entry : (kept : List Record) (slot : ℕ) (entry : TheEntry) → entry_at kept slot ≡ Some entry → intent_at kept slot ≡ Some entry.intent
intent-of-entry kept slot entry = by-intent (intent_at kept slot)
  where
    by-intent : (intent : Option _) → option_map (entry_with kept slot (ended_at kept slot)) intent ≡ Some entry → intent ≡ Some entry.intent
    by-intent None is = absurd cc
    by-intent (Some intent) is = ap (λ (e : TheEntry). Some e.intent) (same-some (entry_with kept slot (ended_at kept slot) intent) entry is)

pub settled-not-reversed : NamedIsEntry → SettledIsAfter → SettledIsNotReversed
settled-not-reversed named_entry after known header reversal named original ended named_is unknown not_pending logged_in original_is what ended_is settled =
    let of_slot = named_entry known.kept header.poi reversal.transaction original original_is in
    let is : is_settled known.kept original.slot ≡ true = (after known.kept original.slot ended original.intent (intent-of-entry known.kept original.slot original of_slot.0) what ended_is).1 settled in
    irreversible-is-not-allowed known header reversal named named_is unknown not_pending logged_in (record {
      original = original;
      named = original_is;
      irreversible = λ approval reversible. let e : true ≡ false = sym is ∙ reversible.not_settled in cc;
    })

-- ---- nothing else is settled

-- the row keeps no record
abbrev KeepsNone : Row → Type 0
KeepsNone row = records_kept row.calls ≡ []

greet-keeps-none : (known : Known) (number : ℕ) (decoded : Result MessageValue PtFault) → KeepsNone (greet_decoded known number decoded)
greet-keeps-none known number (Ok message) = each-linked KeepsNone known number (λ terminal. owing known (sending_calls number (greeting message))) refl (λ terminal found linked. by-sending (greeting message))
  where
    by-sending : (sending : Option Sending) → records_kept (sending_calls number sending) ≡ []
    by-sending None = refl
    by-sending (Some sending) = refl
greet-keeps-none known number (Err fault) = each-linked KeepsNone known number (λ terminal. cutting known number) refl (λ terminal found linked. refl)

lost-keeps-none : (known : Known) (number : ℕ) → KeepsNone (link_row known number LinkIsLost)
lost-keeps-none known number = each-terminal KeepsNone known number (unlinks known number) refl (λ terminal found. (replies-keep-nothing terminal.asker (reply_to_lost terminal.standing)).no_records)

late-keeps-none : (known : Known) (number : ℕ) → KeepsNone (late_row known number)
late-keeps-none known number =
    each-terminal KeepsNone known number (λ terminal. owing_where (is_late known.moment terminal.talk) known (cutting known number)) refl
    (λ terminal found. by-where KeepsNone known (cutting known number) (is_late known.moment terminal.talk) refl (λ late. refl))

due-keeps-none : (known : Known) (number : ℕ) → KeepsNone (due_row known number)
due-keeps-none known number =
    each-terminal KeepsNone known number (λ terminal. owing_where (is_due known.moment terminal.standing) known (owing known (LinkPt number ∷ []))) refl
    (λ terminal found. by-where KeepsNone known (owing known (LinkPt number ∷ [])) (is_due known.moment terminal.standing) refl (λ due. refl))

-- the first of two lists of records that are the same
same-first : (one other : TheSettled) (rest more : List Record) → Settled one ∷ rest ≡ Settled other ∷ more → one ≡ other
same-first one other rest more same = cc

module _ (known : Known) (settled : TheSettled) (more : List Record) where
  -- where the row keeps this Settled, the item is one of the two
  abbrev Explains : RoundItem → Row → Type 0
  Explains item row = records_kept row.calls ≡ Settled settled ∷ more → IsSaleServed known item settled ⊎ IsDayDone known item settled

  none-explains : (item : RoundItem) (row : Row) → KeepsNone row → Explains item row
  none-explains item row none kept = let e : [] ≡ Settled settled ∷ more = sym none ∙ kept in absurd cc

  handle-explains : (number : ℕ) (apdu : ApduValue) → Explains (Handle number apdu) (handle_row known number apdu)
  handle-explains number apdu kept = by-end (each-record-of-an-end known number apdu (Settled settled) more kept)
    where
      no-outcome : (calls : List OwedCall) (terminal : Terminal) (outcome : _) → calls ≡ outcome_calls known terminal outcome → records_kept calls ≡ Settled settled ∷ more → ⊥
      no-outcome calls terminal outcome is there = let e : Outcome outcome ∷ records_kept (reply_calls_to terminal.asker _) ≡ Settled settled ∷ more = sym (ap records_kept is) ∙ there in cc

      by-end : KeepsAtEnd known number apdu (handle_row known number apdu).calls → IsSaleServed known (Handle number apdu) settled ⊎ IsDayDone known (Handle number apdu) settled
      by-end (inl (inl ends)) = absurd (no-outcome _ ends.terminal ends.outcome ends.calls_are kept)
      by-end (inl (inr reports)) = absurd (no-outcome _ reports.terminal _ reports.calls_are kept)
      by-end (inr day) =
          let same : settled_of hows.Acquirer day.header day.terminal.pt.currency known.moment ≡ settled = same-first _ settled _ more (sym (ap records_kept day.calls_are) ∙ kept) in
          inr (record {
            number = number;
            apdu = apdu;
            item_is = refl;
            terminal = day.terminal;
            header = day.header;
            period = day.period;
            last = day.last;
            means = day.means;
            says = subst (SaysWhatIsSettled known.moment hows.Acquirer day.header day.terminal) same (says-settled known.moment hows.Acquirer day.header day.terminal);
          })

  may-begin : (number : ℕ) (header : Header) (request : SaleRequest) (terminal : Terminal) → is_beginning (step_result known header request (Some (record { number = number; terminal = terminal }))) ≡ true
      → PassesUpToStanding known header (record { number = number; terminal = terminal })
  may-begin number header request terminal begins =
      let passes = passes-steps known header request (Some (record { number = number; terminal = terminal })) begins in
      record { unknown = passes.unknown; not_pending = passes.not_pending; logged_in = passes.logged_in; room = passes.room }

  serve-explains : (number till : ℕ) (header : Header) (request : SaleRequest) → Explains (Serve number till header request) (serve_row known number till header request)
  serve-explains number till header request = each-served (Explains (Serve number till header request)) known number till header request (record {
    none = λ kept. absurd cc;
    begins = λ terminal last asking at kept. absurd cc;
    sent = λ terminal talk at may kept. absurd cc;
    wished = λ terminal talk at may kept. absurd cc;
    session = λ session kept. absurd cc;
    settles = λ terminal at kept.
        let same : settled_of hows.Sale header terminal.pt.currency known.moment ≡ settled = same-first (settled_of hows.Sale header terminal.pt.currency known.moment) settled _ more kept in
        inl (record {
          number = number;
          till = till;
          header = header;
          item_is = ap (Serve number till header) at.request_is;
          terminal = terminal;
          found = at.found;
          may = may-begin number header request terminal at.begins_is;
          says = subst (SaysWhatIsSettled known.moment hows.Sale header terminal) same (says-settled known.moment hows.Sale header terminal);
        });
    day = λ terminal last at kept. absurd cc;
    displays = λ terminal last outputs command at kept. absurd cc;
  })

  next-explains : (number : ℕ) → Explains (NextWaiting number) (next_waiting_row known number)
  next-explains number = each-next (Explains (NextWaiting number)) known number (record {
    none = λ kept. absurd cc;
    refused = λ terminal last wait condition first refused kept. absurd cc;
    begins = λ terminal last wait asking at kept. absurd cc;
    day = λ terminal last wait at kept. absurd cc;
    left = λ terminal last wait first kept. absurd cc;
  })

  queue-explains : (number till : ℕ) (header : Header) (request : SaleRequest) → Explains (Queue number till header request) (queue_row known number till header request)
  queue-explains number till header request = each-queued (Explains (Queue number till header request)) known number till header request (record {
    none = λ kept. absurd cc;
    joins = λ terminal key at kept. absurd cc;
    taken = λ wait at kept. absurd cc;
  })

  overdue-explains : (key : Key) → Explains (Overdue key) (overdue_row known key)
  overdue-explains key = each-overdue (Explains (Overdue key)) known key (record { none = λ kept. absurd cc; taken = λ wait waits overdue kept. absurd cc })

pub each-settled-has-cause : EachSettledHasCause
each-settled-has-cause tills known (Crowded till) settled more kept = absurd cc
each-settled-has-cause tills known (Message till bytes) settled more kept = absurd cc
each-settled-has-cause tills known (Asked till as_read) settled more kept =
    none-explains known settled more (Asked till as_read) (row_of tills known (Asked till as_read))
    (by-where KeepsNone known (asked_row known till as_read) (is_connected tills till) refl (λ there. (replies-keep-nothing (Some till) (reply_to known as_read)).no_records)) kept
each-settled-has-cause tills known (Unframed till) settled more kept =
    none-explains known settled more (Unframed till) (row_of tills known (Unframed till)) (by-where KeepsNone known (owing known (CutTill till ∷ [])) (is_connected tills till) refl (λ there. refl)) kept
each-settled-has-cause tills known (Gone till) settled more kept = absurd cc
each-settled-has-cause tills known (Greet number apdu) settled more kept = none-explains known settled more (Greet number apdu) (row_of tills known (Greet number apdu)) (greet-keeps-none known number (decode_pt_message apdu)) kept
each-settled-has-cause tills known (Handle number apdu) settled more kept = handle-explains known settled more number apdu kept
each-settled-has-cause tills known (Serve number till header request) settled more kept = serve-explains known settled more number till header request kept
each-settled-has-cause tills known (Queue number till header request) settled more kept = queue-explains known settled more number till header request kept
each-settled-has-cause tills known (NextWaiting number) settled more kept = next-explains known settled more number kept
each-settled-has-cause tills known (Oversized number) settled more kept =
    none-explains known settled more (Oversized number) (row_of tills known (Oversized number)) (each-linked KeepsNone known number (λ terminal. cutting known number) refl (λ terminal found linked. refl)) kept
each-settled-has-cause tills known (LinkLost number) settled more kept = none-explains known settled more (LinkLost number) (row_of tills known (LinkLost number)) (lost-keeps-none known number) kept
each-settled-has-cause tills known (Late number) settled more kept = none-explains known settled more (Late number) (row_of tills known (Late number)) (late-keeps-none known number) kept
each-settled-has-cause tills known (Overdue key) settled more kept = overdue-explains known settled more key kept
each-settled-has-cause tills known (Due number) settled more kept = none-explains known settled more (Due number) (row_of tills known (Due number)) (due-keeps-none known number) kept
