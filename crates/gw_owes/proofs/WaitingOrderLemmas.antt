-- What waits stays in order with each item: with what joins, what is taken out, and what is begun from its queue.
use Rattle.std.proofs.Common.{◌≡◌, ◌≢◌, ◌∙◌, ℕ, ◌+◌, ◌<◌, ◌≤◌, true, false, List, [], ◌∷◌, ◌++◌, length, not, refl, sym, ap, subst, arith}
use Rattle.std.specs.Prelude.{is_some, slice_get, Option, Some, None, option_and_then, option_map, unwrap_or, Result, Ok, Err}
use Rattle.std.proofs.lemmas.Bool.{leb-false, not-true, or_parts}
use Rattle.std.proofs.lemmas.List.{append-nil}
use Rattle.std.proofs.lemmas.Option.{same_Some}
use Rattle.gw_base.specs.declared.condition.Condition.{Condition}
use Rattle.gw_base.specs.declared.condition.Condition.TheVariants.{Aborted}
use Rattle.gw_base.specs.declared.key.Key.{Key}
use Rattle.gw_base.specs.declared.setup.Pt.{Pt}
use Rattle.gw_site.specs.Outside.{Connection, is_connected}
use Rattle.sale_values.specs.declared.header.Header.{Header}
use Rattle.sale_values.specs.declared.request.Reference.{Reference}
use Rattle.sale_values.specs.declared.request.SaleRequest.{SaleRequest}
use Rattle.sale_values.specs.declared.request.SaleRequest.TheVariants as requests
use Rattle.zvt_msg.specs.declared.fault.PtFault.{PtFault}
use Rattle.zvt_msg.specs.Message.{MessageValue}
use Rattle.zvt_msg.specs.MessageDecode.{decode_pt_message}
use Rattle.jrn_record.specs.declared.records.Record.{Record}
use Rattle.jrn_record.specs.declared.records.Record.TheVariants.{Intent}
use Rattle.gw_ledger.specs.Fold.{found_of}
use Rattle.gw_ledger.specs.Keys.{intent_key, is_key, same_key}
use Rattle.gw_owes.specs.declared.terminal.Terminal.{Terminal}
use Rattle.gw_owes.specs.Calls.{CutTill, LinkPt, Sending, records_kept}
use Rattle.gw_owes.specs.Core.{Wait}
use Rattle.gw_owes.specs.Days.{is_day_key, is_key_of_day, named_serves_day}
use Rattle.gw_owes.specs.Deadlines.{due_row, is_due, is_late, late_row}
use Rattle.gw_owes.specs.Diagnosis.{NamedTerminal, named_terminal}
use Rattle.gw_owes.specs.Greeting.{greet_decoded, greeting, outside_row, sending_calls}
use Rattle.gw_owes.specs.Items.{Crowded, Message, Asked, Unframed, Gone, Greet, Handle, Serve, Queue, NextWaiting, Oversized, LinkLost, Late, Overdue, Due}
use Rattle.gw_owes.specs.KeptReplies.{own_key}
use Rattle.gw_owes.specs.Links.{cutting}
use Rattle.gw_owes.specs.Payments.{Asking, asked_for, beginning_row}
use Rattle.gw_owes.specs.ReadAs.{ReadAs}
use Rattle.gw_owes.specs.Reconciliations.{asked_for_day}
use Rattle.gw_owes.specs.RecordLaws.{IsInOrder, IsReadQueued}
use Rattle.gw_owes.specs.Requests.{reply_to}
use Rattle.gw_owes.specs.Row.{Known, Row, owing, owing_nothing, owing_where, becoming}
use Rattle.gw_owes.specs.Rows.{asked_row, row_of}
use Rattle.gw_owes.specs.Steps.{is_unserved}
use Rattle.gw_owes.specs.Terminals.{link_lost, reply_to_lost, unlinked_terminal, unlinks}
use Rattle.gw_owes.specs.WaitingLaws.{AreWaitsInOrder, EachRowKeepsWaits, IsWaitInOrder}
use Rattle.gw_owes.specs.WaitingRows.{next_waiting_row, overdue_row, queue_row, taken_out, wait_of}
use Rattle.gw_owes.specs.Waits.{core_with_wait, queue_of, waiting_for, waiting_with}
use Rattle.gw_owes.proofs.HandlingLemmas.{by-where, each-linked, each-terminal}
use Rattle.gw_owes.proofs.KeepingLemmas.{own-key-poi, replies-keep-nothing}
use Rattle.gw_owes.proofs.NextLemmas.{BeginsDayWaiting, BeginsWaiting, JoinsAt, WaitsFirst, each-next, each-overdue, each-queued, known_without}
use Rattle.gw_owes.proofs.NextOrderLemmas.{first-there}
use Rattle.gw_owes.proofs.PaymentLemmas.{day_row}
use Rattle.gw_owes.proofs.RecordLemmas.{LedgerLaws, apart-keys-turned}
use Rattle.gw_owes.proofs.WaitingFrameLemmas.{LeavesWaits, becomes-leaves, carried-wait, carried-waits, gone-keeps-waits, its-settings, known_after, left-in-order, named-is, no-records-add, nothing-leaves, one-record-adds, same-leaves}
use Rattle.gw_owes.proofs.WaitingListLemmas.{HasNoneWith, left-there, none-under, once-pushed, pushed-there, queue-pushed-few}
use Rattle.gw_owes.proofs.WaitingRowLemmas.{asking-key, handle-leaves-waits, request_key, serve-leaves-waits}
use Rattle.gw_owes.proofs.WaitingStepLemmas.{PassesToQueue, may-wait, passes-to-queue, served-poi}

-- ---- it is taken out

-- one that waits no longer leaves the others in order
pub without-keeps : (known : Known) (wait : Wait) → AreWaitsInOrder known → AreWaitsInOrder (known_without known wait)
without-keeps known wait were =
    carried-waits known (known_without known wait) (λ (w : Wait). not (same_key wait.key w.key)) refl refl (λ at one there passes was. carried-wait known (known_without known wait) one refl refl was.unknown was.no_day was) were

-- so it is once no record is kept with it
same-records : (known : Known) → AreWaitsInOrder known → AreWaitsInOrder (record known { kept = known.kept ++ [] })
same-records known were = subst (λ (kept : List Record). AreWaitsInOrder (record known { kept = kept })) (sym (append-nil known.kept)) were

pub taken-keeps : (known : Known) (condition : Condition) (wait : Wait) → AreWaitsInOrder known → AreWaitsInOrder (known_after known (taken_out known condition wait))
taken-keeps known condition wait were = same-records (known_without known wait) (without-keeps known wait were)

-- ---- it joins

module _ (known : Known) (order : IsInOrder known) (were : AreWaitsInOrder known) (number till : ℕ) (header : Header) (request : SaleRequest) (read : IsReadQueued known.setup number header request) (terminal : Terminal) (key : Key)
    (at : JoinsAt known number header request terminal key) where
  abbrev named : Option NamedTerminal
  named = Some (record { number = number; terminal = terminal })

  passes : PassesToQueue known header request named
  passes = passes-to-queue known header request named at.waits_is

  abbrev new : Wait
  new = wait_of known number till header request key

  abbrev after : Known
  after = known_after known (becoming (core_with_wait known.core new) [])

  not-abort : (reference : Reference) → request ≢ requests.Abort reference
  not-abort reference is = let unserved : is_unserved request ≡ true = ap is_unserved is in let served : is_unserved request ≡ false = passes.served in absurd cc

  poi-is : terminal.pt.poi ≡ header.poi
  poi-is = read.names not-abort terminal.pt (subst (λ (pts : List Pt). slice_get pts number ≡ Some terminal.pt) order.of_setup.settings (its-settings known.core.terminals number terminal at.found)) ∙ served-poi header request passes.served

  named-it : named_terminal known.core key.poi ≡ named
  named-it = named-is known number terminal key.poi order.of_setup at.found (poi-is ∙ sym (own-key-poi header key at.key_is))

  parts : (is_day_key header named ≡ false) × (is_some (waiting_for known.core header) ≡ false)
  parts = or_parts (is_day_key header named) (is_some (waiting_for known.core header)) passes.not_pending

  none-has : HasNoneWith key known.core.waits
  none-has = none-under key known.core.waits (sym (ap (option_and_then (λ (k : Key). waiting_with k known.core.waits)) at.key_is) ∙ none (waiting_for known.core header) parts.1)
    where
      none : (found : Option Wait) → is_some found ≡ false → found ≡ None
      none None lacks = refl
      none (Some wait) lacks = absurd cc

  new-in-order : IsWaitInOrder after new
  new-in-order = record {
    key = at.key_is;
    unknown = (no-records-add known [] key refl).stays (sym (ap (option_and_then (found_of known.kept)) at.key_is) ∙ passes.unknown);
    no_day = ap (named_serves_day key) named-it ∙ (sym (ap (λ (k : Option Key). is_key_of_day k named) at.key_is) ∙ parts.0);
    terminal = terminal;
    named = named-it;
    may = may-wait request passes.served passes.asks_terminal;
    currency = passes.currency;
    read = read;
  }

  joined-keeps : AreWaitsInOrder after
  joined-keeps = record {
    each = pushed-there (IsWaitInOrder after) known.core.waits new
        (λ place wait there. let was = were.each place wait there in carried-wait known after wait refl refl ((no-records-add known [] wait.key refl).stays was.unknown) was.no_day was) new-in-order;
    once = once-pushed known.core.waits new none-has were.once;
    few = λ other. queue-pushed-few other known.setup.line known.core.waits new (were.few other) (λ same. room other same);
  }
    where
      room : (other : ℕ) → number ≡ other → length (queue_of other known.core.waits) + 1 ≤ known.setup.line
      room other same =
          let left : length (queue_of number known.core.waits) < known.setup.line = leb-false known.setup.line (length (queue_of number known.core.waits)) passes.queue in
          subst (λ (n : ℕ). length (queue_of n known.core.waits) + 1 ≤ known.setup.line) same (omega (arith, left))

pub queued-keeps : (known : Known) (number till : ℕ) (header : Header) (request : SaleRequest) → IsInOrder known → AreWaitsInOrder known → IsReadQueued known.setup number header request
    → AreWaitsInOrder (known_after known (queue_row known number till header request))
queued-keeps known number till header request order were read =
    each-queued (λ (row : Row). AreWaitsInOrder (known_after known row)) known number till header request (record {
      none = left-in-order known (owing_nothing known) (nothing-leaves known) were;
      joins = λ terminal key at. joined-keeps known order were number till header request read terminal key at;
      taken = λ wait at. taken-keeps known Aborted wait were;
    })

pub overdue-keeps : (known : Known) (key : Key) → AreWaitsInOrder known → AreWaitsInOrder (known_after known (overdue_row known key))
overdue-keeps known key were =
    each-overdue (λ (row : Row). AreWaitsInOrder (known_after known row)) known key (record {
      none = left-in-order known (owing_nothing known) (nothing-leaves known) were;
      taken = λ wait found overdue. taken-keeps known Aborted wait were;
    })

-- ---- it is begun

own-request-key : (header : Header) (key : Key) → own_key header ≡ Some key → request_key header ≡ key
own-request-key header key is = by-service header.service is
  where
    by-service : (service : Option (List ℕ)) → option_map (λ (s : List ℕ). record { sale = header.sale; poi = header.poi; service = s }) service ≡ Some key → record { sale = header.sale; poi = header.poi; service = unwrap_or service [] } ≡ key
    by-service None none = absurd cc
    by-service (Some service) same = same_Some (record { sale = header.sale; poi = header.poi; service = service }) key same

module _ (laws : LedgerLaws) (known : Known) (order : IsInOrder known) (were : AreWaitsInOrder known) (number : ℕ) (terminal : Terminal) (last : ℕ) (wait : Wait) (first : WaitsFirst known number terminal last wait) where
  -- the first is in order
  first-in-order : IsWaitInOrder known wait
  first-in-order = let there = first-there number known.core.waits wait first.first_is in were.each there.at wait there.there

  -- its key is that of none of the others
  others-apart : (at : ℕ) (other : Wait) → slice_get (known_without known wait).core.waits at ≡ Some other → same_key other.key wait.key ≡ false
  others-apart at other there =
      let left = left-there (λ (w : Wait). not (same_key wait.key w.key)) known.core.waits at other there in
      apart-keys-turned wait.key other.key (not-true (same_key wait.key other.key) left.passes)

  begun-keeps : (asking : Asking) → BeginsWaiting known number terminal last wait asking → AreWaitsInOrder (known_after (known_without known wait) (beginning_row (known_without known wait) number wait.till terminal last asking.intent asking.original))
  begun-keeps asking at =
      let key_is : intent_key asking.intent ≡ wait.key = asking-key (known_without known wait) wait.header wait.request terminal last asking at.asking_is ∙ own-request-key wait.header wait.key first-in-order.key in
      left-in-order (known_without known wait) (beginning_row (known_without known wait) number wait.till terminal last asking.intent asking.original)
      (becomes-leaves (known_without known wait) number terminal (asked_for (known_without known wait) wait.till terminal last asking.intent asking.original) _ first.found refl
      (λ place other there was. one-record-adds laws (known_without known wait) (Intent asking.intent) _ other.key order.folded refl (ap (same_key other.key) key_is ∙ others-apart place other there))
      (λ place other there was no. refl)) (without-keeps known wait were)

  day-keeps : BeginsDayWaiting known number terminal last wait → AreWaitsInOrder (known_after (known_without known wait) (day_row (known_without known wait) number wait.till wait.header terminal last))
  day-keeps at =
      left-in-order (known_without known wait) (day_row (known_without known wait) number wait.till wait.header terminal last)
      (becomes-leaves (known_without known wait) number terminal (asked_for_day (known_without known wait) wait.till terminal last wait.header) _ first.found refl
      (λ place other there was. no-records-add (known_without known wait) _ other.key refl)
      (λ place other there was no. ap (is_key other.key) first-in-order.key ∙ others-apart place other there)) (without-keeps known wait were)

pub next-keeps : (laws : LedgerLaws) (known : Known) (number : ℕ) → IsInOrder known → AreWaitsInOrder known → AreWaitsInOrder (known_after known (next_waiting_row known number))
next-keeps laws known number order were =
    each-next (λ (row : Row). AreWaitsInOrder (known_after known row)) known number (record {
      none = left-in-order known (owing_nothing known) (nothing-leaves known) were;
      refused = λ terminal last wait condition first refused. taken-keeps known condition wait were;
      begins = λ terminal last wait asking at. begun-keeps laws known order were number terminal last wait at.first asking at;
      day = λ terminal last wait at. day-keeps laws known order were number terminal last wait at.first at;
      left = λ terminal last wait first. same-records (known_without known wait) (without-keeps known wait were);
    })

-- ---- the rows that change nothing of what waits

module _ (known : Known) (number : ℕ) where
  sends-nothing : (sending : Option Sending) → records_kept (sending_calls number sending) ≡ []
  sends-nothing None = refl
  sends-nothing (Some sending) = refl

  outside-leaves : LeavesWaits known (outside_row known number)
  outside-leaves = each-linked (LeavesWaits known) known number (λ terminal. cutting known number) (nothing-leaves known) (λ terminal found linked. same-leaves known (cutting known number) refl refl refl)

  greet-leaves : (decoded : Result MessageValue PtFault) → LeavesWaits known (greet_decoded known number decoded)
  greet-leaves (Ok message) =
      each-linked (LeavesWaits known) known number (λ terminal. owing known (sending_calls number (greeting message))) (nothing-leaves known)
      (λ terminal found linked. same-leaves known (owing known (sending_calls number (greeting message))) refl refl (sends-nothing (greeting message)))
  greet-leaves (Err fault) = outside-leaves

  late-leaves : LeavesWaits known (late_row known number)
  late-leaves = each-terminal (LeavesWaits known) known number (λ terminal. owing_where (is_late known.moment terminal.talk) known (cutting known number)) (nothing-leaves known)
      (λ terminal found. by-where (LeavesWaits known) known (cutting known number) (is_late known.moment terminal.talk) (nothing-leaves known) (λ late. same-leaves known (cutting known number) refl refl refl))

  due-leaves : LeavesWaits known (due_row known number)
  due-leaves = each-terminal (LeavesWaits known) known number (λ terminal. owing_where (is_due known.moment terminal.standing) known (owing known (LinkPt number ∷ []))) (nothing-leaves known)
      (λ terminal found. by-where (LeavesWaits known) known (owing known (LinkPt number ∷ [])) (is_due known.moment terminal.standing) (nothing-leaves known) (λ due. same-leaves known (owing known (LinkPt number ∷ [])) refl refl refl))

  lost-leaves : LeavesWaits known (link_lost known number)
  lost-leaves = each-terminal (LeavesWaits known) known number (unlinks known number) (nothing-leaves known)
      (λ terminal found. becomes-leaves known number terminal (unlinked_terminal terminal known.moment) _ found refl
      (λ at wait there was. no-records-add known _ wait.key (replies-keep-nothing terminal.asker (reply_to_lost terminal.standing)).no_records) (λ at wait there was no. refl))

asked-leaves : (tills : List Connection) (known : Known) (till : ℕ) (as_read : ReadAs) → LeavesWaits known (row_of tills known (Asked till as_read))
asked-leaves tills known till as_read =
    by-where (LeavesWaits known) known (asked_row known till as_read) (is_connected tills till) (nothing-leaves known)
    (λ there. same-leaves known (asked_row known till as_read) refl refl (replies-keep-nothing (Some till) (reply_to known as_read)).no_records)

unframed-leaves : (tills : List Connection) (known : Known) (till : ℕ) → LeavesWaits known (row_of tills known (Unframed till))
unframed-leaves tills known till =
    by-where (LeavesWaits known) known (owing known (CutTill till ∷ [])) (is_connected tills till) (nothing-leaves known) (λ there. same-leaves known (owing known (CutTill till ∷ [])) refl refl refl)

-- ---- each item

pub rows-keep-waits : LedgerLaws → EachRowKeepsWaits
rows-keep-waits laws tills known (Crowded till) order were read = left-in-order known (row_of tills known (Crowded till)) (same-leaves known (owing known (CutTill till ∷ [])) refl refl refl) were
rows-keep-waits laws tills known (Message till bytes) order were read = left-in-order known (owing_nothing known) (nothing-leaves known) were
rows-keep-waits laws tills known (Asked till as_read) order were read = left-in-order known (row_of tills known (Asked till as_read)) (asked-leaves tills known till as_read) were
rows-keep-waits laws tills known (Unframed till) order were read = left-in-order known (row_of tills known (Unframed till)) (unframed-leaves tills known till) were
rows-keep-waits laws tills known (Gone till) order were read = same-records (record known { core = (row_of tills known (Gone till)).core }) (gone-keeps-waits known till were)
rows-keep-waits laws tills known (Greet number apdu) order were read = left-in-order known (row_of tills known (Greet number apdu)) (greet-leaves known number (decode_pt_message apdu)) were
rows-keep-waits laws tills known (Handle number apdu) order were read = left-in-order known (row_of tills known (Handle number apdu)) (handle-leaves-waits laws known number apdu order) were
rows-keep-waits laws tills known (Serve number till header request) order were read = left-in-order known (row_of tills known (Serve number till header request)) (serve-leaves-waits laws known order number till header request read) were
rows-keep-waits laws tills known (Queue number till header request) order were read = queued-keeps known number till header request order were read
rows-keep-waits laws tills known (NextWaiting number) order were read = next-keeps laws known number order were
rows-keep-waits laws tills known (Oversized number) order were read = left-in-order known (row_of tills known (Oversized number)) (outside-leaves known number) were
rows-keep-waits laws tills known (LinkLost number) order were read = left-in-order known (row_of tills known (LinkLost number)) (lost-leaves known number) were
rows-keep-waits laws tills known (Late number) order were read = left-in-order known (row_of tills known (Late number)) (late-leaves known number) were
rows-keep-waits laws tills known (Overdue key) order were read = overdue-keeps known key were
rows-keep-waits laws tills known (Due number) order were read = left-in-order known (row_of tills known (Due number)) (due-leaves known number) were
