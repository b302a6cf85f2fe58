-- What a till gets of a request that waits: of one that joins, of another on its key, of one that is aborted or overdue, and of the first of a queue.
use Rattle.std.proofs.Common.{◌≡◌, ◌∙◌, ℕ, Bool, true, false, ◌&&◌, ◌||◌, List, [], ◌∷◌, refl, sym, ap, subst}
use Rattle.std.specs.Prelude.{if◌then◌else◌, is_some, Option, Some, None, option_and_then}
use Rattle.gw_base.specs.declared.condition.Condition.TheVariants.{Aborted, InProgress, NotAllowed}
use Rattle.gw_base.specs.declared.key.Key.{Key}
use Rattle.sale_values.specs.declared.header.Header.{Header}
use Rattle.sale_values.specs.declared.request.SaleRequest.{SaleRequest}
use Rattle.sale_values.specs.declared.request.SaleRequest.TheVariants as requests
use Rattle.sale_values.specs.Key.{key_of}
use Rattle.gw_ledger.specs.declared.entry.Found.{Found}
use Rattle.gw_ledger.specs.Fold.{found_of}
use Rattle.gw_owes.specs.declared.terminal.Terminal.{Terminal}
use Rattle.gw_owes.specs.Core.{Wait}
use Rattle.gw_owes.specs.Days.{asks_day, is_day_key, is_day_served, is_key_of_day, named_serves_day}
use Rattle.gw_owes.specs.Diagnosis.{NamedTerminal, named_terminal}
use Rattle.gw_owes.specs.Items.{NextWaiting}
use Rattle.gw_owes.specs.KeptReplies.{found_for, own_key, status_reply_at}
use Rattle.gw_owes.specs.ReadAs.{Request}
use Rattle.gw_owes.specs.RecordLaws.{IsReadFromTill}
use Rattle.gw_owes.specs.Replies.{failure_reply}
use Rattle.gw_owes.specs.Requests.{request_reply}
use Rattle.gw_owes.specs.Row.{Known, Row, owing_where}
use Rattle.gw_owes.specs.Steps.{Fails, RequestStep, StepResult, first_result, is_ready_standing, is_unserved, is_waiting_result, reply_of_result, result_at_queue, service_reply, step_result, steps}
use Rattle.gw_owes.specs.Terminals.{of_terminal, terminal_at}
use Rattle.gw_owes.specs.WaitingLaws.{AreWaitsInOrder, EachFirstIsNext, EachTakesItsOwn, EachThatMayJoins, IsTakenOut, IsWaitInOrder, JoinsQueue, StatusOfWaitingIsInProgress, WaitingKeyIsReplied}
use Rattle.gw_owes.specs.WaitingRows.{first_waiting_row, is_overdue, joins_row, looks_at_first, next_waiting_row, of_waiting, overdue_row, queue_row, taken_out, wait_of, waits_under}
use Rattle.gw_owes.specs.Waits.{asks_the_same, first_waiting, queue_of, repeats_waiting, waiting_for, waiting_with}
use Rattle.gw_owes.proofs.KeepingLemmas.{own-key-poi}
use Rattle.gw_owes.proofs.LimitLemmas.{IsHeaderWithin, own-key-is, payment-within, reconciliation-within, reversal-within}
use Rattle.gw_owes.proofs.RecordLemmas.{same-key-is}
use Rattle.gw_owes.proofs.WaitingFrameLemmas.{named-there}
use Rattle.gw_owes.proofs.WaitingListLemmas.{waits-under}
use Rattle.gw_owes.proofs.WaitingStepLemmas.{passes-to-queue}

-- ---- it joins

-- a request that may wait and was read has a key
may-within : (header : Header) (request : SaleRequest) → is_unserved request ≡ false → IsReadFromTill (Request header request) → IsHeaderWithin header
may-within header requests.Login served read = absurd cc
may-within header requests.Logout served read = absurd cc
may-within header (requests.Payment payment) served read = (payment-within header payment read).heading
may-within header (requests.Reversal reversal) served read = reversal-within header reversal read
may-within header (requests.Abort reference) served read = absurd cc
may-within header (requests.Status reference) served read = absurd cc
may-within header (requests.Reconciliation period) served read = reconciliation-within header period read
may-within header (requests.Display outputs) served read = absurd cc
may-within header (requests.Print qualifier) served read = absurd cc
may-within header requests.Diagnosis served read = absurd cc

-- its row at the terminal that is there
may-queue : (known : Known) (number till : ℕ) (header : Header) (request : SaleRequest) (terminal : Terminal) → is_unserved request ≡ false → terminal_at known number ≡ Some terminal
    → queue_row known number till header request ≡ joins_row known number till header request terminal
may-queue known number till header requests.Login terminal served found = absurd cc
may-queue known number till header requests.Logout terminal served found = absurd cc
may-queue known number till header (requests.Payment payment) terminal served found = ap (of_terminal known (joins_row known number till header (requests.Payment payment))) found
may-queue known number till header (requests.Reversal reversal) terminal served found = ap (of_terminal known (joins_row known number till header (requests.Reversal reversal))) found
may-queue known number till header (requests.Abort reference) terminal served found = absurd cc
may-queue known number till header (requests.Status reference) terminal served found = absurd cc
may-queue known number till header (requests.Reconciliation period) terminal served found = ap (of_terminal known (joins_row known number till header (requests.Reconciliation period))) found
may-queue known number till header (requests.Display outputs) terminal served found = absurd cc
may-queue known number till header (requests.Print qualifier) terminal served found = absurd cc
may-queue known number till header requests.Diagnosis terminal served found = absurd cc

pub each-may-join : EachThatMayJoins
each-may-join tills known till header request named read is waits =
    subst (JoinsQueue known till header request named.number) (sym row_is) (record { wait = wait_of known named.number till header request key; key = key_is; wait_is = refl; core_is = refl; no_calls = refl; no_items = refl })
  where
    served : is_unserved request ≡ false
    served = (passes-to-queue known header request (Some named) (ap is_waiting_result waits)).served

    heading : IsHeaderWithin header
    heading = may-within header request served read.read

    key : Key
    key = record { sale = header.sale; poi = header.poi; service = heading.service }

    key_is : own_key header ≡ Some key
    key_is = own-key-is header heading

    row_is : queue_row known named.number till header request ≡ waits_under known named.number till header request (Some key)
    row_is =
        may-queue known named.number till header request named.terminal served (named-there known.core header.poi named is)
        ∙ ap (λ (result : StepResult). owing_where (is_waiting_result result) known (waits_under known named.number till header request (own_key header))) waits
        ∙ ap (waits_under known named.number till header request) key_is

-- ---- its key

module _ (known : Known) (header : Header) (wait : Wait) (were : AreWaitsInOrder known) where
  -- the key of what is found waits, and is in order
  under-key : (key : Key) → waiting_with key known.core.waits ≡ Some wait → (key ≡ wait.key) × IsWaitInOrder known wait
  under-key key found = let one = waits-under key known.core.waits wait found in (same-key-is key wait.key one.same, were.each one.place wait one.there)

  -- so is that of a request
  own-key-waits : waiting_for known.core header ≡ Some wait → (own_key header ≡ Some wait.key) × IsWaitInOrder known wait
  own-key-waits waits = by-key (own_key header) refl waits
    where
      by-key : (own : Option Key) → own_key header ≡ own → option_and_then (λ (key : Key). waiting_with key known.core.waits) own ≡ Some wait → (own_key header ≡ Some wait.key) × IsWaitInOrder known wait
      by-key None is found = absurd cc
      by-key (Some key) is found = let parts = under-key key found in (is ∙ ap Some parts.0, parts.1)

-- the steps after those about the key
abbrev after_keys : List RequestStep → List RequestStep
after_keys [] = []
after_keys (one ∷ []) = []
after_keys (one ∷ two ∷ []) = []
after_keys (one ∷ two ∷ three ∷ []) = []
after_keys (one ∷ two ∷ three ∷ four ∷ []) = []
after_keys (one ∷ two ∷ three ∷ four ∷ five ∷ rest) = rest

-- the result on the key of one that waits
waiting-result : (known : Known) (header : Header) (request : SaleRequest) (named : Option NamedTerminal) (wait : Wait) → found_for known.kept header ≡ None → is_day_key header named ≡ false → waiting_for known.core header ≡ Some wait
    → step_result known header request named ≡ (if asks_the_same known.kept header.poi request wait.request then Fails InProgress else Fails NotAllowed)
waiting-result known header request named wait unknown no_day waits =
    ap (λ (found : Option Found). first_result (result_at_queue known named) (steps known header request found named)) unknown
    ∙ (ap (λ (day : Bool). if (day && asks_day request) || repeats_waiting known.kept header.poi request (waiting_for known.core header) then Fails InProgress else (if day || is_some (waiting_for known.core header) then Fails NotAllowed else rest)) no_day
    ∙ ap (λ (found : Option Wait). if repeats_waiting known.kept header.poi request found then Fails InProgress else (if is_some found then Fails NotAllowed else rest)) waits)
  where
    rest : StepResult
    rest = first_result (result_at_queue known named) (after_keys (steps known header request None named))

-- one that may wait has steps
may-has-steps : (known : Known) (header : Header) (request : SaleRequest) → is_unserved request ≡ false → request_reply known header request ≡ service_reply known header request (named_terminal known.core header.poi)
may-has-steps known header requests.Login served = absurd cc
may-has-steps known header requests.Logout served = absurd cc
may-has-steps known header (requests.Payment payment) served = refl
may-has-steps known header (requests.Reversal reversal) served = refl
may-has-steps known header (requests.Abort reference) served = absurd cc
may-has-steps known header (requests.Status reference) served = absurd cc
may-has-steps known header (requests.Reconciliation period) served = refl
may-has-steps known header (requests.Display outputs) served = absurd cc
may-has-steps known header (requests.Print qualifier) served = absurd cc
may-has-steps known header requests.Diagnosis served = absurd cc

pub waiting-key-replied : WaitingKeyIsReplied
waiting-key-replied known header request wait were may waits =
    let parts = own-key-waits known header wait were waits in
    let key_is : own_key header ≡ Some wait.key = parts.0 in
    let was : IsWaitInOrder known wait = parts.1 in
    let poi_is : wait.key.poi ≡ header.poi = own-key-poi header wait.key key_is in
    let unknown : found_for known.kept header ≡ None = ap (option_and_then (found_of known.kept)) key_is ∙ was.unknown in
    let no_day : is_day_key header (named_terminal known.core header.poi) ≡ false =
    ap (λ (key : Option Key). is_key_of_day key (named_terminal known.core header.poi)) key_is ∙ ap (λ (poi : List ℕ). named_serves_day wait.key (named_terminal known.core poi)) (sym poi_is) ∙ was.no_day in
    may-has-steps known header request may.0
    ∙ (ap (reply_of_result known.kept header) (waiting-result known header request (named_terminal known.core header.poi) wait unknown no_day waits)
    ∙ by-same (asks_the_same known.kept header.poi request wait.request))
  where
    by-same : (same : Bool) → reply_of_result known.kept header (if same then Fails InProgress else Fails NotAllowed) ≡ Some (failure_reply header (if same then InProgress else NotAllowed))
    by-same true = refl
    by-same false = refl

pub status-in-progress : StatusOfWaitingIsInProgress
status-in-progress known header reference wait were waits =
    let parts = under-key known header wait were (key_of header reference) waits in
    let unknown : found_of known.kept (key_of header reference) ≡ None = ap (found_of known.kept) parts.0 ∙ parts.1.unknown in
    let no_day : is_day_served known.core (key_of header reference) ≡ false = ap (is_day_served known.core) parts.0 ∙ parts.1.no_day in
    ap (λ (found : Option Found). Some (status_reply_at header found (is_day_served known.core (key_of header reference) || is_some (waiting_with (key_of header reference) known.core.waits)))) unknown
    ∙ (ap (λ (day : Bool). Some (status_reply_at header None (day || is_some (waiting_with (key_of header reference) known.core.waits)))) no_day
    ∙ ap (λ (found : Option Wait). Some (status_reply_at header None (is_some found))) waits)

-- ---- it is taken out

pub each-takes-its-own : EachTakesItsOwn
each-takes-its-own tills known wait were waits = record {
  aborted = λ number till header reference same.
      subst (IsTakenOut known wait Aborted) (sym (ap (λ (key : Key). of_waiting known (taken_out known Aborted) (waiting_with key known.core.waits)) same ∙ ap (of_waiting known (taken_out known Aborted)) waits)) (record { core_is = refl; calls_are = refl });
  overdue = λ overdue. subst (IsTakenOut known wait Aborted) (sym (row_is ∙ ap (λ (b : Bool). owing_where b known (taken_out known Aborted wait)) overdue)) (record { core_is = refl; calls_are = refl });
  early = λ early. ap (λ (row : Row). row.core) (row_is ∙ ap (λ (b : Bool). owing_where b known (taken_out known Aborted wait)) early);
}
  where
    row_is : overdue_row known wait.key ≡ owing_where (is_overdue known.moment wait) known (taken_out known Aborted wait)
    row_is = ap (of_waiting known (λ one. owing_where (is_overdue known.moment one) known (taken_out known Aborted one))) waits

-- ---- it is the first

pub each-first-next : EachFirstIsNext
each-first-next tills known number terminal wait found ready first = record {
  refused = λ condition refused. subst (λ (row : Row). IsTakenOut known wait condition row × (row.items ≡ NextWaiting number ∷ [])) (sym (row_is ∙ ap (first_waiting_row known number terminal wait) refused)) (record { core_is = refl; calls_are = refl }, refl);
  begun = λ passes. row_is ∙ ap (first_waiting_row known number terminal wait) passes;
}
  where
    row_is : next_waiting_row known number ≡ looks_at_first known number terminal wait
    row_is =
        ap (of_terminal known (λ one. owing_where (is_ready_standing one.standing) known (of_waiting known (looks_at_first known number one) (first_waiting (queue_of number known.core.waits))))) found
        ∙ (ap (λ (b : Bool). owing_where b known (of_waiting known (looks_at_first known number terminal) (first_waiting (queue_of number known.core.waits)))) ready
        ∙ ap (of_waiting known (looks_at_first known number terminal)) first)
