-- What is begun that has waited, what joins those that wait and what is taken out keep what is known in order, and what is begun takes no more memory than was reserved.
use Rattle.std.proofs.Common.{◌≡◌, ◌≢◌, ◌≤◌, ◌+◌, ◌∙◌, ℕ, zero, suc, Bool, true, false, not, eqb, List, [], ◌∷◌, length, refl, sym, ap, subst, inl, inr, arith}
use Rattle.std.specs.Prelude.{All, ◌&&◌, filter, slice_get, Option, Some, None, option_and_then, option_map, if◌then◌else◌}
use Rattle.std.proofs.lemmas.Bool.{eqb-true, ltb-false, not-false}
use Rattle.std.proofs.lemmas.List.{length-append}
use Rattle.std.proofs.lemmas.List.Elements.{All-cons, All-nil}
use Rattle.std.proofs.lemmas.Option.{same_Some}
use Rattle.gw_base.specs.declared.condition.Condition.{Condition}
use Rattle.gw_base.specs.declared.condition.Condition.TheVariants.{Aborted, NotAllowed, NotFound, UnavailableService}
use Rattle.sale_values.specs.declared.header.Header.{Header}
use Rattle.sale_values.specs.declared.names.Period.{Period}
use Rattle.sale_values.specs.declared.names.Period.TheVariants.{SaleReconciliation, AcquirerSynchronisation, AcquirerReconciliation, PreviousReconciliation}
use Rattle.sale_values.specs.declared.request.PaymentAsk.{PaymentAsk}
use Rattle.sale_values.specs.declared.request.Reference.{Reference}
use Rattle.sale_values.specs.declared.request.ReversalAsk.{ReversalAsk}
use Rattle.sale_values.specs.declared.request.SaleRequest.{SaleRequest}
use Rattle.sale_values.specs.declared.request.SaleRequest.TheVariants as requests
use Rattle.gw_ledger.specs.declared.entry.Entry.{Entry as TheEntry}
use Rattle.gw_ledger.specs.Fold.{found_of}
use Rattle.gw_ledger.specs.Keys.{same_key}
use Rattle.gw_ledger.specs.Sums.{open_count_of}
use Rattle.gw_owes.specs.declared.terminal.Standing.TheVariants.{Ready}
use Rattle.gw_owes.specs.declared.terminal.Terminal.{Terminal}
use Rattle.gw_owes.specs.Calls.{records_kept}
use Rattle.gw_owes.specs.Core.{Wait}
use Rattle.gw_owes.specs.Diagnosis.{NamedTerminal}
use Rattle.gw_owes.specs.Items.{NextWaiting}
use Rattle.gw_owes.specs.KeptReplies.{found_for}
use Rattle.gw_owes.specs.Payments.{Asking, asked_for, asking_of, beginning_row, payment_asking, reversal_asking}
use Rattle.gw_owes.specs.RecordLaws.{EachNextTakesItsMemory, EachOverdueKeepsInOrder, EachQueueKeepsInOrder, HasRoom, IsInOrder, IsReadItem, IsReadQueued, IsReadRequest, KeepsInOrder, memory_after}
use Rattle.gw_owes.specs.Reconciliations.{asked_for_day}
use Rattle.gw_owes.specs.Reversals.{is_irreversible, may_be_reversed, names_irreversible, names_none, original_of}
use Rattle.gw_owes.specs.Row.{Known, Row}
use Rattle.gw_owes.specs.Steps.{asks_transaction, is_used_up, refused_again}
use Rattle.gw_owes.specs.TerminalLaws.{owes_cut}
use Rattle.gw_owes.specs.Terminals.{terminal_at}
use Rattle.gw_owes.specs.WaitingLaws.{AreWaitsInOrder, EachNextKeepsInOrder, IsWaitInOrder, may_wait}
use Rattle.gw_owes.specs.WaitingRows.{next_waiting_row, queue_row, taken_out, wait_of}
use Rattle.gw_owes.specs.Waits.{core_with_wait, core_without_wait, first_waiting, memory_reserved, queue_of, slots_reserved}
use Rattle.gw_owes.proofs.BeginLemmas.{HasRoomToBegin, IsAskedAnew, asked-names, begins-keeps, day-anew-keeps, payment-anew, ready-records, reversal-anew}
use Rattle.gw_owes.proofs.DayLemmas.{days-no-more, days-one-more}
use Rattle.gw_owes.proofs.KeepingLemmas.{RowKeeps, none-kept}
use Rattle.gw_owes.proofs.LimitLemmas.{payment-within, reversal-within}
use Rattle.gw_owes.proofs.NextLemmas.{BeginsDayWaiting, BeginsWaiting, each-next, each-overdue, each-queued, known_without}
use Rattle.gw_owes.proofs.PaymentLemmas.{day_row, waits-steps}
use Rattle.gw_owes.proofs.RecordLemmas.{LedgerLaws}
use Rattle.gw_owes.proofs.WaitingListLemmas.{same-key-itself}

-- ---- how many wait

-- no more pass than there are
pub few-pass : {A : Type 0} (p : A → Bool) (all : List A) → length (filter p all) ≤ length all
few-pass p [] = omega arith
few-pass {A} p (first ∷ rest) = by-test (p first) (few-pass p rest)
  where
    by-test : (b : Bool) → length (filter p rest) ≤ length rest → length (if b then first ∷ filter p rest else filter p rest) ≤ length (first ∷ rest)
    by-test true more = omega (arith, more)
    by-test false more = omega (arith, more)

-- and fewer where one doesn't
pub fewer-pass : {A : Type 0} (p : A → Bool) (all : List A) (at : ℕ) (one : A) → slice_get all at ≡ Some one → p one ≡ false → length (filter p all) + 1 ≤ length all
fewer-pass p [] at one there fails = absurd cc
fewer-pass p (first ∷ rest) zero one there fails = by-test (p first) (ap p (same_Some first one there) ∙ fails)
  where
    by-test : (b : Bool) → b ≡ false → length (if b then first ∷ filter p rest else filter p rest) + 1 ≤ length (first ∷ rest)
    by-test true is = absurd cc
    by-test false is = let most = few-pass p rest in omega (arith, most)
fewer-pass p (first ∷ rest) (suc at) one there fails = by-test (p first) (fewer-pass p rest at one there fails)
  where
    by-test : (b : Bool) → length (filter p rest) + 1 ≤ length rest → length (if b then first ∷ filter p rest else filter p rest) + 1 ≤ length (first ∷ rest)
    by-test true more = omega (arith, more)
    by-test false more = omega (arith, more)

-- one that waits for the terminal of this number
pub record IsThere (waits : List Wait) (number : ℕ) (wait : Wait) : Type 0 where
  pub at : ℕ
  pub there : slice_get waits at ≡ Some wait
  pub number_is : wait.pt ≡ number

-- the first of a queue is one
pub first-there : (number : ℕ) (waits : List Wait) (wait : Wait) → first_waiting (queue_of number waits) ≡ Some wait → IsThere waits number wait
first-there number [] wait is = absurd cc
first-there number (one ∷ rest) wait is = by-test (eqb one.pt number) refl is (λ later. first-there number rest wait later)
  where
    by-test : (b : Bool) → eqb one.pt number ≡ b → first_waiting (if b then one ∷ queue_of number rest else queue_of number rest) ≡ Some wait
        → (first_waiting (queue_of number rest) ≡ Some wait → IsThere rest number wait) → IsThere (one ∷ rest) number wait
    by-test true same here more = record { at = 0; there = here; number_is = ap (λ (w : Wait). w.pt) (sym (same_Some one wait here)) ∙ eqb-true one.pt number same }
    by-test false apart later more = let found = more later in record { at = suc found.at; there = found.there; number_is = found.number_is }

-- one fewer waits once this doesn't
pub one-fewer : (waits : List Wait) (at : ℕ) (wait : Wait) → slice_get waits at ≡ Some wait → length (filter (λ (other : Wait). not (same_key wait.key other.key)) waits) + 1 ≤ length waits
one-fewer waits at wait there = fewer-pass (λ (other : Wait). not (same_key wait.key other.key)) waits at wait there (ap not (same-key-itself wait.key))

-- ---- what is known without it

-- what is known stays in order
pub without-in-order : (known : Known) (wait : Wait) → IsInOrder known → IsInOrder (known_without known wait)
without-in-order known wait order =
    let most = few-pass (λ (other : Wait). not (same_key wait.key other.key)) known.core.waits in
    let room = order.room in
    record { folded = order.folded; room = omega (arith, room, most); of_setup = record { within = order.of_setup.within; settings = order.of_setup.settings }; moment = order.moment; numbered = order.numbered; terminals = order.terminals }

-- and so it does where it is taken out, whatever it gets
taken-keeps : (known : Known) (wait : Wait) (condition : Condition) → IsInOrder known → KeepsInOrder known (records_kept (taken_out known condition wait).calls) (taken_out known condition wait).core
taken-keeps known wait condition order =
    let without = without-in-order known wait order in
    none-kept known order wait.pt (core_without_wait known.core wait.key) without.room order.numbered order.terminals

-- nothing is owed
nothing-in-order : (known : Known) → IsInOrder known → KeepsInOrder known [] known.core
nothing-in-order known order = none-kept known order 0 known.core order.room order.numbered order.terminals

-- ---- what joins

pub queues-in-order : EachQueueKeepsInOrder
queues-in-order known number till header request order =
    each-queued (λ (row : Row). KeepsInOrder known (records_kept row.calls) row.core) known number till header request (record {
      none = nothing-in-order known order;
      joins = λ terminal key at.
          let passes = waits-steps known header request (Some (record { number = number; terminal = terminal })) at.waits_is in
          let room = ltb-false known.setup.slots (length known.kept + (open_count_of known.kept + (slots_reserved known.core + 2))) passes.room in
          none-kept known order number (core_with_wait known.core (wait_of known number till header request key)) (joined-room known (wait_of known number till header request key) room) order.numbered order.terminals;
      taken = λ wait at. taken-keeps known wait Aborted order;
    })
  where
    joined-room : (of : Known) (wait : Wait) → length of.kept + (open_count_of of.kept + (slots_reserved of.core + 2)) ≤ of.setup.slots → HasRoom of.setup.slots of.kept (core_with_wait of.core wait)
    joined-room of wait room = let more = length-append of.core.waits (wait ∷ []) in omega (arith, room, more)

pub overdue-in-order : EachOverdueKeepsInOrder
overdue-in-order known key order =
    each-overdue (λ (row : Row). KeepsInOrder known (records_kept row.calls) row.core) known key (record {
      none = nothing-in-order known order;
      taken = λ wait found overdue. taken-keeps known wait Aborted order;
    })

-- ---- what is begun

-- no step that is asked again refuses it
record PassesAgain (known : Known) (header : Header) (request : SaleRequest) (named : Option NamedTerminal) : Type 0 where
  original : names_none known.kept header.poi request ≡ false
  reversible : names_irreversible known.kept header.poi request ≡ false

passes-again : (known : Known) (header : Header) (request : SaleRequest) (named : Option NamedTerminal) → refused_again known header request named ≡ None → PassesAgain known header request named
passes-again known header request named passes =
    by-tests (names_none known.kept header.poi request) (names_irreversible known.kept header.poi request) (asks_transaction request && is_used_up known.kept header.poi named) refl refl passes
  where
    by-tests : (none irreversible used_up : Bool) → names_none known.kept header.poi request ≡ none → names_irreversible known.kept header.poi request ≡ irreversible
        → (if none then Some NotFound else (if irreversible then Some NotAllowed else (if used_up then Some UnavailableService else None))) ≡ None → PassesAgain known header request named
    by-tests true irreversible used_up n i is = absurd cc
    by-tests false true used_up n i is = absurd cc
    by-tests false false used_up n i is = record { original = n; reversible = i }

-- a request that isn't an Abort was read as what a terminal serves
served-read : (known : Known) (number : ℕ) (header : Header) (request : SaleRequest) → ((reference : Reference) → request ≢ requests.Abort reference) → IsReadQueued known.setup number header request → IsReadRequest known.setup number header request
served-read known number header request other read = record { read = read.read; names = read.names other }

module _ (laws : LedgerLaws) (known : Known) (order : IsInOrder known) (number till : ℕ) (header : Header) (terminal : Terminal) (last : ℕ) (found : terminal_at known number ≡ Some terminal) (standing : terminal.standing ≡ Ready last)
    (unknown : found_for known.kept header ≡ None) (room : HasRoomToBegin known) where
  payment-next : (payment : PaymentAsk) (asking : Asking) → IsReadRequest known.setup number header (requests.Payment payment) → Some (payment_asking known header payment terminal last) ≡ Some asking → IsAskedAnew known header terminal last asking
  payment-next payment asking read asks =
      let names = asked-names laws known order number till header (requests.Payment payment) terminal read found in
      let within = payment-within header payment read.read in
      subst (IsAskedAnew known header terminal last) (same_Some (payment_asking known header payment terminal last) asking asks)
      (payment-anew laws known order header terminal last within.heading names unknown room (ready-records laws known order number till header terminal last found standing names) payment within)

  reversal-next : (reversal : ReversalAsk) (asking : Asking) → IsReadRequest known.setup number header (requests.Reversal reversal) → option_map (reversal_asking known header last) (original_of known.kept header.poi reversal) ≡ Some asking
      → is_irreversible known.kept reversal (original_of known.kept header.poi reversal) ≡ false → IsAskedAnew known header terminal last asking
  reversal-next reversal asking read asks may = by-original (original_of known.kept header.poi reversal) refl asks may
    where
      names : terminal.pt.poi ≡ header.poi
      names = asked-names laws known order number till header (requests.Reversal reversal) terminal read found

      by-original : (original : Option TheEntry) → original_of known.kept header.poi reversal ≡ original → option_map (reversal_asking known header last) original ≡ Some asking → is_irreversible known.kept reversal original ≡ false
          → IsAskedAnew known header terminal last asking
      by-original None is asks may = absurd cc
      by-original (Some original) is asks may =
          subst (IsAskedAnew known header terminal last) (same_Some (reversal_asking known header last original) asking asks)
          (reversal-anew laws known order header terminal last (reversal-within header reversal read.read) names unknown room (ready-records laws known order number till header terminal last found standing names) reversal original is
          (not-false (may_be_reversed known.kept reversal original) may))

  -- what it asks for may come next
  next-anew : (request : SaleRequest) (asking : Asking) → IsReadQueued known.setup number header request → asking_of known header request terminal last ≡ Some asking → names_irreversible known.kept header.poi request ≡ false
      → IsAskedAnew known header terminal last asking
  next-anew requests.Login asking read asks may = absurd cc
  next-anew requests.Logout asking read asks may = absurd cc
  next-anew (requests.Payment payment) asking read asks may = payment-next payment asking (served-read known number header (requests.Payment payment) (λ reference e. absurd cc) read) asks
  next-anew (requests.Reversal reversal) asking read asks may = reversal-next reversal asking (served-read known number header (requests.Reversal reversal) (λ reference e. absurd cc) read) asks may
  next-anew (requests.Abort reference) asking read asks may = absurd cc
  next-anew (requests.Status reference) asking read asks may = absurd cc
  next-anew (requests.Reconciliation period) asking read asks may = absurd cc
  next-anew (requests.Display outputs) asking read asks may = absurd cc
  next-anew (requests.Print qualifier) asking read asks may = absurd cc
  next-anew requests.Diagnosis asking read asks may = absurd cc

  -- an end of day is begun, which is the only reconciliation that may wait
  day-next : (period : Period) → IsReadQueued known.setup number header (requests.Reconciliation period) → may_wait (requests.Reconciliation period) → RowKeeps known number (day_row known number till header terminal last)
  day-next SaleReconciliation read (served, inl transaction) = absurd cc
  day-next SaleReconciliation read (served, inr day) = absurd cc
  day-next AcquirerSynchronisation read (served, may) = absurd cc
  day-next AcquirerReconciliation read may =
      day-anew-keeps laws known order number till header terminal last (served-read known number header (requests.Reconciliation AcquirerReconciliation) (λ reference e. absurd cc) read) found standing unknown room
  day-next PreviousReconciliation read (served, may) = absurd cc

-- what is known of the first that waits
module _ (laws : LedgerLaws) (known : Known) (order : IsInOrder known) (waits : AreWaitsInOrder known) (number : ℕ) where
  -- it is in order
  pub in-queue : (wait : Wait) (there : IsThere known.core.waits number wait) → IsWaitInOrder known wait
  in-queue wait there = waits.each there.at wait there.there

  -- its key is unknown
  pub queued-unknown : (wait : Wait) → IsWaitInOrder known wait → found_for known.kept wait.header ≡ None
  queued-unknown wait is = ap (option_and_then (found_of known.kept)) is.key ∙ is.unknown

  -- its slots are free
  queued-room : (wait : Wait) (there : IsThere known.core.waits number wait) → HasRoomToBegin (known_without known wait)
  queued-room wait there =
      let fewer = one-fewer known.core.waits there.at wait there.there in
      let room = order.room in
      omega (arith, room, fewer)

  -- it was read, and names its terminal
  pub queued-read : (wait : Wait) (there : IsThere known.core.waits number wait) → IsReadQueued known.setup number wait.header wait.request
  queued-read wait there = subst (λ (n : ℕ). IsReadQueued known.setup n wait.header wait.request) there.number_is (in-queue wait there).read

  -- what it asks for may come next
  pub begun-anew : (terminal : Terminal) (last : ℕ) (wait : Wait) (asking : Asking) → BeginsWaiting known number terminal last wait asking → IsAskedAnew (known_without known wait) wait.header terminal last asking
  begun-anew terminal last wait asking at =
      let there = first-there number known.core.waits wait at.first.first_is in
      next-anew laws (known_without known wait) (without-in-order known wait order) number wait.till wait.header terminal last at.first.found at.first.standing_is (queued-unknown wait (in-queue wait there)) (queued-room wait there) wait.request asking
      (queued-read wait there) at.asking_is (passes-again known wait.header wait.request (Some (record { number = number; terminal = terminal })) at.passes).reversible

  -- its Intent is kept
  begun-keeps : (terminal : Terminal) (last : ℕ) (wait : Wait) (asking : Asking) → BeginsWaiting known number terminal last wait asking
      → RowKeeps (known_without known wait) number (beginning_row (known_without known wait) number wait.till terminal last asking.intent asking.original)
  begun-keeps terminal last wait asking at =
      begins-keeps laws (known_without known wait) (without-in-order known wait order) number wait.till wait.header terminal last asking at.first.found at.first.standing_is (begun-anew terminal last wait asking at)

  -- its end of day is begun
  begun-day-keeps : (terminal : Terminal) (last : ℕ) (wait : Wait) → BeginsDayWaiting known number terminal last wait
      → RowKeeps (known_without known wait) number (day_row (known_without known wait) number wait.till wait.header terminal last)
  begun-day-keeps terminal last wait at =
      let there = first-there number known.core.waits wait at.first.first_is in
      day-next laws (known_without known wait) (without-in-order known wait order) number wait.till wait.header terminal last at.first.found at.first.standing_is (queued-unknown wait (in-queue wait there)) (queued-room wait there) at.period
      (subst (IsReadQueued known.setup number wait.header) at.request_is (queued-read wait there)) (subst may_wait at.request_is (in-queue wait there).may)

pub next-in-order : LedgerLaws → EachNextKeepsInOrder
next-in-order laws known number order waits =
    each-next (λ (row : Row). KeepsInOrder known (records_kept row.calls) row.core) known number (record {
      none = nothing-in-order known order;
      refused = λ terminal last wait condition first is. taken-keeps known wait condition order;
      begins = λ terminal last wait asking at.
          let has : KeepsInOrder (known_without known wait) _ _ = (begun-keeps laws known order waits number terminal last wait asking at).uncut refl in
          record { few = has.few; folded = has.folded; room = has.room; numbered = has.numbered; terminals = has.terminals };
      day = λ terminal last wait at.
          let has : KeepsInOrder (known_without known wait) _ _ = (begun-day-keeps laws known order waits number terminal last wait at).uncut refl in
          record { few = has.few; folded = has.folded; room = has.room; numbered = has.numbered; terminals = has.terminals };
      left = λ terminal last wait first. taken-keeps known wait Aborted order;
    })

-- ---- what else holds of what is begun

-- what comes next was read
pub next-read : (known : Known) (number : ℕ) → All (IsReadItem known.setup) (next_waiting_row known number).items
next-read known number =
    each-next (λ (row : Row). All (IsReadItem known.setup) row.items) known number (record {
      none = All-nil (IsReadItem known.setup);
      refused = λ terminal last wait condition first is. All-cons (IsReadItem known.setup) (NextWaiting number) [] tt (All-nil (IsReadItem known.setup));
      begins = λ terminal last wait asking at. All-nil (IsReadItem known.setup);
      day = λ terminal last wait at. All-nil (IsReadItem known.setup);
      left = λ terminal last wait first. All-nil (IsReadItem known.setup);
    })

-- nothing is cut
pub next-never-cuts : (known : Known) (number : ℕ) → owes_cut (next_waiting_row known number).calls ≡ false
next-never-cuts known number =
    each-next (λ (row : Row). owes_cut row.calls ≡ false) known number (record {
      none = refl;
      refused = λ terminal last wait condition first is. refl;
      begins = λ terminal last wait asking at. refl;
      day = λ terminal last wait at. refl;
      left = λ terminal last wait first. refl;
    })

-- its memory was reserved
pub next-takes-its-own : EachNextTakesItsMemory
next-takes-its-own known number =
    each-next (λ (row : Row). memory_after row ≤ memory_reserved known.core) known number (record {
      none = omega arith;
      refused = λ terminal last wait condition first is. let most = few-pass (λ (other : Wait). not (same_key wait.key other.key)) known.core.waits in omega (arith, most);
      begins = λ terminal last wait asking at.
          let there = first-there number known.core.waits wait at.first.first_is in
          let fewer = one-fewer known.core.waits there.at wait there.there in
          let days = days-no-more known.core.terminals number terminal (asked_for (known_without known wait) wait.till terminal last asking.intent asking.original) at.first.found (omega arith) in
          omega (arith, fewer, days);
      day = λ terminal last wait at.
          let there = first-there number known.core.waits wait at.first.first_is in
          let fewer = one-fewer known.core.waits there.at wait there.there in
          let days = days-one-more known.core.terminals number terminal (asked_for_day (known_without known wait) wait.till terminal last wait.header) at.first.found (omega arith) in
          omega (arith, fewer, days);
      left = λ terminal last wait first. let most = few-pass (λ (other : Wait). not (same_key wait.key other.key)) known.core.waits in omega (arith, most);
    })

-- what a till's request changes of those that wait takes one more at most
pub queues-take-one : (known : Known) (number till : ℕ) (header : Header) (request : SaleRequest) → memory_after (queue_row known number till header request) ≤ memory_reserved known.core + 1
queues-take-one known number till header request =
    each-queued (λ (row : Row). memory_after row ≤ memory_reserved known.core + 1) known number till header request (record {
      none = omega arith;
      joins = λ terminal key at. let more = length-append known.core.waits (wait_of known number till header request key ∷ []) in omega (arith, more);
      taken = λ wait at. let most = few-pass (λ (other : Wait). not (same_key wait.key other.key)) known.core.waits in omega (arith, most);
    })
