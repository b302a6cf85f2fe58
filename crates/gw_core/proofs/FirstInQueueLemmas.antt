-- The first request that waits for a terminal: what it leaves and owes once that is ready, and that it may begin.
use Rattle.std.proofs.Common.{◌≡◌, ◌∙◌, ◌<◌, inl, inr, ℕ, zero, suc, Bool, true, false, List, [], ◌∷◌, ◌++◌, length, refl, sym, ap, subst, arith}
use Rattle.std.specs.Prelude.{◌&&◌, IfSome, slice_get, Option, Some, None, if◌then◌else◌, option_map}
use Rattle.gw_base.specs.declared.condition.Condition.{Condition}
use Rattle.gw_base.specs.declared.condition.Condition.TheVariants.{Aborted, NotAllowed, NotFound, UnavailableService}
use Rattle.jrn_record.specs.declared.records.Record.{Record}
use Rattle.jrn_record.specs.declared.records.Record.TheVariants.{Intent}
use Rattle.sale_values.specs.declared.header.Header.{Header}
use Rattle.sale_values.specs.declared.names.Period.TheVariants.{SaleReconciliation, AcquirerSynchronisation, AcquirerReconciliation, PreviousReconciliation}
use Rattle.sale_values.specs.declared.request.PaymentAsk.{PaymentAsk}
use Rattle.sale_values.specs.declared.request.ReversalAsk.{ReversalAsk}
use Rattle.sale_values.specs.declared.request.SaleRequest.{SaleRequest}
use Rattle.sale_values.specs.declared.request.SaleRequest.TheVariants as requests
use Rattle.gw_ledger.specs.declared.entry.Entry.{Entry as TheEntry}
use Rattle.gw_ledger.specs.Fold.{AreFolded}
use Rattle.gw_owes.specs.Calls.{records_kept}
use Rattle.gw_owes.specs.Core.{Core as CoreValue, Wait}
use Rattle.gw_owes.specs.Diagnosis.{NamedTerminal}
use Rattle.gw_owes.specs.Items.{RoundItem}
use Rattle.gw_owes.specs.Payments.{begins_asking, begins_in, reversal_asking}
use Rattle.gw_owes.specs.RecordLaws.{IsInOrder}
use Rattle.gw_owes.specs.Reversals.{is_irreversible, names_irreversible, names_none, original_of}
use Rattle.gw_owes.specs.Row.{Known, Row, owing_nothing, owing_where}
use Rattle.gw_owes.specs.Steps.{asks_transaction, is_ready_standing, is_used_up, refused_again}
use Rattle.gw_owes.specs.Terminals.{of_terminal, terminal_at}
use Rattle.gw_owes.specs.WaitingLaws.{AreWaitsInOrder, EachFirstIsNext, EachNextKeepsInOrder, may_wait}
use Rattle.gw_owes.specs.WaitingRows.{begins_from_queue, first_waiting_row, looks_at_first, next_waiting_row, of_waiting, refusal_calls, taken_out}
use Rattle.gw_owes.specs.Waits.{core_without_wait, first_waiting, queue_of}
use Rattle.gw_owes.specs.declared.terminal.Terminal.{Terminal}
use Rattle.gw_owes.proofs.NextOrderLemmas.{first-there}
use Rattle.gw_core.specs.Beginning.{MayBegin, MayBeNext, begun_row, first_left_row, leaves_queue}
use Rattle.gw_core.specs.IsRow.{AreCallsThen, IsRow, IsRowThen, alone}
use Rattle.gw_core.specs.Queues.{without_found}
use Rattle.gw_core.specs.ReplyOf.{ArePrepared}
use Rattle.gw_core.specs.declared.act.Act.{Act}
use Rattle.gw_core.specs.declared.act.Acts.{Acts}
use Rattle.gw_core.proofs.BeginLemmas.{may-be-kept, ready-last, reversible-approved, some-there}

-- ---- the row

-- nothing is owed where the terminal isn't ready
pub unready-owes-nothing : (known : Known) (number : ℕ) → IfSome (terminal_at known number) (λ (terminal : Terminal). is_ready_standing terminal.standing ≡ false) → next_waiting_row known number ≡ owing_nothing known
unready-owes-nothing known number unready = by-found (terminal_at known number) unready
  where
    by-found : (found : Option Terminal) → IfSome found (λ (terminal : Terminal). is_ready_standing terminal.standing ≡ false)
        → of_terminal known (λ terminal. owing_where (is_ready_standing terminal.standing) known (of_waiting known (looks_at_first known number terminal) (first_waiting (queue_of number known.core.waits)))) found ≡ owing_nothing known
    by-found None unready = refl
    by-found (Some terminal) unready = ap (λ (ready : Bool). owing_where ready known (of_waiting known (looks_at_first known number terminal) (first_waiting (queue_of number known.core.waits)))) unready

-- nor where none waits
pub none-owes-nothing : (known : Known) (number : ℕ) → first_waiting (queue_of number known.core.waits) ≡ None → next_waiting_row known number ≡ owing_nothing known
none-owes-nothing known number none = by-found (terminal_at known number)
  where
    by-ready : (terminal : Terminal) (ready : Bool) → owing_where ready known (of_waiting known (looks_at_first known number terminal) None) ≡ owing_nothing known
    by-ready terminal true = refl
    by-ready terminal false = refl

    by-found : (found : Option Terminal)
        → of_terminal known (λ terminal. owing_where (is_ready_standing terminal.standing) known (of_waiting known (looks_at_first known number terminal) (first_waiting (queue_of number known.core.waits)))) found ≡ owing_nothing known
    by-found None = refl
    by-found (Some terminal) =
        ap (λ (found : Option Wait). owing_where (is_ready_standing terminal.standing) known (of_waiting known (looks_at_first known number terminal) found)) none ∙ by-ready terminal (is_ready_standing terminal.standing)

-- else the first waits no longer, and leaves the queue
pub first-leaves : (known : Known) (number : ℕ) (terminal : Terminal) (wait : Wait) → terminal_at known number ≡ Some terminal → is_ready_standing terminal.standing ≡ true → first_waiting (queue_of number known.core.waits) ≡ Some wait
    → next_waiting_row known number ≡ leaves_queue (record known { core = core_without_wait known.core wait.key }) number wait terminal
first-leaves known number terminal wait found ready first =
    ap (of_terminal known (λ t. owing_where (is_ready_standing t.standing) known (of_waiting known (looks_at_first known number t) (first_waiting (queue_of number known.core.waits))))) found
    ∙ ap (λ (holds : Bool). owing_where holds known (of_waiting known (looks_at_first known number terminal) (first_waiting (queue_of number known.core.waits)))) ready
    ∙ ap (of_waiting known (looks_at_first known number terminal)) first
    ∙ by-refused (refused_again known wait.header wait.request (Some (record { number = number; terminal = terminal })))
  where
    by-refused : (refused : Option Condition) → first_waiting_row known number terminal wait refused ≡ first_left_row (record known { core = core_without_wait known.core wait.key }) number terminal wait refused
    by-refused None = refl
    by-refused (Some condition) = refl

-- what begins at the terminal is what begins from its queue, of a request that may wait
pub from-queue : (kept : List Record) (known : Known) (number till : ℕ) (header : Header) (request : SaleRequest) (terminal : Terminal) (core : CoreValue) (acts : Acts) → may_wait request
    → IsRow kept (begun_row known number till header terminal request) core acts → IsRow kept (begins_from_queue known number till header request terminal) core acts
from-queue kept known number till header requests.Login terminal core acts (served, may) row = absurd cc
from-queue kept known number till header requests.Logout terminal core acts (served, may) row = absurd cc
from-queue kept known number till header (requests.Payment payment) terminal core acts may row = row
from-queue kept known number till header (requests.Reversal reversal) terminal core acts may row = row
from-queue kept known number till header (requests.Abort reference) terminal core acts (served, may) row = absurd cc
from-queue kept known number till header (requests.Status reference) terminal core acts (served, may) row = absurd cc
from-queue kept known number till header (requests.Reconciliation SaleReconciliation) terminal core acts (served, inl may) row = absurd cc
from-queue kept known number till header (requests.Reconciliation SaleReconciliation) terminal core acts (served, inr may) row = absurd cc
from-queue kept known number till header (requests.Reconciliation AcquirerSynchronisation) terminal core acts (served, may) row = absurd cc
from-queue kept known number till header (requests.Reconciliation AcquirerReconciliation) terminal core acts may row = row
from-queue kept known number till header (requests.Reconciliation PreviousReconciliation) terminal core acts (served, may) row = absurd cc
from-queue kept known number till header (requests.Display outputs) terminal core acts (served, may) row = absurd cc
from-queue kept known number till header (requests.Print qualifier) terminal core acts (served, may) row = absurd cc
from-queue kept known number till header requests.Diagnosis terminal core acts (served, may) row = absurd cc

-- ---- it may begin

-- the steps that are asked again are passed
record PassesAgain (known : Known) (header : Header) (request : SaleRequest) : Type 0 where
  original : names_none known.kept header.poi request ≡ false
  reversible : names_irreversible known.kept header.poi request ≡ false

passes-again : (known : Known) (header : Header) (request : SaleRequest) (named : Option NamedTerminal) → refused_again known header request named ≡ None → PassesAgain known header request
passes-again known header request named passes =
    by-tests (names_none known.kept header.poi request) (names_irreversible known.kept header.poi request) (asks_transaction request && is_used_up known.kept header.poi named) refl refl passes
  where
    by-tests : (none irreversible used_up : Bool) → names_none known.kept header.poi request ≡ none → names_irreversible known.kept header.poi request ≡ irreversible
        → (if none then Some NotFound else (if irreversible then Some NotAllowed else (if used_up then Some UnavailableService else None))) ≡ None → PassesAgain known header request
    by-tests true irreversible used_up n i is = absurd cc
    by-tests false true used_up n i is = absurd cc
    by-tests false false true n i is = absurd cc
    by-tests false false false n i is = record { original = n; reversible = i }

module _ (known : Known) (number till : ℕ) (header : Header) (terminal : Terminal) (ready : is_ready_standing terminal.standing ≡ true) where
  -- the records with those that this row keeps are folded
  abbrev Folds : SaleRequest → Type 0
  Folds request = AreFolded (known.kept ++ records_kept (begins_from_queue known number till header request terminal).calls)

  payment-may : (payment : PaymentAsk) → Folds (requests.Payment payment) → MayBegin known.kept known.moment header (requests.Payment payment) terminal
  payment-may payment folds =
      let is_ready = ready-last terminal.standing ready in
      record {
        last = is_ready.last;
        ready = is_ready.ready;
        next = may-be-kept known.kept (Intent _) (subst (λ s. AreFolded (known.kept ++ records_kept (begins_in known number till header (requests.Payment payment) terminal s).calls)) is_ready.ready folds);
      }

  reversal-may : (reversal : ReversalAsk) → PassesAgain known header (requests.Reversal reversal) → Folds (requests.Reversal reversal) → MayBegin known.kept known.moment header (requests.Reversal reversal) terminal
  reversal-may reversal passes folds =
      let is_ready = ready-last terminal.standing ready in
      let original = some-there (original_of known.kept header.poi reversal) passes.original in
      record {
        last = is_ready.last;
        ready = is_ready.ready;
        original = original.entry;
        named = original.is;
        approved = reversible-approved known.kept reversal original.entry (sym (ap (is_irreversible known.kept reversal) original.is) ∙ passes.reversible);
        next = may-be-kept known.kept (Intent _)
            (subst (λ (found : Option TheEntry). AreFolded (known.kept ++ records_kept (begins_asking known number till terminal is_ready.last (option_map (reversal_asking known header is_ready.last) found)).calls)) original.is
            (subst (λ s. AreFolded (known.kept ++ records_kept (begins_in known number till header (requests.Reversal reversal) terminal s).calls)) is_ready.ready folds));
      }

  request-may : (request : SaleRequest) → may_wait request → PassesAgain known header request → Folds request → MayBegin known.kept known.moment header request terminal
  request-may requests.Login (served, may) passes folds = absurd cc
  request-may requests.Logout (served, may) passes folds = absurd cc
  request-may (requests.Payment payment) may passes folds = payment-may payment folds
  request-may (requests.Reversal reversal) may passes folds = reversal-may reversal passes folds
  request-may (requests.Abort reference) (served, may) passes folds = absurd cc
  request-may (requests.Status reference) (served, may) passes folds = absurd cc
  request-may (requests.Reconciliation SaleReconciliation) (served, inl may) passes folds = absurd cc
  request-may (requests.Reconciliation SaleReconciliation) (served, inr may) passes folds = absurd cc
  request-may (requests.Reconciliation AcquirerSynchronisation) (served, may) passes folds = absurd cc
  request-may (requests.Reconciliation AcquirerReconciliation) may passes folds = ready
  request-may (requests.Reconciliation PreviousReconciliation) (served, may) passes folds = absurd cc
  request-may (requests.Display outputs) (served, may) passes folds = absurd cc
  request-may (requests.Print qualifier) (served, may) passes folds = absurd cc
  request-may requests.Diagnosis (served, may) passes folds = absurd cc

-- the first may begin, where it isn't refused
pub may-be-next : EachNextKeepsInOrder → EachFirstIsNext → (known : Known) (number : ℕ) (terminal : Terminal) (wait : Wait) → IsInOrder known → AreWaitsInOrder known → terminal_at known number ≡ Some terminal
    → is_ready_standing terminal.standing ≡ true → first_waiting (queue_of number known.core.waits) ≡ Some wait → MayBeNext known.kept known.moment number wait terminal
may-be-next keeps next known number terminal wait order waits found ready first = record {
  begins = λ setup core passes.
      let row = (next [] known number terminal wait found ready first).begun passes in
      let folds = (keeps known number order waits).folded in
      request-may (record known { core = core_without_wait known.core wait.key }) number wait.till wait.header terminal ready wait.request may
      (passes-again (record known { core = core_without_wait known.core wait.key }) wait.header wait.request (Some (record { number = number; terminal = terminal })) passes)
      (subst (λ (r : Row). AreFolded (known.kept ++ records_kept r.calls)) row folds);
  may = may;
}
  where
    may : may_wait wait.request
    may = let there = first-there number known.core.waits wait first in (waits.each there.at wait there.there).may

-- it needs no results
pub none-prepared : (request : SaleRequest) → may_wait request → ArePrepared request None
none-prepared requests.Login may = tt
none-prepared requests.Logout may = tt
none-prepared (requests.Payment payment) may = tt
none-prepared (requests.Reversal reversal) may = tt
none-prepared (requests.Abort reference) may = tt
none-prepared (requests.Status reference) may = tt
none-prepared (requests.Reconciliation period) may = tt
none-prepared (requests.Display outputs) (served, may) = absurd cc
none-prepared (requests.Print qualifier) may = tt
none-prepared requests.Diagnosis may = tt

-- ---- what the code finds

-- a number below how many there are is that of a terminal
pub record HasTerminal (terminals : List Terminal) (number : ℕ) : Type 0 where
  pub terminal : Terminal
  pub found : slice_get terminals number ≡ Some terminal

pub terminal-there : (terminals : List Terminal) (number : ℕ) → number < length terminals → HasTerminal terminals number
terminal-there [] number inside = absurd (omega (arith, inside))
terminal-there (first ∷ rest) zero inside = record { terminal = first; found = refl }
terminal-there (first ∷ rest) (suc number) inside = let more = terminal-there rest number (omega (arith, inside)) in record { terminal = more.terminal; found = more.found }

-- nothing is owed, and what waits is what waited
pub nothing-left : (known : Known) (number : ℕ) (new : List Wait) → first_waiting (queue_of number known.core.waits) ≡ None → new ≡ known.core.waits
    → IsRowThen known.kept (next_waiting_row known number) (record known.core { waits = new }) (alone None) []
nothing-left known number new none same =
    subst (λ (waits : List Wait). IsRowThen known.kept (next_waiting_row known number) (record known.core { waits = waits }) (alone None) []) (sym same)
    (subst (λ (row : Row). IsRowThen known.kept row known.core (alone None) []) (sym (none-owes-nothing known number none)) (record { core_is = refl; calls_are = refl; items_are = refl }))

-- nothing is owed where the terminal isn't ready
pub unready-row : (known : Known) (number : ℕ) → IfSome (terminal_at known number) (λ (terminal : Terminal). is_ready_standing terminal.standing ≡ false) → IsRowThen known.kept (next_waiting_row known number) known.core (alone None) []
unready-row known number unready =
    subst (λ (row : Row). IsRowThen known.kept row known.core (alone None) []) (sym (unready-owes-nothing known number unready)) (record { core_is = refl; calls_are = refl; items_are = refl })

-- the first has left the queue
pub first-row : (known : Known) (number : ℕ) (terminal : Terminal) (wait : Wait) (new : List Wait) (core : CoreValue) (acts : Acts) (items : List RoundItem) → terminal_at known number ≡ Some terminal → is_ready_standing terminal.standing ≡ true
    → first_waiting (queue_of number known.core.waits) ≡ Some wait → new ≡ without_found (Some wait) known.core.waits
    → IsRowThen known.kept (leaves_queue (record known { core = record known.core { waits = new } }) number wait terminal) core acts items → IsRowThen known.kept (next_waiting_row known number) core acts items
first-row known number terminal wait new core acts items found ready first new_is row =
    subst (λ (r : Row). IsRowThen known.kept r core acts items) (sym (first-leaves known number terminal wait found ready first))
    (subst (λ (waits : List Wait). IsRowThen known.kept (leaves_queue (record known { core = record known.core { waits = waits } }) number wait terminal) core acts items) new_is row)

-- where none is taken out nothing is owed
pub none-taken-row : (known : Known) (found : Option Wait) (new : List Wait) → found ≡ None → new ≡ without_found found known.core.waits
    → IsRow known.kept (of_waiting known (taken_out known Aborted) found) (record known.core { waits = new }) (alone None)
none-taken-row known found new is new_is =
    subst (λ (f : Option Wait). IsRow known.kept (of_waiting known (taken_out known Aborted) f) (record known.core { waits = new }) (alone None)) (sym is)
    (record { core_is = ap (λ (w : List Wait). record known.core { waits = w }) (new_is ∙ ap (λ (f : Option Wait). without_found f known.core.waits) is); calls_are = refl; items_are = refl })

-- else its till gets the Failure
pub taken-row : (known : Known) (found : Option Wait) (wait : Wait) (new : List Wait) (sent : Act) → found ≡ Some wait → new ≡ without_found found known.core.waits → AreCallsThen [] sent (refusal_calls wait Aborted)
    → IsRow known.kept (of_waiting known (taken_out known Aborted) found) (record known.core { waits = new }) (alone (Some sent))
taken-row known found wait new sent is new_is calls =
    subst (λ (f : Option Wait). IsRow known.kept (of_waiting known (taken_out known Aborted) f) (record known.core { waits = new }) (alone (Some sent))) (sym is)
    (record { core_is = ap (λ (w : List Wait). record known.core { waits = w }) (new_is ∙ ap (λ (f : Option Wait). without_found f known.core.waits) is); calls_are = calls; items_are = refl })
