-- What the steps of a request say that waits.
use Rattle.std.proofs.Common.{◌≡◌, inl, inr, Bool, true, false, ◌&&◌, not, List, [], ◌∷◌, refl}
use Rattle.std.specs.Prelude.{if◌then◌else◌, is_some, Option, Some, None}
use Rattle.std.proofs.lemmas.Bool.{and_parts}
use Rattle.gw_base.specs.declared.condition.Condition.TheVariants.{Busy}
use Rattle.sale_values.specs.declared.header.Header.{Header}
use Rattle.sale_values.specs.declared.names.Period.TheVariants.{SaleReconciliation, AcquirerSynchronisation, AcquirerReconciliation, PreviousReconciliation}
use Rattle.sale_values.specs.declared.request.SaleRequest.{SaleRequest}
use Rattle.sale_values.specs.declared.request.SaleRequest.TheVariants as requests
use Rattle.gw_ledger.specs.declared.entry.Found.{Found}
use Rattle.gw_owes.specs.Diagnosis.{NamedTerminal}
use Rattle.gw_owes.specs.KeptReplies.{found_for}
use Rattle.gw_owes.specs.RecordLaws.{poi_asked}
use Rattle.gw_owes.specs.Reversals.{names_irreversible, names_none}
use Rattle.gw_owes.specs.Row.{Known}
use Rattle.gw_owes.specs.Sessions.{is_logged_out}
use Rattle.gw_owes.specs.Steps.{Fails, RequestStep, StepResult, Waits, asks_other_currency, asks_settling, asks_transaction, first_result, is_ready, is_unavailable, is_unserved, is_used_up, is_waiting_result, lacks_room, result_at_queue, step_result, steps}
use Rattle.gw_owes.specs.WaitingLaws.{may_wait}
use Rattle.gw_owes.specs.Waits.{is_pending_key, is_queue_full}

-- no result of these steps is that the request waits
abbrev none_waits : List RequestStep → Bool
none_waits [] = true
none_waits (step ∷ rest) = not (is_waiting_result step.result) && none_waits rest

-- none of them applies
abbrev NoneApplies : List RequestStep → Type 0
NoneApplies [] = Unit {0}
NoneApplies (step ∷ rest) = (step.applies ≡ false) × NoneApplies rest

-- where a request waits no step applies, and what comes after them says so
none-applies : (otherwise : StepResult) (all : List RequestStep) → none_waits all ≡ true → is_waiting_result (first_result otherwise all) ≡ true → NoneApplies all × (is_waiting_result otherwise ≡ true)
none-applies otherwise [] none waits = (tt, waits)
none-applies otherwise (step ∷ rest) none waits =
    let parts = and_parts (not (is_waiting_result step.result)) (none_waits rest) none in
    by-test (none-applies otherwise rest parts.1) step.applies refl parts.0 waits
  where
    by-test : (is_waiting_result (first_result otherwise rest) ≡ true → NoneApplies rest × (is_waiting_result otherwise ≡ true)) → (b : Bool) → step.applies ≡ b → not (is_waiting_result step.result) ≡ true
        → is_waiting_result (if b then step.result else first_result otherwise rest) ≡ true → NoneApplies (step ∷ rest) × (is_waiting_result otherwise ≡ true)
    by-test later true applies other same = absurd (both (is_waiting_result step.result) same other)
      where
        both : (b : Bool) → b ≡ true → not b ≡ true → ⊥
        both true one other = let false_is : false ≡ true = other in absurd cc
        both false one other = let false_is : false ≡ true = one in absurd cc
    by-test later false fails other more = let left = later more in ((fails, left.0), left.1)

-- what the steps say of a request that waits: none applies, and its queue isn't full
pub record PassesToQueue (known : Known) (header : Header) (request : SaleRequest) (named : Option NamedTerminal) : Type 0 where
  pub unknown : found_for known.kept header ≡ None
  pub not_pending : is_pending_key known.core header named ≡ false
  pub logged_in : is_logged_out known.core header.sale header.poi ≡ false
  pub served : is_unserved request ≡ false
  pub currency : asks_other_currency request named ≡ false
  pub original : names_none known.kept header.poi request ≡ false
  pub reversible : names_irreversible known.kept header.poi request ≡ false
  pub number_left : (asks_transaction request && is_used_up known.kept header.poi named) ≡ false
  pub room : lacks_room known.setup.slots known.kept known.core ≡ false
  pub asks_terminal : asks_settling request ≡ false
  pub available : is_unavailable named ≡ false
  pub not_ready : is_ready named ≡ false
  pub queue : is_queue_full known named ≡ false

none-found : (found : Option Found) → is_some found ≡ false → found ≡ None
none-found None none = refl
none-found (Some found) none = absurd cc

queue-left : (full : Bool) → is_waiting_result (if full then Fails Busy else Waits) ≡ true → full ≡ false
queue-left true waits = absurd cc
queue-left false waits = refl

pub passes-to-queue : (known : Known) (header : Header) (request : SaleRequest) (named : Option NamedTerminal) → is_waiting_result (step_result known header request named) ≡ true → PassesToQueue known header request named
passes-to-queue known header request named waits =
    let all = none-applies (result_at_queue known named) (steps known header request (found_for known.kept header) named) refl waits in
    let from_other = all.0.1.1 in
    let from_named = from_other.1.1.1 in
    let from_currency = from_named.1.1.1 in
    let from_room = from_currency.1.1.1.1 in
    record {
      unknown = none-found (found_for known.kept header) from_other.0;
      not_pending = from_other.1.1.0;
      logged_in = from_named.1.0;
      served = from_named.1.1.0;
      currency = from_currency.0;
      original = from_currency.1.0;
      reversible = from_currency.1.1.0;
      number_left = from_currency.1.1.1.0;
      room = from_room.0;
      asks_terminal = from_room.1.0;
      available = from_room.1.1.0;
      not_ready = from_room.1.1.1.0;
      queue = queue-left (is_queue_full known named) all.1;
    }

-- such a request may wait
pub may-wait : (request : SaleRequest) → is_unserved request ≡ false → asks_settling request ≡ false → may_wait request
may-wait requests.Login served asks = absurd cc
may-wait requests.Logout served asks = absurd cc
may-wait (requests.Payment payment) served asks = (served, inl refl)
may-wait (requests.Reversal reversal) served asks = (served, inl refl)
may-wait (requests.Abort reference) served asks = absurd cc
may-wait (requests.Status reference) served asks = absurd cc
may-wait (requests.Reconciliation SaleReconciliation) served asks = absurd cc
may-wait (requests.Reconciliation AcquirerSynchronisation) served asks = absurd cc
may-wait (requests.Reconciliation AcquirerReconciliation) served asks = (served, inr refl)
may-wait (requests.Reconciliation PreviousReconciliation) served asks = absurd cc
may-wait (requests.Display outputs) served asks = absurd cc
may-wait (requests.Print qualifier) served asks = absurd cc
may-wait requests.Diagnosis served asks = absurd cc

-- and is about the terminal that its own POIID names
pub served-poi : (header : Header) (request : SaleRequest) → is_unserved request ≡ false → poi_asked header request ≡ header.poi
served-poi header requests.Login served = refl
served-poi header requests.Logout served = refl
served-poi header (requests.Payment payment) served = refl
served-poi header (requests.Reversal reversal) served = refl
served-poi header (requests.Abort reference) served = absurd cc
served-poi header (requests.Status reference) served = refl
served-poi header (requests.Reconciliation period) served = refl
served-poi header (requests.Display outputs) served = refl
served-poi header (requests.Print qualifier) served = refl
served-poi header requests.Diagnosis served = refl
