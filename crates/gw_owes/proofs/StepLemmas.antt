-- Lemmas of the steps: a key that is on record decides the reply, and a TransactionStatus repeats it.
use Rattle.std.proofs.Common.{◌≡◌, ℕ, Bool, true, false, List, [], Option, Some, None, refl, sym, ◌∙◌, ap}
use Rattle.std.specs.Prelude.{drop, if◌then◌else◌, is_some, ◌&&◌, ◌||◌, option_map, option_and_then}
use Rattle.gw_base.specs.declared.condition.Condition.TheVariants.{InProgress, NotAllowed}
use Rattle.jrn_record.specs.declared.records.Record.{Record}
use Rattle.sale_values.specs.declared.header.Header.{Header}
use Rattle.sale_values.specs.declared.request.SaleRequest.{SaleRequest}
use Rattle.sale_values.specs.declared.request.SaleRequest.TheVariants as requests
use Rattle.sale_values.specs.Key.{key_of}
use Rattle.sale_reply.specs.declared.reply.Told.{Told as ResultBody}
use Rattle.gw_ledger.specs.declared.entry.Found.{Found}
use Rattle.gw_ledger.specs.Fold.{found_of}
use Rattle.xlate.specs.Reply.{header_of, result_body_of}
use Rattle.gw_owes.specs.Content.{has_same_content}
use Rattle.gw_owes.specs.Core.{Wait}
use Rattle.gw_owes.specs.Days.{asks_day, is_day_key}
use Rattle.gw_owes.specs.Diagnosis.{NamedTerminal}
use Rattle.gw_owes.specs.Items.{RoundItem}
use Rattle.gw_owes.specs.KeptReplies.{found_for, is_finished, kept_reply, repeated_reply, status_reply_at}
use Rattle.gw_owes.specs.Reply.{ReplyValue, Finished, Repeated}
use Rattle.gw_owes.specs.Replies.{header_of_reply, failure_reply}
use Rattle.gw_owes.specs.Row.{Known}
use Rattle.gw_owes.specs.Steps.{StepResult, KeptReply, Fails, Begins, Waits, first_result, steps, step_result, reply_of_result, result_at_queue, service_reply, items_of_result}
use Rattle.gw_owes.specs.StepLaws.{EachServiceHasSteps, EachOnRecordIsReplied, RecordsAloneReply, OnRecordBeginsNothing, StatusRepeatsReply}
use Rattle.gw_owes.specs.Waits.{asks_pending, is_pending_again, is_pending_key, repeats_waiting, waiting_for}

-- ---- which requests have steps

pub each-service-has-steps : EachServiceHasSteps
each-service-has-steps known header requests.Login h = cc
each-service-has-steps known header requests.Logout h = cc
each-service-has-steps known header (requests.Payment ask) h = refl
each-service-has-steps known header (requests.Reversal ask) h = refl
each-service-has-steps known header (requests.Abort reference) h = cc
each-service-has-steps known header (requests.Status reference) h = cc
each-service-has-steps known header (requests.Reconciliation period) h = refl
each-service-has-steps known header (requests.Display outputs) h = cc
each-service-has-steps known header (requests.Print qualifier) h = cc
each-service-has-steps known header requests.Diagnosis h = cc

-- ---- a key that isn't on record

-- the result of the steps after those about the key
abbrev pub rest-of-steps : Known → Header → SaleRequest → Option NamedTerminal → StepResult
rest-of-steps known header request named = first_result (result_at_queue known named) (drop 5 (steps known header request None named))

-- the result, by whether the same is asked for again that waits or is served, and whether anything is under its key
abbrev pub result-apart : Bool → Bool → StepResult → StepResult
result-apart again pending rest = if again then Fails InProgress else (if pending then Fails NotAllowed else rest)

pub new-result-is : (known : Known) (header : Header) (request : SaleRequest) (named : Option NamedTerminal) → found_for known.kept header ≡ None
    → step_result known header request named ≡ result-apart (is_pending_again known header request named) (is_pending_key known.core header named) (rest-of-steps known header request named)
new-result-is known header request named none = ap (λ (found : Option Found). first_result (result_at_queue known named) (steps known header request found named)) none

-- a key that doesn't wait and isn't that of an end of day that is served asks for nothing again
pub not-pending-again : (known : Known) (header : Header) (request : SaleRequest) (named : Option NamedTerminal) → is_pending_key known.core header named ≡ false → is_pending_again known header request named ≡ false
not-pending-again known header request named none = by-parts (is_day_key header named) (waiting_for known.core header) none
  where
    by-parts : (day : Bool) (waiting : Option Wait) → (day || is_some waiting) ≡ false → ((day && asks_day request) || repeats_waiting known.kept header.poi request waiting) ≡ false
    by-parts true waiting e = absurd cc
    by-parts false None e = refl
    by-parts false (Some wait) e = absurd cc

-- what waits or is served is asked for again
pub pending-again-result : (known : Known) (header : Header) (request : SaleRequest) (named : Option NamedTerminal) → found_for known.kept header ≡ None → is_pending_again known header request named ≡ true
    → step_result known header request named ≡ Fails InProgress
pending-again-result known header request named none again =
    new-result-is known header request named none ∙ ap (λ (b : Bool). result-apart b (is_pending_key known.core header named) (rest-of-steps known header request named)) again

-- or anything else is asked for under its key
pub pending-otherwise-result : (known : Known) (header : Header) (request : SaleRequest) (named : Option NamedTerminal) → found_for known.kept header ≡ None → is_pending_key known.core header named ≡ true
    → is_pending_again known header request named ≡ false → step_result known header request named ≡ Fails NotAllowed
pending-otherwise-result known header request named none pending other =
    new-result-is known header request named none
    ∙ (ap (λ (b : Bool). result-apart b (is_pending_key known.core header named) (rest-of-steps known header request named)) other
    ∙ ap (λ (b : Bool). result-apart false b (rest-of-steps known header request named)) pending)

-- and else the other steps count
pub not-pending-result : (known : Known) (header : Header) (request : SaleRequest) (named : Option NamedTerminal) → found_for known.kept header ≡ None → is_pending_key known.core header named ≡ false
    → step_result known header request named ≡ rest-of-steps known header request named
not-pending-result known header request named none not_pending =
    new-result-is known header request named none
    ∙ (ap (λ (b : Bool). result-apart b (is_pending_key known.core header named) (rest-of-steps known header request named)) (not-pending-again known header request named not_pending)
    ∙ ap (λ (b : Bool). result-apart false b (rest-of-steps known header request named)) not_pending)

-- ---- a key on record

-- the reply that the first step that applies gives, by what the records have under the key
abbrev reply_of_found : Header → Option Found → StepResult → Option ReplyValue
reply_of_found header there KeptReply = option_and_then kept_reply there
reply_of_found header there (Fails condition) = Some (failure_reply header condition)
reply_of_found header there Begins = None
reply_of_found header there Waits = None

-- the reply of the steps, by what the records have under the key
abbrev reply_by : Known → Header → SaleRequest → Option NamedTerminal → Option Found → Option ReplyValue
reply_by known header request named there = reply_of_found header there (first_result (result_at_queue known named) (steps known header request there named))

-- the reply on record, by whether the content is the same and by the kept result body
abbrev reply_on_record : Header → Found → Bool → Option ResultBody → Option ReplyValue
reply_on_record header found true (Some body) = Some (Finished (header_of found) body)
reply_on_record header found true None = Some (failure_reply header InProgress)
reply_on_record header found false kept = Some (failure_reply header NotAllowed)

-- the reply by the first steps is the reply on record
by-record : (header : Header) (found : Found) (same : Bool) (kept : Option ResultBody)
    → result_body_of found ≡ kept
    → reply_of_found header (Some found) (if same && is_some kept then KeptReply else (if same then Fails InProgress else Fails NotAllowed)) ≡ reply_on_record header found same kept
by-record header found true (Some body) kept_is = ap (option_map (Finished (header_of found))) kept_is
by-record header found true None kept_is = refl
by-record header found false (Some body) kept_is = refl
by-record header found false None kept_is = refl

-- so the steps reply, whatever else is known and whichever terminal is named
on-record : (known : Known) (header : Header) (request : SaleRequest) (named : Option NamedTerminal) (found : Found) → found_for known.kept header ≡ Some found
    → service_reply known header request named ≡ reply_on_record header found (has_same_content known.kept request found) (result_body_of found)
on-record known header request named found is =
    ap (reply_by known header request named) is ∙ by-record header found (has_same_content known.kept request found) (result_body_of found) refl

pub each-on-record-is-replied : EachOnRecordIsReplied
each-on-record-is-replied known header request named found is = record {
  finished = λ same body kept_is. replied ∙ (ap (λ content. reply_on_record header found content (result_body_of found)) same ∙ ap (reply_on_record header found true) kept_is);
  in_progress = λ same kept_is. replied ∙ (ap (λ content. reply_on_record header found content (result_body_of found)) same ∙ ap (reply_on_record header found true) kept_is);
  other_content = λ other. replied ∙ ap (λ content. reply_on_record header found content (result_body_of found)) other;
}
  where
    replied : service_reply known header request named ≡ reply_on_record header found (has_same_content known.kept request found) (result_body_of found)
    replied = on-record known header request named found is

pub records-alone-reply : RecordsAloneReply
records-alone-reply one other header request here there found same is =
    let content : has_same_content one.kept request found ≡ has_same_content other.kept request found = ap (λ (kept : List Record). has_same_content kept request found) same in
    on-record one header request here found is
    ∙ (ap (λ (content : Bool). reply_on_record header found content (result_body_of found)) content
    ∙ sym (on-record other header request there found (sym (ap (λ (kept : List Record). found_for kept header) same) ∙ is)))

-- what the steps begin, by what the records have under the key
abbrev items_by : Known → ℕ → Header → SaleRequest → Option NamedTerminal → Option Found → List RoundItem
items_by known till header request named there = items_of_result till header request named (first_result (result_at_queue known named) (steps known header request there named))

-- the first three steps begin nothing
begins-nothing : (till : ℕ) (header : Header) (request : SaleRequest) (named : Option NamedTerminal) (same kept : Bool)
    → items_of_result till header request named (if same && kept then KeptReply else (if same then Fails InProgress else Fails NotAllowed)) ≡ []
begins-nothing till header request None same kept = refl
begins-nothing till header request (Some named) true true = refl
begins-nothing till header request (Some named) true false = refl
begins-nothing till header request (Some named) false true = refl
begins-nothing till header request (Some named) false false = refl

pub on-record-begins-nothing : OnRecordBeginsNothing
on-record-begins-nothing known till header request named found is =
    ap (items_by known till header request named) is ∙ begins-nothing till header request named (has_same_content known.kept request found) (is_finished found)

-- ---- a TransactionStatus of the key

-- what is found has this reply, so that a TransactionStatus repeats it
repeats-found : (asking : Header) (found : Found) (kept : Option ResultBody) (repeated : Header) (body : ResultBody)
    → option_map (Finished (header_of found)) kept ≡ Some (Finished repeated body) → repeated_reply asking found kept ≡ Repeated (header_of_reply asking) repeated body
repeats-found asking found None repeated body is = cc
repeats-found asking found (Some other) repeated body is = cc

-- so it is of what a key has, whether it waits or an end of day of that key is served or not
repeats : (asking : Header) (there : Option Found) (served : Bool) (repeated : Header) (body : ResultBody)
    → option_and_then kept_reply there ≡ Some (Finished repeated body) → status_reply_at asking there served ≡ Repeated (header_of_reply asking) repeated body
repeats asking None served repeated body is = absurd cc
repeats asking (Some found) served repeated body is = repeats-found asking found (result_body_of found) repeated body is

-- a result body comes from the records
from-records : (kept : List Record) (header : Header) (result : StepResult) (repeated : Header) (body : ResultBody)
    → reply_of_result kept header result ≡ Some (Finished repeated body) → option_and_then kept_reply (found_for kept header) ≡ Some (Finished repeated body)
from-records kept header KeptReply repeated body is = is
from-records kept header (Fails condition) repeated body is = cc
from-records kept header Begins repeated body is = cc
from-records kept header Waits repeated body is = cc

pub status-repeats-reply : StatusRepeatsReply
status-repeats-reply one other header asking request named reference repeated body same key_is is =
    let kept = from-records one.kept header (step_result one header request named) repeated body is in
    let there : found_for one.kept header ≡ found_of other.kept (key_of asking reference) =
    ap (λ (kept : List Record). found_for kept header) same ∙ ap (option_and_then (found_of other.kept)) key_is in
    ap Some (repeats asking (found_of other.kept (key_of asking reference)) (asks_pending other.core asking (Some reference)) repeated body (sym (ap (option_and_then kept_reply) there) ∙ kept))
