-- Laws of the steps: a request on a key that is on record gets its reply by the records alone, the same each time, and a TransactionStatus of the key repeats it.
use Rattle.std.specs.Prelude.{◌≡◌, ℕ, Bool, true, false, [], Option, Some, None}
use Rattle.gw_base.specs.declared.condition.Condition.TheVariants.{InProgress, NotAllowed}
use Rattle.sale_values.specs.declared.header.Header.{Header}
use Rattle.sale_values.specs.declared.request.Reference.{Reference}
use Rattle.sale_values.specs.declared.request.SaleRequest.{SaleRequest}
use Rattle.sale_values.specs.declared.request.SaleRequest.TheVariants as requests
use Rattle.sale_values.specs.Key.{key_of}
use Rattle.sale_reply.specs.declared.reply.Told.{Told as ResultBody}
use Rattle.gw_ledger.specs.declared.entry.Found.{Found}
use Rattle.xlate.specs.Reply.{header_of, result_body_of}
use Rattle.gw_owes.specs.Content.{has_same_content}
use Rattle.gw_owes.specs.Diagnosis.{NamedTerminal, named_terminal}
use Rattle.gw_owes.specs.KeptReplies.{own_key, found_for}
use Rattle.gw_owes.specs.Reply.{Finished, Repeated}
use Rattle.gw_owes.specs.Replies.{header_of_reply, failure_reply}
use Rattle.gw_owes.specs.Row.{Known}
use Rattle.gw_owes.specs.Steps.{service_reply, service_items}
use Rattle.gw_owes.specs.Requests.{request_reply}

-- ---- which requests have steps

-- a Payment, a Reversal or a Reconciliation
abbrev pub has_steps : SaleRequest → Bool
has_steps requests.Login = false
has_steps requests.Logout = false
has_steps (requests.Payment ask) = true
has_steps (requests.Reversal ask) = true
has_steps (requests.Abort reference) = false
has_steps (requests.Status reference) = false
has_steps (requests.Reconciliation period) = true
has_steps (requests.Display outputs) = false
has_steps (requests.Print qualifier) = false
has_steps requests.Diagnosis = false

-- it gets the reply of the steps, with the terminal that its POIID names
abbrev pub EachServiceHasSteps : Type 0
EachServiceHasSteps = (known : Known) (header : Header) (request : SaleRequest) → has_steps request ≡ true → request_reply known header request ≡ service_reply known header request (named_terminal known.core header.poi)

-- ---- a key on record

-- Where the key is on record, the request gets the kept result body under the header of its reply, where it asks for the same and that is finished; `InProgress`, where it asks for the same and that is open; and else `NotAllowed`.
pub record IsRepliedByRecord (known : Known) (header : Header) (request : SaleRequest) (named : Option NamedTerminal) (found : Found) : Type 0 where
  pub finished : has_same_content known.kept request found ≡ true → (body : ResultBody) → result_body_of found ≡ Some body → service_reply known header request named ≡ Some (Finished (header_of found) body)
  pub in_progress : has_same_content known.kept request found ≡ true → result_body_of found ≡ None → service_reply known header request named ≡ Some (failure_reply header InProgress)
  pub other_content : has_same_content known.kept request found ≡ false → service_reply known header request named ≡ Some (failure_reply header NotAllowed)

-- so it is for each request, whatever else is known and whichever terminal is named
abbrev pub EachOnRecordIsReplied : Type 0
EachOnRecordIsReplied = (known : Known) (header : Header) (request : SaleRequest) (named : Option NamedTerminal) (found : Found) → found_for known.kept header ≡ Some found → IsRepliedByRecord known header request named found

-- The same records give the same reply, whatever setup, what is remembered and moment are, and whichever terminal is named.
abbrev pub RecordsAloneReply : Type 0
RecordsAloneReply =
    (one other : Known) (header : Header) (request : SaleRequest) (here there : Option NamedTerminal) (found : Found) → one.kept ≡ other.kept → found_for one.kept header ≡ Some found → service_reply one header request here ≡ service_reply other header request there

-- nothing begins for a key on record: what is on record is never served again
abbrev pub OnRecordBeginsNothing : Type 0
OnRecordBeginsNothing = (known : Known) (till : ℕ) (header : Header) (request : SaleRequest) (named : Option NamedTerminal) (found : Found) → found_for known.kept header ≡ Some found → service_items known till header request named ≡ []

-- ---- a TransactionStatus of the key

-- With the same records, a TransactionStatus that names the key of a request repeats header and result body of the reply that the request gets, where that is finished.
abbrev pub StatusRepeatsReply : Type 0
StatusRepeatsReply =
    (one other : Known) (header asking : Header) (request : SaleRequest) (named : Option NamedTerminal) (reference : Reference) (repeated : Header) (body : ResultBody) → one.kept ≡ other.kept → own_key header ≡ Some (key_of asking reference) → service_reply one header request named ≡ Some (Finished repeated body) → request_reply other asking (requests.Status (Some reference)) ≡ Some (Repeated (header_of_reply asking) repeated body)
