-- The steps of a request whose key is on record, and of one whose key is new.
use Rattle.std.proofs.Common.{◌≡◌, ℕ, refl, sym, ◌∙◌, ap, subst}
use Rattle.std.specs.Prelude.{Option, Some, None, option_map, true, false}
use Rattle.gw_base.specs.declared.condition.Condition.{Condition}
use Rattle.gw_base.specs.declared.condition.Condition.TheVariants.{InProgress, NotAllowed}
use Rattle.gw_base.specs.declared.key.Key.{Key}
use Rattle.gw_ledger.specs.declared.entry.Found.{Found}
use Rattle.sale_values.specs.declared.header.Header.{Header}
use Rattle.sale_values.specs.declared.names.Period.{Period}
use Rattle.sale_values.specs.declared.request.PaymentAsk.{PaymentAsk}
use Rattle.sale_values.specs.declared.request.ReversalAsk.{ReversalAsk}
use Rattle.sale_values.specs.declared.request.SaleRequest.{SaleRequest}
use Rattle.sale_values.specs.declared.request.SaleRequest.TheVariants as requests
use Rattle.sale_reply.specs.declared.reply.SaleReply.{SaleReply}
use Rattle.sale_reply.specs.declared.reply.Told.{Told as ResultBody}
use Rattle.xlate.specs.Reply.{header_of, result_body_of}
use Rattle.gw_owes.specs.Content.{has_same_content}
use Rattle.gw_owes.specs.Days.{is_key_of_day}
use Rattle.gw_owes.specs.Diagnosis.{NamedTerminal, named_terminal}
use Rattle.gw_owes.specs.KeptReplies.{found_for, is_finished, kept_reply}
use Rattle.gw_owes.specs.Replies.{failure_reply}
use Rattle.gw_owes.specs.Reply.{Finished}
use Rattle.gw_owes.specs.ReadAs.{Request}
use Rattle.gw_owes.specs.Row.{Known}
use Rattle.gw_owes.specs.Steps.{StepResult, Begins, Fails, KeptReply, Waits, is_beginning, is_unserved, items_of_result, reply_of_result, service_reply, step_result}
use Rattle.gw_owes.specs.declared.terminal.Terminal.{Terminal}
use Rattle.gw_owes.proofs.PaymentLemmas.{passes-steps}
use Rattle.gw_core.specs.declared.till.Given.{Given}
use Rattle.gw_core.specs.declared.till.Given.TheVariants as given
use Rattle.gw_core.specs.ReplyOf.{ArePrepared, AreSameReplies, IsGivenByService, IsGivenFor, IsSameReply, result_by}
use Rattle.gw_core.proofs.GivenLemmas.{none-begins}

-- ---- a key on record

-- other content is not allowed
pub other-content : (known : Known) (header : Header) (request : SaleRequest) (found : Found) (named : Option NamedTerminal) → has_same_content known.kept request found ≡ false
    → result_by known header request (Some found) named ≡ Fails NotAllowed
other-content known header request found named other = rw other refl

-- what is open is in progress
pub same-open : (known : Known) (header : Header) (request : SaleRequest) (found : Found) (named : Option NamedTerminal) → has_same_content known.kept request found ≡ true → is_finished found ≡ false
    → result_by known header request (Some found) named ≡ Fails InProgress
same-open known header request found named same unfinished = rw (same, unfinished) refl

-- what is finished has its kept reply
pub same-finished : (known : Known) (header : Header) (request : SaleRequest) (found : Found) (named : Option NamedTerminal) → has_same_content known.kept request found ≡ true → is_finished found ≡ true
    → result_by known header request (Some found) named ≡ KeptReply
same-finished known header request found named same finished = rw (same, finished) refl

-- what has a kept reply is finished
pub kept-finished : (found : Found) (reply : SaleReply) → AreSameReplies (Some reply) (kept_reply found) → is_finished found ≡ true
kept-finished found reply alike = by_body (result_body_of found) refl alike
  where
    by_body : (body : Option ResultBody) → result_body_of found ≡ body → AreSameReplies (Some reply) (option_map (Finished (header_of found)) body) → is_finished found ≡ true
    by_body None is alike = absurd alike
    by_body (Some body) is alike = rw is refl

-- and what has none is open
pub none-unfinished : (found : Found) → AreSameReplies None (kept_reply found) → is_finished found ≡ false
none-unfinished found alike = by_body (result_body_of found) refl alike
  where
    by_body : (body : Option ResultBody) → result_body_of found ≡ body → AreSameReplies None (option_map (Finished (header_of found)) body) → is_finished found ≡ false
    by_body None is alike = rw is refl
    by_body (Some body) is alike = absurd alike

-- so the kept reply is the one to the request
pub kept-replied : (known : Known) (header : Header) (request : SaleRequest) (found : Found) (named : Option NamedTerminal) (reply : SaleReply) → has_same_content known.kept request found ≡ true
    → found_for known.kept header ≡ Some found → AreSameReplies (Some reply) (kept_reply found)
    → AreSameReplies (Some reply) (reply_of_result known.kept header (result_by known header request (Some found) named))
kept-replied known header request found named reply same is alike =
    rw (same-finished known header request found named same (kept-finished found reply alike), is) alike

-- which is the one of the table
pub by-found : (known : Known) (header : Header) (request : SaleRequest) (found : Found) (named : Option NamedTerminal) (reply : SaleReply) → found_for known.kept header ≡ Some found
    → AreSameReplies (Some reply) (reply_of_result known.kept header (result_by known header request (Some found) named))
    → AreSameReplies (Some reply) (service_reply known header request named)
by-found known header request found named reply is alike =
    subst (λ (there : Option Found). AreSameReplies (Some reply) (reply_of_result known.kept header (result_by known header request there named))) (sym is) alike

-- ---- a new key

-- none serves the end of day of a key where no terminal is named
pub unnamed-day : (own : Option Key) → is_key_of_day own None ≡ false
unnamed-day None = refl
unnamed-day (Some key) = refl

-- what begins is no Display
begun-prepared : (request : SaleRequest) → is_unserved request ≡ false → ArePrepared request None
begun-prepared requests.Login served = tt
begun-prepared requests.Logout served = tt
begun-prepared (requests.Payment ask) served = tt
begun-prepared (requests.Reversal ask) served = tt
begun-prepared (requests.Abort reference) served = tt
begun-prepared (requests.Status reference) served = tt
begun-prepared (requests.Reconciliation period) served = tt
begun-prepared (requests.Display outputs) served = absurd cc
begun-prepared (requests.Print qualifier) served = tt
begun-prepared requests.Diagnosis served = tt

-- so where a request begins whose key is new, that is given
pub begins-given : (known : Known) (header : Header) (request : SaleRequest) (named : Option NamedTerminal) (pt : ℕ) (terminal : Terminal) → found_for known.kept header ≡ None → named ≡ Some (record { number = pt; terminal = terminal })
    → result_by known header request None (Some (record { number = pt; terminal = terminal })) ≡ Begins → IsGivenByService known header request named (given.Begins pt header request None)
begins-given known header request named pt terminal none named_is begun =
    let result_is : step_result known header request named ≡ Begins = ap (λ (found : Option Found). result_by known header request found named) none ∙ ap (result_by known header request None) named_is ∙ begun in
    record {
      reply = subst (λ (result : StepResult). AreSameReplies None (reply_of_result known.kept header result)) (sym result_is) tt;
      begun = λ till. ap (items_of_result till header request named) result_is ∙ ap (λ (n : Option NamedTerminal). items_of_result till header request n Begins) named_is;
      prepared = begun-prepared request (passes-steps known header request named (ap is_beginning result_is)).served;
    }

-- where it waits, that is
pub waits-given : (known : Known) (header : Header) (request : SaleRequest) (named : Option NamedTerminal) (pt : ℕ) (terminal : Terminal) → found_for known.kept header ≡ None → named ≡ Some (record { number = pt; terminal = terminal })
    → result_by known header request None (Some (record { number = pt; terminal = terminal })) ≡ Waits → IsGivenByService known header request named (given.Queues pt header request)
waits-given known header request named pt terminal none named_is waits =
    let result_is : step_result known header request named ≡ Waits = ap (λ (found : Option Found). result_by known header request found named) none ∙ ap (result_by known header request None) named_is ∙ waits in
    record {
      reply = subst (λ (result : StepResult). AreSameReplies None (reply_of_result known.kept header result)) (sym result_is) tt;
      begun = λ till. ap (items_of_result till header request named) result_is ∙ ap (λ (n : Option NamedTerminal). items_of_result till header request n Waits) named_is;
      prepared = tt;
    }

-- and where it is refused, its refusal
pub refused-given : (known : Known) (header : Header) (request : SaleRequest) (named : Option NamedTerminal) (condition : Condition) (reply : SaleReply) → found_for known.kept header ≡ None
    → result_by known header request None named ≡ Fails condition → IsSameReply reply (failure_reply header condition) → IsGivenByService known header request named (given.Reply reply)
refused-given known header request named condition reply none fails same =
    let result_is : step_result known header request named ≡ Fails condition = ap (λ (found : Option Found). result_by known header request found named) none ∙ fails in
    record {
      reply = subst (λ (result : StepResult). AreSameReplies (Some reply) (reply_of_result known.kept header result)) (sym result_is) same;
      begun = λ till. ap (items_of_result till header request named) result_is ∙ none-begins till header request named condition;
      prepared = tt;
    }

-- what is given to a payment, a reversal or a reconciliation is given to its request
pub given-payment : (known : Known) (header : Header) (ask : PaymentAsk) (wanted : Given) → IsGivenByService known header (requests.Payment ask) (named_terminal known.core header.poi) wanted → IsGivenFor known (Request header (requests.Payment ask)) wanted
given-payment known header ask wanted is = record { reply = is.reply; begun = is.begun; prepared = is.prepared }

pub given-reversal : (known : Known) (header : Header) (ask : ReversalAsk) (wanted : Given) → IsGivenByService known header (requests.Reversal ask) (named_terminal known.core header.poi) wanted → IsGivenFor known (Request header (requests.Reversal ask)) wanted
given-reversal known header ask wanted is = record { reply = is.reply; begun = is.begun; prepared = is.prepared }

pub given-reconciliation : (known : Known) (header : Header) (period : Period) (wanted : Given) → IsGivenByService known header (requests.Reconciliation period) (named_terminal known.core header.poi) wanted
    → IsGivenFor known (Request header (requests.Reconciliation period)) wanted
given-reconciliation known header period wanted is = record { reply = is.reply; begun = is.begun; prepared = is.prepared }
