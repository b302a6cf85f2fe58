-- What is given to what was read: a reply, which lies within the limits, or a request that begins.
use Rattle.std.proofs.Common.{◌≡◌, ℕ, List, [], ◌∷◌, refl, sym, subst}
use Rattle.std.specs.Prelude.{Option, Some, None, Result, Ok, Err, IfOk}
use Rattle.std.specs.declared.alloc.AllocError.{AllocError}
use Rattle.jrn_record.specs.declared.records.Record.{Record}
use Rattle.sale_values.specs.declared.header.Header.{Header}
use Rattle.sale_values.specs.declared.request.SaleRequest.{SaleRequest}
use Rattle.sale_reply.specs.declared.reply.SaleReply.{SaleReply}
use Rattle.sale_reply.specs.Limits.{HasUnlimitedParts, IsWithinLimits}
use Rattle.gw_owes.specs.Core.{Core as CoreValue}
use Rattle.gw_owes.specs.Items.{Serve, Queue}
use Rattle.gw_owes.specs.Reply.{ReplyValue}
use Rattle.gw_owes.specs.Requests.{begun_by, reply_to}
use Rattle.gw_owes.specs.Terminals.{reply_calls_to}
use Rattle.gw_owes.specs.Row.{Known}
use Rattle.gw_owes.specs.ReadAs.{ReadAs, IsReadAs, Request, Silent, NoMessage, NoJson}
use Rattle.gw_core.specs.declared.gateway.Gateway.{Gateway}
use Rattle.gw_core.specs.declared.till.Given.{Given}
use Rattle.gw_core.specs.declared.till.Given.TheVariants as given
use Rattle.gw_core.specs.ReplyOf.{AreSameReplies, AreSendOf, BeginsAt, IsAskedRow, IsGivenFor, IsGivenToBegin, IsKnownAt, IsReplyTo, QueuesAt, reply_given}
use Rattle.gw_core.proofs.BegunLemmas.{same-begun, same-queued}

-- a gateway with this setup of its own, without terminals
abbrev known_alone : Gateway → List Record → CoreValue → ℕ → Known
known_alone gateway kept core moment = record {
  setup = record { name = gateway.name; listen = []; journal = []; line = gateway.line; wait = gateway.wait; slots = gateway.slots; terminals = [] };
  core = core;
  kept = kept;
  moment = moment;
}

-- such a gateway is known
known-alone : (gateway : Gateway) (kept : List Record) (core : CoreValue) (moment : ℕ) → IsKnownAt gateway kept core moment (known_alone gateway kept core moment)
known-alone gateway kept core moment = record { name_is = refl; slots_is = refl; line_is = refl; wait_is = refl; kept_is = refl; core_is = refl; moment_is = refl }

-- a reply lies within the limits where its types don't see to it
pub all-limited : (gateway : Gateway) (kept : List Record) (core : CoreValue) (moment : ℕ) (message : List ℕ) (reply : SaleReply) → IsReplyTo gateway kept core moment message (given.Reply reply)
    → HasUnlimitedParts reply → IsWithinLimits reply
all-limited gateway kept core moment message reply h =
    by_reply (reply_to (known_alone gateway kept core moment) h.as_read) (h.replied (known_alone gateway kept core moment) (known-alone gateway kept core moment)).reply
  where
    by_reply : (owed : Option ReplyValue) → AreSameReplies (Some reply) owed → HasUnlimitedParts reply → IsWithinLimits reply
    by_reply None alike = absurd alike
    by_reply (Some owed) alike = alike.1

-- what is given for a request, whatever else is known, is given to what was read
pub replied : (gateway : Gateway) (kept : List Record) (core : CoreValue) (moment : ℕ) (message : List ℕ) (as_read : ReadAs) (result : Result Given AllocError) → IsReadAs message as_read
    → ((known : Known) → IsKnownAt gateway kept core moment known → IfOk result (IsGivenFor known as_read))
    → IfOk result (IsReplyTo gateway kept core moment message)
replied gateway kept core moment message as_read (Ok wanted) read each = record { as_read = as_read; read = read; replied = each }
replied gateway kept core moment message as_read (Err refused) read each = tt

-- the calls of a row send the till the reply that is the one owed
sends : (till : ℕ) (given : Option SaleReply) (owed : Option ReplyValue) → AreSameReplies given owed → AreSendOf till given (reply_calls_to (Some till) owed)
sends till None None alike = refl
sends till None (Some reply) alike = absurd alike
sends till (Some given) None alike = absurd alike
sends till (Some given) (Some reply) alike = (reply, alike, refl)

-- so what is given is by the row of what was read
pub asked : (gateway : Gateway) (kept : List Record) (core : CoreValue) (moment till : ℕ) (message : List ℕ) (wanted : Given) → IsReplyTo gateway kept core moment message wanted
    → IsAskedRow gateway kept core moment till message wanted
asked gateway kept core moment till message wanted is = record {
  as_read = is.as_read;
  read = is.read;
  row = λ known at. record { core_is = sym at.core_is; calls_are = sends till (reply_given wanted) (reply_to known is.as_read) (is.replied known at).reply; items_are = (is.replied known at).begun till };
}

-- ---- what begins

-- where it is given that a request begins, it does
pub begins-there : (gateway : Gateway) (kept : List Record) (core : CoreValue) (moment : ℕ) (message : List ℕ) (wanted : Given) → IsReplyTo gateway kept core moment message wanted → IsGivenToBegin gateway kept core moment wanted
begins-there gateway kept core moment message given.Nothing is = tt
begins-there gateway kept core moment message (given.Reply reply) is = tt
begins-there gateway kept core moment message (given.Begins pt header request results) is =
    (by_read is.as_read is.read (λ known at till. (is.replied known at).begun till), (is.replied alone at_alone).prepared)
  where
    alone : Known
    alone = known_alone gateway kept core moment

    at_alone : IsKnownAt gateway kept core moment alone
    at_alone = known-alone gateway kept core moment

    by_request : (own : Header) (own_request : SaleRequest) → IsReadAs message (Request own own_request)
        → ((known : Known) → IsKnownAt gateway kept core moment known → (till : ℕ) → begun_by known till (Request own own_request) ≡ Serve pt till header request ∷ []) → BeginsAt gateway kept core moment pt header request
    by_request own own_request read each =
        let same = same-begun alone 0 pt header own own_request request (each alone at_alone 0) in
        record {
          read = (message, subst (λ (h : Header). IsReadAs message (Request h request)) same.header_is (subst (λ (r : SaleRequest). IsReadAs message (Request own r)) same.request_is read));
          begins = λ known at till. subst (λ (h : Header). begun_by known till (Request h request) ≡ Serve pt till header request ∷ []) same.header_is
              (subst (λ (r : SaleRequest). begun_by known till (Request own r) ≡ Serve pt till header request ∷ []) same.request_is (each known at till));
        }

    by_read : (as_read : ReadAs) → IsReadAs message as_read → ((known : Known) → IsKnownAt gateway kept core moment known → (till : ℕ) → begun_by known till as_read ≡ Serve pt till header request ∷ []) → BeginsAt gateway kept core moment pt header request
    by_read (Request own own_request) read each = by_request own own_request read each
    by_read Silent read each = let none : [] ≡ Serve pt 0 header request ∷ [] = each alone at_alone 0 in absurd cc
    by_read (NoMessage fault) read each = let none : [] ≡ Serve pt 0 header request ∷ [] = each alone at_alone 0 in absurd cc
    by_read (NoJson fault) read each = let none : [] ≡ Serve pt 0 header request ∷ [] = each alone at_alone 0 in absurd cc
begins-there gateway kept core moment message (given.Queues pt header request) is = by_read is.as_read is.read (λ known at till. (is.replied known at).begun till)
  where
    alone : Known
    alone = known_alone gateway kept core moment

    at_alone : IsKnownAt gateway kept core moment alone
    at_alone = known-alone gateway kept core moment

    by_request : (own : Header) (own_request : SaleRequest) → IsReadAs message (Request own own_request)
        → ((known : Known) → IsKnownAt gateway kept core moment known → (till : ℕ) → begun_by known till (Request own own_request) ≡ Queue pt till header request ∷ []) → QueuesAt gateway kept core moment pt header request
    by_request own own_request read each =
        let same = same-queued alone 0 pt header own own_request request (each alone at_alone 0) in
        record {
          read = (message, subst (λ (h : Header). IsReadAs message (Request h request)) same.header_is (subst (λ (r : SaleRequest). IsReadAs message (Request own r)) same.request_is read));
          queues = λ known at till. subst (λ (h : Header). begun_by known till (Request h request) ≡ Queue pt till header request ∷ []) same.header_is
              (subst (λ (r : SaleRequest). begun_by known till (Request own r) ≡ Queue pt till header request ∷ []) same.request_is (each known at till));
        }

    by_read : (as_read : ReadAs) → IsReadAs message as_read → ((known : Known) → IsKnownAt gateway kept core moment known → (till : ℕ) → begun_by known till as_read ≡ Queue pt till header request ∷ []) → QueuesAt gateway kept core moment pt header request
    by_read (Request own own_request) read each = by_request own own_request read each
    by_read Silent read each = let none : [] ≡ Queue pt 0 header request ∷ [] = each alone at_alone 0 in absurd cc
    by_read (NoMessage fault) read each = let none : [] ≡ Queue pt 0 header request ∷ [] = each alone at_alone 0 in absurd cc
    by_read (NoJson fault) read each = let none : [] ≡ Queue pt 0 header request ∷ [] = each alone at_alone 0 in absurd cc
