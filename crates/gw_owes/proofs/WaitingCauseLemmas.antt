-- The cause of each Failure of a request that waited.
use Rattle.std.proofs.Common.{◌≡◌, ℕ, Bool, true, false, ◌&&◌, List, [], ◌∷◌, ◌++◌, refl, sym, ap, ◌∙◌, subst}
use Rattle.std.specs.Prelude.{if◌then◌else◌, Option, Some, None}
use Rattle.std.proofs.lemmas.Option.{same_Some}
use Rattle.gw_base.specs.declared.condition.Condition.{Condition}
use Rattle.gw_base.specs.declared.condition.Condition.TheVariants.{Aborted, NotAllowed, NotFound, UnavailableService}
use Rattle.gw_base.specs.declared.condition.Condition.TheVariants as conditions
use Rattle.gw_base.specs.declared.key.Key.{Key}
use Rattle.sale_values.specs.declared.header.Header.{Header}
use Rattle.sale_values.specs.declared.request.SaleRequest.{SaleRequest}
use Rattle.gw_owes.specs.Calls.{OwedCall, SendTill, SendPt, CutTill, CutPt, LinkPt, WriteBody, WriteGate, WriteFirstGate, Sync}
use Rattle.gw_owes.specs.Core.{Wait}
use Rattle.gw_owes.specs.Diagnosis.{NamedTerminal}
use Rattle.gw_owes.specs.Items.{RoundItem, Queue, NextWaiting, Overdue}
use Rattle.gw_owes.specs.PaymentLaws.{sends_till}
use Rattle.gw_owes.specs.Replies.{failure_reply}
use Rattle.gw_owes.specs.Reply.{ReplyValue}
use Rattle.gw_owes.specs.Reversals.{names_irreversible, names_none}
use Rattle.gw_owes.specs.Row.{Known, Row}
use Rattle.gw_owes.specs.Rows.{row_of}
use Rattle.gw_owes.specs.Steps.{asks_transaction, is_ready_standing, is_used_up, refused_again}
use Rattle.gw_owes.specs.WaitingCauses.{EachFirstIsRefusedExactly, EachWaitingReplyHasCause, IsOfWaiting, RefusesFirst, WaitingCause}
use Rattle.gw_owes.specs.WaitingRows.{next_waiting_row, overdue_row, queue_row, refusal_calls}
use Rattle.gw_owes.proofs.NextLemmas.{each-next, each-overdue, each-queued}

-- ---- once its terminal is ready

some-is : (one other : Condition) → Some one ≡ Some other → one ≡ other
some-is one other same = same_Some one other same

-- by whether the three steps apply
abbrev RefusesBy : Bool → Bool → Bool → Condition → Type 0
RefusesBy none other used condition = (if none then Some NotFound else if other then Some NotAllowed else if used then Some UnavailableService else None) ≡ Some condition

module _ (known : Known) (header : Header) (request : SaleRequest) (named : Option NamedTerminal) where
  cause-of : (condition : Condition) (none other used : Bool) → names_none known.kept header.poi request ≡ none → names_irreversible known.kept header.poi request ≡ other
      → (asks_transaction request && is_used_up known.kept header.poi named) ≡ used → RefusesBy none other used condition → RefusesFirst known header request named condition
  cause-of condition true other used n o u refused = subst (RefusesFirst known header request named) (some-is NotFound condition refused) n
  cause-of condition false true used n o u refused = subst (RefusesFirst known header request named) (some-is NotAllowed condition refused) (n, o)
  cause-of condition false false true n o u refused = subst (RefusesFirst known header request named) (some-is UnavailableService condition refused) (record { there = n; reversible = o }, u)
  cause-of condition false false false n o u refused = absurd cc

  refused-for : (condition : Condition) → RefusesFirst known header request named condition → refused_again known header request named ≡ Some condition
  refused-for conditions.Aborted cause = absurd cause
  refused-for conditions.Busy cause = absurd cause
  refused-for conditions.Cancel cause = absurd cause
  refused-for conditions.InProgress cause = absurd cause
  refused-for conditions.InsertedCard cause = absurd cause
  refused-for conditions.InvalidCard cause = absurd cause
  refused-for conditions.LoggedOut cause = absurd cause
  refused-for conditions.MessageFormat cause = absurd cause
  refused-for conditions.NotAllowed cause = rw (cause.0, cause.1) refl
  refused-for conditions.NotFound cause = rw cause refl
  refused-for conditions.Refusal cause = absurd cause
  refused-for conditions.UnavailableDevice cause = absurd cause
  refused-for conditions.UnavailableService cause = rw (cause.0.there, cause.0.reversible, cause.1) refl

pub each-first-refused-exactly : EachFirstIsRefusedExactly
each-first-refused-exactly known header request named condition = record {
  cause = cause-of known header request named condition (names_none known.kept header.poi request) (names_irreversible known.kept header.poi request) (asks_transaction request && is_used_up known.kept header.poi named) refl refl refl;
  refused = refused-for known header request named condition;
}

-- ---- what tills get

-- calls with a reply among them send a till something
reply-sends : (before : List OwedCall) (till : ℕ) (reply : ReplyValue) (more : List OwedCall) → sends_till (before ++ SendTill till reply ∷ more) ≡ true
reply-sends [] till reply more = refl
reply-sends (SendTill other said ∷ before) till reply more = refl
reply-sends (SendPt number sending ∷ before) till reply more = reply-sends before till reply more
reply-sends (CutTill other ∷ before) till reply more = reply-sends before till reply more
reply-sends (CutPt number ∷ before) till reply more = reply-sends before till reply more
reply-sends (LinkPt number ∷ before) till reply more = reply-sends before till reply more
reply-sends (WriteBody slot the_record ∷ before) till reply more = reply-sends before till reply more
reply-sends (WriteGate slot the_record ∷ before) till reply more = reply-sends before till reply more
reply-sends (WriteFirstGate ∷ before) till reply more = reply-sends before till reply more
reply-sends (Sync ∷ before) till reply more = reply-sends before till reply more

-- where they send no till anything, no reply is among them
no-reply : (calls before : List OwedCall) (till : ℕ) (reply : ReplyValue) (more : List OwedCall) → sends_till calls ≡ false → calls ≡ before ++ SendTill till reply ∷ more → ⊥
no-reply calls before till reply more none is = let both : false ≡ true = sym none ∙ (ap sends_till is ∙ reply-sends before till reply more) in cc

-- the only call
record IsTheReply (wait : Wait) (condition : Condition) (till : ℕ) (reply : ReplyValue) : Type 0 where
  till_is : till ≡ wait.till
  reply_is : reply ≡ failure_reply wait.header condition
  alone : refusal_calls wait condition ≡ SendTill till reply ∷ []

the-reply : (wait : Wait) (condition : Condition) (before : List OwedCall) (till : ℕ) (reply : ReplyValue) (more : List OwedCall) → refusal_calls wait condition ≡ before ++ SendTill till reply ∷ more
    → IsTheReply wait condition till reply
the-reply wait condition [] till reply more same =
    let first : SendTill wait.till (failure_reply wait.header condition) ≡ SendTill till reply = (let all : SendTill wait.till (failure_reply wait.header condition) ∷ [] ≡ SendTill till reply ∷ more = same in cc) in
    record {
      till_is = sym (let both : SendTill wait.till (failure_reply wait.header condition) ≡ SendTill till reply = first in cc);
      reply_is = sym (let both : SendTill wait.till (failure_reply wait.header condition) ≡ SendTill till reply = first in cc);
      alone = ap (λ (call : OwedCall). call ∷ []) first;
    }
the-reply wait condition (call ∷ before) till reply more same =
    let rest : [] ≡ before ++ SendTill till reply ∷ more = (let all : SendTill wait.till (failure_reply wait.header condition) ∷ [] ≡ call ∷ (before ++ SendTill till reply ∷ more) = same in cc) in
    absurd (no-reply [] before till reply more refl rest)

-- a row that has a reply among its calls has its cause, and no other call
abbrev HasCause : Known → RoundItem → List OwedCall → ℕ → ReplyValue → List OwedCall → Row → Type 0
HasCause known item before till reply more row = row.calls ≡ before ++ SendTill till reply ∷ more → WaitingCause known item till reply × (row.calls ≡ SendTill till reply ∷ [])

module _ (known : Known) (before : List OwedCall) (till : ℕ) (reply : ReplyValue) (more : List OwedCall) where
  none-sent : (item : RoundItem) (calls : List OwedCall) → sends_till calls ≡ false → calls ≡ before ++ SendTill till reply ∷ more → WaitingCause known item till reply × (calls ≡ SendTill till reply ∷ [])
  none-sent item calls none is = absurd (no-reply calls before till reply more none is)

  next-cause : (number : ℕ) → HasCause known (NextWaiting number) before till reply more (next_waiting_row known number)
  next-cause number =
      each-next (HasCause known (NextWaiting number) before till reply more) known number (record {
        none = none-sent (NextWaiting number) _ refl;
        refused = λ terminal last wait condition first refused is.
            let one = the-reply wait condition before till reply more is in (
              WaitingCause.OfFirst number terminal wait condition refl first.found (ap is_ready_standing first.standing_is) first.first_is
                  ((each-first-refused-exactly known wait.header wait.request (Some (record { number = number; terminal = terminal })) condition).cause refused) one.till_is one.reply_is,
              one.alone,
            );
        begins = λ terminal last wait asking at. none-sent (NextWaiting number) _ refl;
        day = λ terminal last wait at. none-sent (NextWaiting number) _ refl;
        left = λ terminal last wait first. none-sent (NextWaiting number) _ refl;
      })

  queue-cause : (number by : ℕ) (header : Header) (request : SaleRequest) → HasCause known (Queue number by header request) before till reply more (queue_row known number by header request)
  queue-cause number by header request =
      each-queued (HasCause known (Queue number by header request) before till reply more) known number by header request (record {
        none = none-sent (Queue number by header request) _ refl;
        joins = λ terminal key at. none-sent (Queue number by header request) _ refl;
        taken = λ wait at is.
            let one = the-reply wait Aborted before till reply more is in
            (WaitingCause.OfAbort number by header at.reference wait (ap (Queue number by header) at.request_is) at.waits_is one.till_is one.reply_is, one.alone);
      })

  overdue-cause : (key : Key) → HasCause known (Overdue key) before till reply more (overdue_row known key)
  overdue-cause key =
      each-overdue (HasCause known (Overdue key) before till reply more) known key (record {
        none = none-sent (Overdue key) _ refl;
        taken = λ wait found overdue is.
            let one = the-reply wait Aborted before till reply more is in
            (WaitingCause.OfDeadline key wait refl found overdue one.till_is one.reply_is, one.alone);
      })

pub each-waiting-reply-has-cause : EachWaitingReplyHasCause
each-waiting-reply-has-cause tills known item before till reply more (IsOfWaiting.First number is) calls =
    subst (λ (i : RoundItem). HasCause known i before till reply more (row_of tills known i)) (sym is) (next-cause known before till reply more number) calls
each-waiting-reply-has-cause tills known item before till reply more (IsOfWaiting.Queued number by header request is) calls =
    subst (λ (i : RoundItem). HasCause known i before till reply more (row_of tills known i)) (sym is) (queue-cause known before till reply more number by header request) calls
each-waiting-reply-has-cause tills known item before till reply more (IsOfWaiting.Deadline key is) calls =
    subst (λ (i : RoundItem). HasCause known i before till reply more (row_of tills known i)) (sym is) (overdue-cause known before till reply more key) calls
