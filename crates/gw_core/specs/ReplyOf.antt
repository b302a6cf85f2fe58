-- What the code gives to a till's message, beside what is owed: its reply, or a request that begins.
use Rattle.std.specs.Prelude.{◌≡◌, ◌≤◌, ℕ, true, false, List, [], ◌∷◌, length, Option, Some, None, IfSome, Result, Ok, Err}
use Rattle.gw_base.specs.declared.condition.Condition.{Condition}
use Rattle.gw_base.specs.declared.condition.Condition.TheVariants.{UnavailableDevice}
use Rattle.gw_base.specs.declared.key.Key.{Key}
use Rattle.jrn_record.specs.declared.records.Record.{Record}
use Rattle.gw_ledger.specs.declared.entry.Found.{Found}
use Rattle.sale_values.specs.declared.header.Header.{Header}
use Rattle.sale_values.specs.declared.request.Output.{Output}
use Rattle.sale_values.specs.declared.request.SaleRequest.{SaleRequest}
use Rattle.sale_values.specs.declared.request.SaleRequest.TheVariants.{Login, Logout, Payment, Reversal, Abort, Status, Reconciliation, Display, Print, Diagnosis}
use Rattle.sale_reply.specs.declared.reply.SaleReply.{SaleReply}
use Rattle.sale_reply.specs.declared.reply.Shown.{Shown}
use Rattle.sale_reply.specs.Limits.{HasUnlimitedParts, IsWithinLimits}
use Rattle.sale_reply.specs.Reply.{tree_of}
use Rattle.gw_owes.specs.Calls.{OwedCall, SendTill}
use Rattle.gw_owes.specs.Reply.{ReplyValue, reply_value_tree}
use Rattle.gw_owes.specs.ReadAs.{ReadAs, IsReadAs, Request}
use Rattle.gw_owes.specs.Core.{Core as CoreValue}
use Rattle.gw_owes.specs.declared.terminal.Terminal.{Terminal}
use Rattle.gw_owes.specs.Diagnosis.{NamedTerminal}
use Rattle.gw_owes.specs.Displays.{display_items, display_reply_at}
use Rattle.gw_owes.specs.Items.{RoundItem, Serve, Queue}
use Rattle.gw_owes.specs.RecordLaws.{IsReadFromTill}
use Rattle.gw_owes.specs.Row.{Known, Row}
use Rattle.gw_owes.specs.Rows.{asked_row}
use Rattle.gw_owes.specs.Replies.{refused_results}
use Rattle.gw_owes.specs.Requests.{reply_to, begun_by}
use Rattle.gw_owes.specs.SessionRows.{session_items, session_reply}
use Rattle.gw_owes.specs.Steps.{StepResult, Fails, Begins, Waits, first_result, result_at_queue, service_items, service_reply, steps}
use Rattle.gw_owes.specs.Stops.{serves_key}
use Rattle.gw_core.specs.declared.gateway.Gateway.{Gateway}
use Rattle.gw_core.specs.declared.steps.NewRequest.{NewRequest}
use Rattle.gw_core.specs.declared.steps.NewRequest.TheVariants as becomes
use Rattle.gw_core.specs.declared.till.Given.{Given}
use Rattle.gw_core.specs.declared.till.Given.TheVariants as given

-- ---- replies

-- the message has the tree of the reply, and lies within the limits where its types don't see to it
abbrev pub IsSameReply : SaleReply → ReplyValue → Type 0
IsSameReply given reply = (tree_of given ≡ reply_value_tree reply) × (HasUnlimitedParts given → IsWithinLimits given)

-- the code has this reply, or none where there is none
abbrev pub AreSameReplies : Option SaleReply → Option ReplyValue → Type 0
AreSameReplies None None = Unit {0}
AreSameReplies None (Some reply) = ⊥
AreSameReplies (Some given) None = ⊥
AreSameReplies (Some given) (Some reply) = IsSameReply given reply

-- a gateway with this setup of its own that keeps these records and remembers this knows this at this moment
pub record IsKnownAt (gateway : Gateway) (kept : List Record) (core : CoreValue) (moment : ℕ) (known : Known) : Type 0 where
  pub name_is : known.setup.name ≡ gateway.name
  pub slots_is : known.setup.slots ≡ gateway.slots
  pub line_is : known.setup.line ≡ gateway.line
  pub wait_is : known.setup.wait ≡ gateway.wait
  pub kept_is : known.kept ≡ kept
  pub core_is : known.core ≡ core
  pub moment_is : known.moment ≡ moment

-- ---- what is given

-- the reply that is given, where there is one
abbrev pub reply_given : Given → Option SaleReply
reply_given given.Nothing = None
reply_given (given.Reply reply) = Some reply
reply_given (given.Begins pt header request results) = None
reply_given (given.Queues pt header request) = None

-- what a round handles next for what is given to this till: where a request begins, its terminal begins to serve it, and else it joins those that wait, or takes one of them out
abbrev pub items_given : ℕ → Given → List RoundItem
items_given till given.Nothing = []
items_given till (given.Reply reply) = []
items_given till (given.Begins pt header request results) = Serve pt till header request ∷ []
items_given till (given.Queues pt header request) = Queue pt till header request ∷ []

-- the results of a Display are prepared: no output is shown yet
abbrev pub ArePrepared : SaleRequest → Option (List Shown) → Type 0
ArePrepared Login results = Unit {0}
ArePrepared Logout results = Unit {0}
ArePrepared (Payment ask) results = Unit {0}
ArePrepared (Reversal ask) results = Unit {0}
ArePrepared (Abort reference) results = Unit {0}
ArePrepared (Status reference) results = Unit {0}
ArePrepared (Reconciliation period) results = Unit {0}
ArePrepared (Display outputs) results = results ≡ refused_results UnavailableDevice outputs
ArePrepared (Print qualifier) results = Unit {0}
ArePrepared Diagnosis results = Unit {0}

-- so they are of what begins
abbrev pub IsGivenPrepared : Given → Type 0
IsGivenPrepared given.Nothing = Unit {0}
IsGivenPrepared (given.Reply reply) = Unit {0}
IsGivenPrepared (given.Begins pt header request results) = ArePrepared request results
IsGivenPrepared (given.Queues pt header request) = Unit {0}

-- what is given is the reply to what was read, or else what that begins
pub record IsGivenFor (known : Known) (as_read : ReadAs) (wanted : Given) : Type 0 where
  pub reply : AreSameReplies (reply_given wanted) (reply_to known as_read)
  pub begun : (till : ℕ) → begun_by known till as_read ≡ items_given till wanted
  pub prepared : IsGivenPrepared wanted

-- so it is whatever else is in the setup of such a gateway
abbrev pub IsGivenToRead : Gateway → List Record → CoreValue → ℕ → ReadAs → Given → Type 0
IsGivenToRead gateway kept core moment as_read wanted = (known : Known) → IsKnownAt gateway kept core moment known → IsGivenFor known as_read wanted

-- the message is read as one thing, and what is given is the reply to that, or else what that begins
pub record IsReplyTo (gateway : Gateway) (kept : List Record) (core : CoreValue) (moment : ℕ) (message : List ℕ) (wanted : Given) : Type 0 where
  pub as_read : ReadAs
  pub read : IsReadAs message as_read
  pub replied : IsGivenToRead gateway kept core moment as_read wanted

-- the calls send this till what is given, or are none where nothing is
abbrev pub AreSendOf : ℕ → Option SaleReply → List OwedCall → Type 0
AreSendOf till None calls = calls ≡ []
AreSendOf till (Some given) calls = (reply : ReplyValue) × IsSameReply given reply × (calls ≡ SendTill till reply ∷ [])

-- what is remembered stays as the row says, the reply that is given to this till is the send that it owes, and what is handled next is that of what is given
pub record IsTillRow (row : Row) (core : CoreValue) (till : ℕ) (wanted : Given) : Type 0 where
  pub core_is : core ≡ row.core
  pub calls_are : AreSendOf till (reply_given wanted) row.calls
  pub items_are : row.items ≡ items_given till wanted

-- the message of this till is read as one thing, and what is remembered and given is by the row of that, whatever else is in the setup of such a gateway
pub record IsAskedRow (gateway : Gateway) (kept : List Record) (core : CoreValue) (moment till : ℕ) (message : List ℕ) (wanted : Given) : Type 0 where
  pub as_read : ReadAs
  pub read : IsReadAs message as_read
  pub row : (known : Known) → IsKnownAt gateway kept core moment known → IsTillRow (asked_row known till as_read) core till wanted

-- what is given lies within the limits, so that it may be written
abbrev pub IsGivenWithinLimits : Given → Type 0
IsGivenWithinLimits wanted = IfSome (reply_given wanted) IsWithinLimits

-- a request begins at the terminal of this number: it was read from a till's bytes, and it brings just this, whatever else is in the setup of such a gateway
pub record BeginsAt (gateway : Gateway) (kept : List Record) (core : CoreValue) (moment pt : ℕ) (header : Header) (request : SaleRequest) : Type 0 where
  pub read : IsReadFromTill (Request header request)
  pub begins : (known : Known) → IsKnownAt gateway kept core moment known → (till : ℕ) → begun_by known till (Request header request) ≡ Serve pt till header request ∷ []

-- a request joins those that wait for the terminal of this number, or takes one of them out: it was read from a till's bytes, and it brings just this, whatever else is in the setup of such a gateway
pub record QueuesAt (gateway : Gateway) (kept : List Record) (core : CoreValue) (moment pt : ℕ) (header : Header) (request : SaleRequest) : Type 0 where
  pub read : IsReadFromTill (Request header request)
  pub queues : (known : Known) → IsKnownAt gateway kept core moment known → (till : ℕ) → begun_by known till (Request header request) ≡ Queue pt till header request ∷ []

-- where it is given that a request begins, it does, and its results are prepared; where it is given that it waits or takes one out, it does
abbrev pub IsGivenToBegin : Gateway → List Record → CoreValue → ℕ → Given → Type 0
IsGivenToBegin gateway kept core moment given.Nothing = Unit {0}
IsGivenToBegin gateway kept core moment (given.Reply reply) = Unit {0}
IsGivenToBegin gateway kept core moment (given.Begins pt header request results) = BeginsAt gateway kept core moment pt header request × ArePrepared request results
IsGivenToBegin gateway kept core moment (given.Queues pt header request) = QueuesAt gateway kept core moment pt header request

-- ---- inner

-- Inner: the result of the steps of a request, by what the records have under its key and the terminal that its POIID names
abbrev pub result_by : Known → Header → SaleRequest → Option Found → Option NamedTerminal → StepResult
result_by known header request found named = first_result (result_at_queue known named) (steps known header request found named)

-- Inner: a gateway with this setup of its own that keeps these records and remembers this knows what the steps ask about
pub record IsKnownToSteps (gateway : Gateway) (kept : List Record) (core : CoreValue) (known : Known) : Type 0 where
  pub slots_is : known.setup.slots ≡ gateway.slots
  pub line_is : known.setup.line ≡ gateway.line
  pub kept_is : known.kept ≡ kept
  pub core_is : known.core ≡ core

-- Inner: it is refused for this reason, or else it begins
abbrev pub refused_or_begun : Option Condition → StepResult
refused_or_begun None = Begins
refused_or_begun (Some condition) = Fails condition

-- Inner: it begins at the terminal of this number, which is the one that is named, or is refused for this reason
abbrev pub IsBegunOrRefused : Option NamedTerminal → StepResult → Result ℕ Condition → Type 0
IsBegunOrRefused named result (Ok pt) = ((terminal : Terminal) × (named ≡ Some (record { number = pt; terminal = terminal }))) × (result ≡ Begins)
IsBegunOrRefused named result (Err condition) = result ≡ Fails condition

-- Inner: what becomes of a request whose key is new is this result of its steps
abbrev pub result_of_new : NewRequest → StepResult
result_of_new (becomes.Refused condition) = Fails condition
result_of_new becomes.Begins = Begins
result_of_new becomes.Waits = Waits

-- Inner: the terminal of this number is the one that is named, and serves the payment, the reversal or the end of day of this key; or none that is named does
abbrev pub IsServedBy : List Record → Key → Option NamedTerminal → Option ℕ → Type 0
IsServedBy kept key None None = Unit {0}
IsServedBy kept key None (Some pt) = ⊥
IsServedBy kept key (Some named) None = serves_key kept key named.terminal ≡ false
IsServedBy kept key (Some named) (Some pt) = (named.number ≡ pt) × (serves_key kept key named.terminal ≡ true)

-- Inner: what is given is the reply of the steps, or else what they begin
pub record IsGivenByService (known : Known) (header : Header) (request : SaleRequest) (named : Option NamedTerminal) (wanted : Given) : Type 0 where
  pub reply : AreSameReplies (reply_given wanted) (service_reply known header request named)
  pub begun : (till : ℕ) → service_items known till header request named ≡ items_given till wanted
  pub prepared : IsGivenPrepared wanted

-- Inner: what is given is the reply to a Login or a Logout, or else what that begins
pub record IsGivenToSession (known : Known) (header : Header) (request : SaleRequest) (named : Option NamedTerminal) (wanted : Given) : Type 0 where
  pub reply : AreSameReplies (reply_given wanted) (session_reply known header request named)
  pub begun : (till : ℕ) → session_items known till header request named ≡ items_given till wanted
  pub prepared : IsGivenPrepared wanted

-- Inner: what is given is the reply to a Display, or else what that begins
pub record IsGivenToDisplay (header : Header) (outputs : List Output) (named : Option NamedTerminal) (wanted : Given) : Type 0 where
  pub reply : AreSameReplies (reply_given wanted) (display_reply_at header outputs named)
  pub begun : (till : ℕ) → display_items till header outputs named ≡ items_given till wanted
  pub prepared : IsGivenPrepared wanted

-- Inner: a Display has at most 16 outputs
abbrev pub HasFewOutputs : SaleRequest → Type 0
HasFewOutputs Login = Unit {0}
HasFewOutputs Logout = Unit {0}
HasFewOutputs (Payment ask) = Unit {0}
HasFewOutputs (Reversal ask) = Unit {0}
HasFewOutputs (Abort reference) = Unit {0}
HasFewOutputs (Status reference) = Unit {0}
HasFewOutputs (Reconciliation period) = Unit {0}
HasFewOutputs (Display outputs) = length outputs ≤ 16
HasFewOutputs (Print qualifier) = Unit {0}
HasFewOutputs Diagnosis = Unit {0}
