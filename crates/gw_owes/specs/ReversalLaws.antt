-- Laws of reversals: when one begins, what each of its ends keeps and replies, and why one is refused.
use Rattle.std.specs.Prelude.{◌≡◌, ◌⊎◌, ◌<◌, ◌++◌, ℕ, pos, true, false, List, length, Option, Some, None}
use Rattle.gw_base.specs.declared.condition.Condition.{Condition}
use Rattle.gw_base.specs.declared.condition.Condition.TheVariants.{Aborted, Busy, Cancel, InProgress, InsertedCard, InvalidCard, LoggedOut, MessageFormat, NotAllowed, NotFound, Refusal, UnavailableDevice, UnavailableService}
use Rattle.gw_base.specs.declared.figures.Figures.{Figures}
use Rattle.sale_values.specs.declared.header.Header.{Header}
use Rattle.sale_values.specs.declared.request.ReversalAsk.{ReversalAsk}
use Rattle.sale_values.specs.declared.request.SaleRequest.{SaleRequest}
use Rattle.sale_values.specs.declared.request.SaleRequest.TheVariants as requests
use Rattle.sale_reply.specs.declared.reply.Told.{Told as ResultBody}
use Rattle.sale_reply.specs.declared.reply.Told.TheVariants.{ReversalApproved, ReversalDeclined}
use Rattle.zvt_apdu.specs.Grammar.{ApduValue}
use Rattle.zvt_talk.specs.declared.meaning.Heard.TheVariants as heard
use Rattle.jrn_record.specs.declared.records.Deal.TheVariants as deals
use Rattle.jrn_record.specs.declared.records.Outcome.{Outcome as TheOutcome}
use Rattle.jrn_record.specs.declared.records.Record.{Record}
use Rattle.jrn_record.specs.declared.records.Record.TheVariants.{Outcome}
use Rattle.gw_ledger.specs.declared.entry.Entry.{Entry as TheEntry}
use Rattle.gw_ledger.specs.declared.entry.Found.{Found}
use Rattle.gw_ledger.specs.declared.entry.Found.TheVariants.{Entry}
use Rattle.gw_ledger.specs.Slots.{entry_at}
use Rattle.xlate.specs.Codes.{condition_of_code}
use Rattle.xlate.specs.Reply.{header_of, result_body_of}
use Rattle.gw_owes.specs.declared.terminal.Service.{Service}
use Rattle.gw_owes.specs.declared.terminal.Standing.TheVariants.{Ready, Serving}
use Rattle.gw_owes.specs.declared.terminal.Terminal.{Terminal}
use Rattle.gw_owes.specs.Calls.{OwedCall, keep_calls}
use Rattle.gw_owes.specs.Content.{has_same_content}
use Rattle.gw_owes.specs.Waits.{is_pending_again, is_pending_key, is_queue_full}
use Rattle.gw_owes.specs.Diagnosis.{NamedTerminal, named_terminal}
use Rattle.gw_owes.specs.Handling.{handle_row}
use Rattle.gw_owes.specs.KeptReplies.{found_for}
use Rattle.gw_owes.specs.PaymentLaws.{IsReversible, MeansAt, ReportsOfOpen}
use Rattle.gw_owes.specs.Reply.{Finished}
use Rattle.gw_owes.specs.Replies.{failure_reply}
use Rattle.gw_owes.specs.Reports.{Report}
use Rattle.gw_owes.specs.Requests.{request_reply}
use Rattle.gw_owes.specs.Reversals.{original_of}
use Rattle.gw_owes.specs.Row.{Known}
use Rattle.gw_owes.specs.Serving.{was_stopped}
use Rattle.gw_owes.specs.Sessions.{is_logged_out}
use Rattle.gw_owes.specs.Steps.{Begins, Waits, is_out_of_service, is_used_up, lacks_room, step_result}
use Rattle.gw_owes.specs.Terminals.{reply_calls_to}

-- ---- what a reversal's end keeps and replies

-- the reversal at this slot
pub record IsReversalAt (kept : List Record) (slot : ℕ) (entry : TheEntry) : Type 0 where
  pub found : entry_at kept slot ≡ Some entry
  pub what : entry.intent.what ≡ deals.Reversal

-- the calls that keep this Outcome in the next slot, and then send the till that asked, where it is there, this result body under the header of the reversal's reply
abbrev pub replied_calls : Known → Terminal → TheEntry → TheOutcome → ResultBody → List OwedCall
replied_calls known terminal entry outcome body = keep_calls (length known.kept) (Outcome outcome) ++ reply_calls_to terminal.asker (Some (Finished (header_of (Entry entry)) body))

-- the Outcome of a reversal in this slot that is approved with these figures, at this moment
abbrev pub reversed_outcome : ℕ → Figures → ℕ → TheOutcome
reversed_outcome slot figures moment = record { approved = true; slot = slot; number = figures.number; receipt = figures.receipt; amount = figures.amount; condition = None; moment = pos moment }

-- its result body: the terminal's numbers, and the amount that the terminal has reversed, whatever amount was asked
abbrev pub reversed_body : TheEntry → Figures → ℕ → ResultBody
reversed_body entry figures moment =
    ReversalApproved (record { number = figures.number; receipt = figures.receipt; slot = entry.slot; moment = pos moment }) (record { minor = figures.amount; currency = entry.intent.currency })

-- the Outcome of a reversal in this slot that is refused for this reason
abbrev pub unreversed_outcome : ℕ → Condition → ℕ → TheOutcome
unreversed_outcome slot condition moment = record { approved = false; slot = slot; number = 0; receipt = 0; amount = 0; condition = Some condition; moment = pos moment }

-- its result body
abbrev pub unreversed_body : TheEntry → Condition → ℕ → ResultBody
unreversed_body entry condition moment = ReversalDeclined (record { number = 0; receipt = 0; slot = entry.slot; moment = pos moment }) condition

-- an approval of the reversal that is served, with a trace number above the one before, keeps the figures that the terminal reported, and the till gets them
abbrev pub ReversalApprovalIsReplied : Type 0
ReversalApprovalIsReplied =
    (known : Known) (number : ℕ) (apdu : ApduValue) (terminal : Terminal) (slot last : ℕ) (figures : Figures) (entry : TheEntry) → MeansAt known number apdu terminal slot last (heard.Approved figures)
    → last < figures.number → IsReversalAt known.kept slot entry
    → (handle_row known number apdu).calls ≡ replied_calls known terminal entry (reversed_outcome slot figures known.moment) (reversed_body entry figures known.moment)

-- a decline keeps the condition of its code, and the till gets it
abbrev pub ReversalDeclineIsReplied : Type 0
ReversalDeclineIsReplied =
    (known : Known) (number : ℕ) (apdu : ApduValue) (terminal : Terminal) (slot last result_code : ℕ) (reported : Option ℕ) (entry : TheEntry)
    → MeansAt known number apdu terminal slot last (heard.Declined result_code reported) → IsReversalAt known.kept slot entry
    → (handle_row known number apdu).calls
    ≡ replied_calls known terminal entry (unreversed_outcome slot (condition_of_code result_code (was_stopped terminal.talk)) known.moment)
    (unreversed_body entry (condition_of_code result_code (was_stopped terminal.talk)) known.moment)

-- a report of an approval with a trace number above the one before resolves the reversal that is open: the figures that are reported are kept, and its till gets them
abbrev pub ReportedReversalIsReplied : Type 0
ReportedReversalIsReplied =
    (known : Known) (number : ℕ) (apdu : ApduValue) (terminal : Terminal) (report : Report) (entry : TheEntry) (figures : Figures) → ReportsOfOpen known number apdu terminal report entry
    → entry.intent.what ≡ deals.Reversal → entry.intent.before < report.trace → report.approved ≡ Some figures
    → (handle_row known number apdu).calls ≡ replied_calls known terminal entry (reversed_outcome entry.slot figures known.moment) (reversed_body entry figures known.moment)

-- where such a report isn't approved, the condition of its code is kept, as where nothing was stopped, and the till gets it
abbrev pub ReportedDeclineIsReplied : Type 0
ReportedDeclineIsReplied =
    (known : Known) (number : ℕ) (apdu : ApduValue) (terminal : Terminal) (report : Report) (entry : TheEntry) → ReportsOfOpen known number apdu terminal report entry
    → entry.intent.what ≡ deals.Reversal → entry.intent.before < report.trace → report.approved ≡ None
    → (handle_row known number apdu).calls
    ≡ replied_calls known terminal entry (unreversed_outcome entry.slot (condition_of_code report.result_code false) known.moment) (unreversed_body entry (condition_of_code report.result_code false) known.moment)

-- where the last trace number is still the one before, nothing came of it: it is `Aborted`, and its till gets that
abbrev pub UnperformedReversalIsReplied : Type 0
UnperformedReversalIsReplied =
    (known : Known) (number : ℕ) (apdu : ApduValue) (terminal : Terminal) (report : Report) (entry : TheEntry) → ReportsOfOpen known number apdu terminal report entry
    → entry.intent.what ≡ deals.Reversal → report.trace ≡ entry.intent.before
    → (handle_row known number apdu).calls ≡ replied_calls known terminal entry (unreversed_outcome entry.slot Aborted known.moment) (unreversed_body entry Aborted known.moment)

-- ---- why a reversal is refused

-- the key is on record with the same content, and open
pub record IsOpenAgain (known : Known) (header : Header) (reversal : ReversalAsk) : Type 0 where
  pub found : Found
  pub on_record : found_for known.kept header ≡ Some found
  pub same : has_same_content known.kept (requests.Reversal reversal) found ≡ true
  pub is_open : result_body_of found ≡ None

-- the key is on record with other content
pub record HasOtherContent (known : Known) (header : Header) (reversal : ReversalAsk) : Type 0 where
  pub found : Found
  pub on_record : found_for known.kept header ≡ Some found
  pub other : has_same_content known.kept (requests.Reversal reversal) found ≡ false

-- the text names an entry of the terminal that may not be reversed: it is no payment, isn't approved, is reversed or settled, or another amount is asked
pub record NamesIrreversible (known : Known) (header : Header) (reversal : ReversalAsk) : Type 0 where
  pub original : TheEntry
  pub named : original_of known.kept header.poi reversal ≡ Some original
  pub irreversible : (approval : TheOutcome) → IsReversible known.kept reversal original approval → ⊥

-- the key is new, but waits or is that of the end of day that the terminal serves, and the same is asked for again
pub record IsPendingAgain (known : Known) (header : Header) (request : SaleRequest) (named : Option NamedTerminal) : Type 0 where
  pub unknown : found_for known.kept header ≡ None
  pub again : is_pending_again known header request named ≡ true

-- or anything else is asked for
pub record IsPendingOtherwise (known : Known) (header : Header) (request : SaleRequest) (named : Option NamedTerminal) : Type 0 where
  pub unknown : found_for known.kept header ≡ None
  pub pending : is_pending_key known.core header named ≡ true
  pub other : is_pending_again known header request named ≡ false

-- the key is new, it doesn't wait, and the POIID names no terminal
pub record NamesNoTerminal (known : Known) (header : Header) (named : Option NamedTerminal) : Type 0 where
  pub unknown : found_for known.kept header ≡ None
  pub not_pending : is_pending_key known.core header named ≡ false
  pub unnamed : named ≡ None

-- the key is new, it doesn't wait, nor is it that of an end of day that is served, and the POIID names a terminal
pub record IsNewAtTerminal (known : Known) (header : Header) (named : Option NamedTerminal) : Type 0 where
  pub unknown : found_for known.kept header ≡ None
  pub not_pending : is_pending_key known.core header named ≡ false
  pub terminal : NamedTerminal
  pub is_named : named ≡ Some terminal

-- and the till isn't logged out there
pub record IsNewOfTill (known : Known) (header : Header) (named : Option NamedTerminal) : Type 0 where
  pub new : IsNewAtTerminal known header named
  pub logged_in : is_logged_out known.core header.sale header.poi ≡ false

-- and the text names an entry of that terminal that may be reversed
pub record NamesReversible (known : Known) (header : Header) (reversal : ReversalAsk) (named : Option NamedTerminal) : Type 0 where
  pub new : IsNewOfTill known header named
  pub original : TheEntry
  pub original_is : original_of known.kept header.poi reversal ≡ Some original
  pub approval : TheOutcome
  pub reversible : IsReversible known.kept reversal original approval

-- and a trace number is left, and room for its records
pub record HasNumberAndRoom (known : Known) (header : Header) (reversal : ReversalAsk) (named : Option NamedTerminal) : Type 0 where
  pub names : NamesReversible known header reversal named
  pub number : is_used_up known.kept header.poi named ≡ false
  pub room : lacks_room known.setup.slots known.kept known.core ≡ false

-- the POIID names a terminal that takes no request: it isn't linked, not yet ready, or set aside
pub record IsOutOfService (named : Option NamedTerminal) : Type 0 where
  pub terminal : NamedTerminal
  pub is_named : named ≡ Some terminal
  pub out : is_out_of_service terminal.terminal.standing ≡ true

-- it names one that serves another request
pub record ServesAnother (named : Option NamedTerminal) : Type 0 where
  pub terminal : NamedTerminal
  pub is_named : named ≡ Some terminal
  pub service : Service
  pub last : ℕ
  pub serves : terminal.terminal.standing ≡ Serving service last

-- it names one that is ready
pub record IsReadyThere (named : Option NamedTerminal) : Type 0 where
  pub terminal : NamedTerminal
  pub is_named : named ≡ Some terminal
  pub last : ℕ
  pub ready : terminal.terminal.standing ≡ Ready last

-- Why a reversal fails with this condition, at the terminal that its POIID names; it never fails with another. The causes have this order, and each says that none before it holds: the key is on record, and open, or with other content; it waits or is that of the end of day that the terminal serves, and the same is asked for, or anything else; the POIID names no terminal; the till is logged out there; the text names no entry of the terminal; that entry may not be reversed; no trace number is left, or no room; the terminal takes no request; it serves another, and as many requests wait for it as may.
abbrev pub RefusesReversal : Known → Header → ReversalAsk → Option NamedTerminal → Condition → Type 0
RefusesReversal known header reversal named Aborted = ⊥
RefusesReversal known header reversal named Busy = HasNumberAndRoom known header reversal named × (ServesAnother named × (is_queue_full known named ≡ true))
RefusesReversal known header reversal named Cancel = ⊥
RefusesReversal known header reversal named InProgress = IsOpenAgain known header reversal ⊎ IsPendingAgain known header (requests.Reversal reversal) named
RefusesReversal known header reversal named InsertedCard = ⊥
RefusesReversal known header reversal named InvalidCard = ⊥
RefusesReversal known header reversal named LoggedOut = IsNewAtTerminal known header named × (is_logged_out known.core header.sale header.poi ≡ true)
RefusesReversal known header reversal named MessageFormat = ⊥
RefusesReversal known header reversal named NotAllowed =
    HasOtherContent known header reversal ⊎ (IsPendingOtherwise known header (requests.Reversal reversal) named ⊎ (IsNewOfTill known header named × NamesIrreversible known header reversal))
RefusesReversal known header reversal named NotFound = IsNewOfTill known header named × (original_of known.kept header.poi reversal ≡ None)
RefusesReversal known header reversal named Refusal = ⊥
RefusesReversal known header reversal named UnavailableDevice =
    NamesNoTerminal known header named ⊎ (HasNumberAndRoom known header reversal named × IsOutOfService named)
RefusesReversal known header reversal named UnavailableService =
    NamesReversible known header reversal named × ((is_used_up known.kept header.poi named ≡ true) ⊎ (lacks_room known.setup.slots known.kept known.core ≡ true))

-- a reversal begins: none of these causes holds, and the terminal is ready; the steps come to the last one, so that there is no reply yet
pub record ReversalBegins (known : Known) (header : Header) (reversal : ReversalAsk) (named : Option NamedTerminal) : Type 0 where
  pub passes : HasNumberAndRoom known header reversal named
  pub there : IsReadyThere named
  pub begins : step_result known header (requests.Reversal reversal) named ≡ Begins
  pub no_reply : request_reply known header (requests.Reversal reversal) ≡ None

-- it waits: none of them holds, the terminal serves another, and fewer requests wait for it than may; there is no reply yet
pub record ReversalWaits (known : Known) (header : Header) (reversal : ReversalAsk) (named : Option NamedTerminal) : Type 0 where
  pub passes : HasNumberAndRoom known header reversal named
  pub serving : ServesAnother named
  pub not_full : is_queue_full known named ≡ false
  pub waits : step_result known header (requests.Reversal reversal) named ≡ Waits
  pub no_reply : request_reply known header (requests.Reversal reversal) ≡ None

-- it is a repeat, and gets its reply again
pub record ReversalIsAgain (known : Known) (header : Header) (reversal : ReversalAsk) : Type 0 where
  pub found : Found
  pub on_record : found_for known.kept header ≡ Some found
  pub same : has_same_content known.kept (requests.Reversal reversal) found ≡ true
  pub body : ResultBody
  pub kept : result_body_of found ≡ Some body
  pub replied : request_reply known header (requests.Reversal reversal) ≡ Some (Finished (header_of found) body)

-- it is refused, for its reason
pub record ReversalIsRefused (known : Known) (header : Header) (reversal : ReversalAsk) (named : Option NamedTerminal) : Type 0 where
  pub condition : Condition
  pub cause : RefusesReversal known header reversal named condition
  pub replied : request_reply known header (requests.Reversal reversal) ≡ Some (failure_reply header condition)

-- each reversal begins, waits, is a repeat, or is refused for one of these reasons, and gets nothing else
abbrev pub EachReversalBeginsOrIsReplied : Type 0
EachReversalBeginsOrIsReplied =
    (known : Known) (header : Header) (reversal : ReversalAsk)
    → ReversalBegins known header reversal (named_terminal known.core header.poi)
    ⊎ (ReversalWaits known header reversal (named_terminal known.core header.poi)
    ⊎ (ReversalIsAgain known header reversal ⊎ ReversalIsRefused known header reversal (named_terminal known.core header.poi)))

-- each fails with a condition where the condition's cause holds
abbrev pub EachCauseIsReplied : Type 0
EachCauseIsReplied =
    (known : Known) (header : Header) (reversal : ReversalAsk) (condition : Condition) → RefusesReversal known header reversal (named_terminal known.core header.poi) condition
    → request_reply known header (requests.Reversal reversal) ≡ Some (failure_reply header condition)

-- and only there
abbrev pub EachFailureHasItsCause : Type 0
EachFailureHasItsCause =
    (known : Known) (header : Header) (reversal : ReversalAsk) (condition : Condition) → request_reply known header (requests.Reversal reversal) ≡ Some (failure_reply header condition)
    → RefusesReversal known header reversal (named_terminal known.core header.poi) condition

-- one of a till that isn't logged out, on a new key that doesn't wait and isn't that of the end of day that is served there, at a terminal that is configured, whose text names no entry of that terminal isn't found
abbrev pub UnnamedIsNotFound : Type 0
UnnamedIsNotFound =
    (known : Known) (header : Header) (reversal : ReversalAsk) (named : NamedTerminal) → named_terminal known.core header.poi ≡ Some named → found_for known.kept header ≡ None → is_pending_key known.core header (Some named) ≡ false
    → is_logged_out known.core header.sale header.poi ≡ false → original_of known.kept header.poi reversal ≡ None → request_reply known header (requests.Reversal reversal) ≡ Some (failure_reply header NotFound)

-- and one whose text names an entry that may not be reversed isn't allowed
abbrev pub IrreversibleIsNotAllowed : Type 0
IrreversibleIsNotAllowed =
    (known : Known) (header : Header) (reversal : ReversalAsk) (named : NamedTerminal) → named_terminal known.core header.poi ≡ Some named → found_for known.kept header ≡ None → is_pending_key known.core header (Some named) ≡ false
    → is_logged_out known.core header.sale header.poi ≡ false → NamesIrreversible known header reversal → request_reply known header (requests.Reversal reversal) ≡ Some (failure_reply header NotAllowed)

-- one whose text names an entry that may be reversed begins, where its key doesn't wait, the till isn't logged out, the terminal is ready, a trace number is left and there is room
abbrev pub ReversibleBegins : Type 0
ReversibleBegins =
    (known : Known) (header : Header) (reversal : ReversalAsk) (named : NamedTerminal) (last : ℕ) (original : TheEntry) (approval : TheOutcome) → named_terminal known.core header.poi ≡ Some named
    → named.terminal.standing ≡ Ready last → found_for known.kept header ≡ None → is_pending_key known.core header (Some named) ≡ false → is_logged_out known.core header.sale header.poi ≡ false → original_of known.kept header.poi reversal ≡ Some original → IsReversible known.kept reversal original approval
    → is_used_up known.kept header.poi (Some named) ≡ false → lacks_room known.setup.slots known.kept known.core ≡ false
    → ReversalBegins known header reversal (Some named)
