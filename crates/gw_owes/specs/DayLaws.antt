-- Laws of reconciliations: a till's own is settled at once, an end of day once its terminal is done; what a Settled says, what a till gets for it, also again, and that its payments can't be reversed any more.
use Rattle.std.specs.Prelude.{◌≡◌, ◌⊎◌, ℕ, ◌+◌, pos, true, false, codes, List, [], ◌∷◌, ◌++◌, length, slice_get, Option, Some, None}
use Rattle.std.specs.Option.{option_map}
use Rattle.gw_base.specs.declared.condition.Condition.TheVariants.{InProgress, NotAllowed, UnavailableDevice, UnavailableService}
use Rattle.gw_base.specs.declared.key.Key.{Key}
use Rattle.gw_site.specs.Outside.{Connection, is_connected}
use Rattle.sale_values.specs.declared.header.Header.{Header}
use Rattle.sale_values.specs.declared.names.Class.TheVariants as classes
use Rattle.sale_values.specs.declared.names.Kind.TheVariants as kinds
use Rattle.sale_values.specs.declared.names.Period.{Period}
use Rattle.sale_values.specs.declared.names.Period.TheVariants.{SaleReconciliation, AcquirerReconciliation}
use Rattle.sale_values.specs.declared.request.Reference.{Reference}
use Rattle.sale_values.specs.declared.request.ReversalAsk.{ReversalAsk}
use Rattle.sale_values.specs.declared.request.SaleRequest.{SaleRequest}
use Rattle.sale_values.specs.declared.request.SaleRequest.TheVariants as requests
use Rattle.sale_values.specs.Key.{key_of}
use Rattle.sale_reply.specs.declared.reply.Told.TheVariants.{Reconciled}
use Rattle.zvt_apdu.specs.Grammar.{ApduValue}
use Rattle.zvt_msg.specs.declared.command.Command.TheVariants as commands
use Rattle.zvt_talk.specs.declared.meaning.Heard.TheVariants as heard
use Rattle.jrn_record.specs.declared.records.Deal.TheVariants as deals
use Rattle.jrn_record.specs.declared.records.How.{How}
use Rattle.jrn_record.specs.declared.records.How.TheVariants as hows
use Rattle.jrn_record.specs.declared.records.Record.{Record}
use Rattle.jrn_record.specs.declared.records.Record.TheVariants.{Settled}
use Rattle.jrn_record.specs.declared.records.Settled.{Settled as TheSettled}
use Rattle.gw_ledger.specs.declared.entry.Entry.{Entry as TheEntry}
use Rattle.gw_ledger.specs.Fold.{AreFolded, found_of}
use Rattle.gw_ledger.specs.Keys.{settled_key}
use Rattle.gw_ledger.specs.Laws.{IsSettledAfter}
use Rattle.gw_ledger.specs.Slots.{ended_at}
use Rattle.gw_ledger.specs.Sums.{totals_of}
use Rattle.xlate.specs.Codes.{condition_of_code}
use Rattle.xlate.specs.Reply.{period_of}
use Rattle.gw_owes.specs.declared.terminal.Service.TheVariants.{EndOfDay}
use Rattle.gw_owes.specs.declared.terminal.Standing.TheVariants.{Unlinked, Ready, Serving}
use Rattle.gw_owes.specs.declared.terminal.Terminal.{Terminal}
use Rattle.gw_owes.specs.Calls.{OwedCall, Ask, SendPt, CutPt, keep_calls, records_kept}
use Rattle.gw_owes.specs.Days.{asks_day}
use Rattle.gw_owes.specs.Waits.{is_pending_key, waiting_with}
use Rattle.gw_owes.specs.Diagnosis.{NamedTerminal, named_terminal}
use Rattle.gw_owes.specs.Handling.{handle_row}
use Rattle.gw_owes.specs.Items.{RoundItem, Asked, Handle, Serve}
use Rattle.gw_owes.specs.KeptReplies.{own_key, found_for}
use Rattle.gw_owes.specs.Links.{LinkIsLost, link_row}
use Rattle.gw_owes.specs.PaymentLaws.{BeginsThere, MeansServed}
use Rattle.gw_owes.specs.ReadAs.{Request}
use Rattle.gw_owes.specs.Reply.{ReplyValue, Finished}
use Rattle.gw_owes.specs.Replies.{failure_reply}
use Rattle.gw_owes.specs.Requests.{request_reply}
use Rattle.gw_owes.specs.Reversals.{original_of}
use Rattle.gw_owes.specs.Row.{Known, Row}
use Rattle.gw_owes.specs.Rows.{row_of}
use Rattle.gw_owes.specs.Serving.{was_stopped}
use Rattle.gw_owes.specs.Sessions.{is_logged_out}
use Rattle.gw_owes.specs.StepLaws.{has_steps}
use Rattle.gw_owes.specs.Steps.{is_unserved_period, lacks_room}
use Rattle.gw_owes.specs.TerminalLaws.{GoesOnTo}
use Rattle.gw_owes.specs.Terminals.{terminal_at, reply_calls_to}

-- ---- a Settled, and its reply

-- the Settled says what is settled: by this request, at this terminal, in its currency, at this moment
pub record SaysWhatIsSettled (moment : ℕ) (how : How) (header : Header) (terminal : Terminal) (settled : TheSettled) : Type 0 where
  pub how_is : settled.how ≡ how
  pub key : (key : Key) → own_key header ≡ Some key → settled_key settled ≡ key
  pub currency : settled.currency ≡ terminal.pt.currency
  pub moment_is : settled.moment ≡ pos moment

-- the Success that a Settled has which comes after these records: the totals of its POIID in its currency, over those that came after the POIID's last Settled
abbrev pub reply_with_totals : List Record → TheSettled → ReplyValue
reply_with_totals kept settled =
    let totals = totals_of kept settled.poi settled.currency in
    Finished (record { class = classes.Service; category = codes "Reconciliation"; kind = kinds.Response; service = Some settled.service; device = None; sale = settled.sale; poi = settled.poi })
    (Reconciled (period_of settled.how) settled.currency totals.debit totals.reversed)

-- the calls that keep a Settled in the next slot, and only then send the till its Success, where it is there
abbrev pub calls_of_settled : List Record → Option ℕ → TheSettled → List OwedCall
calls_of_settled kept asker settled = keep_calls (length kept) (Settled settled) ++ reply_calls_to asker (Some (reply_with_totals kept settled))

-- ---- which begins

-- a Reconciliation passes its steps up to those about its terminal's standing: its key isn't on record, doesn't wait, and isn't that of the end of day that the terminal serves, the till isn't logged out there, and there is room: two free slots, and one more for each key that is open and each end of day that is served, and two for each request that waits
pub record PassesUpToStanding (known : Known) (header : Header) (named : NamedTerminal) : Type 0 where
  pub unknown : found_for known.kept header ≡ None
  pub not_pending : is_pending_key known.core header (Some named) ≡ false
  pub logged_in : is_logged_out known.core header.sale header.poi ≡ false
  pub room : lacks_room known.setup.slots known.kept known.core ≡ false

-- a till's own begins in every standing of its terminal, and an end of day at one that is ready
pub record ReconciliationBegins (known : Known) (till : ℕ) (header : Header) (named : NamedTerminal) (row_for : Period → Row) : Type 0 where
  pub sale : BeginsThere till header (requests.Reconciliation SaleReconciliation) named.number (row_for SaleReconciliation)
  pub day : (last : ℕ) → named.terminal.standing ≡ Ready last → BeginsThere till header (requests.Reconciliation AcquirerReconciliation) named.number (row_for AcquirerReconciliation)

-- so does each that may, of a till that is there
abbrev pub EachReconciliationBegins : Type 0
EachReconciliationBegins =
    (tills : List Connection) (known : Known) (till : ℕ) (header : Header) (named : NamedTerminal) → is_connected tills till ≡ true → named_terminal known.core header.poi ≡ Some named → PassesUpToStanding known header named
    → ReconciliationBegins known till header named (λ period. row_of tills known (Asked till (Request header (requests.Reconciliation period))))

-- the two other types aren't served
abbrev pub OtherPeriodIsUnserved : Type 0
OtherPeriodIsUnserved =
    (known : Known) (header : Header) (period : Period) (named : NamedTerminal) → named_terminal known.core header.poi ≡ Some named → found_for known.kept header ≡ None → is_pending_key known.core header (Some named) ≡ false
    → is_logged_out known.core header.sale header.poi ≡ false → is_unserved_period period ≡ true
    → request_reply known header (requests.Reconciliation period) ≡ Some (failure_reply header UnavailableService)

-- ---- a till's own

-- its Settled is kept, and only then its till gets its Success; nothing that is remembered changes, and nothing else is owed
pub record SettlesAtOnce (known : Known) (till : ℕ) (header : Header) (terminal : Terminal) (row : Row) : Type 0 where
  pub settled : TheSettled
  pub says : SaysWhatIsSettled known.moment hows.Sale header terminal settled
  pub calls_are : row.calls ≡ calls_of_settled known.kept (Some till) settled
  pub core_is : row.core ≡ known.core
  pub none_more : row.items ≡ []

-- so it is of each that may begin, in every standing of its terminal
abbrev pub EachSaleIsSettled : Type 0
EachSaleIsSettled =
    (tills : List Connection) (known : Known) (number till : ℕ) (header : Header) (terminal : Terminal) → terminal_at known number ≡ Some terminal
    → PassesUpToStanding known header (record { number = number; terminal = terminal })
    → SettlesAtOnce known till header terminal (row_of tills known (Serve number till header (requests.Reconciliation SaleReconciliation)))

-- ---- an end of day

-- the terminal of this number serves it for this till, and is asked for it; nothing else is owed, and nothing kept
pub record BeginsDay (till : ℕ) (header : Header) (number : ℕ) (terminal : Terminal) (last : ℕ) (row : Row) : Type 0 where
  pub goes_on : GoesOnTo number (Serving (EndOfDay header AcquirerReconciliation) last) (SendPt number (Ask (commands.EndOfDay terminal.pt.password)) ∷ []) row
  pub for_till : option_map (λ (serving : Terminal). serving.asker) (slice_get row.core.terminals number) ≡ Some (Some till)
  pub none_more : row.items ≡ []

-- so it is of each that may begin, at a terminal that is ready
abbrev pub EachDayBegins : Type 0
EachDayBegins =
    (tills : List Connection) (known : Known) (number till : ℕ) (header : Header) (terminal : Terminal) (last : ℕ) → terminal_at known number ≡ Some terminal → terminal.standing ≡ Ready last
    → PassesUpToStanding known header (record { number = number; terminal = terminal })
    → BeginsDay till header number terminal last (row_of tills known (Serve number till header (requests.Reconciliation AcquirerReconciliation)))

-- The Settled of an end of day is kept, and only then its till gets its Success, where it is there; the terminal is ready with the last number of before.
pub record SettlesDay (known : Known) (number : ℕ) (header : Header) (terminal : Terminal) (last : ℕ) (row : Row) : Type 0 where
  pub settled : TheSettled
  pub says : SaysWhatIsSettled known.moment hows.Acquirer header terminal settled
  pub goes_on : GoesOnTo number (Ready last) (calls_of_settled known.kept terminal.asker settled) row

-- so it is once the terminal is done
abbrev pub DoneIsSettled : Type 0
DoneIsSettled =
    (known : Known) (number : ℕ) (apdu : ApduValue) (terminal : Terminal) (header : Header) (period : Period) (last : ℕ) → MeansServed known number apdu terminal (EndOfDay header period) last heard.Done
    → SettlesDay known number header terminal last (handle_row known number apdu)

-- one that is declined keeps nothing: its till gets the condition of the code, and the terminal is ready as before
abbrev pub DeclinedKeepsNothing : Type 0
DeclinedKeepsNothing =
    (known : Known) (number : ℕ) (apdu : ApduValue) (terminal : Terminal) (header : Header) (period : Period) (last result_code : ℕ) (reported : Option ℕ)
    → MeansServed known number apdu terminal (EndOfDay header period) last (heard.Declined result_code reported)
    → GoesOnTo number (Ready last) (reply_calls_to terminal.asker (Some (failure_reply header (condition_of_code result_code (was_stopped terminal.talk))))) (handle_row known number apdu)

-- one whose end is unclear keeps nothing: the connection is cut, and the till gets nothing yet
abbrev pub UnclearDayIsCut : Type 0
UnclearDayIsCut =
    (known : Known) (number : ℕ) (apdu : ApduValue) (terminal : Terminal) (header : Header) (period : Period) (last : ℕ) → MeansServed known number apdu terminal (EndOfDay header period) last heard.Unclear
    → GoesOnTo number (Serving (EndOfDay header period) last) (CutPt number ∷ []) (handle_row known number apdu)

-- and once the link is lost its till gets a Failure, and nothing is kept
abbrev pub LostKeepsNothing : Type 0
LostKeepsNothing =
    (known : Known) (number : ℕ) (terminal : Terminal) (header : Header) (period : Period) (last : ℕ) → terminal_at known number ≡ Some terminal → terminal.standing ≡ Serving (EndOfDay header period) last
    → GoesOnTo number (Unlinked (Some (known.moment + 5))) (reply_calls_to terminal.asker (Some (failure_reply header UnavailableDevice))) (link_row known number LinkIsLost)

-- ---- its key again

-- the terminal that a key names serves the end of day of this key, which is not on record and doesn't wait
pub record ServesDayOf (known : Known) (key : Key) : Type 0 where
  pub named : NamedTerminal
  pub named_is : named_terminal known.core key.poi ≡ Some named
  pub header : Header
  pub period : Period
  pub last : ℕ
  pub standing_is : named.terminal.standing ≡ Serving (EndOfDay header period) last
  pub key_is : own_key header ≡ Some key
  pub unknown : found_of known.kept key ≡ None
  pub no_wait : waiting_with key known.core.waits ≡ None

-- While it is served, the same request is in progress, and one on its key that asks for anything else isn't allowed; a TransactionStatus that names the key says that it is in progress, and an Abort that names it gets no reply.
pub record IsRepliedWhileServed (known : Known) (key : Key) : Type 0 where
  pub again : (asked : Header) → own_key asked ≡ Some key → request_reply known asked (requests.Reconciliation AcquirerReconciliation) ≡ Some (failure_reply asked InProgress)
  pub other :
      (asked : Header) (request : SaleRequest) → own_key asked ≡ Some key → has_steps request ≡ true → asks_day request ≡ false → request_reply known asked request ≡ Some (failure_reply asked NotAllowed)
  pub status : (asking : Header) (reference : Reference) → key_of asking reference ≡ key → request_reply known asking (requests.Status (Some reference)) ≡ Some (failure_reply asking InProgress)
  pub abort : (asking : Header) (reference : Reference) → key_of asking reference ≡ key → request_reply known asking (requests.Abort reference) ≡ None

-- so it is of each
abbrev pub EachServedDayIsReplied : Type 0
EachServedDayIsReplied = (known : Known) (key : Key) → ServesDayOf known key → IsRepliedWhileServed known key

-- once a Settled is kept the same request gets the same Success again, with the totals of the records before it, whatever came after it
abbrev pub SettledIsRepliedAgain : Type 0
SettledIsRepliedAgain =
    (known : Known) (header : Header) (before after : List Record) (settled : TheSettled) → known.kept ≡ before ++ Settled settled ∷ after → AreFolded known.kept → own_key header ≡ Some (settled_key settled)
    → request_reply known header (requests.Reconciliation (period_of settled.how)) ≡ Some (reply_with_totals before settled)

-- ---- what is summed up

-- right after a Settled there is nothing to sum up: the next one of its POIID has no totals
abbrev pub NextHasNoTotals : Type 0
NextHasNoTotals =
    (kept : List Record) (settled next : TheSettled) → next.poi ≡ settled.poi
    → reply_with_totals (kept ++ Settled settled ∷ []) next
    ≡ Finished (record { class = classes.Service; category = codes "Reconciliation"; kind = kinds.Response; service = Some next.service; device = None; sale = next.sale; poi = next.poi })
    (Reconciled (period_of next.how) next.currency (0, 0) (0, 0))

-- a payment whose Outcome comes before a Settled of its POIID can't be reversed any more, on a key that doesn't wait
abbrev pub SettledIsNotReversed : Type 0
SettledIsNotReversed =
    (known : Known) (header : Header) (reversal : ReversalAsk) (named : NamedTerminal) (original : TheEntry) (ended : ℕ) → named_terminal known.core header.poi ≡ Some named → found_for known.kept header ≡ None
    → is_pending_key known.core header (Some named) ≡ false → is_logged_out known.core header.sale header.poi ≡ false → original_of known.kept header.poi reversal ≡ Some original → original.intent.what ≡ deals.Payment
    → ended_at known.kept original.slot ≡ Some ended → IsSettledAfter known.kept original.intent.poi ended
    → request_reply known header (requests.Reversal reversal) ≡ Some (failure_reply header NotAllowed)

-- ---- nothing else is settled

-- the item is a reconciliation of a till's own, which is served: it may begin
pub record IsSaleServed (known : Known) (item : RoundItem) (settled : TheSettled) : Type 0 where
  pub number : ℕ
  pub till : ℕ
  pub header : Header
  pub item_is : item ≡ Serve number till header (requests.Reconciliation SaleReconciliation)
  pub terminal : Terminal
  pub found : terminal_at known number ≡ Some terminal
  pub may : PassesUpToStanding known header (record { number = number; terminal = terminal })
  pub says : SaysWhatIsSettled known.moment hows.Sale header terminal settled

-- the item is a message of a terminal by which the end of day that it serves is done
pub record IsDayDone (known : Known) (item : RoundItem) (settled : TheSettled) : Type 0 where
  pub number : ℕ
  pub apdu : ApduValue
  pub item_is : item ≡ Handle number apdu
  pub terminal : Terminal
  pub header : Header
  pub period : Period
  pub last : ℕ
  pub means : MeansServed known number apdu terminal (EndOfDay header period) last heard.Done
  pub says : SaysWhatIsSettled known.moment hows.Acquirer header terminal settled

-- no other item keeps a Settled
abbrev pub EachSettledHasCause : Type 0
EachSettledHasCause =
    (tills : List Connection) (known : Known) (item : RoundItem) (settled : TheSettled) (more : List Record) → records_kept (row_of tills known item).calls ≡ Settled settled ∷ more
    → IsSaleServed known item settled ⊎ IsDayDone known item settled
