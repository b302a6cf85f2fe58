-- Laws of payments and reversals: each begins with its Intent kept, each ends with its Outcome kept before its till gets the reply, or has it by a report, and a repeated request asks no terminal.
use Rattle.std.specs.Prelude.{◌≡◌, ◌≢◌, ◌⊎◌, ◌<◌, ◌≤◌, ℕ, pos, Bool, true, false, ◌||◌, List, [], ◌∷◌, ◌++◌, length, slice_get, Option, Some, None, Ok}
use Rattle.std.specs.Option.{option_map}
use Rattle.gw_base.specs.Currency.{currency_number}
use Rattle.gw_base.specs.declared.condition.Condition.TheVariants.{Aborted, NotAllowed}
use Rattle.gw_base.specs.declared.figures.Figures.{Figures}
use Rattle.gw_base.specs.declared.key.Key.{Key}
use Rattle.gw_site.specs.Outside.{Connection, is_connected}
use Rattle.sale_values.specs.declared.header.Header.{Header}
use Rattle.sale_values.specs.declared.names.Period.{Period}
use Rattle.sale_values.specs.declared.request.Output.{Output}
use Rattle.sale_values.specs.declared.request.PaymentAsk.{PaymentAsk}
use Rattle.sale_values.specs.declared.request.Reference.{Reference}
use Rattle.sale_values.specs.declared.request.ReversalAsk.{ReversalAsk}
use Rattle.sale_values.specs.declared.request.SaleRequest.{SaleRequest}
use Rattle.sale_values.specs.declared.request.SaleRequest.TheVariants as requests
use Rattle.sale_values.specs.Key.{key_of}
use Rattle.zvt_apdu.specs.Grammar.{ApduValue}
use Rattle.zvt_msg.specs.declared.command.Command.{Command}
use Rattle.zvt_msg.specs.declared.command.Command.TheVariants as commands
use Rattle.zvt_msg.specs.Message.{MessageValue}
use Rattle.zvt_msg.specs.MessageDecode.{decode_pt_message}
use Rattle.zvt_talk.specs.declared.meaning.Heard.{Heard}
use Rattle.zvt_talk.specs.declared.meaning.Heard.TheVariants as heard
use Rattle.jrn_record.specs.declared.records.Deal.TheVariants as deals
use Rattle.jrn_record.specs.declared.records.How.TheVariants as hows
use Rattle.jrn_record.specs.declared.records.Intent.{Intent as TheIntent}
use Rattle.jrn_record.specs.declared.records.Outcome.{Outcome as TheOutcome}
use Rattle.jrn_record.specs.declared.records.Record.{Record}
use Rattle.jrn_record.specs.declared.records.Record.TheVariants.{Intent, Outcome}
use Rattle.gw_ledger.specs.declared.entry.Entry.{Entry as TheEntry}
use Rattle.gw_ledger.specs.declared.entry.Found.{Found}
use Rattle.gw_ledger.specs.Accounts.{is_settled}
use Rattle.gw_ledger.specs.Keys.{intent_key}
use Rattle.gw_ledger.specs.Slots.{is_reversed}
use Rattle.gw_ledger.specs.Sums.{is_intent}
use Rattle.xlate.specs.Codes.{condition_of_code}
use Rattle.gw_owes.specs.declared.terminal.Service.{Service}
use Rattle.gw_owes.specs.declared.terminal.Service.TheVariants.{Transaction, EndOfDay}
use Rattle.gw_owes.specs.declared.terminal.Standing.TheVariants.{Ready, Serving, Aside}
use Rattle.gw_owes.specs.declared.terminal.Terminal.{Terminal}
use Rattle.gw_owes.specs.Calls.{Sending, Ask, Acknowledge, Refuse, OwedCall, SendTill, SendPt, CutTill, CutPt, LinkPt, WriteBody, WriteGate, WriteFirstGate, Sync, keep_calls, records_kept}
use Rattle.gw_owes.specs.Core.{Wait}
use Rattle.gw_owes.specs.Days.{is_day_key}
use Rattle.gw_owes.specs.Waits.{first_waiting, is_pending_key, queue_of, waiting_for, waiting_with}
use Rattle.gw_owes.specs.Diagnosis.{NamedTerminal, named_terminal}
use Rattle.gw_owes.specs.Handling.{meaning_at, handle_row}
use Rattle.gw_owes.specs.Items.{RoundItem, Crowded, Message, Asked, Unframed, Gone, Greet, Handle, Serve, Queue, NextWaiting, Oversized, LinkLost, Late, Overdue, Due}
use Rattle.gw_owes.specs.KeptReplies.{own_key, found_for}
use Rattle.gw_owes.specs.ReadAs.{ReadAs, Request}
use Rattle.gw_owes.specs.Reconciliations.{settle_calls, settled_of}
use Rattle.gw_owes.specs.Reply.{ReplyValue, Plain, Finished, Repeated, Diagnosis, Display as DisplayReply, Print, DisplayRequest, PrintRequest, Reject}
use Rattle.gw_owes.specs.Replies.{failure_reply}
use Rattle.gw_owes.specs.Reports.{Report, on_record, outcome_reported}
use Rattle.gw_owes.specs.Requests.{request_reply}
use Rattle.gw_owes.specs.Reversals.{original_of}
use Rattle.gw_owes.specs.Row.{Known, Row}
use Rattle.gw_owes.specs.Rows.{row_of}
use Rattle.gw_owes.specs.Sessions.{is_session}
use Rattle.gw_owes.specs.Serving.{was_stopped, reply_to_outcome, last_after_decline}
use Rattle.gw_owes.specs.StepLaws.{has_steps}
use Rattle.gw_owes.specs.Steps.{Begins, Waits, asks_other_currency, refused_again, step_result}
use Rattle.gw_owes.specs.Stops.{serves_key}
use Rattle.gw_owes.specs.TerminalLaws.{GoesOnTo, ReportsAt}
use Rattle.gw_owes.specs.Terminals.{terminal_at, reply_calls_to}

-- ---- calls

-- the command asks for a payment or a reversal
abbrev pub is_transaction_command : Command → Bool
is_transaction_command (commands.Register password config currency) = false
is_transaction_command (commands.Authorise amount currency) = true
is_transaction_command (commands.Enquire password) = false
is_transaction_command (commands.Reverse password receipt) = true
is_transaction_command (commands.EndOfDay password) = false
is_transaction_command commands.Stop = false
is_transaction_command (commands.Show lines) = false

-- what is sent asks for a payment or a reversal
abbrev pub is_transaction_asked : Sending → Bool
is_transaction_asked (Ask command) = is_transaction_command command
is_transaction_asked Acknowledge = false
is_transaction_asked Refuse = false

-- a terminal is asked for a payment or a reversal by one of these calls
abbrev pub asks_for_transaction : List OwedCall → Bool
asks_for_transaction [] = false
asks_for_transaction (SendTill till reply ∷ calls) = asks_for_transaction calls
asks_for_transaction (SendPt number sending ∷ calls) = is_transaction_asked sending || asks_for_transaction calls
asks_for_transaction (CutTill till ∷ calls) = asks_for_transaction calls
asks_for_transaction (CutPt number ∷ calls) = asks_for_transaction calls
asks_for_transaction (LinkPt number ∷ calls) = asks_for_transaction calls
asks_for_transaction (WriteBody slot the_record ∷ calls) = asks_for_transaction calls
asks_for_transaction (WriteGate slot the_record ∷ calls) = asks_for_transaction calls
asks_for_transaction (WriteFirstGate ∷ calls) = asks_for_transaction calls
asks_for_transaction (Sync ∷ calls) = asks_for_transaction calls

-- a terminal is sent something by one of these calls
abbrev pub sends_terminal : List OwedCall → Bool
sends_terminal [] = false
sends_terminal (SendTill till reply ∷ calls) = sends_terminal calls
sends_terminal (SendPt number sending ∷ calls) = true
sends_terminal (CutTill till ∷ calls) = sends_terminal calls
sends_terminal (CutPt number ∷ calls) = sends_terminal calls
sends_terminal (LinkPt number ∷ calls) = sends_terminal calls
sends_terminal (WriteBody slot the_record ∷ calls) = sends_terminal calls
sends_terminal (WriteGate slot the_record ∷ calls) = sends_terminal calls
sends_terminal (WriteFirstGate ∷ calls) = sends_terminal calls
sends_terminal (Sync ∷ calls) = sends_terminal calls

-- a till is sent something by one of these calls
abbrev pub sends_till : List OwedCall → Bool
sends_till [] = false
sends_till (SendTill till reply ∷ calls) = true
sends_till (SendPt number sending ∷ calls) = sends_till calls
sends_till (CutTill till ∷ calls) = sends_till calls
sends_till (CutPt number ∷ calls) = sends_till calls
sends_till (LinkPt number ∷ calls) = sends_till calls
sends_till (WriteBody slot the_record ∷ calls) = sends_till calls
sends_till (WriteGate slot the_record ∷ calls) = sends_till calls
sends_till (WriteFirstGate ∷ calls) = sends_till calls
sends_till (Sync ∷ calls) = sends_till calls

-- ---- a payment or a reversal begins

-- the Intent says what a till asks at this moment of a terminal that is ready with this last trace number: the amount, the till's transaction and time stamp, the terminal's currency, the key of the request, and that number as the one before; it reverses no other
pub record SaysWhatIsAsked (moment : ℕ) (header : Header) (payment : PaymentAsk) (terminal : Terminal) (last : ℕ) (intent : TheIntent) : Type 0 where
  pub what : intent.what ≡ deals.Payment
  pub amount : intent.amount ≡ payment.amount
  pub currency : intent.currency ≡ terminal.pt.currency
  pub key : (key : Key) → own_key header ≡ Some key → intent_key intent ≡ key
  pub transaction : intent.transaction ≡ Some payment.transaction
  pub stamp : intent.stamp ≡ Some payment.stamp
  pub before : intent.before ≡ last
  pub original : intent.original ≡ None
  pub moment_is : intent.moment ≡ pos moment

-- a till asks this of the terminal of this number now, under a key that is not on record and doesn't wait, and in the terminal's currency, where it names one
pub record IsAskedNow (known : Known) (item : RoundItem) (number till : ℕ) (header : Header) (request : SaleRequest) (terminal : Terminal) : Type 0 where
  pub item_is : item ≡ Serve number till header request
  pub unknown : found_for known.kept header ≡ None
  pub not_pending : is_pending_key known.core header (Some (record { number = number; terminal = terminal })) ≡ false
  pub currency : asks_other_currency request (Some (record { number = number; terminal = terminal })) ≡ false

-- it was asked before, and is the first that waits for the terminal; the steps that are asked again don't refuse it
pub record IsFirstInQueue (known : Known) (item : RoundItem) (number till : ℕ) (header : Header) (request : SaleRequest) (terminal : Terminal) : Type 0 where
  pub item_is : item ≡ NextWaiting number
  pub wait : Wait
  pub first : first_waiting (queue_of number known.core.waits) ≡ Some wait
  pub till_is : wait.till ≡ till
  pub header_is : wait.header ≡ header
  pub request_is : wait.request ≡ request
  pub passes : refused_again known header request (Some (record { number = number; terminal = terminal })) ≡ None

-- An item begins a payment: a till asks it of a terminal that is ready, or it has waited for it; what waits is in order (`law_waits`). The Intent is kept in the next slot; then the terminal is asked, for the same amount, and nothing else is owed.
pub record BeginsPayment (known : Known) (item : RoundItem) (calls : List OwedCall) : Type 0 where
  pub number : ℕ
  pub till : ℕ
  pub header : Header
  pub payment : PaymentAsk
  pub terminal : Terminal
  pub comes :
      IsAskedNow known item number till header (requests.Payment payment) terminal ⊎ IsFirstInQueue known item number till header (requests.Payment payment) terminal
  pub found : terminal_at known number ≡ Some terminal
  pub last : ℕ
  pub ready : terminal.standing ≡ Ready last
  pub intent : TheIntent
  pub says : SaysWhatIsAsked known.moment header payment terminal last intent
  pub calls_are : calls ≡ keep_calls (length known.kept) (Intent intent) ++ SendPt number (Ask (commands.Authorise payment.amount (currency_number terminal.pt.currency))) ∷ []

-- The Intent says what a till reverses at this moment, at a terminal that is ready with this last trace number: the original's slot, the whole amount of its Outcome, and its currency, the key of the request, and that number as the one before. Of the till's transaction and time stamp a reversal has none.
pub record SaysWhatIsReversed (moment : ℕ) (header : Header) (original : TheEntry) (approval : TheOutcome) (last : ℕ) (intent : TheIntent) : Type 0 where
  pub what : intent.what ≡ deals.Reversal
  pub original_is : intent.original ≡ Some original.slot
  pub amount : intent.amount ≡ approval.amount
  pub currency : intent.currency ≡ original.intent.currency
  pub key : (key : Key) → own_key header ≡ Some key → intent_key intent ≡ key
  pub transaction : intent.transaction ≡ None
  pub stamp : intent.stamp ≡ None
  pub before : intent.before ≡ last
  pub moment_is : intent.moment ≡ pos moment

-- the entry may be reversed: it is a payment, approved with this Outcome, whose whole amount is to be reversed, and it is neither reversed nor settled
pub record IsReversible (kept : List Record) (reversal : ReversalAsk) (original : TheEntry) (approval : TheOutcome) : Type 0 where
  pub what : original.intent.what ≡ deals.Payment
  pub result : original.result ≡ Some approval
  pub approved : approval.approved ≡ true
  pub whole : (amount : ℕ) → reversal.amount ≡ Some amount → amount ≡ approval.amount
  pub not_reversed : is_reversed kept original.slot ≡ false
  pub not_settled : is_settled kept original.slot ≡ false

-- An item begins a reversal: a till asks it of a terminal that is ready, or it has waited for it, and its text names an entry of the terminal that may be reversed. The Intent is kept in the next slot; then the terminal is asked to reverse the original by its receipt number, and nothing else is owed.
pub record BeginsReversal (known : Known) (item : RoundItem) (calls : List OwedCall) : Type 0 where
  pub number : ℕ
  pub till : ℕ
  pub header : Header
  pub reversal : ReversalAsk
  pub terminal : Terminal
  pub comes :
      IsAskedNow known item number till header (requests.Reversal reversal) terminal ⊎ IsFirstInQueue known item number till header (requests.Reversal reversal) terminal
  pub found : terminal_at known number ≡ Some terminal
  pub last : ℕ
  pub ready : terminal.standing ≡ Ready last
  pub original : TheEntry
  pub named : original_of known.kept header.poi reversal ≡ Some original
  pub approval : TheOutcome
  pub reversible : IsReversible known.kept reversal original approval
  pub intent : TheIntent
  pub says : SaysWhatIsReversed known.moment header original approval last intent
  pub calls_are : calls ≡ keep_calls (length known.kept) (Intent intent) ++ SendPt number (Ask (commands.Reverse terminal.pt.password approval.receipt)) ∷ []

-- an item begins a payment or a reversal
abbrev pub BeginsTransaction : Known → RoundItem → List OwedCall → Type 0
BeginsTransaction known item calls = BeginsPayment known item calls ⊎ BeginsReversal known item calls

-- where a terminal is asked for a payment or a reversal, its Intent is kept first
abbrev pub EachTransactionIsKeptFirst : Type 0
EachTransactionIsKeptFirst =
    (tills : List Connection) (known : Known) (item : RoundItem) → asks_for_transaction (row_of tills known item).calls ≡ true → BeginsTransaction known item (row_of tills known item).calls

-- where an Intent is kept, its terminal is asked next
abbrev pub EachIntentIsAsked : Type 0
EachIntentIsAsked =
    (tills : List Connection) (known : Known) (item : RoundItem) (the_record : Record) (more : List Record) → records_kept (row_of tills known item).calls ≡ the_record ∷ more → is_intent the_record ≡ true
    → BeginsTransaction known item (row_of tills known item).calls

-- a request that is read begins at the terminal of this number, and nothing else is owed
pub record BeginsThere (till : ℕ) (header : Header) (request : SaleRequest) (number : ℕ) (row : Row) : Type 0 where
  pub items_are : row.items ≡ Serve number till header request ∷ []
  pub no_reply : row.calls ≡ []

-- a request with steps, of a till that is there, whose steps come to the last one at the terminal that its POIID names, begins at this one
abbrev pub EachAcceptedBegins : Type 0
EachAcceptedBegins =
    (tills : List Connection) (known : Known) (till : ℕ) (header : Header) (request : SaleRequest) (named : NamedTerminal) → is_connected tills till ≡ true → named_terminal known.core header.poi ≡ Some named
    → has_steps request ≡ true → step_result known header request (Some named) ≡ Begins
    → BeginsThere till header request named.number (row_of tills known (Asked till (Request header request)))

-- the terminal of this number serves a payment for this till: its Intent is kept in the next slot, then it is asked for the amount, and nothing else is owed
pub record BeginsToServe (known : Known) (till : ℕ) (header : Header) (payment : PaymentAsk) (number : ℕ) (terminal : Terminal) (last : ℕ) (row : Row) : Type 0 where
  pub intent : TheIntent
  pub says : SaysWhatIsAsked known.moment header payment terminal last intent
  pub goes_on :
      GoesOnTo number (Serving (Transaction (length known.kept)) last)
      (keep_calls (length known.kept) (Intent intent) ++ SendPt number (Ask (commands.Authorise payment.amount (currency_number terminal.pt.currency))) ∷ []) row
  pub for_till : option_map (λ (serving : Terminal). serving.asker) (slice_get row.core.terminals number) ≡ Some (Some till)
  pub none_more : row.items ≡ []

-- where a payment begins at a terminal that is ready, whose steps come to the last one there, this is so
abbrev pub EachBegunIsServed : Type 0
EachBegunIsServed =
    (tills : List Connection) (known : Known) (till : ℕ) (header : Header) (payment : PaymentAsk) (number : ℕ) (terminal : Terminal) (last : ℕ) → terminal_at known number ≡ Some terminal → terminal.standing ≡ Ready last
    → step_result known header (requests.Payment payment) (Some (record { number = number; terminal = terminal })) ≡ Begins
    → BeginsToServe known till header payment number terminal last (row_of tills known (Serve number till header (requests.Payment payment)))

-- the terminal of this number serves a reversal for this till: its text names an entry that may be reversed, its Intent is kept in the next slot, then it is asked to reverse that one's receipt, and nothing else is owed
pub record BeginsToReverse (known : Known) (till : ℕ) (header : Header) (reversal : ReversalAsk) (number : ℕ) (terminal : Terminal) (last : ℕ) (row : Row) : Type 0 where
  pub original : TheEntry
  pub named : original_of known.kept header.poi reversal ≡ Some original
  pub approval : TheOutcome
  pub reversible : IsReversible known.kept reversal original approval
  pub intent : TheIntent
  pub says : SaysWhatIsReversed known.moment header original approval last intent
  pub goes_on :
      GoesOnTo number (Serving (Transaction (length known.kept)) last)
      (keep_calls (length known.kept) (Intent intent) ++ SendPt number (Ask (commands.Reverse terminal.pt.password approval.receipt)) ∷ []) row
  pub for_till : option_map (λ (serving : Terminal). serving.asker) (slice_get row.core.terminals number) ≡ Some (Some till)
  pub none_more : row.items ≡ []

-- where a reversal begins at a terminal that is ready, whose steps come to the last one there, this is so
abbrev pub EachBegunIsReversed : Type 0
EachBegunIsReversed =
    (tills : List Connection) (known : Known) (till : ℕ) (header : Header) (reversal : ReversalAsk) (number : ℕ) (terminal : Terminal) (last : ℕ) → terminal_at known number ≡ Some terminal → terminal.standing ≡ Ready last
    → step_result known header (requests.Reversal reversal) (Some (record { number = number; terminal = terminal })) ≡ Begins
    → BeginsToReverse known till header reversal number terminal last (row_of tills known (Serve number till header (requests.Reversal reversal)))

-- where a payment is the first that waits for a terminal that is ready, and the steps that are asked again don't refuse it, it is served as one that begins at once
abbrev pub EachNextIsServed : Type 0
EachNextIsServed =
    (tills : List Connection) (known : Known) (wait : Wait) (payment : PaymentAsk) (number : ℕ) (terminal : Terminal) (last : ℕ) → terminal_at known number ≡ Some terminal → terminal.standing ≡ Ready last
    → first_waiting (queue_of number known.core.waits) ≡ Some wait → wait.request ≡ requests.Payment payment
    → refused_again known wait.header wait.request (Some (record { number = number; terminal = terminal })) ≡ None
    → BeginsToServe known wait.till wait.header payment number terminal last (row_of tills known (NextWaiting number))

-- so is a reversal
abbrev pub EachNextIsReversed : Type 0
EachNextIsReversed =
    (tills : List Connection) (known : Known) (wait : Wait) (reversal : ReversalAsk) (number : ℕ) (terminal : Terminal) (last : ℕ) → terminal_at known number ≡ Some terminal → terminal.standing ≡ Ready last
    → first_waiting (queue_of number known.core.waits) ≡ Some wait → wait.request ≡ requests.Reversal reversal
    → refused_again known wait.header wait.request (Some (record { number = number; terminal = terminal })) ≡ None
    → BeginsToReverse known wait.till wait.header reversal number terminal last (row_of tills known (NextWaiting number))

-- ---- a payment or a reversal ends

-- a terminal that serves this, with this trace number before it, sends a message that means this
pub record MeansServed (known : Known) (number : ℕ) (apdu : ApduValue) (terminal : Terminal) (service : Service) (last : ℕ) (meant : Heard) : Type 0 where
  pub found : terminal_at known number ≡ Some terminal
  pub standing_is : terminal.standing ≡ Serving service last
  pub message : MessageValue
  pub decoded : decode_pt_message apdu ≡ Ok message
  pub means : meaning_at terminal message ≡ meant

-- it serves the payment or the reversal of this slot
abbrev pub MeansAt : Known → ℕ → ApduValue → Terminal → ℕ → ℕ → Heard → Type 0
MeansAt known number apdu terminal slot last meant = MeansServed known number apdu terminal (Transaction slot) last meant

-- the calls that keep an Outcome in the next slot, and then send its reply to the till that asked, where it is there
abbrev pub outcome_calls : Known → Terminal → TheOutcome → List OwedCall
outcome_calls known terminal outcome = keep_calls (length known.kept) (Outcome outcome) ++ reply_calls_to terminal.asker (reply_to_outcome known.kept outcome.slot outcome)

-- an approval with a trace number above the one before keeps the figures that the terminal reported, and the terminal is ready with that number
abbrev pub ApprovalIsKept : Type 0
ApprovalIsKept =
    (known : Known) (number : ℕ) (apdu : ApduValue) (terminal : Terminal) (slot last : ℕ) (figures : Figures) → MeansAt known number apdu terminal slot last (heard.Approved figures) → last < figures.number
    → GoesOnTo number (Ready figures.number)
    (outcome_calls known terminal (record { approved = true; slot = slot; number = figures.number; receipt = figures.receipt; amount = figures.amount; condition = None; moment = pos known.moment }))
    (handle_row known number apdu)

-- one with a number that is not above the one before is not believed: nothing is kept, no till gets a reply, and the terminal is set aside
abbrev pub NotAboveIsSetAside : Type 0
NotAboveIsSetAside =
    (known : Known) (number : ℕ) (apdu : ApduValue) (terminal : Terminal) (slot last : ℕ) (figures : Figures) → MeansAt known number apdu terminal slot last (heard.Approved figures) → figures.number ≤ last
    → GoesOnTo number (Aside last figures.number) [] (handle_row known number apdu)

-- a decline keeps the condition of its code, which is `Aborted` where the terminal was stopped, and the terminal is ready again
abbrev pub DeclineIsKept : Type 0
DeclineIsKept =
    (known : Known) (number : ℕ) (apdu : ApduValue) (terminal : Terminal) (slot last result_code : ℕ) (reported : Option ℕ) → MeansAt known number apdu terminal slot last (heard.Declined result_code reported)
    → GoesOnTo number (Ready (last_after_decline last reported))
    (outcome_calls known terminal (record { approved = false; slot = slot; number = 0; receipt = 0; amount = 0; condition = Some (condition_of_code result_code (was_stopped terminal.talk)); moment = pos known.moment }))
    (handle_row known number apdu)

-- an unclear end keeps nothing, and no till gets a reply: the connection is cut, and the key stays open
abbrev pub UnclearKeepsNothing : Type 0
UnclearKeepsNothing =
    (known : Known) (number : ℕ) (apdu : ApduValue) (terminal : Terminal) (slot last : ℕ) → MeansAt known number apdu terminal slot last heard.Unclear
    → GoesOnTo number (Serving (Transaction slot) last) (CutPt number ∷ []) (handle_row known number apdu)

-- the Outcome is that of an end: approved with a number above the one before, or declined
abbrev pub IsOutcomeOf : Heard → ℕ → TheOutcome → Type 0
IsOutcomeOf (heard.Begun stop) last outcome = ⊥
IsOutcomeOf (heard.Note intermediate_status) last outcome = ⊥
IsOutcomeOf heard.Line last outcome = ⊥
IsOutcomeOf heard.Block last outcome = ⊥
IsOutcomeOf heard.Seen last outcome = ⊥
IsOutcomeOf (heard.Approved figures) last outcome = (outcome.approved ≡ true) × (last < figures.number)
IsOutcomeOf heard.Done last outcome = ⊥
IsOutcomeOf (heard.Told reported approved result_code) last outcome = ⊥
IsOutcomeOf (heard.Declined result_code reported) last outcome = outcome.approved ≡ false
IsOutcomeOf heard.Unclear last outcome = ⊥
IsOutcomeOf heard.Stray last outcome = ⊥

-- a message of a terminal ends what it serves, and the Outcome is kept before the reply is sent
pub record EndsServed (known : Known) (number : ℕ) (apdu : ApduValue) (calls : List OwedCall) : Type 0 where
  pub terminal : Terminal
  pub slot : ℕ
  pub last : ℕ
  pub meant : Heard
  pub means : MeansAt known number apdu terminal slot last meant
  pub outcome : TheOutcome
  pub slot_is : outcome.slot ≡ slot
  pub end_is : IsOutcomeOf meant last outcome
  pub calls_are : calls ≡ outcome_calls known terminal outcome

-- a terminal reports its last transaction while this payment or reversal of it is open, with this trace number before
pub record ReportsOfOpen (known : Known) (number : ℕ) (apdu : ApduValue) (terminal : Terminal) (report : Report) (entry : TheEntry) : Type 0 where
  pub reports : ReportsAt known number apdu terminal report
  pub opened : (on_record known.kept terminal.pt.poi).opened ≡ Some entry

-- such a report resolves what is open, and the Outcome is kept before the reply is sent
pub record ReportResolves (known : Known) (number : ℕ) (apdu : ApduValue) (calls : List OwedCall) : Type 0 where
  pub terminal : Terminal
  pub report : Report
  pub entry : TheEntry
  pub of_open : ReportsOfOpen known number apdu terminal report entry
  pub not_below : entry.intent.before ≤ report.trace
  pub calls_are : calls ≡ outcome_calls known terminal (outcome_reported entry report known.moment)

-- a message of a terminal ends what it serves, or reports of what is open
abbrev pub ResolvesKey : Known → ℕ → ApduValue → List OwedCall → Type 0
ResolvesKey known number apdu calls = EndsServed known number apdu calls ⊎ ReportResolves known number apdu calls

-- an end of day that a terminal serves is done: its Settled is kept in the next slot, and then its till gets the reply, where it is there
pub record EndsDay (known : Known) (number : ℕ) (apdu : ApduValue) (calls : List OwedCall) : Type 0 where
  pub terminal : Terminal
  pub header : Header
  pub period : Period
  pub last : ℕ
  pub means : MeansServed known number apdu terminal (EndOfDay header period) last heard.Done
  pub calls_are : calls ≡ settle_calls known.kept terminal.asker (settled_of hows.Acquirer header terminal.pt.currency known.moment)

-- what a message of a terminal ends is kept: what it serves, or reports of while it is open, as an Outcome, and an end of day as a Settled
abbrev pub KeepsAtEnd : Known → ℕ → ApduValue → List OwedCall → Type 0
KeepsAtEnd known number apdu calls = ResolvesKey known number apdu calls ⊎ EndsDay known number apdu calls

-- of what is no payment and no reversal, and no end of day that is done, the till that asked gets a reply with which nothing is kept
pub record RepliesUnkept (known : Known) (number : ℕ) (apdu : ApduValue) (calls : List OwedCall) : Type 0 where
  pub terminal : Terminal
  pub service : Service
  pub last : ℕ
  pub meant : Heard
  pub means : MeansServed known number apdu terminal service last meant
  pub no_transaction : (slot : ℕ) → service ≢ Transaction slot
  pub none_done : (header : Header) (period : Period) → service ≡ EndOfDay header period → meant ≢ heard.Done
  pub till : ℕ
  pub asker_is : terminal.asker ≡ Some till
  pub reply : ReplyValue
  pub calls_are : calls ≡ SendTill till reply ∷ []

-- it is a device request, and no reply to what was asked
abbrev pub is_device_request : ReplyValue → Bool
is_device_request (Plain header verdict) = false
is_device_request (Finished header body) = false
is_device_request (Repeated header repeated body) = false
is_device_request (Diagnosis header status) = false
is_device_request (DisplayReply header results) = false
is_device_request (Print header qualifier verdict) = false
is_device_request (DisplayRequest header intermediate_status) = true
is_device_request (PrintRequest header lines) = true
is_device_request (Reject sale poi moment detail) = false

-- a message on the way of what is served goes to the till that asked, as a device request, and nothing else is owed
pub record RequestsOfTill (known : Known) (number : ℕ) (apdu : ApduValue) (calls : List OwedCall) : Type 0 where
  pub terminal : Terminal
  pub service : Service
  pub last : ℕ
  pub meant : Heard
  pub means : MeansServed known number apdu terminal service last meant
  pub till : ℕ
  pub asker_is : terminal.asker ≡ Some till
  pub request : ReplyValue
  pub device : is_device_request request ≡ true
  pub calls_are : calls ≡ SendTill till request ∷ []

-- why a message of a terminal sends a till anything: what ends is kept; or what is served is no payment, no reversal and no end of day that is done; or it is a device request
abbrev pub SendsTillOf : Known → ℕ → ApduValue → List OwedCall → Type 0
SendsTillOf known number apdu calls = KeepsAtEnd known number apdu calls ⊎ (RepliesUnkept known number apdu calls ⊎ RequestsOfTill known number apdu calls)

-- Where a message of a terminal sends a till anything of a payment or a reversal but a device request, an Outcome is kept first, and that is the reply to it. Of an end of day a Settled is, unless it isn't done; of a display nothing.
abbrev pub EachTillHasItsOutcomeKept : Type 0
EachTillHasItsOutcomeKept = (known : Known) (number : ℕ) (apdu : ApduValue) → sends_till (handle_row known number apdu).calls ≡ true → SendsTillOf known number apdu (handle_row known number apdu).calls

-- a message of a terminal keeps no record but the Outcome of what it ends, or of what it reports, and the Settled of an end of day
abbrev pub EachRecordIsOfAnEnd : Type 0
EachRecordIsOfAnEnd =
    (known : Known) (number : ℕ) (apdu : ApduValue) (the_record : Record) (more : List Record) → records_kept (handle_row known number apdu).calls ≡ the_record ∷ more
    → KeepsAtEnd known number apdu (handle_row known number apdu).calls

-- ---- a report resolves what is open

-- a report with a trace number above the one before is the end of what is open: where it was approved its figures are kept
abbrev pub ReportedApprovalIsKept : Type 0
ReportedApprovalIsKept =
    (known : Known) (number : ℕ) (apdu : ApduValue) (terminal : Terminal) (report : Report) (entry : TheEntry) (figures : Figures) → ReportsOfOpen known number apdu terminal report entry
    → entry.intent.before < report.trace → report.approved ≡ Some figures
    → GoesOnTo number (Ready report.trace)
    (outcome_calls known terminal (record { approved = true; slot = entry.slot; number = figures.number; receipt = figures.receipt; amount = figures.amount; condition = None; moment = pos known.moment }))
    (handle_row known number apdu)

-- and else the condition of its code, as where nothing was stopped
abbrev pub ReportedDeclineIsKept : Type 0
ReportedDeclineIsKept =
    (known : Known) (number : ℕ) (apdu : ApduValue) (terminal : Terminal) (report : Report) (entry : TheEntry) → ReportsOfOpen known number apdu terminal report entry
    → entry.intent.before < report.trace → report.approved ≡ None
    → GoesOnTo number (Ready report.trace)
    (outcome_calls known terminal (record { approved = false; slot = entry.slot; number = 0; receipt = 0; amount = 0; condition = Some (condition_of_code report.result_code false); moment = pos known.moment }))
    (handle_row known number apdu)

-- where the last trace number is still the one before, nothing came of what is open: it is `Aborted`, whatever the last transaction was
abbrev pub UnperformedIsAborted : Type 0
UnperformedIsAborted =
    (known : Known) (number : ℕ) (apdu : ApduValue) (terminal : Terminal) (report : Report) (entry : TheEntry) → ReportsOfOpen known number apdu terminal report entry
    → report.trace ≡ entry.intent.before
    → GoesOnTo number (Ready report.trace)
    (outcome_calls known terminal (record { approved = false; slot = entry.slot; number = 0; receipt = 0; amount = 0; condition = Some Aborted; moment = pos known.moment }))
    (handle_row known number apdu)

-- ---- repeats

-- a request on a key that is on record begins nothing; an Abort has none of its own, but names another, and a Login, a Logout and a Display ask for no key
abbrev pub RepeatBeginsNothing : Type 0
RepeatBeginsNothing =
    (tills : List Connection) (known : Known) (till : ℕ) (header : Header) (request : SaleRequest) (found : Found) → found_for known.kept header ≡ Some found → ((reference : Reference) → request ≢ requests.Abort reference)
    → ((outputs : List Output) → request ≢ requests.Display outputs) → is_session request ≡ false → (row_of tills known (Asked till (Request header request))).items ≡ []

-- what a till asks sends no terminal anything, and keeps no record
pub record AsksNoTerminal (calls : List OwedCall) : Type 0 where
  pub sends_none : sends_terminal calls ≡ false
  pub keeps_none : records_kept calls ≡ []

-- so it is of each message of a till
abbrev pub EachAskedSendsNoTerminal : Type 0
EachAskedSendsNoTerminal = (tills : List Connection) (known : Known) (till : ℕ) (as_read : ReadAs) → AsksNoTerminal (row_of tills known (Asked till as_read)).calls

-- a Payment or a Reversal
abbrev pub is_transaction_request : SaleRequest → Bool
is_transaction_request requests.Login = false
is_transaction_request requests.Logout = false
is_transaction_request (requests.Payment ask) = true
is_transaction_request (requests.Reversal ask) = true
is_transaction_request (requests.Abort reference) = false
is_transaction_request (requests.Status reference) = false
is_transaction_request (requests.Reconciliation period) = false
is_transaction_request (requests.Display outputs) = false
is_transaction_request (requests.Print qualifier) = false
is_transaction_request requests.Diagnosis = false

-- a Payment or a Reversal on a key that is not on record and doesn't wait, but is that of the end of day that its terminal serves, isn't allowed: a key asks for one thing
abbrev pub KeyOfDayIsNotAllowed : Type 0
KeyOfDayIsNotAllowed =
    (known : Known) (header : Header) (request : SaleRequest) (named : NamedTerminal) → is_transaction_request request ≡ true → named_terminal known.core header.poi ≡ Some named → found_for known.kept header ≡ None
    → waiting_for known.core header ≡ None → is_day_key header (Some named) ≡ true → request_reply known header request ≡ Some (failure_reply header NotAllowed)

-- a till's Payment or Reversal, on a key that is not on record, doesn't wait and isn't that of the end of day that is served there, begins at the terminal that its POIID names, and there is no reply yet
pub record BeginsAtNamed (known : Known) (till : ℕ) (as_read : ReadAs) (row : Row) : Type 0 where
  pub header : Header
  pub request : SaleRequest
  pub request_is : as_read ≡ Request header request
  pub transaction : is_transaction_request request ≡ true
  pub unknown : found_for known.kept header ≡ None
  pub named : NamedTerminal
  pub named_is : named_terminal known.core header.poi ≡ Some named
  pub not_pending : is_pending_key known.core header (Some named) ≡ false
  pub items_are : row.items ≡ Serve named.number till header request ∷ []
  pub no_reply : row.calls ≡ []

-- a till's Abort stops what the terminal of the key that it names serves, which has this key and doesn't wait, and there is no reply
pub record StopsAtNamed (known : Known) (till : ℕ) (as_read : ReadAs) (row : Row) : Type 0 where
  pub header : Header
  pub reference : Reference
  pub request_is : as_read ≡ Request header (requests.Abort reference)
  pub named : NamedTerminal
  pub named_is : named_terminal known.core (key_of header reference).poi ≡ Some named
  pub no_wait : waiting_with (key_of header reference) known.core.waits ≡ None
  pub serves : serves_key known.kept (key_of header reference) named.terminal ≡ true
  pub items_are : row.items ≡ Serve named.number till header (requests.Abort reference) ∷ []
  pub no_reply : row.calls ≡ []

-- a till's Login or Logout succeeds at the terminal that its POIID names; its reply is owed by the item that it begins
pub record LogsAtNamed (known : Known) (till : ℕ) (as_read : ReadAs) (row : Row) : Type 0 where
  pub header : Header
  pub request : SaleRequest
  pub request_is : as_read ≡ Request header request
  pub session : is_session request ≡ true
  pub named : NamedTerminal
  pub named_is : named_terminal known.core header.poi ≡ Some named
  pub items_are : row.items ≡ Serve named.number till header request ∷ []
  pub no_reply : row.calls ≡ []

-- a till's Reconciliation, on such a key, is settled or begun at the terminal that its POIID names, and there is no reply yet
pub record ReconcilesAtNamed (known : Known) (till : ℕ) (as_read : ReadAs) (row : Row) : Type 0 where
  pub header : Header
  pub period : Period
  pub request_is : as_read ≡ Request header (requests.Reconciliation period)
  pub unknown : found_for known.kept header ≡ None
  pub named : NamedTerminal
  pub named_is : named_terminal known.core header.poi ≡ Some named
  pub not_pending : is_pending_key known.core header (Some named) ≡ false
  pub items_are : row.items ≡ Serve named.number till header (requests.Reconciliation period) ∷ []
  pub no_reply : row.calls ≡ []

-- a till's Display begins at the terminal that its POIID names, and there is no reply yet
pub record ShowsAtNamed (known : Known) (till : ℕ) (as_read : ReadAs) (row : Row) : Type 0 where
  pub header : Header
  pub outputs : List Output
  pub request_is : as_read ≡ Request header (requests.Display outputs)
  pub named : NamedTerminal
  pub named_is : named_terminal known.core header.poi ≡ Some named
  pub items_are : row.items ≡ Serve named.number till header (requests.Display outputs) ∷ []
  pub no_reply : row.calls ≡ []

-- a till's Payment, Reversal or end of day, on such a key, joins those that wait for the terminal that its POIID names, and there is no reply yet
pub record QueuesAtNamed (known : Known) (till : ℕ) (as_read : ReadAs) (row : Row) : Type 0 where
  pub header : Header
  pub request : SaleRequest
  pub request_is : as_read ≡ Request header request
  pub steps : has_steps request ≡ true
  pub unknown : found_for known.kept header ≡ None
  pub named : NamedTerminal
  pub named_is : named_terminal known.core header.poi ≡ Some named
  pub not_pending : is_pending_key known.core header (Some named) ≡ false
  pub waits : step_result known header request (Some named) ≡ Waits
  pub items_are : row.items ≡ Queue named.number till header request ∷ []
  pub no_reply : row.calls ≡ []

-- a till's Abort takes out the request that waits under the key that it names, and there is no reply to the Abort
pub record WithdrawsAtNamed (known : Known) (till : ℕ) (as_read : ReadAs) (row : Row) : Type 0 where
  pub header : Header
  pub reference : Reference
  pub request_is : as_read ≡ Request header (requests.Abort reference)
  pub wait : Wait
  pub waits : waiting_with (key_of header reference) known.core.waits ≡ Some wait
  pub items_are : row.items ≡ Queue wait.pt till header (requests.Abort reference) ∷ []
  pub no_reply : row.calls ≡ []

-- what a message of a till begins: a payment or a reversal, the stop of what is served, a Login or Logout, a reconciliation, or a display; or a request joins those that wait, or is taken out
abbrev pub BeginsSomething : Known → ℕ → ReadAs → Row → Type 0
BeginsSomething known till as_read row =
    BeginsAtNamed known till as_read row ⊎ (StopsAtNamed known till as_read row ⊎ (LogsAtNamed known till as_read row ⊎ (ReconcilesAtNamed known till as_read row
    ⊎ (ShowsAtNamed known till as_read row ⊎ (QueuesAtNamed known till as_read row ⊎ WithdrawsAtNamed known till as_read row)))))

-- a message of a till begins nothing, or one of these
abbrev pub EachAskedBegins : Type 0
EachAskedBegins =
    (tills : List Connection) (known : Known) (till : ℕ) (as_read : ReadAs)
    → ((row_of tills known (Asked till as_read)).items ≡ []) ⊎ BeginsSomething known till as_read (row_of tills known (Asked till as_read))

-- the item is what a till asks
abbrev pub is_asked_item : RoundItem → Bool
is_asked_item (Crowded till) = false
is_asked_item (Message till bytes) = false
is_asked_item (Asked till as_read) = true
is_asked_item (Unframed till) = false
is_asked_item (Gone till) = false
is_asked_item (Greet number apdu) = false
is_asked_item (Handle number apdu) = false
is_asked_item (Serve number till header request) = false
is_asked_item (Queue number till header request) = false
is_asked_item (NextWaiting number) = false
is_asked_item (Oversized number) = false
is_asked_item (LinkLost number) = false
is_asked_item (Late number) = false
is_asked_item (Overdue key) = false
is_asked_item (Due number) = false

-- a request that has waited is refused, and the next one that waits for its terminal is looked at
pub record LooksAtNext (item : RoundItem) (row : Row) : Type 0 where
  pub number : ℕ
  pub item_is : item ≡ NextWaiting number
  pub items_are : row.items ≡ NextWaiting number ∷ []

-- no other item brings another, but one that refuses a request that has waited
abbrev pub OnlyAskedBegins : Type 0
OnlyAskedBegins =
    (tills : List Connection) (known : Known) (item : RoundItem) → is_asked_item item ≡ false → ((row_of tills known item).items ≡ []) ⊎ LooksAtNext item (row_of tills known item)
