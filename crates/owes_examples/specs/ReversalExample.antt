-- Closed examples of reversals: what a till asks of a payment that was approved, what its terminal sends, and what is then owed, kept and remembered.
use Rattle.std.specs.Prelude.{◌≡◌, ℕ, pos, false, true, List, [], ◌∷◌, ◌++◌, Option, Some, None, codes}
use Rattle.gw_base.specs.declared.condition.Condition.{Condition}
use Rattle.gw_base.specs.declared.condition.Condition.TheVariants.{Aborted, Busy, Cancel, InProgress, NotAllowed, NotFound, UnavailableDevice, UnavailableService}
use Rattle.gw_base.specs.declared.currency.Currency.TheVariants.{Eur}
use Rattle.sale_values.specs.declared.request.ReversalAsk.{ReversalAsk}
use Rattle.sale_values.specs.declared.request.SaleRequest.TheVariants as requests
use Rattle.sale_reply.specs.declared.reply.Told.TheVariants.{ReversalApproved, ReversalDeclined}
use Rattle.zvt_msg.specs.declared.command.Command.TheVariants as commands
use Rattle.jrn_record.specs.declared.records.Deal.TheVariants as deals
use Rattle.jrn_record.specs.declared.records.Intent.{Intent as TheIntent}
use Rattle.jrn_record.specs.declared.records.Outcome.{Outcome as TheOutcome}
use Rattle.jrn_record.specs.declared.records.Record.{Record}
use Rattle.jrn_record.specs.declared.records.Record.TheVariants.{Intent, Outcome}
use Rattle.gw_ledger.specs.Example.{settled}
use Rattle.gw_owes.specs.declared.terminal.Service.TheVariants.{Transaction}
use Rattle.gw_owes.specs.declared.terminal.Standing.{Standing}
use Rattle.gw_owes.specs.declared.terminal.Standing.TheVariants.{Unlinked, Ready, Serving, Aside}
use Rattle.gw_owes.specs.Calls.{Ask, OwedCall, SendTill, SendPt, CutPt, keep_calls, sending_bytes}
use Rattle.gw_owes.specs.Links.{LinkIsMade, LinkIsLost}
use Rattle.gw_owes.specs.PaymentExample.{Since, ComesTo, paid_at, till_header, intent_after, approved_with_amount, declined_for, acknowledged_once, since_asked, since_sent, since_linked, since_status}
use Rattle.owes_examples.specs.PaymentExample.{with_slot_count}
use Rattle.gw_owes.specs.Reply.{ReplyValue, Finished, Repeated}
use Rattle.gw_owes.specs.Replies.{failure_reply, header_of_reply}
use Rattle.gw_owes.specs.TerminalExample.{one_pt, standing_known, ack, completion, abort}

-- ---- what is known at first

-- the gateway has these records, and its one terminal, `T1`, this standing
abbrev pub since_kept : List Record → Standing → Since
since_kept kept standing = record { known = record (standing_known standing) { kept = kept; moment = paid_at }; calls = [] }

-- the records of the payment of 10.99, which was approved with trace number 123 and receipt number 17
abbrev pub payment_records : List Record
payment_records = Intent (intent_after 0) ∷ Outcome (approved_with_amount 1099) ∷ []

-- the payment was approved, and the terminal is ready
abbrev pub since_paid : Since
since_paid = since_kept payment_records (Ready 123)

-- ---- what a till asks

-- the text of the payment's transaction
abbrev pub paid_text : List ℕ
paid_text = codes "000123-0017-0"

-- a reversal of the transaction with this text, with its amount where one is said
abbrev pub reversal_ask_of : List ℕ → Option ℕ → ReversalAsk
reversal_ask_of text amount = record { transaction = text; amount = amount }

-- after till 1 asks under this ServiceID for the reversal of the transaction with this text
abbrev pub since_reversal : List ℕ → List ℕ → Option ℕ → Since → Since
since_reversal service text amount since = since_asked 1 (till_header (codes "Reversal") service) (requests.Reversal (reversal_ask_of text amount)) since

-- a Failure as the reply to a reversal
abbrev pub reversal_failure : List ℕ → Condition → ReplyValue
reversal_failure service condition = failure_reply (till_header (codes "Reversal") service) condition

-- ---- what is kept

-- the Intent of the reversal with ServiceID 2: its amount and currency are the payment's, whose slot it names
abbrev pub reversal_intent_kept : TheIntent
reversal_intent_kept = record {
  what = deals.Reversal;
  sale = codes "S1";
  poi = codes "T1";
  service = codes "2";
  transaction = None;
  stamp = None;
  amount = 1099;
  currency = Eur;
  before = 123;
  original = Some 0;
  moment = pos paid_at;
}

-- an approval of it with trace number 124, receipt number 18 and this amount
abbrev pub reversed_with_amount : ℕ → TheOutcome
reversed_with_amount amount = record { approved = true; slot = 2; number = 124; receipt = 18; amount = amount; condition = None; moment = pos paid_at }

-- a decline of it
abbrev pub unreversed_for : Condition → TheOutcome
unreversed_for condition = record { approved = false; slot = 2; number = 0; receipt = 0; amount = 0; condition = Some condition; moment = pos paid_at }

-- the reply to an approval of this amount, with TransactionID `000124-0018-2`
abbrev pub reversed_reply : ℕ → ReplyValue
reversed_reply amount =
    Finished (header_of_reply (till_header (codes "Reversal") (codes "2"))) (ReversalApproved (record { number = 124; receipt = 18; slot = 2; moment = pos paid_at }) (record { minor = amount; currency = Eur }))

-- the reply to a decline, with TransactionID `000000-0000-2`
abbrev pub unreversed_reply : Condition → ReplyValue
unreversed_reply condition =
    Finished (header_of_reply (till_header (codes "Reversal") (codes "2"))) (ReversalDeclined (record { number = 0; receipt = 0; slot = 2; moment = pos paid_at }) condition)

-- the Outcome is kept in slot 3, and then till 1 gets this reply
abbrev pub reversal_ended : TheOutcome → ReplyValue → List OwedCall
reversal_ended outcome reply = keep_calls 3 (Outcome outcome) ++ SendTill 1 reply ∷ []

-- ---- a reversal begins

-- till 1 asks for the reversal of the payment, whose amount it doesn't say
abbrev pub since_reversing : Since
since_reversing = since_reversal (codes "2") paid_text None since_paid

-- the Intent is kept in slot 2, and then the terminal is asked by the payment's receipt number
abbrev pub reversing_calls : List OwedCall
reversing_calls = keep_calls 2 (Intent reversal_intent_kept) ++ SendPt 0 (Ask (commands.Reverse one_pt.password 17)) ∷ []

-- the terminal serves the reversal, and there is no reply yet, whether the amount is said or not; the command in bytes
pub record ExampleReversalBegins : Type 0 where
  pub begins : ComesTo since_reversing reversing_calls (Serving (Transaction 2) 123)
  pub command : sending_bytes (Ask (commands.Reverse one_pt.password 17)) ≡ 0x06 ∷ 0x30 ∷ 0x06 ∷ 0x12 ∷ 0x34 ∷ 0x56 ∷ 0x87 ∷ 0x00 ∷ 0x17 ∷ []
  pub with_amount : ComesTo (since_reversal (codes "2") paid_text (Some 1099) since_paid) reversing_calls (Serving (Transaction 2) 123)
  pub acknowledged : ComesTo (since_sent ack since_reversing) reversing_calls (Serving (Transaction 2) 123)

-- ---- it ends

-- a Status of an approved reversal with trace number 124, receipt number 18 and 10.99
abbrev pub reversed_status : List ℕ
reversed_status =
    0x04 ∷ 0x0F ∷ 0x10 ∷ 0x27 ∷ 0x00 ∷ 0x04 ∷ 0x00 ∷ 0x00 ∷ 0x00 ∷ 0x00 ∷ 0x10 ∷ 0x99 ∷ 0x0B ∷ 0x00 ∷ 0x01 ∷ 0x24 ∷ 0x87 ∷ 0x00 ∷ 0x18 ∷ []

-- the same with the amount 9.00
abbrev pub reversed_less_status : List ℕ
reversed_less_status =
    0x04 ∷ 0x0F ∷ 0x10 ∷ 0x27 ∷ 0x00 ∷ 0x04 ∷ 0x00 ∷ 0x00 ∷ 0x00 ∷ 0x00 ∷ 0x09 ∷ 0x00 ∷ 0x0B ∷ 0x00 ∷ 0x01 ∷ 0x24 ∷ 0x87 ∷ 0x00 ∷ 0x18 ∷ []

-- once the reversal has begun the terminal acknowledges it; what is owed is counted from there on
abbrev pub since_reversal_acknowledged : Since
since_reversal_acknowledged = record (since_sent ack since_reversing) { calls = [] }

-- the terminal reports its result with this status, and completes it
abbrev pub since_reversal_reported : List ℕ → Since
since_reversal_reported status = since_sent completion (since_sent status since_reversal_acknowledged)

-- The Outcome is kept in slot 3 with the terminal's figures, and then the till gets the reply, whose amount is what the terminal reversed. Where it declines the condition of its code is kept, and then the till gets it. Where the end is unclear the connection is cut, and the reversal stays open.
pub record ExampleReversalEnds : Type 0 where
  pub approved : ComesTo (since_reversal_reported reversed_status) (acknowledged_once ++ acknowledged_once ++ reversal_ended (reversed_with_amount 1099) (reversed_reply 1099)) (Ready 124)
  pub less : ComesTo (since_reversal_reported reversed_less_status) (acknowledged_once ++ acknowledged_once ++ reversal_ended (reversed_with_amount 900) (reversed_reply 900)) (Ready 124)
  pub declined : ComesTo (since_sent (abort 0xB4) since_reversal_acknowledged) (acknowledged_once ++ reversal_ended (unreversed_for NotAllowed) (unreversed_reply NotAllowed)) (Ready 123)
  pub refused : ComesTo (since_sent (0x84 ∷ 0x83 ∷ 0x00 ∷ []) (record since_reversing { calls = [] })) (reversal_ended (unreversed_for UnavailableService) (unreversed_reply UnavailableService)) (Ready 123)
  pub unclear : ComesTo (since_sent completion since_reversal_acknowledged) (acknowledged_once ++ CutPt 0 ∷ []) (Unlinked (Some 1741342269))

-- ---- what is kept is the reply again

-- the records of a reversal that ended so
abbrev pub ended_records : TheOutcome → List Record
ended_records outcome = payment_records ++ Intent reversal_intent_kept ∷ Outcome outcome ∷ []

-- a reversal was approved, and the terminal is ready
abbrev pub since_reversed : Since
since_reversed = since_kept (ended_records (reversed_with_amount 1099)) (Ready 124)

-- a reversal was declined, and the terminal is ready
abbrev pub since_unreversed : Since
since_unreversed = since_kept (ended_records (unreversed_for NotAllowed)) (Ready 123)

-- the reversal is open, and the terminal isn't linked
abbrev pub since_open_reversal : Since
since_open_reversal = since_kept (payment_records ++ Intent reversal_intent_kept ∷ []) (Unlinked None)

-- the reply that repeats the approval, to a TransactionStatus with ServiceID 3
abbrev pub repeated_reversal : ReplyValue
repeated_reversal =
    Repeated (header_of_reply (till_header (codes "TransactionStatus") (codes "3"))) (header_of_reply (till_header (codes "Reversal") (codes "2")))
    (ReversalApproved (record { number = 124; receipt = 18; slot = 2; moment = pos paid_at }) (record { minor = 1099; currency = Eur }))

-- The reversal again gets its reply again, and asks no terminal; a TransactionStatus repeats it. One that is open is in progress.
pub record ExampleReversalRepeated : Type 0 where
  pub approved : ComesTo (since_reversal (codes "2") paid_text None since_reversed) (SendTill 1 (reversed_reply 1099) ∷ []) (Ready 124)
  pub declined : ComesTo (since_reversal (codes "2") paid_text None since_unreversed) (SendTill 1 (unreversed_reply NotAllowed) ∷ []) (Ready 123)
  pub status : ComesTo (since_status 1 (codes "2") since_reversed) (SendTill 1 repeated_reversal ∷ []) (Ready 124)
  pub in_progress : ComesTo (since_reversal (codes "2") paid_text None since_open_reversal) (SendTill 1 (reversal_failure (codes "2") InProgress) ∷ []) (Unlinked None)
  pub open_status : ComesTo (since_status 1 (codes "2") since_open_reversal) (SendTill 1 (failure_reply (till_header (codes "TransactionStatus") (codes "3")) InProgress) ∷ []) (Unlinked None)

-- ---- it is refused

-- the records of a payment that was declined
abbrev pub declined_records : List Record
declined_records = Intent (intent_after 0) ∷ Outcome (declined_for Cancel) ∷ []

-- the payment is settled
abbrev pub settled_records : List Record
settled_records = payment_records ++ settled (codes "T1") (codes "9") ∷ []

-- the payment was made at another terminal
abbrev pub other_records : List Record
other_records = Intent (record (intent_after 0) { poi = codes "T2" }) ∷ Outcome (approved_with_amount 1099) ∷ []

-- the till asks with these records for the reversal under ServiceID 3, and it fails for this reason: the terminal, which is ready, is asked nothing
pub record FailsReversal (kept : List Record) (text : List ℕ) (amount : Option ℕ) (last : ℕ) (condition : Condition) : Type 0 where
  pub fails : ComesTo (since_reversal (codes "3") text amount (since_kept kept (Ready last))) (SendTill 1 (reversal_failure (codes "3") condition) ∷ []) (Ready last)

-- No transaction of the terminal has the text, which may be another terminal's; or it is no payment, declined, reversed or settled, or the amount is another. Then the last trace number is used up.
pub record ExampleReversalRefused : Type 0 where
  pub unknown : FailsReversal payment_records (codes "000999-0001-0") None 123 NotFound
  pub other_terminal : FailsReversal other_records paid_text None 123 NotFound
  pub part : FailsReversal payment_records paid_text (Some 1) 123 NotAllowed
  pub declined : FailsReversal declined_records (codes "000000-0000-0") None 123 NotAllowed
  pub reversed : FailsReversal (ended_records (reversed_with_amount 1099)) paid_text None 124 NotAllowed
  pub reversal : FailsReversal (ended_records (reversed_with_amount 1099)) (codes "000124-0018-2") None 124 NotAllowed
  pub settled_one : FailsReversal settled_records paid_text None 123 NotAllowed
  pub used_up : FailsReversal payment_records paid_text None 999999 UnavailableService
  pub original_first : FailsReversal payment_records (codes "000999-0001-0") None 999999 NotFound

-- After a decline the payment may be reversed under another ServiceID. A terminal that isn't linked, or serves another, reverses nothing, and one slot is too few.
pub record ExampleReversalUnserved : Type 0 where
  pub after_decline :
      ComesTo (since_reversal (codes "3") paid_text None since_unreversed)
      (keep_calls 4 (Intent (record reversal_intent_kept { service = codes "3" })) ++ SendPt 0 (Ask (commands.Reverse one_pt.password 17)) ∷ []) (Serving (Transaction 4) 123)
  pub unlinked : ComesTo (since_reversal (codes "2") paid_text None (since_kept payment_records (Unlinked None))) (SendTill 1 (reversal_failure (codes "2") UnavailableDevice) ∷ []) (Unlinked None)
  pub busy : ComesTo (since_reversal (codes "3") paid_text None (record since_reversing { calls = [] })) (SendTill 1 (reversal_failure (codes "3") Busy) ∷ []) (Serving (Transaction 2) 123)
  pub room : ComesTo (since_reversal (codes "2") paid_text None (with_slot_count 3 since_paid)) (SendTill 1 (reversal_failure (codes "2") UnavailableService) ∷ []) (Ready 123)
  pub enough : ComesTo (since_reversal (codes "2") paid_text None (with_slot_count 4 since_paid)) reversing_calls (Serving (Transaction 2) 123)

-- ---- a report while it is open

-- the link is lost with the reversal open, and in this run or a later one the terminal is linked again, registers and is enquired; what is owed is counted from there on
abbrev pub since_enquired_open : Since → Since
since_enquired_open since = record (since_sent ack (since_sent completion (since_sent ack (since_linked LinkIsMade (since_linked LinkIsLost since))))) { calls = [] }

-- it reports its last transaction with this status
abbrev pub since_reporting_open : List ℕ → Since → Since
since_reporting_open status since = since_sent completion (since_sent status (since_enquired_open since))

-- the Status of the payment, which is the last transaction where nothing came of the reversal
abbrev pub paid_status : List ℕ
paid_status =
    0x04 ∷ 0x0F ∷ 0x10 ∷ 0x27 ∷ 0x00 ∷ 0x04 ∷ 0x00 ∷ 0x00 ∷ 0x00 ∷ 0x00 ∷ 0x10 ∷ 0x99 ∷ 0x0B ∷ 0x00 ∷ 0x01 ∷ 0x23 ∷ 0x87 ∷ 0x00 ∷ 0x17 ∷ []

-- a trace number above the one before is the reversal's own: its Outcome is kept with the amount and the numbers that are reported, and the till gets the reply, which it doesn't in a later run; the one before says that nothing came of it
pub record ExampleReversalReported : Type 0 where
  pub approved : ComesTo (since_reporting_open reversed_status since_reversing) (acknowledged_once ++ acknowledged_once ++ reversal_ended (reversed_with_amount 1099) (reversed_reply 1099)) (Ready 124)
  pub unperformed : ComesTo (since_reporting_open paid_status since_reversing) (acknowledged_once ++ acknowledged_once ++ reversal_ended (unreversed_for Aborted) (unreversed_reply Aborted)) (Ready 123)
  pub later_run : ComesTo (since_reporting_open reversed_status since_open_reversal) (acknowledged_once ++ acknowledged_once ++ keep_calls 3 (Outcome (reversed_with_amount 1099))) (Ready 124)
  pub below : ComesTo (since_reporting_open (0x04 ∷ 0x0F ∷ 0x09 ∷ 0x27 ∷ 0x6C ∷ 0x0B ∷ 0x00 ∷ 0x01 ∷ 0x22 ∷ 0x87 ∷ 0x00 ∷ 0x16 ∷ []) since_reversing) (acknowledged_once ++ acknowledged_once) (Aside 123 122)
