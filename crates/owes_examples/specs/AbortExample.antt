-- Closed examples of Aborts: of requests that are served, open, finished and unknown, the stop of what is served, its end after that, of an end of day and a display, and the late Ack or Nack of a stop.
use Rattle.std.specs.Prelude.{◌≡◌, ℕ, pos, true, false, List, [], ◌∷◌, ◌++◌, Some, None, codes}
use Rattle.gw_base.specs.declared.condition.Condition.{Condition}
use Rattle.gw_base.specs.declared.condition.Condition.TheVariants.{Aborted, Cancel, InProgress}
use Rattle.sale_values.specs.declared.header.Header.{Header}
use Rattle.sale_values.specs.declared.names.Class.TheVariants as classes
use Rattle.sale_values.specs.declared.names.Period.TheVariants.{AcquirerReconciliation}
use Rattle.sale_values.specs.declared.request.SaleRequest.TheVariants as requests
use Rattle.sale_reply.specs.declared.reply.Detail.TheVariants as details
use Rattle.sale_reply.specs.declared.reply.Told.TheVariants.{PaymentApproved, PaymentDeclined, Reconciled}
use Rattle.zvt_msg.specs.declared.command.Command.TheVariants as commands
use Rattle.jrn_record.specs.declared.records.How.TheVariants as hows
use Rattle.jrn_record.specs.declared.records.Outcome.{Outcome as TheOutcome}
use Rattle.jrn_record.specs.declared.records.Settled.{Settled as TheSettled}
use Rattle.jrn_record.specs.declared.records.Record.TheVariants.{Intent, Outcome, Settled}
use Rattle.gw_base.specs.declared.currency.Currency.TheVariants.{Eur}
use Rattle.gw_owes.specs.declared.terminal.Service.TheVariants.{Transaction, EndOfDay, Display}
use Rattle.gw_owes.specs.declared.terminal.Standing.{Standing}
use Rattle.gw_owes.specs.declared.terminal.Standing.TheVariants.{Unlinked, Ready, Serving}
use Rattle.gw_owes.specs.Calls.{Ask, OwedCall, SendTill, SendPt, CutPt, keep_calls, sending_bytes}
use Rattle.gw_owes.specs.Links.{LinkIsMade}
use Rattle.gw_owes.specs.PaymentExample.{Since, ComesTo, paid_at, paid_header, till_header, intent_after, approved_with_amount, approved_reply, declined_for, declined_reply, acknowledged_once, ended_with_reply, since_ready, since_begun, since_payment, since_asked, since_sent, since_linked, since_status}
use Rattle.owes_examples.specs.PaymentExample.{header_of_day, since_day_begun}
use Rattle.gw_owes.specs.Reply.{ReplyValue, Finished, Reject}
use Rattle.gw_owes.specs.Replies.{header_of_reply, failure_reply}
use Rattle.owes_examples.specs.ReversalExample.{since_kept, since_paid, since_reversing, paid_status}
use Rattle.gw_owes.specs.TerminalExample.{ack, completion, abort, approved_status}

-- ---- what a till asks

-- after till 1 aborts, under ServiceID 7, the request with this one
abbrev pub since_abort : List ℕ → Since → Since
since_abort service since = since_asked 1 (till_header (codes "Abort") (codes "7")) (requests.Abort (record { service = service; sale = None; poi = None })) since

-- what is owed is counted from here on
abbrev pub from_here : Since → Since
from_here since = record since { calls = [] }

-- the event that an Abort is refused
abbrev pub abort_reject : ReplyValue
abort_reject = Reject (codes "S1") (codes "T1") (pos paid_at) details.Abort

-- ---- keys that are not served

-- the payment is open, and its terminal isn't linked
abbrev pub since_open_payment : Since
since_open_payment = since_kept (Intent (intent_after 0) ∷ []) (Unlinked None)

-- An Abort of a key that is unknown or finished is refused, also while another is served. That of a key that is open and is not served gets nothing.
pub record ExampleAbortUnserved : Type 0 where
  pub unknown : ComesTo (since_abort (codes "1") (since_ready 0)) (SendTill 1 abort_reject ∷ []) (Ready 0)
  pub finished : ComesTo (since_abort (codes "1") since_paid) (SendTill 1 abort_reject ∷ []) (Ready 123)
  pub another : ComesTo (since_abort (codes "2") (from_here (since_begun 0))) (SendTill 1 abort_reject ∷ []) (Serving (Transaction 0) 0)
  pub finished_beside : ComesTo (since_abort (codes "1") (from_here since_reversing)) (SendTill 1 abort_reject ∷ []) (Serving (Transaction 2) 123)
  pub open_key : ComesTo (since_abort (codes "1") since_open_payment) [] (Unlinked None)

-- ---- the stop

-- the payment of 10.99 has begun, and its terminal was asked
abbrev pub since_asked_for : Since
since_asked_for = from_here (since_begun 0)

-- the terminal has acknowledged it
abbrev pub since_acknowledged : Since
since_acknowledged = from_here (since_sent ack (since_begun 0))

-- the stop is sent
abbrev pub stopped_once : List OwedCall
stopped_once = SendPt 0 (Ask commands.Stop) ∷ []

-- the key is aborted once it is acknowledged
abbrev pub since_stopped : Since
since_stopped = since_abort (codes "1") since_acknowledged

-- `06 B0 00` is sent at once where the command is acknowledged, and else once it is; only once, however often the key is aborted. The till gets nothing, and the key is served on, whether the terminal acknowledges or refuses the stop.
pub record ExampleStopSent : Type 0 where
  pub at_once : ComesTo since_stopped stopped_once (Serving (Transaction 0) 0)
  pub command : sending_bytes (Ask commands.Stop) ≡ 0x06 ∷ 0xB0 ∷ 0x00 ∷ []
  pub wished : ComesTo (since_abort (codes "1") since_asked_for) [] (Serving (Transaction 0) 0)
  pub then_sent : ComesTo (since_sent ack (since_abort (codes "1") since_asked_for)) stopped_once (Serving (Transaction 0) 0)
  pub twice : ComesTo (since_abort (codes "1") since_stopped) stopped_once (Serving (Transaction 0) 0)
  pub wished_twice : ComesTo (since_sent ack (since_abort (codes "1") (since_abort (codes "1") since_asked_for))) stopped_once (Serving (Transaction 0) 0)
  pub wished_then_again : ComesTo (since_abort (codes "1") (since_sent ack (since_abort (codes "1") since_asked_for))) stopped_once (Serving (Transaction 0) 0)
  pub refused : ComesTo (since_sent (0x84 ∷ 0x83 ∷ 0x00 ∷ []) since_stopped) stopped_once (Serving (Transaction 0) 0)
  pub reversal : ComesTo (since_abort (codes "2") (from_here (since_sent ack since_reversing))) stopped_once (Serving (Transaction 2) 123)

-- ---- the end after a stop

-- The terminal aborts with the code 6C: after a stop that is `Aborted`, and without one `Cancel`. It may approve all the same, also where it has refused the stop.
pub record ExampleStoppedEnds : Type 0 where
  pub after_stop : ComesTo (since_sent (abort 0x6C) (from_here since_stopped)) (acknowledged_once ++ ended_with_reply (declined_for Aborted) (declined_reply Aborted)) (Ready 0)
  pub after_wish : ComesTo (since_sent (abort 0x6C) (from_here (since_sent ack (since_abort (codes "1") since_asked_for)))) (acknowledged_once ++ ended_with_reply (declined_for Aborted) (declined_reply Aborted)) (Ready 0)
  pub before_stop : ComesTo (since_sent (abort 0x6C) since_acknowledged) (acknowledged_once ++ ended_with_reply (declined_for Cancel) (declined_reply Cancel)) (Ready 0)
  pub approved :
      ComesTo (since_sent completion (since_sent approved_status (since_sent (0x84 ∷ 0x83 ∷ 0x00 ∷ []) (from_here since_stopped))))
      (acknowledged_once ++ acknowledged_once ++ ended_with_reply (approved_with_amount 1099) (approved_reply 1099)) (Ready 123)

-- ---- an end of day, and a display

-- the end of day with ServiceID 1 has begun
abbrev pub since_day : Since
since_day = from_here since_day_begun

-- the terminal has acknowledged it
abbrev pub since_day_acknowledged : Since
since_day_acknowledged = from_here (since_sent ack since_day_begun)

-- the standing of the terminal that serves it
abbrev pub serving_the_day : Standing
serving_the_day = Serving (EndOfDay header_of_day AcquirerReconciliation) 122

-- what is kept of it where it is done
abbrev pub settled_day : TheSettled
settled_day = record { how = hows.Acquirer; sale = codes "S1"; poi = codes "T1"; service = codes "1"; currency = Eur; moment = pos paid_at }

-- it fails for this reason
abbrev pub day_fails : Condition → List OwedCall
day_fails condition = SendTill 1 (failure_reply header_of_day condition) ∷ []

-- An end of day is stopped as a payment is. The terminal aborts with the code 6C: after a stop that is `Aborted`, and without one `Cancel`. It may be done all the same: then its Settled is kept.
pub record ExampleDayAborted : Type 0 where
  pub at_once : ComesTo (since_abort (codes "1") since_day_acknowledged) stopped_once serving_the_day
  pub wished : ComesTo (since_abort (codes "1") since_day) [] serving_the_day
  pub then_sent : ComesTo (since_sent ack (since_abort (codes "1") since_day)) stopped_once serving_the_day
  pub twice : ComesTo (since_abort (codes "1") (since_abort (codes "1") since_day_acknowledged)) stopped_once serving_the_day
  pub refused : ComesTo (since_sent (0x84 ∷ 0x83 ∷ 0x00 ∷ []) (since_abort (codes "1") since_day_acknowledged)) stopped_once serving_the_day
  pub another : ComesTo (since_abort (codes "2") since_day_acknowledged) (SendTill 1 abort_reject ∷ []) serving_the_day
  pub after_stop : ComesTo (since_sent (abort 0x6C) (from_here (since_abort (codes "1") since_day_acknowledged))) (acknowledged_once ++ day_fails Aborted) (Ready 122)
  pub before_stop : ComesTo (since_sent (abort 0x6C) since_day_acknowledged) (acknowledged_once ++ day_fails Cancel) (Ready 122)
  pub done :
      ComesTo (since_sent completion (from_here (since_abort (codes "1") since_day_acknowledged)))
      (acknowledged_once ++ keep_calls 0 (Settled settled_day) ++ SendTill 1 (Finished (header_of_reply header_of_day) (Reconciled AcquirerReconciliation Eur (0, 0) (0, 0))) ∷ []) (Ready 122)
  pub over : ComesTo (since_abort (codes "1") (from_here (since_sent completion since_day_acknowledged))) (SendTill 1 abort_reject ∷ []) (Ready 122)

-- the header of the Display with ServiceID 1
abbrev pub header_to_show : Header
header_to_show = record (till_header (codes "Display") (codes "1")) { class = classes.Device; device = Some (codes "1") }

-- after till 1 asks for it: one line for the customer's display, without a response
abbrev pub since_display : Since → Since
since_display since = since_asked 1 header_to_show (requests.Display (record { device = codes "CustomerDisplay"; qualify = codes "Display"; required = false; texts = Some (codes "HELLO" ∷ []) } ∷ [])) since

-- it has begun
abbrev pub since_shown : Since
since_shown = from_here (since_display (since_ready 122))

-- an Abort of a display is refused, and nothing is stopped, also once the display is acknowledged
pub record ExampleDisplayAborted : Type 0 where
  pub refused : ComesTo (since_abort (codes "1") since_shown) (SendTill 1 abort_reject ∷ []) (Serving (Display header_to_show None) 122)
  pub then_shown : ComesTo (since_sent ack (since_abort (codes "1") since_shown)) (SendTill 1 abort_reject ∷ []) (Ready 122)

-- ---- the late Ack or Nack of a stop

-- the key is aborted, and approved all the same before the stop is acknowledged or refused
abbrev pub since_approved_despite_stop : Since → Since
since_approved_despite_stop since = from_here (since_sent completion (since_sent approved_status (since_abort (codes "1") (since_sent ack (since_payment 1 (codes "1") 1099 since)))))

-- a second payment, of 5.00, begins before the stop is acknowledged or refused
abbrev pub since_second_payment : Since → Since
since_second_payment since = from_here (since_payment 1 (codes "2") 500 (since_approved_despite_stop since))

-- the first one on a link on which nothing was sent yet but the way to ready
abbrev pub since_second_begun : Since
since_second_begun = since_second_payment (since_ready 0)

-- the same after a stray acknowledgement, which pays for nothing
abbrev pub since_second_after_stray : Since
since_second_after_stray = since_second_payment (since_sent ack (since_ready 0))

-- a refusal comes: that of the stop, or of the second payment
abbrev pub since_refusal : Since → Since
since_refusal since = since_sent (0x84 ∷ 0x83 ∷ 0x00 ∷ []) since

-- the refusal declines nothing: the connection is cut, and the second payment's key stays open; after a stray acknowledgement all that is known and owed then is the same, so that what follows is too
pub record ExampleLateRefusal : Type 0 where
  pub cut : ComesTo (since_refusal since_second_begun) (CutPt 0 ∷ []) (Unlinked (Some 1741342269))
  pub after_stray : ComesTo (since_refusal since_second_after_stray) (CutPt 0 ∷ []) (Unlinked (Some 1741342269))
  pub as_without_stray : since_refusal since_second_after_stray ≡ since_refusal since_second_begun
  pub in_progress :
      ComesTo (since_status 1 (codes "2") (from_here (since_refusal since_second_begun)))
      (SendTill 1 (failure_reply (till_header (codes "TransactionStatus") (codes "3")) InProgress) ∷ []) (Unlinked (Some 1741342269))

-- ---- the enquiry finds the truth

-- the terminal is linked again, registers and is enquired
abbrev pub since_second_enquired : Since
since_second_enquired = from_here (since_sent ack (since_sent completion (since_sent ack (since_linked LinkIsMade (since_refusal since_second_begun)))))

-- a Status of 5.00, approved with trace number 124 and receipt number 18
abbrev pub second_status : List ℕ
second_status = 0x04 ∷ 0x0F ∷ 0x10 ∷ 0x27 ∷ 0x00 ∷ 0x04 ∷ 0x00 ∷ 0x00 ∷ 0x00 ∷ 0x00 ∷ 0x05 ∷ 0x00 ∷ 0x0B ∷ 0x00 ∷ 0x01 ∷ 0x24 ∷ 0x87 ∷ 0x00 ∷ 0x18 ∷ []

-- the second payment's approval
abbrev pub second_approved : TheOutcome
second_approved = record { approved = true; slot = 2; number = 124; receipt = 18; amount = 500; condition = None; moment = pos paid_at }

-- its decline
abbrev pub second_aborted : TheOutcome
second_aborted = record { approved = false; slot = 2; number = 0; receipt = 0; amount = 0; condition = Some Aborted; moment = pos paid_at }

-- the reply to its approval
abbrev pub second_reply : ReplyValue
second_reply =
    Finished (paid_header (codes "2"))
    (PaymentApproved (codes "27908") (codes "2025-03-07T10:11:04+00:00") (record { number = 124; receipt = 18; slot = 2; moment = pos paid_at }) 500 (record { minor = 500; currency = Eur }))

-- the reply to its decline
abbrev pub second_aborted_reply : ReplyValue
second_aborted_reply =
    Finished (paid_header (codes "2")) (PaymentDeclined (codes "27908") (codes "2025-03-07T10:11:04+00:00") (record { number = 0; receipt = 0; slot = 2; moment = pos paid_at }) Aborted)

-- the Outcome of the second payment is kept in slot 3, and then till 1 gets this reply
abbrev pub second_ended : TheOutcome → ReplyValue → List OwedCall
second_ended outcome reply = keep_calls 3 (Outcome outcome) ++ SendTill 1 reply ∷ []

-- the second payment is approved where the terminal reports it, and `Aborted` where the first is still its last transaction
pub record ExampleEnquiredAfterStop : Type 0 where
  pub approved : ComesTo (since_sent completion (since_sent second_status since_second_enquired)) (acknowledged_once ++ acknowledged_once ++ second_ended second_approved second_reply) (Ready 124)
  pub unperformed : ComesTo (since_sent completion (since_sent paid_status since_second_enquired)) (acknowledged_once ++ acknowledged_once ++ second_ended second_aborted second_aborted_reply) (Ready 123)

-- ---- the late one is an acknowledgement

-- it begins the second payment as its own would, and the one that comes then has no effect
abbrev pub since_second_acknowledged : Since
since_second_acknowledged = since_sent ack (since_sent ack since_second_begun)

-- the second payment goes on, and is approved; a refusal in place of its own acknowledgement declines nothing either
pub record ExampleLateAcknowledgement : Type 0 where
  pub goes_on : ComesTo since_second_acknowledged [] (Serving (Transaction 2) 123)
  pub approved : ComesTo (since_sent completion (since_sent second_status since_second_acknowledged)) (acknowledged_once ++ acknowledged_once ++ second_ended second_approved second_reply) (Ready 124)
  pub refused : ComesTo (since_refusal (since_sent ack since_second_begun)) [] (Serving (Transaction 2) 123)
