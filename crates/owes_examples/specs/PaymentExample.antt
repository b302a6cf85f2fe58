-- Closed examples of payments: what a till asks, what its terminal sends, and what is then owed, kept and remembered.
use Rattle.std.specs.Prelude.{◌≡◌, ℕ, true, List, [], ◌∷◌, ◌++◌, Some, codes}
use Rattle.std.specs.Option.{option_map}
use Rattle.gw_base.specs.declared.condition.Condition.{Condition}
use Rattle.gw_base.specs.declared.condition.Condition.TheVariants.{Aborted, Busy, Cancel, InProgress, NotAllowed, Refusal, UnavailableService}
use Rattle.gw_site.specs.Outside.{is_connected}
use Rattle.sale_values.specs.declared.header.Header.{Header}
use Rattle.sale_values.specs.declared.names.Period.TheVariants.{AcquirerReconciliation}
use Rattle.sale_values.specs.declared.request.SaleRequest.TheVariants as requests
use Rattle.zvt_msg.specs.declared.command.Command.TheVariants as commands
use Rattle.zvt_talk.specs.TalkSteps.{talk_after_stop_wished}
use Rattle.jrn_record.specs.declared.records.Record.TheVariants.{Intent, Outcome}
use Rattle.gw_owes.specs.declared.terminal.Service.TheVariants.{Transaction, EndOfDay}
use Rattle.gw_owes.specs.declared.terminal.Standing.TheVariants.{Unlinked, Ready, Serving, Aside}
use Rattle.gw_owes.specs.declared.terminal.Terminal.{Terminal}
use Rattle.gw_owes.specs.Calls.{Ask, OwedCall, SendTill, SendPt, CutPt, keep_calls, sending_bytes}
use Rattle.gw_owes.specs.Core.{new_terminal}
use Rattle.gw_owes.specs.Diagnosis.{named_terminal}
use Rattle.gw_owes.specs.Items.{Asked, Gone, Serve}
use Rattle.gw_owes.specs.Links.{LinkIsLost}
use Rattle.gw_owes.specs.PaymentLaws.{BeginsThere, BeginsToServe}
use Rattle.gw_owes.specs.ReadAs.{Request}
use Rattle.gw_owes.specs.Replies.{failure_reply}
use Rattle.gw_owes.specs.Rows.{row_of}
use Rattle.gw_owes.specs.StepLaws.{has_steps}
use Rattle.gw_owes.specs.Steps.{Begins, step_result}
use Rattle.gw_owes.specs.Terminals.{terminal_at}
use Rattle.gw_owes.specs.TerminalExample.{one_pt, ack, completion, abort, approved_status}
use Rattle.gw_owes.specs.PaymentExample.{Since, two_tills, since_item, since_asked, since_sent, since_linked, since_ready, till_header, ask_of, since_payment, since_status, payment_failure, intent_after, approved_with_amount, declined_for, approved_reply, declined_reply, ComesTo, acknowledged_once, ended_with_reply, since_begun, begun_calls, since_reported, reported_calls, since_approved, approved_calls}

-- ---- what is known at first

-- this terminal, with trace number 122
abbrev pub ready_terminal : Terminal
ready_terminal = record (new_terminal one_pt) { standing = Ready 122 }

-- the same with so many slots
abbrev pub with_slot_count : ℕ → Since → Since
with_slot_count slots since = record since { known = record since.known { setup = record since.known.setup { slots = slots } } }

-- ---- a payment begins

-- the terminal serves the payment, and there is no reply yet; the command in bytes
pub record ExamplePaymentBegins : Type 0 where
  pub begins : ComesTo (since_begun 0) (begun_calls 0) (Serving (Transaction 0) 0)
  pub command : sending_bytes (Ask (commands.Authorise 1099 978)) ≡ 0x06 ∷ 0x01 ∷ 0x0A ∷ 0x04 ∷ 0x00 ∷ 0x00 ∷ 0x00 ∷ 0x00 ∷ 0x10 ∷ 0x99 ∷ 0x49 ∷ 0x09 ∷ 0x78 ∷ []
  pub last_number : ComesTo (since_begun 122) (begun_calls 122) (Serving (Transaction 0) 122)
  pub acknowledged : ComesTo (since_sent ack (since_begun 0)) (begun_calls 0) (Serving (Transaction 0) 0)

-- till 1 asks for 10.99 at a terminal that is ready with trace number 122: the terminal is named, the steps come to the last one, and so the payment begins there, and is served
pub record ExamplePaymentAccepted : Type 0 where
  pub there : is_connected two_tills 1 ≡ true
  pub named : named_terminal (since_ready 122).known.core (codes "T1") ≡ Some (record { number = 0; terminal = ready_terminal })
  pub found : terminal_at (since_ready 122).known 0 ≡ Some ready_terminal
  pub ready : ready_terminal.standing ≡ Ready 122
  pub begins : step_result (since_ready 122).known (till_header (codes "Payment") (codes "1")) (requests.Payment (ask_of 1099)) (Some (record { number = 0; terminal = ready_terminal })) ≡ Begins
  pub steps : has_steps (requests.Payment (ask_of 1099)) ≡ true
  pub item : BeginsThere 1 (till_header (codes "Payment") (codes "1")) (requests.Payment (ask_of 1099)) 0 (row_of two_tills (since_ready 122).known (Asked 1 (Request (till_header (codes "Payment") (codes "1")) (requests.Payment (ask_of 1099)))))
  pub served :
      BeginsToServe (since_ready 122).known 1 (till_header (codes "Payment") (codes "1")) (ask_of 1099) 0 ready_terminal 122
      (row_of two_tills (since_ready 122).known (Serve 0 1 (till_header (codes "Payment") (codes "1")) (requests.Payment (ask_of 1099))))

-- the terminal can't be sent the command: the Intent is kept, the connection is cut, and the payment is in progress
abbrev pub since_failed_send : Since
since_failed_send = since_linked LinkIsLost (since_begun 0)

-- a payment whose command can't be sent stays open
pub record ExampleCommandFails : Type 0 where
  pub lost : ComesTo since_failed_send (begun_calls 0) (Unlinked (Some 1741342269))
  pub status : ComesTo (since_status 1 (codes "1") since_failed_send) (begun_calls 0 ++ SendTill 1 (failure_reply (till_header (codes "TransactionStatus") (codes "3")) InProgress) ∷ []) (Unlinked (Some 1741342269))

-- ---- it is approved

-- the same status with the amount 9.00
abbrev pub partial_status : List ℕ
partial_status = 0x04 ∷ 0x0F ∷ 0x10 ∷ 0x27 ∷ 0x00 ∷ 0x04 ∷ 0x00 ∷ 0x00 ∷ 0x00 ∷ 0x00 ∷ 0x09 ∷ 0x00 ∷ 0x0B ∷ 0x00 ∷ 0x01 ∷ 0x23 ∷ 0x87 ∷ 0x00 ∷ 0x17 ∷ []

-- the same with an unknown field after the others
abbrev pub status_with_tail : List ℕ
status_with_tail =
    0x04 ∷ 0x0F ∷ 0x13 ∷ 0x27 ∷ 0x00 ∷ 0x04 ∷ 0x00 ∷ 0x00 ∷ 0x00 ∷ 0x00 ∷ 0x10 ∷ 0x99 ∷ 0x0B ∷ 0x00 ∷ 0x01 ∷ 0x23 ∷ 0x87 ∷ 0x00 ∷ 0x17 ∷ 0xE5 ∷ 0x01 ∷ 0x02 ∷ []

-- the same with the unknown field before them, so that none of them is read
abbrev pub unknown_status : List ℕ
unknown_status =
    0x04 ∷ 0x0F ∷ 0x13 ∷ 0xE5 ∷ 0x01 ∷ 0x02 ∷ 0x27 ∷ 0x00 ∷ 0x04 ∷ 0x00 ∷ 0x00 ∷ 0x00 ∷ 0x00 ∷ 0x10 ∷ 0x99 ∷ 0x0B ∷ 0x00 ∷ 0x01 ∷ 0x23 ∷ 0x87 ∷ 0x00 ∷ 0x17 ∷ []

-- The Outcome is kept in slot 1, with the terminal's figures, and then the till gets the reply: also where the terminal approves 9.00 of the 10.99. Where the till is gone the Outcome is kept all the same.
pub record ExampleApproved : Type 0 where
  pub approved : ComesTo since_approved approved_calls (Ready 123)
  pub partially : ComesTo (since_reported partial_status 0) (reported_calls 0 ++ ended_with_reply (approved_with_amount 900) (approved_reply 900)) (Ready 123)
  pub with_tail : ComesTo (since_reported status_with_tail 0) approved_calls (Ready 123)
  pub till_gone : ComesTo (since_sent completion (since_sent approved_status (since_sent ack (since_item (since_begun 0) (Gone 1))))) (reported_calls 0 ++ keep_calls 1 (Outcome (approved_with_amount 1099))) (Ready 123)

-- a trace number that is the one before, or below it, is not believed: nothing is kept, the till gets no reply, and the terminal is set aside
pub record ExampleNotAbove : Type 0 where
  pub equal : ComesTo (since_reported approved_status 123) (reported_calls 123) (Aside 123 123)
  pub below : ComesTo (since_reported approved_status 124) (reported_calls 124) (Aside 124 123)

-- ---- the end is unclear

-- where it is completed without a status that can be read, or aborted without a code, the connection is cut, and the payment stays in progress
pub record ExampleUnclearEnd : Type 0 where
  pub without_status : ComesTo (since_sent completion (since_sent ack (since_begun 0))) (begun_calls 0 ++ acknowledged_once ++ CutPt 0 ∷ []) (Unlinked (Some 1741342269))
  pub unknown_field : ComesTo (since_reported unknown_status 0) (reported_calls 0 ++ CutPt 0 ∷ []) (Unlinked (Some 1741342269))
  pub without_code : ComesTo (since_sent (0x06 ∷ 0x1E ∷ 0x00 ∷ []) (since_sent ack (since_begun 0))) (begun_calls 0 ++ acknowledged_once ++ CutPt 0 ∷ []) (Unlinked (Some 1741342269))
  pub repeated :
      ComesTo (since_payment 1 (codes "1") 1099 (since_reported unknown_status 0)) (reported_calls 0 ++ CutPt 0 ∷ SendTill 1 (payment_failure (codes "1") InProgress) ∷ []) (Unlinked (Some 1741342269))

-- ---- it is declined

-- a Status with the result code 05 alone
abbrev pub declined_status : List ℕ
declined_status = 0x04 ∷ 0x0F ∷ 0x02 ∷ 0x27 ∷ 0x05 ∷ []

-- the same with trace number 124
abbrev pub declined_status_with_trace : List ℕ
declined_status_with_trace = 0x04 ∷ 0x0F ∷ 0x06 ∷ 0x27 ∷ 0x05 ∷ 0x0B ∷ 0x00 ∷ 0x01 ∷ 0x24 ∷ []

-- a stop is wished of the terminal that serves the payment
abbrev pub wishing_stop : Since → Since
wishing_stop since = record since { known = record since.known { core = record since.known.core { terminals = terminals_wished since.known.core.terminals } } }
  where
    terminals_wished : List Terminal → List Terminal
    terminals_wished [] = []
    terminals_wished (terminal ∷ terminals) = record terminal { talk = option_map talk_after_stop_wished terminal.talk } ∷ terminals

-- The condition of the code is kept, and then the till gets it: where the payment is refused, which nothing acknowledges, where it is aborted, by itself or after a stop, and where its last status has another result code, whose trace number is the last one from then on.
pub record ExampleDeclined : Type 0 where
  pub refused : ComesTo (since_sent (0x84 ∷ 0x83 ∷ 0x00 ∷ []) (since_begun 0)) (begun_calls 0 ++ ended_with_reply (declined_for UnavailableService) (declined_reply UnavailableService)) (Ready 0)
  pub aborted : ComesTo (since_sent (abort 0x6C) (since_sent ack (since_begun 0))) (begun_calls 0 ++ acknowledged_once ++ ended_with_reply (declined_for Cancel) (declined_reply Cancel)) (Ready 0)
  pub stopped :
      ComesTo (since_sent (abort 0x6C) (since_sent ack (wishing_stop (since_begun 0))))
      (begun_calls 0 ++ SendPt 0 (Ask commands.Stop) ∷ acknowledged_once ++ ended_with_reply (declined_for Aborted) (declined_reply Aborted)) (Ready 0)
  pub by_status : ComesTo (since_reported declined_status 122) (reported_calls 122 ++ ended_with_reply (declined_for Refusal) (declined_reply Refusal)) (Ready 122)
  pub with_trace : ComesTo (since_reported declined_status_with_trace 122) (reported_calls 122 ++ ended_with_reply (declined_for Refusal) (declined_reply Refusal)) (Ready 124)

-- ---- a second request

-- The payment again gets its reply again, and asks no terminal; with another amount it is refused. A second one while the first is served finds the terminal busy, and the first is in progress. One after it is begun with its trace number.
pub record ExampleSecondRequest : Type 0 where
  pub again : ComesTo (since_payment 1 (codes "1") 1099 since_approved) (approved_calls ++ SendTill 1 (approved_reply 1099) ∷ []) (Ready 123)
  pub other_amount : ComesTo (since_payment 1 (codes "1") 1100 since_approved) (approved_calls ++ SendTill 1 (payment_failure (codes "1") NotAllowed) ∷ []) (Ready 123)
  pub busy : ComesTo (since_payment 2 (codes "2") 500 (since_begun 0)) (begun_calls 0 ++ SendTill 2 (payment_failure (codes "2") Busy) ∷ []) (Serving (Transaction 0) 0)
  pub in_progress :
      ComesTo (since_status 2 (codes "1") (since_begun 0)) (begun_calls 0 ++ SendTill 2 (failure_reply (till_header (codes "TransactionStatus") (codes "3")) InProgress) ∷ []) (Serving (Transaction 0) 0)
  pub next :
      ComesTo (since_payment 1 (codes "2") 500 since_approved)
      (approved_calls ++ keep_calls 2 (Intent (record (intent_after 123) { service = codes "2"; amount = 500 })) ++ SendPt 0 (Ask (commands.Authorise 500 978)) ∷ []) (Serving (Transaction 2) 123)

-- two slots are enough for a payment, and one is not; after it none is left for a second
pub record ExampleRoom : Type 0 where
  pub enough : ComesTo (since_payment 1 (codes "1") 1099 (with_slot_count 2 (since_ready 0))) (begun_calls 0) (Serving (Transaction 0) 0)
  pub too_few : ComesTo (since_payment 1 (codes "1") 1099 (with_slot_count 1 (since_ready 0))) (SendTill 1 (payment_failure (codes "1") UnavailableService) ∷ []) (Ready 0)
  pub second : ComesTo (since_payment 1 (codes "2") 500 (with_slot_count 2 since_approved)) (approved_calls ++ SendTill 1 (payment_failure (codes "2") UnavailableService) ∷ []) (Ready 123)

-- ---- while an end of day is served

-- the header of an end of day with ServiceID 1
abbrev pub header_of_day : Header
header_of_day = till_header (codes "Reconciliation") (codes "1")

-- till 1 asks for it at a terminal that is ready with trace number 122
abbrev pub since_day_begun : Since
since_day_begun = since_asked 1 header_of_day (requests.Reconciliation AcquirerReconciliation) (since_ready 122)

-- the terminal is asked for it, and nothing is kept
abbrev pub day_begun_calls : List OwedCall
day_begun_calls = SendPt 0 (Ask (commands.EndOfDay one_pt.password)) ∷ []

-- then this till asks for a payment of 10.99 under this ServiceID, and it fails for this reason: the terminal is asked nothing more
pub record FailsBesideDay (till : ℕ) (service : List ℕ) (slots : ℕ) (condition : Condition) : Type 0 where
  pub fails : ComesTo (since_payment till service 1099 (with_slot_count slots since_day_begun)) (day_begun_calls ++ SendTill till (payment_failure service condition) ∷ []) (Serving (EndOfDay header_of_day AcquirerReconciliation) 122)

-- A payment under the key of the end of day isn't allowed, whichever till asks, also where there is no room for it. One under another key finds the terminal busy where there is room for it and for the Settled, which is three slots, and with two there is none.
pub record ExampleBesideDay : Type 0 where
  pub same_key : FailsBesideDay 1 (codes "1") 3 NotAllowed
  pub other_till : FailsBesideDay 2 (codes "1") 2 NotAllowed
  pub other_key : FailsBesideDay 2 (codes "2") 3 Busy
  pub no_room : FailsBesideDay 2 (codes "2") 2 UnavailableService
