-- Closed examples of requests that wait: which join, which are begun and when, what an Abort, a deadline and a till that goes take out, and what other requests get meanwhile.
use Rattle.std.specs.Prelude.{◌≡◌, ℕ, zero, suc, ◌+◌, pos, true, false, List, [], ◌∷◌, ◌++◌, map, slice_get, Some, None, codes}
use Rattle.std.specs.Option.{option_map}
use Rattle.gw_base.specs.declared.condition.Condition.{Condition}
use Rattle.gw_base.specs.declared.condition.Condition.TheVariants.{Aborted, Busy, InProgress, NotAllowed, NotFound, UnavailableService}
use Rattle.gw_base.specs.declared.currency.Currency.TheVariants.{Eur}
use Rattle.sale_values.specs.declared.names.Period.TheVariants.{AcquirerReconciliation}
use Rattle.sale_values.specs.declared.request.SaleRequest.{SaleRequest}
use Rattle.sale_reply.specs.declared.reply.Told.TheVariants.{PaymentApproved}
use Rattle.zvt_msg.specs.declared.command.Command.TheVariants as commands
use Rattle.jrn_record.specs.declared.records.Intent.{Intent as TheIntent}
use Rattle.jrn_record.specs.declared.records.Record.TheVariants.{Intent, Outcome}
use Rattle.gw_ledger.specs.Premises.{fourth, second_reversal}
use Rattle.gw_owes.specs.declared.terminal.Service.TheVariants.{Transaction, EndOfDay, Display}
use Rattle.gw_owes.specs.declared.terminal.Standing.{Standing}
use Rattle.gw_owes.specs.declared.terminal.Standing.TheVariants.{Ready, Serving}
use Rattle.gw_owes.specs.declared.terminal.Terminal.{Terminal}
use Rattle.owes_examples.specs.AbortExample.{since_abort}
use Rattle.gw_owes.specs.Calls.{Ask, OwedCall, SendTill, SendPt, keep_calls, records_kept}
use Rattle.gw_owes.specs.Core.{Wait, new_terminal, no_core}
use Rattle.owes_examples.specs.DayExample.{day_asked, since_day}
use Rattle.gw_owes.specs.Diagnosis.{named_terminal}
use Rattle.gw_owes.specs.Events.{items_due, pt_bytes_items}
use Rattle.gw_owes.specs.Items.{RoundItem, Gone, NextWaiting, Queue}
use Rattle.gw_owes.specs.PaymentExample.{Since, acknowledged_once, approved_reply, approved_with_amount, begun_calls, ended_with_reply, intent_after, paid_at, paid_header, payment_failure, since_item, since_payment, since_ready, since_status, till_header, two_tills}
use Rattle.owes_examples.specs.PaymentExample.{with_slot_count}
use Rattle.owes_examples.specs.RecordExample.{ready_known}
use Rattle.gw_owes.specs.RecordLaws.{IsInOrder, IsReadItem}
use Rattle.gw_owes.specs.Replies.{failure_reply}
use Rattle.gw_owes.specs.Reply.{ReplyValue, Finished}
use Rattle.gw_owes.specs.Requests.{request_reply}
use Rattle.gw_owes.specs.Row.{Known}
use Rattle.gw_owes.specs.Rows.{row_of}
use Rattle.owes_examples.specs.SessionExample.{logout_success, since_logout}
use Rattle.gw_owes.specs.StepExample.{asked_at, euros, payment_header}
use Rattle.owes_examples.specs.StepExample.{asking_header, day_pt, reversal_header, reversal_of_text, status_of_service}
use Rattle.gw_owes.specs.Steps.{Waits, refused_again, step_result}
use Rattle.gw_owes.specs.TerminalExample.{ack, approved_status, completion}
use Rattle.gw_owes.specs.WaitingLaws.{AreWaitsInOrder, FirstIsNext, JoinsQueue, TakesItsOwn, may_wait}
use Rattle.gw_owes.specs.WaitingRows.{is_overdue, wait_of}
use Rattle.gw_owes.specs.Waits.{core_with_wait, waiting_for}

-- ---- what happens

-- after these items, each followed by those that it brings, and so many in all
abbrev pub since_through : ℕ → List RoundItem → Since → Since
since_through zero items since = since
since_through (suc most) [] since = since
since_through (suc most) (item ∷ items) since = since_through most ((row_of two_tills since.known item).items ++ items) (since_item since item)

-- after bytes of the terminal
abbrev pub since_heard : List ℕ → Since → Since
since_heard bytes since = since_through 8 (pt_bytes_items 0 [] bytes) since

-- at this moment
abbrev pub since_moment : ℕ → Since → Since
since_moment moment since = record since { known = record since.known { moment = moment } }

-- after what is due at this moment
abbrev pub since_due : ℕ → Since → Since
since_due moment since = since_through 8 (items_due since.known.core) (since_moment moment since)

-- a gateway whose one terminal is ready; so many requests may wait for it, for ten seconds
abbrev pub since_queueing : ℕ → Since
since_queueing line = record (since_ready 0) { known = record (since_ready 0).known { setup = record (since_ready 0).known.setup { line = line; wait = 10 } } }

-- till 1 asks for 10.99 with ServiceID 1 and for 20.00 with 2
abbrev pub since_two : ℕ → Since
since_two line = since_payment 1 (codes "2") 2000 (since_payment 1 (codes "1") 1099 (since_queueing line))

-- and for 30.00 with 3
abbrev pub since_three : ℕ → Since
since_three line = since_payment 1 (codes "3") 3000 (since_two line)

-- and for 40.00 with 4
abbrev pub since_four : ℕ → Since
since_four line = since_payment 1 (codes "4") 4000 (since_three line)

-- the payment with ServiceID 1 is approved
abbrev pub since_first_ended : Since → Since
since_first_ended since = since_heard completion (since_heard approved_status (since_heard ack since))

-- ---- what is seen of it

-- what was owed, the standing of the terminal then, and the ServiceIDs of those that wait
pub record ComesToQueue (since : Since) (calls : List OwedCall) (standing : Standing) (services : List (List ℕ)) : Type 0 where
  pub calls_are : since.calls ≡ calls
  pub standing_is : option_map (λ (terminal : Terminal). terminal.standing) (slice_get since.known.core.terminals 0) ≡ Some standing
  pub services_are : map (λ (wait : Wait). wait.key.service) since.known.core.waits ≡ services

-- the till of this number gets a Failure of the payment with this ServiceID
abbrev pub refuses_payment : ℕ → List ℕ → Condition → OwedCall
refuses_payment till service condition = SendTill till (payment_failure service condition)

-- the first payment ends: its status and its completion are acknowledged, and its Outcome is kept
abbrev pub first_ended_calls : List OwedCall
first_ended_calls = acknowledged_once ++ acknowledged_once ++ ended_with_reply (approved_with_amount 1099) (approved_reply 1099)

-- the Intent of the second payment, with the trace number of the first before it
abbrev pub second_intent : TheIntent
second_intent = record (intent_after 123) { service = codes "2"; amount = 2000 }

-- it is begun in slot 2
abbrev pub second_begun_calls : List OwedCall
second_begun_calls = keep_calls 2 (Intent second_intent) ++ SendPt 0 (Ask (commands.Authorise 2000 978)) ∷ []

-- the terminal serves the first payment
abbrev pub serving_first : Standing
serving_first = Serving (Transaction 0) 0

-- ---- a queue

-- Three payments wait, and the one in the middle is aborted: its till gets a Failure. Once the first ends the second is begun, with its trace number as the number before, and the fourth waits on.
pub record ExampleQueue : Type 0 where
  pub joined : ComesToQueue (since_four 3) (begun_calls 0) serving_first (codes "2" ∷ codes "3" ∷ codes "4" ∷ [])
  pub aborted : ComesToQueue (since_abort (codes "3") (since_four 3)) (begun_calls 0 ++ refuses_payment 1 (codes "3") Aborted ∷ []) serving_first (codes "2" ∷ codes "4" ∷ [])
  pub next :
      ComesToQueue (since_first_ended (since_abort (codes "3") (since_four 3))) (begun_calls 0 ++ refuses_payment 1 (codes "3") Aborted ∷ first_ended_calls ++ second_begun_calls) (Serving (Transaction 2) 123)
      (codes "4" ∷ [])

-- one more than may wait is refused with `Busy`, and so is each where none may
pub record ExampleBusyQueue : Type 0 where
  pub none_may : ComesToQueue (since_two 0) (begun_calls 0 ++ refuses_payment 1 (codes "2") Busy ∷ []) serving_first []
  pub one_may : ComesToQueue (since_three 1) (begun_calls 0 ++ refuses_payment 1 (codes "3") Busy ∷ []) serving_first (codes "2" ∷ [])
  pub three_may : ComesToQueue (since_payment 2 (codes "5") 5000 (since_four 3)) (begun_calls 0 ++ refuses_payment 2 (codes "5") Busy ∷ []) serving_first (codes "2" ∷ codes "3" ∷ codes "4" ∷ [])

-- two slots are reserved for each that waits: with five slots a second may wait no more, and with six it may
pub record ExampleQueueRoom : Type 0 where
  pub lacks : ComesToQueue (since_payment 1 (codes "3") 3000 (with_slot_count 5 (since_two 3))) (begun_calls 0 ++ refuses_payment 1 (codes "3") UnavailableService ∷ []) serving_first (codes "2" ∷ [])
  pub left : ComesToQueue (since_payment 1 (codes "3") 3000 (with_slot_count 6 (since_two 3))) (begun_calls 0) serving_first (codes "2" ∷ codes "3" ∷ [])

-- ---- the key of one that waits

-- The same payment again is in progress, and so is its key for a TransactionStatus; with another amount, or as an end of day, it isn't allowed. Nothing of it waits twice.
pub record ExampleWaitingAgain : Type 0 where
  pub again : ComesToQueue (since_payment 2 (codes "2") 2000 (since_two 3)) (begun_calls 0 ++ refuses_payment 2 (codes "2") InProgress ∷ []) serving_first (codes "2" ∷ [])
  pub other_amount : ComesToQueue (since_payment 1 (codes "2") 2001 (since_two 3)) (begun_calls 0 ++ refuses_payment 1 (codes "2") NotAllowed ∷ []) serving_first (codes "2" ∷ [])
  pub status : ComesToQueue (since_status 1 (codes "2") (since_two 3)) (begun_calls 0 ++ SendTill 1 (failure_reply (till_header (codes "TransactionStatus") (codes "3")) InProgress) ∷ []) serving_first (codes "2" ∷ [])
  pub other_category :
      ComesToQueue (since_day (codes "2") (since_two 3)) (begun_calls 0 ++ SendTill 1 (failure_reply (till_header (codes "Reconciliation") (codes "2")) NotAllowed) ∷ []) serving_first (codes "2" ∷ [])

-- ---- deadlines

-- A payment that has waited for ten seconds is refused, and not before; the one that is served goes on.
pub record ExampleDeadline : Type 0 where
  pub early : ComesToQueue (since_due (paid_at + 9) (since_heard ack (since_two 1))) (begun_calls 0) serving_first (codes "2" ∷ [])
  pub overdue : ComesToQueue (since_due (paid_at + 10) (since_heard ack (since_two 1))) (begun_calls 0 ++ refuses_payment 1 (codes "2") Aborted ∷ []) serving_first []
  pub goes_on : ComesToQueue (since_heard completion (since_heard approved_status (since_moment paid_at (since_due (paid_at + 10) (since_heard ack (since_two 1)))))) (begun_calls 0 ++ refuses_payment 1 (codes "2") Aborted ∷ first_ended_calls) (Ready 123) []

-- till 1 asks for the second and the fourth payment five seconds later than for the third
abbrev pub since_mixed : Since
since_mixed =
    since_payment 1 (codes "4") 4000 (since_moment (paid_at + 5)
    (since_payment 1 (codes "3") 3000 (since_moment paid_at
    (since_payment 1 (codes "2") 2000 (since_moment (paid_at + 5) (since_heard ack (since_payment 1 (codes "1") 1099 (since_queueing 3))))))))

-- Those with the same deadline are refused in the order of their acceptance, and one with an earlier deadline is refused before them.
pub record ExampleDeadlineOrder : Type 0 where
  pub same : ComesToQueue (since_due (paid_at + 10) (since_heard ack (since_three 3))) (begun_calls 0 ++ refuses_payment 1 (codes "2") Aborted ∷ refuses_payment 1 (codes "3") Aborted ∷ []) serving_first []
  pub earlier : ComesToQueue (since_due (paid_at + 10) since_mixed) (begun_calls 0 ++ refuses_payment 1 (codes "3") Aborted ∷ []) serving_first (codes "2" ∷ codes "4" ∷ [])
  pub all : ComesToQueue (since_due (paid_at + 15) since_mixed) (begun_calls 0 ++ refuses_payment 1 (codes "3") Aborted ∷ refuses_payment 1 (codes "2") Aborted ∷ refuses_payment 1 (codes "4") Aborted ∷ []) serving_first []

-- ---- tills

-- the Outcome of the first payment is kept, and no till gets anything
abbrev pub kept_alone : List OwedCall
kept_alone = acknowledged_once ++ acknowledged_once ++ keep_calls 1 (Outcome (approved_with_amount 1099))

-- A till that goes takes its requests with it, which get nothing, and no others; what it had begun goes on.
pub record ExampleTillTakesItsOwn : Type 0 where
  pub gone : ComesToQueue (since_item (since_two 1) (Gone 1)) (begun_calls 0) serving_first []
  pub ends : ComesToQueue (since_first_ended (since_item (since_two 1) (Gone 1))) (begun_calls 0 ++ kept_alone) (Ready 123) []
  pub another : ComesToQueue (since_item (since_payment 2 (codes "3") 3000 (since_two 3)) (Gone 1)) (begun_calls 0) serving_first (codes "3" ∷ [])
  pub other_stays : ComesToQueue (since_item (since_payment 2 (codes "3") 3000 (since_two 3)) (Gone 2)) (begun_calls 0) serving_first (codes "2" ∷ [])

-- another till may abort it: the till that asked for it gets the Failure
pub record ExampleOtherAborts : Type 0 where
  pub aborted : ComesToQueue (since_abort (codes "2") (since_payment 2 (codes "2") 2000 (since_payment 1 (codes "1") 1099 (since_queueing 1)))) (begun_calls 0 ++ refuses_payment 2 (codes "2") Aborted ∷ []) serving_first []

-- a Logout while it waits doesn't refuse it
pub record ExampleLogoutMeanwhile : Type 0 where
  pub begun : ComesToQueue (since_first_ended (since_logout (since_two 1))) (begun_calls 0 ++ logout_success ∷ first_ended_calls ++ second_begun_calls) (Serving (Transaction 2) 123) []

-- ---- refused once its terminal is ready

-- a status with which the first payment is approved under the greatest trace number
abbrev pub used_up_status : List ℕ
used_up_status = 0x04 ∷ 0x0F ∷ 0x10 ∷ 0x27 ∷ 0x00 ∷ 0x04 ∷ 0x00 ∷ 0x00 ∷ 0x00 ∷ 0x00 ∷ 0x10 ∷ 0x99 ∷ 0x0B ∷ 0x99 ∷ 0x99 ∷ 0x99 ∷ 0x87 ∷ 0x00 ∷ 0x17 ∷ []

-- it ends so, while two payments and an end of day wait
abbrev pub since_used_up : Since
since_used_up = since_heard completion (since_heard used_up_status (since_heard ack (since_day (codes "4") (since_three 3))))

-- the reply to it
abbrev pub used_up_reply : ReplyValue
used_up_reply =
    Finished (paid_header (codes "1"))
    (PaymentApproved (codes "27908") (codes "2025-03-07T10:11:04+00:00") (record { number = 999999; receipt = 17; slot = 0; moment = pos paid_at }) 1099 (record { minor = 1099; currency = Eur }))

-- Where no trace number is left the payments that wait are refused one after the other, as they came; an end of day needs none, and is begun.
pub record ExampleRefusedInOneGo : Type 0 where
  pub one_go :
      ComesToQueue since_used_up
      (begun_calls 0 ++ acknowledged_once ++ acknowledged_once ++ ended_with_reply (record (approved_with_amount 1099) { number = 999999 }) used_up_reply
      ++ refuses_payment 1 (codes "2") UnavailableService ∷ refuses_payment 1 (codes "3") UnavailableService ∷ day_asked)
      (Serving (EndOfDay (till_header (codes "Reconciliation") (codes "4")) AcquirerReconciliation) 999999) []

-- a reversal of till 3 that waits at the terminal of the day of the records' own examples
abbrev pub waiting_reversal : SaleRequest → Wait
waiting_reversal request = record { key = record { sale = codes "S"; poi = codes "A"; service = codes "4" }; pt = 0; till = 3; deadline = pos 60; header = reversal_header (codes "4"); request = request }

-- the terminal is ready
abbrev pub known_with_reversal : SaleRequest → Known
known_with_reversal request = record ready_known { core = record ready_known.core { waits = waiting_reversal request ∷ [] } }

-- it is refused for this reason, and then the next one is looked at
pub record RefusesReversalNow (request : SaleRequest) (condition : Condition) : Type 0 where
  pub calls_are : (row_of two_tills (known_with_reversal request) (NextWaiting 0)).calls ≡ SendTill 3 (failure_reply (reversal_header (codes "4")) condition) ∷ []
  pub items_are : (row_of two_tills (known_with_reversal request) (NextWaiting 0)).items ≡ NextWaiting 0 ∷ []
  pub none_wait : (row_of two_tills (known_with_reversal request) (NextWaiting 0)).core.waits ≡ []

-- A reversal that waits is refused where its original isn't there, or is reversed by then; else it is begun.
pub record ExampleReversalRefused : Type 0 where
  pub none_there : RefusesReversalNow (reversal_of_text (codes "000999-0017-0") None) NotFound
  pub was_reversed : RefusesReversalNow (reversal_of_text (codes "000123-0017-0") None) NotAllowed
  pub other_amount : RefusesReversalNow (reversal_of_text (codes "000124-0017-2") (Some 1)) NotAllowed
  pub begun : records_kept (row_of two_tills (known_with_reversal (reversal_of_text (codes "000124-0017-2") None)) (NextWaiting 0)).calls ≡ Intent second_reversal ∷ []

-- ---- premises

-- the day of the records' own examples, whose terminal shows a text; one request may wait for it
abbrev pub showing_terminal : Terminal
showing_terminal = record (new_terminal day_pt) { standing = Serving (Display (asked_at (codes "Display") (codes "A") (codes "8")) None) 125; asker = Some 3 }

abbrev pub known_with_line : Known
known_with_line = record ready_known { setup = record ready_known.setup { line = 1 }; core = record no_core { terminals = showing_terminal ∷ [] } }

-- till 3 asks there for the payment of 1.00 with ServiceID 4
abbrev pub fourth_queues : RoundItem
fourth_queues = Queue 0 3 (payment_header (codes "4")) (euros 100)

-- it waits
abbrev pub fourth_wait : Wait
fourth_wait = wait_of known_with_line 0 3 (payment_header (codes "4")) (euros 100) (record { sale = codes "S"; poi = codes "A"; service = codes "4" })

abbrev pub known_with_fourth : Known
known_with_fourth = record known_with_line { core = core_with_wait known_with_line.core fourth_wait }

-- the terminal is ready again
abbrev pub ready_again : Terminal
ready_again = record (new_terminal day_pt) { standing = Ready 125 }

abbrev pub known_ready_again : Known
known_ready_again = record known_with_fourth { core = record known_with_fourth.core { terminals = ready_again ∷ [] } }

-- The premises of the laws of requests that wait hold of it: it may wait and joins, what waits is in order before and after, a repeat and a TransactionStatus are in progress, an Abort and its deadline take it out, and it is the first once the terminal is ready, where no step refuses it.
pub record ExampleWaitingPremises : Type 0 where
  pub in_order : IsInOrder known_with_line
  pub none_wait : AreWaitsInOrder known_with_line
  pub read : IsReadItem known_with_line.setup fourth_queues
  pub named : named_terminal known_with_line.core (codes "A") ≡ Some (record { number = 0; terminal = showing_terminal })
  pub waits : step_result known_with_line (payment_header (codes "4")) (euros 100) (Some (record { number = 0; terminal = showing_terminal })) ≡ Waits
  pub joins : JoinsQueue known_with_line 3 (payment_header (codes "4")) (euros 100) 0 (row_of two_tills known_with_line fourth_queues)
  pub one_waits : AreWaitsInOrder known_with_fourth
  pub may : may_wait (euros 100)
  pub found : waiting_for known_with_fourth.core (payment_header (codes "4")) ≡ Some fourth_wait
  pub again : request_reply known_with_fourth (payment_header (codes "4")) (euros 100) ≡ Some (failure_reply (payment_header (codes "4")) InProgress)
  pub status : request_reply known_with_fourth asking_header (status_of_service (codes "4")) ≡ Some (failure_reply asking_header InProgress)
  pub taken : TakesItsOwn two_tills known_with_fourth fourth_wait
  pub overdue : is_overdue 60 fourth_wait ≡ true
  pub early : is_overdue 59 fourth_wait ≡ false
  pub first : FirstIsNext known_ready_again 0 ready_again fourth_wait (row_of two_tills known_ready_again (NextWaiting 0))
  pub passes : refused_again known_ready_again (payment_header (codes "4")) (euros 100) (Some (record { number = 0; terminal = ready_again })) ≡ None
  pub begun : records_kept (row_of two_tills known_ready_again (NextWaiting 0)).calls ≡ Intent fourth ∷ []
