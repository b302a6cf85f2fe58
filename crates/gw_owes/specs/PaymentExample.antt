-- What examples of payments share: what a till asks, what its terminal sends, and what is then owed, kept and remembered. Beside it are closed examples of reports while a payment is open.
use Rattle.std.specs.Prelude.{◌≡◌, ℕ, pos, true, false, List, [], ◌∷◌, ◌++◌, fold, slice_get, Option, Some, None, codes}
use Rattle.std.specs.Option.{option_map}
use Rattle.gw_base.specs.declared.condition.Condition.{Condition}
use Rattle.gw_base.specs.declared.condition.Condition.TheVariants.{Aborted, Cancel, InProgress, UnavailableDevice}
use Rattle.gw_base.specs.declared.currency.Currency.TheVariants.{Eur}
use Rattle.gw_site.specs.Outside.{Connection}
use Rattle.sale_values.specs.declared.header.Header.{Header}
use Rattle.sale_values.specs.declared.names.Class.TheVariants as classes
use Rattle.sale_values.specs.declared.names.Kind.TheVariants as kinds
use Rattle.sale_values.specs.declared.request.PaymentAsk.{PaymentAsk}
use Rattle.sale_values.specs.declared.request.SaleRequest.{SaleRequest}
use Rattle.sale_values.specs.declared.request.SaleRequest.TheVariants as requests
use Rattle.sale_reply.specs.declared.reply.Told.TheVariants.{PaymentApproved, PaymentDeclined}
use Rattle.zvt_msg.specs.declared.command.Command.TheVariants as commands
use Rattle.jrn_record.specs.declared.records.Deal.TheVariants as deals
use Rattle.jrn_record.specs.declared.records.Intent.{Intent as TheIntent}
use Rattle.jrn_record.specs.declared.records.Outcome.{Outcome as TheOutcome}
use Rattle.jrn_record.specs.declared.records.Record.TheVariants.{Intent, Outcome}
use Rattle.gw_owes.specs.declared.terminal.Standing.{Standing}
use Rattle.gw_owes.specs.declared.terminal.Standing.TheVariants.{Unlinked, Enquiring, Ready, Aside}
use Rattle.gw_owes.specs.declared.terminal.Terminal.{Terminal}
use Rattle.gw_owes.specs.Calls.{Ask, Acknowledge, OwedCall, SendTill, SendPt, keep_calls, records_kept}
use Rattle.gw_owes.specs.Core.{new_core}
use Rattle.gw_owes.specs.Events.{pt_bytes_items}
use Rattle.gw_owes.specs.Items.{RoundItem, Asked}
use Rattle.gw_owes.specs.Links.{LinkEvent, LinkIsMade, LinkIsLost, link_row}
use Rattle.gw_owes.specs.ReadAs.{Request}
use Rattle.gw_owes.specs.Reply.{ReplyValue, Finished}
use Rattle.gw_owes.specs.Replies.{failure_reply}
use Rattle.gw_owes.specs.Row.{Known, Row}
use Rattle.gw_owes.specs.Rows.{row_of}
use Rattle.gw_owes.specs.Terminals.{registration}
use Rattle.gw_owes.specs.Handling.{enquiry_command}
use Rattle.gw_owes.specs.TerminalRows.{terminal_of}
use Rattle.gw_owes.specs.TerminalExample.{one_pt, standing_known, ack, completion, abort, approved_status}
use Rattle.gw_owes.specs.Transcript.{core_with_cut}

-- ---- what happens, one thing after the other

-- what is known by now, and what was owed since the beginning, all of which was done
pub record Since : Type 0 where
  pub known : Known
  pub calls : List OwedCall

-- two tills are there
abbrev pub two_tills : List Connection
two_tills = record { number = 1; heard = [] } ∷ record { number = 2; heard = [] } ∷ []

-- after a row: its records are kept, its calls are made, and with a cut of this terminal the link is lost
abbrev pub since_row : Option ℕ → Since → Row → Since
since_row number since row = record {
  known = record since.known { core = core_with_cut since.known row number; kept = since.known.kept ++ records_kept row.calls };
  calls = since.calls ++ row.calls;
}

-- after an item
abbrev pub since_item : Since → RoundItem → Since
since_item since item = since_row (terminal_of item) since (row_of two_tills since.known item)

-- after items, one after the other
abbrev pub since_items : Since → List RoundItem → Since
since_items since items = fold since_item since items

-- after what a till asks, and what that begins
abbrev pub since_asked : ℕ → Header → SaleRequest → Since → Since
since_asked till header request since = since_items (since_item since (Asked till (Request header request))) (row_of two_tills since.known (Asked till (Request header request))).items

-- after bytes of the terminal
abbrev pub since_sent : List ℕ → Since → Since
since_sent bytes since = since_items since (pt_bytes_items 0 [] bytes)

-- after an event of its link
abbrev pub since_linked : LinkEvent → Since → Since
since_linked event since = since_row None since (link_row since.known 0 event)

-- ---- what is known at first

-- the moment 2025-03-07T10:11:04Z
abbrev pub paid_at : ℕ
paid_at = 1741342264

-- a gateway without records whose one terminal, `T1`, is ready with this trace number
abbrev pub since_ready : ℕ → Since
since_ready last = record { known = record (standing_known (Ready last)) { moment = paid_at }; calls = [] }

-- ---- what a till asks

-- the header of a request of till `S1` at terminal `T1`, by category and ServiceID
abbrev pub till_header : List ℕ → List ℕ → Header
till_header category service = record { class = classes.Service; category = category; kind = kinds.Request; service = Some service; device = None; sale = codes "S1"; poi = codes "T1" }

-- the header of the reply to a payment
abbrev pub paid_header : List ℕ → Header
paid_header service = record { class = classes.Service; category = codes "Payment"; kind = kinds.Response; service = Some service; device = None; sale = codes "S1"; poi = codes "T1" }

-- a payment of so many minor units of euros
abbrev pub ask_of : ℕ → PaymentAsk
ask_of amount = record { transaction = codes "27908"; stamp = codes "2025-03-07T10:11:04+00:00"; currency = codes "EUR"; amount = amount; kind = Some (codes "Normal") }

-- after this till asks for a payment of so many minor units under this ServiceID
abbrev pub since_payment : ℕ → List ℕ → ℕ → Since → Since
since_payment till service amount since = since_asked till (till_header (codes "Payment") service) (requests.Payment (ask_of amount)) since

-- after this till asks under ServiceID 3 for the status of the payment with this one
abbrev pub since_status : ℕ → List ℕ → Since → Since
since_status till service since = since_asked till (till_header (codes "TransactionStatus") (codes "3")) (requests.Status (Some (record { service = service; sale = None; poi = None }))) since

-- a Failure as the reply to a payment
abbrev pub payment_failure : List ℕ → Condition → ReplyValue
payment_failure service condition = failure_reply (till_header (codes "Payment") service) condition

-- ---- what is kept

-- the Intent of the payment of 10.99 with ServiceID 1, with this trace number before it
abbrev pub intent_after : ℕ → TheIntent
intent_after before = record {
  what = deals.Payment;
  sale = codes "S1";
  poi = codes "T1";
  service = codes "1";
  transaction = Some (codes "27908");
  stamp = Some (codes "2025-03-07T10:11:04+00:00");
  amount = 1099;
  currency = Eur;
  before = before;
  original = None;
  moment = pos paid_at;
}

-- an approval of the Intent in slot 0 with trace number 123, receipt number 17 and this amount
abbrev pub approved_with_amount : ℕ → TheOutcome
approved_with_amount amount = record { approved = true; slot = 0; number = 123; receipt = 17; amount = amount; condition = None; moment = pos paid_at }

-- a decline of the Intent in slot 0
abbrev pub declined_for : Condition → TheOutcome
declined_for condition = record { approved = false; slot = 0; number = 0; receipt = 0; amount = 0; condition = Some condition; moment = pos paid_at }

-- the reply to an approval of this amount, with TransactionID `000123-0017-0`
abbrev pub approved_reply : ℕ → ReplyValue
approved_reply amount =
    Finished (paid_header (codes "1"))
    (PaymentApproved (codes "27908") (codes "2025-03-07T10:11:04+00:00") (record { number = 123; receipt = 17; slot = 0; moment = pos paid_at }) 1099 (record { minor = amount; currency = Eur }))

-- the reply to a decline, with TransactionID `000000-0000-0`
abbrev pub declined_reply : Condition → ReplyValue
declined_reply condition =
    Finished (paid_header (codes "1")) (PaymentDeclined (codes "27908") (codes "2025-03-07T10:11:04+00:00") (record { number = 0; receipt = 0; slot = 0; moment = pos paid_at }) condition)

-- ---- what is seen of it

-- what was owed, and the standing of the terminal then
pub record ComesTo (since : Since) (calls : List OwedCall) (standing : Standing) : Type 0 where
  pub calls_are : since.calls ≡ calls
  pub standing_is : option_map (λ (terminal : Terminal). terminal.standing) (slice_get since.known.core.terminals 0) ≡ Some standing

-- a message of the terminal is acknowledged
abbrev pub acknowledged_once : List OwedCall
acknowledged_once = SendPt 0 Acknowledge ∷ []

-- the Outcome is kept in slot 1, and then till 1 gets this reply
abbrev pub ended_with_reply : TheOutcome → ReplyValue → List OwedCall
ended_with_reply outcome reply = keep_calls 1 (Outcome outcome) ++ SendTill 1 reply ∷ []

-- ---- a payment begins

-- till 1 asks for 10.99 at a terminal that is ready with this trace number
abbrev pub since_begun : ℕ → Since
since_begun last = since_payment 1 (codes "1") 1099 (since_ready last)

-- the Intent is kept in slot 0, and then the terminal is asked for 10.99 euros
abbrev pub begun_calls : ℕ → List OwedCall
begun_calls last = keep_calls 0 (Intent (intent_after last)) ++ SendPt 0 (Ask (commands.Authorise 1099 978)) ∷ []

-- ---- it is approved

-- the terminal acknowledges the payment, reports its result with this status, and completes it
abbrev pub since_reported : List ℕ → ℕ → Since
since_reported status last = since_sent completion (since_sent status (since_sent ack (since_begun last)))

-- what is owed until then: the status and the completion are acknowledged
abbrev pub reported_calls : ℕ → List OwedCall
reported_calls last = begun_calls last ++ acknowledged_once ++ acknowledged_once

-- the payment of 10.99 is approved
abbrev pub since_approved : Since
since_approved = since_reported approved_status 0

-- what is owed until it is
abbrev pub approved_calls : List OwedCall
approved_calls = reported_calls 0 ++ ended_with_reply (approved_with_amount 1099) (approved_reply 1099)

-- ---- a report while it is open

-- the payment has begun with this trace number before it, and the link is lost
abbrev pub since_lost : ℕ → Since
since_lost last = since_linked LinkIsLost (since_begun last)

-- a later run, with the same records
abbrev pub since_restarted : Since → Since
since_restarted since = record since { known = record since.known { core = new_core since.known.setup } }

-- the terminal is linked again, registers and is enquired
abbrev pub since_enquired : Since → Since
since_enquired since = since_sent ack (since_sent completion (since_sent ack (since_linked LinkIsMade since)))

-- what is owed until then
abbrev pub enquired_calls : ℕ → List OwedCall
enquired_calls last = begun_calls last ++ SendPt 0 (Ask (registration one_pt)) ∷ acknowledged_once ++ SendPt 0 (Ask (enquiry_command one_pt)) ∷ []

-- it reports its last transaction with this status
abbrev pub since_reporting : List ℕ → Since → Since
since_reporting status since = since_sent completion (since_sent status since)

-- what is owed until then
abbrev pub reporting_calls : ℕ → List OwedCall
reporting_calls last = enquired_calls last ++ acknowledged_once ++ acknowledged_once

-- a Status with the result code 6C, trace number 123 and receipt number 17
abbrev pub cancelled_status : List ℕ
cancelled_status = 0x04 ∷ 0x0F ∷ 0x09 ∷ 0x27 ∷ 0x6C ∷ 0x0B ∷ 0x00 ∷ 0x01 ∷ 0x23 ∷ 0x87 ∷ 0x00 ∷ 0x17 ∷ []

-- A trace number above the one before is the payment's own: its Outcome is kept, and the till that is still there gets the reply. The one before says that nothing came of it, also where the terminal has no last transaction. In a later run no till gets a reply.
pub record ExampleReportsOfOpen : Type 0 where
  pub enquired : ComesTo (since_enquired (since_lost 0)) (enquired_calls 0) Enquiring
  pub approved : ComesTo (since_reporting approved_status (since_enquired (since_lost 0))) (reporting_calls 0 ++ ended_with_reply (approved_with_amount 1099) (approved_reply 1099)) (Ready 123)
  pub declined : ComesTo (since_reporting cancelled_status (since_enquired (since_lost 122))) (reporting_calls 122 ++ ended_with_reply (declined_for Cancel) (declined_reply Cancel)) (Ready 123)
  pub unperformed : ComesTo (since_reporting approved_status (since_enquired (since_lost 123))) (reporting_calls 123 ++ ended_with_reply (declined_for Aborted) (declined_reply Aborted)) (Ready 123)
  pub none : ComesTo (since_sent (abort 0x83) (since_enquired (since_lost 0))) (enquired_calls 0 ++ acknowledged_once ++ ended_with_reply (declined_for Aborted) (declined_reply Aborted)) (Ready 0)
  pub later_run : ComesTo (since_reporting approved_status (since_enquired (since_restarted (since_begun 0)))) (reporting_calls 0 ++ keep_calls 1 (Outcome (approved_with_amount 1099))) (Ready 123)
  pub none_later : ComesTo (since_sent (abort 0x83) (since_enquired (since_restarted (since_begun 0)))) (enquired_calls 0 ++ acknowledged_once ++ keep_calls 1 (Outcome (declined_for Aborted))) (Ready 0)
  pub repeated :
      ComesTo (since_payment 2 (codes "1") 1099 (since_reporting approved_status (since_enquired (since_restarted (since_begun 0)))))
      (reporting_calls 0 ++ keep_calls 1 (Outcome (approved_with_amount 1099)) ++ SendTill 2 (approved_reply 1099) ∷ []) (Ready 123)

-- A trace number below the one before sets the terminal aside: nothing is kept, the payment stays in progress, and no payment is begun; it stays so whatever the terminal sends, until its link is lost, and then it is enquired again.
pub record ExampleReportBelowOpen : Type 0 where
  pub below : ComesTo (since_reporting approved_status (since_enquired (since_lost 124))) (reporting_calls 124) (Aside 124 123)
  pub status :
      ComesTo (since_status 1 (codes "1") (since_reporting approved_status (since_enquired (since_lost 124))))
      (reporting_calls 124 ++ SendTill 1 (failure_reply (till_header (codes "TransactionStatus") (codes "3")) InProgress) ∷ []) (Aside 124 123)
  pub second :
      ComesTo (since_payment 2 (codes "2") 500 (since_reporting approved_status (since_enquired (since_lost 124)))) (reporting_calls 124 ++ SendTill 2 (payment_failure (codes "2") UnavailableDevice) ∷ []) (Aside 124 123)
  pub stays : ComesTo (since_reporting approved_status (since_reporting approved_status (since_enquired (since_lost 124)))) (reporting_calls 124 ++ acknowledged_once ++ acknowledged_once) (Aside 124 123)
  pub lost : ComesTo (since_linked LinkIsLost (since_reporting approved_status (since_enquired (since_lost 124)))) (reporting_calls 124) (Unlinked (Some 1741342269))

-- once the payment is approved, the terminal is linked again, registers and is enquired
abbrev pub since_enquired_again : Since
since_enquired_again = since_sent ack (since_sent completion (since_sent ack (since_linked LinkIsMade (since_linked LinkIsLost since_approved))))

-- what is owed until then
abbrev pub enquired_again_calls : List OwedCall
enquired_again_calls = approved_calls ++ SendPt 0 (Ask (registration one_pt)) ∷ acknowledged_once ++ SendPt 0 (Ask (enquiry_command one_pt)) ∷ []

-- the status of the approval with this trace number, below 100
abbrev pub status_numbered : ℕ → List ℕ
status_numbered digits = 0x04 ∷ 0x0F ∷ 0x10 ∷ 0x27 ∷ 0x00 ∷ 0x04 ∷ 0x00 ∷ 0x00 ∷ 0x00 ∷ 0x00 ∷ 0x10 ∷ 0x99 ∷ 0x0B ∷ 0x00 ∷ 0x00 ∷ digits ∷ 0x87 ∷ 0x00 ∷ 0x17 ∷ []

-- the last number on record is 123: with a report of 50 the terminal is set aside, and with one of 123 it is ready
pub record ExampleReportBelow : Type 0 where
  pub below : ComesTo (since_sent completion (since_sent (status_numbered 0x50) since_enquired_again)) (enquired_again_calls ++ acknowledged_once ++ acknowledged_once) (Aside 123 50)
  pub equal : ComesTo (since_sent completion (since_sent approved_status since_enquired_again)) (enquired_again_calls ++ acknowledged_once ++ acknowledged_once) (Ready 123)
