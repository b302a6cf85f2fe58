-- Closed examples of the steps of a request, and of a TransactionStatus and an Abort: what a till gets, by the records and by the terminal.
use Rattle.std.specs.Prelude.{◌≡◌, ℕ, pos, false, List, [], ◌∷◌, ◌++◌, Option, Some, None, codes}
use Rattle.gw_base.specs.declared.condition.Condition.{Condition}
use Rattle.gw_base.specs.declared.condition.Condition.TheVariants.{Aborted, Busy, InProgress, NotAllowed, NotFound, UnavailableDevice, UnavailableService}
use Rattle.gw_base.specs.declared.currency.Currency.TheVariants.{Eur}
use Rattle.gw_base.specs.declared.setup.Pt.{Pt}
use Rattle.sale_values.specs.declared.header.Header.{Header}
use Rattle.sale_values.specs.declared.names.Period.{Period}
use Rattle.sale_values.specs.declared.names.Period.TheVariants.{SaleReconciliation, AcquirerSynchronisation, AcquirerReconciliation, PreviousReconciliation}
use Rattle.sale_values.specs.declared.request.Reference.{Reference}
use Rattle.sale_values.specs.declared.request.SaleRequest.{SaleRequest}
use Rattle.sale_values.specs.declared.request.SaleRequest.TheVariants as requests
use Rattle.sale_reply.specs.declared.reply.Detail.TheVariants as details
use Rattle.sale_reply.specs.declared.reply.Told.{Told as ResultBody}
use Rattle.sale_reply.specs.declared.reply.Told.TheVariants.{PaymentApproved, PaymentDeclined, ReversalApproved, Reconciled}
use Rattle.jrn_record.specs.declared.records.Record.{Record}
use Rattle.jrn_record.specs.declared.records.Record.TheVariants.{Outcome}
use Rattle.gw_ledger.specs.Example.{day, day_approval, pay, approved}
use Rattle.gw_ledger.specs.Premises.{day_opened, day_closed}
use Rattle.gw_owes.specs.declared.terminal.Service.TheVariants.{Transaction, EndOfDay}
use Rattle.gw_owes.specs.declared.terminal.Standing.{Standing}
use Rattle.gw_owes.specs.declared.terminal.Standing.TheVariants.{Unlinked, Registering, Enquiring, Ready, Serving, Aside}
use Rattle.gw_owes.specs.Core.{no_core, new_terminal}
use Rattle.gw_owes.specs.Items.{RoundItem, Serve}
use Rattle.gw_owes.specs.ReadAs.{Request}
use Rattle.gw_owes.specs.Reply.{ReplyValue, Finished, Repeated, Reject}
use Rattle.gw_owes.specs.Replies.{header_of_reply, failure_reply}
use Rattle.gw_owes.specs.Row.{Known}
use Rattle.gw_owes.specs.Requests.{request_reply, begun_by}
use Rattle.gw_owes.specs.TerminalExample.{one_pt, setup_with}
use Rattle.gw_owes.specs.StepExample.{asked_at, payment_header, payment_in, euros}

-- ---- what is known

-- The day of the records' own examples: at terminal `A` till `S` paid 10.99 with ServiceID 1 and 5.00 with 2, and reversed the first with 3. `day_opened` has one more payment of 1.00 with 4, which is open, and `day_closed` a reconciliation with 4.
-- the terminal
abbrev pub day_pt : Pt
day_pt = record one_pt { poi = codes "A" }

-- a gateway with these records, whose one terminal has this standing
abbrev pub day_known : List Record → Standing → Known
day_known kept standing = record {
  setup = setup_with (day_pt ∷ []);
  core = record no_core { terminals = record (new_terminal day_pt) { standing = standing } ∷ [] };
  kept = kept;
  moment = 7;
}

-- so many slots
abbrev pub with_slots : ℕ → Known → Known
with_slots slots known = record known { setup = record known.setup { slots = slots } }

-- no terminal is configured
abbrev pub without_terminals : Known → Known
without_terminals known = record known { setup = setup_with []; core = no_core }

-- ---- what is asked

-- the header of a Reversal there
abbrev pub reversal_header : List ℕ → Header
reversal_header service = asked_at (codes "Reversal") (codes "A") service

-- the header of a Reconciliation there
abbrev pub period_header : List ℕ → Header
period_header service = asked_at (codes "Reconciliation") (codes "A") service

-- the header of a TransactionStatus
abbrev pub asking_header : Header
asking_header = asked_at (codes "TransactionStatus") (codes "A") (codes "9")

-- the header of an Abort
abbrev pub abort_header : Header
abort_header = asked_at (codes "Abort") (codes "A") (codes "9")

-- a reversal of the transaction with this text
abbrev pub reversal_of_text : List ℕ → Option ℕ → SaleRequest
reversal_of_text text amount = requests.Reversal (record { transaction = text; amount = amount })

-- a reference by its ServiceID alone
abbrev pub reference_to : List ℕ → Reference
reference_to service = record { service = service; sale = None; poi = None }

-- a TransactionStatus of the request with this ServiceID
abbrev pub status_of_service : List ℕ → SaleRequest
status_of_service service = requests.Status (Some (reference_to service))

-- an Abort of it
abbrev pub abort_of_service : List ℕ → SaleRequest
abort_of_service service = requests.Abort (reference_to service)

-- the request fails for this reason
abbrev pub IsFailure : Known → Header → SaleRequest → Condition → Type 0
IsFailure known header request condition = request_reply known header request ≡ Some (failure_reply header condition)

-- ---- keys on record

-- what the day's first payment got
abbrev pub first_body : ResultBody
first_body = PaymentApproved (codes "T") (codes "now") (record { number = 123; receipt = 17; slot = 0; moment = pos 0 }) 1099 (record { minor = 1099; currency = Eur })

-- with its header
abbrev pub first_reply : ReplyValue
first_reply = Finished (header_of_reply (payment_header (codes "1"))) first_body

-- The first payment again gets the reply that it got. An absent type is `Normal`; nothing else that is known matters, nor how many slots are free.
pub record ExamplePaymentAgain : Type 0 where
  pub same : request_reply (day_known day (Ready 125)) (payment_header (codes "1")) (euros 1099) ≡ Some first_reply
  pub normal : request_reply (day_known day (Ready 125)) (payment_header (codes "1")) (payment_in (codes "EUR") (Some (codes "Normal")) 1099) ≡ Some first_reply
  pub later : request_reply (day_known day_opened (Ready 125)) (payment_header (codes "1")) (euros 1099) ≡ Some first_reply
  pub unlinked : request_reply (day_known day (Unlinked None)) (payment_header (codes "1")) (euros 1099) ≡ Some first_reply
  pub used_up : request_reply (day_known day (Ready 999999)) (payment_header (codes "1")) (euros 1099) ≡ Some first_reply
  pub without_room : request_reply (with_slots 6 (day_known day (Ready 125))) (payment_header (codes "1")) (euros 1099) ≡ Some first_reply
  pub not_configured : request_reply (without_terminals (day_known day (Ready 125))) (payment_header (codes "1")) (euros 1099) ≡ Some first_reply

-- the first payment's key with another amount, currency or type, or as a Reversal or a Reconciliation
pub record ExampleOtherContent : Type 0 where
  pub amount : IsFailure (day_known day (Ready 125)) (payment_header (codes "1")) (euros 1100) NotAllowed
  pub currency : IsFailure (day_known day (Ready 125)) (payment_header (codes "1")) (payment_in (codes "CHF") None 1099) NotAllowed
  pub payment_type : IsFailure (day_known day (Ready 125)) (payment_header (codes "1")) (payment_in (codes "EUR") (Some (codes "Refund")) 1099) NotAllowed
  pub as_reversal : IsFailure (day_known day (Ready 125)) (reversal_header (codes "1")) (reversal_of_text (codes "000123-0017-0") None) NotAllowed
  pub as_reconciliation : IsFailure (day_known day (Ready 125)) (period_header (codes "1")) (requests.Reconciliation SaleReconciliation) NotAllowed

-- the payment that is open, and a payment of another amount with its key
pub record ExampleOpenAgain : Type 0 where
  pub same : IsFailure (day_known day_opened (Ready 125)) (payment_header (codes "4")) (euros 100) InProgress
  pub unlinked : IsFailure (day_known day_opened (Unlinked None)) (payment_header (codes "4")) (euros 100) InProgress
  pub other_amount : IsFailure (day_known day_opened (Ready 125)) (payment_header (codes "4")) (euros 101) NotAllowed

-- the payment that was open, and then aborted
abbrev pub day_with_decline : List Record
day_with_decline = day_opened ++ Outcome (record (day_approval 6 0 0) { approved = false; receipt = 0; condition = Some Aborted }) ∷ []

-- a payment that was declined gets the same decline again
pub record ExampleDeclinedAgain : Type 0 where
  pub same : request_reply (day_known day_with_decline (Ready 125)) (payment_header (codes "4")) (euros 100) ≡ Some (Finished (header_of_reply (payment_header (codes "4"))) (PaymentDeclined (codes "T") (codes "now") (record { number = 0; receipt = 0; slot = 6; moment = pos 0 }) Aborted))
  pub other_amount : IsFailure (day_known day_with_decline (Ready 125)) (payment_header (codes "4")) (euros 101) NotAllowed

-- what the day's reversal got
abbrev pub third_body : ResultBody
third_body = ReversalApproved (record { number = 125; receipt = 17; slot = 4; moment = pos 0 }) (record { minor = 1099; currency = Eur })

-- with its header
abbrev pub third_reply : ReplyValue
third_reply = Finished (header_of_reply (reversal_header (codes "3"))) third_body

-- the reversal again, with and without its amount; its key with another amount or original, or as a Payment
pub record ExampleReversalAgain : Type 0 where
  pub same : request_reply (day_known day (Ready 125)) (reversal_header (codes "3")) (reversal_of_text (codes "000123-0017-0") (Some 1099)) ≡ Some third_reply
  pub no_amount : request_reply (day_known day (Ready 125)) (reversal_header (codes "3")) (reversal_of_text (codes "000123-0017-0") None) ≡ Some third_reply
  pub other_amount : IsFailure (day_known day (Ready 125)) (reversal_header (codes "3")) (reversal_of_text (codes "000123-0017-0") (Some 1098)) NotAllowed
  pub other_original : IsFailure (day_known day (Ready 125)) (reversal_header (codes "3")) (reversal_of_text (codes "000124-0017-2") None) NotAllowed
  pub as_payment : IsFailure (day_known day (Ready 125)) (payment_header (codes "3")) (euros 1099) NotAllowed

-- what the reconciliation of the day got: its totals
abbrev pub closed_reply : ReplyValue
closed_reply = Finished (header_of_reply (period_header (codes "4"))) (Reconciled SaleReconciliation Eur (2, 1599) (1, 1099))

-- the reconciliation again; its key with another type, or as a Payment
pub record ExampleReconciliationAgain : Type 0 where
  pub same : request_reply (day_known day_closed (Ready 125)) (period_header (codes "4")) (requests.Reconciliation SaleReconciliation) ≡ Some closed_reply
  pub other_type : IsFailure (day_known day_closed (Ready 125)) (period_header (codes "4")) (requests.Reconciliation AcquirerReconciliation) NotAllowed
  pub as_payment : IsFailure (day_known day_closed (Ready 125)) (payment_header (codes "4")) (euros 100) NotAllowed

-- ---- a TransactionStatus

-- the reply that repeats the first payment's, to a TransactionStatus with this header
abbrev pub first_repeated : Header → ReplyValue
first_repeated header = Repeated (header_of_reply header) (header_of_reply (payment_header (codes "1"))) first_body

-- the reply that repeats the reversal's
abbrev pub third_repeated : ReplyValue
third_repeated = Repeated (header_of_reply asking_header) (header_of_reply (reversal_header (codes "3"))) third_body

-- A finished key has its reply repeated, also where the reference names another POIID than the header; one that is open is in progress, and an unknown one isn't found.
pub record ExampleStatus : Type 0 where
  pub finished : request_reply (day_known day (Ready 125)) asking_header (status_of_service (codes "1")) ≡ Some (first_repeated asking_header)
  pub unlinked : request_reply (day_known day (Unlinked None)) asking_header (status_of_service (codes "1")) ≡ Some (first_repeated asking_header)
  pub by_reference : request_reply (day_known day (Ready 125)) (record asking_header { poi = codes "B" }) (requests.Status (Some (record (reference_to (codes "1")) { poi = Some (codes "A") }))) ≡ Some (first_repeated (record asking_header { poi = codes "B" }))
  pub open_key : IsFailure (day_known day_opened (Ready 125)) asking_header (status_of_service (codes "4")) InProgress
  pub unknown : IsFailure (day_known day (Ready 125)) asking_header (status_of_service (codes "4")) NotFound
  pub other_poi : IsFailure (day_known day (Ready 125)) (record asking_header { poi = codes "B" }) (status_of_service (codes "1")) NotFound
  pub other_till : IsFailure (day_known day (Ready 125)) asking_header (requests.Status (Some (record (reference_to (codes "1")) { sale = Some (codes "R") }))) NotFound

-- Without a reference it is the last payment or reversal of this till at this terminal, open or not, and no reconciliation; a till without one has none.
pub record ExampleLastStatus : Type 0 where
  pub finished : request_reply (day_known day (Ready 125)) asking_header (requests.Status None) ≡ Some third_repeated
  pub open_key : IsFailure (day_known day_opened (Ready 125)) asking_header (requests.Status None) InProgress
  pub after_reconciliation : request_reply (day_known day_closed (Ready 125)) asking_header (requests.Status None) ≡ Some third_repeated
  pub other_till : IsFailure (day_known day (Ready 125)) (record asking_header { sale = codes "R" }) (requests.Status None) NotFound
  pub other_poi : IsFailure (day_known day (Ready 125)) (record asking_header { poi = codes "B" }) (requests.Status None) NotFound

-- ---- an Abort

-- the event that an Abort is refused
abbrev pub abort_refused : ReplyValue
abort_refused = Reject (codes "S") (codes "A") (pos 7) details.Abort

-- an Abort of a key that is open gets nothing; that of a finished or an unknown one is refused
pub record ExampleAbort : Type 0 where
  pub open_key : request_reply (day_known day_opened (Ready 125)) abort_header (abort_of_service (codes "4")) ≡ None
  pub finished : request_reply (day_known day_opened (Ready 125)) abort_header (abort_of_service (codes "1")) ≡ Some abort_refused
  pub unknown : request_reply (day_known day (Ready 125)) abort_header (abort_of_service (codes "4")) ≡ Some abort_refused

-- ---- new keys

-- A new key: the POIID isn't configured, then the type isn't `Normal`, then the currency is another. Each comes before the next, and before the terminal isn't linked.
pub record ExampleNewKey : Type 0 where
  pub not_configured : IsFailure (day_known day (Ready 125)) (asked_at (codes "Payment") (codes "B") (codes "5")) (euros 100) UnavailableDevice
  pub not_configured_first : IsFailure (day_known day (Ready 125)) (asked_at (codes "Payment") (codes "B") (codes "5")) (payment_in (codes "EUR") (Some (codes "Refund")) 100) UnavailableDevice
  pub payment_type : IsFailure (day_known day (Unlinked None)) (payment_header (codes "5")) (payment_in (codes "EUR") (Some (codes "Refund")) 100) UnavailableService
  pub payment_type_first : IsFailure (day_known day (Ready 125)) (payment_header (codes "5")) (payment_in (codes "CHF") (Some (codes "Refund")) 100) UnavailableService
  pub currency : IsFailure (day_known day (Ready 125)) (payment_header (codes "5")) (payment_in (codes "CHF") None 100) NotAllowed
  pub currency_first : IsFailure (day_known day (Ready 999999)) (payment_header (codes "5")) (payment_in (codes "CHF") None 100) NotAllowed
  pub other_till : IsFailure (day_known day (Unlinked None)) (record (payment_header (codes "1")) { sale = codes "R" }) (euros 1099) UnavailableDevice

-- one payment at a terminal with this POIID, approved with this trace number
abbrev pub numbered : List ℕ → ℕ → List Record
numbered poi trace = pay poi (codes "1") 1099 0 ∷ approved 0 trace 1099 ∷ []

-- The greatest trace number is used up, in the records of the terminal or by the terminal itself. One below it isn't, nor is that of another terminal: there the terminal, which isn't linked, is the reason.
pub record ExampleUsedUp : Type 0 where
  pub on_record : IsFailure (day_known (numbered (codes "A") 999999) (Unlinked None)) (payment_header (codes "5")) (euros 100) UnavailableService
  pub one_below : IsFailure (day_known (numbered (codes "A") 999998) (Unlinked None)) (payment_header (codes "5")) (euros 100) UnavailableDevice
  pub of_another : IsFailure (day_known (numbered (codes "B") 999999) (Unlinked None)) (payment_header (codes "5")) (euros 100) UnavailableDevice
  pub ready : IsFailure (day_known day (Ready 999999)) (payment_header (codes "5")) (euros 100) UnavailableService
  pub serving : IsFailure (day_known day (Serving (Transaction 4) 999999)) (payment_header (codes "5")) (euros 100) UnavailableService

-- the terminal serves the end of day with ServiceID 5
abbrev pub serving_fifth : Standing
serving_fifth = Serving (EndOfDay (period_header (codes "5")) AcquirerReconciliation) 125

-- A new payment needs two free slots, one more for the payment that is open, and one more for the end of day that is served. Where they are there, the terminal, which isn't linked or is busy, is the reason.
pub record ExampleRoom : Type 0 where
  pub one_free : IsFailure (with_slots 7 (day_known day (Unlinked None))) (payment_header (codes "5")) (euros 100) UnavailableService
  pub two_free : IsFailure (with_slots 8 (day_known day (Unlinked None))) (payment_header (codes "5")) (euros 100) UnavailableDevice
  pub two_free_one_open : IsFailure (with_slots 9 (day_known day_opened (Unlinked None))) (payment_header (codes "5")) (euros 100) UnavailableService
  pub three_free_one_open : IsFailure (with_slots 10 (day_known day_opened (Unlinked None))) (payment_header (codes "5")) (euros 100) UnavailableDevice
  pub two_free_one_served : IsFailure (with_slots 8 (day_known day serving_fifth)) (payment_header (codes "6")) (euros 100) UnavailableService
  pub three_free_one_served : IsFailure (with_slots 9 (day_known day serving_fifth)) (payment_header (codes "6")) (euros 100) Busy
  pub three_free_both : IsFailure (with_slots 10 (day_known day_opened serving_fifth)) (payment_header (codes "6")) (euros 100) UnavailableService
  pub four_free_both : IsFailure (with_slots 11 (day_known day_opened serving_fifth)) (payment_header (codes "6")) (euros 100) Busy

-- a new payment at a terminal that takes no request
pub record ExampleUnavailable : Type 0 where
  pub new : IsFailure (day_known day (Unlinked None)) (payment_header (codes "5")) (euros 100) UnavailableDevice
  pub unlinked : IsFailure (day_known day (Unlinked (Some 9))) (payment_header (codes "5")) (euros 100) UnavailableDevice
  pub registering : IsFailure (day_known day Registering) (payment_header (codes "5")) (euros 100) UnavailableDevice
  pub enquiring : IsFailure (day_known day Enquiring) (payment_header (codes "5")) (euros 100) UnavailableDevice
  pub aside : IsFailure (day_known day (Aside 125 50)) (payment_header (codes "5")) (euros 100) UnavailableDevice

-- ---- what begins

-- what a payment of 1.00 with this ServiceID begins, asked by till 3
abbrev pub begun_for : Known → List ℕ → List RoundItem
begun_for known service = begun_by known 3 (Request (payment_header service) (euros 100))

-- A new payment begins at a terminal that is ready, and has no reply yet, also where the one before it was declined; one that serves another finds it busy. The payment that is open, and one on record, begin nothing.
pub record ExampleBeginning : Type 0 where
  pub no_reply : request_reply (day_known day (Ready 125)) (payment_header (codes "5")) (euros 100) ≡ None
  pub begun : begun_for (day_known day (Ready 125)) (codes "5") ≡ Serve 0 3 (payment_header (codes "5")) (euros 100) ∷ []
  pub after_decline : begun_for (day_known day_with_decline (Ready 125)) (codes "5") ≡ Serve 0 3 (payment_header (codes "5")) (euros 100) ∷ []
  pub serving : IsFailure (day_known day_opened (Serving (Transaction 6) 125)) (payment_header (codes "5")) (euros 100) Busy
  pub serving_begins_none : begun_for (day_known day_opened (Serving (Transaction 6) 125)) (codes "5") ≡ []
  pub unlinked_begins_none : begun_for (day_known day (Unlinked None)) (codes "5") ≡ []
  pub open_begins_none : begun_for (day_known day_opened (Ready 125)) (codes "4") ≡ []
  pub finished_begins_none : begun_for (day_known day_with_decline (Ready 125)) (codes "4") ≡ []

-- ---- reconciliations

-- a reconciliation of this type with this ServiceID fails for this reason
abbrev pub IsPeriodFailure : Known → List ℕ → Period → Condition → Type 0
IsPeriodFailure known service period condition = IsFailure known (period_header service) (requests.Reconciliation period) condition

-- one that begins, asked by till 3: it has no reply yet
pub record PeriodBegins (known : Known) (service : List ℕ) (period : Period) : Type 0 where
  pub no_reply : request_reply known (period_header service) (requests.Reconciliation period) ≡ None
  pub items_are : begun_by known 3 (Request (period_header service) (requests.Reconciliation period)) ≡ Serve 0 3 (period_header service) (requests.Reconciliation period) ∷ []

-- A new reconciliation needs a POIID that is configured, then a type that is served, then two free slots, and no trace number. One of the till's own then begins whatever the terminal does; an end of day begins at a terminal that is ready, and one that serves another finds it busy.
pub record ExampleNewReconciliation : Type 0 where
  pub synchronisation : IsPeriodFailure (day_known day (Ready 125)) (codes "5") AcquirerSynchronisation UnavailableService
  pub previous : IsPeriodFailure (day_known day (Unlinked None)) (codes "5") PreviousReconciliation UnavailableService
  pub not_configured_first : IsPeriodFailure (without_terminals (day_known day (Ready 125))) (codes "5") AcquirerSynchronisation UnavailableDevice
  pub own : PeriodBegins (day_known day (Ready 125)) (codes "5") SaleReconciliation
  pub own_unlinked : PeriodBegins (day_known day (Unlinked None)) (codes "5") SaleReconciliation
  pub own_aside : PeriodBegins (day_known day (Aside 125 50)) (codes "5") SaleReconciliation
  pub own_serving : PeriodBegins (day_known day_opened (Serving (Transaction 6) 125)) (codes "5") SaleReconciliation
  pub own_used_up : PeriodBegins (day_known day (Ready 999999)) (codes "5") SaleReconciliation
  pub own_two_free : PeriodBegins (with_slots 8 (day_known day (Ready 125))) (codes "5") SaleReconciliation
  pub own_one_free : IsPeriodFailure (with_slots 7 (day_known day (Ready 125))) (codes "5") SaleReconciliation UnavailableService
  pub end_of_day : PeriodBegins (day_known day (Ready 125)) (codes "5") AcquirerReconciliation
  pub end_of_day_used_up : PeriodBegins (day_known day (Ready 999999)) (codes "5") AcquirerReconciliation
  pub end_of_day_unlinked : IsPeriodFailure (day_known day (Unlinked None)) (codes "5") AcquirerReconciliation UnavailableDevice
  pub end_of_day_aside : IsPeriodFailure (day_known day (Aside 125 50)) (codes "5") AcquirerReconciliation UnavailableDevice
  pub end_of_day_serving : IsPeriodFailure (day_known day_opened (Serving (Transaction 6) 125)) (codes "5") AcquirerReconciliation Busy
  pub end_of_day_one_free : IsPeriodFailure (with_slots 7 (day_known day (Ready 125))) (codes "5") AcquirerReconciliation UnavailableService

-- While an end of day is served, it is in progress where it is asked for again, and its key isn't allowed for anything else, also where that isn't served or there is no room. The same ServiceID of another till, and another ServiceID, find the terminal busy, but for a reconciliation of the till's own, which begins. A TransactionStatus that names it is in progress; without a reference it is still about the last payment or reversal. An Abort of it gets nothing and is to stop it; that of another key is refused.
pub record ExampleDayServed : Type 0 where
  pub again : IsPeriodFailure (day_known day serving_fifth) (codes "5") AcquirerReconciliation InProgress
  pub again_without_room : IsPeriodFailure (with_slots 6 (day_known day serving_fifth)) (codes "5") AcquirerReconciliation InProgress
  pub again_begins_none : begun_by (day_known day serving_fifth) 3 (Request (period_header (codes "5")) (requests.Reconciliation AcquirerReconciliation)) ≡ []
  pub own_type : IsPeriodFailure (day_known day serving_fifth) (codes "5") SaleReconciliation NotAllowed
  pub unserved_type : IsPeriodFailure (day_known day serving_fifth) (codes "5") PreviousReconciliation NotAllowed
  pub as_payment : IsFailure (day_known day serving_fifth) (payment_header (codes "5")) (euros 100) NotAllowed
  pub as_reversal : IsFailure (day_known day serving_fifth) (reversal_header (codes "5")) (reversal_of_text (codes "000123-0017-0") None) NotAllowed
  pub other_till : IsFailure (day_known day serving_fifth) (record (period_header (codes "5")) { sale = codes "R" }) (requests.Reconciliation AcquirerReconciliation) Busy
  pub other_service : IsPeriodFailure (day_known day serving_fifth) (codes "6") AcquirerReconciliation Busy
  pub own_beside : PeriodBegins (day_known day serving_fifth) (codes "6") SaleReconciliation
  pub on_record : request_reply (day_known day serving_fifth) (payment_header (codes "1")) (euros 1099) ≡ Some first_reply
  pub status : IsFailure (day_known day serving_fifth) asking_header (status_of_service (codes "5")) InProgress
  pub status_by_reference : IsFailure (day_known day serving_fifth) (record asking_header { poi = codes "B" }) (requests.Status (Some (record (reference_to (codes "5")) { poi = Some (codes "A") }))) InProgress
  pub status_of_another : IsFailure (day_known day serving_fifth) asking_header (status_of_service (codes "6")) NotFound
  pub last_status : request_reply (day_known day serving_fifth) asking_header (requests.Status None) ≡ Some third_repeated
  pub abort : request_reply (day_known day serving_fifth) abort_header (abort_of_service (codes "5")) ≡ None
  pub abort_begins : begun_by (day_known day serving_fifth) 3 (Request abort_header (abort_of_service (codes "5"))) ≡ Serve 0 3 abort_header (abort_of_service (codes "5")) ∷ []
  pub abort_of_another : request_reply (day_known day serving_fifth) abort_header (abort_of_service (codes "6")) ≡ Some abort_refused
  pub abort_of_another_begins : begun_by (day_known day serving_fifth) 3 (Request abort_header (abort_of_service (codes "6"))) ≡ []
