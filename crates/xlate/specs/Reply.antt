-- The reply to a finished request.
use Rattle.std.specs.Prelude.{ℕ, Bool, true, false, List, codes, Option, Some, None, option_map, option_and_then}
use Rattle.gw_base.specs.declared.condition.Condition.{Condition}
use Rattle.gw_base.specs.declared.figures.Money.{Money}
use Rattle.jrn_record.specs.declared.records.Deal.{Deal}
use Rattle.jrn_record.specs.declared.records.Deal.TheVariants.{Payment, Reversal}
use Rattle.jrn_record.specs.declared.records.How.{How}
use Rattle.jrn_record.specs.declared.records.How.TheVariants.{Sale, Acquirer}
use Rattle.jrn_record.specs.declared.records.Intent.{Intent as TheIntent}
use Rattle.jrn_record.specs.declared.records.Outcome.{Outcome as TheOutcome}
use Rattle.gw_ledger.specs.declared.entry.Closed.{Closed as TheClosed}
use Rattle.gw_ledger.specs.declared.entry.Entry.{Entry as TheEntry}
use Rattle.gw_ledger.specs.declared.entry.Found.{Found}
use Rattle.gw_ledger.specs.declared.entry.Found.TheVariants.{Entry, Closed}
use Rattle.sale_values.specs.declared.header.Header.{Header}
use Rattle.sale_values.specs.declared.names.Class.TheVariants as classes
use Rattle.sale_values.specs.declared.names.Kind.TheVariants as kinds
use Rattle.sale_values.specs.declared.names.Period.{Period}
use Rattle.sale_values.specs.declared.names.Period.TheVariants.{SaleReconciliation, AcquirerReconciliation}
use Rattle.sale_reply.specs.declared.reply.PoiMark.{PoiMark}
use Rattle.sale_reply.specs.declared.reply.SaleReply.{SaleReply}
use Rattle.sale_reply.specs.declared.reply.SaleReply.TheVariants as reply
use Rattle.sale_reply.specs.declared.reply.Told.{Told}
use Rattle.sale_reply.specs.declared.reply.Told.TheVariants.{PaymentApproved, PaymentDeclined, ReversalApproved, ReversalDeclined, Reconciled}

-- ---- the header

-- the category of what was asked of the terminal
abbrev pub deal_category : Deal → List ℕ
deal_category Payment = codes "Payment"
deal_category Reversal = codes "Reversal"

-- the header of a reply of this category to the request with these texts
abbrev pub reply_header : List ℕ → List ℕ → List ℕ → List ℕ → Header
reply_header category sale poi service = record {
  class = classes.Service;
  category = category;
  kind = kinds.Response;
  service = Some service;
  device = None;
  sale = sale;
  poi = poi;
}

-- the header of the reply to a finished request
abbrev pub header_of : Found → Header
header_of (Entry entry) = reply_header (deal_category entry.intent.what) entry.intent.sale entry.intent.poi entry.intent.service
header_of (Closed closed) = reply_header (codes "Reconciliation") closed.settled.sale closed.settled.poi closed.settled.service

-- ---- the result body

-- the numbers and the moment of an Outcome, and its Intent's slot
abbrev pub transaction_mark : ℕ → TheOutcome → PoiMark
transaction_mark slot outcome = record { number = outcome.number; receipt = outcome.receipt; slot = slot; moment = outcome.moment }

-- the Outcome's amount, in the Intent's currency
abbrev pub money_of : TheIntent → TheOutcome → Money
money_of intent outcome = record { minor = outcome.amount; currency = intent.currency }

-- the till's texts of the transaction and the reason, where they are there
abbrev pub with_texts : TheIntent → (List ℕ → List ℕ → Told) → Option Told
with_texts intent body = option_and_then (λ transaction. option_map (body transaction) intent.stamp) intent.transaction

-- the body with the reason of a decline
abbrev pub with_reason : TheOutcome → (Condition → Option Told) → Option Told
with_reason outcome body = option_and_then body outcome.condition

-- the result body of an entry, by what was asked and whether it was approved; none where a record lacks what the body has
abbrev pub entry_body : Deal → Bool → ℕ → TheIntent → TheOutcome → Option Told
entry_body Payment true slot intent outcome = with_texts intent
    (λ transaction stamp. PaymentApproved transaction stamp (transaction_mark slot outcome) intent.amount (money_of intent outcome))
entry_body Payment false slot intent outcome = with_reason outcome (λ reason.
    with_texts intent (λ transaction stamp. PaymentDeclined transaction stamp (transaction_mark slot outcome) reason))
entry_body Reversal true slot intent outcome = Some (ReversalApproved (transaction_mark slot outcome) (money_of intent outcome))
entry_body Reversal false slot intent outcome = with_reason outcome (λ reason. Some (ReversalDeclined (transaction_mark slot outcome) reason))

-- the result body of an entry with this Outcome
abbrev pub outcome_body : TheEntry → TheOutcome → Option Told
outcome_body entry outcome = entry_body entry.intent.what outcome.approved entry.slot entry.intent outcome

-- the reconciliation type of a Settled
abbrev pub period_of : How → Period
period_of Sale = SaleReconciliation
period_of Acquirer = AcquirerReconciliation

-- the result body of a reconciliation: the totals up to it
abbrev pub totals_body : TheClosed → Told
totals_body closed = Reconciled (period_of closed.settled.how) closed.totals.currency closed.totals.debit closed.totals.reversed

-- the result body of a finished request; none of one that is open
abbrev pub result_body_of : Found → Option Told
result_body_of (Entry entry) = option_and_then (outcome_body entry) entry.result
result_body_of (Closed closed) = Some (totals_body closed)

-- ---- the reply

-- the reply to a finished request; none to one that is open
abbrev pub reply_for : Found → Option SaleReply
reply_for found = option_map (reply.Told (header_of found)) (result_body_of found)
