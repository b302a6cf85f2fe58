-- What a till is expected to read of each reply.
use Rattle.std.specs.Prelude.{◌≡◌, ◌≢◌, ℕ, List, All, codes, Option, Some, None, ◌⊎◌}
use Rattle.gw_base.specs.declared.condition.Condition.{Condition}
use Rattle.sale_values.specs.declared.header.Header.{Header}
use Rattle.sale_values.specs.declared.names.Class.TheVariants as classes
use Rattle.sale_values.specs.declared.names.Kind.TheVariants as kinds
use Rattle.sale_msg.specs.Form.{IsLetter}
use Rattle.sale_reply.specs.Names.{paid_result, result_of}
use Rattle.gw_base.specs.Transaction.{transaction_text}
use Rattle.sale_reply.specs.declared.reply.PoiMark.{PoiMark}
use Rattle.sale_reply.specs.declared.reply.ReplyResult.{ReplyResult}
use Rattle.sale_reply.specs.declared.reply.ReplyResult.TheVariants.{Success, Failure}
use Rattle.sale_reply.specs.declared.reply.Told.{Told}
use Rattle.sale_reply.specs.declared.reply.Told.TheVariants.{PaymentApproved, PaymentDeclined, ReversalApproved, ReversalDeclined, Reconciled}
use Rattle.sale_reply.specs.declared.reply.SaleReply.{SaleReply}
use Rattle.sale_reply.specs.declared.reply.SaleReply.TheVariants as reply
use Rattle.sale_seen.specs.Grammar.{ReadReply}
use Rattle.sale_seen.specs.ReplyMembers.{by_category}

-- the result of an outcome
abbrev pub expected_result : Told → ReplyResult
expected_result (PaymentApproved transaction stamp mark requested paid) = paid_result requested paid.minor
expected_result (PaymentDeclined transaction stamp mark condition) = Failure
expected_result (ReversalApproved mark reversed) = Success
expected_result (ReversalDeclined mark condition) = Failure
expected_result (Reconciled period currency debit reversed) = Success

-- why it was declined
abbrev pub expected_condition : Told → Option Condition
expected_condition (PaymentApproved transaction stamp mark requested paid) = None
expected_condition (PaymentDeclined transaction stamp mark condition) = Some condition
expected_condition (ReversalApproved mark reversed) = None
expected_condition (ReversalDeclined mark condition) = Some condition
expected_condition (Reconciled period currency debit reversed) = None

-- the text of an entry that the terminal approved
abbrev pub approved_text : PoiMark → List ℕ
approved_text mark = transaction_text mark.number mark.receipt mark.slot

-- the text of an entry that it declined
abbrev pub declined_text : PoiMark → List ℕ
declined_text mark = transaction_text 0 0 mark.slot

-- the text that identifies an outcome
abbrev pub text_of_outcome : Told → Option (List ℕ)
text_of_outcome (PaymentApproved transaction stamp mark requested paid) = Some (approved_text mark)
text_of_outcome (PaymentDeclined transaction stamp mark condition) = Some (declined_text mark)
text_of_outcome (ReversalApproved mark reversed) = Some (approved_text mark)
text_of_outcome (ReversalDeclined mark condition) = Some (declined_text mark)
text_of_outcome (Reconciled period currency debit reversed) = None

-- the text that identifies the outcome of a payment or a reversal
abbrev pub expected_transaction : List ℕ → Told → Option (List ℕ)
expected_transaction category told = by_category category (text_of_outcome told) (text_of_outcome told)

-- the minor units that were paid
abbrev pub paid_units : Told → Option ℕ
paid_units (PaymentApproved transaction stamp mark requested paid) = Some paid.minor
paid_units (PaymentDeclined transaction stamp mark condition) = None
paid_units (ReversalApproved mark reversed) = None
paid_units (ReversalDeclined mark condition) = None
paid_units (Reconciled period currency debit reversed) = None

-- the minor units that were reversed
abbrev pub reversed_units : Told → Option ℕ
reversed_units (PaymentApproved transaction stamp mark requested paid) = None
reversed_units (PaymentDeclined transaction stamp mark condition) = None
reversed_units (ReversalApproved mark reversed) = Some reversed.minor
reversed_units (ReversalDeclined mark condition) = None
reversed_units (Reconciled period currency debit reversed) = None

-- the minor units that were paid in a payment, or reversed in a reversal
abbrev pub expected_amount : List ℕ → Told → Option ℕ
expected_amount category told = by_category category (paid_units told) (reversed_units told)

-- a result without an outcome
abbrev pub expected_plain : Header → Option Condition → ReadReply
expected_plain header condition = record {
  category = header.category;
  result = result_of condition;
  condition = condition;
  transaction = None;
  minor = None;
}

-- an outcome of this category, with the result and the condition of its reply
abbrev pub expected_outcome : Header → ReplyResult → Option Condition → List ℕ → Told → ReadReply
expected_outcome header result condition category told = record {
  category = header.category;
  result = result;
  condition = condition;
  transaction = expected_transaction category told;
  minor = expected_amount category told;
}

-- what is read of a reply; nothing of a Display, which has a result for each output, and of what is no reply
abbrev pub expected_reply : SaleReply → Option ReadReply
expected_reply (reply.Plain header verdict) = Some (expected_plain header verdict.condition)
expected_reply (reply.Told header told) = Some (expected_outcome header (expected_result told) (expected_condition told) header.category told)
expected_reply (reply.Status header repeated told) = Some (expected_outcome header Success None repeated.category told)
expected_reply (reply.Diagnosis header status) = Some (expected_plain header None)
expected_reply (reply.Display header outputs) = None
expected_reply (reply.Print header qualifier verdict) = Some (expected_plain header verdict.condition)
expected_reply (reply.DisplayRequest header code) = None
expected_reply (reply.PrintRequest header lines) = None
expected_reply (reply.Reject sale poi moment detail) = None

-- the category is letters, and there is a `ServiceID`, but for the class Device and in a notification
pub record IsReadable (header : Header) : Type 0 where
  pub category : All IsLetter header.category
  pub service : header.service ≡ None → (header.class ≡ classes.Device) ⊎ (header.kind ≡ kinds.Notification)

-- the header can be read, and is that of a status exactly where an outcome is repeated
abbrev pub Suits : SaleReply → Type 0
Suits (reply.Plain header verdict) = IsReadable header
Suits (reply.Told header told) = IsReadable header × (header.category ≢ codes "TransactionStatus")
Suits (reply.Status header repeated told) = IsReadable header × (header.category ≡ codes "TransactionStatus")
Suits (reply.Diagnosis header status) = IsReadable header
Suits (reply.Display header outputs) = IsReadable header
Suits (reply.Print header qualifier verdict) = IsReadable header
Suits (reply.DisplayRequest header code) = ⊥
Suits (reply.PrintRequest header lines) = ⊥
Suits (reply.Reject sale poi moment detail) = ⊥

-- the header of the reply to a Display
abbrev pub display_header_of : SaleReply → Option Header
display_header_of (reply.Plain header verdict) = None
display_header_of (reply.Told header told) = None
display_header_of (reply.Status header repeated told) = None
display_header_of (reply.Diagnosis header status) = None
display_header_of (reply.Display header outputs) = Some header
display_header_of (reply.Print header qualifier verdict) = None
display_header_of (reply.DisplayRequest header code) = None
display_header_of (reply.PrintRequest header lines) = None
display_header_of (reply.Reject sale poi moment detail) = None
