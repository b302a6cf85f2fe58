-- The tables of members: of the header, and of the body of each category.
-- A table's order is the order in which faults are looked for.
use Rattle.std.specs.Prelude.{ℕ, List, [], ◌∷◌, ◌++◌, codes}
use Prim.Native.String.{String}
use Rattle.sale_msg.specs.declared.category.Category.{Category}
use Rattle.sale_msg.specs.declared.category.Category.TheVariants as categories
use Rattle.sale_msg.specs.declared.table.Form.{Form}
use Rattle.sale_msg.specs.declared.table.Form.TheVariants.{Object, Text, Ident, Letters, Version, Class, RequestKind, Kind, Currency, Amount, Flag, Period, Outputs, Texts}
use Rattle.sale_msg.specs.declared.table.Presence.{Presence}
use Rattle.sale_msg.specs.declared.table.Presence.TheVariants.{Required, Optional, ByHeader}
use Rattle.sale_msg.specs.declared.table.Envelope.{Envelope}
use Rattle.sale_msg.specs.declared.table.Envelope.TheVariants as envelopes

-- a member by its path in the table's object, its path in a fault, whether it may be absent, and its form
pub record MemberRow : Type 0 where
  pub within : List ℕ
  pub path : List ℕ
  pub presence : Presence
  pub form : Form

-- a member of the body object; its path in a fault is the same
abbrev pub member_row : String → Presence → Form → MemberRow
member_row path presence form = record { within = codes path; path = codes path; presence = presence; form = form }

-- a member of an object within the body; its path in a fault begins with that object's
abbrev pub part_row : String → String → Presence → Form → MemberRow
part_row object path presence form =
    record { within = codes path; path = codes object ++ 0x2E ∷ codes path; presence = presence; form = form }

-- the type of a message in each envelope
abbrev pub kind_form : Envelope → Form
kind_form envelopes.Request = RequestKind
kind_form envelopes.Response = Kind

-- the header, in each envelope
abbrev pub header_rows : Envelope → List MemberRow
header_rows envelope =
    member_row "MessageHeader" Required Object
    ∷ member_row "MessageHeader.ProtocolVersion" Optional Version
    ∷ member_row "MessageHeader.MessageClass" Required Class
    ∷ member_row "MessageHeader.MessageCategory" Required Letters
    ∷ member_row "MessageHeader.MessageType" Required (kind_form envelope)
    ∷ member_row "MessageHeader.ServiceID" ByHeader (Ident 10)
    ∷ member_row "MessageHeader.DeviceID" Optional (Ident 10)
    ∷ member_row "MessageHeader.SaleID" Required (Ident 40)
    ∷ member_row "MessageHeader.POIID" Required (Ident 40)
    ∷ []

-- what every body but those of Display and Print asks of the header
abbrev pub service_row : MemberRow
service_row = member_row "MessageHeader.ServiceID" Required (Ident 10)

-- a Payment
abbrev pub payment_rows : List MemberRow
payment_rows =
    service_row
    ∷ member_row "PaymentRequest" Required Object
    ∷ member_row "PaymentRequest.SaleData" Required Object
    ∷ member_row "PaymentRequest.SaleData.SaleTransactionID" Required Object
    ∷ member_row "PaymentRequest.SaleData.SaleTransactionID.TransactionID" Required (Ident 80)
    ∷ member_row "PaymentRequest.SaleData.SaleTransactionID.TimeStamp" Required (Ident 35)
    ∷ member_row "PaymentRequest.PaymentTransaction" Required Object
    ∷ member_row "PaymentRequest.PaymentTransaction.AmountsReq" Required Object
    ∷ member_row "PaymentRequest.PaymentTransaction.AmountsReq.Currency" Required Currency
    ∷ member_row "PaymentRequest.PaymentTransaction.AmountsReq.RequestedAmount" Required Amount
    ∷ member_row "PaymentRequest.PaymentData" Optional Object
    ∷ member_row "PaymentRequest.PaymentData.PaymentType" Optional Text
    ∷ []

-- a Reversal
abbrev pub reversal_rows : List MemberRow
reversal_rows =
    service_row
    ∷ member_row "ReversalRequest" Required Object
    ∷ member_row "ReversalRequest.OriginalPOITransaction" Required Object
    ∷ member_row "ReversalRequest.OriginalPOITransaction.POITransactionID" Required Object
    ∷ member_row "ReversalRequest.OriginalPOITransaction.POITransactionID.TransactionID" Required (Ident 80)
    ∷ member_row "ReversalRequest.ReversalReason" Required Text
    ∷ member_row "ReversalRequest.ReversedAmount" Optional Amount
    ∷ []

-- an Abort, with its reference
abbrev pub abort_rows : List MemberRow
abort_rows =
    service_row
    ∷ member_row "AbortRequest" Required Object
    ∷ member_row "AbortRequest.MessageReference" Required Object
    ∷ member_row "AbortRequest.MessageReference.ServiceID" Required (Ident 10)
    ∷ member_row "AbortRequest.MessageReference.SaleID" Optional (Ident 40)
    ∷ member_row "AbortRequest.MessageReference.POIID" Optional (Ident 40)
    ∷ member_row "AbortRequest.AbortReason" Optional Text
    ∷ []

-- a TransactionStatus
abbrev pub status_rows : List MemberRow
status_rows =
    service_row
    ∷ member_row "TransactionStatusRequest" Required Object
    ∷ member_row "TransactionStatusRequest.MessageReference" Optional Object
    ∷ []

-- the reference of a TransactionStatus, where it has one
abbrev pub status_reference_rows : List MemberRow
status_reference_rows =
    part_row "TransactionStatusRequest.MessageReference" "ServiceID" Required (Ident 10)
    ∷ part_row "TransactionStatusRequest.MessageReference" "SaleID" Optional (Ident 40)
    ∷ part_row "TransactionStatusRequest.MessageReference" "POIID" Optional (Ident 40)
    ∷ []

-- a Reconciliation
abbrev pub reconciliation_rows : List MemberRow
reconciliation_rows =
    service_row
    ∷ member_row "ReconciliationRequest" Required Object
    ∷ member_row "ReconciliationRequest.ReconciliationType" Required Period
    ∷ []

-- a Display
abbrev pub display_rows : List MemberRow
display_rows =
    member_row "DisplayRequest" Required Object
    ∷ member_row "DisplayRequest.DisplayOutput" Required Outputs
    ∷ []

-- each output of a Display
abbrev pub output_rows : List MemberRow
output_rows =
    part_row "DisplayRequest.DisplayOutput" "Device" Required (Ident 40)
    ∷ part_row "DisplayRequest.DisplayOutput" "InfoQualify" Required (Ident 40)
    ∷ part_row "DisplayRequest.DisplayOutput" "ResponseRequiredFlag" Optional Flag
    ∷ part_row "DisplayRequest.DisplayOutput" "OutputContent" Required Object
    ∷ part_row "DisplayRequest.DisplayOutput" "OutputContent.OutputFormat" Required Text
    ∷ part_row "DisplayRequest.DisplayOutput" "OutputContent.OutputText" Optional Texts
    ∷ []

-- a Print
abbrev pub print_rows : List MemberRow
print_rows =
    member_row "PrintRequest" Required Object
    ∷ member_row "PrintRequest.PrintOutput" Required Object
    ∷ member_row "PrintRequest.PrintOutput.DocumentQualifier" Required (Ident 40)
    ∷ []

-- the body of each category
abbrev pub rows_of : Category → List MemberRow
rows_of categories.Login = service_row ∷ member_row "LoginRequest" Required Object ∷ []
rows_of categories.Logout = service_row ∷ member_row "LogoutRequest" Required Object ∷ []
rows_of categories.Payment = payment_rows
rows_of categories.Reversal = reversal_rows
rows_of categories.Abort = abort_rows
rows_of categories.TransactionStatus = status_rows
rows_of categories.Reconciliation = reconciliation_rows
rows_of categories.Display = display_rows
rows_of categories.Print = print_rows
rows_of categories.Diagnosis = service_row ∷ member_row "DiagnosisRequest" Required Object ∷ []

-- each object within a body that has a table of its own
abbrev pub part_rows : Category → List MemberRow
part_rows categories.Login = []
part_rows categories.Logout = []
part_rows categories.Payment = []
part_rows categories.Reversal = []
part_rows categories.Abort = []
part_rows categories.TransactionStatus = status_reference_rows
part_rows categories.Reconciliation = []
part_rows categories.Display = output_rows
part_rows categories.Print = []
part_rows categories.Diagnosis = []
