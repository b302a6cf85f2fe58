-- The one tree of each message to a till: nexo Sale to POI 3.0, narrowed to this profile.
use Rattle.std.specs.Prelude.{ℕ, List, ◌++◌, codes, decimal, map, Option, Some, None, option_map, false, ℤ}
use Rattle.json_text.specs.Tree.{Tree, boolean, string, array, object, Elements, no_elements, element, Members, no_members, member}
use Rattle.json_text.specs.ValueOf.{elements_onto}
use Rattle.gw_base.specs.declared.condition.Condition.{Condition}
use Rattle.gw_base.specs.declared.currency.Currency.{Currency}
use Rattle.gw_base.specs.declared.figures.Money.{Money}
use Rattle.gw_base.specs.Condition.{name_of}
use Rattle.gw_base.specs.Currency.{currency_letters}
use Rattle.gw_base.specs.Moment.{stamp_of}
use Rattle.gw_base.specs.Transaction.{transaction_text}
use Rattle.sale_values.specs.declared.header.Header.{Header}
use Rattle.sale_values.specs.declared.names.Class.TheVariants as classes
use Rattle.sale_values.specs.declared.names.Kind.TheVariants as kinds
use Rattle.sale_values.specs.Names.{period_name}
use Rattle.sale_reply.specs.declared.reply.PoiMark.{PoiMark}
use Rattle.sale_reply.specs.declared.reply.Verdict.{Verdict}
use Rattle.sale_reply.specs.declared.reply.Shown.{Shown}
use Rattle.sale_reply.specs.declared.reply.GlobalStatus.{GlobalStatus}
use Rattle.sale_reply.specs.declared.reply.Detail.{Detail}
use Rattle.sale_reply.specs.declared.reply.ReplyResult.{ReplyResult}
use Rattle.sale_reply.specs.declared.reply.ReplyResult.TheVariants as result
use Rattle.sale_reply.specs.declared.reply.Told.{Told}
use Rattle.sale_reply.specs.declared.reply.Told.TheVariants.{PaymentApproved, PaymentDeclined, ReversalApproved, ReversalDeclined, Reconciled}
use Rattle.sale_reply.specs.declared.reply.SaleReply.{SaleReply}
use Rattle.sale_reply.specs.declared.reply.SaleReply.TheVariants as reply
use Rattle.sale_values.specs.CanonicalHeader.{header_members}
use Rattle.sale_values.specs.Money.{money_text}
use Rattle.sale_values.specs.MemberShapes.{text_member, optional_member, number_member, object_member, only}
use Rattle.sale_reply.specs.Names.{result_name, status_name, result_of, paid_result}
use Rattle.sale_reply.specs.Texts.{intermediate_text, line_text, detail_text}

-- a message header
unfoldable pub header_tree : Header → Tree
header_tree header = object (header_members header)

-- a message: its envelope, its header, and its body, named by the category and what it is
unfoldable pub message_tree : List ℕ → Header → List ℕ → Tree → Tree
message_tree envelope header suffix body = only envelope (object
    (member (codes "MessageHeader") (header_tree header)
    (member (header.category ++ suffix) body no_members)))

-- a reply
abbrev pub response_tree : Header → Tree → Tree
response_tree header body = message_tree (codes "SaleToPOIResponse") header (codes "Response") body

-- a device request
abbrev pub device_request : Header → Tree → Tree
device_request header body = message_tree (codes "SaleToPOIRequest") header (codes "Request") body

-- the response object: its result, why it failed, and the path of the member at fault
unfoldable pub result_tree : ReplyResult → Option Condition → Option (List ℕ) → Tree
result_tree outcome condition path = object
    (text_member (codes "Result") (result_name outcome)
    (optional_member (codes "ErrorCondition") (option_map name_of condition)
    (optional_member (codes "AdditionalResponse") path no_members)))

-- a verdict without a condition is a success
abbrev pub verdict_tree : Verdict → Tree
verdict_tree verdict = result_tree (result_of verdict.condition) verdict.condition verdict.path

-- a success, with nothing to explain
abbrev pub success_tree : Tree
success_tree = result_tree result.Success None None

-- a failure, and why
abbrev pub failure_tree : Condition → Tree
failure_tree condition = result_tree result.Failure (Some condition) None

-- a body of a response object alone
abbrev pub plain_body : Tree → Tree
plain_body outcome = only (codes "Response") outcome

-- an identification: `TransactionID` and `TimeStamp`
abbrev pub identified : List ℕ → List ℕ → Members
identified transaction stamp =
    text_member (codes "TransactionID") transaction (text_member (codes "TimeStamp") stamp no_members)

-- the till's identification of a transaction
unfoldable pub sale_data : List ℕ → List ℕ → Tree
sale_data transaction stamp = only (codes "SaleTransactionID") (object (identified transaction stamp))

-- the gateway's identification of a transaction, with the numbers of the terminal
unfoldable pub poi_data : ℕ → ℕ → PoiMark → Tree
poi_data trace receipt mark = only (codes "POITransactionID")
    (object (identified (transaction_text trace receipt mark.slot) (stamp_of mark.moment)))

-- an approved entry has the terminal's numbers
abbrev pub approved_data : PoiMark → Tree
approved_data mark = poi_data mark.number mark.receipt mark

-- a declined entry has zeros
abbrev pub declined_data : PoiMark → Tree
declined_data mark = poi_data 0 0 mark

-- what was paid
unfoldable pub payment_result : Currency → ℕ → Tree
payment_result currency units = only (codes "AmountsResp") (object
    (text_member (codes "Currency") (currency_letters currency)
    (number_member (codes "AuthorizedAmount") (money_text units) no_members)))

-- how many of this type, and their sum
unfoldable pub total : List ℕ → ℕ × ℕ → Tree
total type sum = object
    (text_member (codes "TransactionType") type
    (number_member (codes "TransactionCount") (decimal sum.0)
    (number_member (codes "TransactionAmount") (money_text sum.1) no_members)))

-- the totals of a period: payments, then reversals
unfoldable pub totals : Currency → ℕ × ℕ → ℕ × ℕ → Tree
totals currency debit reversed = object
    (text_member (codes "PaymentInstrumentType") (codes "Card")
    (text_member (codes "PaymentCurrency") (currency_letters currency)
    (member (codes "PaymentTotals")
    (array (element (total (codes "Debit") debit) (element (total (codes "ReverseDebit") reversed) no_elements))) no_members)))

-- the body of the reply to an approved payment
unfoldable pub approved_body : List ℕ → List ℕ → PoiMark → ReplyResult → Money → Tree
approved_body transaction stamp mark outcome paid = object
    (member (codes "Response") (result_tree outcome None None)
    (member (codes "SaleData") (sale_data transaction stamp)
    (member (codes "POIData") (approved_data mark)
    (member (codes "PaymentResult") (payment_result paid.currency paid.minor) no_members))))

-- the result body of a payment, a reversal or a reconciliation
unfoldable pub result_body : Told → Tree
result_body (PaymentApproved transaction stamp mark requested paid) =
    approved_body transaction stamp mark (paid_result requested paid.minor) paid
result_body (PaymentDeclined transaction stamp mark condition) = object
    (member (codes "Response") (failure_tree condition)
    (member (codes "SaleData") (sale_data transaction stamp)
    (member (codes "POIData") (declined_data mark) no_members)))
result_body (ReversalApproved mark reversed) = object
    (member (codes "Response") success_tree
    (member (codes "POIData") (approved_data mark)
    (number_member (codes "ReversedAmount") (money_text reversed.minor) no_members)))
result_body (ReversalDeclined mark condition) = object
    (member (codes "Response") (failure_tree condition)
    (member (codes "POIData") (declined_data mark) no_members))
result_body (Reconciled period currency debit reversed) = object
    (member (codes "Response") success_tree
    (text_member (codes "ReconciliationType") (period_name period)
    (member (codes "TransactionTotals") (array (element (totals currency debit reversed) no_elements)) no_members)))

-- a reply that is repeated: the header that it had, and its body under the name that it had
unfoldable pub repeated_message : Header → Tree → Tree
repeated_message header body = object
    (member (codes "MessageHeader") (header_tree header)
    (member (codes "RepeatedResponseMessageBody") (only (header.category ++ codes "Response") body) no_members))

-- the body that repeats the reply to a finished request
unfoldable pub status_body : Header → Tree → Tree
status_body header body = object
    (member (codes "Response") success_tree
    (member (codes "RepeatedMessageResponse") (repeated_message header body) no_members))

-- the body that reports whether the terminal can be used
unfoldable pub diagnosis_body : GlobalStatus → Tree
diagnosis_body status = object
    (member (codes "Response") success_tree
    (object_member (codes "POIStatus") (text_member (codes "GlobalStatus") (status_name status) no_members) no_members))

-- the result of one output
unfoldable pub output_result_tree : Shown → Tree
output_result_tree shown = object
    (text_member (codes "Device") shown.device
    (text_member (codes "InfoQualify") shown.qualify
    (member (codes "Response") (verdict_tree shown.verdict) no_members)))

-- the results of the outputs, in order
unfoldable pub display_body : List Shown → Tree
display_body outputs = only (codes "OutputResult") (array (elements_onto (map output_result_tree outputs) no_elements))

-- the result of a print
unfoldable pub print_body : List ℕ → Verdict → Tree
print_body qualifier verdict = object
    (text_member (codes "DocumentQualifier") qualifier
    (member (codes "Response") (verdict_tree verdict) no_members))

-- one line of text
unfoldable pub text_tree : List ℕ → Tree
text_tree text = only (codes "Text") (string text)

-- lines of text to be shown or printed
unfoldable pub content : Elements → Tree
content texts = object
    (text_member (codes "OutputFormat") (codes "Text")
    (member (codes "OutputText") (array texts) no_members))

-- the body that shows a cashier an intermediate status of the terminal
unfoldable pub display_request_body : ℕ → Tree
display_request_body code = only (codes "DisplayOutput") (array (element (object
    (member (codes "ResponseRequiredFlag") (boolean false)
    (text_member (codes "Device") (codes "CashierDisplay")
    (text_member (codes "InfoQualify") (codes "Status")
    (member (codes "OutputContent") (content (element (text_tree (intermediate_text code)) no_elements)) no_members)))))
    no_elements))

-- the lines that are printed, each as a text
abbrev pub line_trees : List (List ℕ) → List Tree
line_trees lines = map (λ line. text_tree (line_text line)) lines

-- the body that prints lines of the terminal
unfoldable pub print_request_body : List (List ℕ) → Tree
print_request_body lines = only (codes "PrintOutput") (object
    (text_member (codes "DocumentQualifier") (codes "Document")
    (text_member (codes "ResponseMode") (codes "NotRequired")
    (member (codes "OutputContent") (content (elements_onto (line_trees lines) no_elements)) no_members))))

-- the header of an event
abbrev pub event_header : List ℕ → List ℕ → Header
event_header sale poi = record {
  class = classes.Event;
  category = codes "Event";
  kind = kinds.Notification;
  service = None;
  device = None;
  sale = sale;
  poi = poi;
}

-- what happened, and when
unfoldable pub event_body : ℤ → Detail → Tree
event_body moment detail = object
    (text_member (codes "TimeStamp") (stamp_of moment)
    (text_member (codes "EventToNotify") (codes "Reject")
    (text_member (codes "EventDetails") (detail_text detail) no_members)))

-- the event that a message was rejected
abbrev pub event_tree : List ℕ → List ℕ → ℤ → Detail → Tree
event_tree sale poi moment detail =
    message_tree (codes "SaleToPOIRequest") (event_header sale poi) (codes "Notification") (event_body moment detail)

-- the tree of a message to a till
abbrev pub tree_of : SaleReply → Tree
tree_of (reply.Plain header verdict) = response_tree header (plain_body (verdict_tree verdict))
tree_of (reply.Told header told) = response_tree header (result_body told)
tree_of (reply.Status header repeated told) = response_tree header (status_body repeated (result_body told))
tree_of (reply.Diagnosis header status) = response_tree header (diagnosis_body status)
tree_of (reply.Display header outputs) = response_tree header (display_body outputs)
tree_of (reply.Print header qualifier verdict) = response_tree header (print_body qualifier verdict)
tree_of (reply.DisplayRequest header code) = device_request header (display_request_body code)
tree_of (reply.PrintRequest header lines) = device_request header (print_request_body (map (λ line. line.now) lines.now))
tree_of (reply.Reject sale poi moment detail) = event_tree sale poi moment detail
