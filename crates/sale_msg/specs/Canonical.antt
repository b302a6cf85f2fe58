-- The tree of a request that is written: the members of the tables in their order, none for what is absent.
use Rattle.std.specs.Prelude.{ℕ, List, [], ◌∷◌, Option, Some, None, codes}
use Rattle.json_text.specs.Tree.{Tree, boolean, array, object, Elements, no_elements, element, Members, no_members, member}
use Rattle.sale_values.specs.CanonicalHeader.{header_members}
use Rattle.sale_values.specs.MemberShapes.{text_member, optional_member, number_member, object_member, only}
use Rattle.sale_values.specs.Money.{money_text}
use Rattle.sale_values.specs.Names.{period_name}
use Rattle.sale_values.specs.declared.header.Header.{Header}
use Rattle.sale_values.specs.declared.request.Output.{Output}
use Rattle.sale_values.specs.declared.request.PaymentAsk.{PaymentAsk}
use Rattle.sale_values.specs.declared.request.Reference.{Reference}
use Rattle.sale_values.specs.declared.request.ReversalAsk.{ReversalAsk}
use Rattle.sale_values.specs.declared.request.SaleRequest.{SaleRequest}
use Rattle.sale_values.specs.declared.request.SaleRequest.TheVariants as requests

-- the type of a Payment, where it has one
abbrev pub payment_data : Option (List ℕ) → Members
payment_data None = no_members
payment_data (Some payment_type) = object_member (codes "PaymentData") (text_member (codes "PaymentType") payment_type no_members) no_members

-- what a Payment asks: the till's transaction, the amount, and the type where there is one
abbrev pub payment_members : PaymentAsk → Members
payment_members ask =
    object_member (codes "SaleData")
    (object_member (codes "SaleTransactionID")
    (text_member (codes "TransactionID") ask.transaction (text_member (codes "TimeStamp") ask.stamp no_members))
    no_members)
    (object_member (codes "PaymentTransaction")
    (object_member (codes "AmountsReq")
    (text_member (codes "Currency") ask.currency (number_member (codes "RequestedAmount") (money_text ask.amount) no_members))
    no_members)
    (payment_data ask.kind))

-- the amount of a Reversal, where it has one
abbrev pub reversed_amount : Option ℕ → Members
reversed_amount None = no_members
reversed_amount (Some units) = number_member (codes "ReversedAmount") (money_text units) no_members

-- what a Reversal asks: the gateway's transaction, the one reason of this profile, and the amount where there is one
abbrev pub reversal_members : ReversalAsk → Members
reversal_members ask =
    object_member (codes "OriginalPOITransaction")
    (object_member (codes "POITransactionID") (text_member (codes "TransactionID") ask.transaction no_members) no_members)
    (text_member (codes "ReversalReason") (codes "MerchantCancel") (reversed_amount ask.amount))

-- a reference
abbrev pub reference_members : Reference → Members
reference_members reference =
    text_member (codes "ServiceID") reference.service
    (optional_member (codes "SaleID") reference.sale (optional_member (codes "POIID") reference.poi no_members))

-- a body that holds a reference alone
abbrev pub referring_members : Reference → Members
referring_members reference = object_member (codes "MessageReference") (reference_members reference) no_members

-- the reference of a TransactionStatus, where it has one
abbrev pub status_members : Option Reference → Members
status_members None = no_members
status_members (Some reference) = referring_members reference

-- one object for each text
abbrev pub text_elements : List (List ℕ) → Elements
text_elements [] = no_elements
text_elements (text ∷ texts) = element (object (text_member (codes "Text") text no_members)) (text_elements texts)

-- the texts of an output, where it has some
abbrev pub texts_members : Option (List (List ℕ)) → Members
texts_members None = no_members
texts_members (Some texts) = member (codes "OutputText") (array (text_elements texts)) no_members

-- an output, with its flag
unfoldable pub display_output_tree : Output → Tree
display_output_tree output = object
    (text_member (codes "Device") output.device
    (text_member (codes "InfoQualify") output.qualify
    (member (codes "ResponseRequiredFlag") (boolean output.required)
    (object_member (codes "OutputContent")
    (text_member (codes "OutputFormat") (codes "Text") (texts_members output.texts))
    no_members))))

-- the outputs in order
abbrev pub output_elements : List Output → Elements
output_elements [] = no_elements
output_elements (output ∷ outputs) = element (display_output_tree output) (output_elements outputs)

-- the members of a request's body
abbrev pub body_members : SaleRequest → Members
body_members requests.Login = no_members
body_members requests.Logout = no_members
body_members (requests.Payment ask) = payment_members ask
body_members (requests.Reversal ask) = reversal_members ask
body_members (requests.Abort reference) = referring_members reference
body_members (requests.Status reference) = status_members reference
body_members (requests.Reconciliation period) = text_member (codes "ReconciliationType") (period_name period) no_members
body_members (requests.Display outputs) = member (codes "DisplayOutput") (array (output_elements outputs)) no_members
body_members (requests.Print qualifier) =
    object_member (codes "PrintOutput") (text_member (codes "DocumentQualifier") qualifier no_members) no_members
body_members requests.Diagnosis = no_members

-- the name of a request's body
abbrev pub body_name : SaleRequest → List ℕ
body_name requests.Login = codes "LoginRequest"
body_name requests.Logout = codes "LogoutRequest"
body_name (requests.Payment ask) = codes "PaymentRequest"
body_name (requests.Reversal ask) = codes "ReversalRequest"
body_name (requests.Abort reference) = codes "AbortRequest"
body_name (requests.Status reference) = codes "TransactionStatusRequest"
body_name (requests.Reconciliation period) = codes "ReconciliationRequest"
body_name (requests.Display outputs) = codes "DisplayRequest"
body_name (requests.Print qualifier) = codes "PrintRequest"
body_name requests.Diagnosis = codes "DiagnosisRequest"

-- the body object: the header, and the body of the request
abbrev pub body_object : Header → SaleRequest → Tree
body_object header request = object
    (object_member (codes "MessageHeader") (header_members header)
    (object_member (body_name request) (body_members request) no_members))

-- the message
abbrev pub request_tree : Header → SaleRequest → Tree
request_tree header request = only (codes "SaleToPOIRequest") (body_object header request)
