-- The relation of a tree and the message of a till that it is, and of a tree and its fault.
use Rattle.std.specs.Prelude.{◌≡◌, ◌≢◌, ℕ, List, [], ◌∷◌, true, Option, Some, None, unwrap_or, option_map, filter_map, codes, All, ◌⊎◌}
use Rattle.std.specs.List.{AllZip}
use Rattle.std.specs.Option.{option_and_then, option_to_list}
use Rattle.json_text.specs.Tree.{Tree, array_of, get_of}
use Rattle.sale_values.specs.Names.{class_name, kind_name, period_name}
use Rattle.sale_values.specs.declared.header.Header.{Header}
use Rattle.sale_values.specs.declared.names.Kind.TheVariants as kinds
use Rattle.sale_values.specs.declared.request.Incoming.{Incoming}
use Rattle.sale_values.specs.declared.request.Incoming.TheVariants as incoming
use Rattle.sale_values.specs.declared.request.Output.{Output}
use Rattle.sale_values.specs.declared.request.PaymentAsk.{PaymentAsk}
use Rattle.sale_values.specs.declared.request.Reference.{Reference}
use Rattle.sale_values.specs.declared.request.ReversalAsk.{ReversalAsk}
use Rattle.sale_values.specs.declared.request.SaleRequest.{SaleRequest}
use Rattle.sale_values.specs.declared.request.SaleRequest.TheVariants as requests
use Rattle.sale_values.specs.declared.fault.SaleFault.{SaleFault}
use Rattle.sale_values.specs.declared.fault.SaleFault.TheVariants as faults
use Rattle.sale_msg.specs.Category.{category_name, category_of}
use Rattle.sale_msg.specs.Path.{amount_at, flag_at, text_at, tree_at}
use Rattle.sale_msg.specs.Table.{header_rows, part_rows, rows_of}
use Rattle.sale_msg.specs.Flaw.{AreMet, IsFirstAmong, IsFirstFlaw}
use Rattle.sale_msg.specs.declared.category.Category.{Category}
use Rattle.sale_msg.specs.declared.category.Category.TheVariants as categories
use Rattle.sale_msg.specs.declared.flaw.Flaw.{Flaw}
use Rattle.sale_msg.specs.declared.flaw.Flaw.TheVariants as flaws
use Rattle.sale_msg.specs.declared.table.Envelope.{Envelope}
use Rattle.sale_msg.specs.declared.table.Envelope.TheVariants as envelopes
use Rattle.sale_msg.specs.declared.error.MessageError.{MessageError}
use Rattle.sale_msg.specs.declared.error.MessageError.TheVariants as errors

-- the body object is in this envelope of the message; where there are both envelopes, that of requests counts
abbrev pub IsUnderEnvelope : Envelope → Tree → Tree → Type 0
IsUnderEnvelope envelopes.Request message body = get_of (codes "SaleToPOIRequest") message ≡ Some body
IsUnderEnvelope envelopes.Response message body =
    (get_of (codes "SaleToPOIRequest") message ≡ None) × (get_of (codes "SaleToPOIResponse") message ≡ Some body)

-- the message has neither envelope
pub record LacksEnvelope (message : Tree) : Type 0 where
  pub request : get_of (codes "SaleToPOIRequest") message ≡ None
  pub response : get_of (codes "SaleToPOIResponse") message ≡ None

-- what the header's members are
pub record HeaderHolds (body : Tree) (header : Header) : Type 0 where
  pub class : text_at (codes "MessageHeader.MessageClass") body ≡ Some (class_name header.class)
  pub category : text_at (codes "MessageHeader.MessageCategory") body ≡ Some header.category
  pub message_type : text_at (codes "MessageHeader.MessageType") body ≡ Some (kind_name header.kind)
  pub service : text_at (codes "MessageHeader.ServiceID") body ≡ header.service
  pub device : text_at (codes "MessageHeader.DeviceID") body ≡ header.device
  pub sale : text_at (codes "MessageHeader.SaleID") body ≡ Some header.sale
  pub poi : text_at (codes "MessageHeader.POIID") body ≡ Some header.poi

-- the body object has a header by the table, and it is this one
pub record HasHeader (envelope : Envelope) (body : Tree) (header : Header) : Type 0 where
  pub members : AreMet (header_rows envelope) body
  pub values : HeaderHolds body header

-- the body object is in this envelope of the message, and has this header
abbrev pub IsHeaded : Tree → Envelope → Tree → Header → Type 0
IsHeaded message envelope body header = IsUnderEnvelope envelope message body × HasHeader envelope body header

-- what a Payment asks
pub record IsPayment (body : Tree) (ask : PaymentAsk) : Type 0 where
  pub transaction : text_at (codes "PaymentRequest.SaleData.SaleTransactionID.TransactionID") body ≡ Some ask.transaction
  pub stamp : text_at (codes "PaymentRequest.SaleData.SaleTransactionID.TimeStamp") body ≡ Some ask.stamp
  pub currency : text_at (codes "PaymentRequest.PaymentTransaction.AmountsReq.Currency") body ≡ Some ask.currency
  pub amount : amount_at (codes "PaymentRequest.PaymentTransaction.AmountsReq.RequestedAmount") body ≡ Some ask.amount
  pub payment_type : text_at (codes "PaymentRequest.PaymentData.PaymentType") body ≡ ask.kind

-- what a Reversal asks
pub record IsReversal (body : Tree) (ask : ReversalAsk) : Type 0 where
  pub transaction : text_at (codes "ReversalRequest.OriginalPOITransaction.POITransactionID.TransactionID") body ≡ Some ask.transaction
  pub amount : amount_at (codes "ReversalRequest.ReversedAmount") body ≡ ask.amount

-- the object of a reference
pub record IsReference (object : Tree) (reference : Reference) : Type 0 where
  pub service : text_at (codes "ServiceID") object ≡ Some reference.service
  pub sale : text_at (codes "SaleID") object ≡ reference.sale
  pub poi : text_at (codes "POIID") object ≡ reference.poi

-- the reference at this path, where the body has one
abbrev pub IsReferenceAt : List ℕ → Tree → Option Reference → Type 0
IsReferenceAt path body None = tree_at path body ≡ None
IsReferenceAt path body (Some reference) = (object : Tree) × (tree_at path body ≡ Some object) × IsReference object reference

-- the texts of a list of objects
abbrev pub texts_of : List Tree → List (List ℕ)
texts_of elements = filter_map (text_at (codes "Text")) elements

-- one output
pub record IsOutput (object : Tree) (output : Output) : Type 0 where
  pub device : text_at (codes "Device") object ≡ Some output.device
  pub qualify : text_at (codes "InfoQualify") object ≡ Some output.qualify
  pub required : unwrap_or (flag_at (codes "ResponseRequiredFlag") object) true ≡ output.required
  pub texts : option_map texts_of (option_and_then array_of (tree_at (codes "OutputContent.OutputText") object)) ≡ output.texts

-- the elements of a list; a value that is no list is taken as a list of one
abbrev pub listed : Tree → List Tree
listed tree = unwrap_or (array_of tree) (tree ∷ [])

-- the outputs of a Display; none where its `DisplayOutput` is absent
abbrev pub outputs_in : Option Tree → List Tree
outputs_in None = []
outputs_in (Some tree) = listed tree

-- the objects within a body that have a table of their own
abbrev pub parts_of : Category → Tree → List Tree
parts_of categories.Login body = []
parts_of categories.Logout body = []
parts_of categories.Payment body = []
parts_of categories.Reversal body = []
parts_of categories.Abort body = []
parts_of categories.TransactionStatus body = option_to_list (tree_at (codes "TransactionStatusRequest.MessageReference") body)
parts_of categories.Reconciliation body = []
parts_of categories.Display body = outputs_in (tree_at (codes "DisplayRequest.DisplayOutput") body)
parts_of categories.Print body = []
parts_of categories.Diagnosis body = []

-- what the body of a request asks
abbrev pub Asks : Tree → SaleRequest → Type 0
Asks body requests.Login = Unit {0}
Asks body requests.Logout = Unit {0}
Asks body (requests.Payment ask) = IsPayment body ask
Asks body (requests.Reversal ask) = IsReversal body ask
Asks body (requests.Abort reference) = IsReferenceAt (codes "AbortRequest.MessageReference") body (Some reference)
Asks body (requests.Status reference) = IsReferenceAt (codes "TransactionStatusRequest.MessageReference") body reference
Asks body (requests.Reconciliation period) = text_at (codes "ReconciliationRequest.ReconciliationType") body ≡ Some (period_name period)
Asks body (requests.Display outputs) = AllZip IsOutput (parts_of categories.Display body) outputs
Asks body (requests.Print qualifier) = text_at (codes "PrintRequest.PrintOutput.DocumentQualifier") body ≡ Some qualifier
Asks body requests.Diagnosis = Unit {0}

-- the body object holds each member of this category's tables
pub record HasBody (category : Category) (body : Tree) : Type 0 where
  pub members : AreMet (rows_of category) body
  pub parts : All (AreMet (part_rows category)) (parts_of category body)

-- the first flaw by this category's tables: those of the body come first, then those of its parts
abbrev pub IsBodyFlaw : Category → Tree → Flaw → Type 0
IsBodyFlaw category body flaw =
    IsFirstFlaw (rows_of category) body flaw
    ⊎ (AreMet (rows_of category) body × IsFirstAmong (part_rows category) (parts_of category body) flaw)

-- the message is under `SaleToPOIRequest` with this body object, header and type
pub record IsRequestOf (message body : Tree) (header : Header) : Type 0 where
  pub under : IsUnderEnvelope envelopes.Request message body
  pub header_is : HasHeader envelopes.Request body header
  pub message_type : header.kind ≡ kinds.Request

-- the message is this request
pub record IsRequest (message body : Tree) (header : Header) (request : SaleRequest) : Type 0 where
  pub request_of : IsRequestOf message body header
  pub category : category_name (category_of request) ≡ header.category
  pub members : HasBody (category_of request) body
  pub asks : Asks body request

-- the message is a response, or a notification
pub record IsSilent (message : Tree) (envelope : Envelope) (body : Tree) (header : Header) : Type 0 where
  pub under : IsUnderEnvelope envelope message body
  pub header_is : HasHeader envelope body header
  pub silent : (envelope ≡ envelopes.Response) ⊎ (header.kind ≡ kinds.Notification)

-- the tree is the message
abbrev pub IsTillMessage : Tree → Incoming → Type 0
IsTillMessage message (incoming.Request header request) = (body : Tree) × IsRequest message body header request
IsTillMessage message incoming.Silent = (envelope : Envelope) × (body : Tree) × (header : Header) × IsSilent message envelope body header

-- the path of a flaw
abbrev pub path_of : Flaw → List ℕ
path_of (flaws.Missing path) = path
path_of (flaws.Wrong path) = path

-- Inner: the fault of a request with this header
abbrev pub fault_of : Header → Flaw → SaleFault
fault_of header (flaws.Missing path) = faults.Missing header path
fault_of header (flaws.Wrong path) = faults.Wrong header path

-- the header has its first flaw at this path
pub record HasNoHeader (message : Tree) (path : List ℕ) (envelope : Envelope) (body : Tree) (flaw : Flaw) : Type 0 where
  pub under : IsUnderEnvelope envelope message body
  pub first : IsFirstFlaw (header_rows envelope) body flaw
  pub path_is : path ≡ path_of flaw

-- the body of a request has this first flaw
pub record HasBodyFlaw (message : Tree) (header : Header) (flaw : Flaw) (body : Tree) (category : Category) : Type 0 where
  pub request_of : IsRequestOf message body header
  pub category_is : category_name category ≡ header.category
  pub first : IsBodyFlaw category body flaw

-- the message is a request with this header and this first flaw
abbrev pub IsFlawed : Tree → Header → Flaw → Type 0
IsFlawed message header flaw = (body : Tree) × (category : Category) × HasBodyFlaw message header flaw body category

-- no header can be read of the message, and the fault has this path
abbrev pub LacksHeader : Tree → List ℕ → Type 0
LacksHeader message path =
    (LacksEnvelope message × (path ≡ codes "SaleToPOIRequest"))
    ⊎ ((envelope : Envelope) × (body : Tree) × (flaw : Flaw) × HasNoHeader message path envelope body flaw)

-- no header can be read of the message, and this is the fault
abbrev pub IsHeadless : Tree → SaleFault → Type 0
IsHeadless message fault = (path : List ℕ) × LacksHeader message path × (fault ≡ faults.NoHeader path)

-- the tree is no message, and this is its first fault
abbrev pub IsSaleFault : Tree → SaleFault → Type 0
IsSaleFault message (faults.NoHeader path) = LacksHeader message path
IsSaleFault message (faults.Missing header path) = IsFlawed message header (flaws.Missing path)
IsSaleFault message (faults.Wrong header path) = IsFlawed message header (flaws.Wrong path)
IsSaleFault message (faults.Unserved header) =
    (body : Tree) × IsRequestOf message body header × ((category : Category) → category_name category ≢ header.category)

-- why the tree was refused: this fault, or refused memory
abbrev pub RefusesTree : Tree → MessageError → Type 0
RefusesTree message errors.Memory = Unit {0}
RefusesTree message (errors.Fault fault) = IsSaleFault message fault
