-- What is written of a request that was read of some text is a text.
use Rattle.std.proofs.Common.{◌≡◌, ℕ, ◌^◌, ◌<◌, List, [], ◌∷◌, Option, Some, None, true, refl, ◌∙◌, All, IfSome, arith, codes}
use Rattle.std.specs.List.{AllZip}
use Rattle.std.specs.Str.{IsUtf8}
use Rattle.std.proofs.lemmas.List.Elements.{All-head, All-tail}
use Rattle.gw_base.specs.Limits.{IsAmount}
use Rattle.json_text.specs.Tree.{Tree, boolean, string, array, object, no_members, member, names}
use Rattle.json_text.specs.MemberNames.{are_distinct}
use Rattle.json_text.specs.Spellable.{IsSpellable, IsSpellableAt, AreSpellable, HaveSpellable}
use Rattle.sale_values.specs.CanonicalHeader.{header_members}
use Rattle.sale_values.specs.HeaderTexts.{HasUtf8Texts}
use Rattle.sale_values.specs.MemberShapes.{text_member, optional_member, number_member, object_member, only}
use Rattle.sale_values.specs.Money.{money_text}
use Rattle.sale_values.specs.Names.{period_name}
use Rattle.sale_values.specs.declared.header.Header.{Header}
use Rattle.sale_values.specs.declared.request.Incoming.TheVariants as incoming
use Rattle.sale_values.specs.declared.request.Output.{Output}
use Rattle.sale_values.specs.declared.request.PaymentAsk.{PaymentAsk}
use Rattle.sale_values.specs.declared.request.Reference.{Reference}
use Rattle.sale_values.specs.declared.request.ReversalAsk.{ReversalAsk}
use Rattle.sale_values.specs.declared.request.SaleRequest.{SaleRequest}
use Rattle.sale_values.specs.declared.request.SaleRequest.TheVariants as requests
use Rattle.sale_values.proofs.HeaderLemmas.{header_spellable}
use Rattle.sale_values.proofs.ObjectLemmas.{object_at, only_at, optional_have}
use Rattle.sale_values.proofs.MoneyLemmas.{money_number}
use Rattle.sale_values.proofs.Utf8Lemmas.{ascii_utf8, period_utf8}
use Rattle.sale_msg.specs.Grammar.{Asks, IsTillMessage, IsOutput, IsPayment, IsReference, IsReferenceAt, IsReversal, HeaderHolds, parts_of}
use Rattle.sale_msg.specs.Canonical.{body_members, body_name, body_object, output_elements, display_output_tree, payment_members, payment_data, reference_members, referring_members, request_tree, reversal_members, reversed_amount, text_elements, texts_members}
use Rattle.sale_msg.specs.declared.category.Category.TheVariants as categories
use Rattle.sale_msg.proofs.BodyLemmas.{amount_fact}
use Rattle.sale_msg.proofs.TextLemmas.{AllUtf8, IsPart, TextsUtf8, optional_utf8, outputs_parts, part_at, part_of, row_utf8, text_utf8}

-- an amount has 64 bits
small_amount : (n : ℕ) → IsAmount n → n < 2 ^ 64
small_amount n h = let high = h.1 in omega arith

-- ---- the header

header_texts : (body : Tree) (header : Header) → IsPart body → HeaderHolds body header → HasUtf8Texts header
header_texts body header part reported = record {
  category = text_utf8 (codes "MessageHeader.MessageCategory") body header.category part reported.category;
  service = optional_utf8 (codes "MessageHeader.ServiceID") body header.service part reported.service;
  device = optional_utf8 (codes "MessageHeader.DeviceID") body header.device part reported.device;
  sale = text_utf8 (codes "MessageHeader.SaleID") body header.sale part reported.sale;
  poi = text_utf8 (codes "MessageHeader.POIID") body header.poi part reported.poi;
}

-- ---- Payment

-- an object of one text
text_at_depth : (d : ℕ) (name text : List ℕ) → d < 32 → IsUtf8 name → IsUtf8 text → IsSpellableAt d (only name (string text))
text_at_depth d name text room n t = only_at d name (string text) room n t

payment_typed : (payment_type : Option (List ℕ)) → IfSome payment_type IsUtf8 → HaveSpellable 3 (payment_data payment_type)
payment_typed None h = tt
payment_typed (Some text) h =
    (ascii_utf8 (codes "PaymentData") refl, text_at_depth 3 (codes "PaymentType") text (omega arith) (ascii_utf8 (codes "PaymentType") refl) h, tt)

payment_distinct : (transaction stamp currency : List ℕ) (amount : ℕ) (payment_type : Option (List ℕ))
    → are_distinct (names (payment_members (record { transaction = transaction; stamp = stamp; currency = currency; amount = amount; kind = payment_type }))) ≡ true
payment_distinct transaction stamp currency amount None = refl
payment_distinct transaction stamp currency amount (Some text) = refl

-- the till's identification of a payment
abbrev sale_object : List ℕ → List ℕ → Tree
sale_object transaction stamp = object (text_member (codes "TransactionID") transaction (text_member (codes "TimeStamp") stamp no_members))

sale_spellable : (transaction stamp : List ℕ) → IsUtf8 transaction → IsUtf8 stamp → IsSpellableAt 4 (sale_object transaction stamp)
sale_spellable transaction stamp t s =
    object_at 4 (text_member (codes "TransactionID") transaction (text_member (codes "TimeStamp") stamp no_members)) (omega arith) refl
    (ascii_utf8 (codes "TransactionID") refl, t, (ascii_utf8 (codes "TimeStamp") refl, s, tt))

-- the amount of a payment
abbrev amount_object : List ℕ → ℕ → Tree
amount_object currency amount =
    object (text_member (codes "Currency") currency (number_member (codes "RequestedAmount") (money_text amount) no_members))

amount_spellable : (currency : List ℕ) (amount : ℕ) → IsUtf8 currency → amount < 2 ^ 64 → IsSpellableAt 4 (amount_object currency amount)
amount_spellable currency amount c small =
    object_at 4 (text_member (codes "Currency") currency (number_member (codes "RequestedAmount") (money_text amount) no_members)) (omega arith) refl
    (ascii_utf8 (codes "Currency") refl, c, (ascii_utf8 (codes "RequestedAmount") refl, money_number amount small, tt))

payment_spellable : (body : Tree) (ask : PaymentAsk) → IsPart body → IsPayment body ask → IsSpellableAt 2 (object (payment_members ask))
payment_spellable body ask part k =
    let transaction = text_utf8 (codes "PaymentRequest.SaleData.SaleTransactionID.TransactionID") body ask.transaction part k.transaction in
    let stamp = text_utf8 (codes "PaymentRequest.SaleData.SaleTransactionID.TimeStamp") body ask.stamp part k.stamp in
    let currency = text_utf8 (codes "PaymentRequest.PaymentTransaction.AmountsReq.Currency") body ask.currency part k.currency in
    let amount = amount_fact (codes "PaymentRequest.PaymentTransaction.AmountsReq.RequestedAmount") body ask.amount k.amount in
    let payment_type = optional_utf8 (codes "PaymentRequest.PaymentData.PaymentType") body ask.kind part k.payment_type in
    object_at 2 (payment_members ask) (omega arith) (payment_distinct ask.transaction ask.stamp ask.currency ask.amount ask.kind) (
      ascii_utf8 (codes "SaleData") refl,
      only_at 3 (codes "SaleTransactionID") (sale_object ask.transaction ask.stamp) (omega arith) (ascii_utf8 (codes "SaleTransactionID") refl)
          (sale_spellable ask.transaction ask.stamp transaction stamp),
      (
        ascii_utf8 (codes "PaymentTransaction") refl,
        only_at 3 (codes "AmountsReq") (amount_object ask.currency ask.amount) (omega arith) (ascii_utf8 (codes "AmountsReq") refl)
            (amount_spellable ask.currency ask.amount currency (small_amount ask.amount amount)),
        payment_typed ask.kind payment_type,
      ),
    )

-- ---- Reversal

reversed_have : (amount : Option ℕ) → ((n : ℕ) → amount ≡ Some n → n < 2 ^ 64) → HaveSpellable 3 (reversed_amount amount)
reversed_have None h = tt
reversed_have (Some n) h = (ascii_utf8 (codes "ReversedAmount") refl, money_number n (h n refl), tt)

reversal_distinct : (transaction : List ℕ) (amount : Option ℕ)
    → are_distinct (names (reversal_members (record { transaction = transaction; amount = amount }))) ≡ true
reversal_distinct transaction None = refl
reversal_distinct transaction (Some n) = refl

reversal_spellable : (body : Tree) (ask : ReversalAsk) → IsPart body → IsReversal body ask → IsSpellableAt 2 (object (reversal_members ask))
reversal_spellable body ask part k =
    let transaction = text_utf8 (codes "ReversalRequest.OriginalPOITransaction.POITransactionID.TransactionID") body ask.transaction part k.transaction in
    let small : (n : ℕ) → ask.amount ≡ Some n → n < 2 ^ 64 =
    λ n e. small_amount n (amount_fact (codes "ReversalRequest.ReversedAmount") body n (k.amount ∙ e)) in
    object_at 2 (reversal_members ask) (omega arith) (reversal_distinct ask.transaction ask.amount) (
      ascii_utf8 (codes "OriginalPOITransaction") refl,
      only_at 3 (codes "POITransactionID") (only (codes "TransactionID") (string ask.transaction)) (omega arith) (ascii_utf8 (codes "POITransactionID") refl)
          (text_at_depth 4 (codes "TransactionID") ask.transaction (omega arith) (ascii_utf8 (codes "TransactionID") refl) transaction),
      (ascii_utf8 (codes "ReversalReason") refl, ascii_utf8 (codes "MerchantCancel") refl, reversed_have ask.amount small),
    )

-- ---- references

reference_distinct : (service : List ℕ) (sale poi : Option (List ℕ))
    → are_distinct (names (reference_members (record { service = service; sale = sale; poi = poi }))) ≡ true
reference_distinct service None None = refl
reference_distinct service None (Some p) = refl
reference_distinct service (Some s) None = refl
reference_distinct service (Some s) (Some p) = refl

referring_spellable : (tree : Tree) (reference : Reference) → IsPart tree → IsReference tree reference
    → IsSpellableAt 2 (object (referring_members reference))
referring_spellable tree reference part k =
    let service = text_utf8 (codes "ServiceID") tree reference.service part k.service in
    let sale = optional_utf8 (codes "SaleID") tree reference.sale part k.sale in
    let poi = optional_utf8 (codes "POIID") tree reference.poi part k.poi in
    let last = optional_have 4 (codes "POIID") reference.poi no_members (ascii_utf8 (codes "POIID") refl) poi tt in
    let more = optional_have 4 (codes "SaleID") reference.sale (optional_member (codes "POIID") reference.poi no_members) (ascii_utf8 (codes "SaleID") refl) sale last in
    let members : HaveSpellable 4 (reference_members reference) = (ascii_utf8 (codes "ServiceID") refl, service, more) in
    only_at 2 (codes "MessageReference") (object (reference_members reference)) (omega arith) (ascii_utf8 (codes "MessageReference") refl)
    (object_at 3 (reference_members reference) (omega arith) (reference_distinct reference.service reference.sale reference.poi) members)

-- ---- Display

texts_spellable : (texts : List (List ℕ)) → AllUtf8 texts → AreSpellable 7 (text_elements texts)
texts_spellable [] h = tt
texts_spellable (text ∷ texts) h =
    (text_at_depth 7 (codes "Text") text (omega arith) (ascii_utf8 (codes "Text") refl) h.0, texts_spellable texts h.1)

texts_have : (texts : Option (List (List ℕ))) → TextsUtf8 texts → HaveSpellable 6 (texts_members texts)
texts_have None h = tt
texts_have (Some texts) h = (ascii_utf8 (codes "OutputText") refl, (omega arith, texts_spellable texts h), tt)

content_distinct : (texts : Option (List (List ℕ)))
    → are_distinct (names (text_member (codes "OutputFormat") (codes "Text") (texts_members texts))) ≡ true
content_distinct None = refl
content_distinct (Some texts) = refl

content_spellable : (texts : Option (List (List ℕ))) → TextsUtf8 texts
    → IsSpellableAt 5 (object (text_member (codes "OutputFormat") (codes "Text") (texts_members texts)))
content_spellable texts h =
    object_at 5 (text_member (codes "OutputFormat") (codes "Text") (texts_members texts)) (omega arith) (content_distinct texts)
    (ascii_utf8 (codes "OutputFormat") refl, ascii_utf8 (codes "Text") refl, texts_have texts h)

output_have : (output : Output) → IsUtf8 output.device → IsUtf8 output.qualify → TextsUtf8 output.texts → IsSpellableAt 4 (display_output_tree output)
unfolding display_output_tree
output_have output device qualify texts =
    object_at 4 (text_member (codes "Device") output.device (text_member (codes "InfoQualify") output.qualify
    (member (codes "ResponseRequiredFlag") (boolean output.required) (object_member (codes "OutputContent")
    (text_member (codes "OutputFormat") (codes "Text") (texts_members output.texts)) no_members)))) (omega arith) refl (
      ascii_utf8 (codes "Device") refl,
      device,
      (
        ascii_utf8 (codes "InfoQualify") refl,
        qualify,
        (
          ascii_utf8 (codes "ResponseRequiredFlag") refl,
          tt,
          (ascii_utf8 (codes "OutputContent") refl, content_spellable output.texts texts, tt),
        ),
      ),
    )

output_spellable : (part : Tree) (output : Output) → IsPart part → IsOutput part output → IsSpellableAt 4 (display_output_tree output)
output_spellable tree output part k =
    output_have output (text_utf8 (codes "Device") tree output.device part k.device)
    (text_utf8 (codes "InfoQualify") tree output.qualify part k.qualify)
    (row_utf8 (codes "OutputContent.OutputText") tree output.texts part k.texts)

outputs_spellable : (parts : List Tree) (outputs : List Output) → All IsPart parts → AllZip IsOutput parts outputs
    → AreSpellable 4 (output_elements outputs)
outputs_spellable [] [] h z = tt
outputs_spellable [] (o ∷ os) h z = elim z [ ]
outputs_spellable (p ∷ ps) [] h z = elim z [ ]
outputs_spellable (p ∷ ps) (o ∷ os) h z =
    (output_spellable p o (All-head IsPart p ps h) z.0, outputs_spellable ps os (All-tail IsPart p ps h) z.1)

-- ---- every body

referred : (path : List ℕ) (body : Tree) (reference : Reference) → IsPart body → IsReferenceAt path body (Some reference)
    → IsSpellableAt 2 (object (referring_members reference))
referred path body reference part k = referring_spellable k.0 reference (part_at path body k.0 part k.1) k.2

empty_spellable : IsSpellableAt 2 (object no_members)
empty_spellable = object_at 2 no_members (omega arith) refl tt

body_spellable : (body : Tree) (request : SaleRequest) → IsPart body → Asks body request → IsSpellableAt 2 (object (body_members request))
body_spellable body requests.Login part k = empty_spellable
body_spellable body requests.Logout part k = empty_spellable
body_spellable body (requests.Payment ask) part k = payment_spellable body ask part k
body_spellable body (requests.Reversal ask) part k = reversal_spellable body ask part k
body_spellable body (requests.Abort reference) part k = referred (codes "AbortRequest.MessageReference") body reference part k
body_spellable body (requests.Status None) part k = empty_spellable
body_spellable body (requests.Status (Some reference)) part k = referred (codes "TransactionStatusRequest.MessageReference") body reference part k
body_spellable body (requests.Reconciliation period) part k =
    text_at_depth 2 (codes "ReconciliationType") (period_name period) (omega arith) (ascii_utf8 (codes "ReconciliationType") refl) (period_utf8 period)
body_spellable body (requests.Display outputs) part k =
    let parts = outputs_parts (codes "DisplayRequest.DisplayOutput") body part in
    only_at 2 (codes "DisplayOutput") (array (output_elements outputs)) (omega arith) (ascii_utf8 (codes "DisplayOutput") refl)
    (omega arith, outputs_spellable (parts_of categories.Display body) outputs parts k)
body_spellable body (requests.Print qualifier) part k =
    let text = text_utf8 (codes "PrintRequest.PrintOutput.DocumentQualifier") body qualifier part k in
    only_at 2 (codes "PrintOutput") (only (codes "DocumentQualifier") (string qualifier)) (omega arith) (ascii_utf8 (codes "PrintOutput") refl)
    (text_at_depth 3 (codes "DocumentQualifier") qualifier (omega arith) (ascii_utf8 (codes "DocumentQualifier") refl) text)
body_spellable body requests.Diagnosis part k = empty_spellable

-- ---- the message

name_utf8 : (request : SaleRequest) → IsUtf8 (body_name request)
name_utf8 requests.Login = ascii_utf8 (codes "LoginRequest") refl
name_utf8 requests.Logout = ascii_utf8 (codes "LogoutRequest") refl
name_utf8 (requests.Payment ask) = ascii_utf8 (codes "PaymentRequest") refl
name_utf8 (requests.Reversal ask) = ascii_utf8 (codes "ReversalRequest") refl
name_utf8 (requests.Abort reference) = ascii_utf8 (codes "AbortRequest") refl
name_utf8 (requests.Status reference) = ascii_utf8 (codes "TransactionStatusRequest") refl
name_utf8 (requests.Reconciliation period) = ascii_utf8 (codes "ReconciliationRequest") refl
name_utf8 (requests.Display outputs) = ascii_utf8 (codes "DisplayRequest") refl
name_utf8 (requests.Print qualifier) = ascii_utf8 (codes "PrintRequest") refl
name_utf8 requests.Diagnosis = ascii_utf8 (codes "DiagnosisRequest") refl

name_distinct : (request : SaleRequest) → are_distinct (codes "MessageHeader" ∷ body_name request ∷ []) ≡ true
name_distinct requests.Login = refl
name_distinct requests.Logout = refl
name_distinct (requests.Payment ask) = refl
name_distinct (requests.Reversal ask) = refl
name_distinct (requests.Abort reference) = refl
name_distinct (requests.Status reference) = refl
name_distinct (requests.Reconciliation period) = refl
name_distinct (requests.Display outputs) = refl
name_distinct (requests.Print qualifier) = refl
name_distinct requests.Diagnosis = refl

body_members_have : (header : Header) (request : SaleRequest) → HasUtf8Texts header → IsSpellableAt 2 (object (body_members request))
    → IsSpellableAt 1 (body_object header request)
body_members_have header request texts body =
    object_at 1 (object_member (codes "MessageHeader") (header_members header) (object_member (body_name request) (body_members request) no_members))
    (omega arith) (name_distinct request)
    (ascii_utf8 (codes "MessageHeader") refl, header_spellable 2 header texts (omega arith), (name_utf8 request, body, tt))

-- a request that a spellable tree is, is written as a spellable tree
pub request_spellable : (tree : Tree) (header : Header) (request : SaleRequest) → IsSpellable tree
    → IsTillMessage tree (incoming.Request header request) → IsSpellable (request_tree header request)
request_spellable tree header request h p =
    let r = p.1 in
    let whole : IsPart tree = record { depth = 0; spellable = h } in
    let part = part_of (codes "SaleToPOIRequest") tree p.0 whole r.request_of.under in
    let texts = header_texts p.0 header part r.request_of.header_is.values in
    only_at 0 (codes "SaleToPOIRequest") (body_object header request) (omega arith) (ascii_utf8 (codes "SaleToPOIRequest") refl)
    (body_members_have header request texts (body_spellable p.0 request part r.asks))
