-- The bodies of requests that were read are read again from the trees that are written of them.
use Rattle.std.proofs.Common.{◌≡◌, ℕ, ◌≤◌, List, [], ◌∷◌, Option, Some, None, Bool, refl, sym, ap, subst, ◌∙◌, All, length, MatchOption, codes, arith, unwrap_or}
use Rattle.std.specs.List.{AllZip}
use Rattle.std.specs.Option.{option_and_then, option_to_list, is_some}
use Rattle.std.proofs.lemmas.List.Elements.{All-nil, All-cons, All-head, All-tail}
use Rattle.gw_base.specs.Ident.{IsIdent}
use Rattle.gw_base.specs.Limits.{IsAmount}
use Rattle.json_text.specs.Tree.{Tree, string_of, numeral_of, array, array_of, object, elements_list, no_members}
use Rattle.sale_values.specs.Names.{period_name}
use Rattle.sale_values.specs.declared.header.Header.{Header}
use Rattle.sale_values.specs.declared.names.Class.{Class as ClassType}
use Rattle.sale_values.specs.declared.names.Kind.{Kind as KindType}
use Rattle.sale_values.specs.declared.names.Period.{Period as PeriodType}
use Rattle.sale_values.specs.declared.request.Incoming.TheVariants as incoming
use Rattle.sale_values.specs.declared.request.Output.{Output}
use Rattle.sale_values.specs.declared.request.PaymentAsk.{PaymentAsk}
use Rattle.sale_values.specs.declared.request.Reference.{Reference}
use Rattle.sale_values.specs.declared.request.ReversalAsk.{ReversalAsk}
use Rattle.sale_values.specs.declared.request.SaleRequest.{SaleRequest}
use Rattle.sale_values.specs.declared.request.SaleRequest.TheVariants as requests
use Rattle.sale_msg.specs.Category.{category_of}
use Rattle.sale_msg.specs.Form.{HasTextMember, IsJsonObject, IsOutputList, TextHasForm}
use Rattle.sale_msg.specs.Flaw.{AreMet, IsMet, MayBeAbsent}
use Rattle.sale_msg.specs.Path.{amount_at, text_at, tree_at}
use Rattle.sale_msg.specs.Table.{abort_rows, output_rows, payment_rows, reversal_rows, rows_of, service_row, status_reference_rows}
use Rattle.sale_msg.specs.Grammar.{Asks, HasBody, IsTillMessage, IsOutput, IsPayment, IsReference, IsReferenceAt, IsReversal, HeaderHolds, listed, outputs_in, parts_of, texts_of}
use Rattle.sale_msg.specs.Canonical.{body_object, output_elements, display_output_tree, reference_members, request_tree, text_elements}
use Rattle.sale_values.specs.MemberShapes.{text_member}
use Rattle.sale_msg.specs.declared.category.Category.TheVariants as categories
use Rattle.sale_msg.specs.declared.table.Form.TheVariants as forms
use Rattle.sale_msg.specs.declared.table.Presence.TheVariants.{Required, Optional}
use Rattle.sale_msg.proofs.HeaderLemmas.{header_again, header_facts, ident_fact, parted, text_fact}
use Rattle.sale_values.proofs.MoneyLemmas.{money_again}
use Rattle.sale_msg.proofs.MoneyLemmas.{money_is_amount, read_is_amount}
use Rattle.sale_msg.proofs.PathLemmas.{value_at_within}
use Rattle.sale_msg.proofs.RowLemmas.{required_as, optional_as}

-- ---- ServiceID

-- a text that is there
pub record There (found : Option Tree) (most : ℕ) : Type 0 where
  pub text : List ℕ
  pub is : option_and_then string_of found ≡ Some text
  pub ident : IsIdent most text

there : (found : Option Tree) (most : ℕ) → MatchOption found ⊥ (λ value. MatchOption (string_of value) ⊥ (IsIdent most)) → There found most
there None most h = absurd h
there (Some value) most h = by (string_of value) refl h
  where
    by : (o : Option (List ℕ)) → string_of value ≡ o → MatchOption o ⊥ (IsIdent most) → There (Some value) most
    by None e k = absurd k
    by (Some text) e k = record { text = text; is = e; ident = k }

service_parts : (class : ClassType) (category : List ℕ) (message_type : KindType) (s : List ℕ) (device : Option (List ℕ)) (sale poi : List ℕ) (request : SaleRequest)
    → IsIdent 10 s → IsMet service_row (body_object (parted class category message_type (Some s) device sale poi) request)
unfolding tree_at IsMet
service_parts class category message_type s device sale poi request h = h

-- a ServiceID that was read is there again
pub service_again : (body : Tree) (header : Header) (request : SaleRequest) → IsMet service_row body → HeaderHolds body header
    → IsMet service_row (body_object header request)
unfolding IsMet
service_again body header request h t =
    let found = there (tree_at (codes "MessageHeader.ServiceID") body) 10 h in
    let e : Some found.text ≡ header.service = sym found.is ∙ t.service in
    let P : Option (List ℕ) → Type 0 = λ service.
    IsMet service_row (body_object (parted header.class header.category header.kind service header.device header.sale header.poi) request) in
    subst P e (service_parts header.class header.category header.kind found.text header.device header.sale header.poi request found.ident)

-- ---- facts

currency_fact : (tree : Tree) (path reported text : List ℕ)
    → IsMet (record { within = path; path = reported; presence = Required; form = forms.Currency }) tree
    → text_at path tree ≡ Some text → TextHasForm forms.Currency text
unfolding IsMet
currency_fact tree path reported text h e = text_fact forms.Currency (tree_at path tree) text (MayBeAbsent Required tree) h e

pub amount_fact : (path : List ℕ) (tree : Tree) (n : ℕ) → amount_at path tree ≡ Some n → IsAmount n
amount_fact path tree n e = read_is_amount (option_and_then numeral_of (tree_at path tree)) n e

-- ---- Payment

payment_met : (header : Header) (transaction stamp currency : List ℕ) (amount : ℕ) (payment_type : Option (List ℕ))
    → IsMet service_row (body_object header (requests.Payment (record { transaction = transaction; stamp = stamp; currency = currency; amount = amount; kind = payment_type })))
    → IsIdent 80 transaction → IsIdent 35 stamp → TextHasForm forms.Currency currency → IsAmount amount
    → AreMet payment_rows (body_object header (requests.Payment (record { transaction = transaction; stamp = stamp; currency = currency; amount = amount; kind = payment_type })))
unfolding tree_at IsMet
payment_met header transaction stamp currency amount None service t s c a =
    (service, (refl, (refl, (refl, (t, (s, (refl, (refl, (c, (money_is_amount amount a, (tt, (tt, tt))))))))))))
payment_met header transaction stamp currency amount (Some payment_type) service t s c a =
    (service, (refl, (refl, (refl, (t, (s, (refl, (refl, (c, (money_is_amount amount a, (refl, (tt, tt))))))))))))

payment_asks : (header : Header) (transaction stamp currency : List ℕ) (amount : ℕ) (payment_type : Option (List ℕ)) → IsAmount amount
    → IsPayment (body_object header (requests.Payment (record { transaction = transaction; stamp = stamp; currency = currency; amount = amount; kind = payment_type })))
    (record { transaction = transaction; stamp = stamp; currency = currency; amount = amount; kind = payment_type })
unfolding tree_at
payment_asks header transaction stamp currency amount None a =
    record { transaction = refl; stamp = refl; currency = refl; amount = money_again amount a; payment_type = refl }
payment_asks header transaction stamp currency amount (Some payment_type) a =
    record { transaction = refl; stamp = refl; currency = refl; amount = money_again amount a; payment_type = refl }

-- a body that holds what its request asks
pub record Again (header : Header) (request : SaleRequest) : Type 0 where
  pub members : HasBody (category_of request) (body_object header request)
  pub asks : Asks (body_object header request) request

payment_again : (body : Tree) (header : Header) (ask : PaymentAsk) → HasBody categories.Payment body → HeaderHolds body header
    → IsPayment body ask → Again header (requests.Payment ask)
payment_again body header ask h t k =
    let m = h.members in
    let transaction = ident_fact (codes "PaymentRequest.SaleData.SaleTransactionID.TransactionID") _ Required 80 body ask.transaction m.1.1.1.1.0 k.transaction in
    let stamp = ident_fact (codes "PaymentRequest.SaleData.SaleTransactionID.TimeStamp") _ Required 35 body ask.stamp m.1.1.1.1.1.0 k.stamp in
    let currency = currency_fact body (codes "PaymentRequest.PaymentTransaction.AmountsReq.Currency") _ ask.currency m.1.1.1.1.1.1.1.1.0 k.currency in
    let amount = amount_fact (codes "PaymentRequest.PaymentTransaction.AmountsReq.RequestedAmount") body ask.amount k.amount in
    record {
      members = record {
        members = payment_met header ask.transaction ask.stamp ask.currency ask.amount ask.kind (service_again body header (requests.Payment ask) m.0 t) transaction stamp currency amount;
        parts = All-nil (AreMet []);
      };
      asks = payment_asks header ask.transaction ask.stamp ask.currency ask.amount ask.kind amount;
    }

-- ---- Reversal

reversal_met : (header : Header) (transaction : List ℕ) (amount : Option ℕ)
    → IsMet service_row (body_object header (requests.Reversal (record { transaction = transaction; amount = amount })))
    → IsIdent 80 transaction → ((n : ℕ) → amount ≡ Some n → IsAmount n)
    → AreMet reversal_rows (body_object header (requests.Reversal (record { transaction = transaction; amount = amount })))
unfolding tree_at IsMet
reversal_met header transaction None service t a = (service, (refl, (refl, (refl, (t, (tt, (tt, tt)))))))
reversal_met header transaction (Some n) service t a = (service, (refl, (refl, (refl, (t, (tt, (money_is_amount n (a n refl), tt)))))))

reversal_asks : (header : Header) (transaction : List ℕ) (amount : Option ℕ) → ((n : ℕ) → amount ≡ Some n → IsAmount n)
    → IsReversal (body_object header (requests.Reversal (record { transaction = transaction; amount = amount }))) (record { transaction = transaction; amount = amount })
unfolding tree_at
reversal_asks header transaction None a = record { transaction = refl; amount = refl }
reversal_asks header transaction (Some n) a = record { transaction = refl; amount = money_again n (a n refl) }

reversal_again : (body : Tree) (header : Header) (ask : ReversalAsk) → HasBody categories.Reversal body → HeaderHolds body header
    → IsReversal body ask → Again header (requests.Reversal ask)
reversal_again body header ask h t k =
    let m = h.members in
    let transaction = ident_fact (codes "ReversalRequest.OriginalPOITransaction.POITransactionID.TransactionID") _ Required 80 body ask.transaction m.1.1.1.1.0 k.transaction in
    let amount : (n : ℕ) → ask.amount ≡ Some n → IsAmount n = λ n e. amount_fact (codes "ReversalRequest.ReversedAmount") body n (k.amount ∙ e) in
    record {
      members = record {
        members = reversal_met header ask.transaction ask.amount (service_again body header (requests.Reversal ask) m.0 t) transaction amount;
        parts = All-nil (AreMet []);
      };
      asks = reversal_asks header ask.transaction ask.amount amount;
    }

-- ---- references

-- what the members of a reference are
pub record ReferenceFacts (reference : Reference) : Type 0 where
  pub service : IsIdent 10 reference.service
  pub sale : (text : List ℕ) → reference.sale ≡ Some text → IsIdent 40 text
  pub poi : (text : List ℕ) → reference.poi ≡ Some text → IsIdent 40 text

reference_facts : (part : Tree) (reference : Reference) → AreMet status_reference_rows part → IsReference part reference → ReferenceFacts reference
reference_facts part reference m k = record {
  service = ident_fact (codes "ServiceID") _ Required 10 part reference.service m.0 k.service;
  sale = λ text e. ident_fact (codes "SaleID") _ Optional 40 part text m.1.0 (k.sale ∙ e);
  poi = λ text e. ident_fact (codes "POIID") _ Optional 40 part text m.1.1.0 (k.poi ∙ e);
}

abbrev referring : List ℕ → Option (List ℕ) → Option (List ℕ) → Reference
referring service sale poi = record { service = service; sale = sale; poi = poi }

reference_met : (service : List ℕ) (sale poi : Option (List ℕ)) → ReferenceFacts (referring service sale poi)
    → AreMet status_reference_rows (object (reference_members (referring service sale poi)))
unfolding tree_at IsMet
reference_met service None None f = (f.service, (tt, (tt, tt)))
reference_met service None (Some p) f = (f.service, (tt, (f.poi p refl, tt)))
reference_met service (Some s) None f = (f.service, (f.sale s refl, (tt, tt)))
reference_met service (Some s) (Some p) f = (f.service, (f.sale s refl, (f.poi p refl, tt)))

reference_read : (service : List ℕ) (sale poi : Option (List ℕ))
    → IsReference (object (reference_members (referring service sale poi))) (referring service sale poi)
unfolding tree_at
reference_read service None None = record { service = refl; sale = refl; poi = refl }
reference_read service None (Some p) = record { service = refl; sale = refl; poi = refl }
reference_read service (Some s) None = record { service = refl; sale = refl; poi = refl }
reference_read service (Some s) (Some p) = record { service = refl; sale = refl; poi = refl }

-- the reference of an Abort, by a reference's own table
pub abort_part_met : (body part : Tree) → AreMet abort_rows body → tree_at (codes "AbortRequest.MessageReference") body ≡ Some part
    → AreMet status_reference_rows part
abort_part_met body part m e = (
  required_as _ _ _ _ _ body part m.1.1.1.0
      (value_at_within (codes "AbortRequest.MessageReference.ServiceID") (codes "AbortRequest.MessageReference") (codes "ServiceID") body part refl e),
  (
    optional_as _ _ _ _ _ body part m.1.1.1.1.0
        (value_at_within (codes "AbortRequest.MessageReference.SaleID") (codes "AbortRequest.MessageReference") (codes "SaleID") body part refl e),
    (
      optional_as _ _ _ _ _ body part m.1.1.1.1.1.0
          (value_at_within (codes "AbortRequest.MessageReference.POIID") (codes "AbortRequest.MessageReference") (codes "POIID") body part refl e),
      tt,
    ),
  ),
)

abort_met : (header : Header) (service : List ℕ) (sale poi : Option (List ℕ))
    → IsMet service_row (body_object header (requests.Abort (referring service sale poi))) → ReferenceFacts (referring service sale poi)
    → AreMet abort_rows (body_object header (requests.Abort (referring service sale poi)))
unfolding tree_at IsMet
abort_met header service None None own f = (own, (refl, (refl, (f.service, (tt, (tt, (tt, tt)))))))
abort_met header service None (Some p) own f = (own, (refl, (refl, (f.service, (tt, (f.poi p refl, (tt, tt)))))))
abort_met header service (Some s) None own f = (own, (refl, (refl, (f.service, (f.sale s refl, (tt, (tt, tt)))))))
abort_met header service (Some s) (Some p) own f = (own, (refl, (refl, (f.service, (f.sale s refl, (f.poi p refl, (tt, tt)))))))

abort_there : (header : Header) (reference : Reference)
    → tree_at (codes "AbortRequest.MessageReference") (body_object header (requests.Abort reference)) ≡ Some (object (reference_members reference))
unfolding tree_at
abort_there header reference = refl

abort_again : (body : Tree) (header : Header) (reference : Reference) → HasBody categories.Abort body → HeaderHolds body header
    → IsReferenceAt (codes "AbortRequest.MessageReference") body (Some reference) → Again header (requests.Abort reference)
abort_again body header reference h t k =
    let facts = reference_facts k.0 reference (abort_part_met body k.0 h.members k.1) k.2 in
    record {
      members = record {
        members = abort_met header reference.service reference.sale reference.poi (service_again body header (requests.Abort reference) h.members.0 t) facts;
        parts = All-nil (AreMet []);
      };
      asks = (object (reference_members reference), abort_there header reference, reference_read reference.service reference.sale reference.poi);
    }

-- ---- TransactionStatus

status_part : (body part : Tree) → HasBody categories.TransactionStatus body
    → tree_at (codes "TransactionStatusRequest.MessageReference") body ≡ Some part → AreMet status_reference_rows part
status_part body part h e =
    let P : Option Tree → Type 0 = λ o. All (AreMet status_reference_rows) (option_to_list o) in
    All-head (AreMet status_reference_rows) part [] (subst P e h.parts)

status_there : (header : Header) (reference : Reference)
    → tree_at (codes "TransactionStatusRequest.MessageReference") (body_object header (requests.Status (Some reference))) ≡ Some (object (reference_members reference))
unfolding tree_at
status_there header reference = refl

status_absent : (header : Header)
    → tree_at (codes "TransactionStatusRequest.MessageReference") (body_object header (requests.Status None)) ≡ None
unfolding tree_at
status_absent header = refl

status_met : (header : Header) (reference : Option Reference) → IsMet service_row (body_object header (requests.Status reference))
    → AreMet (rows_of categories.TransactionStatus) (body_object header (requests.Status reference))
unfolding tree_at IsMet
status_met header None own = (own, (refl, (tt, tt)))
status_met header (Some reference) own = (own, (refl, (refl, tt)))

status_again : (body : Tree) (header : Header) (reference : Option Reference) → HasBody categories.TransactionStatus body → HeaderHolds body header
    → IsReferenceAt (codes "TransactionStatusRequest.MessageReference") body reference → Again header (requests.Status reference)
status_again body header None h t k =
    let P : Option Tree → Type 0 = λ o. All (AreMet status_reference_rows) (option_to_list o) in
    record {
      members = record {
        members = status_met header None (service_again body header (requests.Status None) h.members.0 t);
        parts = subst P (sym (status_absent header)) (All-nil (AreMet status_reference_rows));
      };
      asks = status_absent header;
    }
status_again body header (Some reference) h t k =
    let facts = reference_facts k.0 reference (status_part body k.0 h k.1) k.2 in
    let own = object (reference_members reference) in
    let met : AreMet status_reference_rows own = reference_met reference.service reference.sale reference.poi facts in
    let P : Option Tree → Type 0 = λ o. All (AreMet status_reference_rows) (option_to_list o) in
    record {
      members = record {
        members = status_met header (Some reference) (service_again body header (requests.Status (Some reference)) h.members.0 t);
        parts = subst P (sym (status_there header reference)) (All-cons (AreMet status_reference_rows) own [] met (All-nil (AreMet status_reference_rows)));
      };
      asks = (own, status_there header reference, reference_read reference.service reference.sale reference.poi);
    }

-- ---- the others without lists

plain_met : (header : Header) → IsMet service_row (body_object header requests.Login) → AreMet (rows_of categories.Login) (body_object header requests.Login)
unfolding tree_at IsMet
plain_met header own = (own, (refl, tt))

logout_met : (header : Header) → IsMet service_row (body_object header requests.Logout) → AreMet (rows_of categories.Logout) (body_object header requests.Logout)
unfolding tree_at IsMet
logout_met header own = (own, (refl, tt))

diagnosis_met : (header : Header) → IsMet service_row (body_object header requests.Diagnosis) → AreMet (rows_of categories.Diagnosis) (body_object header requests.Diagnosis)
unfolding tree_at IsMet
diagnosis_met header own = (own, (refl, tt))

reconciliation_met : (header : Header) (period : PeriodType) → IsMet service_row (body_object header (requests.Reconciliation period))
    → AreMet (rows_of categories.Reconciliation) (body_object header (requests.Reconciliation period))
unfolding tree_at IsMet
reconciliation_met header period own = (own, (refl, ((period, refl), tt)))

reconciliation_asks : (header : Header) (period : PeriodType)
    → text_at (codes "ReconciliationRequest.ReconciliationType") (body_object header (requests.Reconciliation period)) ≡ Some (period_name period)
unfolding tree_at
reconciliation_asks header period = refl

print_met : (header : Header) (qualifier : List ℕ) → IsIdent 40 qualifier
    → AreMet (rows_of categories.Print) (body_object header (requests.Print qualifier))
unfolding tree_at IsMet
print_met header qualifier q = (refl, (refl, (q, tt)))

print_asks : (header : Header) (qualifier : List ℕ)
    → text_at (codes "PrintRequest.PrintOutput.DocumentQualifier") (body_object header (requests.Print qualifier)) ≡ Some qualifier
unfolding tree_at
print_asks header qualifier = refl

-- ---- Display

element_has_text : (text : List ℕ) → text_at (codes "Text") (object (text_member (codes "Text") text no_members)) ≡ Some text
unfolding tree_at
element_has_text text = refl

texts_have : (texts : List (List ℕ)) → All HasTextMember (elements_list (text_elements texts))
texts_have [] = All-nil HasTextMember
texts_have (text ∷ texts) =
    All-cons HasTextMember (object (text_member (codes "Text") text no_members)) (elements_list (text_elements texts)) (ap is_some (element_has_text text)) (texts_have texts)

texts_are : (texts : List (List ℕ)) → texts_of (elements_list (text_elements texts)) ≡ texts
texts_are [] = refl
texts_are (text ∷ texts) = rw (element_has_text text) (ap (λ (l : List (List ℕ)). text ∷ l) (texts_are texts))

-- what the members of an output are
pub record OutputFacts (output : Output) : Type 0 where
  pub device : IsIdent 40 output.device
  pub qualify : IsIdent 40 output.qualify

output_facts : (part : Tree) (output : Output) → AreMet output_rows part → IsOutput part output → OutputFacts output
output_facts part output m k = record {
  device = ident_fact (codes "Device") _ Required 40 part output.device m.0 k.device;
  qualify = ident_fact (codes "InfoQualify") _ Required 40 part output.qualify m.1.0 k.qualify;
}

abbrev showing : List ℕ → List ℕ → Bool → Option (List (List ℕ)) → Output
showing device qualify required texts = record { device = device; qualify = qualify; required = required; texts = texts }

output_met : (device qualify : List ℕ) (required : Bool) (texts : Option (List (List ℕ))) → OutputFacts (showing device qualify required texts)
    → AreMet output_rows (display_output_tree (showing device qualify required texts))
unfolding display_output_tree tree_at IsMet
output_met device qualify required None f = (f.device, (f.qualify, (refl, (refl, (tt, (tt, tt))))))
output_met device qualify required (Some texts) f = (f.device, (f.qualify, (refl, (refl, (tt, (texts_have texts, tt))))))

output_read : (device qualify : List ℕ) (required : Bool) (texts : Option (List (List ℕ)))
    → IsOutput (display_output_tree (showing device qualify required texts)) (showing device qualify required texts)
unfolding display_output_tree tree_at
output_read device qualify required None = record { device = refl; qualify = refl; required = refl; texts = refl }
output_read device qualify required (Some texts) =
    record { device = refl; qualify = refl; required = refl; texts = ap (λ (l : List (List ℕ)). Some l) (texts_are texts) }

outputs_met_again : (parts : List Tree) (outputs : List Output) → All (AreMet output_rows) parts → AllZip IsOutput parts outputs
    → All (AreMet output_rows) (elements_list (output_elements outputs))
outputs_met_again [] [] m z = All-nil (AreMet output_rows)
outputs_met_again [] (o ∷ os) m z = elim z [ ]
outputs_met_again (p ∷ ps) [] m z = elim z [ ]
outputs_met_again (p ∷ ps) (o ∷ os) m z =
    let facts = output_facts p o (All-head (AreMet output_rows) p ps m) z.0 in
    All-cons (AreMet output_rows) (display_output_tree o) (elements_list (output_elements os)) (output_met o.device o.qualify o.required o.texts facts)
    (outputs_met_again ps os (All-tail (AreMet output_rows) p ps m) z.1)

outputs_read : (outputs : List Output) → AllZip IsOutput (elements_list (output_elements outputs)) outputs
outputs_read [] = tt
outputs_read (o ∷ os) = (output_read o.device o.qualify o.required o.texts, outputs_read os)

outputs_objects : (outputs : List Output) → All IsJsonObject (elements_list (output_elements outputs))
unfolding display_output_tree
outputs_objects [] = All-nil IsJsonObject
outputs_objects (o ∷ os) = All-cons IsJsonObject (display_output_tree o) (elements_list (output_elements os)) refl (outputs_objects os)

outputs_count : (parts : List Tree) (outputs : List Output) → AllZip IsOutput parts outputs → length (elements_list (output_elements outputs)) ≡ length parts
outputs_count [] [] z = refl
outputs_count [] (o ∷ os) z = elim z [ ]
outputs_count (p ∷ ps) [] z = elim z [ ]
outputs_count (p ∷ ps) (o ∷ os) z = omega (arith, outputs_count ps os z.1)

-- how many outputs a body has
pub record Counted (count : ℕ) : Type 0 where
  pub low : 1 ≤ count
  pub high : count ≤ 16

listed_count : (tree : Tree) → IsOutputList tree → Counted (length (listed tree))
listed_count tree h = by (array_of tree) h
  where
    by : (o : Option (List Tree)) → MatchOption o (IsJsonObject tree) (λ elements. (1 ≤ length elements) × (length elements ≤ 16) × All IsJsonObject elements)
        → Counted (length (unwrap_or o (tree ∷ [])))
    by None k = record { low = omega arith; high = omega arith }
    by (Some elements) k = record { low = k.0; high = k.1 }

parts_count : (found : Option Tree) → MatchOption found ⊥ IsOutputList → Counted (length (outputs_in found))
parts_count None h = absurd h
parts_count (Some tree) h = listed_count tree h

display_count : (body : Tree) → AreMet (rows_of categories.Display) body → Counted (length (parts_of categories.Display body))
unfolding IsMet
display_count body m = parts_count (tree_at (codes "DisplayRequest.DisplayOutput") body) m.1.0

display_there : (header : Header) (outputs : List Output)
    → tree_at (codes "DisplayRequest.DisplayOutput") (body_object header (requests.Display outputs)) ≡ Some (array (output_elements outputs))
unfolding tree_at
display_there header outputs = refl

display_parts : (header : Header) (outputs : List Output)
    → parts_of categories.Display (body_object header (requests.Display outputs)) ≡ elements_list (output_elements outputs)
display_parts header outputs = ap outputs_in (display_there header outputs)

display_met : (header : Header) (outputs : List Output) → IsOutputList (array (output_elements outputs))
    → AreMet (rows_of categories.Display) (body_object header (requests.Display outputs))
unfolding tree_at IsMet
display_met header outputs h = (refl, (h, tt))

display_again : (body : Tree) (header : Header) (outputs : List Output) → HasBody categories.Display body
    → AllZip IsOutput (parts_of categories.Display body) outputs → Again header (requests.Display outputs)
display_again body header outputs h z =
    let parts = parts_of categories.Display body in
    let count = display_count body h.members in
    let same = outputs_count parts outputs z in
    let low : 1 ≤ length (elements_list (output_elements outputs)) = omega (arith, same, count.low) in
    let high : length (elements_list (output_elements outputs)) ≤ 16 = omega (arith, same, count.high) in
    let P : List Tree → Type 0 = λ l. All (AreMet output_rows) l in
    let Q : List Tree → Type 0 = λ l. AllZip IsOutput l outputs in
    record {
      members = record {
        members = display_met header outputs (low, high, outputs_objects outputs);
        parts = subst P (sym (display_parts header outputs)) (outputs_met_again parts outputs h.parts z);
      };
      asks = subst Q (sym (display_parts header outputs)) (outputs_read outputs);
    }

-- ---- every request

pub body_again : (body : Tree) (header : Header) (request : SaleRequest) → HasBody (category_of request) body → HeaderHolds body header
    → Asks body request → Again header request
body_again body header requests.Login h t k = record {
  members = record { members = plain_met header (service_again body header requests.Login h.members.0 t); parts = All-nil (AreMet []) };
  asks = tt;
}
body_again body header requests.Logout h t k = record {
  members = record { members = logout_met header (service_again body header requests.Logout h.members.0 t); parts = All-nil (AreMet []) };
  asks = tt;
}
body_again body header (requests.Payment ask) h t k = payment_again body header ask h t k
body_again body header (requests.Reversal ask) h t k = reversal_again body header ask h t k
body_again body header (requests.Abort reference) h t k = abort_again body header reference h t k
body_again body header (requests.Status reference) h t k = status_again body header reference h t k
body_again body header (requests.Reconciliation period) h t k = record {
  members = record {
    members = reconciliation_met header period (service_again body header (requests.Reconciliation period) h.members.0 t);
    parts = All-nil (AreMet []);
  };
  asks = reconciliation_asks header period;
}
body_again body header (requests.Display outputs) h t k = display_again body header outputs h k
body_again body header (requests.Print qualifier) h t k = record {
  members = record {
    members = print_met header qualifier (ident_fact (codes "PrintRequest.PrintOutput.DocumentQualifier") _ Required 40 body qualifier h.members.1.1.0 k);
    parts = All-nil (AreMet []);
  };
  asks = print_asks header qualifier;
}
body_again body header requests.Diagnosis h t k = record {
  members = record { members = diagnosis_met header (service_again body header requests.Diagnosis h.members.0 t); parts = All-nil (AreMet []) };
  asks = tt;
}

-- what is written of a request that some tree is, is this request again
pub request_again : (tree : Tree) (header : Header) (request : SaleRequest) → IsTillMessage tree (incoming.Request header request)
    → IsTillMessage (request_tree header request) (incoming.Request header request)
request_again tree header request p =
    let r = p.1 in
    let again = body_again p.0 header request r.members r.request_of.header_is.values r.asks in (
      body_object header request,
      record {
        request_of = record {
          under = refl;
          header_is = header_again header request (header_facts p.0 header r.request_of.header_is);
          message_type = r.request_of.message_type;
        };
        category = r.category;
        members = again.members;
        asks = again.asks;
      },
    )
