-- The parts of a written request, put together.
use Rattle.std.proofs.Common.{◌≡◌, ◌<◌, ℕ, zero, suc, ◌+◌, List, [], ◌∷◌, ◌++◌, Option, Some, None, Bool, true, false, cond, refl, sym, ap, ◌∙◌, append_assoc, add-one, nat_eq, length, drop, drop-cons, get_or, Result, Ok, Err, OnOk, codes}
use Rattle.std.specs.Result.{is_ok}
use Rattle.std.proofs.Math.Dec.{eqb-suc-zero}
use Rattle.json_text.specs.Canonical.{canonical, canonical_elements, canonical_first, canonical_more, canonical_more_members, canonical_string}
use Rattle.json_text.specs.Tree.{Tree, boolean, string, object, Elements, no_elements, element, Members, no_members, member}
use Rattle.sale_msg.specs.inner.OptionalParts.{comma_before, texts_part}
use Rattle.sale_values.specs.MemberShapes.{number_member, object_member, only, optional_member, text_member}
use Rattle.sale_values.specs.PartBytes.{optional_text}
use Rattle.sale_values.specs.declared.request.Output.{Output}
use Rattle.sale_msg.specs.Canonical.{display_output_tree, output_elements, text_elements, texts_members}

-- an append that wasn't refused
pub appended : {T E : Type 0} (r : Result T E) (new old part : List ℕ) → new ≡ cond (is_ok r) (old ++ part) old → OnOk r (new ≡ old ++ part)
appended (Ok x) new old part e = e
appended (Err x) new old part e = tt

-- two parts, each of them appended
pub joined : (new mid old a b : List ℕ) → mid ≡ old ++ a → new ≡ mid ++ b → new ≡ old ++ (a ++ b)
joined new mid old a b e f = f ∙ ap (λ l. l ++ b) e ∙ append_assoc old a b

-- two parts, the second of which may have been refused
pub two : {T E : Type 0} (r : Result T E) (new mid old a b total : List ℕ) → mid ≡ old ++ a → OnOk r (new ≡ mid ++ b)
    → a ++ b ≡ total → OnOk r (new ≡ old ++ total)
two (Ok x) new mid old a b total e f g = joined new mid old a b e f ∙ ap (λ l. old ++ l) g
two (Err x) new mid old a b total e f g = tt

-- three parts, the third of which may have been refused
pub three : {T E : Type 0} (r : Result T E) (new later mid old a b c total : List ℕ) → mid ≡ old ++ a → later ≡ mid ++ b
    → OnOk r (new ≡ later ++ c) → a ++ (b ++ c) ≡ total → OnOk r (new ≡ old ++ total)
three r new later mid old a b c total d e f g =
    two r new later old (a ++ b) c total (joined later mid old a b d e) f (append_assoc a b c ∙ g)

-- a message, from its header and its body
pub message_spelled : (header : Members) (name : List ℕ) (body : Members)
    → (codes "{\"SaleToPOIRequest\":{\"MessageHeader\":" ++ canonical (object header)) ++ (canonical_more_members (object_member name body no_members) ++ codes "}")
    ≡ canonical (object (member (codes "SaleToPOIRequest") (object (object_member (codes "MessageHeader") header (object_member name body no_members))) no_members))
message_spelled header name body =
    ap (λ l. codes "{\"SaleToPOIRequest\":{\"MessageHeader\":" ++ l)
    (sym (append_assoc (canonical (object header)) (canonical_more_members (object_member name body no_members)) (codes "}")))

-- a body after its name
pub body_spelled : (name : List ℕ) (body : Members) → (44 ∷ (canonical_string name ++ 58 ∷ [])) ++ (canonical (object body) ++ codes "}}")
    ≡ canonical_more_members (object_member name body no_members) ++ codes "}"
body_spelled name body = simp append_assoc

pub referring_spelled : (service : List ℕ) (sale poi : Option (List ℕ))
    → codes "{\"MessageReference\":{\"ServiceID\":" ++ (canonical_string service
    ++ (optional_text (codes ",\"SaleID\":") sale ++ (optional_text (codes ",\"POIID\":") poi ++ codes "}}")))
    ≡ canonical (object (object_member (codes "MessageReference")
    (text_member (codes "ServiceID") service (optional_member (codes "SaleID") sale (optional_member (codes "POIID") poi no_members))) no_members))
referring_spelled service None None = simp append_assoc
referring_spelled service None (Some p) = simp append_assoc
referring_spelled service (Some s) None = simp append_assoc
referring_spelled service (Some s) (Some p) = simp append_assoc

pub reversal_spelled : (transaction : List ℕ) (amount : Members)
    → (codes "{\"OriginalPOITransaction\":{\"POITransactionID\":{\"TransactionID\":" ++ (canonical_string transaction
    ++ codes "}},\"ReversalReason\":\"MerchantCancel\"")) ++ canonical_more_members amount
    ≡ canonical (object (object_member (codes "OriginalPOITransaction")
    (object_member (codes "POITransactionID") (text_member (codes "TransactionID") transaction no_members) no_members)
    (text_member (codes "ReversalReason") (codes "MerchantCancel") amount)))
reversal_spelled transaction amount = simp append_assoc

pub payment_spelled : (transaction stamp currency amount : List ℕ) (others : Members)
    → (codes "{\"SaleData\":{\"SaleTransactionID\":{\"TransactionID\":" ++ (canonical_string transaction
    ++ (codes ",\"TimeStamp\":" ++ (canonical_string stamp
    ++ (codes "}},\"PaymentTransaction\":{\"AmountsReq\":{\"Currency\":" ++ (canonical_string currency
    ++ (codes ",\"RequestedAmount\":" ++ (amount ++ codes "}}")))))))) ++ canonical_more_members others
    ≡ canonical (object
    (object_member (codes "SaleData")
    (object_member (codes "SaleTransactionID")
    (text_member (codes "TransactionID") transaction (text_member (codes "TimeStamp") stamp no_members))
    no_members)
    (object_member (codes "PaymentTransaction")
    (object_member (codes "AmountsReq")
    (text_member (codes "Currency") currency (number_member (codes "RequestedAmount") amount no_members))
    no_members)
    others)))
payment_spelled transaction stamp currency amount others = simp append_assoc

pub output_spelled : (device qualify : List ℕ) (required : Bool) (texts : Option (List (List ℕ)))
    → (codes "{\"Device\":" ++ (canonical_string device ++ (codes ",\"InfoQualify\":" ++ (canonical_string qualify
    ++ (codes ",\"ResponseRequiredFlag\":" ++ (canonical (boolean required) ++ codes ",\"OutputContent\":{\"OutputFormat\":\"Text\""))))))
    ++ (texts_part (codes ",\"OutputText\":") texts ++ codes "}}")
    ≡ canonical (object (text_member (codes "Device") device (text_member (codes "InfoQualify") qualify
    (member (codes "ResponseRequiredFlag") (boolean required)
    (object_member (codes "OutputContent") (text_member (codes "OutputFormat") (codes "Text") (texts_members texts)) no_members)))))
output_spelled device qualify true None = simp append_assoc
output_spelled device qualify true (Some texts) = simp append_assoc
output_spelled device qualify false None = simp append_assoc
output_spelled device qualify false (Some texts) = simp append_assoc

texts_spelled : (old : List ℕ) (texts : List (List ℕ)) → (old ++ codes ",\"OutputText\":[") ++ canonical_first (text_elements texts)
    ≡ old ++ texts_part (codes ",\"OutputText\":") (Some texts)
texts_spelled old texts = append_assoc old (codes ",\"OutputText\":[") (canonical_first (text_elements texts))

-- texts after the bytes that come before them
pub texts_appended : {T E : Type 0} (r : Result T E) (new between old : List ℕ) (texts : List (List ℕ)) (optional : Option (List (List ℕ)))
    → optional ≡ Some texts → between ≡ old ++ codes ",\"OutputText\":[" → OnOk r (new ≡ between ++ canonical_first (text_elements texts))
    → OnOk r (new ≡ old ++ texts_part (codes ",\"OutputText\":") optional)
texts_appended (Ok x) new between old texts optional is opened e =
    e ∙ ap (λ l. l ++ canonical_first (text_elements texts)) opened ∙ texts_spelled old texts
    ∙ ap (λ (o : Option (List (List ℕ))). old ++ texts_part (codes ",\"OutputText\":") o) (sym is)
texts_appended (Err x) new between old texts optional is opened e = tt

more_after : (i : ℕ) (rest : Elements) → canonical_elements (nat_eq (i + 1) 0) rest ≡ canonical_more rest
more_after i rest = rw (add-one, eqb-suc-zero i) refl

separated : (i : ℕ) (x : Tree) (rest : Elements) → comma_before i ++ (canonical x ++ canonical_more rest) ≡ canonical_elements (nat_eq i 0) (element x rest)
separated zero x rest = refl
separated (suc i) x rest = rw (eqb-suc-zero i) refl

-- one more element is written, after its comma
pub element_next : (i : ℕ) (x : Tree) (here rest : Elements) (new old all : List ℕ) → here ≡ element x rest → new ≡ old ++ (comma_before i ++ canonical x)
    → old ++ canonical_elements (nat_eq i 0) here ≡ all → new ++ canonical_elements (nat_eq (i + 1) 0) rest ≡ all
element_next i x here rest new old all is e f =
    ap (λ l. l ++ canonical_elements (nat_eq (i + 1) 0) rest) e
    ∙ ap (λ l. (old ++ (comma_before i ++ canonical x)) ++ l) (more_after i rest)
    ∙ append_assoc old (comma_before i ++ canonical x) (canonical_more rest)
    ∙ ap (λ l. old ++ l)
    (append_assoc (comma_before i) (canonical x) (canonical_more rest) ∙ separated i x rest ∙ ap (canonical_elements (nat_eq i 0)) (sym is))
    ∙ f

closed : (first : Bool) → codes "]" ≡ canonical_elements first no_elements
closed true = refl
closed false = refl

-- all elements are written, and the closing bracket
pub elements_end : {T E : Type 0} (r : Result T E) (i : ℕ) (here : Elements) (new out all : List ℕ) → here ≡ no_elements
    → new ≡ cond (is_ok r) (out ++ codes "]") out → out ++ canonical_elements (nat_eq i 0) here ≡ all → OnOk r (new ≡ all)
elements_end (Ok x) i here new out all is e f =
    e ∙ ap (λ l. out ++ l) (closed (nat_eq i 0) ∙ ap (canonical_elements (nat_eq i 0)) (sym is)) ∙ f
elements_end (Err x) i here new out all is e f = tt

-- the texts from an index on
pub texts_from : (texts : List (List ℕ)) (i : ℕ) (text : List ℕ) → i < length texts → text ≡ get_or texts i text
    → text_elements (drop i texts) ≡ element (only (codes "Text") (string text)) (text_elements (drop (i + 1) texts))
texts_from texts i text inside is =
    rw add-one (ap text_elements (drop-cons texts i text inside)
    ∙ ap (λ (t : List ℕ). element (only (codes "Text") (string t)) (text_elements (drop (suc i) texts))) (sym is))

-- the outputs from an index on
pub outputs_from : (outputs : List Output) (i : ℕ) (output : Output) → i < length outputs → output ≡ get_or outputs i output
    → output_elements (drop i outputs) ≡ element (display_output_tree output) (output_elements (drop (i + 1) outputs))
outputs_from outputs i output inside is =
    rw add-one (ap output_elements (drop-cons outputs i output inside)
    ∙ ap (λ (o : Output). element (display_output_tree o) (output_elements (drop (suc i) outputs))) (sym is))
