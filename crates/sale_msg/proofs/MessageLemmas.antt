-- Messages and faults, put together from the parts of a tree.
use Rattle.std.proofs.Common.{◌≡◌, ◌≢◌, ℕ, ◌+◌, ◌<◌, List, [], ◌∷◌, ◌++◌, Option, Some, None, refl, sym, ap, subst, ◌∙◌, get_or, take, length, map, All, MatchOption, codes, inl, inr, ◌⊎◌, Result, Ok, Err, MatchResult, IfOk, IfErr}
use Rattle.std.specs.List.{AllZip}
use Rattle.std.specs.Option.{option_and_then}
use Rattle.std.proofs.lemmas.List.{map-append, take_more}
use Rattle.json_text.specs.Tree.{Tree, string_of}
use Rattle.sale_values.specs.Names.{kind_name}
use Rattle.sale_values.specs.declared.header.Header.{Header}
use Rattle.sale_values.specs.declared.names.Kind.{Kind as KindType}
use Rattle.sale_values.specs.declared.names.Kind.TheVariants as kinds
use Rattle.sale_values.specs.declared.request.SaleRequest.{SaleRequest}
use Rattle.sale_msg.specs.Category.{category_name, category_of}
use Rattle.sale_msg.specs.Form.{HasForm, TextHasForm}
use Rattle.sale_msg.specs.Flaw.{AreMet, IsMet}
use Rattle.sale_msg.specs.Path.{tree_at}
use Rattle.sale_msg.specs.Table.{header_rows, output_rows, part_rows, member_row}
use Rattle.sale_msg.specs.Grammar.{Asks, HasBody, IsBodyFlaw, IsSaleFault, HasHeader, IsRequest, IsRequestOf, fault_of, parts_of}
use Rattle.sale_msg.specs.inner.RowValue.{AreFound, IsBodyFound}
use Rattle.sale_msg.specs.declared.category.Category.{Category}
use Rattle.sale_msg.specs.declared.category.Category.TheVariants as categories
use Rattle.sale_msg.specs.declared.flaw.Flaw.{Flaw}
use Rattle.sale_msg.specs.declared.flaw.Flaw.TheVariants as flaws
use Rattle.sale_msg.specs.declared.table.Envelope.{Envelope}
use Rattle.sale_msg.specs.declared.table.Envelope.TheVariants as envelopes
use Rattle.sale_msg.specs.declared.table.Form.TheVariants as forms
use Rattle.sale_msg.specs.declared.table.Presence.TheVariants.{Required}

-- ---- results

pub ok_part : {T E : Type 0} (r : Result T E) (P : T → Type 0) (Q : E → Type 0) → MatchResult r P Q → IfOk r P
ok_part (Ok x) P Q h = h
ok_part (Err e) P Q h = tt

pub err_part : {T E : Type 0} (r : Result T E) (P : T → Type 0) (Q : E → Type 0) → MatchResult r P Q → IfErr r Q
err_part (Ok x) P Q h = tt
err_part (Err e) P Q h = h

-- ---- the type of a message

text_kind : (text : Option (List ℕ)) → MatchOption text ⊥ (TextHasForm forms.RequestKind) → MatchOption text ⊥ (TextHasForm forms.Kind)
text_kind None h = elim h [ ]
text_kind (Some text) (inl e) = (kinds.Request, e)
text_kind (Some text) (inr e) = (kinds.Notification, e)

-- the type of a request's message is one of a response's message
kind_row : (tree : Tree) → IsMet (member_row "MessageHeader.MessageType" Required forms.RequestKind) tree
    → IsMet (member_row "MessageHeader.MessageType" Required forms.Kind) tree
unfolding IsMet
kind_row tree h = by (tree_at (codes "MessageHeader.MessageType") tree) h
  where
    by : (found : Option Tree) → MatchOption found ⊥ (HasForm forms.RequestKind) → MatchOption found ⊥ (HasForm forms.Kind)
    by None m = m
    by (Some value) m = text_kind (string_of value) m

-- a header of either envelope meets the table of a response's header
header_laxer : (envelope : Envelope) (tree : Tree) → AreMet (header_rows envelope) tree → AreMet (header_rows envelopes.Response) tree
header_laxer envelopes.Request tree h = (h.0, (h.1.0, (h.1.1.0, (h.1.1.1.0, (kind_row tree h.1.1.1.1.0, h.1.1.1.1.1)))))
header_laxer envelopes.Response tree h = h

-- what was found by either header's table was found by that of a response's header
pub header_found : (envelope : Envelope) (tree : Tree) (values : List (Option Tree)) → AreFound (header_rows envelope) tree values
    → AreFound (header_rows envelopes.Response) tree values
header_found envelope tree values h = record { met = header_laxer envelope tree h.met; are = h.are }

kind_of_name : (message_type : KindType) → (kind_name kinds.Request ≡ kind_name message_type) ⊎ (kind_name kinds.Notification ≡ kind_name message_type)
    → message_type ≢ kinds.Request → message_type ≡ kinds.Notification
kind_of_name kinds.Request e other = absurd (other refl)
kind_of_name kinds.Response (inl e) other = absurd cc
kind_of_name kinds.Response (inr e) other = absurd cc
kind_of_name kinds.Notification e other = refl

kind_text : (found : Option Tree) (message_type : KindType) → MatchOption found ⊥ (HasForm forms.RequestKind)
    → option_and_then string_of found ≡ Some (kind_name message_type)
    → (kind_name kinds.Request ≡ kind_name message_type) ⊎ (kind_name kinds.Notification ≡ kind_name message_type)
kind_text None message_type h e = elim h [ ]
kind_text (Some value) message_type h e =
    let P : Option (List ℕ) → Type 0 = λ text. MatchOption text ⊥ (TextHasForm forms.RequestKind) in subst P e h

-- a message under `SaleToPOIRequest` that is no request is a notification
pub kind_is_notification : (body : Tree) (header : Header) → HasHeader envelopes.Request body header → header.kind ≢ kinds.Request
    → header.kind ≡ kinds.Notification
unfolding IsMet
kind_is_notification body header h other =
    kind_of_name header.kind
    (kind_text (tree_at (codes "MessageHeader.MessageType") body) header.kind h.members.1.1.1.1.0 h.values.message_type) other

-- ---- bodies

pub outputs_met : (category : Category) (body : Tree) (trees : List Tree) → category ≡ categories.Display → All (AreMet (part_rows category)) (parts_of category body)
    → trees ≡ parts_of category body → All (AreMet output_rows) trees
outputs_met category body trees e h f =
    let P : Category → Type 0 = λ k. All (AreMet (part_rows k)) trees in
    let Q : List Tree → Type 0 = λ l. All (AreMet (part_rows category)) l in
    subst P e (subst Q (sym f) h)

pub flawed : (message body : Tree) (header : Header) (category : Category) (flaw : Flaw) → IsRequestOf message body header
    → category_name category ≡ header.category → IsBodyFlaw category body flaw → IsSaleFault message (fault_of header flaw)
flawed message body header category (flaws.Missing path) r e h =
    (body, category, record { request_of = r; category_is = e; first = h })
flawed message body header category (flaws.Wrong path) r e h =
    (body, category, record { request_of = r; category_is = e; first = h })

-- the message is the request that its body asks
pub request_is : (message body : Tree) (header : Header) (category : Category) (values : List (Option Tree)) (request : SaleRequest)
    → IsRequestOf message body header → category_name category ≡ header.category → IsBodyFound category body values
    → category_of request ≡ category → Asks body request → IsRequest message body header request
request_is message body header category values request r n h e asks =
    let P : Category → Type 0 = λ k. category_name k ≡ header.category in
    let Q : Category → Type 0 = λ k. HasBody k body in
    record {
      request_of = r;
      category = subst P (sym e) n;
      members = subst Q (sym e) (record { members = h.found.met; parts = h.parts });
      asks = asks;
    }

-- ---- lists in step

zipped_push : {X B : Type 0} (R : X → B → Type 0) (xs : List X) (ys : List B) (x : X) (y : B) → AllZip R xs ys → R x y
    → AllZip R (xs ++ x ∷ []) (ys ++ y ∷ [])
zipped_push R [] [] x y h r = (r, tt)
zipped_push R [] (z ∷ ys) x y h r = elim h [ ]
zipped_push R (w ∷ xs) [] x y h r = elim h [ ]
zipped_push R (w ∷ xs) (z ∷ ys) x y h r = (h.0, zipped_push R xs ys x y h.1 r)

-- one more element at each end
pub zipped_more : {A X B : Type 0} (R : X → B → Type 0) (f : A → X) (xs : List A) (ys : List B) (i : ℕ) (x : A) (y : B) → i < length xs
    → x ≡ get_or xs i x → AllZip R (map f (take i xs)) ys → R (f x) y → AllZip R (map f (take (i + 1) xs)) (ys ++ y ∷ [])
zipped_more {A} {X} {B} R f xs ys i x y inside e h r =
    let element : get_or xs i x ≡ x = sym e in
    let taken : map f (take (i + 1) xs) ≡ map f (take i xs) ++ f x ∷ [] =
    ap (map f) (take_more xs i x inside) ∙ map-append f (take i xs) (get_or xs i x ∷ []) ∙ ap (λ z. map f (take i xs) ++ f z ∷ []) element in
    let P : List X → Type 0 = λ l. AllZip R l (ys ++ y ∷ []) in
    subst P (sym taken) (zipped_push R (map f (take i xs)) ys (f x) y h r)
