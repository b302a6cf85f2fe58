-- A tree is one message at most, or has one fault.
use Rattle.std.proofs.Common.{◌≡◌, ℕ, List, [], ◌∷◌, Option, Some, None, refl, sym, ap, subst, ◌∙◌, All, MatchOption, Result, Ok, Err, MatchResult, inl, inr, ◌⊎◌, bytes_eq, false, true≢false}
use Rattle.std.proofs.lemmas.Slice.Eq.{bytes_eq-Decides}
use Rattle.std.specs.List.{AllZip}
use Rattle.std.proofs.lemmas.List.Elements.{All-head, All-tail}
use Rattle.json_text.specs.Tree.{Tree}
use Rattle.sale_values.specs.Names.{class_name, kind_name, period_name}
use Rattle.sale_values.specs.declared.header.Header.{Header}
use Rattle.sale_values.specs.declared.names.Class.{Class as ClassType}
use Rattle.sale_values.specs.declared.names.Class.TheVariants as classes
use Rattle.sale_values.specs.declared.names.Kind.{Kind as KindType}
use Rattle.sale_values.specs.declared.names.Kind.TheVariants as kinds
use Rattle.sale_values.specs.declared.names.Period.{Period as PeriodType}
use Rattle.sale_values.specs.declared.names.Period.TheVariants as periods
use Rattle.sale_values.specs.declared.fault.SaleFault.{SaleFault}
use Rattle.sale_values.specs.declared.fault.SaleFault.TheVariants as faults
use Rattle.sale_values.specs.declared.request.Incoming.{Incoming}
use Rattle.sale_values.specs.declared.request.Incoming.TheVariants as incoming
use Rattle.sale_values.specs.declared.request.Output.{Output}
use Rattle.sale_values.specs.declared.request.PaymentAsk.{PaymentAsk}
use Rattle.sale_values.specs.declared.request.Reference.{Reference}
use Rattle.sale_values.specs.declared.request.ReversalAsk.{ReversalAsk}
use Rattle.sale_values.specs.declared.request.SaleRequest.{SaleRequest}
use Rattle.sale_values.specs.declared.request.SaleRequest.TheVariants as requests
use Rattle.sale_msg.specs.Category.{category_name, category_of}
use Rattle.sale_msg.specs.Form.{HasForm}
use Rattle.sale_msg.specs.Flaw.{AreMet, IsFirstAmong, IsFirstFlaw, IsFlaw, IsMet, MayBeAbsent}
use Rattle.sale_msg.specs.Path.{tree_at}
use Rattle.sale_msg.specs.Table.{MemberRow, header_rows, part_rows, rows_of}
use Rattle.sale_msg.specs.Grammar.{Asks, RefusesTree, HasBody, HasNoHeader, IsBodyFlaw, IsSaleFault, IsFlawed, IsHeaded, HasHeader, IsTillMessage, IsOutput, IsPayment, IsReference, IsReferenceAt, IsRequest, IsRequestOf, IsReversal, IsSilent, LacksEnvelope, LacksHeader, IsUnderEnvelope, HeaderHolds, parts_of, path_of}
use Rattle.sale_msg.specs.declared.error.MessageError.{MessageError}
use Rattle.sale_msg.specs.declared.error.MessageError.TheVariants as errors
use Rattle.sale_msg.specs.declared.category.Category.{Category}
use Rattle.sale_msg.specs.declared.category.Category.TheVariants as categories
use Rattle.sale_msg.specs.declared.flaw.Flaw.{Flaw}
use Rattle.sale_msg.specs.declared.flaw.Flaw.TheVariants as flaws
use Rattle.sale_msg.specs.declared.table.Envelope.{Envelope}
use Rattle.sale_msg.specs.declared.table.Envelope.TheVariants as envelopes

-- two facts on what one option is
some_one : {A : Type 0} (o : Option A) (x y : A) → o ≡ Some x → o ≡ Some y → x ≡ y
some_one o x y e f = let g : Some x ≡ Some y = sym e ∙ f in cc

same : {A : Type 0} (o x y : A) → o ≡ x → o ≡ y → x ≡ y
same o x y e f = sym e ∙ f

none_some : {A : Type 0} (o : Option A) (x : A) → o ≡ None → o ≡ Some x → ⊥
none_some {A} o x e f = let nothing : Option A = None in let g : nothing ≡ Some x = sym e ∙ f in absurd cc

-- ---- flaws

row_one : (row : MemberRow) (tree : Tree) (f g : Flaw) → IsFlaw row tree f → IsFlaw row tree g → f ≡ g
unfolding IsFlaw
row_one row tree f g h k = by (tree_at row.within tree) h k
  where
    by : (found : Option Tree)
        → MatchOption found ((¬ MayBeAbsent row.presence tree) × (f ≡ flaws.Missing row.path)) (λ value. (¬ HasForm row.form value) × (f ≡ flaws.Wrong row.path))
        → MatchOption found ((¬ MayBeAbsent row.presence tree) × (g ≡ flaws.Missing row.path)) (λ value. (¬ HasForm row.form value) × (g ≡ flaws.Wrong row.path))
        → f ≡ g
    by None p q = p.1 ∙ sym q.1
    by (Some value) p q = p.1 ∙ sym q.1

row_no_both : (row : MemberRow) (tree : Tree) (f : Flaw) → IsMet row tree → IsFlaw row tree f → ⊥
unfolding IsMet IsFlaw
row_no_both row tree f h k = by (tree_at row.within tree) h k
  where
    by : (found : Option Tree) → MatchOption found (MayBeAbsent row.presence tree) (HasForm row.form)
        → MatchOption found ((¬ MayBeAbsent row.presence tree) × (f ≡ flaws.Missing row.path)) (λ value. (¬ HasForm row.form value) × (f ≡ flaws.Wrong row.path))
        → ⊥
    by None m n = n.0 m
    by (Some value) m n = n.0 m

pub rows_no_both : (rows : List MemberRow) (tree : Tree) (f : Flaw) → AreMet rows tree → IsFirstFlaw rows tree f → ⊥
rows_no_both [] tree f m h = h
rows_no_both (row ∷ rows) tree f m (inl h) = row_no_both row tree f m.0 h
rows_no_both (row ∷ rows) tree f m (inr h) = rows_no_both rows tree f m.1 h.1

pub rows_one : (rows : List MemberRow) (tree : Tree) (f g : Flaw) → IsFirstFlaw rows tree f → IsFirstFlaw rows tree g → f ≡ g
rows_one [] tree f g h k = absurd h
rows_one (row ∷ rows) tree f g (inl h) (inl k) = row_one row tree f g h k
rows_one (row ∷ rows) tree f g (inl h) (inr k) = absurd (row_no_both row tree f k.0 h)
rows_one (row ∷ rows) tree f g (inr h) (inl k) = absurd (row_no_both row tree g h.0 k)
rows_one (row ∷ rows) tree f g (inr h) (inr k) = rows_one rows tree f g h.1 k.1

among_no_both : (rows : List MemberRow) (trees : List Tree) (f : Flaw) → All (AreMet rows) trees → IsFirstAmong rows trees f → ⊥
among_no_both rows [] f m h = h
among_no_both rows (tree ∷ trees) f m (inl h) = rows_no_both rows tree f (All-head (AreMet rows) tree trees m) h
among_no_both rows (tree ∷ trees) f m (inr h) = among_no_both rows trees f (All-tail (AreMet rows) tree trees m) h.1

among_one : (rows : List MemberRow) (trees : List Tree) (f g : Flaw) → IsFirstAmong rows trees f → IsFirstAmong rows trees g → f ≡ g
among_one rows [] f g h k = absurd h
among_one rows (tree ∷ trees) f g (inl h) (inl k) = rows_one rows tree f g h k
among_one rows (tree ∷ trees) f g (inl h) (inr k) = absurd (rows_no_both rows tree f k.0 h)
among_one rows (tree ∷ trees) f g (inr h) (inl k) = absurd (rows_no_both rows tree g h.0 k)
among_one rows (tree ∷ trees) f g (inr h) (inr k) = among_one rows trees f g h.1 k.1

body_no_both : (category : Category) (body : Tree) (f : Flaw) → HasBody category body → IsBodyFlaw category body f → ⊥
body_no_both category body f h (inl k) = rows_no_both (rows_of category) body f h.members k
body_no_both category body f h (inr k) = among_no_both (part_rows category) (parts_of category body) f h.parts k.1

body_one : (category : Category) (body : Tree) (f g : Flaw) → IsBodyFlaw category body f → IsBodyFlaw category body g → f ≡ g
body_one category body f g (inl h) (inl k) = rows_one (rows_of category) body f g h k
body_one category body f g (inl h) (inr k) = absurd (rows_no_both (rows_of category) body f k.0 h)
body_one category body f g (inr h) (inl k) = absurd (rows_no_both (rows_of category) body g h.0 k)
body_one category body f g (inr h) (inr k) = among_one (part_rows category) (parts_of category body) f g h.1 k.1

-- ---- names

differ : (x y : List ℕ) → bytes_eq x y ≡ false → x ≡ y → ⊥
differ x y f e = true≢false (sym ((bytes_eq-Decides x y).1 e) ∙ f)

class_one : (a b : ClassType) → class_name a ≡ class_name b → a ≡ b
class_one classes.Service classes.Service e = refl
class_one classes.Device classes.Device e = refl
class_one classes.Event classes.Event e = refl
class_one _ _ e = absurd cc

kind_one : (a b : KindType) → kind_name a ≡ kind_name b → a ≡ b
kind_one kinds.Request kinds.Request e = refl
kind_one kinds.Response kinds.Response e = refl
kind_one kinds.Notification kinds.Notification e = refl
kind_one _ _ e = absurd cc

period_one : (a b : PeriodType) → period_name a ≡ period_name b → a ≡ b
period_one periods.SaleReconciliation periods.SaleReconciliation e = refl
period_one periods.AcquirerSynchronisation periods.AcquirerSynchronisation e = refl
period_one periods.AcquirerReconciliation periods.AcquirerReconciliation e = refl
period_one periods.PreviousReconciliation periods.PreviousReconciliation e = refl
period_one a b e = absurd (differ (period_name a) (period_name b) refl e)

category_one : (a b : Category) → category_name a ≡ category_name b → a ≡ b
category_one categories.Login categories.Login e = refl
category_one categories.Logout categories.Logout e = refl
category_one categories.Payment categories.Payment e = refl
category_one categories.Reversal categories.Reversal e = refl
category_one categories.Abort categories.Abort e = refl
category_one categories.TransactionStatus categories.TransactionStatus e = refl
category_one categories.Reconciliation categories.Reconciliation e = refl
category_one categories.Display categories.Display e = refl
category_one categories.Print categories.Print e = refl
category_one categories.Diagnosis categories.Diagnosis e = refl
category_one a b e = absurd (differ (category_name a) (category_name b) refl e)

-- ---- what is asked

header_one : (body : Tree) (a b : Header) → HeaderHolds body a → HeaderHolds body b → a ≡ b
header_one body a b h k =
    let class = class_one a.class b.class (some_one _ (class_name a.class) (class_name b.class) h.class k.class) in
    let category : a.category ≡ b.category = some_one _ a.category b.category h.category k.category in
    let message_type = kind_one a.kind b.kind (some_one _ (kind_name a.kind) (kind_name b.kind) h.message_type k.message_type) in
    let service : a.service ≡ b.service = sym h.service ∙ k.service in
    let device : a.device ≡ b.device = sym h.device ∙ k.device in
    let sale : a.sale ≡ b.sale = some_one _ a.sale b.sale h.sale k.sale in
    let poi : a.poi ≡ b.poi = some_one _ a.poi b.poi h.poi k.poi in
    λ i. record {
      class = class i;
      category = category i;
      kind = message_type i;
      service = service i;
      device = device i;
      sale = sale i;
      poi = poi i;
    }

payment_one : (body : Tree) (a b : PaymentAsk) → IsPayment body a → IsPayment body b → a ≡ b
payment_one body a b h k =
    let transaction : a.transaction ≡ b.transaction = some_one _ a.transaction b.transaction h.transaction k.transaction in
    let stamp : a.stamp ≡ b.stamp = some_one _ a.stamp b.stamp h.stamp k.stamp in
    let currency : a.currency ≡ b.currency = some_one _ a.currency b.currency h.currency k.currency in
    let amount : a.amount ≡ b.amount = some_one _ a.amount b.amount h.amount k.amount in
    let payment_type : a.kind ≡ b.kind = sym h.payment_type ∙ k.payment_type in
    λ i. record { transaction = transaction i; stamp = stamp i; currency = currency i; amount = amount i; kind = payment_type i }

reversal_one : (body : Tree) (a b : ReversalAsk) → IsReversal body a → IsReversal body b → a ≡ b
reversal_one body a b h k =
    let transaction : a.transaction ≡ b.transaction = some_one _ a.transaction b.transaction h.transaction k.transaction in
    let amount : a.amount ≡ b.amount = sym h.amount ∙ k.amount in
    λ i. record { transaction = transaction i; amount = amount i }

reference_one : (part : Tree) (a b : Reference) → IsReference part a → IsReference part b → a ≡ b
reference_one part a b h k =
    let service : a.service ≡ b.service = some_one _ a.service b.service h.service k.service in
    let sale : a.sale ≡ b.sale = sym h.sale ∙ k.sale in
    let poi : a.poi ≡ b.poi = sym h.poi ∙ k.poi in
    λ i. record { service = service i; sale = sale i; poi = poi i }

reference_at_one : (path : List ℕ) (body : Tree) (a b : Option Reference) → IsReferenceAt path body a → IsReferenceAt path body b → a ≡ b
reference_at_one path body None None h k = refl
reference_at_one path body None (Some b) h k = absurd (none_some (tree_at path body) k.0 h k.1)
reference_at_one path body (Some a) None h k = absurd (none_some (tree_at path body) h.0 k h.1)
reference_at_one path body (Some a) (Some b) h k =
    let e : h.0 ≡ k.0 = some_one (tree_at path body) h.0 k.0 h.1 k.1 in
    let P : Tree → Type 0 = λ part. IsReference part a in
    ap (λ (r : Reference). Some r) (reference_one k.0 a b (subst P e h.2) k.2)

output_one : (part : Tree) (a b : Output) → IsOutput part a → IsOutput part b → a ≡ b
output_one part a b h k =
    let device : a.device ≡ b.device = some_one _ a.device b.device h.device k.device in
    let qualify : a.qualify ≡ b.qualify = some_one _ a.qualify b.qualify h.qualify k.qualify in
    let required : a.required ≡ b.required = sym h.required ∙ k.required in
    let texts : a.texts ≡ b.texts = sym h.texts ∙ k.texts in
    λ i. record { device = device i; qualify = qualify i; required = required i; texts = texts i }

outputs_one : (parts : List Tree) (a b : List Output) → AllZip IsOutput parts a → AllZip IsOutput parts b → a ≡ b
outputs_one [] [] [] h k = refl
outputs_one [] (x ∷ a) b h k = elim h [ ]
outputs_one [] [] (y ∷ b) h k = elim k [ ]
outputs_one (part ∷ parts) [] b h k = elim h [ ]
outputs_one (part ∷ parts) (x ∷ a) [] h k = elim k [ ]
outputs_one (part ∷ parts) (x ∷ a) (y ∷ b) h k =
    let first = output_one part x y h.0 k.0 in
    let rest = outputs_one parts a b h.1 k.1 in λ i. first i ∷ rest i

pub asks_one : (body : Tree) (a b : SaleRequest) → category_of a ≡ category_of b → Asks body a → Asks body b → a ≡ b
asks_one body requests.Login requests.Login e h k = refl
asks_one body requests.Logout requests.Logout e h k = refl
asks_one body (requests.Payment a) (requests.Payment b) e h k = ap (λ (x : PaymentAsk). requests.Payment x) (payment_one body a b h k)
asks_one body (requests.Reversal a) (requests.Reversal b) e h k = ap (λ (x : ReversalAsk). requests.Reversal x) (reversal_one body a b h k)
asks_one body (requests.Abort a) (requests.Abort b) e h k =
    let r : Some a ≡ Some b = reference_at_one _ body (Some a) (Some b) h k in cc
asks_one body (requests.Status a) (requests.Status b) e h k = ap (λ (x : Option Reference). requests.Status x) (reference_at_one _ body a b h k)
asks_one body (requests.Reconciliation a) (requests.Reconciliation b) e h k =
    ap (λ (x : PeriodType). requests.Reconciliation x) (period_one a b (some_one _ (period_name a) (period_name b) h k))
asks_one body (requests.Display a) (requests.Display b) e h k =
    ap (λ (x : List Output). requests.Display x) (outputs_one (parts_of categories.Display body) a b h k)
asks_one body (requests.Print a) (requests.Print b) e h k = ap (λ (x : List ℕ). requests.Print x) (some_one _ a b h k)
asks_one body requests.Diagnosis requests.Diagnosis e h k = refl
asks_one body _ _ e h k = absurd cc

-- ---- messages

pub record SameEnvelope (e d : Envelope) (b c : Tree) : Type 0 where
  pub envelope : e ≡ d
  pub body : b ≡ c

one_under_envelope : (e d : Envelope) (message b c : Tree) → IsUnderEnvelope e message b → IsUnderEnvelope d message c → SameEnvelope e d b c
one_under_envelope envelopes.Request envelopes.Request message b c h k = record { envelope = refl; body = some_one _ b c h k }
one_under_envelope envelopes.Request envelopes.Response message b c h k = absurd (none_some _ b k.0 h)
one_under_envelope envelopes.Response envelopes.Request message b c h k = absurd (none_some _ c h.0 k)
one_under_envelope envelopes.Response envelopes.Response message b c h k = record { envelope = refl; body = some_one _ b c h.1 k.1 }

lacks_none : (e : Envelope) (message b : Tree) → LacksEnvelope message → IsUnderEnvelope e message b → ⊥
lacks_none envelopes.Request message b h k = none_some _ b h.request k
lacks_none envelopes.Response message b h k = none_some _ b h.response k.1

-- two requests of one message have one header and one body object
pub record SameRequest (b c : Tree) (g h : Header) : Type 0 where
  pub body : b ≡ c
  pub header : g ≡ h

request_of_one : (message b c : Tree) (g h : Header) → IsRequestOf message b g → IsRequestOf message c h → SameRequest b c g h
request_of_one message b c g h r s =
    let e = (one_under_envelope envelopes.Request envelopes.Request message b c r.under s.under).body in
    let P : Tree → Type 0 = λ t. HeaderHolds t g in
    record { body = e; header = header_one c g h (subst P e r.header_is.values) s.header_is.values }

-- no request is silent
request_is_headed : (message b c : Tree) (g h : Header) (e : Envelope) → IsRequestOf message b g → IsSilent message e c h → ⊥
request_is_headed message b c g h e r s =
    let p = one_under_envelope envelopes.Request e message b c r.under s.under in
    let P : Tree → Type 0 = λ t. HeaderHolds t g in
    let q : g ≡ h = header_one c g h (subst P p.body r.header_is.values) s.header_is.values in
    by s.silent p.envelope (sym r.message_type ∙ ap (λ (x : Header). x.kind) q)
  where
    by : (e ≡ envelopes.Response) ⊎ (h.kind ≡ kinds.Notification) → envelopes.Request ≡ e → kinds.Request ≡ h.kind → ⊥
    by (inl f) i j = let x : envelopes.Request ≡ envelopes.Response = i ∙ f in absurd cc
    by (inr f) i j = let x : kinds.Request ≡ kinds.Notification = j ∙ f in absurd cc

request_one : (message b c : Tree) (g h : Header) (r s : SaleRequest) → IsRequest message b g r → IsRequest message c h s
    → incoming.Request g r ≡ incoming.Request h s
request_one message b c g h r s p q =
    let e = request_of_one message b c g h p.request_of q.request_of in
    let category = category_one (category_of r) (category_of s) (p.category ∙ ap (λ (x : Header). x.category) e.header ∙ sym q.category) in
    let P : Tree → Type 0 = λ t. Asks t r in
    let request = asks_one c r s category (subst P e.body p.asks) q.asks in
    λ i. incoming.Request (e.header i) (request i)

pub message_one : (message : Tree) (m n : Incoming) → IsTillMessage message m → IsTillMessage message n → m ≡ n
message_one message (incoming.Request g r) (incoming.Request h s) p q = request_one message p.0 q.0 g h r s p.1 q.1
message_one message (incoming.Request g r) incoming.Silent p q = absurd (request_is_headed message p.0 q.1 g q.2 q.0 p.1.request_of q.3)
message_one message incoming.Silent (incoming.Request h s) p q = absurd (request_is_headed message q.0 p.1 h p.2 p.0 q.1.request_of p.3)
message_one message incoming.Silent incoming.Silent p q = refl

-- ---- faults

-- what a header's fault leaves no room for: a readable header
header_no_both : (message b c : Tree) (e d : Envelope) (path : List ℕ) (flaw : Flaw) (h : Header)
    → HasNoHeader message path e b flaw → IsUnderEnvelope d message c → HasHeader d c h → ⊥
header_no_both message b c e d path flaw h p s k =
    let q = one_under_envelope e d message b c p.under s in
    let P : Tree → Type 0 = λ t. IsFirstFlaw (header_rows d) t flaw in
    let Q : Envelope → Type 0 = λ x. IsFirstFlaw (header_rows x) b flaw in
    rows_no_both (header_rows d) c flaw k.members (subst P q.body (subst Q q.envelope p.first))

header_path_one : (message b c : Tree) (e d : Envelope) (p q : List ℕ) (f g : Flaw)
    → HasNoHeader message p e b f → HasNoHeader message q d c g → p ≡ q
header_path_one message b c e d p q f g h k =
    let s = one_under_envelope e d message b c h.under k.under in
    let P : Tree → Type 0 = λ t. IsFirstFlaw (header_rows d) t f in
    let Q : Envelope → Type 0 = λ x. IsFirstFlaw (header_rows x) b f in
    let same_flaw = rows_one (header_rows d) c f g (subst P s.body (subst Q s.envelope h.first)) k.first in
    h.path_is ∙ ap path_of same_flaw ∙ sym k.path_is

-- a tree has one header, in one object
pub header_path_unique : (message : Tree) (d e : Envelope) (b c : Tree) (g h : Header) → IsHeaded message d b g → IsHeaded message e c h
    → (b ≡ c) × (g ≡ h)
header_path_unique message d e b c g h p q =
    let same_body = (one_under_envelope d e message b c p.0 q.0).body in
    let P : Tree → Type 0 = λ t. HeaderHolds t g in
    (same_body, header_one c g h (subst P same_body p.1.values) q.1.values)

pub no_header_one : (message : Tree) (p q : List ℕ) → LacksHeader message p → LacksHeader message q → p ≡ q
no_header_one message p q (inl h) (inl k) = h.1 ∙ sym k.1
no_header_one message p q (inl h) (inr k) = absurd (lacks_none k.0 message k.1 h.0 k.3.under)
no_header_one message p q (inr h) (inl k) = absurd (lacks_none h.0 message h.1 k.0 h.3.under)
no_header_one message p q (inr h) (inr k) = header_path_one message h.1 k.1 h.0 k.0 p q h.2 k.2 h.3 k.3

pub no_header_headed : (message : Tree) (p : List ℕ) (d : Envelope) (c : Tree) (h : Header) → LacksHeader message p
    → IsUnderEnvelope d message c → HasHeader d c h → ⊥
no_header_headed message p d c h (inl n) s k = lacks_none d message c n.0 s
no_header_headed message p d c h (inr n) s k = header_no_both message n.1 c n.0 d p n.2 h n.3 s k

no_header_request : (message : Tree) (p : List ℕ) (c : Tree) (h : Header) → LacksHeader message p → IsRequestOf message c h → ⊥
no_header_request message p c h n r = no_header_headed message p envelopes.Request c h n r.under r.header_is

-- two flaws of a request are one, of one header
pub record SameFlaw (g h : Header) (f k : Flaw) : Type 0 where
  pub header : g ≡ h
  pub flaw : f ≡ k

flawed_one : (message : Tree) (g h : Header) (f k : Flaw) → IsFlawed message g f → IsFlawed message h k → SameFlaw g h f k
flawed_one message g h f k p q =
    let a = p.2 in
    let b = q.2 in
    let e = request_of_one message p.0 q.0 g h a.request_of b.request_of in
    let category = category_one p.1 q.1 (a.category_is ∙ ap (λ (x : Header). x.category) e.header ∙ sym b.category_is) in
    let P : Tree → Type 0 = λ t. IsBodyFlaw q.1 t f in
    let Q : Category → Type 0 = λ x. IsBodyFlaw x p.0 f in
    record { header = e.header; flaw = body_one q.1 q.0 f k (subst P e.body (subst Q category a.first)) b.first }

abbrev pub IsUnserved : Tree → Header → Type 0
IsUnserved message h = IsSaleFault message (faults.Unserved h)

unserved_flawed : (message : Tree) (g h : Header) (f : Flaw) → IsUnserved message g → IsFlawed message h f → ⊥
unserved_flawed message g h f p q =
    let a = q.2 in
    let e = request_of_one message p.0 q.0 g h p.1 a.request_of in
    p.2 q.1 (a.category_is ∙ sym (ap (λ (x : Header). x.category) e.header))

missing_one : (message : Tree) (g h : Header) (p q : List ℕ) → SameFlaw g h (flaws.Missing p) (flaws.Missing q)
    → faults.Missing g p ≡ faults.Missing h q
missing_one message g h p q s =
    let f = s.flaw in
    let e : p ≡ q = cc in
    let d = s.header in λ i. faults.Missing (d i) (e i)

wrong_one : (message : Tree) (g h : Header) (p q : List ℕ) → SameFlaw g h (flaws.Wrong p) (flaws.Wrong q)
    → faults.Wrong g p ≡ faults.Wrong h q
wrong_one message g h p q s =
    let f = s.flaw in
    let e : p ≡ q = cc in
    let d = s.header in λ i. faults.Wrong (d i) (e i)

missing_wrong : (g h : Header) (p q : List ℕ) → SameFlaw g h (flaws.Missing p) (flaws.Wrong q) → ⊥
missing_wrong g h p q s = let f = s.flaw in absurd cc

pub fault_one : (message : Tree) (f g : SaleFault) → IsSaleFault message f → IsSaleFault message g → f ≡ g
fault_one message (faults.NoHeader p) (faults.NoHeader q) h k = ap (λ (x : List ℕ). faults.NoHeader x) (no_header_one message p q h k)
fault_one message (faults.NoHeader p) (faults.Missing b q) h k = absurd (no_header_request message p k.0 b h k.2.request_of)
fault_one message (faults.NoHeader p) (faults.Wrong b q) h k = absurd (no_header_request message p k.0 b h k.2.request_of)
fault_one message (faults.NoHeader p) (faults.Unserved b) h k = absurd (no_header_request message p k.0 b h k.1)
fault_one message (faults.Missing a p) (faults.NoHeader q) h k = absurd (no_header_request message q h.0 a k h.2.request_of)
fault_one message (faults.Missing a p) (faults.Missing b q) h k = missing_one message a b p q (flawed_one message a b _ _ h k)
fault_one message (faults.Missing a p) (faults.Wrong b q) h k = absurd (missing_wrong a b p q (flawed_one message a b _ _ h k))
fault_one message (faults.Missing a p) (faults.Unserved b) h k = absurd (unserved_flawed message b a _ k h)
fault_one message (faults.Wrong a p) (faults.NoHeader q) h k = absurd (no_header_request message q h.0 a k h.2.request_of)
fault_one message (faults.Wrong a p) (faults.Missing b q) h k = absurd (missing_wrong b a q p (flawed_one message b a _ _ k h))
fault_one message (faults.Wrong a p) (faults.Wrong b q) h k = wrong_one message a b p q (flawed_one message a b _ _ h k)
fault_one message (faults.Wrong a p) (faults.Unserved b) h k = absurd (unserved_flawed message b a _ k h)
fault_one message (faults.Unserved a) (faults.NoHeader q) h k = absurd (no_header_request message q h.0 a k h.1)
fault_one message (faults.Unserved a) (faults.Missing b q) h k = absurd (unserved_flawed message a b _ h k)
fault_one message (faults.Unserved a) (faults.Wrong b q) h k = absurd (unserved_flawed message a b _ h k)
fault_one message (faults.Unserved a) (faults.Unserved b) h k =
    ap (λ (x : Header). faults.Unserved x) (request_of_one message h.0 k.0 a b h.1 k.1).header

-- ---- no message has a fault

flawed_request : (message b : Tree) (g h : Header) (r : SaleRequest) (f : Flaw) → IsRequest message b g r → IsFlawed message h f → ⊥
flawed_request message b g h r f p q =
    let a = q.2 in
    let e = request_of_one message b q.0 g h p.request_of a.request_of in
    let category = category_one (category_of r) q.1 (p.category ∙ ap (λ (x : Header). x.category) e.header ∙ sym a.category_is) in
    let P : Tree → Type 0 = λ t. HasBody q.1 t in
    let Q : Category → Type 0 = λ x. HasBody x b in
    body_no_both q.1 q.0 f (subst P e.body (subst Q category p.members)) a.first

request_no_fault : (message b : Tree) (g : Header) (r : SaleRequest) (f : SaleFault) → IsRequest message b g r → IsSaleFault message f → ⊥
request_no_fault message b g r (faults.NoHeader p) h k = no_header_request message p b g k h.request_of
request_no_fault message b g r (faults.Missing a p) h k = flawed_request message b g a r _ h k
request_no_fault message b g r (faults.Wrong a p) h k = flawed_request message b g a r _ h k
request_no_fault message b g r (faults.Unserved a) h k =
    let e = request_of_one message b k.0 g a h.request_of k.1 in
    k.2 (category_of r) (h.category ∙ ap (λ (x : Header). x.category) e.header)

silent_no_fault : (message b : Tree) (e : Envelope) (g : Header) (f : SaleFault) → IsSilent message e b g → IsSaleFault message f → ⊥
silent_no_fault message b e g (faults.NoHeader p) h k = no_header_headed message p e b g k h.under h.header_is
silent_no_fault message b e g (faults.Missing a p) h k = request_is_headed message k.0 b a g e k.2.request_of h
silent_no_fault message b e g (faults.Wrong a p) h k = request_is_headed message k.0 b a g e k.2.request_of h
silent_no_fault message b e g (faults.Unserved a) h k = request_is_headed message k.0 b a g e k.1 h

pub message_no_fault : (message : Tree) (m : Incoming) (f : SaleFault) → IsTillMessage message m → IsSaleFault message f → ⊥
message_no_fault message (incoming.Request g r) f h k = request_no_fault message h.0 g r f h.1 k
message_no_fault message incoming.Silent f h k = silent_no_fault message h.1 h.0 h.2 f h.3 k

-- ---- a result that is right is the only one, but for refused memory

pub result_message : (message : Tree) (r : Result Incoming MessageError) → MatchResult r (IsTillMessage message) (RefusesTree message)
    → (m : Incoming) → IsTillMessage message m → (r ≡ Ok m) ⊎ (r ≡ Err errors.Memory)
result_message message (Ok n) h m k = inl (ap (λ (x : Incoming). Ok x) (message_one message n m h k))
result_message message (Err errors.Memory) h m k = inr refl
result_message message (Err (errors.Fault f)) h m k = absurd (message_no_fault message m f k h)

pub result_fault : (message : Tree) (r : Result Incoming MessageError) → MatchResult r (IsTillMessage message) (RefusesTree message)
    → (f : SaleFault) → IsSaleFault message f → (r ≡ Err (errors.Fault f)) ⊎ (r ≡ Err errors.Memory)
result_fault message (Ok n) h f k = absurd (message_no_fault message n f h k)
result_fault message (Err errors.Memory) h f k = inr refl
result_fault message (Err (errors.Fault g)) h f k = inl (ap (λ (x : SaleFault). Err (errors.Fault x)) (fault_one message g f h k))
