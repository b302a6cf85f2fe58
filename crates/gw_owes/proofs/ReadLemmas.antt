-- A till's bytes are read one way.
use Rattle.std.proofs.Common.{◌≡◌, ℕ, ◌+◌, ◌<◌, ◌≤◌, List, ◌++◌, take, drop, refl, sym, ◌∙◌, ap, subst, arith, inl, inr, append_assoc}
use Rattle.std.proofs.lemmas.Bool.{cases_lt}
use Rattle.std.proofs.lemmas.List.{take-append-drop, take-take}
use Rattle.std.specs.Prelude.{◌↔◌}
use Rattle.json_text.specs.declared.fault.FaultKind.{FaultKind}
use Rattle.json_text.specs.declared.fault.FaultKind.TheVariants.{NotJson, TooDeep, Repeated, BadUtf8}
use Rattle.json_text.specs.declared.fault.JsonFault.{JsonFault}
use Rattle.json_text.specs.Grammar.{BeginsText, Spells}
use Rattle.json_text.specs.Fault.{IsJsonFault}
use Rattle.json_text.proofs.UniqueLemmas.{same_tree}
use Rattle.sale_values.specs.declared.fault.SaleFault.{SaleFault}
use Rattle.sale_values.specs.declared.request.Incoming.{Incoming}
use Rattle.sale_values.specs.declared.request.Incoming.TheVariants as incoming
use Rattle.sale_msg.specs.Grammar.{IsTillMessage, IsSaleFault}
use Rattle.sale_msg.proofs.UniqueLemmas.{message_one, fault_one, message_no_fault}
use Rattle.gw_owes.specs.ReadAs.{ReadAs, Request, Silent, NoMessage, NoJson, SpellsTillMessage, SpellsSaleFault}
use Rattle.gw_owes.specs.Laws.{ReadsOneWay}

-- a shorter prefix
begins-shorter : (b : List ℕ) (m n : ℕ) → m ≤ n → BeginsText (take n b) → BeginsText (take m b)
begins-shorter b m n le (v, more, spelled) =
    let parts : take n b ≡ take m b ++ drop m (take n b) = sym (take-append-drop m (take n b)) ∙ ap (λ l. l ++ drop m (take n b)) (take-take m n b le) in
    let whole : take n b ++ more ≡ take m b ++ (drop m (take n b) ++ more) = ap (λ l. l ++ more) parts ∙ append_assoc (take m b) (drop m (take n b)) more in
    (v, drop m (take n b) ++ more, subst (Spells v) whole spelled)

-- two faults of a text are at one place
one-place : (b : List ℕ) (f g : JsonFault) → IsJsonFault b f.at f.kind → IsJsonFault b g.at g.kind → f.at < g.at → ⊥
one-place b f g x y lt = x.longest (omega (arith, y.within)) (begins-shorter b (f.at + 1) g.at (omega arith) y.begins)

one-kind : (k l : FaultKind) (A B C : Type 0) → (k ≡ TooDeep) ↔ A → (l ≡ TooDeep) ↔ A → (k ≡ Repeated) ↔ B → (l ≡ Repeated) ↔ B → (k ≡ BadUtf8) ↔ C → (l ≡ BadUtf8) ↔ C → k ≡ l
one-kind TooDeep l A B C ka la kb lb kc lc = sym (la.1 (ka.0 refl))
one-kind Repeated l A B C ka la kb lb kc lc = sym (lb.1 (kb.0 refl))
one-kind BadUtf8 l A B C ka la kb lb kc lc = sym (lc.1 (kc.0 refl))
one-kind NotJson TooDeep A B C ka la kb lb kc lc = ka.1 (la.0 refl)
one-kind NotJson Repeated A B C ka la kb lb kc lc = kb.1 (lb.0 refl)
one-kind NotJson BadUtf8 A B C ka la kb lb kc lc = kc.1 (lc.0 refl)
one-kind NotJson NotJson A B C ka la kb lb kc lc = refl

same-at : (b : List ℕ) (f g : JsonFault) → IsJsonFault b f.at f.kind → IsJsonFault b g.at g.kind → f.at ≡ g.at
same-at b f g x y = elim (cases_lt f.at g.at) [
  | inl l ↦ absurd (one-place b f g x y l)
  | inr h ↦ elim (cases_lt g.at f.at) [ inl l ↦ absurd (one-place b g f y x l) | inr k ↦ omega arith ]
]

-- a text has one fault
one-fault : (b : List ℕ) (f g : JsonFault) → IsJsonFault b f.at f.kind → IsJsonFault b g.at g.kind → f ≡ g
one-fault b f g x y =
    let at : f.at ≡ g.at = same-at b f g x y in
    let z : IsJsonFault b f.at g.kind = subst (λ n. IsJsonFault b n g.kind) (sym at) y in
    let kind : f.kind ≡ g.kind = one-kind f.kind g.kind _ _ _ x.too_deep z.too_deep x.repeated z.repeated x.bad_utf8 z.bad_utf8 in
    same f.at g.at f.kind g.kind at kind
  where
    same : (a c : ℕ) (k l : FaultKind) → a ≡ c → k ≡ l → ◌≡◌ {A = JsonFault} (record { at = a; kind = k }) (record { at = c; kind = l })
    same a c k l e h = rw (e, h) refl

-- a message as what is read
abbrev read_of : Incoming → ReadAs
read_of (incoming.Request header request) = Request header request
read_of incoming.Silent = Silent

one-message : (b : List ℕ) (i j : Incoming) → SpellsTillMessage b i → SpellsTillMessage b j → read_of i ≡ read_of j
one-message b i j x y =
    let same : y.tree ≡ x.tree = same_tree y.tree x.tree b y.spelled x.spelled in
    ap read_of (message_one x.tree i j x.read (subst (λ t. IsTillMessage t j) same y.read))

one-no-message : (b : List ℕ) (f g : SaleFault) → SpellsSaleFault b f → SpellsSaleFault b g → f ≡ g
one-no-message b f g x y =
    let same : y.tree ≡ x.tree = same_tree y.tree x.tree b y.spelled x.spelled in
    fault_one x.tree f g x.faulty (subst (λ t. IsSaleFault t g) same y.faulty)

not-both : {A : Type 0} (b : List ℕ) (i : Incoming) (f : SaleFault) → SpellsTillMessage b i → SpellsSaleFault b f → A
not-both b i f x y =
    let same : y.tree ≡ x.tree = same_tree y.tree x.tree b y.spelled x.spelled in
    absurd (message_no_fault x.tree i f x.read (subst (λ t. IsSaleFault t f) same y.faulty))

pub reads-one : ReadsOneWay
reads-one b (Request h r) (Request k s) x y = one-message b (incoming.Request h r) (incoming.Request k s) x y
reads-one b (Request h r) Silent x y = one-message b (incoming.Request h r) incoming.Silent x y
reads-one b (Request h r) (NoMessage f) x y = not-both b (incoming.Request h r) f x y
reads-one b (Request h r) (NoJson f) x y = absurd (y.spelled_by_none x.tree x.spelled)
reads-one b Silent (Request k s) x y = one-message b incoming.Silent (incoming.Request k s) x y
reads-one b Silent Silent x y = refl
reads-one b Silent (NoMessage f) x y = not-both b incoming.Silent f x y
reads-one b Silent (NoJson f) x y = absurd (y.spelled_by_none x.tree x.spelled)
reads-one b (NoMessage f) (Request k s) x y = not-both b (incoming.Request k s) f y x
reads-one b (NoMessage f) Silent x y = not-both b incoming.Silent f y x
reads-one b (NoMessage f) (NoMessage g) x y = ap NoMessage (one-no-message b f g x y)
reads-one b (NoMessage f) (NoJson g) x y = absurd (y.spelled_by_none x.tree x.spelled)
reads-one b (NoJson f) (Request k s) x y = absurd (x.spelled_by_none y.tree y.spelled)
reads-one b (NoJson f) Silent x y = absurd (x.spelled_by_none y.tree y.spelled)
reads-one b (NoJson f) (NoMessage g) x y = absurd (x.spelled_by_none y.tree y.spelled)
reads-one b (NoJson f) (NoJson g) x y = ap NoJson (one-fault b f g x y)
