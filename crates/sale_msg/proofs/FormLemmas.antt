-- Forms, by the variants of a tree.
use Rattle.std.proofs.Common.{◌≡◌, ℕ, ◌≤◌, List, Option, Some, None, Bool, sym, ap, subst, ◌∙◌, All, length, map, MatchOption, ◌↔◌, [], ◌∷◌, ◌++◌, ◌+◌, ◌<◌, ◌&&◌, true, false, refl, take, get_or, arith, IsTrue, true≢false}
use Rattle.std.proofs.lemmas.List.{length-map, take_more}
use Rattle.std.proofs.lemmas.List.Elements.{All-nil, All-cons, All-head, All-tail, All-map, All-more}
use Rattle.std.specs.Option.{is_some, option_and_then, IsSome}
use Rattle.gw_base.specs.Amount.{minor_units, SpellsAmount}
use Rattle.gw_base.proofs.AmountLemmas.{minor_units-text}
use Rattle.json_text.specs.Tree.{Tree, array_of, numeral_of}
use Rattle.sale_msg.specs.Form.{HasTextMember, IsAmountNumber, IsJsonObject, IsOutputList, IsTextList}

-- a number is an amount where its minor units are found
by_units : (numeral : List ℕ) (units : Option ℕ) (b : Bool)
    → MatchOption units ((m : ℕ) → ¬ SpellsAmount numeral m) (SpellsAmount numeral)
    → b ≡ is_some units → IsTrue b ↔ ((m : ℕ) × SpellsAmount numeral m)
by_units numeral None b none e = (λ t. absurd (true≢false (sym t ∙ e)), λ h. absurd (none h.0 h.1))
by_units numeral (Some m) b is e = (λ t. (m, is), λ h. e)

pub amount_form : (tree : Tree) (numeral : List ℕ) (units : Option ℕ) (b : Bool)
    → Some numeral ≡ numeral_of tree
    → MatchOption units ((m : ℕ) → ¬ SpellsAmount numeral m) (SpellsAmount numeral)
    → b ≡ is_some units → IsTrue b ↔ IsAmountNumber tree
amount_form tree numeral units b e h f =
    let P : Option (List ℕ) → Type 0 = λ found. IsTrue b ↔ MatchOption found ⊥ (λ text. (m : ℕ) × SpellsAmount text m) in
    subst P e (by_units numeral units b h f)

-- what holds of each element's tree holds of each tree of the elements
pub each_back : {A : Type 0} (P : Tree → Type 0) (f : A → Tree) (xs : List A) → All P (map f xs) → All (λ x. P (f x)) xs
each_back P f [] h = All-nil (λ x. P (f x))
each_back P f (x ∷ xs) h =
    All-cons (λ y. P (f y)) x xs (All-head P (f x) (map f xs) h) (each_back P f xs (All-tail P (f x) (map f xs) h))

pub text_list_form : {A : Type 0} (f : A → Tree) (tree : Tree) (elements : List A) (b : Bool) → Some (map f elements) ≡ array_of tree
    → IsTrue b ↔ All (λ element. HasTextMember (f element)) elements → IsTrue b ↔ IsTextList tree
text_list_form f tree elements b e h =
    let P : Option (List Tree) → Type 0 = λ found. IsTrue b ↔ MatchOption found ⊥ (All HasTextMember) in
    subst P e (λ t. All-map HasTextMember f elements (h.0 t), λ all. h.1 (each_back HasTextMember f elements all))

pub output_list_form : {A : Type 0} (f : A → Tree) (tree : Tree) (elements : List A) (b : Bool) → Some (map f elements) ≡ array_of tree
    → IsTrue b ↔ ((1 ≤ length elements) × (length elements ≤ 16) × All (λ element. IsJsonObject (f element)) elements) → IsTrue b ↔ IsOutputList tree
output_list_form f tree elements b e h =
    let P : Option (List Tree) → Type 0 =
    λ found. IsTrue b ↔ MatchOption found (IsJsonObject tree) (λ l. (1 ≤ length l) × (length l ≤ 16) × All IsJsonObject l) in
    subst P e (
      λ t. (omega (arith, (h.0 t).0, length-map elements f), omega (arith, (h.0 t).1, length-map elements f), All-map IsJsonObject f elements (h.0 t).2),
      λ all. h.1 (omega (arith, all.0, length-map elements f), omega (arith, all.1, length-map elements f), each_back IsJsonObject f elements all.2),
    )

-- a number that is an amount has minor units
pub amount_has_units : (found : Option Tree) → MatchOption found ⊥ IsAmountNumber → IsSome (option_and_then minor_units (option_and_then numeral_of found))
amount_has_units None h = absurd h
amount_has_units (Some tree) h = by (numeral_of tree) h
  where
    by : (numeral : Option (List ℕ)) → MatchOption numeral ⊥ (λ text. (m : ℕ) × SpellsAmount text m) → IsSome (option_and_then minor_units numeral)
    by None k = absurd k
    by (Some text) k = ap is_some (minor_units-text text k.0 k.1)

-- ---- a test of each element, without an early end

before_and_last : {A : Type 0} (P : A → Type 0) (xs : List A) (x : A) → All P (xs ++ x ∷ []) → All P xs × P x
before_and_last P [] x h = (All-nil P, All-head P x [] h)
before_and_last P (y ∷ ys) x h =
    let rest = before_and_last P ys x (All-tail P y (ys ++ x ∷ []) h) in
    (All-cons P y ys (All-head P y (ys ++ x ∷ []) h) rest.0, rest.1)

pub one_more : {A : Type 0} (P : A → Type 0) (xs : List A) (i : ℕ) (d : A) (so_far this : Bool) → i < length xs
    → IsTrue so_far ↔ All P (take i xs) → IsTrue this ↔ P (get_or xs i d) → IsTrue (so_far && this) ↔ All P (take (i + 1) xs)
one_more P xs i d true this inside before here = (
  λ t. All-more P xs i d inside (before.0 refl) (here.0 t),
  λ all. here.1 (before_and_last P (take i xs) (get_or xs i d) (subst (All P) (take_more xs i d inside) all)).1,
)
one_more P xs i d false this inside before here = (
  λ t. absurd (true≢false (sym t)),
  λ all. absurd (true≢false (sym (before.1 (before_and_last P (take i xs) (get_or xs i d) (subst (All P) (take_more xs i d inside) all)).0))),
)
