-- The order by deadline is a sort: in order, stable, and of the same requests.
use Rattle.std.proofs.Common.{◌≡◌, ℕ, ◌<◌, ℤ, Bool, true, false, not, ◌&&◌, cond, List, [], ◌∷◌, ◌++◌, length, zero, suc, refl, sym, ap, ◌∙◌, subst, inl, inr, arith, slice_index_or, append-nil, append_assoc}
use Rattle.std.proofs.lemmas.Bool.{cases_Bool, cond-true, cond-false, false≢true}
use Rattle.std.proofs.lemmas.List.Sorted.{IsPermutation-refl, IsPermutation-cons, IsPermutation-trans, IsPermutation-middle, IsPermutation-append_left}
use Rattle.std.specs.List.{filter}
use Rattle.std.specs.List.Sorted.{IsPermutation, IsSortedBy, IsStableBy, ties}
use Rattle.std.specs.Prelude.{int_lt}
use native.Mathlib.Numerals.{unary_clauses}
use Rattle.gw_links.specs.Waiting.{Waiting, place, place_all, by_deadline, is_due_sooner}
use Rattle.gw_links.specs.inner.Chain.{Every}
use Rattle.gw_links.proofs.OrderLemmas.{Every-weaker, IsSorted, IsSorted-place, IsSorted-place_all, earlier_than_later}

-- ---- in order

sooner_at : (lines : List Waiting) → IsSorted lines → (k : ℕ) (d : Waiting) → suc k < length lines → is_due_sooner (slice_index_or lines (suc k) d) (slice_index_or lines k d) ≡ false
sooner_at [] sorted k d within = absurd (omega (arith, within))
sooner_at (first ∷ []) sorted k d within = absurd (omega (arith, within))
sooner_at (first ∷ second ∷ rest) sorted zero d within = sorted.0.0
sooner_at (first ∷ second ∷ rest) sorted (suc k) d within = sooner_at (second ∷ rest) sorted.1 k d (omega (arith, within))

pub by_deadline-sorted : (lines : List Waiting) → IsSortedBy is_due_sooner (by_deadline lines)
by_deadline-sorted lines = λ k d from within. simp unary_clauses (sooner_at (by_deadline lines) (IsSorted-place_all [] lines tt) k d (omega (arith, within)))

-- ---- the same requests

place-same : (new : Waiting) (lines : List Waiting) → IsPermutation (new ∷ lines) (place new lines)
place-same new [] = IsPermutation-refl (new ∷ [])
place-same new (first ∷ rest) = by_test (place-same new rest) (int_lt new.item.deadline first.item.deadline)
  where
    by_test : IsPermutation (new ∷ rest) (place new rest) → (b : Bool) → IsPermutation (new ∷ first ∷ rest) (cond b (new ∷ first ∷ rest) (first ∷ place new rest))
    by_test is true = IsPermutation-refl (new ∷ first ∷ rest)
    by_test is false =
        IsPermutation-trans (new ∷ first ∷ rest) (first ∷ new ∷ rest) (first ∷ place new rest)
        (IsPermutation-middle (new ∷ []) first rest)
        (IsPermutation-cons first (new ∷ rest) (place new rest) is)

place_all-same : (sorted lines : List Waiting) → IsPermutation (sorted ++ lines) (place_all sorted lines)
place_all-same sorted [] = subst (λ l. IsPermutation l sorted) (sym (append-nil sorted)) (IsPermutation-refl sorted)
place_all-same sorted (first ∷ rest) =
    IsPermutation-trans (sorted ++ first ∷ rest) (first ∷ (sorted ++ rest)) (place_all (place first sorted) rest)
    (IsPermutation-middle sorted first rest)
    (IsPermutation-trans (first ∷ (sorted ++ rest)) (place first sorted ++ rest) (place_all (place first sorted) rest)
    (IsPermutation-append_left rest (first ∷ sorted) (place first sorted) (place-same first sorted))
    (place_all-same (place first sorted) rest))

pub by_deadline-same : (lines : List Waiting) → IsPermutation lines (by_deadline lines)
by_deadline-same lines = place_all-same [] lines

-- ---- the order of acceptance within one deadline

-- of two moments of which none is earlier than the other, both are earlier than a third or none is
tied_later : (a b c : ℤ) → int_lt a b ≡ true → int_lt a c ≡ false → int_lt c b ≡ true
tied_later a b c earlier not_later =
    elim (cases_Bool (int_lt c b)) [
      | inl is ↦ is
      | inr isnt ↦ absurd (false≢true (sym not_later ∙ earlier_than_later a b c earlier isnt))
    ]

both_not : (a b : Bool) → (not a && not b) ≡ true → (a ≡ false) × (b ≡ false)
both_not true b is = absurd (false≢true is)
both_not false true is = absurd (false≢true is)
both_not false false is = (refl, refl)

not_tied : (x new other : Waiting) → ties is_due_sooner x new ≡ true → is_due_sooner new other ≡ true → ties is_due_sooner x other ≡ false
not_tied x new other tied sooner =
    ap (λ b. not b && not (is_due_sooner other x))
    (tied_later new.item.deadline other.item.deadline x.item.deadline sooner (both_not (is_due_sooner x new) (is_due_sooner new x) tied).1)

filter-none : (p : Waiting → Bool) (lines : List Waiting) → Every (λ w. p w ≡ false) lines → filter p lines ≡ []
filter-none p [] all = refl
filter-none p (first ∷ rest) all = cond-false _ _ _ all.0 ∙ filter-none p rest all.1

filter-first : (b : Bool) (first : Waiting) (xs ys : List Waiting) → cond b (first ∷ (xs ++ ys)) (xs ++ ys) ≡ cond b (first ∷ xs) xs ++ ys
filter-first true first xs ys = refl
filter-first false first xs ys = refl

-- one that is placed is last among those of its deadline
place-tied : (x new : Waiting) (lines : List Waiting) → IsSorted lines → filter (ties is_due_sooner x) (place new lines) ≡ filter (ties is_due_sooner x) lines ++ filter (ties is_due_sooner x) (new ∷ [])
place-tied x new [] sorted = refl
place-tied x new (first ∷ rest) sorted =
    let p = ties is_due_sooner x in
    elim (cases_Bool (is_due_sooner new first)) [
      | inl sooner ↦
          ap (filter p) (cond-true _ (new ∷ first ∷ rest) (first ∷ place new rest) sooner)
          ∙ elim (cases_Bool (ties is_due_sooner x new)) [
            | inl tied ↦
                let none = filter-none p (first ∷ rest) (not_tied x new first tied sooner, Every-weaker (λ other. int_lt other.item.deadline first.item.deadline ≡ false) (λ other. p other ≡ false) (λ other not_earlier. not_tied x new other tied (earlier_than_later new.item.deadline first.item.deadline other.item.deadline sooner not_earlier)) rest sorted.0) in
                cond-true _ (new ∷ filter p (first ∷ rest)) (filter p (first ∷ rest)) tied
                ∙ ap (λ l. new ∷ l) none
                ∙ sym (ap (λ l. l ++ filter p (new ∷ [])) none ∙ cond-true _ (new ∷ []) [] tied)
            | inr apart ↦
                cond-false _ (new ∷ filter p (first ∷ rest)) (filter p (first ∷ rest)) apart
                ∙ sym (ap (λ l. filter p (first ∷ rest) ++ l) (cond-false _ (new ∷ []) [] apart) ∙ append-nil (filter p (first ∷ rest)))
          ]
      | inr later ↦
          ap (filter p) (cond-false _ (new ∷ first ∷ rest) (first ∷ place new rest) later)
          ∙ ap (λ l. cond (p first) (first ∷ l) l) (place-tied x new rest sorted.1)
          ∙ filter-first (p first) first (filter p rest) (filter p (new ∷ []))
    ]

place_all-tied : (x : Waiting) (sorted lines : List Waiting) → IsSorted sorted → filter (ties is_due_sooner x) (place_all sorted lines) ≡ filter (ties is_due_sooner x) sorted ++ filter (ties is_due_sooner x) lines
place_all-tied x sorted [] before = sym (append-nil (filter (ties is_due_sooner x) sorted))
place_all-tied x sorted (first ∷ rest) before =
    let p = ties is_due_sooner x in
    place_all-tied x (place first sorted) rest (IsSorted-place first sorted before)
    ∙ ap (λ l. l ++ filter p rest) (place-tied x first sorted before)
    ∙ append_assoc (filter p sorted) (filter p (first ∷ [])) (filter p rest)
    ∙ ap (λ l. filter p sorted ++ l) (sym (filter-first (p first) first [] (filter p rest)))

pub by_deadline-stable : (lines : List Waiting) → IsStableBy is_due_sooner lines (by_deadline lines)
by_deadline-stable lines x = place_all-tied x [] lines tt
