-- What a search finds in a table, and what an edit there does to its values.
use Rattle.std.proofs.Common.{◌≡◌, ◌∙◌, ℕ, zero, suc, ◌+◌, ◌-◌, ◌<◌, ◌≤◌, Bool, true, false, cond, List, [], ◌∷◌, length, get_or, set, Some, None, Option, Result, Ok, Err, IfOk, IfErr, IsSome, refl, sym, ap, subst, arith, ◌⊎◌, inl, inr, get_or-set_other, get_or-set_same, length-set, ◌≢◌}
use Rattle.std.specs.List.{insert}
use Rattle.std.specs.List.Sorted.{IsSearchInRange, IsBinarySearchResult, IsNonDecreasingBy}
use Rattle.std.specs.Cmp.{IsTotalOrder}
use Rattle.std.specs.Ordering.{ordering_index, ordering_reverse, is_eq}
use Rattle.std.specs.declared.cmp.Ordering.{Ordering}
use Rattle.std.specs.declared.cmp.Ordering.TheVariants.{Less, Equal, Greater}
use Rattle.std.proofs.lemmas.Bool.{cases_lt}
use Rattle.std.proofs.lemmas.Cmp.{tied_itself, tied_back, alike_right}
use Rattle.std.proofs.lemmas.List.Edits.{length-insert, get_or-insert_below, get_or-insert_at, get_or-insert_above}
use Rattle.gw_ledger.specs.Table.{IsGapFor, IsRowOf, IsTable, value_at}

-- two tests of which at most one passes may be made in either order
cond_swap : {X : Type 0} (a b : Bool) (x y z : X) → (b ≡ true → a ≡ false) → cond a x (cond b y z) ≡ cond b y (cond a x z)
cond_swap true true x y z apart = cc (apart refl)
cond_swap true false x y z apart = refl
cond_swap false true x y z apart = refl
cond_swap false false x y z apart = refl

-- a test that passes only where the one before it does changes nothing
cond_within : {X : Type 0} (a b : Bool) (x y z : X) → (b ≡ false → a ≡ false) → cond b y (cond a x z) ≡ cond b y z
cond_within a true x y z within = refl
cond_within true false x y z within = cc (within refl)
cond_within false false x y z within = refl

is_eq-not : (o p : Ordering) → o ≡ p → is_eq p ≡ false → is_eq o ≡ false
is_eq-not o p same no_tie = ap is_eq same ∙ no_tie

is_eq-true : (o : Ordering) → is_eq o ≡ true → o ≡ Equal
is_eq-true Less e = cc
is_eq-true Equal e = refl
is_eq-true Greater e = cc

at_most_two : (o : Ordering) → ordering_index o ≤ 2
at_most_two Less = omega arith
at_most_two Equal = omega arith
at_most_two Greater = omega arith

-- a number is below another, that one, or above it
three : (i at : ℕ) → (i < at) ⊎ (i ≡ at) ⊎ (at < i)
three i at = elim (cases_lt i at) [
  | inl lt ↦ inl lt
  | inr ge ↦ elim (cases_lt at i) [ inl gt ↦ inr (inr gt) | inr le ↦ inr (inl (omega arith)) ]
]

module _ {K : Type 0} {R : K → K → Ordering} (o : IsTotalOrder R) where
  -- a key below the other isn't the same
  less_apart : (x k : K) → R x k ≡ Less → is_eq (R k x) ≡ false
  less_apart x k less = ap is_eq (o.antisymm k x ∙ ap ordering_reverse less)

  greater_apart : (x k : K) → R x k ≡ Greater → is_eq (R k x) ≡ false
  greater_apart x k greater = ap is_eq (o.antisymm k x ∙ ap ordering_reverse greater)

  -- where q is k, it is apart from what k is apart from
  apart_with : (q k x : K) → is_eq (R k x) ≡ false → is_eq (R q k) ≡ true → is_eq (R q x) ≡ false
  apart_with q k x apart tie = is_eq-not (R q x) (R k x) (o.congr q k x (is_eq-true (R q k) tie)) apart

  -- where x is k, q is apart from x where it is apart from k
  apart_like : (q k x : K) → R k x ≡ Equal → is_eq (R q k) ≡ false → is_eq (R q x) ≡ false
  apart_like q k x tie apart = is_eq-not (R q x) (R q k) (sym (alike_right o k x q tie)) apart

  -- comparisons with one key rise with the keys
  ranks : (a b k : K) (p : Ordering) → R a b ≡ Less → R b k ≡ p → ordering_index (R a k) ≤ ordering_index p
  ranks a b k Less less by = rw (o.trans a b k less by) (omega arith)
  ranks a b k Equal less by = rw (sym (alike_right o b k a by) ∙ less) (omega arith)
  ranks a b k Greater less by = at_most_two (R a k)

  -- two keys may be replaced by the same keys
  like_both : (a b c d : K) → R a c ≡ Equal → R b d ≡ Equal → R c d ≡ Less → R a b ≡ Less
  like_both a b c d first second less = o.congr a c b first ∙ alike_right o b d c second ∙ less

module _ {K V : Type 0} {R : K → K → Ordering} (o : IsTotalOrder R) where
  -- no row before this index has the key
  abbrev pub NoneBefore : List (K × V) → K → ℕ → Type 0
  NoneBefore rows k at = (i : ℕ) (d : K × V) → i < at → i < length rows → is_eq (R k (get_or rows i d).0) ≡ false

  none_before_tail : (x : K × V) (rows : List (K × V)) (k : K) (at : ℕ) → NoneBefore (x ∷ rows) k (suc at) → NoneBefore rows k at
  none_before_tail x rows k at none i d lt inside = none (suc i) d (omega arith) (omega arith)

  pub absent : (rows : List (K × V)) (k : K) → NoneBefore rows k (length rows) → value_at R rows k ≡ None
  absent [] k none = refl
  absent (x ∷ rows) k none = rw (none 0 x (omega arith) (omega arith)) (absent rows k (none_before_tail x rows k (length rows) (λ i d lt inside. none i d (omega arith) inside)))

  pub present : (rows : List (K × V)) (k : K) (at : ℕ) (d : K × V) → at < length rows → R k (get_or rows at d).0 ≡ Equal → NoneBefore rows k at
      → value_at R rows k ≡ Some (get_or rows at d).1
  present [] k at d inside tie none = absurd (omega arith)
  present (x ∷ rows) k zero d inside tie none = rw (ap is_eq tie) refl
  present (x ∷ rows) k (suc at) d inside tie none =
      rw (none 0 x (omega arith) (omega arith)) (present rows k at d (omega arith) tie (none_before_tail x rows k at none))

  -- writing the row of the key
  pub values_set : (rows : List (K × V)) (k : K) (v : V) (at : ℕ) (d : K × V) → at < length rows → R k (get_or rows at d).0 ≡ Equal
      → NoneBefore rows k at → (q : K) → value_at R (set rows at (k, v)) q ≡ cond (is_eq (R q k)) (Some v) (value_at R rows q)
  values_set [] k v at d inside tie none q = absurd (omega arith)
  values_set (x ∷ rows) k v zero d inside tie none q =
      sym (cond_within (is_eq (R q x.0)) (is_eq (R q k)) (Some x.1) (Some v) (value_at R rows q) (apart_like o q k x.0 tie))
  values_set (x ∷ rows) k v (suc at) d inside tie none q =
      rw (values_set rows k v at d (omega arith) tie (none_before_tail x rows k at none) q)
      (cond_swap (is_eq (R q x.0)) (is_eq (R q k)) (Some x.1) (Some v) (value_at R rows q) (apart_with o q k x.0 (none 0 x (omega arith) (omega arith))))

  -- a new row
  pub values_insert : (rows : List (K × V)) (k : K) (v : V) (at : ℕ) → at ≤ length rows
      → NoneBefore rows k at → (q : K) → value_at R (insert rows at (k, v)) q ≡ cond (is_eq (R q k)) (Some v) (value_at R rows q)
  values_insert rows k v zero inside none q = refl
  values_insert [] k v (suc at) inside none q = refl
  values_insert (x ∷ rows) k v (suc at) inside none q =
      rw (values_insert rows k v at (omega arith) (none_before_tail x rows k at none) q)
      (cond_swap (is_eq (R q x.0)) (is_eq (R q k)) (Some x.1) (Some v) (value_at R rows q) (apart_with o q k x.0 (none 0 x (omega arith) (omega arith))))

  module _ (rows : List (K × V)) (sorted : IsTable R rows) (k : K) where
    -- the comparisons with a key don't fall along the rows
    rise : IsNonDecreasingBy (λ row. ordering_index (R row.0 k)) rows
    unfolding IsTable
    rise i j d le inside = elim (cases_lt i j) [
      | inl lt ↦ ranks o (get_or rows i d).0 (get_or rows j d).0 k (R (get_or rows j d).0 k) (sorted i j d lt inside) refl
      | inr ge ↦ let same : i ≡ j = omega arith in rw same (omega arith)
    ]

    -- a binary search ends at the key's row, or where it would come
    pub searched : (r : Result ℕ ℕ) → IsSearchInRange r (length rows) → IsBinarySearchResult (λ row. R row.0 k) rows r
        → IfOk r (IsRowOf R rows k) × IfErr r (IsGapFor R rows k)
    searched (Ok at) inside found = (record { inside = inside; equal = λ d. found d }, tt)
    searched (Err at) inside parted = (
      tt,
      record {
        inside = inside;
        below = λ i d lt. (parted rise).0 i d (omega arith) lt;
        above = λ i d ge lt. (parted rise).1 i d ge lt;
      },
    )

  module _ (rows : List (K × V)) (sorted : IsTable R rows) (k : K) (at : ℕ) (row : IsRowOf R rows k at) where
    none_before_row : NoneBefore rows k at
    unfolding IsTable
    none_before_row i d lt inside = less_apart o (get_or rows i d).0 k
        (sym (alike_right o (get_or rows at d).0 k (get_or rows i d).0 (row.equal d)) ∙ sorted i at d lt row.inside)

    pub value_found : (d : K × V) → value_at R rows k ≡ Some (get_or rows at d).1
    value_found d = present rows k at d row.inside (tied_back o _ k (row.equal d)) none_before_row

    pub values_set_row : (v : V) (q : K) → value_at R (set rows at (k, v)) q ≡ cond (is_eq (R q k)) (Some v) (value_at R rows q)
    values_set_row v q = values_set rows k v at (k, v) row.inside (tied_back o _ k (row.equal (k, v))) none_before_row q

    key_like : (v : V) (i : ℕ) (d : K × V) → i < length rows → R (get_or (set rows at (k, v)) i d).0 (get_or rows i d).0 ≡ Equal
    key_like v i d inside = elim (three i at) [
      | inl lt ↦ let ne : i ≢ at = omega arith in rw (get_or-set_other rows at i (k, v) d ne) (tied_itself o _)
      | inr other ↦ elim other [
        | inl same ↦ rw (same, get_or-set_same rows at (k, v) d row.inside) (tied_back o _ k (row.equal d))
        | inr gt ↦ let ne : i ≢ at = omega arith in rw (get_or-set_other rows at i (k, v) d ne) (tied_itself o _)
      ]
    ]

    pub table_set : (v : V) → IsTable R (set rows at (k, v))
    unfolding IsTable
    table_set v i j d lt inside =
        let len : j < length rows = omega (arith, length-set {A = K × V}) in
        like_both o _ _ _ _ (key_like v i d (omega arith)) (key_like v j d len) (sorted i j d lt len)

  module _ (rows : List (K × V)) (k : K) (at : ℕ) (gap : IsGapFor R rows k at) where
    none_before_gap : NoneBefore rows k at
    none_before_gap i d lt inside = less_apart o _ k (gap.below i d lt)

    none_anywhere : NoneBefore rows k (length rows)
    none_anywhere i d lt inside = elim (cases_lt i at) [
      | inl below ↦ less_apart o _ k (gap.below i d below)
      | inr above ↦ greater_apart o _ k (gap.above i d above inside)
    ]

    pub value_absent : value_at R rows k ≡ None
    value_absent = absent rows k none_anywhere

    pub values_insert_row : (v : V) (q : K) → value_at R (insert rows at (k, v)) q ≡ cond (is_eq (R q k)) (Some v) (value_at R rows q)
    values_insert_row v q = values_insert rows k v at gap.inside none_before_gap q

    module _ (v : V) (d : K × V) where
      key_below : (i : ℕ) → i < at → (get_or (insert rows at (k, v)) i d).0 ≡ (get_or rows i d).0
      key_below i lt = ap (λ (row : K × V). row.0) (get_or-insert_below rows at (k, v) d i lt gap.inside)

      key_here : (i : ℕ) → i ≡ at → (get_or (insert rows at (k, v)) i d).0 ≡ k
      key_here i here = rw here (ap (λ (row : K × V). row.0) (get_or-insert_at rows at (k, v) d gap.inside))

      key_above : (i : ℕ) → at < i → (get_or (insert rows at (k, v)) i d).0 ≡ (get_or rows (i - 1) d).0
      key_above i gt = subst (λ j. (get_or (insert rows at (k, v)) j d).0 ≡ (get_or rows (i - 1) d).0) {x = i - 1 + 1} (omega arith)
          (ap (λ (row : K × V). row.0) (get_or-insert_above rows at (k, v) d (i - 1) (omega arith) gap.inside))

      flipped : (x : K) → R x k ≡ Greater → R k x ≡ Less
      flipped x greater = o.antisymm k x ∙ ap ordering_reverse greater

      -- the row at j is after the new one
      above_gap : IsTable R rows → (i j : ℕ) → i < j → at < j → j - 1 < length rows → (i < at) ⊎ (i ≡ at) ⊎ (at < i)
          → R (get_or (insert rows at (k, v)) i d).0 (get_or (insert rows at (k, v)) j d).0 ≡ Less
      unfolding IsTable
      above_gap sorted i j lt gt inside (inl below) = rw (key_below i below, key_above j gt) (sorted i (j - 1) d (omega arith) inside)
      above_gap sorted i j lt gt inside (inr (inl here)) = rw (key_here i here, key_above j gt) (flipped _ (gap.above (j - 1) d (omega arith) inside))
      above_gap sorted i j lt gt inside (inr (inr above)) = rw (key_above i above, key_above j gt) (sorted (i - 1) (j - 1) d (omega arith) inside)

      by_index : IsTable R rows → (i j : ℕ) → i < j → j < length rows + 1 → (j < at) ⊎ (j ≡ at) ⊎ (at < j)
          → R (get_or (insert rows at (k, v)) i d).0 (get_or (insert rows at (k, v)) j d).0 ≡ Less
      unfolding IsTable
      by_index sorted i j lt inside (inl below) =
          let within = gap.inside in rw (key_below i (omega arith), key_below j below) (sorted i j d lt (omega arith))
      by_index sorted i j lt inside (inr (inl here)) = rw (key_below i (omega arith), key_here j here) (gap.below i d (omega arith))
      by_index sorted i j lt inside (inr (inr above)) = above_gap sorted i j lt above (omega arith) (three i at)

    pub table_insert : IsTable R rows → (v : V) → IsTable R (insert rows at (k, v))
    unfolding IsTable
    table_insert sorted v i j d lt inside =
        by_index v d sorted i j lt (omega (arith, length-insert rows at (k, v) gap.inside)) (three j at)

-- no value isn't some value
pub none_has_value : {V : Type 0} (value : Option V) → value ≡ None → IsSome value → ⊥
none_has_value None none some = cc
none_has_value (Some v) none some = cc
