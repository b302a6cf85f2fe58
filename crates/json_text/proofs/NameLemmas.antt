-- Names that differ.
use Rattle.std.proofs.Common.{◌≡◌, ℕ, Bool, true, false, not, ◌||◌, ◌&&◌, List, [], ◌∷◌, ◌++◌, bytes_eq, nat_eq, refl, sym, ap, ◌∙◌, arith, true≢false}
use Rattle.std.proofs.lemmas.List.{map-append}
use Rattle.std.proofs.lemmas.Bool.Decides.{nat_tests}
use Rattle.json_text.specs.Grammar.{IsNew, AreDistinct}
use Rattle.json_text.specs.MemberNames.{has_name, are_distinct, pair_names}

pub has_name_append : (q : List ℕ) (ns : List (List ℕ)) (k : List ℕ) → has_name q (ns ++ k ∷ []) ≡ (bytes_eq q k || has_name q ns)
has_name_append q [] k = refl
has_name_append q (n ∷ ns) k = ap (λ (b : Bool). bytes_eq q n || b) (has_name_append q ns k) ∙ swap (bytes_eq q n) (bytes_eq q k) (has_name q ns)
  where
    swap : (x y z : Bool) → (x || (y || z)) ≡ (y || (x || z))
    swap true true z = refl
    swap true false z = refl
    swap false true z = refl
    swap false false z = refl

pub names_append : {A : Type 0} (ms : List (List ℕ × A)) (k : List ℕ) (x : A) → pair_names (ms ++ (k, x) ∷ []) ≡ pair_names ms ++ k ∷ []
names_append ms k x = map-append (λ m. m.0) ms ((k, x) ∷ [])

eq_sym : (x y : ℕ) → nat_eq x y ≡ nat_eq y x
eq_sym x y = grind (arith, nat_tests)

pub bytes_eq_sym : (xs ys : List ℕ) → bytes_eq xs ys ≡ bytes_eq ys xs
bytes_eq_sym [] [] = refl
bytes_eq_sym [] (y ∷ ys) = refl
bytes_eq_sym (x ∷ xs) [] = refl
bytes_eq_sym (x ∷ xs) (y ∷ ys) = ap (λ (b : Bool). b && bytes_eq xs ys) (eq_sym x y) ∙ ap (λ (b : Bool). nat_eq y x && b) (bytes_eq_sym xs ys)

-- names that differ, and one that is none of them
pub distinct_append : (ns : List (List ℕ)) (k : List ℕ) → are_distinct ns ≡ true → has_name k ns ≡ false → are_distinct (ns ++ k ∷ []) ≡ true
distinct_append [] k d h = refl
distinct_append (n ∷ ns) k d h = both (has_name n ns) (bytes_eq k n) (has_name k ns) (are_distinct ns) refl refl refl refl d h (λ e f. distinct_append ns k e f)
  where
    both : (a b c e : Bool) → has_name n ns ≡ a → bytes_eq k n ≡ b → has_name k ns ≡ c → are_distinct ns ≡ e → (not a && e) ≡ true → (b || c) ≡ false → (are_distinct ns ≡ true → has_name k ns ≡ false → are_distinct (ns ++ k ∷ []) ≡ true) → (not (has_name n (ns ++ k ∷ [])) && are_distinct (ns ++ k ∷ [])) ≡ true
    both true b c e i j l m f g r = absurd (true≢false (sym f))
    both false b c false i j l m f g r = absurd (true≢false (sym f))
    both false true c true i j l m f g r = absurd (true≢false g)
    both false false true true i j l m f g r = absurd (true≢false g)
    both false false false true i j l m f g r = rw (has_name_append n ns k, bytes_eq_sym n k, i, j, r m l) refl

-- ---- the tests' meaning

eq_refl : (x : ℕ) → nat_eq x x ≡ true
eq_refl x = grind (arith, nat_tests)

bytes_eq_refl : (xs : List ℕ) → bytes_eq xs xs ≡ true
bytes_eq_refl [] = refl
bytes_eq_refl (x ∷ xs) = ap (λ (b : Bool). b && bytes_eq xs xs) (eq_refl x) ∙ bytes_eq_refl xs

neither : (a b : Bool) → (a || b) ≡ false → (a ≡ false) × (b ≡ false)
neither true b e = absurd (true≢false e)
neither false b e = (refl, e)

both_true : (a b : Bool) → (not a && b) ≡ true → (a ≡ false) × (b ≡ true)
both_true true b e = absurd (true≢false (sym e))
both_true false b e = (refl, e)

is_new : (k : List ℕ) (ns : List (List ℕ)) → has_name k ns ≡ false → IsNew k ns
is_new k [] h = tt
is_new k (n ∷ ns) h =
    let p = neither (bytes_eq k n) (has_name k ns) h in
    (λ e. true≢false (sym (bytes_eq_refl k) ∙ ap (bytes_eq k) e ∙ p.0), is_new k ns p.1)

pub are_new : (ns : List (List ℕ)) → are_distinct ns ≡ true → AreDistinct ns
are_new [] h = tt
are_new (n ∷ ns) h = let p = both_true (has_name n ns) (are_distinct ns) h in (is_new n ns p.0, are_new ns p.1)

same_eq : (x y : ℕ) → nat_eq x y ≡ true → x ≡ y
same_eq x y e = grind (arith, nat_tests)

conj : (a b : Bool) → (a && b) ≡ true → (a ≡ true) × (b ≡ true)
conj true b e = (refl, e)
conj false b e = absurd (true≢false (sym e))

bytes_same : (xs ys : List ℕ) → bytes_eq xs ys ≡ true → xs ≡ ys
bytes_same [] [] e = refl
bytes_same [] (y ∷ ys) e = absurd (true≢false (sym e))
bytes_same (x ∷ xs) [] e = absurd (true≢false (sym e))
bytes_same (x ∷ xs) (y ∷ ys) e = let p = conj (nat_eq x y) (bytes_eq xs ys) e in ap (λ (k : ℕ). k ∷ xs) (same_eq x y p.0) ∙ ap (λ (l : List ℕ). y ∷ l) (bytes_same xs ys p.1)

-- a name that is there already never goes with others
pub repeated : (ns : List (List ℕ)) (k : List ℕ) (ms : List (List ℕ)) → has_name k ns ≡ true → AreDistinct (ns ++ k ∷ ms) → ⊥
repeated [] k ms g h = true≢false (sym g)
repeated (n ∷ ns) k ms g h = by (bytes_eq k n) refl g (λ i. repeated ns k ms i h.1)
  where
    there : (xs : List (List ℕ)) → k ≡ n → IsNew n (xs ++ k ∷ ms) → ⊥
    there [] e h = h.0 (sym e)
    there (x ∷ xs) e h = there xs e h.1

    by : (a : Bool) → bytes_eq k n ≡ a → (a || has_name k ns) ≡ true → (has_name k ns ≡ true → ⊥) → ⊥
    by true e i rest = there ns (bytes_same k n e) h.0
    by false e i rest = rest i
