-- What is in a list, and tests of all and of some that are.
use Rattle.std.proofs.Common.{◌≡◌, ◌∙◌, ℕ, Bool, true, false, List, [], ◌∷◌, ◌++◌, refl, sym, ap, inl, inr, cond}
use Rattle.std.proofs.lemmas.Bool.{and_from, and_parts, or_from, or_left, or_parts, or_right}
use Rattle.std.proofs.lemmas.Slice.Eq.{bytes_eq-Decides}
use Rattle.std.specs.Prelude.{◌⊎◌, ◌||◌, bytes_eq, filter, find, Some}
use Rattle.std.specs.List.{list_any, list_all}

-- this is in the list
abbrev pub In : {A : Type 0} → A → List A → Type 0
In x [] = ⊥
In x (y ∷ list) = (x ≡ y) ⊎ In x list

-- ---- tests of all

-- what all pass, each in the list passes
pub all-in : {A : Type 0} (test : A → Bool) (list : List A) → list_all test list ≡ true → (x : A) → In x list → test x ≡ true
all-in test [] e x within = absurd within
all-in test (y ∷ list) e x (inl same) = ap test same ∙ (and_parts (test y) (list_all test list) e).0
all-in test (y ∷ list) e x (inr within) = all-in test list (and_parts (test y) (list_all test list) e).1 x within

-- what each in the list passes, all pass
pub all-from : {A : Type 0} (test : A → Bool) (list : List A) → ((x : A) → In x list → test x ≡ true) → list_all test list ≡ true
all-from test [] each = refl
all-from test (y ∷ list) each = and_from (test y) (list_all test list) (each y (inl refl)) (all-from test list (λ x within. each x (inr within)))

-- ---- tests of some

-- where some pass, one in the list does
pub any-in : {A : Type 0} (test : A → Bool) (list : List A) → list_any test list ≡ true → (x : A) × In x list × (test x ≡ true)
any-in test [] e = cc
any-in {A} test (y ∷ list) e = by (any-in test list) (test y) refl e
  where
    by : (list_any test list ≡ true → (x : A) × In x list × (test x ≡ true)) → (b : Bool) → test y ≡ b → (b || list_any test list) ≡ true → (x : A) × In x (y ∷ list) × (test x ≡ true)
    by more true t f = (y, inl refl, t)
    by more false t f = let found = more f in (found.0, inr found.1, found.2)

-- what one in the list passes, some pass
pub any-from : {A : Type 0} (test : A → Bool) (list : List A) (x : A) → In x list → test x ≡ true → list_any test list ≡ true
any-from test [] x within e = absurd within
any-from test (y ∷ list) x (inl same) e = or_left (test y) (list_any test list) (ap test (sym same) ∙ e)
any-from test (y ∷ list) x (inr within) e = or_right (test y) (list_any test list) (any-from test list x within e)

-- what none passes, each in the list fails
pub none-in : {A : Type 0} (test : A → Bool) (list : List A) → list_any test list ≡ false → (x : A) → In x list → test x ≡ false
none-in test [] e x within = absurd within
none-in test (y ∷ list) e x (inl same) = ap test same ∙ (or_parts (test y) (list_any test list) e).0
none-in test (y ∷ list) e x (inr within) = none-in test list (or_parts (test y) (list_any test list) e).1 x within

-- what each in the list fails, none passes
pub none-from : {A : Type 0} (test : A → Bool) (list : List A) → ((x : A) → In x list → test x ≡ false) → list_any test list ≡ false
none-from test [] each = refl
none-from test (y ∷ list) each = or_from (test y) (list_any test list) (each y (inl refl)) (none-from test list (λ x within. each x (inr within)))

-- ---- lists put together

pub in-first : {A : Type 0} (x : A) (one other : List A) → In x one → In x (one ++ other)
in-first x [] other within = absurd within
in-first x (y ∷ one) other (inl same) = inl same
in-first x (y ∷ one) other (inr within) = inr (in-first x one other within)

pub in-second : {A : Type 0} (x : A) (one other : List A) → In x other → In x (one ++ other)
in-second x [] other within = within
in-second x (y ∷ one) other within = inr (in-second x one other within)

pub in-either : {A : Type 0} (x : A) (one other : List A) → In x (one ++ other) → In x one ⊎ In x other
in-either x [] other within = inr within
in-either x (y ∷ one) other (inl same) = inl (inl same)
in-either {A} x (y ∷ one) other (inr within) = by (in-either x one other within)
  where
    by : In x one ⊎ In x other → In x (y ∷ one) ⊎ In x other
    by (inl first) = inl (inr first)
    by (inr second) = inr second

-- ---- what is found

-- what is left of a list is in it, and passes
pub filter-in : {A : Type 0} (test : A → Bool) (list : List A) (x : A) → In x (filter test list) → In x list × (test x ≡ true)
filter-in test [] x within = absurd within
filter-in {A} test (y ∷ list) x within = by (λ left. let found = filter-in test list x left in (inr found.0, found.1)) (test y) refl within
  where
    first : (In x (filter test list) → In x (y ∷ list) × (test x ≡ true)) → test y ≡ true → In x (y ∷ filter test list) → In x (y ∷ list) × (test x ≡ true)
    first more t (inl same) = (inl same, ap test same ∙ t)
    first more t (inr left) = more left

    by : (In x (filter test list) → In x (y ∷ list) × (test x ≡ true)) → (b : Bool) → test y ≡ b → In x (cond b (y ∷ filter test list) (filter test list)) → In x (y ∷ list) × (test x ≡ true)
    by more true t left = first more t left
    by more false t left = more left

-- what is found is in the list, and passes
pub found-in : {A : Type 0} (test : A → Bool) (list : List A) (x : A) → find test list ≡ Some x → In x list × (test x ≡ true)
found-in test [] x e = cc
found-in {A} test (y ∷ list) x e = by (found-in test list x) (test y) refl e
  where
    by : (find test list ≡ Some x → In x list × (test x ≡ true)) → (b : Bool) → test y ≡ b → cond b (Some y) (find test list) ≡ Some x → In x (y ∷ list) × (test x ≡ true)
    by more true t f = let same : x ≡ y = cc in (inl same, ap test same ∙ t)
    by more false t f = let found = more f in (inr found.0, found.1)

-- ---- texts

-- texts that pass for equal are
pub bytes-are : (a b : List ℕ) → bytes_eq a b ≡ true → a ≡ b
bytes-are a b e = (bytes_eq-Decides a b).0 e

-- a text passes for equal to itself
pub bytes-itself : (a : List ℕ) → bytes_eq a a ≡ true
bytes-itself a = (bytes_eq-Decides a a).1 refl
