-- Lists: filtering a list by a field of its elements, or without an element that is rejected, and setting one element twice.
use Rattle.std.proofs.Common.{◌≡◌, ℕ, zero, suc, List, [], ◌∷◌, refl, ap, sym, ◌∙◌}
use Rattle.std.specs.Prelude.{Bool, true, false, map, filter, if◌then◌else◌, set, slice_index_or}
use Rattle.std.specs.List.{remove}
use Rattle.std.proofs.lemmas.List.{set-set}

-- to filter by a test of the field and to take the fields is the same in either order
pub map_filter : {A B : Type 0} (f : A → B) (test : B → Bool) (xs : List A) → map f (filter (λ x. test (f x)) xs) ≡ filter test (map f xs)
map_filter f test [] = refl
map_filter f test (x ∷ xs) = by_test (test (f x)) (map_filter f test xs)
  where
    by_test : (b : Bool) → map f (filter (λ y. test (f y)) xs) ≡ filter test (map f xs) → map f (if b then x ∷ filter (λ y. test (f y)) xs else filter (λ y. test (f y)) xs) ≡ (if b then f x ∷ filter test (map f xs) else filter test (map f xs))
    by_test true e = ap (λ ys. f x ∷ ys) e
    by_test false e = e

-- to remove an element that a test rejects changes nothing of what it accepts
pub filter_removed : {A : Type 0} (test : A → Bool) (xs : List A) (i : ℕ) (x : A) → x ≡ slice_index_or xs i x → test x ≡ false → filter test (remove xs i) ≡ filter test xs
filter_removed test [] zero x e rejected = refl
filter_removed test [] (suc i) x e rejected = refl
filter_removed test (y ∷ ys) zero x e rejected = ap (λ accepts. if accepts then y ∷ filter test ys else filter test ys) (sym (ap test (sym e) ∙ rejected))
filter_removed test (y ∷ ys) (suc i) x e rejected = ap (λ zs. if test y then y ∷ zs else zs) (filter_removed test ys i x e rejected)

-- of two settings of one element the second is what counts
pub set_again : {A : Type 0} (xs : List A) (i : ℕ) (a b : A) → set (set xs i a) i b ≡ set xs i b
set_again xs i a b = set-set xs i a b
