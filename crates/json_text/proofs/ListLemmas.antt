-- Heads, tails and lengths of lists.
use Rattle.std.proofs.Common.{◌≡◌, ℕ, List, [], ◌∷◌, Option, Some, None}

pub head_is : (a c : ℕ) (x y : List ℕ) → a ∷ x ≡ c ∷ y → a ≡ c
head_is a c x y e = cc

pub tail_is : (a c : ℕ) (x y : List ℕ) → a ∷ x ≡ c ∷ y → x ≡ y
tail_is a c x y e = cc

pub not_nil : (c : ℕ) (x : List ℕ) → [] ≡ c ∷ x → ⊥
not_nil c x e = absurd cc

pub some_is : (x y : ℕ) → Some x ≡ Some y → x ≡ y
some_is x y e = cc

abbrev nothing : Option ℕ
nothing = None

pub none_is : (x : ℕ) → nothing ≡ Some x → ⊥
none_is x e = absurd cc
