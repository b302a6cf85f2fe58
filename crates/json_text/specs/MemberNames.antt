-- Inner: the names of an object's members, as a test computes with them.
use Rattle.std.specs.Prelude.{ℕ, List, [], ◌∷◌, Bool, true, false, not, ◌&&◌, ◌||◌, bytes_eq, map}

-- whether the name is among these
abbrev pub has_name : List ℕ → List (List ℕ) → Bool
has_name k [] = false
has_name k (n ∷ ns) = bytes_eq k n || has_name k ns

-- whether no two of these names are equal
abbrev pub are_distinct : List (List ℕ) → Bool
are_distinct [] = true
are_distinct (n ∷ ns) = not (has_name n ns) && are_distinct ns

-- the names of these members
abbrev pub pair_names : {A : Type 0} → List (List ℕ × A) → List (List ℕ)
pair_names ms = map (λ m. m.0) ms
