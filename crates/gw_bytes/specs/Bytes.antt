-- Bytes, and prefixes of lists.
use Rattle.std.specs.Prelude.{◌≡◌, ℕ, ◌<◌, List, ◌++◌}
use Rattle.std.specs.List.{AllByRecursion}

-- each of these numbers is a byte
abbrev pub AreBytes : List ℕ → Type 0
AreBytes bytes = AllByRecursion (λ byte. byte < 256) bytes

-- first is a prefix of whole
abbrev pub IsPrefix : {A : Type 0} → List A → List A → Type 0
IsPrefix {A} first whole = (rest : List A) × (whole ≡ first ++ rest)
