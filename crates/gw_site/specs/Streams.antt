-- What a source gives and a sink takes.
use Rattle.std.specs.Prelude.{◌≡◌, ℕ, List, [], ◌++◌, take, Option, Some, Result, Ok, Err}
use Rattle.gw_bytes.specs.Bytes.{IsPrefix}

-- a read gives a prefix of what is left and leaves the rest, a failed one leaves all
abbrev pub TakesFrom : {E : Type 0} → Option (List ℕ) → Option (List ℕ) → List ℕ → Result ℕ E → Type 0
TakesFrom old new buf (Ok count) = (left : List ℕ) → old ≡ Some left → (rest : List ℕ) × (new ≡ Some rest) × (left ≡ take count buf ++ rest)
TakesFrom old new buf (Err failed) = (left : List ℕ) → old ≡ Some left → new ≡ Some left

-- a read that gives nothing says that nothing is left
abbrev pub EndsAt : {E : Type 0} → Option (List ℕ) → Result ℕ E → Type 0
EndsAt old (Ok count) = count ≡ 0 → (left : List ℕ) → old ≡ Some left → left ≡ []
EndsAt old (Err failed) = Unit {0}

-- a write adds its bytes to what was written, a failed one a prefix of them
abbrev pub AddsTo : {E : Type 0} → Option (List ℕ) → Option (List ℕ) → List ℕ → Result (Unit {0}) E → Type 0
AddsTo old new bytes (Ok done) = (written : List ℕ) → old ≡ Some written → new ≡ Some (written ++ bytes)
AddsTo old new bytes (Err failed) = (written : List ℕ) → old ≡ Some written → (part : List ℕ) × IsPrefix part bytes × (new ≡ Some (written ++ part))
