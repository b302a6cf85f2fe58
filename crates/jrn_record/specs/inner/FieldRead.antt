-- Inner: what reading a field returns.
use Rattle.std.specs.Prelude.{◌≡◌, ◌≢◌, ℕ, List, Result}
use Rattle.std.specs.Result.{MatchResult}
use Rattle.jrn_record.specs.declared.body_fields.RecordFault.{RecordFault}

-- the value within its limits that the bytes spell, or the field's offset where they spell none
abbrev pub IsFieldRead : {V : Type 0} → Result V RecordFault → ℕ → (V → Type 0) → (V → List ℕ) → List ℕ → Type 0
IsFieldRead {V} result at Within spelling bytes =
    MatchResult result (λ value. Within value × (spelling value ≡ bytes))
    (λ fault. (fault.at ≡ at) × ((value : V) → Within value → spelling value ≢ bytes))
