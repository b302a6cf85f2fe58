-- The APDUs of a stream, and the steps of a reader of it.
use Rattle.std.specs.Prelude.{◌≡◌, ℕ, ◌⊎◌, List, [], ◌∷◌, ◌++◌}
use Rattle.gw_bytes.specs.Chunks.{Step, Fed, Gave, Incomplete, Refused}
use Rattle.zvt_apdu.specs.Grammar.{ApduValue, BeginsWithApdu, IsProperApduPrefix, BeginsTooLongApdu}

-- the bytes are these APDUs, one after another, and then the rest
abbrev pub BeginsWithApdus : List ℕ → List ApduValue → List ℕ → Type 0
BeginsWithApdus bytes [] rest = bytes ≡ rest
BeginsWithApdus bytes (apdu ∷ apdus) rest = (more : List ℕ) × BeginsWithApdu bytes apdu more × BeginsWithApdus more apdus rest

-- nothing more can be read: less than an APDU is left, or a header with a length above the limit
abbrev pub IsEndOfApdus : List ℕ → Type 0
IsEndOfApdus rest = IsProperApduPrefix rest ⊎ ((n : ℕ) × BeginsTooLongApdu rest n)

-- the bytes are these APDUs and no others
pub record SpellsApdus (bytes : List ℕ) (apdus : List ApduValue) (rest : List ℕ) : Type 0 where
  pub splits : BeginsWithApdus bytes apdus rest
  pub ends : IsEndOfApdus rest

-- a step of a reader of APDUs; a refusal has the length that is too great
abbrev pub ApduStep : Type 0
ApduStep = Step ApduValue ℕ

-- from the bytes that wait, the step may leave these waiting
abbrev pub TakesApdu : List ℕ → ApduStep → List ℕ → Type 0
TakesApdu waiting (Fed chunk) left = left ≡ waiting ++ chunk
TakesApdu waiting (Gave apdu) left = BeginsWithApdu waiting apdu left
TakesApdu waiting Incomplete left = IsProperApduPrefix waiting × (left ≡ waiting)
TakesApdu waiting (Refused length) left = BeginsTooLongApdu waiting length × (left ≡ waiting)
