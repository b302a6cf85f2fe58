-- What an APDU is, and the bytes that spell it (ZVT PA00P015, "APDU": class, instruction, length, data).
use Rattle.std.specs.Prelude.{◌≡◌, ◌≢◌, ℕ, ◌+◌, ◌*◌, ◌/◌, ◌%◌, ◌<◌, ◌≤◌, ◌⊎◌, List, [], ◌∷◌, ◌++◌, length, nat_lt, if◌then◌else◌}
use Rattle.zvt_apdu.specs.declared.apdu.Apdu.{Apdu}

-- an APDU without where it lies in memory
pub record ApduValue : Type 0 where
  pub class : ℕ
  pub instr : ℕ
  pub body : List ℕ

-- the APDU as plain data
abbrev pub value_of : Apdu → ApduValue
value_of apdu = record { class = apdu.class; instr = apdu.instr; body = apdu.body.now }

-- the longest data that this profile takes from a terminal
abbrev pub longest_apdu_data : ℕ
longest_apdu_data = 12000

-- the short form of a length below 255: one byte
abbrev pub short_length : ℕ → List ℕ
short_length n = n ∷ []

-- the long form: FF and two bytes, the low one first
abbrev pub long_length : ℕ → ℕ → List ℕ
long_length low high = 255 ∷ low ∷ high ∷ []

-- The bytes are a length. The long form spells every length, also one below 255.
abbrev pub SpellsApduLength : List ℕ → ℕ → Type 0
SpellsApduLength bytes n = ((n < 255) × (bytes ≡ short_length n))
    ⊎ ((low : ℕ) × (high : ℕ) × (n ≡ low + 256 * high) × (bytes ≡ long_length low high))

-- the bytes are this APDU and no more: class, instruction, the length of its data in either form, its data
pub record SpellsApdu (bytes : List ℕ) (apdu : ApduValue) : Type 0 where
  pub length_bytes : List ℕ
  pub is_length : SpellsApduLength length_bytes (length apdu.body)
  pub within : length apdu.body ≤ longest_apdu_data
  pub whole : bytes ≡ apdu.class ∷ apdu.instr ∷ (length_bytes ++ apdu.body)

-- the bytes begin with this APDU, and rest follows it
abbrev pub BeginsWithApdu : List ℕ → ApduValue → List ℕ → Type 0
BeginsWithApdu bytes apdu rest = (prefix : List ℕ) × SpellsApdu prefix apdu × (bytes ≡ prefix ++ rest)

-- the bytes, perhaps none, are less than an APDU: with some more of them they are one
abbrev pub IsProperApduPrefix : List ℕ → Type 0
IsProperApduPrefix bytes = (more : List ℕ) × (apdu : ApduValue) × (more ≢ []) × SpellsApdu (bytes ++ more) apdu

-- the bytes begin with a header whose length, read whole, is above the limit
abbrev pub BeginsTooLongApdu : List ℕ → ℕ → Type 0
BeginsTooLongApdu bytes n = (class : ℕ) × (instr : ℕ) × (length_bytes : List ℕ) × (more : List ℕ)
    × SpellsApduLength length_bytes n × (longest_apdu_data < n) × (bytes ≡ class ∷ instr ∷ (length_bytes ++ more))

-- the form that is written: a length below 255 is one byte, every other one FF and two bytes
abbrev pub canonical_apdu_length : ℕ → List ℕ
canonical_apdu_length n = if nat_lt n 255 then short_length n else long_length (n % 256) (n / 256)

-- the one written form of an APDU
abbrev pub canonical_apdu : ℕ → ℕ → List ℕ → List ℕ
canonical_apdu class instr apdu_data = class ∷ instr ∷ (canonical_apdu_length (length apdu_data) ++ apdu_data)
