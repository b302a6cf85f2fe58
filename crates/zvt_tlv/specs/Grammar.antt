-- What a TLV object is, and the bytes that spell it (ZVT PA00P015, "TLV container": tag, length, value).
use Rattle.std.specs.Prelude.{◌≡◌, ◌≢◌, ℕ, ◌+◌, ◌*◌, ◌/◌, ◌%◌, ◌<◌, ◌≤◌, List, [], ◌∷◌, ◌++◌, length, nat_lt, if◌then◌else◌}
use Rattle.zvt_tlv.specs.declared.object.Object.{Object}

-- an object without where it lies in memory
pub record ObjectValue : Type 0 where
  pub tag : ℕ
  pub value : List ℕ

-- the object as plain data
abbrev pub value_of : Object → ObjectValue
value_of object = record { tag = object.tag; value = object.value.now }

-- The bytes are a tag, and its number is theirs, the first one highest: where the low five bits of the first byte are
-- all set, further bytes follow while the top bit of the last one is set; three bytes at most.
abbrev pub SpellsTag : List ℕ → ℕ → Type 0
SpellsTag [] tag = ⊥
SpellsTag (b ∷ []) tag = (b % 32 ≢ 31) × (tag ≡ b)
SpellsTag (b ∷ c ∷ []) tag = (b % 32 ≡ 31) × (c < 128) × (tag ≡ c + 256 * b)
SpellsTag (b ∷ c ∷ d ∷ []) tag = (b % 32 ≡ 31) × (128 ≤ c) × (d < 128) × (tag ≡ d + 256 * c + 65536 * b)
SpellsTag (b ∷ c ∷ d ∷ e ∷ more) tag = ⊥

-- The bytes are a length: one byte below 80, or 81 and one byte, or 82 and two bytes, the high one first. The longer
-- forms spell small lengths too.
abbrev pub SpellsTlvLength : List ℕ → ℕ → Type 0
SpellsTlvLength [] n = ⊥
SpellsTlvLength (b ∷ []) n = (b < 128) × (n ≡ b)
SpellsTlvLength (form ∷ b ∷ []) n = (form ≡ 129) × (n ≡ b)
SpellsTlvLength (form ∷ high ∷ low ∷ []) n = (form ≡ 130) × (n ≡ low + 256 * high)
SpellsTlvLength (form ∷ high ∷ low ∷ b ∷ more) n = ⊥

-- the bytes are this object and no more: its tag, the length of its value, its value
pub record SpellsTlvObject (bytes : List ℕ) (object : ObjectValue) : Type 0 where
  pub tag_bytes : List ℕ
  pub length_bytes : List ℕ
  pub is_tag : SpellsTag tag_bytes object.tag
  pub is_length : SpellsTlvLength length_bytes (length object.value)
  pub whole : bytes ≡ tag_bytes ++ (length_bytes ++ object.value)

-- the bytes begin with this length, which takes so many of them
abbrev pub BeginsWithTlvLength : List ℕ → ℕ → ℕ → Type 0
BeginsWithTlvLength bytes n size = (prefix : List ℕ) × (rest : List ℕ) × SpellsTlvLength prefix n × (length prefix ≡ size) × (bytes ≡ prefix ++ rest)

-- the bytes begin with this object, and rest follows it
abbrev pub BeginsWithTlvObject : List ℕ → ObjectValue → List ℕ → Type 0
BeginsWithTlvObject bytes object rest = (prefix : List ℕ) × SpellsTlvObject prefix object × (bytes ≡ prefix ++ rest)

-- the bytes of a number, the highest first, without a leading 0
abbrev pub canonical_tag : ℕ → List ℕ
canonical_tag tag =
    if nat_lt tag 256 then tag ∷ []
    else if nat_lt tag 65536 then (tag / 256) ∷ (tag % 256) ∷ []
    else if nat_lt tag 16777216 then (tag / 65536) ∷ (tag / 256 % 256) ∷ (tag % 256) ∷ []
    else (tag / 16777216) ∷ (tag / 65536 % 256) ∷ (tag / 256 % 256) ∷ (tag % 256) ∷ []

-- the shortest form of a length
abbrev pub canonical_tlv_length : ℕ → List ℕ
canonical_tlv_length n =
    if nat_lt n 128 then n ∷ []
    else if nat_lt n 256 then 129 ∷ n ∷ []
    else 130 ∷ (n / 256) ∷ (n % 256) ∷ []

-- the one written form of an object
abbrev pub canonical_tlv_object : ℕ → List ℕ → List ℕ
canonical_tlv_object tag value = canonical_tag tag ++ (canonical_tlv_length (length value) ++ value)

-- a number that is a tag's
abbrev pub IsTag : ℕ → Type 0
IsTag tag = SpellsTag (canonical_tag tag) tag
