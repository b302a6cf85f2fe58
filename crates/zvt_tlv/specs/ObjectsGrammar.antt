-- The objects that fill bytes, or the offset of the first that is malformed.
use Rattle.std.specs.Prelude.{◌≡◌, ◌≢◌, ℕ, ◌+◌, ◌%◌, ◌<◌, ◌≤◌, ◌⊎◌, List, [], ◌∷◌, ◌++◌, length}
use Rattle.zvt_tlv.specs.Grammar.{ObjectValue, SpellsTag, SpellsTlvObject, BeginsWithTlvObject}

-- the bytes are these objects, one after another, and then the rest
abbrev pub BeginsWithTlvObjects : List ℕ → List ObjectValue → List ℕ → Type 0
BeginsWithTlvObjects bytes [] rest = bytes ≡ rest
BeginsWithTlvObjects bytes (object ∷ objects) rest = (more : List ℕ) × BeginsWithTlvObject bytes object more × BeginsWithTlvObjects more objects rest

-- the bytes, at least one, are less than an object: with some more of them they are one
abbrev pub IsTruncatedTlvObject : List ℕ → Type 0
IsTruncatedTlvObject bytes = (bytes ≢ []) × (more : List ℕ) × (object : ObjectValue) × (more ≢ []) × SpellsTlvObject (bytes ++ more) object

-- the bytes begin with three bytes of a tag, and the third says that another follows
abbrev pub HasLongTag : List ℕ → Type 0
HasLongTag bytes = (b : ℕ) × (c : ℕ) × (d : ℕ) × (more : List ℕ)
    × (b % 32 ≡ 31) × (128 ≤ c) × (128 ≤ d) × (bytes ≡ b ∷ c ∷ d ∷ more)

-- a tag is followed by 80 or by a byte above 82
abbrev pub HasBadTlvLength : List ℕ → Type 0
HasBadTlvLength bytes = (prefix : List ℕ) × (tag : ℕ) × (form : ℕ) × (more : List ℕ)
    × SpellsTag prefix tag × ((form ≡ 128) ⊎ (130 < form)) × (bytes ≡ prefix ++ form ∷ more)

-- the bytes begin with something else than an object
abbrev pub IsMalformedTlvObject : List ℕ → Type 0
IsMalformedTlvObject bytes = IsTruncatedTlvObject bytes ⊎ (HasLongTag bytes ⊎ HasBadTlvLength bytes)

-- the bytes are these objects and no more
abbrev pub SpellsTlvObjects : List ℕ → List ObjectValue → Type 0
SpellsTlvObjects bytes objects = BeginsWithTlvObjects bytes objects []

-- at this offset, after well-formed objects, begins the first that is malformed
abbrev pub HasTlvFaultAt : List ℕ → ℕ → Type 0
HasTlvFaultAt bytes offset = (objects : List ObjectValue) × (rest : List ℕ)
    × BeginsWithTlvObjects bytes objects rest × IsMalformedTlvObject rest × (offset + length rest ≡ length bytes)

-- no object follows: nothing does, or what does is malformed
abbrev pub IsEndOfTlvObjects : List ℕ → Type 0
IsEndOfTlvObjects rest = (rest ≡ []) ⊎ IsMalformedTlvObject rest
