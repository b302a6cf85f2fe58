-- A block to print: its container, the objects in it, and its lines (ZVT PA00P015, "Print Text-Block").
use Rattle.std.specs.Prelude.{◌≡◌, ℕ, ◌+◌, ◌⊎◌, List, [], ◌∷◌, ◌++◌, length, take, ◌==◌, if◌then◌else◌}
use Rattle.zvt_tlv.specs.Grammar.{ObjectValue, SpellsTlvObject, BeginsWithTlvObject}
use Rattle.zvt_tlv.specs.ObjectsGrammar.{BeginsWithTlvObjects, SpellsTlvObjects, IsMalformedTlvObject}

-- the tag of a block's container
abbrev pub container_tag : ℕ
container_tag = 0x06

-- the tag of an object of the container that holds lines
abbrev pub text_tag : ℕ
text_tag = 0x25

-- the tag of a line
abbrev pub line_tag : ℕ
line_tag = 0x07

-- ---- a container, and what is well-formed in it

-- the data are one container and no more, and these bytes are its value
abbrev pub SpellsContainer : List ℕ → List ℕ → Type 0
SpellsContainer apdu_data bytes = SpellsTlvObject apdu_data (record { tag = container_tag; value = bytes })

-- where the object holds lines, objects fill it
abbrev pub IsWellFormedInside : ObjectValue → Type 0
IsWellFormedInside object = object.tag ≡ text_tag → (inner : List ObjectValue) × SpellsTlvObjects object.value inner

-- each of the objects is well-formed inside too
abbrev pub AreWellFormedInside : List ObjectValue → Type 0
AreWellFormedInside [] = Unit {0}
AreWellFormedInside (object ∷ objects) = IsWellFormedInside object × AreWellFormedInside objects

-- the bytes are objects and no more, each well-formed inside too
abbrev pub AreWholeObjects : List ℕ → Type 0
AreWholeObjects bytes = (objects : List ObjectValue) × SpellsTlvObjects bytes objects × AreWellFormedInside objects

-- the data are a container of whole objects
abbrev pub SpellsBlock : List ℕ → List ℕ → Type 0
SpellsBlock apdu_data bytes = SpellsContainer apdu_data bytes × AreWholeObjects bytes

-- ---- the first object that is malformed

-- the bytes begin with one that is, and so many bytes are left from it on
abbrev pub IsMalformedHere : List ℕ → ℕ → Type 0
IsMalformedHere rest left = IsMalformedTlvObject rest × (left ≡ length rest)

-- inside of the object that the bytes begin with is one that is, and so many bytes are left from it on
abbrev pub IsMalformedInside : List ℕ → ℕ → Type 0
IsMalformedInside rest left = (object : ObjectValue) × (after : List ℕ) × (inner : List ObjectValue) × (broken : List ℕ)
    × BeginsWithTlvObject rest object after × (object.tag ≡ text_tag)
    × BeginsWithTlvObjects object.value inner broken × IsMalformedTlvObject broken × (left ≡ length broken + length after)

-- after well-formed objects comes the first that is malformed, or one that has it inside, with so many bytes left from it on
abbrev pub IsMalformedWith : List ℕ → ℕ → Type 0
IsMalformedWith bytes left = (before : List ObjectValue) × (rest : List ℕ)
    × BeginsWithTlvObjects bytes before rest × AreWellFormedInside before × (IsMalformedHere rest left ⊎ IsMalformedInside rest left)

-- the data are no container, or the first malformed object in it is at this offset of the data
abbrev pub IsBlockFault : List ℕ → ℕ → Type 0
IsBlockFault apdu_data offset = ((offset ≡ 0) × ((bytes : List ℕ) → ¬ SpellsContainer apdu_data bytes))
    ⊎ ((bytes : List ℕ) × (left : ℕ) × SpellsContainer apdu_data bytes × IsMalformedWith bytes left × (offset + left ≡ length apdu_data))

-- ---- lines

-- the most lines of a block that are given
abbrev pub most_block_lines : ℕ
most_block_lines = 400

-- the values of the objects with this tag, in order
abbrev pub values_with_tag : ℕ → List ObjectValue → List (List ℕ)
values_with_tag tag [] = []
values_with_tag tag (object ∷ objects) = if object.tag == tag then object.value ∷ values_with_tag tag objects else values_with_tag tag objects

-- the lines inside of these values, each of which objects fill, in order
abbrev pub HaveBlockLines : List (List ℕ) → List (List ℕ) → Type 0
HaveBlockLines [] lines = lines ≡ []
HaveBlockLines (value ∷ values) lines = (inner : List ObjectValue) × (others : List (List ℕ))
    × SpellsTlvObjects value inner × HaveBlockLines values others × (lines ≡ values_with_tag line_tag inner ++ others)

-- the lines of a block that are given: the first so many of them all
abbrev pub AreBlockLines : List ℕ → List (List ℕ) → Type 0
AreBlockLines bytes lines = (objects : List ObjectValue) × (all : List (List ℕ))
    × SpellsTlvObjects bytes objects × HaveBlockLines (values_with_tag text_tag objects) all × (lines ≡ take most_block_lines all)
