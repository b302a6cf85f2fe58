-- What the code that reads the beginning of bytes returns, as plain data.
use Rattle.std.specs.Prelude.{◌≡◌, ℕ, List, length, drop, Option, Some, None}
use Rattle.zvt_tlv.specs.declared.object.Object.{Object}
use Rattle.zvt_tlv.specs.Grammar.{ObjectValue, value_of}
use denote.Ref.{Bor}

-- Inner: the result is this tag, and these bytes after it
abbrev pub ReturnsTag : Option (ℕ × Bor (List ℕ)) → Option (ℕ × List ℕ) → Type 0
ReturnsTag None decoded = decoded ≡ None
ReturnsTag (Some tag) decoded = decoded ≡ Some (tag.0, tag.1.now)

-- the result is this length, and the number of bytes that it takes itself
abbrev pub ReturnsTlvLength : List ℕ → Option (ℕ × ℕ) → Option (ℕ × List ℕ) → Type 0
ReturnsTlvLength bytes None decoded = decoded ≡ None
ReturnsTlvLength bytes (Some length) decoded = (decoded ≡ Some (length.0, drop length.1 bytes))

-- Inner: the result is this object, and these bytes after it
abbrev pub ReturnsFirstTlvObject : Option (Object × Bor (List ℕ)) → Option (ObjectValue × List ℕ) → Type 0
ReturnsFirstTlvObject None decoded = decoded ≡ None
ReturnsFirstTlvObject (Some object) decoded = decoded ≡ Some (value_of object.0, object.1.now)
