-- What bytes begin with, as functions that compute it. Each gives what it read and the bytes after it.
use Rattle.std.specs.Prelude.{ℕ, ◌+◌, ◌*◌, ◌%◌, List, [], ◌∷◌, length, take, drop, Option, None, Some, nat_lt, ◌==◌, if◌then◌else◌}
use Rattle.zvt_tlv.specs.Grammar.{ObjectValue}

-- a third byte is the last
abbrev pub decode_third_tag_byte : ℕ → ℕ → List ℕ → Option (ℕ × List ℕ)
decode_third_tag_byte b c [] = None
decode_third_tag_byte b c (d ∷ bytes) = if nat_lt d 128 then Some (d + 256 * c + 65536 * b, bytes) else None

-- a second byte is the last unless its top bit is set
abbrev pub decode_second_tag_byte : ℕ → List ℕ → Option (ℕ × List ℕ)
decode_second_tag_byte b [] = None
decode_second_tag_byte b (c ∷ bytes) = if nat_lt c 128 then Some (c + 256 * b, bytes) else decode_third_tag_byte b c bytes

-- the number of the tag that the bytes begin with
abbrev pub decode_tag : List ℕ → Option (ℕ × List ℕ)
decode_tag [] = None
decode_tag (b ∷ bytes) = if b % 32 == 31 then decode_second_tag_byte b bytes else Some (b, bytes)

-- the length in one byte, after 81
abbrev pub decode_one_byte_length : List ℕ → Option (ℕ × List ℕ)
decode_one_byte_length [] = None
decode_one_byte_length (b ∷ bytes) = Some (b, bytes)

-- the length in two bytes, after 82, the high one first
abbrev pub decode_two_byte_length : List ℕ → Option (ℕ × List ℕ)
decode_two_byte_length [] = None
decode_two_byte_length (high ∷ []) = None
decode_two_byte_length (high ∷ low ∷ bytes) = Some (low + 256 * high, bytes)

-- the length that the bytes begin with, in any of its forms
abbrev pub decode_tlv_length : List ℕ → Option (ℕ × List ℕ)
decode_tlv_length [] = None
decode_tlv_length (b ∷ bytes) =
    if nat_lt b 128 then Some (b, bytes)
    else if b == 129 then decode_one_byte_length bytes
    else if b == 130 then decode_two_byte_length bytes
    else None

-- after the header, a value of that length
abbrev pub decode_tlv_value : ℕ → ℕ → List ℕ → Option (ObjectValue × List ℕ)
decode_tlv_value tag n bytes =
    if nat_lt (length bytes) n then None else Some (record { tag = tag; value = take n bytes }, drop n bytes)

-- after a tag and a length that were read, the value
abbrev pub decode_after_tlv_length : ℕ → Option (ℕ × List ℕ) → Option (ObjectValue × List ℕ)
decode_after_tlv_length tag None = None
decode_after_tlv_length tag (Some length) = decode_tlv_value tag length.0 length.1

-- after a tag that was read, the length and the value
abbrev pub decode_after_tag : Option (ℕ × List ℕ) → Option (ObjectValue × List ℕ)
decode_after_tag None = None
decode_after_tag (Some tag) = decode_after_tlv_length tag.0 (decode_tlv_length tag.1)

-- the object that the bytes begin with; none where they begin with no whole well-formed one
unfoldable pub decode_tlv_object : List ℕ → Option (ObjectValue × List ℕ)
decode_tlv_object bytes = decode_after_tag (decode_tag bytes)
