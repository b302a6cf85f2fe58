-- What a block is, as functions that compute it.
use Rattle.std.specs.Prelude.{ℕ, zero, suc, ◌+◌, ◌-◌, List, [], ◌∷◌, ◌++◌, length, take, Option, None, Some, Result, Ok, Err, ◌&&◌, ◌==◌, if◌then◌else◌}
use Rattle.zvt_tlv.specs.declared.fault.TlvFault.{TlvFault}
use Rattle.zvt_tlv.specs.Grammar.{ObjectValue}
use Rattle.zvt_tlv.specs.Decode.{decode_tlv_object}
use Rattle.zvt_tlv.specs.ObjectsDecode.{decode_tlv_objects}
use Rattle.zvt_msg.specs.BlockGrammar.{container_tag, text_tag, line_tag, most_block_lines, values_with_tag}

-- the value of a container that nothing follows
abbrev pub container_value : Option (ObjectValue × List ℕ) → Option (List ℕ)
container_value None = None
container_value (Some found) = if (found.0.tag == container_tag) && (length found.1 == 0) then Some found.0.value else None

-- the bytes in the container, where the data are one
abbrev pub decode_container : List ℕ → Option (List ℕ)
decode_container apdu_data = container_value (decode_tlv_object apdu_data)

-- ---- how many bytes are left from the first malformed object on: 0 where there is none

-- inside of one object, which holds lines or none
abbrev pub left_inside : ObjectValue → ℕ
left_inside object = if object.tag == text_tag then length (decode_tlv_objects object.value).rest else 0

-- with the first object, and what more gives for the bytes after it
abbrev pub bytes_left_from : (List ℕ → ℕ) → List ℕ → Option (ObjectValue × List ℕ) → ℕ
bytes_left_from more bytes None = length bytes
bytes_left_from more bytes (Some found) = if left_inside found.0 == 0 then more found.1 else left_inside found.0 + length found.1

-- among so many objects at most
unfoldable pub bytes_left_within : ℕ → List ℕ → ℕ
bytes_left_within zero bytes = length bytes
bytes_left_within (suc n) bytes = bytes_left_from (bytes_left_within n) bytes (decode_tlv_object bytes)

-- among all of them: there are no more than bytes
unfoldable pub bytes_left : List ℕ → ℕ
bytes_left bytes = bytes_left_within (length bytes) bytes

-- ---- a block

-- the bytes of the container, or the offset of the fault in data of this length
abbrev pub decode_in_container : ℕ → Option (List ℕ) → Result (List ℕ) TlvFault
decode_in_container size None = Err (record { at = 0 })
decode_in_container size (Some bytes) = if bytes_left bytes == 0 then Ok bytes else Err (record { at = size - bytes_left bytes })

-- the objects of a block, or the offset of its fault
abbrev pub decode_block : List ℕ → Result (List ℕ) TlvFault
decode_block apdu_data = decode_in_container (length apdu_data) (decode_container apdu_data)

-- ---- its lines

-- the values of the objects with this tag, up to the first malformed object
unfoldable pub decode_values_with_tag : ℕ → List ℕ → List (List ℕ)
decode_values_with_tag tag bytes = values_with_tag tag (decode_tlv_objects bytes).objects

-- the lines inside of these values
abbrev pub all_block_lines : List (List ℕ) → List (List ℕ)
all_block_lines [] = []
all_block_lines (value ∷ values) = decode_values_with_tag line_tag value ++ all_block_lines values

-- those that follow in these values: of the lines of one, and then of the values after it
abbrev pub block_lines_from : List ℕ → List ℕ → List (List ℕ)
block_lines_from lines objects = decode_values_with_tag line_tag lines ++ all_block_lines (decode_values_with_tag text_tag objects)

-- the first so many of the lines
abbrev pub decode_block_lines : List ℕ → List (List ℕ)
decode_block_lines bytes = take most_block_lines (all_block_lines (decode_values_with_tag text_tag bytes))
