-- The objects of bytes, as a function that computes them.
use Rattle.std.specs.Prelude.{ℕ, zero, suc, List, [], ◌∷◌, length, Option, None, Some}
use Rattle.zvt_tlv.specs.Grammar.{ObjectValue}
use Rattle.zvt_tlv.specs.Decode.{decode_tlv_object}

-- objects one after another, and what is left from the first on that is malformed
pub record DecodedTlvObjects : Type 0 where
  pub objects : List ObjectValue
  pub rest : List ℕ

-- with one more object before them
abbrev pub with_first_tlv_object : ObjectValue → DecodedTlvObjects → DecodedTlvObjects
with_first_tlv_object object split = record { objects = object ∷ split.objects; rest = split.rest }

-- the first object, and after it what more gives
abbrev pub decode_tlv_objects_from : (List ℕ → DecodedTlvObjects) → List ℕ → Option (ObjectValue × List ℕ) → DecodedTlvObjects
decode_tlv_objects_from more bytes None = record { objects = []; rest = bytes }
decode_tlv_objects_from more bytes (Some object) = with_first_tlv_object object.0 (more object.1)

-- at most so many objects
unfoldable pub decode_tlv_objects_within : ℕ → List ℕ → DecodedTlvObjects
decode_tlv_objects_within zero bytes = record { objects = []; rest = bytes }
decode_tlv_objects_within (suc n) bytes = decode_tlv_objects_from (decode_tlv_objects_within n) bytes (decode_tlv_object bytes)

-- all of them: there are no more than bytes
unfoldable pub decode_tlv_objects : List ℕ → DecodedTlvObjects
decode_tlv_objects bytes = decode_tlv_objects_within (length bytes) bytes
