-- What a reader of objects returns, and how many bytes are left from the first malformed object on.
use Rattle.std.proofs.Common.{◌≡◌, ℕ, zero, suc, ◌+◌, ◌<◌, ◌≤◌, List, [], ◌∷◌, ◌++◌, length, Option, Some, None, Ok, refl, sym, ap, ◌∙◌, arith}
use Rattle.std.proofs.lemmas.Bool.{ne_eqb}
use Rattle.std.proofs.lemmas.List.{length-append}
use Rattle.zvt_tlv.specs.declared.object.Object.{Object}
use Rattle.zvt_tlv.specs.Grammar.{ObjectValue, SpellsTag, BeginsWithTlvObject}
use Rattle.zvt_tlv.specs.Decode.{decode_tlv_object}
use Rattle.zvt_tlv.specs.Reader.{TlvReaderValue, ReturnsTlvObject, LeavesTlvReader}
use Rattle.zvt_tlv.proofs.DecodeLemmas.{begins_found, found_begins}
use Rattle.zvt_tlv.proofs.ObjectsDecodeLemmas.{begins_shrinks}
use Rattle.zvt_msg.specs.BlockDecode.{left_inside, bytes_left_from, bytes_left_within, bytes_left}
use Rattle.zvt_msg.specs.inner.Results.{ReturnsNextTlvObject}

-- ---- a call of `next`

tag_size : (prefix : List ℕ) (tag : ℕ) → SpellsTag prefix tag → 0 < length prefix
tag_size [] tag h = absurd h
tag_size (b ∷ prefix) tag h = omega arith

-- an object takes more bytes than its value has
pub value_shrinks : (bytes : List ℕ) (object : ObjectValue) (rest : List ℕ) → BeginsWithTlvObject bytes object rest → length object.value + length rest < length bytes
value_shrinks bytes object rest (prefix, spells, parts) =
    let some = tag_size spells.tag_bytes object.tag spells.is_tag in
    omega (arith, ap length parts, length-append prefix rest, ap length spells.whole, length-append spells.tag_bytes (spells.length_bytes ++ object.value), length-append spells.length_bytes object.value)

nothing_at : (found : Option (ObjectValue × List ℕ)) → decode_tlv_object [] ≡ found → found ≡ None
nothing_at None e = refl
nothing_at (Some (object, rest)) e = absurd (omega (arith, begins_shrinks [] object rest (found_begins [] object rest e)))

pub nothing : decode_tlv_object [] ≡ None
nothing = nothing_at (decode_tlv_object []) refl

pub finds_object : (old new : TlvReaderValue) (found : Option Object) → ReturnsTlvObject (Ok found) old → LeavesTlvReader old (Ok found) new → ReturnsNextTlvObject old found new
finds_object old new None empty stays = (ap decode_tlv_object empty ∙ nothing, stays)
finds_object old new (Some object) same leaves = record {
  found = begins_found old.rest _ new.rest leaves.begins;
  offset = leaves.offset;
  shorter = value_shrinks old.rest _ new.rest leaves.begins;
}

-- ---- how many bytes are left

from_ends : (n m : ℕ) (bytes : List ℕ) (found : Option (ObjectValue × List ℕ)) → decode_tlv_object bytes ≡ found → ((rest : List ℕ) → length rest < length bytes → bytes_left_within n rest ≡ bytes_left_within m rest) → bytes_left_from (bytes_left_within n) bytes found ≡ bytes_left_from (bytes_left_within m) bytes found
from_ends n m bytes None e same = refl
from_ends n m bytes (Some (object, rest)) e same =
    let s = same rest (begins_shrinks bytes object rest (found_begins bytes object rest e)) in
    rw s refl

empty_within : (n : ℕ) → bytes_left_within n [] ≡ 0
unfolding bytes_left_within
empty_within zero = refl
empty_within (suc n) = rw nothing refl

-- enough is enough
within_enough : (n m : ℕ) (bytes : List ℕ) → length bytes ≤ n → length bytes ≤ m → bytes_left_within n bytes ≡ bytes_left_within m bytes
unfolding bytes_left_within
within_enough zero m [] few less = sym (empty_within m)
within_enough zero m (b ∷ bytes) few less = absurd (omega arith)
within_enough (suc n) zero [] few less = empty_within (suc n)
within_enough (suc n) zero (b ∷ bytes) few less = absurd (omega arith)
within_enough (suc n) (suc m) bytes few less =
    from_ends n m bytes (decode_tlv_object bytes) refl (λ rest shorter. within_enough n m rest (omega arith) (omega arith))

from_is : (n : ℕ) (bytes : List ℕ) → length bytes ≤ suc n → bytes_left bytes ≡ bytes_left_from (bytes_left_within n) bytes (decode_tlv_object bytes)
unfolding bytes_left bytes_left_within
from_is n bytes few = within_enough (length bytes) (suc n) bytes (omega arith) few

pub left_ends : (bytes : List ℕ) → decode_tlv_object bytes ≡ None → bytes_left bytes ≡ length bytes
left_ends bytes e = from_is (length bytes) bytes (omega arith) ∙ ap (bytes_left_from (bytes_left_within (length bytes)) bytes) e

-- after an object in which none is malformed, what is left of the bytes after it
pub left_goes_on : (bytes : List ℕ) (object : ObjectValue) (rest : List ℕ) → decode_tlv_object bytes ≡ Some (object, rest) → left_inside object ≡ 0 → bytes_left bytes ≡ bytes_left rest
unfolding bytes_left
left_goes_on bytes object rest e none =
    let shorter = begins_shrinks bytes object rest (found_begins bytes object rest e) in
    from_is (length bytes) bytes (omega arith) ∙ ap (bytes_left_from (bytes_left_within (length bytes)) bytes) e ∙ rw none (within_enough (length bytes) (length rest) rest (omega arith) (omega arith))

-- an object in which one is malformed
pub left_stops : (bytes : List ℕ) (object : ObjectValue) (rest : List ℕ) → decode_tlv_object bytes ≡ Some (object, rest) → 0 < left_inside object → bytes_left bytes ≡ left_inside object + length rest
left_stops bytes object rest e some =
    from_is (length bytes) bytes (omega arith) ∙ ap (bytes_left_from (bytes_left_within (length bytes)) bytes) e ∙ rw (ne_eqb (left_inside object) 0 (λ is. omega arith)) refl
