-- The objects of bytes: read in one way, by the grammar, by the function that computes them, and by calls of `next`.
use Rattle.std.proofs.Common.{◌≡◌, ℕ, zero, suc, ◌+◌, ◌<◌, ◌≤◌, List, [], ◌∷◌, ◌++◌, length, Option, Some, None, refl, sym, ap, subst, ◌∙◌, arith, inl, inr}
use Rattle.std.specs.Prelude.{◌↔◌}
use Rattle.std.proofs.lemmas.List.{append_cancel_right, length-append}
use Rattle.zvt_tlv.specs.Grammar.{ObjectValue, SpellsTag, SpellsTlvObject, BeginsWithTlvObject}
use Rattle.zvt_tlv.specs.ObjectsGrammar.{BeginsWithTlvObjects, SpellsTlvObjects, IsMalformedTlvObject, IsEndOfTlvObjects, HasTlvFaultAt}
use Rattle.zvt_tlv.specs.Decode.{decode_tlv_object}
use Rattle.zvt_tlv.specs.ObjectsDecode.{DecodedTlvObjects, with_first_tlv_object, decode_tlv_objects_from, decode_tlv_objects_within, decode_tlv_objects}
use Rattle.zvt_tlv.specs.Reader.{TlvReaderValue, PassesTlvObjects}
use Rattle.zvt_tlv.proofs.DecodeLemmas.{found_object, begins_found, found_begins, none_malformed, malformed_begins}

-- ---- one reading

pub no_proper_prefix : (a b x y : List ℕ) (m n : ObjectValue) → SpellsTlvObject a m → SpellsTlvObject b n → a ++ x ≡ b ++ y → (a ≡ b) × (m ≡ n) × (x ≡ y)
no_proper_prefix a b x y m n first second same =
    let one = begins_found (a ++ x) m x (a, first, refl) in
    let other = begins_found (a ++ x) n y (b, second, same) in
    let both = found_object m n x y (sym one ∙ other) in
    (append_cancel_right a b x (same ∙ ap (λ (t : List ℕ). b ++ t) (sym both.1)), both.0, both.1)

tag_size : (prefix : List ℕ) (tag : ℕ) → SpellsTag prefix tag → 0 < length prefix
tag_size [] tag h = absurd h
tag_size (b ∷ prefix) tag h = omega arith

pub begins_shrinks : (bytes : List ℕ) (object : ObjectValue) (rest : List ℕ) → BeginsWithTlvObject bytes object rest → length rest < length bytes
begins_shrinks bytes object rest (prefix, spells, parts) =
    let some = tag_size spells.tag_bytes object.tag spells.is_tag in
    omega (arith, ap length parts, length-append prefix rest, ap length spells.whole, length-append spells.tag_bytes (spells.length_bytes ++ object.value))

-- an end begins with no object
end_begins : (bytes : List ℕ) (object : ObjectValue) (rest : List ℕ) → IsEndOfTlvObjects bytes → BeginsWithTlvObject bytes object rest → ⊥
end_begins bytes object rest (inl empty) begins =
    let some = begins_shrinks bytes object rest begins in
    omega (arith, ap length empty)
end_begins bytes object rest (inr malformed) begins = malformed_begins bytes object rest malformed begins

pub one_reading : (xs ys : List ObjectValue) (bytes r s : List ℕ) → BeginsWithTlvObjects bytes xs r → IsEndOfTlvObjects r → BeginsWithTlvObjects bytes ys s → IsEndOfTlvObjects s → (xs ≡ ys) × (r ≡ s)
one_reading [] [] bytes r s first ends second stops = (refl, sym first ∙ second)
one_reading [] (y ∷ ys) bytes r s first ends second stops = absurd (end_begins bytes y second.0 (subst IsEndOfTlvObjects (sym first) ends) second.1)
one_reading (x ∷ xs) [] bytes r s first ends second stops = absurd (end_begins bytes x first.0 (subst IsEndOfTlvObjects (sym second) stops) first.1)
one_reading (x ∷ xs) (y ∷ ys) bytes r s (more, begins, splits) ends (after, starts, parts) stops =
    let both = found_object x y more after (sym (begins_found bytes x more begins) ∙ begins_found bytes y after starts) in
    let others = one_reading xs ys more r s splits ends (subst (λ (b : List ℕ). BeginsWithTlvObjects b ys s) (sym both.1) parts) stops in
    (ap (λ (o : ObjectValue). o ∷ xs) both.0 ∙ ap (λ (later : List ObjectValue). y ∷ later) others.0, others.1)

-- ---- enough is enough

found_shrinks : (bytes : List ℕ) (object : ObjectValue) (rest : List ℕ) → decode_tlv_object bytes ≡ Some (object, rest) → length rest < length bytes
found_shrinks bytes object rest e = begins_shrinks bytes object rest (found_begins bytes object rest e)

within_from : (n m : ℕ) (bytes : List ℕ) (found : Option (ObjectValue × List ℕ)) → ((rest : List ℕ) → length rest < length bytes → decode_tlv_objects_within n rest ≡ decode_tlv_objects_within m rest) → decode_tlv_object bytes ≡ found → decode_tlv_objects_from (decode_tlv_objects_within n) bytes found ≡ decode_tlv_objects_from (decode_tlv_objects_within m) bytes found
within_from n m bytes None same e = refl
within_from n m bytes (Some (object, rest)) same e = ap (with_first_tlv_object object) (same rest (found_shrinks bytes object rest e))

nothing_found : decode_tlv_object [] ≡ None
unfolding decode_tlv_object
nothing_found = refl

empty_within : (n : ℕ) → decode_tlv_objects_within n [] ≡ record { objects = []; rest = [] }
unfolding decode_tlv_objects_within
empty_within zero = refl
empty_within (suc n) = rw nothing_found refl

within_enough : (n m : ℕ) (bytes : List ℕ) → length bytes ≤ n → length bytes ≤ m → decode_tlv_objects_within n bytes ≡ decode_tlv_objects_within m bytes
unfolding decode_tlv_objects_within
within_enough zero m [] few less = sym (empty_within m)
within_enough zero m (b ∷ bytes) few less = absurd (omega arith)
within_enough (suc n) zero [] few less = empty_within (suc n)
within_enough (suc n) zero (b ∷ bytes) few less = absurd (omega arith)
within_enough (suc n) (suc m) bytes few less =
    within_from n m bytes (decode_tlv_object bytes) (λ rest shorter. within_enough n m rest (omega arith) (omega arith)) refl

from_is : (n : ℕ) (bytes : List ℕ) → length bytes ≤ suc n → decode_tlv_objects bytes ≡ decode_tlv_objects_from (decode_tlv_objects_within n) bytes (decode_tlv_object bytes)
unfolding decode_tlv_objects decode_tlv_objects_within
from_is n bytes few = within_enough (length bytes) (suc n) bytes (omega arith) few

-- the first object, and the split of what follows it
pub split_whole : (bytes : List ℕ) (object : ObjectValue) (rest : List ℕ) → decode_tlv_object bytes ≡ Some (object, rest) → decode_tlv_objects bytes ≡ with_first_tlv_object object (decode_tlv_objects rest)
unfolding decode_tlv_objects
split_whole bytes object rest e =
    let shorter = found_shrinks bytes object rest e in
    from_is (length bytes) bytes (omega arith) ∙ ap (decode_tlv_objects_from (decode_tlv_objects_within (length bytes)) bytes) e ∙ ap (with_first_tlv_object object) (within_enough (length bytes) (length rest) rest (omega arith) (omega arith))

pub split_none : (bytes : List ℕ) → decode_tlv_object bytes ≡ None → decode_tlv_objects bytes ≡ record { objects = []; rest = bytes }
split_none bytes e = from_is (length bytes) bytes (omega arith) ∙ ap (decode_tlv_objects_from (decode_tlv_objects_within (length bytes)) bytes) e

-- ---- the split is the grammar's

record Ends (bytes : List ℕ) (split : DecodedTlvObjects) : Type 0 where
  splits : BeginsWithTlvObjects bytes split.objects split.rest
  ends : IsEndOfTlvObjects split.rest

nothing_more : (bytes : List ℕ) → decode_tlv_object bytes ≡ None → IsEndOfTlvObjects bytes
nothing_more [] e = inl refl
nothing_more (b ∷ bytes) e = inr (none_malformed (b ∷ bytes) (λ empty. absurd cc) e)

at_prefix : (bytes : List ℕ) (found : Option (ObjectValue × List ℕ)) → decode_tlv_object bytes ≡ found → ((rest : List ℕ) → length rest < length bytes → Ends rest (decode_tlv_objects rest)) → Ends bytes (decode_tlv_objects bytes)
at_prefix bytes None e others = rw (split_none bytes e) (record { splits = refl; ends = nothing_more bytes e })
at_prefix bytes (Some (object, rest)) e others =
    let after = others rest (found_shrinks bytes object rest e) in
    rw (split_whole bytes object rest e) (record { splits = (rest, found_begins bytes object rest e, after.splits); ends = after.ends })

split_ends : (n : ℕ) (bytes : List ℕ) → length bytes ≤ n → Ends bytes (decode_tlv_objects bytes)
split_ends zero bytes few = at_prefix bytes (decode_tlv_object bytes) refl (λ rest shorter. absurd (omega arith))
split_ends (suc n) bytes few = at_prefix bytes (decode_tlv_object bytes) refl (λ rest shorter. split_ends n rest (omega arith))

pub split_is : (bytes : List ℕ) → BeginsWithTlvObjects bytes (decode_tlv_objects bytes).objects (decode_tlv_objects bytes).rest × IsEndOfTlvObjects (decode_tlv_objects bytes).rest
split_is bytes = let all = split_ends (length bytes) bytes (omega arith) in (all.splits, all.ends)

abbrev split : List ObjectValue → List ℕ → DecodedTlvObjects
split objects rest = record { objects = objects; rest = rest }

pub only_split : (bytes : List ℕ) (objects : List ObjectValue) (rest : List ℕ) → BeginsWithTlvObjects bytes objects rest → IsEndOfTlvObjects rest → decode_tlv_objects bytes ≡ record { objects = objects; rest = rest }
only_split bytes objects rest splits ends =
    let all = split_is bytes in
    let same = one_reading (decode_tlv_objects bytes).objects objects bytes (decode_tlv_objects bytes).rest rest all.0 all.1 splits ends in
    ap (λ (xs : List ObjectValue). split xs (decode_tlv_objects bytes).rest) same.0 ∙ ap (split objects) same.1

pub fills_is : (bytes : List ℕ) (objects : List ObjectValue) → SpellsTlvObjects bytes objects ↔ (decode_tlv_objects bytes ≡ record { objects = objects; rest = [] })
fills_is bytes objects = (
  (λ splits. only_split bytes objects [] splits (inl refl)),
  λ is. subst (λ (s : DecodedTlvObjects). BeginsWithTlvObjects bytes s.objects s.rest) is (split_is bytes).0,
)

pub fault_is : (bytes : List ℕ) (offset : ℕ) → HasTlvFaultAt bytes offset ↔ (IsMalformedTlvObject (decode_tlv_objects bytes).rest × (offset + length (decode_tlv_objects bytes).rest ≡ length bytes))
fault_is bytes offset = (
  (λ (objects, rest, splits, malformed, offset_is). let is = only_split bytes objects rest splits (inr malformed) in rw is (malformed, offset_is)),
  λ (malformed, offset_is). ((decode_tlv_objects bytes).objects, (decode_tlv_objects bytes).rest, (split_is bytes).0, malformed, offset_is),
)

-- ---- calls of `next`

pub walk_splits : (objects : List ObjectValue) (old new : TlvReaderValue) → PassesTlvObjects old objects new → BeginsWithTlvObjects old.rest objects new.rest × (new.offset + length new.rest ≡ old.offset + length old.rest)
walk_splits [] old new same = (ap (λ (p : TlvReaderValue). p.rest) (sym same), ap (λ (p : TlvReaderValue). p.offset + length p.rest) same)
walk_splits (object ∷ objects) old new (mid, leaves, walk) =
    let others = walk_splits objects mid new walk in
    ((mid.rest, leaves.begins, others.0), others.1 ∙ leaves.offset)
