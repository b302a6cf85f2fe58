-- The functions that compute a block agree with its definition.
use Rattle.std.proofs.Common.{◌≡◌, ℕ, zero, suc, ◌+◌, ◌-◌, ◌<◌, ◌≤◌, Bool, true, false, cond, eqb, List, [], ◌∷◌, ◌++◌, length, Option, Some, None, Result, Ok, Err, inl, inr, refl, sym, ap, subst, ◌∙◌, arith}
use Rattle.std.specs.Prelude.{◌⊎◌, ◌&&◌, ◌==◌}
use Rattle.std.proofs.lemmas.Bool.{cases_eq, eq-eqb, ne_eqb, eqb-true, and_parts}
use Rattle.std.proofs.lemmas.List.{append-nil}
use Rattle.zvt_tlv.specs.declared.fault.TlvFault.{TlvFault}
use Rattle.zvt_tlv.specs.Grammar.{ObjectValue, SpellsTlvObject, BeginsWithTlvObject}
use Rattle.zvt_tlv.specs.ObjectsGrammar.{BeginsWithTlvObjects, SpellsTlvObjects, IsMalformedTlvObject, IsEndOfTlvObjects}
use Rattle.zvt_tlv.specs.Decode.{decode_tlv_object}
use Rattle.zvt_tlv.specs.ObjectsDecode.{DecodedTlvObjects, decode_tlv_objects}
use Rattle.zvt_tlv.proofs.DecodeLemmas.{begins_found, found_begins, none_malformed, malformed_none, malformed_some}
use Rattle.zvt_tlv.proofs.ObjectsDecodeLemmas.{begins_shrinks, split_is, only_split, fills_is}
use Rattle.zvt_msg.specs.BlockGrammar.{container_tag, text_tag, SpellsContainer, IsWellFormedInside, AreWellFormedInside, AreWholeObjects, SpellsBlock, IsMalformedHere, IsMalformedInside, IsMalformedWith, IsBlockFault}
use Rattle.zvt_msg.specs.BlockDecode.{container_value, decode_container, left_inside, bytes_left, decode_in_container, decode_block}
use Rattle.zvt_msg.proofs.BytesLeftLemmas.{value_shrinks, nothing, left_ends, left_goes_on, left_stops}

-- ---- the container

nil_of_length : {A : Type 0} (xs : List A) → length xs ≡ 0 → xs ≡ []
nil_of_length [] e = refl
nil_of_length (x ∷ xs) e = absurd (omega arith)

abbrev container : List ℕ → ObjectValue
container bytes = record { tag = container_tag; value = bytes }

container_found : (apdu_data bytes : List ℕ) → SpellsContainer apdu_data bytes → decode_container apdu_data ≡ Some bytes
container_found apdu_data bytes spells =
    ap container_value (begins_found apdu_data (container bytes) [] (apdu_data, spells, sym (append-nil apdu_data)))

abbrev some_of : List ℕ → Option (List ℕ)
some_of bytes = Some bytes

some_of_is : (x y : List ℕ) → some_of x ≡ some_of y → x ≡ y
some_of_is x y e = cc

container_by : (apdu_data bytes : List ℕ) (object : ObjectValue) (rest : List ℕ) (test : Bool) → ((object.tag == container_tag) && (length rest == 0)) ≡ test → cond test (some_of object.value) None ≡ some_of bytes → BeginsWithTlvObject apdu_data object rest → SpellsContainer apdu_data bytes
container_by apdu_data bytes object rest false is e begins = absurd cc
container_by apdu_data bytes object rest true is e (prefix, spells, parts) =
    let tests = and_parts (eqb object.tag container_tag) (eqb (length rest) 0) is in
    let empty = nil_of_length rest (eqb-true _ _ tests.1) in
    let whole : apdu_data ≡ prefix = parts ∙ ap (λ (r : List ℕ). prefix ++ r) empty ∙ append-nil prefix in
    let tag : object.tag ≡ container_tag = eqb-true _ _ tests.0 in
    let same : object ≡ container bytes = ap (λ (t : ℕ). record { tag = t; value = object.value }) tag ∙ ap container (some_of_is object.value bytes e) in
    subst (λ (b : List ℕ). SpellsTlvObject b (container bytes)) (sym whole) (subst (SpellsTlvObject prefix) same spells)

container_at : (apdu_data bytes : List ℕ) (found : Option (ObjectValue × List ℕ)) → decode_tlv_object apdu_data ≡ found → container_value found ≡ some_of bytes → SpellsContainer apdu_data bytes
container_at apdu_data bytes None is e = absurd cc
container_at apdu_data bytes (Some (object, rest)) is e =
    container_by apdu_data bytes object rest _ refl e (found_begins apdu_data object rest is)

found_container : (apdu_data bytes : List ℕ) → decode_container apdu_data ≡ Some bytes → SpellsContainer apdu_data bytes
found_container apdu_data bytes e = container_at apdu_data bytes (decode_tlv_object apdu_data) refl e

container_shorter : (apdu_data bytes : List ℕ) → SpellsContainer apdu_data bytes → length bytes < length apdu_data
container_shorter apdu_data bytes spells =
    omega (arith, value_shrinks apdu_data (container bytes) [] (apdu_data, spells, sym (append-nil apdu_data)))

-- ---- what is well-formed inside of an object

well_formed_with : (object : ObjectValue) → (object.tag ≡ text_tag) ⊎ (object.tag ≡ text_tag → ⊥) → IsWellFormedInside object → left_inside object ≡ 0
well_formed_with object (inl is) well_formed =
    let inner = well_formed is in
    rw (eq-eqb object.tag text_tag is) (ap (λ (s : DecodedTlvObjects). length s.rest) ((fills_is object.value inner.0).0 inner.1))
well_formed_with object (inr other) well_formed = rw (ne_eqb object.tag text_tag other) refl

well_formed_zero : (object : ObjectValue) → IsWellFormedInside object → left_inside object ≡ 0
well_formed_zero object well_formed = well_formed_with object (cases_eq object.tag text_tag) well_formed

abbrev split : List ObjectValue → List ℕ → DecodedTlvObjects
split objects rest = record { objects = objects; rest = rest }

filled_at : (value : List ℕ) → length (decode_tlv_objects value).rest ≡ 0 → SpellsTlvObjects value (decode_tlv_objects value).objects
filled_at value e = subst (BeginsWithTlvObjects value (decode_tlv_objects value).objects) (nil_of_length _ e) (split_is value).0

zero_well_formed : (object : ObjectValue) → left_inside object ≡ 0 → IsWellFormedInside object
zero_well_formed object e is = ((decode_tlv_objects object.value).objects, filled_at object.value (rw (eq-eqb object.tag text_tag is) at e))

ends_malformed : (rest : List ℕ) → IsEndOfTlvObjects rest → 0 < length rest → IsMalformedTlvObject rest
ends_malformed rest (inl empty) some = absurd (omega (arith, ap length empty))
ends_malformed rest (inr malformed) some = malformed

stops_with : (bytes : List ℕ) (object : ObjectValue) (rest : List ℕ) → BeginsWithTlvObject bytes object rest → (object.tag ≡ text_tag) ⊎ (object.tag ≡ text_tag → ⊥) → 0 < left_inside object → IsMalformedInside bytes (left_inside object + length rest)
stops_with bytes object rest begins (inl is) some =
    let left : left_inside object ≡ length (decode_tlv_objects object.value).rest = rw (eq-eqb object.tag text_tag is) refl in
    let parts = split_is object.value in
    (object, rest, (decode_tlv_objects object.value).objects, (decode_tlv_objects object.value).rest, begins, is, parts.0, ends_malformed _ parts.1 (omega (arith, left)), ap (λ (n : ℕ). n + length rest) left)
stops_with bytes object rest begins (inr other) some =
    let none : left_inside object ≡ 0 = rw (ne_eqb object.tag text_tag other) refl in
    absurd (omega (arith, none))

-- ---- the first malformed object

abbrev LeftOf : List ℕ → ℕ → Type 0
LeftOf bytes left = ((left ≡ 0) × AreWholeObjects bytes) ⊎ ((0 < left) × IsMalformedWith bytes left)

left_here : (bytes : List ℕ) → decode_tlv_object bytes ≡ None → LeftOf bytes (bytes_left bytes)
left_here [] e = inl (left_ends [] e, ([], refl, tt))
left_here (b ∷ bytes) e =
    let ends = left_ends (b ∷ bytes) e in
    let malformed = none_malformed (b ∷ bytes) (λ empty. absurd cc) e in
    inr (omega (arith, ends), ([], b ∷ bytes, refl, tt, inl (malformed, ends)))

left_more : (bytes : List ℕ) (object : ObjectValue) (rest : List ℕ) (left : ℕ) → BeginsWithTlvObject bytes object rest → IsWellFormedInside object → LeftOf rest left → LeftOf bytes left
left_more bytes object rest left begins well_formed (inl (none, (objects, fills, others))) =
    inl (none, (object ∷ objects, (rest, begins, fills), (well_formed, others)))
left_more bytes object rest left begins well_formed (inr (some, (before, last, splits, others, stops))) =
    inr (some, (object ∷ before, last, (rest, begins, splits), (well_formed, others), stops))

left_by : (bytes : List ℕ) (object : ObjectValue) (rest : List ℕ) → decode_tlv_object bytes ≡ Some (object, rest) → (left_inside object ≡ 0) ⊎ (left_inside object ≡ 0 → ⊥) → LeftOf rest (bytes_left rest) → LeftOf bytes (bytes_left bytes)
left_by bytes object rest e (inl none) others =
    rw (left_goes_on bytes object rest e none) (left_more bytes object rest (bytes_left rest) (found_begins bytes object rest e) (zero_well_formed object none) others)
left_by bytes object rest e (inr some) others =
    let more : 0 < left_inside object = omega (arith, some) in
    let inside = stops_with bytes object rest (found_begins bytes object rest e) (cases_eq object.tag text_tag) more in
    rw (left_stops bytes object rest e more) (inr (omega (arith, more), ([], bytes, refl, tt, inr inside)))

left_at : (bytes : List ℕ) (found : Option (ObjectValue × List ℕ)) → decode_tlv_object bytes ≡ found → ((rest : List ℕ) → length rest < length bytes → LeftOf rest (bytes_left rest)) → LeftOf bytes (bytes_left bytes)
left_at bytes None e others = left_here bytes e
left_at bytes (Some (object, rest)) e others =
    left_by bytes object rest e (cases_eq (left_inside object) 0) (others rest (begins_shrinks bytes object rest (found_begins bytes object rest e)))

left_within : (n : ℕ) (bytes : List ℕ) → length bytes ≤ n → LeftOf bytes (bytes_left bytes)
left_within zero bytes few = left_at bytes (decode_tlv_object bytes) refl (λ rest shorter. absurd (omega arith))
left_within (suc n) bytes few = left_at bytes (decode_tlv_object bytes) refl (λ rest shorter. left_within n rest (omega arith))

left_is : (bytes : List ℕ) → LeftOf bytes (bytes_left bytes)
left_is bytes = left_within (length bytes) bytes (omega arith)

-- ---- and no other is

whole_fills : (objects : List ObjectValue) (bytes : List ℕ) → SpellsTlvObjects bytes objects → AreWellFormedInside objects → bytes_left bytes ≡ 0
whole_fills [] bytes fills well_formed = ap bytes_left fills ∙ left_ends [] nothing
whole_fills (object ∷ objects) bytes (rest, begins, fills) well_formed =
    left_goes_on bytes object rest (begins_found bytes object rest begins) (well_formed_zero object well_formed.0) ∙ whole_fills objects rest fills well_formed.1

pub whole_zero : (bytes : List ℕ) → AreWholeObjects bytes → bytes_left bytes ≡ 0
whole_zero bytes (objects, fills, well_formed) = whole_fills objects bytes fills well_formed

some_bytes : (bytes : List ℕ) → IsMalformedTlvObject bytes → 0 < length bytes
some_bytes [] malformed = absurd (malformed_some [] malformed refl)
some_bytes (b ∷ bytes) malformed = omega arith

stops_here : (bytes : List ℕ) (left : ℕ) → IsMalformedHere bytes left ⊎ IsMalformedInside bytes left → bytes_left bytes ≡ left
stops_here bytes left (inl (malformed, is)) = left_ends bytes (malformed_none bytes (decode_tlv_object bytes) malformed refl) ∙ sym is
stops_here bytes left (inr (object, after, inner, broken, begins, tag, splits, malformed, is)) =
    let same : decode_tlv_objects object.value ≡ split inner broken = only_split object.value inner broken splits (inr malformed) in
    let inside : left_inside object ≡ length broken = rw (eq-eqb object.tag text_tag tag) (ap (λ (s : DecodedTlvObjects). length s.rest) same) in
    left_stops bytes object after (begins_found bytes object after begins) (omega (arith, inside, some_bytes broken malformed))
    ∙ ap (λ (n : ℕ). n + length after) inside ∙ sym is

stops_after : (before : List ObjectValue) (bytes rest : List ℕ) (left : ℕ) → BeginsWithTlvObjects bytes before rest → AreWellFormedInside before → IsMalformedHere rest left ⊎ IsMalformedInside rest left → bytes_left bytes ≡ left
stops_after [] bytes rest left splits well_formed stops = ap bytes_left splits ∙ stops_here rest left stops
stops_after (object ∷ before) bytes rest left (more, begins, splits) well_formed stops =
    left_goes_on bytes object more (begins_found bytes object more begins) (well_formed_zero object well_formed.0) ∙ stops_after before more rest left splits well_formed.1 stops

stops_left : (bytes : List ℕ) (left : ℕ) → IsMalformedWith bytes left → bytes_left bytes ≡ left
stops_left bytes left (before, rest, splits, well_formed, stops) = stops_after before bytes rest left splits well_formed stops

-- ---- how many bytes these are

splits_shorter : (objects : List ObjectValue) (bytes rest : List ℕ) → BeginsWithTlvObjects bytes objects rest → length rest ≤ length bytes
splits_shorter [] bytes rest splits = omega (arith, ap length splits)
splits_shorter (object ∷ objects) bytes rest (more, begins, splits) =
    omega (arith, begins_shrinks bytes object more begins, splits_shorter objects more rest splits)

stop_size : (rest : List ℕ) (left : ℕ) → IsMalformedHere rest left ⊎ IsMalformedInside rest left → (0 < left) × (left ≤ length rest)
stop_size rest left (inl (malformed, is)) = let some = some_bytes rest malformed in (omega arith, omega arith)
stop_size rest left (inr (object, after, inner, broken, begins, tag, splits, malformed, is)) =
    let some = some_bytes broken malformed in
    let within = splits_shorter inner object.value broken splits in
    let shorter = value_shrinks rest object after begins in
    (omega arith, omega arith)

stops_size : (bytes : List ℕ) (left : ℕ) → IsMalformedWith bytes left → (0 < left) × (left ≤ length bytes)
stops_size bytes left (before, rest, splits, well_formed, stops) =
    let size = stop_size rest left stops in
    let shorter = splits_shorter before bytes rest splits in
    (size.0, omega (arith, size.1))

-- ---- a block

-- what the data are, by what is computed of them
abbrev pub BlockIs : List ℕ → Result (List ℕ) TlvFault → Type 0
BlockIs apdu_data (Ok bytes) = SpellsBlock apdu_data bytes
BlockIs apdu_data (Err fault) = IsBlockFault apdu_data fault.at

block_left : (apdu_data bytes : List ℕ) → SpellsContainer apdu_data bytes → LeftOf bytes (bytes_left bytes) → BlockIs apdu_data (decode_in_container (length apdu_data) (some_of bytes))
block_left apdu_data bytes is (inl (none, whole)) = rw none (is, whole)
block_left apdu_data bytes is (inr (some, stops)) =
    let test : eqb (bytes_left bytes) 0 ≡ false = ne_eqb _ _ (λ e. omega (arith, some)) in
    let size = stops_size bytes (bytes_left bytes) stops in
    let offset : (length apdu_data - bytes_left bytes) + bytes_left bytes ≡ length apdu_data = omega (arith, size.1, container_shorter apdu_data bytes is) in
    rw test (inr (bytes, bytes_left bytes, is, stops, offset))

block_by : (apdu_data : List ℕ) (found : Option (List ℕ)) → decode_container apdu_data ≡ found → BlockIs apdu_data (decode_in_container (length apdu_data) found)
block_by apdu_data None e = inl (refl, λ bytes is. let some = container_found apdu_data bytes is in cc (some, e))
block_by apdu_data (Some bytes) e = block_left apdu_data bytes (found_container apdu_data bytes e) (left_is bytes)

pub block_is : (apdu_data : List ℕ) → BlockIs apdu_data (decode_block apdu_data)
block_is apdu_data = block_by apdu_data (decode_container apdu_data) refl

pub only_block : (apdu_data bytes : List ℕ) → SpellsBlock apdu_data bytes → decode_block apdu_data ≡ Ok bytes
only_block apdu_data bytes (is, whole) =
    ap (decode_in_container (length apdu_data)) (container_found apdu_data bytes is) ∙ rw (whole_zero bytes whole) refl

none_contained : (apdu_data : List ℕ) (found : Option (List ℕ)) → decode_container apdu_data ≡ found → ((bytes : List ℕ) → SpellsContainer apdu_data bytes → ⊥) → found ≡ None
none_contained apdu_data None e none = refl
none_contained apdu_data (Some bytes) e none = absurd (none bytes (found_container apdu_data bytes e))

abbrev fault_at : ℕ → TlvFault
fault_at offset = record { at = offset }

pub only_block_fault : (apdu_data : List ℕ) (fault : TlvFault) → IsBlockFault apdu_data fault.at → decode_block apdu_data ≡ Err fault
only_block_fault apdu_data fault (inl (is, none)) =
    ap (decode_in_container (length apdu_data)) (none_contained apdu_data (decode_container apdu_data) refl none) ∙ ap (λ (offset : ℕ). Err (fault_at offset)) (sym is)
only_block_fault apdu_data fault (inr (bytes, left, is, stops, offset)) =
    let same = stops_left bytes left stops in
    let size = stops_size bytes left stops in
    let test : eqb left 0 ≡ false = ne_eqb _ _ (λ e. omega (arith, size.0)) in
    ap (decode_in_container (length apdu_data)) (container_found apdu_data bytes is) ∙ rw (same, test) (ap (λ (offset : ℕ). Err (fault_at offset)) (omega (arith, offset)))
