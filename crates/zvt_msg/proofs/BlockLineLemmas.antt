-- The lines of a block: by calls that read them, by the function that computes them, and by the definition.
use Rattle.std.proofs.Common.{◌≡◌, ℕ, List, [], ◌∷◌, ◌++◌, take, Some, None, inl, inr, refl, sym, ap, subst, ◌∙◌}
use Rattle.std.proofs.lemmas.Bool.{cases_eq, eq-eqb, ne_eqb}
use Rattle.std.specs.Prelude.{◌⊎◌}
use Rattle.zvt_tlv.specs.Grammar.{ObjectValue}
use Rattle.zvt_tlv.specs.ObjectsGrammar.{SpellsTlvObjects}
use Rattle.zvt_tlv.specs.Decode.{decode_tlv_object}
use Rattle.zvt_tlv.specs.ObjectsDecode.{DecodedTlvObjects}
use Rattle.zvt_tlv.specs.Reader.{TlvReaderValue}
use Rattle.zvt_tlv.proofs.ObjectsDecodeLemmas.{split_whole, split_none, fills_is}
use Rattle.zvt_msg.specs.BlockGrammar.{text_tag, line_tag, most_block_lines, values_with_tag, IsWellFormedInside, AreWellFormedInside, AreWholeObjects, HaveBlockLines, AreBlockLines}
use Rattle.zvt_msg.specs.BlockDecode.{decode_values_with_tag, all_block_lines, block_lines_from, decode_block_lines}

-- ---- the values of the objects with a tag

pub value_found : (tag : ℕ) (bytes : List ℕ) (object : ObjectValue) (rest : List ℕ) → decode_tlv_object bytes ≡ Some (object, rest) → object.tag ≡ tag → decode_values_with_tag tag bytes ≡ object.value ∷ decode_values_with_tag tag rest
unfolding decode_values_with_tag
value_found tag bytes object rest e is = ap (λ (s : DecodedTlvObjects). values_with_tag tag s.objects) (split_whole bytes object rest e) ∙ rw (eq-eqb object.tag tag is) refl

pub value_passed : (tag : ℕ) (bytes : List ℕ) (object : ObjectValue) (rest : List ℕ) → decode_tlv_object bytes ≡ Some (object, rest) → (object.tag ≡ tag → ⊥) → decode_values_with_tag tag bytes ≡ decode_values_with_tag tag rest
unfolding decode_values_with_tag
value_passed tag bytes object rest e other = ap (λ (s : DecodedTlvObjects). values_with_tag tag s.objects) (split_whole bytes object rest e) ∙ rw (ne_eqb object.tag tag other) refl

pub values_end : (tag : ℕ) (bytes : List ℕ) → decode_tlv_object bytes ≡ None → decode_values_with_tag tag bytes ≡ []
unfolding decode_values_with_tag
values_end tag bytes e = ap (λ (s : DecodedTlvObjects). values_with_tag tag s.objects) (split_none bytes e)

-- objects that fill the bytes have these values
values_filled : (tag : ℕ) (bytes : List ℕ) (objects : List ObjectValue) → SpellsTlvObjects bytes objects → decode_values_with_tag tag bytes ≡ values_with_tag tag objects
unfolding decode_values_with_tag
values_filled tag bytes objects fills = ap (λ (s : DecodedTlvObjects). values_with_tag tag s.objects) ((fills_is bytes objects).0 fills)

-- ---- lines

pub line_found : (line lines others objects : List ℕ) → decode_values_with_tag line_tag lines ≡ line ∷ decode_values_with_tag line_tag others → block_lines_from lines objects ≡ line ∷ block_lines_from others objects
line_found line lines others objects e = ap (λ (prefix : List (List ℕ)). prefix ++ all_block_lines (decode_values_with_tag text_tag objects)) e

-- where the lines of one value are over, those of the next follow
pub lines_go_on : (lines value objects others : List ℕ) → decode_values_with_tag line_tag lines ≡ [] → decode_values_with_tag text_tag objects ≡ value ∷ decode_values_with_tag text_tag others → block_lines_from lines objects ≡ block_lines_from value others
lines_go_on lines value objects others none e =
    ap (λ (prefix : List (List ℕ)). prefix ++ all_block_lines (decode_values_with_tag text_tag objects)) none ∙ ap all_block_lines e

pub lines_end : (lines objects : List ℕ) → decode_values_with_tag line_tag lines ≡ [] → decode_values_with_tag text_tag objects ≡ [] → block_lines_from lines objects ≡ []
lines_end lines objects none over = ap (λ (prefix : List (List ℕ)). prefix ++ all_block_lines (decode_values_with_tag text_tag objects)) none ∙ ap all_block_lines over

no_values : decode_values_with_tag line_tag [] ≡ []
no_values = values_filled line_tag [] [] refl

pub lines_begin : (objects : List ℕ) → block_lines_from [] objects ≡ all_block_lines (decode_values_with_tag text_tag objects)
lines_begin objects = ap (λ (prefix : List (List ℕ)). prefix ++ all_block_lines (decode_values_with_tag text_tag objects)) no_values

-- ---- and by the definition

have_with : (object : ObjectValue) (objects : List ObjectValue) → (object.tag ≡ text_tag) ⊎ (object.tag ≡ text_tag → ⊥) → IsWellFormedInside object → HaveBlockLines (values_with_tag text_tag objects) (all_block_lines (values_with_tag text_tag objects)) → HaveBlockLines (values_with_tag text_tag (object ∷ objects)) (all_block_lines (values_with_tag text_tag (object ∷ objects)))
have_with object objects (inl is) well_formed others =
    let inner = well_formed is in
    let e = values_filled line_tag object.value inner.0 inner.1 in
    rw is (inner.0, all_block_lines (values_with_tag text_tag objects), inner.1, others, ap (λ (prefix : List (List ℕ)). prefix ++ all_block_lines (values_with_tag text_tag objects)) e)
have_with object objects (inr other) well_formed others = rw (ne_eqb object.tag text_tag other) others

have_lines : (objects : List ObjectValue) → AreWellFormedInside objects → HaveBlockLines (values_with_tag text_tag objects) (all_block_lines (values_with_tag text_tag objects))
have_lines [] well_formed = refl
have_lines (object ∷ objects) well_formed = have_with object objects (cases_eq object.tag text_tag) well_formed.0 (have_lines objects well_formed.1)

-- the lines that are computed of a whole block are its lines
pub are_lines : (bytes : List ℕ) → AreWholeObjects bytes → AreBlockLines bytes (decode_block_lines bytes)
are_lines bytes (objects, fills, well_formed) =
    let e = values_filled text_tag bytes objects fills in
    (objects, all_block_lines (values_with_tag text_tag objects), fills, have_lines objects well_formed, ap (λ (values : List (List ℕ)). take most_block_lines (all_block_lines values)) e)

only_have : (values lines : List (List ℕ)) → HaveBlockLines values lines → lines ≡ all_block_lines values
only_have [] lines is = is
only_have (value ∷ values) lines (inner, others, fills, have, is) =
    is ∙ ap (λ (prefix : List (List ℕ)). prefix ++ others) (sym (values_filled line_tag value inner fills)) ∙ ap (λ (more : List (List ℕ)). decode_values_with_tag line_tag value ++ more) (only_have values others have)

-- and no others are
pub only_lines : (bytes : List ℕ) (lines : List (List ℕ)) → AreBlockLines bytes lines → lines ≡ decode_block_lines bytes
only_lines bytes lines (objects, all, fills, have, is) =
    is ∙ ap (take most_block_lines) (only_have (values_with_tag text_tag objects) all have ∙ ap all_block_lines (sym (values_filled text_tag bytes objects fills)))

-- ---- a new reader of lines

pub lines_over : (block : List ℕ) (objects lines : TlvReaderValue) → objects ≡ record { offset = 0; rest = block } → lines ≡ record { offset = 0; rest = [] } → take most_block_lines (block_lines_from lines.rest objects.rest) ≡ decode_block_lines block
lines_over block objects lines over empty =
    ap (λ (p : TlvReaderValue). take most_block_lines (block_lines_from p.rest objects.rest)) empty
    ∙ ap (λ (p : TlvReaderValue). take most_block_lines (block_lines_from [] p.rest)) over
    ∙ ap (take most_block_lines) (lines_begin block)

pub are_lines_over : (block : List ℕ) (lines : List (List ℕ)) → lines ≡ decode_block_lines block → AreWholeObjects block → AreBlockLines block lines
are_lines_over block lines is whole = subst (AreBlockLines block) (sym is) (are_lines block whole)
