-- The clauses of the public calls, by the functions that decode bytes.
use Rattle.std.proofs.Common.{◌≡◌, ℕ, ◌+◌, ◌-◌, ◌≤◌, List, [], length, drop, Option, Some, None, Result, Ok, Err, refl, sym, ap, subst, ◌∙◌, arith}
use Rattle.std.specs.Prelude.{◌↔◌, IsNone, IfSome}
use Rattle.std.proofs.lemmas.List.{length-append, length-drop}
use Rattle.zvt_tlv.specs.declared.object.Object.{Object}
use Rattle.zvt_tlv.specs.declared.fault.TlvFault.{TlvFault}
use Rattle.zvt_tlv.specs.Grammar.{ObjectValue, value_of, BeginsWithTlvLength, BeginsWithTlvObject}
use Rattle.zvt_tlv.specs.ObjectsGrammar.{IsMalformedTlvObject}
use Rattle.zvt_tlv.specs.Decode.{decode_tlv_length, decode_tlv_object}
use Rattle.zvt_tlv.specs.Results.{ReturnsTlvLength}
use Rattle.zvt_tlv.specs.Reader.{TlvReaderValue, IsTlvObject, ReturnsTlvObject, PassesTlvObject}
use Rattle.zvt_tlv.proofs.DecodeLemmas.{some_of_is, found_number, found_object, length_found, length_read, begins_found, found_begins, none_malformed, malformed_none, malformed_some}

-- ---- a length

-- a length that is read takes as many bytes as are not left
has_length : (bytes : List ℕ) (n size : ℕ) → size ≤ length bytes → decode_tlv_length bytes ≡ Some (n, drop size bytes) → BeginsWithTlvLength bytes n size
has_length bytes n size within found =
    let l = length_read bytes n (drop size bytes) found in
    (l.prefix, drop size bytes, l.is_length, omega (arith, ap length l.parts, length-append l.prefix (drop size bytes), length-drop size bytes), l.parts)

length_is : (bytes : List ℕ) (n size m k : ℕ) → k ≤ length bytes → decode_tlv_length bytes ≡ Some (m, drop k bytes) → BeginsWithTlvLength bytes n size → (m ≡ n) × (k ≡ size)
length_is bytes n size m k within found (prefix, rest, is_length, count, parts) =
    let again : decode_tlv_length bytes ≡ Some (n, rest) = ap decode_tlv_length parts ∙ length_found prefix n rest is_length in
    let both = found_number m n (drop k bytes) rest (sym found ∙ again) in
    (both.0, omega (arith, ap length parts, ap length both.1, length-append prefix rest, length-drop k bytes))

pub length_some : (bytes : List ℕ) (result : Option (ℕ × ℕ)) → IfSome result (λ found. found.1 ≤ length bytes) → ReturnsTlvLength bytes result (decode_tlv_length bytes) → (n size : ℕ) → (result ≡ Some (n, size)) ↔ BeginsWithTlvLength bytes n size
length_some bytes None within found n size =
    ((λ e. absurd cc), λ (prefix, rest, is_length, count, parts). let again : decode_tlv_length bytes ≡ Some (n, rest) = ap decode_tlv_length parts ∙ length_found prefix n rest is_length in absurd (cc (found, again)))
length_some bytes (Some (m, k)) within found n size = (
  (λ e. let pair = some_of_is {A = ℕ × ℕ} (m, k) (n, size) e in subst (λ (p : ℕ × ℕ). BeginsWithTlvLength bytes p.0 p.1) pair (has_length bytes m k within found)),
  λ has. let same = length_is bytes n size m k within found has in ap (λ (a : ℕ). Some (a, k)) same.0 ∙ ap (λ (b : ℕ). Some (n, b)) same.1,
)

pub length_none : (bytes : List ℕ) (result : Option (ℕ × ℕ)) → IfSome result (λ found. found.1 ≤ length bytes) → ReturnsTlvLength bytes result (decode_tlv_length bytes) → IsNone result ↔ ((n size : ℕ) → BeginsWithTlvLength bytes n size → ⊥)
length_none bytes None within found = ((λ _ n size (prefix, rest, is_length, count, parts). let again : decode_tlv_length bytes ≡ Some (n, rest) = ap decode_tlv_length parts ∙ length_found prefix n rest is_length in cc (found, again)), λ _. refl)
length_none bytes (Some (m, k)) within found = ((λ h. absurd cc), λ none. absurd (none m k (has_length bytes m k within found)))

-- ---- an object

nothing : decode_tlv_object [] ≡ None
unfolding decode_tlv_object
nothing = refl

pub whole_clause : (old : TlvReaderValue) (result : Result (Option Object) TlvFault) → ReturnsTlvObject result old → (object : ObjectValue) → IsTlvObject result object ↔ ((rest : List ℕ) × BeginsWithTlvObject old.rest object rest)
whole_clause old (Ok None) empty object =
    ((λ h. absurd h), λ (rest, begins). let found = begins_found old.rest object rest begins in let none : decode_tlv_object old.rest ≡ None = ap decode_tlv_object empty ∙ nothing in absurd (cc (found, none)))
whole_clause old (Ok (Some object)) (left, is) other = (
  (λ e. (left, found_begins old.rest other left (subst (λ (o : ObjectValue). decode_tlv_object old.rest ≡ Some (o, left)) e is))),
  λ (rest, begins). (found_object (value_of object) other left rest (sym is ∙ begins_found old.rest other rest begins)).0,
)
whole_clause old (Err fault) (offset, some, none) object =
    ((λ h. absurd h), λ (rest, begins). let found = begins_found old.rest object rest begins in absurd (cc (found, none)))

abbrev pub fault_at : ℕ → TlvFault
fault_at offset = record { at = offset }

abbrev failed : TlvFault → Result (Option Object) TlvFault
failed fault = Err fault

failed_is : (a b : TlvFault) → failed a ≡ failed b → a ≡ b
failed_is a b e = cc

pub fault_clause : (old : TlvReaderValue) (result : Result (Option Object) TlvFault) → ReturnsTlvObject result old → (offset : ℕ) → (result ≡ Err (fault_at offset)) ↔ ((offset ≡ old.offset) × IsMalformedTlvObject old.rest)
fault_clause old (Ok None) empty offset = ((λ e. absurd cc), λ (offset_is, malformed). absurd (malformed_some old.rest malformed empty))
fault_clause old (Ok (Some object)) (left, is) offset =
    ((λ e. absurd cc), λ (offset_is, malformed). let none = malformed_none old.rest (Some (value_of object, left)) malformed is in absurd (cc none))
fault_clause old (Err fault) (offset_is, some, none) offset = (
  (λ e. (ap (λ (f : TlvFault). f.at) (sym (failed_is fault (fault_at offset) e) ∙ offset_is), none_malformed old.rest some none)),
  λ (is, malformed). ap (λ (f : TlvFault). Err f) (offset_is ∙ ap fault_at (sym is)),
)

-- the reader's model, by its fields
abbrev pub reader_at : ℕ → List ℕ → TlvReaderValue
reader_at offset rest = record { offset = offset; rest = rest }

-- after an object, as many bytes further
pub no_longer_rest : (old : TlvReaderValue) (object : ObjectValue) (rest : List ℕ) → decode_tlv_object old.rest ≡ Some (object, rest) → length rest ≤ length old.rest
no_longer_rest old object rest found =
    let begins = found_begins old.rest object rest found in
    omega (arith, ap length begins.2, length-append begins.0 rest)

pub goes_on : (old : TlvReaderValue) (offset : ℕ) (bytes : List ℕ) (object : ObjectValue) (rest : List ℕ) → reader_at offset bytes ≡ old → decode_tlv_object bytes ≡ Some (object, rest) → PassesTlvObject old (reader_at (offset + (length bytes - length rest)) rest) object
goes_on old offset bytes object rest view_is found =
    let shorter = no_longer_rest (reader_at offset bytes) object rest found in
    subst (λ (o : TlvReaderValue). PassesTlvObject o (reader_at (offset + (length bytes - length rest)) rest) object) view_is
    (record { begins = found_begins bytes object rest found; offset = omega arith })
