-- The status that data spell, by the grammar and by the function that computes it.
use Rattle.std.proofs.Common.{◌≡◌, ℕ, zero, suc, ◌-◌, ◌<◌, ◌≤◌, Bool, true, false, cond, List, [], ◌∷◌, ◌++◌, length, Option, Some, None, Result, Ok, Err, refl, sym, ap, subst, ◌∙◌, append_assoc, arith, inl, inr}
use Rattle.std.specs.Prelude.{◌⊎◌, ◌&&◌}
use Rattle.std.proofs.lemmas.Bool.{cases_eq, ne_eqb, and_parts}
use Rattle.std.proofs.lemmas.List.{append-nil}
use Rattle.zvt_bmp.specs.declared.length_form.LengthForm.{LengthForm}
use Rattle.zvt_bmp.specs.declared.length_form.LengthFault.{LengthFault}
use Rattle.zvt_bmp.specs.declared.length_form.LengthFault.TheVariants.{Wrong, Truncated}
use Rattle.zvt_bmp.specs.declared.fields.Fields.{Fields}
use Rattle.zvt_bmp.specs.declared.fields.FieldFault.{FieldFault}
use Rattle.zvt_bmp.specs.declared.fields.FieldFault.TheVariants.{Short, BadLength, NotDigits, Twice}
use Rattle.zvt_bmp.specs.declared.fields.FieldsSoFar.{FieldsSoFar}
use Rattle.zvt_bmp.specs.Table.{length_form_of}
use Rattle.zvt_bmp.specs.Grammar.{Field, BeginsWithField, BeginsWithFields, IsFieldTail, has_field, is_single, RepeatsField, HasDigitsField, IsWellFormedAfter, AreWellFormedFields, FieldsEndAt, SpellsStatusOrFault}
use Rattle.zvt_bmp.specs.Decode.{decode_field_value, may_not_repeat, put_field, after_put_field, after_field_value, after_field_number, decode_status_field, with_tail, decode_status_from, decode_status_within, no_fields_yet, decode_status}
use Rattle.gw_base.specs.Bcd.{is_bcd}
use Rattle.gw_base.proofs.BcdLemmas.{bcd_passes, passes_bcd}
use Rattle.zvt_bmp.proofs.ValueLemmas.{value_found, value_read, value_wrong, wrong_value, value_truncated, truncated_value, value_shorter}
use Rattle.zvt_bmp.proofs.PutLemmas.{fields_so_far, may_not_repeat_is, put_field_of, put_none}

-- ---- from the grammar to the function, one field

not_true : (b : Bool) → (b ≡ true → ⊥) → b ≡ false
not_true true h = absurd (h refl)
not_true false h = refl

-- a field that may come there is looked at
looked_at : (before : List Field) (offset number : ℕ) (form : LengthForm) (after_number : List ℕ) → length_form_of number ≡ Some form → (RepeatsField before number → ⊥) → decode_status_field (fields_so_far before) offset (number ∷ after_number) ≡ after_field_value (fields_so_far before) offset number (decode_field_value form after_number)
unfolding decode_status_field
looked_at before offset number form after_number known once =
    let new : may_not_repeat (fields_so_far before) number ≡ false = may_not_repeat_is before number ∙ not_true (is_single number && has_field number before) once in
    ap (after_field_number (fields_so_far before) offset number after_number) known
    ∙ ap (λ (b : Bool). cond b (Err (Twice number)) (after_field_value (fields_so_far before) offset number (decode_field_value form after_number))) new

pub field_goes : (before : List Field) (offset : ℕ) (bytes : List ℕ) (field : Field) (rest : List ℕ) → BeginsWithField bytes field rest → IsWellFormedAfter before field → decode_status_field (fields_so_far before) offset bytes ≡ Ok (Some (fields_so_far (before ++ field ∷ []), rest))
field_goes before offset bytes field rest (form, after_number, known, parts, value) well_formed =
    ap (decode_status_field (fields_so_far before) offset) parts ∙ looked_at before offset field.number form after_number known well_formed.once
    ∙ ap (after_field_value (fields_so_far before) offset field.number) (value_found form after_number field.value rest value)
    ∙ ap (after_put_field offset rest) (put_field_of before field well_formed)

tail_ends : (so_far : FieldsSoFar) (offset : ℕ) (bytes : List ℕ) → IsFieldTail bytes → decode_status_field so_far offset bytes ≡ Ok None
unfolding decode_status_field
tail_ends so_far offset [] tail = refl
tail_ends so_far offset (number ∷ after_number) tail = ap (after_field_number so_far offset number after_number) tail

-- a number that comes once at most is in the table
data Single : ℕ → Type 0 where
  One : {n : ℕ} (form : LengthForm) → length_form_of n ≡ Some form → Single n

single_known : (number : ℕ) → is_single number ≡ true → Single number
single_known number single =
    elim (cases_eq number 0x27) [
      | inl e ↦ subst Single (sym e) (One _ refl)
      | inr a ↦ elim (cases_eq number 0x04) [
        | inl e ↦ subst Single (sym e) (One _ refl)
        | inr b ↦ elim (cases_eq number 0x0B) [
          | inl e ↦ subst Single (sym e) (One _ refl)
          | inr c ↦ elim (cases_eq number 0x87) [
            | inl e ↦ subst Single (sym e) (One _ refl)
            | inr d ↦ absurd (let none = rw (ne_eqb _ _ a, ne_eqb _ _ b, ne_eqb _ _ c, ne_eqb _ _ d) at single in cc none)
          ]
        ]
      ]
    ]

repeated : (before : List Field) (offset number : ℕ) (after_number : List ℕ) → RepeatsField before number → Single number → decode_status_field (fields_so_far before) offset (number ∷ after_number) ≡ Err (Twice number)
unfolding decode_status_field
repeated before offset number after_number repeats (One form known) =
    ap (after_field_number (fields_so_far before) offset number after_number) known
    ∙ ap (λ (b : Bool). cond b (Err (Twice number)) (after_field_value (fields_so_far before) offset number (decode_field_value form after_number))) (may_not_repeat_is before number ∙ repeats)

pub field_fails : (before : List Field) (bytes : List ℕ) (offset : ℕ) (fault : FieldFault) → FieldsEndAt before bytes offset (Err fault) → decode_status_field (fields_so_far before) offset bytes ≡ Err fault
field_fails before bytes offset (Twice number) (more, parts, repeats) =
    ap (decode_status_field (fields_so_far before) offset) parts ∙ repeated before offset number more repeats (single_known number (and_parts (is_single number) (has_field number before) repeats).0)
field_fails before bytes offset (BadLength reported) (is, form, after_number, begins, wrong) =
    ap (decode_status_field (fields_so_far before) offset) begins.parts ∙ looked_at before offset begins.number form after_number begins.known begins.once
    ∙ ap (after_field_value (fields_so_far before) offset begins.number) (wrong_value form after_number wrong) ∙ ap (λ (p : ℕ). Err (BadLength p)) (sym is)
field_fails before bytes offset (Short reported) (is, form, after_number, begins, truncated) =
    ap (decode_status_field (fields_so_far before) offset) begins.parts ∙ looked_at before offset begins.number form after_number begins.known begins.once
    ∙ ap (after_field_value (fields_so_far before) offset begins.number) (truncated_value form after_number truncated) ∙ ap (λ (p : ℕ). Err (Short p)) (sym is)
field_fails before bytes offset (NotDigits reported) (is, field, more, (form, after_number, known, parts, value), once, in_digits, not) =
    ap (decode_status_field (fields_so_far before) offset) parts ∙ looked_at before offset field.number form after_number known once
    ∙ ap (after_field_value (fields_so_far before) offset field.number) (value_found form after_number field.value more value)
    ∙ ap (after_put_field offset more) (put_none (fields_so_far before) field.number field.value in_digits not)
    ∙ ap (λ (p : ℕ). Err (NotDigits p)) (sym is)

-- ---- each of them is one of three

pub data Prefix : List Field → List ℕ → ℕ → Type 0 where
  Ends : {before : List Field} {bytes : List ℕ} {offset : ℕ} → IsFieldTail bytes → Prefix before bytes offset
  Goes : {before : List Field} {bytes : List ℕ} {offset : ℕ} (field : Field) (rest : List ℕ) → BeginsWithField bytes field rest → IsWellFormedAfter before field → Prefix before bytes offset
  Fails : {before : List Field} {bytes : List ℕ} {offset : ℕ} (fault : FieldFault) → FieldsEndAt before bytes offset (Err fault) → Prefix before bytes offset

-- whether it is an amount or a trace number
is_in_digits : (number : ℕ) → HasDigitsField number ⊎ (HasDigitsField number → ⊥)
is_in_digits number =
    elim (cases_eq number 0x04) [
      | inl e ↦ inl (inl e)
      | inr a ↦ elim (cases_eq number 0x0B) [ inl e ↦ inl (inr e) | inr b ↦ inr (λ d. elim d [ inl e ↦ a e | inr e ↦ b e ]) ]
    ]

with_value : (before : List Field) (bytes : List ℕ) (offset : ℕ) (field : Field) (rest : List ℕ) (digits : Bool) → BeginsWithField bytes field rest → (RepeatsField before field.number → ⊥) → is_bcd field.value ≡ digits → Prefix before bytes offset
with_value before bytes offset field rest true begins once passed = Goes field rest begins (record { once = once; digits = λ _. passes_bcd field.value passed })
with_value before bytes offset field rest false begins once passed =
    elim (is_in_digits field.number) [
      | inl in_digits ↦ Fails (NotDigits offset) (refl, field, rest, begins, once, in_digits, λ is. let yes_ = bcd_passes field.value is in cc (yes_, passed))
      | inr other ↦ Goes field rest begins (record { once = once; digits = λ in_digits. absurd (other in_digits) })
    ]

by_value : (before : List Field) (offset number : ℕ) (form : LengthForm) (after_number : List ℕ) (value : Result (List ℕ × List ℕ) LengthFault) → length_form_of number ≡ Some form → (RepeatsField before number → ⊥) → decode_field_value form after_number ≡ value → Prefix before (number ∷ after_number) offset
by_value before offset number form after_number (Err Wrong) known once is =
    Fails (BadLength offset) (refl, form, after_number, record { number = number; known = known; once = once; parts = refl }, value_wrong form after_number is)
by_value before offset number form after_number (Err Truncated) known once is =
    Fails (Short offset) (refl, form, after_number, record { number = number; known = known; once = once; parts = refl }, value_truncated form after_number is)
by_value before offset number form after_number (Ok (value, rest)) known once is =
    with_value before (number ∷ after_number) offset (record { number = number; value = value }) rest (is_bcd value) (form, after_number, known, refl, value_read form after_number value rest is) once refl

by_form : (before : List Field) (offset number : ℕ) (after_number : List ℕ) (form : Option LengthForm) (again : Bool) → length_form_of number ≡ form → (is_single number && has_field number before) ≡ again → Prefix before (number ∷ after_number) offset
by_form before offset number after_number None again known repeats = Ends known
by_form before offset number after_number (Some form) true known repeats = Fails (Twice number) (after_number, refl, repeats)
by_form before offset number after_number (Some form) false known repeats =
    by_value before offset number form after_number (decode_field_value form after_number) known (λ again. cc (again, repeats)) refl

pub prefix_of : (before : List Field) (bytes : List ℕ) (offset : ℕ) → Prefix before bytes offset
prefix_of before [] offset = Ends tt
prefix_of before (number ∷ after_number) offset = by_form before offset number after_number (length_form_of number) (is_single number && has_field number before) refl refl

-- ---- all fields

begins_shrinks : (bytes : List ℕ) (field : Field) (rest : List ℕ) → BeginsWithField bytes field rest → length rest < length bytes
begins_shrinks bytes field rest (form, after_number, known, parts, value) =
    let shorter = value_shorter form after_number field.value rest (value_found form after_number field.value rest value) in
    omega (arith, ap length parts)

-- reading on after well-formed fields gives what the rest gives
pub record On (before : List Field) (bytes : List ℕ) (whole : ℕ) (reported : Result Fields FieldFault) : Type 0 where
  pub fields : List Field
  pub rest : List ℕ
  pub splits : BeginsWithFields bytes fields rest
  pub well_formed : AreWellFormedFields before fields
  pub stops : FieldsEndAt (before ++ fields) rest (whole - length rest) reported

On-first : (before : List Field) (bytes : List ℕ) (whole : ℕ) (reported : Result Fields FieldFault) (field : Field) (more : List ℕ) → BeginsWithField bytes field more → IsWellFormedAfter before field → On (before ++ field ∷ []) more whole reported → On before bytes whole reported
On-first before bytes whole reported field more begins well_formed on = record {
  fields = field ∷ on.fields;
  rest = on.rest;
  splits = (more, begins, on.splits);
  well_formed = (well_formed, on.well_formed);
  stops = subst (λ (fs : List Field). FieldsEndAt fs on.rest (whole - length on.rest) reported) (append_assoc before (field ∷ []) on.fields) on.stops;
}

On-last : (before : List Field) (bytes : List ℕ) (whole : ℕ) (reported : Result Fields FieldFault) → FieldsEndAt before bytes (whole - length bytes) reported → On before bytes whole reported
On-last before bytes whole reported stops = record {
  fields = [];
  rest = bytes;
  splits = refl;
  well_formed = tt;
  stops = subst (λ (fs : List Field). FieldsEndAt fs bytes (whole - length bytes) reported) (sym (append-nil before)) stops;
}

on_at : (n whole : ℕ) (before : List Field) (bytes : List ℕ) → ((fields : List Field) (rest : List ℕ) → length rest < length bytes → On fields rest whole (decode_status_within n whole (fields_so_far fields) rest)) → Prefix before bytes (whole - length bytes) → On before bytes whole (decode_status_from (decode_status_within n whole) (fields_so_far before) (whole - length bytes) (decode_status_field (fields_so_far before) (whole - length bytes) bytes))
on_at n whole before bytes others (Prefix.Ends tail) =
    rw (tail_ends (fields_so_far before) (whole - length bytes) bytes tail) (On-last before bytes whole _ (tail, refl))
on_at n whole before bytes others (Prefix.Goes field rest begins well_formed) =
    rw (field_goes before (whole - length bytes) bytes field rest begins well_formed)
    (On-first before bytes whole _ field rest begins well_formed (others (before ++ field ∷ []) rest (begins_shrinks bytes field rest begins)))
on_at n whole before bytes others (Prefix.Fails fault stops) =
    rw (field_fails before bytes (whole - length bytes) fault stops) (On-last before bytes whole (Err fault) stops)

read_on : (n whole : ℕ) (before : List Field) (bytes : List ℕ) → length bytes ≤ n → On before bytes whole (decode_status_within n whole (fields_so_far before) bytes)
unfolding decode_status_within
read_on zero whole before [] few = On-last before [] whole _ (tt, refl)
read_on zero whole before (b ∷ bytes) few = absurd (omega arith)
read_on (suc n) whole before bytes few =
    on_at n whole before bytes (λ fields rest shorter. read_on n whole fields rest (omega arith)) (prefix_of before bytes (whole - length bytes))

pub fields_report : (bytes : List ℕ) → SpellsStatusOrFault bytes (decode_status bytes)
unfolding decode_status
fields_report bytes =
    let on = read_on (length bytes) (length bytes) [] bytes (omega arith) in
    (on.fields, on.rest, on.splits, on.well_formed, on.stops)

-- ---- and nothing else is computed

stops_read : (n whole : ℕ) (before : List Field) (bytes : List ℕ) (reported : Result Fields FieldFault) → length bytes ≤ n → FieldsEndAt before bytes (whole - length bytes) reported → decode_status_within n whole (fields_so_far before) bytes ≡ reported
unfolding decode_status_within
stops_read zero whole before [] (Ok fields) few (tail, is) = ap (λ (f : Fields). Ok f) (sym is)
stops_read zero whole before [] (Err fault) few stops = let fails = field_fails before [] (whole - 0) fault stops in let ends = tail_ends (fields_so_far before) (whole - 0) [] tt in absurd (cc (fails, ends))
stops_read zero whole before (b ∷ bytes) reported few stops = absurd (omega arith)
stops_read (suc n) whole before bytes (Ok fields) few (tail, is) =
    ap (decode_status_from (decode_status_within n whole) (fields_so_far before) (whole - length bytes)) (tail_ends (fields_so_far before) (whole - length bytes) bytes tail) ∙ ap (λ (f : Fields). Ok f) (sym is)
stops_read (suc n) whole before bytes (Err fault) few stops =
    ap (decode_status_from (decode_status_within n whole) (fields_so_far before) (whole - length bytes)) (field_fails before bytes (whole - length bytes) fault stops)

reported_read : (n whole : ℕ) (fields : List Field) (before : List Field) (bytes rest : List ℕ) (reported : Result Fields FieldFault) → length bytes ≤ n → BeginsWithFields bytes fields rest → AreWellFormedFields before fields → FieldsEndAt (before ++ fields) rest (whole - length rest) reported → decode_status_within n whole (fields_so_far before) bytes ≡ reported
unfolding decode_status_within
reported_read n whole [] before bytes rest reported few same well_formed stops =
    stops_read n whole before bytes reported few (subst (λ (b : List ℕ). FieldsEndAt before b (whole - length b) reported) (sym same) (subst (λ (fs : List Field). FieldsEndAt fs rest (whole - length rest) reported) (append-nil before) stops))
reported_read zero whole (field ∷ fields) before bytes rest reported few (more, begins, splits) well_formed stops = absurd (let shorter = begins_shrinks bytes field more begins in omega arith)
reported_read (suc n) whole (field ∷ fields) before bytes rest reported few (more, begins, splits) (here, well_formed) stops =
    let shorter = begins_shrinks bytes field more begins in
    ap (decode_status_from (decode_status_within n whole) (fields_so_far before) (whole - length bytes)) (field_goes before (whole - length bytes) bytes field more begins here)
    ∙ reported_read n whole fields (before ++ field ∷ []) more rest reported (omega arith) splits well_formed (subst (λ (fs : List Field). FieldsEndAt fs rest (whole - length rest) reported) (sym (append_assoc before (field ∷ []) fields)) stops)

pub only_reported : (bytes : List ℕ) (reported : Result Fields FieldFault) → SpellsStatusOrFault bytes reported → decode_status bytes ≡ reported
unfolding decode_status
only_reported bytes reported (fields, rest, splits, well_formed, stops) =
    reported_read (length bytes) (length bytes) fields [] bytes rest reported (omega arith) splits well_formed stops

-- ---- the loop of the code

abbrev goes : FieldsSoFar × List ℕ → Result (Option (FieldsSoFar × List ℕ)) FieldFault
goes found = Ok (Some found)

goes_is : (x y : FieldsSoFar × List ℕ) → goes x ≡ goes y → x ≡ y
goes_is x y e = cc

-- what follows a field is shorter, whatever is known
put_shorter : (offset : ℕ) (rest : List ℕ) (o : Option FieldsSoFar) (so_far : FieldsSoFar) (left : List ℕ) → after_put_field offset rest o ≡ Ok (Some (so_far, left)) → rest ≡ left
put_shorter offset rest None so_far left e = absurd cc
put_shorter offset rest (Some now) so_far left e = ap (λ (p : FieldsSoFar × List ℕ). p.1) (goes_is (now, rest) (so_far, left) e)

value_rest : (so_far : FieldsSoFar) (offset number : ℕ) (form : LengthForm) (after_number : List ℕ) (value : Result (List ℕ × List ℕ) LengthFault) (now : FieldsSoFar) (left : List ℕ) → decode_field_value form after_number ≡ value → after_field_value so_far offset number value ≡ Ok (Some (now, left)) → length left ≤ length after_number
value_rest so_far offset number form after_number (Err Wrong) now left is e = absurd cc
value_rest so_far offset number form after_number (Err Truncated) now left is e = absurd cc
value_rest so_far offset number form after_number (Ok (value, rest)) now left is e =
    let same = put_shorter offset rest (put_field so_far number value) now left e in
    omega (arith, value_shorter form after_number value rest is, ap length same)

once_rest : (again : Bool) (so_far : FieldsSoFar) (offset number : ℕ) (form : LengthForm) (after_number : List ℕ) (now : FieldsSoFar) (left : List ℕ) → cond again (Err (Twice number)) (after_field_value so_far offset number (decode_field_value form after_number)) ≡ Ok (Some (now, left)) → length left ≤ length after_number
once_rest true so_far offset number form after_number now left e = absurd cc
once_rest false so_far offset number form after_number now left e = value_rest so_far offset number form after_number (decode_field_value form after_number) now left refl e

form_rest : (so_far : FieldsSoFar) (offset number : ℕ) (after_number : List ℕ) (form : Option LengthForm) (now : FieldsSoFar) (left : List ℕ) → after_field_number so_far offset number after_number form ≡ Ok (Some (now, left)) → length left ≤ length after_number
form_rest so_far offset number after_number None now left e = absurd cc
form_rest so_far offset number after_number (Some form) now left e = once_rest (may_not_repeat so_far number) so_far offset number form after_number now left e

field_shrinks : (so_far : FieldsSoFar) (offset : ℕ) (bytes : List ℕ) (now : FieldsSoFar) (left : List ℕ) → decode_status_field so_far offset bytes ≡ Ok (Some (now, left)) → length left < length bytes
unfolding decode_status_field
field_shrinks so_far offset [] now left e = absurd cc
field_shrinks so_far offset (number ∷ after_number) now left e = omega (arith, form_rest so_far offset number after_number (length_form_of number) now left e)

from_same : (n m whole : ℕ) (so_far : FieldsSoFar) (bytes : List ℕ) (found : Result (Option (FieldsSoFar × List ℕ)) FieldFault) → ((now : FieldsSoFar) (left : List ℕ) → length left < length bytes → decode_status_within n whole now left ≡ decode_status_within m whole now left) → decode_status_field so_far (whole - length bytes) bytes ≡ found → decode_status_from (decode_status_within n whole) so_far (whole - length bytes) found ≡ decode_status_from (decode_status_within m whole) so_far (whole - length bytes) found
from_same n m whole so_far bytes (Err fault) same e = refl
from_same n m whole so_far bytes (Ok None) same e = refl
from_same n m whole so_far bytes (Ok (Some (now, left))) same e = same now left (field_shrinks so_far (whole - length bytes) bytes now left e)

pub empty_within : (n whole : ℕ) (so_far : FieldsSoFar) → decode_status_within n whole so_far [] ≡ Ok (with_tail so_far (whole - 0))
unfolding decode_status_within
empty_within zero whole so_far = refl
empty_within (suc n) whole so_far = ap (decode_status_from (decode_status_within n whole) so_far (whole - 0)) (tail_ends so_far (whole - 0) [] tt)

enough : (n m whole : ℕ) (so_far : FieldsSoFar) (bytes : List ℕ) → length bytes ≤ n → length bytes ≤ m → decode_status_within n whole so_far bytes ≡ decode_status_within m whole so_far bytes
unfolding decode_status_within
enough zero m whole so_far [] few less = sym (empty_within m whole so_far)
enough zero m whole so_far (b ∷ bytes) few less = absurd (omega arith)
enough (suc n) zero whole so_far [] few less = empty_within (suc n) whole so_far
enough (suc n) zero whole so_far (b ∷ bytes) few less = absurd (omega arith)
enough (suc n) (suc m) whole so_far bytes few less =
    from_same n m whole so_far bytes (decode_status_field so_far (whole - length bytes) bytes) (λ now left shorter. enough n m whole now left (omega arith) (omega arith)) refl

step_within : (whole : ℕ) (so_far : FieldsSoFar) (bytes : List ℕ) → decode_status_within (suc (length bytes)) whole so_far bytes ≡ decode_status_from (decode_status_within (length bytes) whole) so_far (whole - length bytes) (decode_status_field so_far (whole - length bytes) bytes)
unfolding decode_status_within
step_within whole so_far bytes = refl

one_step : (whole : ℕ) (so_far : FieldsSoFar) (bytes : List ℕ) → decode_status_within (length bytes) whole so_far bytes ≡ decode_status_from (decode_status_within (length bytes) whole) so_far (whole - length bytes) (decode_status_field so_far (whole - length bytes) bytes)
one_step whole so_far bytes = enough (length bytes) (suc (length bytes)) whole so_far bytes (omega arith) (omega arith) ∙ step_within whole so_far bytes

pub goes_on : (whole : ℕ) (so_far : FieldsSoFar) (bytes : List ℕ) (now : FieldsSoFar) (left : List ℕ) → decode_status_field so_far (whole - length bytes) bytes ≡ Ok (Some (now, left)) → decode_status_within (length bytes) whole so_far bytes ≡ decode_status_within (length left) whole now left
goes_on whole so_far bytes now left e =
    let shorter = field_shrinks so_far (whole - length bytes) bytes now left e in
    one_step whole so_far bytes ∙ ap (decode_status_from (decode_status_within (length bytes) whole) so_far (whole - length bytes)) e ∙ enough (length bytes) (length left) whole now left (omega arith) (omega arith)

pub ends_there : (whole : ℕ) (so_far : FieldsSoFar) (bytes : List ℕ) → decode_status_field so_far (whole - length bytes) bytes ≡ Ok None → decode_status_within (length bytes) whole so_far bytes ≡ Ok (with_tail so_far (whole - length bytes))
ends_there whole so_far bytes e = one_step whole so_far bytes ∙ ap (decode_status_from (decode_status_within (length bytes) whole) so_far (whole - length bytes)) e

pub fails_there : (whole : ℕ) (so_far : FieldsSoFar) (bytes : List ℕ) (fault : FieldFault) → decode_status_field so_far (whole - length bytes) bytes ≡ Err fault → decode_status_within (length bytes) whole so_far bytes ≡ Err fault
fails_there whole so_far bytes fault e = one_step whole so_far bytes ∙ ap (decode_status_from (decode_status_within (length bytes) whole) so_far (whole - length bytes)) e

pub all_within : (bytes : List ℕ) → decode_status_within (length bytes) (length bytes) no_fields_yet bytes ≡ decode_status bytes
unfolding decode_status
all_within bytes = refl
