-- What data spell fits its fields: each number has at most as many digits as its field, a currency has two bytes, and the
-- written fields have at most 19 bytes.
use Rattle.std.proofs.Common.{◌≡◌, ℕ, suc, ◌^◌, ◌<◌, ◌≤◌, Bool, true, false, cond, eqb, List, [], ◌∷◌, ◌++◌, length, length-append, Option, Some, None, Ok, arith, refl, sym, subst, inl, inr}
use Rattle.std.specs.Prelude.{IfSome, option_and_then}
use Rattle.std.specs.Option.{option_map}
use Rattle.std.proofs.lemmas.Bool.{eqb-true}
use Rattle.gw_base.specs.Bcd.{IsBcd, bcd_value, is_bcd}
use Rattle.gw_base.proofs.BcdLemmas.{bcd_value_bound, length-bcd_of, passes_bcd}
use Rattle.zvt_bmp.specs.declared.length_form.LengthForm.{LengthForm}
use Rattle.zvt_bmp.specs.declared.length_form.LengthForm.TheVariants.{Fixed, Llvar, Lllvar, Tlv}
use Rattle.zvt_bmp.specs.declared.fields.Fields.{Fields}
use Rattle.zvt_bmp.specs.Grammar.{Field, BeginsWithField, BeginsWithFields, HasDigitsField, AreWellFormedFields, SpellsStatusOrFault, first_field_value, digits_of, status_of_fields}
use Rattle.zvt_bmp.specs.ValueGrammar.{SpellsFieldLength}
use Rattle.zvt_bmp.specs.Decode.{decode_status}
use Rattle.zvt_bmp.specs.Canonical.{HasFieldDigits, canonical_status, canonical_result_field, canonical_digits_field, canonical_currency_field}
use Rattle.zvt_bmp.specs.inner.Sizes.{HasFormSize, HasFieldSize}
use Rattle.zvt_bmp.proofs.DecodeLemmas.{fields_report}

-- ---- each field that was read

-- the size that its form says, and digits where it has to have them
abbrev IsSound : Field → Type 0
IsSound field = HasFieldSize field.number field.value × (HasDigitsField field.number → IsBcd field.value)

abbrev AreSound : List Field → Type 0
AreSound [] = Unit {0}
AreSound (field ∷ fields) = IsSound field × AreSound fields

form_size : (form : LengthForm) (prefix : List ℕ) (size : ℕ) → SpellsFieldLength form prefix size → HasFormSize (Some form) size
form_size (Fixed fixed) prefix size is = is.1
form_size Llvar prefix size is = tt
form_size Lllvar prefix size is = tt
form_size Tlv prefix size is = tt

field_size : (bytes : List ℕ) (field : Field) (rest : List ℕ) → BeginsWithField bytes field rest → HasFieldSize field.number field.value
field_size bytes field rest (form, following, known, parts, (prefix, (length_bytes, is_length, whole), splits)) =
    subst (λ (o : Option LengthForm). HasFormSize o (length field.value)) (sym known) (form_size form length_bytes (length field.value) is_length)

all_sound : (before fields : List Field) (bytes rest : List ℕ) → BeginsWithFields bytes fields rest → AreWellFormedFields before fields → AreSound fields
all_sound before [] bytes rest begins well_formed = tt
all_sound before (field ∷ fields) bytes rest (more, here, others) (is, are) =
    ((field_size bytes field more here, is.digits), all_sound (before ++ field ∷ []) fields more rest others are)

-- ---- the first with a number

by_test : (P : List ℕ → Type 0) (value : List ℕ) (test : Bool) (others : Option (List ℕ)) → (test ≡ true → P value) → IfSome others P → IfSome (cond test (Some value) others) P
by_test P value true others here there = here refl
by_test P value false others here there = there

first_with : (P : List ℕ → Type 0) (number : ℕ) → ((field : Field) → IsSound field → field.number ≡ number → P field.value) → (fields : List Field) → AreSound fields → IfSome (first_field_value number fields) P
first_with P number has [] all = tt
first_with P number has (field ∷ fields) (is, all) =
    by_test P field.value (eqb field.number number) (first_field_value number fields) (λ same. has field is (eqb-true _ _ same)) (first_with P number has fields all)

sized : (number : ℕ) (field : Field) → IsSound field → field.number ≡ number → HasFieldSize number field.value
sized number field is same = subst (λ (n : ℕ). HasFieldSize n field.value) same is.0

-- digits of this size
abbrev IsBcdOf : ℕ → List ℕ → Type 0
IsBcdOf size value = IsBcd value × (length value ≡ size)

below : (size : ℕ) (value : List ℕ) → IsBcdOf size value → bcd_value value < 100 ^ size
below size value (digits, same) = subst (λ (n : ℕ). bcd_value value < 100 ^ n) same (bcd_value_bound value digits)

number_below : (size : ℕ) (value : Option (List ℕ)) → IfSome value (IsBcdOf size) → IfSome (option_map bcd_value value) (λ n. n < 100 ^ size)
number_below size None is = tt
number_below size (Some value) is = below size value is

tested_below : (size : ℕ) (value : List ℕ) (test : Bool) → is_bcd value ≡ test → length value ≡ size → IfSome (cond test (Some (bcd_value value)) None) (λ n. n < 100 ^ size)
tested_below size value true passed same = below size value (passes_bcd value passed, same)
tested_below size value false passed same = tt

digits_below : (size : ℕ) (value : Option (List ℕ)) → IfSome value (λ bytes. length bytes ≡ size) → IfSome (option_and_then digits_of value) (λ n. n < 100 ^ size)
digits_below size None is = tt
digits_below size (Some value) is = tested_below size value (is_bcd value) refl is

-- ---- all of them

status_digits : (fields : List Field) (tail : ℕ) → AreSound fields → HasFieldDigits (status_of_fields fields tail)
status_digits fields tail all = record {
  amount = number_below 6 (first_field_value 0x04 fields) (first_with (IsBcdOf 6) 0x04 (λ field is same. (is.1 (inl same), sized 0x04 field is same)) fields all);
  trace = number_below 3 (first_field_value 0x0B fields) (first_with (IsBcdOf 3) 0x0B (λ field is same. (is.1 (inr same), sized 0x0B field is same)) fields all);
  receipt = digits_below 2 (first_field_value 0x87 fields) (first_with (λ value. length value ≡ 2) 0x87 (sized 0x87) fields all);
}

pub spelled_digits : (bytes : List ℕ) (fields : Fields) → SpellsStatusOrFault bytes (Ok fields) → HasFieldDigits fields
spelled_digits bytes fields (found, rest, begins, well_formed, (tail, is)) =
    subst HasFieldDigits (sym is) (status_digits found _ (all_sound [] found bytes rest begins well_formed))

pub spelled_currency : (bytes : List ℕ) (fields : Fields) → SpellsStatusOrFault bytes (Ok fields) → IfSome fields.currency (λ currency. length currency ≡ 2)
spelled_currency bytes fields (found, rest, begins, well_formed, (tail, is)) =
    let P : Fields → Type 0 = λ status. IfSome status.currency (λ currency. length currency ≡ 2) in
    subst P (sym is) (first_with (λ value. length value ≡ 2) 0x49 (sized 0x49) found (all_sound [] found bytes rest begins well_formed))

-- ---- the written size

result_size : (result_code : Option ℕ) → length (canonical_result_field result_code) ≤ 2
result_size None = omega arith
result_size (Some result_code) = omega arith

digits_size : (number size : ℕ) (value : Option ℕ) → length (canonical_digits_field number size value) ≤ suc size
digits_size number size None = omega arith
digits_size number size (Some value) = omega (arith, length-bcd_of size value)

currency_size : (currency : Option (List ℕ)) → IfSome currency (λ bytes. length bytes ≡ 2) → length (canonical_currency_field currency) ≤ 3
currency_size None is = omega arith
currency_size (Some currency) is = omega (arith, is)

canonical_size : (fields : Fields) → IfSome fields.currency (λ currency. length currency ≡ 2) → length (canonical_status fields) ≤ 19
canonical_size fields two =
    let result = canonical_result_field fields.result in
    let amount = canonical_digits_field 0x04 6 fields.amount in
    let trace = canonical_digits_field 0x0B 3 fields.trace in
    let receipt = canonical_digits_field 0x87 2 fields.receipt in
    let currency = canonical_currency_field fields.currency in
    omega (
      arith,
      length-append result (amount ++ (trace ++ (receipt ++ currency))),
      length-append amount (trace ++ (receipt ++ currency)),
      length-append trace (receipt ++ currency),
      length-append receipt currency,
      result_size fields.result,
      digits_size 0x04 6 fields.amount,
      digits_size 0x0B 3 fields.trace,
      digits_size 0x87 2 fields.receipt,
      currency_size fields.currency two,
    )

pub spelled_size : (bytes : List ℕ) (fields : Fields) → SpellsStatusOrFault bytes (Ok fields) → length (canonical_status fields) ≤ 19
spelled_size bytes fields spells = canonical_size fields (spelled_currency bytes fields spells)

-- ---- by the function

decoded_spells : (bytes : List ℕ) (fields : Fields) → decode_status bytes ≡ Ok fields → SpellsStatusOrFault bytes (Ok fields)
decoded_spells bytes fields is = subst (SpellsStatusOrFault bytes) is (fields_report bytes)

pub decoded_digits : (bytes : List ℕ) (fields : Fields) → decode_status bytes ≡ Ok fields → HasFieldDigits fields
decoded_digits bytes fields is = spelled_digits bytes fields (decoded_spells bytes fields is)

pub decoded_currency : (bytes : List ℕ) (fields : Fields) → decode_status bytes ≡ Ok fields → IfSome fields.currency (λ currency. length currency ≡ 2)
decoded_currency bytes fields is = spelled_currency bytes fields (decoded_spells bytes fields is)

pub decoded_size : (bytes : List ℕ) (fields : Fields) → decode_status bytes ≡ Ok fields → length (canonical_status fields) ≤ 19
decoded_size bytes fields is = spelled_size bytes fields (decoded_spells bytes fields is)
