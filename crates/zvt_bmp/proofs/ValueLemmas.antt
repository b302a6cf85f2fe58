-- The value that bytes begin with, by the grammar and by the function that computes it.
use Rattle.std.proofs.Common.{◌≡◌, ◌≢◌, ℕ, ◌+◌, ◌-◌, ◌*◌, ◌<◌, ◌≤◌, true, false, eqb, ltb, List, [], ◌∷◌, ◌++◌, length, take, drop, Option, Some, None, Result, Ok, Err, refl, sym, ap, subst, ◌∙◌, append_assoc, arith, inl, inr}
use Rattle.std.specs.Prelude.{replicate}
use Rattle.std.proofs.lemmas.Bool.{cases_lt, le-ltb, lt-ltb, ne_eqb}
use Rattle.std.proofs.lemmas.List.{take_at, drop_at, take-append-drop, length-append, length-take, length-replicate, append-nil}
use Rattle.zvt_tlv.specs.Decode.{decode_tlv_length}
use Rattle.zvt_bmp.specs.declared.length_form.LengthForm.{LengthForm}
use Rattle.zvt_bmp.specs.declared.length_form.LengthForm.TheVariants.{Fixed, Llvar, Lllvar, Tlv}
use Rattle.zvt_bmp.specs.declared.length_form.LengthFault.{LengthFault}
use Rattle.zvt_bmp.specs.declared.length_form.LengthFault.TheVariants.{Wrong, Truncated}
use Rattle.zvt_bmp.specs.ValueGrammar.{SpellsFieldLength, BeginsWithFieldValue, IsLengthDigit, HasWrongFieldLength, IsTruncatedFieldValue}
use Rattle.zvt_bmp.specs.Decode.{decode_llvar, with_hundreds_digit, decode_lllvar, tlv_length_fault, tlv_length_or_fault, decode_field_length, decode_after_field_length, decode_field_value}
use Rattle.zvt_bmp.proofs.LengthLemmas.{found_is, Digit, Other, digit_or_other, First, first_of, length_found, length_read, length_wrong, wrong_length, wrong_longer}

-- ---- found and read

abbrev pub same_value : List ℕ → List ℕ → Result (List ℕ × List ℕ) LengthFault
same_value value rest = Ok (value, rest)

pub found_value : (u v xs ys : List ℕ) → same_value u xs ≡ same_value v ys → (u ≡ v) × (xs ≡ ys)
found_value u v xs ys e =
    let pair = found_is {A = List ℕ × List ℕ} (u, xs) (v, ys) e in
    (ap (λ (p : List ℕ × List ℕ). p.0) pair, ap (λ (p : List ℕ × List ℕ). p.1) pair)

pub value_found : (form : LengthForm) (bytes value rest : List ℕ) → BeginsWithFieldValue form bytes value rest → decode_field_value form bytes ≡ Ok (value, rest)
unfolding decode_field_value
value_found form bytes value rest (prefix, (length_bytes, is_length, whole), parts) =
    let regrouped : bytes ≡ length_bytes ++ (value ++ rest) = parts ∙ ap (λ (f : List ℕ). f ++ rest) whole ∙ append_assoc length_bytes value rest in
    let there : ltb (length (value ++ rest)) (length value) ≡ false = le-ltb _ _ (omega (arith, length-append value rest)) in
    ap (λ (b : List ℕ). decode_after_field_length (decode_field_length form b)) regrouped
    ∙ ap decode_after_field_length (length_found form length_bytes (length value) (value ++ rest) is_length)
    ∙ rw (there, take_at value rest (length value) refl, drop_at value rest (length value) refl) refl

value_by : (form : LengthForm) (bytes value rest : List ℕ) (length_there : Result (ℕ × List ℕ) LengthFault) → decode_field_length form bytes ≡ length_there → decode_after_field_length length_there ≡ Ok (value, rest) → BeginsWithFieldValue form bytes value rest
value_by form bytes value rest (Err fault) is e = absurd cc
value_by form bytes value rest (Ok (n, after_length)) is e =
    let l = length_read form bytes n after_length is in
    elim (cases_lt (length after_length) n) [
      | inl truncated ↦ let test : ltb (length after_length) n ≡ true = lt-ltb _ _ truncated in let none = rw test at e in absurd (cc none)
      | inr there ↦
          let test : ltb (length after_length) n ≡ false = le-ltb _ _ there in
          let both = found_value (take n after_length) value (drop n after_length) rest (rw test at e) in
          let size : n ≡ length value = omega (arith, ap length both.0, length-take n after_length) in (
            l.prefix ++ value,
            (l.prefix, subst (SpellsFieldLength form l.prefix) size l.is_length, refl),
            l.parts ∙ ap (λ (b : List ℕ). l.prefix ++ b) (sym (take-append-drop n after_length) ∙ ap (λ (v : List ℕ). v ++ drop n after_length) both.0 ∙ ap (λ (r : List ℕ). value ++ r) both.1) ∙ sym (append_assoc l.prefix value rest),
          )
    ]

pub value_read : (form : LengthForm) (bytes value rest : List ℕ) → decode_field_value form bytes ≡ Ok (value, rest) → BeginsWithFieldValue form bytes value rest
unfolding decode_field_value
value_read form bytes value rest e = value_by form bytes value rest (decode_field_length form bytes) refl e

-- ---- wrong

wrong_by : (form : LengthForm) (bytes : List ℕ) (length_there : Result (ℕ × List ℕ) LengthFault) → decode_field_length form bytes ≡ length_there → decode_after_field_length length_there ≡ Err Wrong → HasWrongFieldLength form bytes
wrong_by form bytes (Err Wrong) is e = length_wrong form bytes is
wrong_by form bytes (Err Truncated) is e = absurd cc
wrong_by form bytes (Ok (n, after_length)) is e =
    elim (cases_lt (length after_length) n) [
      | inl truncated ↦ let test : ltb (length after_length) n ≡ true = lt-ltb _ _ truncated in let other = rw test at e in absurd (cc other)
      | inr there ↦ let test : ltb (length after_length) n ≡ false = le-ltb _ _ there in let none = rw test at e in absurd (cc none)
    ]

pub value_wrong : (form : LengthForm) (bytes : List ℕ) → decode_field_value form bytes ≡ Err Wrong → HasWrongFieldLength form bytes
unfolding decode_field_value
value_wrong form bytes e = wrong_by form bytes (decode_field_length form bytes) refl e

pub wrong_value : (form : LengthForm) (bytes : List ℕ) → HasWrongFieldLength form bytes → decode_field_value form bytes ≡ Err Wrong
unfolding decode_field_value
wrong_value form bytes wrong = ap decode_after_field_length (wrong_length form bytes wrong)

-- ---- truncated

zeros : ℕ → List ℕ
zeros n = replicate n 0

zeros_are : (n : ℕ) → length (zeros n) ≡ n
unfolding zeros
zeros_are n = length-replicate {A = ℕ} n 0

-- what is there of a length, and what makes it and its value whole
truncated_by : (form : LengthForm) (bytes more prefix value : List ℕ) → more ≢ [] → SpellsFieldLength form prefix (length value) → bytes ++ more ≡ prefix ++ value → IsTruncatedFieldValue form bytes
truncated_by form bytes more prefix value some is_length whole = (more, value, some, (prefix, is_length, whole))

llvar_truncated : (bytes : List ℕ) → decode_llvar bytes ≡ Err Truncated → IsTruncatedFieldValue Llvar bytes
llvar_truncated [] e = truncated_by Llvar [] (240 ∷ 240 ∷ []) (240 ∷ 240 ∷ []) [] (λ e. absurd cc) (0, 0, omega arith, omega arith, refl, refl) refl
llvar_truncated (tens ∷ []) e =
    elim (digit_or_other tens) [
      | Other test not ↦ let wrong = rw test at e in absurd (cc wrong)
      | Digit test is ↦
          let value = zeros (10 * (tens - 240)) in
          let size = zeros_are (10 * (tens - 240)) in
          let prefix : tens ∷ 240 ∷ [] ≡ (240 + (tens - 240)) ∷ (240 + 0) ∷ [] = ap (λ (t : ℕ). t ∷ 240 ∷ []) (omega arith) in
          truncated_by Llvar (tens ∷ []) (240 ∷ value) (tens ∷ 240 ∷ []) value (λ e. absurd cc) (tens - 240, 0, omega arith, omega arith, omega (arith, size), prefix) refl
    ]
llvar_truncated (tens ∷ units ∷ bytes) e =
    elim (digit_or_other tens) [
      | Other test not ↦ let wrong = rw test at e in absurd (cc wrong)
      | Digit first is ↦ elim (digit_or_other units) [ Digit second has ↦ let there = rw (first, second) at e in absurd (cc there) | Other test not ↦ let wrong = rw (first, test) at e in absurd (cc wrong) ]
    ]

lllvar_more : (hundreds : ℕ) (bytes : List ℕ) → IsLengthDigit hundreds → decode_llvar bytes ≡ Err Truncated → IsTruncatedFieldValue Lllvar (hundreds ∷ bytes)
lllvar_more hundreds [] is e =
    let value = zeros (100 * (hundreds - 240)) in
    let size = zeros_are (100 * (hundreds - 240)) in
    let prefix : hundreds ∷ 240 ∷ 240 ∷ [] ≡ (240 + (hundreds - 240)) ∷ (240 + 0) ∷ (240 + 0) ∷ [] = ap (λ (h : ℕ). h ∷ 240 ∷ 240 ∷ []) (omega arith) in
    truncated_by Lllvar (hundreds ∷ []) (240 ∷ 240 ∷ value) (hundreds ∷ 240 ∷ 240 ∷ []) value (λ e. absurd cc) (hundreds - 240, 0, 0, omega arith, omega arith, omega arith, omega (arith, size), prefix) refl
lllvar_more hundreds (tens ∷ []) is e =
    elim (digit_or_other tens) [
      | Other test not ↦ let wrong = rw test at e in absurd (cc wrong)
      | Digit test has ↦
          let value = zeros (100 * (hundreds - 240) + 10 * (tens - 240)) in
          let size = zeros_are (100 * (hundreds - 240) + 10 * (tens - 240)) in
          let prefix : hundreds ∷ tens ∷ 240 ∷ [] ≡ (240 + (hundreds - 240)) ∷ (240 + (tens - 240)) ∷ (240 + 0) ∷ [] =
          ap (λ (h : ℕ). h ∷ tens ∷ 240 ∷ []) (omega arith) ∙ ap (λ (t : ℕ). (240 + (hundreds - 240)) ∷ t ∷ 240 ∷ []) (omega arith) in
          truncated_by Lllvar (hundreds ∷ tens ∷ []) (240 ∷ value) (hundreds ∷ tens ∷ 240 ∷ []) value (λ e. absurd cc) (hundreds - 240, tens - 240, 0, omega arith, omega arith, omega arith, omega (arith, size), prefix) refl
    ]
lllvar_more hundreds (tens ∷ units ∷ bytes) is e =
    elim (digit_or_other tens) [
      | Other test not ↦ let wrong = rw test at e in absurd (cc wrong)
      | Digit first has ↦ elim (digit_or_other units) [ Digit second also ↦ let there = rw (first, second) at e in absurd (cc there) | Other test not ↦ let wrong = rw (first, test) at e in absurd (cc wrong) ]
    ]

lllvar_by : (hundreds : ℕ) (bytes : List ℕ) (tail : Result (ℕ × List ℕ) LengthFault) → IsLengthDigit hundreds → decode_llvar bytes ≡ tail → with_hundreds_digit hundreds tail ≡ Err Truncated → IsTruncatedFieldValue Lllvar (hundreds ∷ bytes)
lllvar_by hundreds bytes (Ok low) is tail e = absurd cc
lllvar_by hundreds bytes (Err fault) is tail e = lllvar_more hundreds bytes is (cc (tail, e))

lllvar_truncated : (bytes : List ℕ) → decode_lllvar bytes ≡ Err Truncated → IsTruncatedFieldValue Lllvar bytes
lllvar_truncated [] e = truncated_by Lllvar [] (240 ∷ 240 ∷ 240 ∷ []) (240 ∷ 240 ∷ 240 ∷ []) [] (λ e. absurd cc) (0, 0, 0, omega arith, omega arith, omega arith, refl, refl) refl
lllvar_truncated (hundreds ∷ bytes) e =
    elim (digit_or_other hundreds) [
      | Other test not ↦ let wrong = rw test at e in absurd (cc wrong)
      | Digit test is ↦ lllvar_by hundreds bytes (decode_llvar bytes) is refl (rw test at e)
    ]

-- no TLV length is there, and no wrong byte
tlv_more : (b : ℕ) (bytes : List ℕ) → First b → decode_tlv_length (b ∷ bytes) ≡ None → tlv_length_fault (b ∷ bytes) ≡ Truncated → IsTruncatedFieldValue Tlv (b ∷ bytes)
tlv_more b bytes (First.OneByte small) none truncated = let test : ltb b 128 ≡ true = lt-ltb _ _ small in let there = rw test at none in absurd (cc there)
tlv_more b [] (First.One is) none truncated = truncated_by Tlv (b ∷ []) (0 ∷ []) (b ∷ 0 ∷ []) [] (λ e. absurd cc) (is, refl) refl
tlv_more b (n ∷ bytes) (First.One is) none truncated = let there = rw is at none in absurd (cc there)
tlv_more b [] (First.Two is) none truncated = truncated_by Tlv (b ∷ []) (0 ∷ 0 ∷ []) (b ∷ 0 ∷ 0 ∷ []) [] (λ e. absurd cc) (is, refl) refl
tlv_more b (high ∷ []) (First.Two is) none truncated =
    let size = zeros_are (256 * high) in
    truncated_by Tlv (b ∷ high ∷ []) (0 ∷ zeros (256 * high)) (b ∷ high ∷ 0 ∷ []) (zeros (256 * high)) (λ e. absurd cc) (is, omega (arith, size)) refl
tlv_more b (high ∷ low ∷ bytes) (First.Two is) none truncated = let there = rw is at none in absurd (cc there)
tlv_more b bytes (First.Bad (inl is)) none truncated = let wrong = rw is at truncated in absurd (cc wrong)
tlv_more b bytes (First.Bad (inr above)) none truncated =
    let other : eqb b 128 ≡ false = ne_eqb _ _ (λ e. omega arith) in
    let test : ltb 130 b ≡ true = lt-ltb _ _ above in
    let wrong = rw (other, test) at truncated in absurd (cc wrong)

abbrev failed : LengthFault → Result (ℕ × List ℕ) LengthFault
failed fault = Err fault

error_is : (a b : LengthFault) → failed a ≡ failed b → a ≡ b
error_is a b e = cc

tlv_truncated : (bytes : List ℕ) (there : Option (ℕ × List ℕ)) → decode_tlv_length bytes ≡ there → tlv_length_or_fault bytes there ≡ Err Truncated → IsTruncatedFieldValue Tlv bytes
tlv_truncated bytes (Some length) is e = absurd cc
tlv_truncated [] None is e = truncated_by Tlv [] (0 ∷ []) (0 ∷ []) [] (λ e. absurd cc) (omega arith, refl) refl
tlv_truncated (b ∷ bytes) None is e = tlv_more b bytes (first_of b) is (error_is (tlv_length_fault (b ∷ bytes)) Truncated e)

length_truncated : (form : LengthForm) (bytes : List ℕ) → decode_field_length form bytes ≡ Err Truncated → IsTruncatedFieldValue form bytes
length_truncated (Fixed size) bytes e = absurd cc
length_truncated Llvar bytes e = llvar_truncated bytes e
length_truncated Lllvar bytes e = lllvar_truncated bytes e
length_truncated Tlv bytes e = tlv_truncated bytes (decode_tlv_length bytes) refl e

value_truncated_by_length : (form : LengthForm) (prefix after_length : List ℕ) (n : ℕ) → SpellsFieldLength form prefix n → length after_length < n → IsTruncatedFieldValue form (prefix ++ after_length)
value_truncated_by_length form prefix after_length n is_length truncated =
    let missing = zeros (n - length after_length) in
    let count = zeros_are (n - length after_length) in
    let size : n ≡ length (after_length ++ missing) = omega (arith, length-append after_length missing, count) in
    truncated_by form (prefix ++ after_length) missing prefix (after_length ++ missing) (λ none. omega (arith, ap length none, count)) (subst (SpellsFieldLength form prefix) size is_length) (append_assoc prefix after_length missing)

truncated_there : (form : LengthForm) (bytes : List ℕ) (length_there : Result (ℕ × List ℕ) LengthFault) → decode_field_length form bytes ≡ length_there → decode_after_field_length length_there ≡ Err Truncated → IsTruncatedFieldValue form bytes
truncated_there form bytes (Err Wrong) is e = absurd cc
truncated_there form bytes (Err Truncated) is e = length_truncated form bytes is
truncated_there form bytes (Ok (n, after_length)) is e =
    let l = length_read form bytes n after_length is in
    elim (cases_lt (length after_length) n) [
      | inl truncated ↦ subst (IsTruncatedFieldValue form) (sym l.parts) (value_truncated_by_length form l.prefix after_length n l.is_length truncated)
      | inr there ↦ let test : ltb (length after_length) n ≡ false = le-ltb _ _ there in let none = rw test at e in absurd (cc none)
    ]

pub value_truncated : (form : LengthForm) (bytes : List ℕ) → decode_field_value form bytes ≡ Err Truncated → IsTruncatedFieldValue form bytes
unfolding decode_field_value
value_truncated form bytes e = truncated_there form bytes (decode_field_length form bytes) refl e

-- ---- and nothing else is truncated

nil_of_append : (xs ys : List ℕ) → xs ++ ys ≡ [] → ys ≡ []
nil_of_append [] ys e = e
nil_of_append (x ∷ xs) ys e = absurd cc

truncated_at : (form : LengthForm) (bytes more whole : List ℕ) (there : Result (List ℕ × List ℕ) LengthFault) → more ≢ [] → decode_field_value form (bytes ++ more) ≡ Ok (whole, []) → decode_field_value form bytes ≡ there → there ≡ Err Truncated
truncated_at form bytes more whole (Err Truncated) some longer is = refl
truncated_at form bytes more whole (Err Wrong) some longer is =
    let wrong = wrong_value form (bytes ++ more) (wrong_longer form bytes more (value_wrong form bytes is)) in absurd (cc (wrong, longer))
truncated_at form bytes more whole (Ok (value, rest)) some longer is =
    let begins = value_read form bytes value rest is in
    let again = value_found form (bytes ++ more) value (rest ++ more) (begins.0, begins.1, ap (λ (b : List ℕ). b ++ more) begins.2 ∙ append_assoc begins.0 rest more) in
    absurd (some (nil_of_append rest more (found_value value whole (rest ++ more) [] (sym again ∙ longer)).1))

pub truncated_value : (form : LengthForm) (bytes : List ℕ) → IsTruncatedFieldValue form bytes → decode_field_value form bytes ≡ Err Truncated
truncated_value form bytes (more, value, some, spells) =
    let whole = value_found form (bytes ++ more) value [] (bytes ++ more, spells, sym (append-nil (bytes ++ more))) in
    truncated_at form bytes more value (decode_field_value form bytes) some whole refl

-- what follows a value is not longer
pub value_shorter : (form : LengthForm) (bytes value rest : List ℕ) → decode_field_value form bytes ≡ Ok (value, rest) → length rest ≤ length bytes
value_shorter form bytes value rest e =
    let begins = value_read form bytes value rest e in
    omega (arith, ap length begins.2, length-append begins.0 rest)
