-- The length that bytes begin with, by the grammar and by the function that computes it.
use Rattle.std.proofs.Common.{◌≡◌, ℕ, zero, suc, ◌+◌, ◌-◌, ◌*◌, ◌<◌, Bool, true, false, eqb, ltb, leb, List, [], ◌∷◌, ◌++◌, Option, Some, None, Result, Ok, Err, refl, sym, ap, subst, ◌∙◌, arith, inl, inr}
use Rattle.std.specs.Prelude.{◌⊎◌}
use Rattle.std.proofs.lemmas.Bool.{cases_lt, cases_eq, le-ltb, lt-ltb, ne_eqb, leb-true, le-leb, and_parts, and_from}
use Rattle.zvt_tlv.specs.Grammar.{SpellsTlvLength}
use Rattle.zvt_tlv.specs.Decode.{decode_one_byte_length, decode_two_byte_length, decode_tlv_length}
use Rattle.zvt_bmp.specs.declared.length_form.LengthForm.{LengthForm}
use Rattle.zvt_bmp.specs.declared.length_form.LengthForm.TheVariants.{Fixed, Llvar, Lllvar, Tlv}
use Rattle.zvt_bmp.specs.declared.length_form.LengthFault.{LengthFault}
use Rattle.zvt_bmp.specs.declared.length_form.LengthFault.TheVariants.{Wrong}
use Rattle.zvt_bmp.specs.ValueGrammar.{SpellsFieldLength, IsLengthDigit, HasWrongDigit, HasWrongFieldLength}
use Rattle.zvt_bmp.specs.Decode.{is_length_digit, decode_llvar, with_hundreds_digit, decode_lllvar, tlv_length_fault, tlv_length_or_fault, decode_field_length}

-- ---- pairs that were found

abbrev pub found : {A : Type 0} → A → Result A LengthFault
found x = Ok x

pub found_is : {A : Type 0} (x y : A) → found x ≡ found y → x ≡ y
found_is x y e = cc

pub found_length : (m n : ℕ) (xs ys : List ℕ) → found {A = ℕ × List ℕ} (m, xs) ≡ found {A = ℕ × List ℕ} (n, ys) → (m ≡ n) × (xs ≡ ys)
found_length m n xs ys e =
    let pair = found_is {A = ℕ × List ℕ} (m, xs) (n, ys) e in
    (ap (λ (p : ℕ × List ℕ). p.0) pair, ap (λ (p : ℕ × List ℕ). p.1) pair)

-- ---- digits of a length

pub digit_passes : (d : ℕ) → d < 10 → is_length_digit (240 + d) ≡ true
digit_passes d small = and_from _ _ (le-leb 240 (240 + d) (omega arith)) (le-leb (240 + d) 249 (omega arith))

pub passes_digit : (b : ℕ) → is_length_digit b ≡ true → IsLengthDigit b
passes_digit b passed = let parts = and_parts (leb 240 b) (leb b 249) passed in (leb-true _ _ parts.0, leb-true _ _ parts.1)

-- which it is
pub data IsDigitOrOther : ℕ → Type 0 where
  Digit : {b : ℕ} → is_length_digit b ≡ true → IsLengthDigit b → IsDigitOrOther b
  Other : {b : ℕ} → is_length_digit b ≡ false → (IsLengthDigit b → ⊥) → IsDigitOrOther b

digit_or_other_by : (b : ℕ) (passed : Bool) → is_length_digit b ≡ passed → IsDigitOrOther b
digit_or_other_by b true e = Digit e (passes_digit b e)
digit_or_other_by b false e = Other e (λ is. let passed = and_from _ _ (le-leb 240 b is.0) (le-leb b 249 is.1) in cc (passed, e))

pub digit_or_other : (b : ℕ) → IsDigitOrOther b
digit_or_other b = digit_or_other_by b (is_length_digit b) refl

-- ---- from the grammar to the function

tlv_found : (prefix : List ℕ) (n : ℕ) (rest : List ℕ) → SpellsTlvLength prefix n → decode_tlv_length (prefix ++ rest) ≡ Some (n, rest)
tlv_found [] n rest h = absurd h
tlv_found (b ∷ []) n rest (small, value) =
    let test : ltb b 128 ≡ true = lt-ltb _ _ small in
    rw (test, value) refl
tlv_found (form ∷ b ∷ []) n rest (is, value) = rw (is, value) refl
tlv_found (form ∷ high ∷ low ∷ []) n rest (is, value) = rw (is, value) refl
tlv_found (form ∷ high ∷ low ∷ b ∷ prefix) n rest h = absurd h

llvar_found : (tens units : ℕ) (rest : List ℕ) → tens < 10 → units < 10 → decode_llvar ((240 + tens) ∷ (240 + units) ∷ rest) ≡ Ok (10 * tens + units, rest)
llvar_found tens units rest first second =
    let count : 10 * ((240 + tens) - 240) + ((240 + units) - 240) ≡ 10 * tens + units = omega arith in
    rw (digit_passes tens first, digit_passes units second) (ap (λ (n : ℕ). Ok (n, rest)) count)

pub length_found : (form : LengthForm) (prefix : List ℕ) (n : ℕ) (rest : List ℕ) → SpellsFieldLength form prefix n → decode_field_length form (prefix ++ rest) ≡ Ok (n, rest)
length_found (Fixed size) prefix n rest (none, is) = rw (none, is) refl
length_found Llvar prefix n rest (tens, units, first, second, value, is) = rw (is, value) (llvar_found tens units rest first second)
length_found Lllvar prefix n rest (hundreds, tens, units, zeroth, first, second, value, is) =
    let count : 100 * ((240 + hundreds) - 240) + (10 * tens + units) ≡ 100 * hundreds + (10 * tens + units) = omega arith in
    rw (is, value) (rw (digit_passes hundreds zeroth, llvar_found tens units rest first second) (ap (λ (m : ℕ). Ok (m, rest)) count))
length_found Tlv prefix n rest is = ap (tlv_length_or_fault (prefix ++ rest)) (tlv_found prefix n rest is)

-- ---- from the function to the grammar

pub record Measured (form : LengthForm) (bytes : List ℕ) (n : ℕ) (rest : List ℕ) : Type 0 where
  pub prefix : List ℕ
  pub is_length : SpellsFieldLength form prefix n
  pub parts : bytes ≡ prefix ++ rest

-- a digit's byte, by its digit
digit_byte : (b : ℕ) → IsLengthDigit b → b ≡ 240 + (b - 240)
digit_byte b is = omega arith

llvar_read : (bytes : List ℕ) (n : ℕ) (rest : List ℕ) → decode_llvar bytes ≡ Ok (n, rest) → Measured Llvar bytes n rest
llvar_read [] n rest e = absurd cc
llvar_read (tens ∷ []) n rest e =
    elim (digit_or_other tens) [ Digit test is ↦ let none = rw test at e in absurd (cc none) | Other test not ↦ let none = rw test at e in absurd (cc none) ]
llvar_read (tens ∷ units ∷ bytes) n rest e =
    elim (digit_or_other tens) [
      | Other test not ↦ let none = rw test at e in absurd (cc none)
      | Digit first is ↦ elim (digit_or_other units) [
        | Other test not ↦ let none = rw (first, test) at e in absurd (cc none)
        | Digit second has ↦
            let both = found_length (10 * (tens - 240) + (units - 240)) n bytes rest (rw (first, second) at e) in
            record {
              prefix = tens ∷ units ∷ [];
              is_length = (tens - 240, units - 240, omega arith, omega arith, sym both.0, ap (λ (t : ℕ). t ∷ units ∷ []) (digit_byte tens is) ∙ ap (λ (u : ℕ). (240 + (tens - 240)) ∷ u ∷ []) (digit_byte units has));
              parts = ap (λ (t : List ℕ). tens ∷ units ∷ t) both.1;
            }
      ]
    ]

lllvar_by : (hundreds : ℕ) (bytes : List ℕ) (n : ℕ) (rest : List ℕ) (tail : Result (ℕ × List ℕ) LengthFault) → is_length_digit hundreds ≡ true → IsLengthDigit hundreds → decode_llvar bytes ≡ tail → with_hundreds_digit hundreds tail ≡ Ok (n, rest) → Measured Lllvar (hundreds ∷ bytes) n rest
lllvar_by hundreds bytes n rest (Err fault) test is tail e = absurd cc
lllvar_by hundreds bytes n rest (Ok (m, left)) test is tail e =
    let both = found_length (100 * (hundreds - 240) + m) n left rest e in
    let low = llvar_read bytes m left tail in
    let l = low.is_length in
    record {
      prefix = hundreds ∷ low.prefix;
      is_length = (hundreds - 240, l.0, l.1, omega arith, l.2, l.3, sym both.0 ∙ ap (λ (k : ℕ). 100 * (hundreds - 240) + k) l.4, ap (λ (h : ℕ). h ∷ low.prefix) (digit_byte hundreds is) ∙ ap (λ (t : List ℕ). (240 + (hundreds - 240)) ∷ t) l.5);
      parts = ap (λ (t : List ℕ). hundreds ∷ t) (low.parts ∙ ap (λ (r : List ℕ). low.prefix ++ r) both.1);
    }

lllvar_read : (bytes : List ℕ) (n : ℕ) (rest : List ℕ) → decode_lllvar bytes ≡ Ok (n, rest) → Measured Lllvar bytes n rest
lllvar_read [] n rest e = absurd cc
lllvar_read (hundreds ∷ bytes) n rest e =
    elim (digit_or_other hundreds) [
      | Other test not ↦ let none = rw test at e in absurd (cc none)
      | Digit test is ↦ lllvar_by hundreds bytes n rest (decode_llvar bytes) test is refl (rw test at e)
    ]

abbrev some_of : {A : Type 0} → A → Option A
some_of x = Some x

some_of_is : {A : Type 0} (x y : A) → some_of x ≡ some_of y → x ≡ y
some_of_is x y e = cc

same_length : (m n : ℕ) (xs ys : List ℕ) → some_of {A = ℕ × List ℕ} (m, xs) ≡ some_of {A = ℕ × List ℕ} (n, ys) → (m ≡ n) × (xs ≡ ys)
same_length m n xs ys e =
    let pair = some_of_is {A = ℕ × List ℕ} (m, xs) (n, ys) e in
    (ap (λ (p : ℕ × List ℕ). p.0) pair, ap (λ (p : ℕ × List ℕ). p.1) pair)

-- the first byte of a TLV length: below 80, 81, 82 or another
pub data First : ℕ → Type 0 where
  OneByte : {b : ℕ} → b < 128 → First b
  One : {b : ℕ} → b ≡ 129 → First b
  Two : {b : ℕ} → b ≡ 130 → First b
  Bad : {b : ℕ} → (b ≡ 128) ⊎ (130 < b) → First b

pub first_of : (b : ℕ) → First b
first_of b =
    elim (cases_lt b 128) [
      | inl small ↦ OneByte small
      | inr large ↦ elim (cases_eq b 129) [
        | inl e ↦ One e
        | inr ne ↦ elim (cases_eq b 130) [
          | inl e ↦ Two e
          | inr other ↦ elim (cases_eq b 128) [ inl e ↦ Bad (inl e) | inr most ↦ Bad (inr (omega arith)) ]
        ]
      ]
    ]

bad_length : (b : ℕ) (bytes : List ℕ) → (b ≡ 128) ⊎ (130 < b) → decode_tlv_length (b ∷ bytes) ≡ None
bad_length b bytes (inl is) = rw is refl
bad_length b bytes (inr above) =
    let large : ltb b 128 ≡ false = le-ltb _ _ (omega arith) in
    let not_one : eqb b 129 ≡ false = ne_eqb _ _ (λ e. omega arith) in
    let not_two : eqb b 130 ≡ false = ne_eqb _ _ (λ e. omega arith) in
    rw (large, not_one, not_two) refl

one_read : (bytes : List ℕ) (n : ℕ) (rest : List ℕ) → decode_one_byte_length bytes ≡ Some (n, rest) → Measured Tlv (129 ∷ bytes) n rest
one_read [] n rest e = absurd cc
one_read (b ∷ bytes) n rest e =
    let both = same_length b n bytes rest e in
    record { prefix = 129 ∷ b ∷ []; is_length = (refl, sym both.0); parts = ap (λ (t : List ℕ). 129 ∷ b ∷ t) both.1 }

two_read : (bytes : List ℕ) (n : ℕ) (rest : List ℕ) → decode_two_byte_length bytes ≡ Some (n, rest) → Measured Tlv (130 ∷ bytes) n rest
two_read [] n rest e = absurd cc
two_read (high ∷ []) n rest e = absurd cc
two_read (high ∷ low ∷ bytes) n rest e =
    let both = same_length (low + 256 * high) n bytes rest e in
    record { prefix = 130 ∷ high ∷ low ∷ []; is_length = (refl, sym both.0); parts = ap (λ (t : List ℕ). 130 ∷ high ∷ low ∷ t) both.1 }

tlv_by : (b : ℕ) (bytes : List ℕ) (n : ℕ) (rest : List ℕ) → First b → decode_tlv_length (b ∷ bytes) ≡ Some (n, rest) → Measured Tlv (b ∷ bytes) n rest
tlv_by b bytes n rest (OneByte small) e =
    let test : ltb b 128 ≡ true = lt-ltb _ _ small in
    let both = same_length b n bytes rest (rw test at e) in
    record { prefix = b ∷ []; is_length = (small, sym both.0); parts = ap (λ (t : List ℕ). b ∷ t) both.1 }
tlv_by b bytes n rest (One is) e = subst (λ (f : ℕ). Measured Tlv (f ∷ bytes) n rest) (sym is) (one_read bytes n rest (rw is at e))
tlv_by b bytes n rest (Two is) e = subst (λ (f : ℕ). Measured Tlv (f ∷ bytes) n rest) (sym is) (two_read bytes n rest (rw is at e))
tlv_by b bytes n rest (Bad form) e = let none = bad_length b bytes form in absurd (cc (none, e))

tlv_read : (bytes : List ℕ) (n : ℕ) (rest : List ℕ) → decode_tlv_length bytes ≡ Some (n, rest) → Measured Tlv bytes n rest
tlv_read [] n rest e = absurd cc
tlv_read (b ∷ bytes) n rest e = tlv_by b bytes n rest (first_of b) e

tlv_same : (bytes : List ℕ) (n : ℕ) (rest : List ℕ) (length : Option (ℕ × List ℕ)) → decode_tlv_length bytes ≡ length → tlv_length_or_fault bytes length ≡ Ok (n, rest) → Measured Tlv bytes n rest
tlv_same bytes n rest None is e = absurd cc
tlv_same bytes n rest (Some (m, left)) is e =
    let both = found_length m n left rest e in
    subst (λ (k : ℕ). Measured Tlv bytes k rest) both.0 (subst (λ (r : List ℕ). Measured Tlv bytes m r) both.1 (tlv_read bytes m left is))

pub length_read : (form : LengthForm) (bytes : List ℕ) (n : ℕ) (rest : List ℕ) → decode_field_length form bytes ≡ Ok (n, rest) → Measured form bytes n rest
length_read (Fixed size) bytes n rest e =
    let both = found_length size n bytes rest e in
    record { prefix = []; is_length = (refl, sym both.0); parts = both.1 }
length_read Llvar bytes n rest e = llvar_read bytes n rest e
length_read Lllvar bytes n rest e = lllvar_read bytes n rest e
length_read Tlv bytes n rest e = tlv_same bytes n rest (decode_tlv_length bytes) refl e

-- ---- a wrong byte

llvar_wrong : (bytes : List ℕ) → decode_llvar bytes ≡ Err Wrong → HasWrongDigit 2 bytes
llvar_wrong [] e = absurd cc
llvar_wrong (tens ∷ []) e =
    elim (digit_or_other tens) [ Digit test is ↦ let truncated = rw test at e in absurd (cc truncated) | Other test not ↦ inl not ]
llvar_wrong (tens ∷ units ∷ bytes) e =
    elim (digit_or_other tens) [
      | Other test not ↦ inl not
      | Digit first is ↦ elim (digit_or_other units) [ Digit second has ↦ let there = rw (first, second) at e in absurd (cc there) | Other test not ↦ inr (inl not) ]
    ]

lllvar_wrong_by : (hundreds : ℕ) (bytes : List ℕ) (tail : Result (ℕ × List ℕ) LengthFault) → decode_llvar bytes ≡ tail → with_hundreds_digit hundreds tail ≡ Err Wrong → HasWrongDigit 2 bytes
lllvar_wrong_by hundreds bytes (Ok low) tail e = absurd cc
lllvar_wrong_by hundreds bytes (Err fault) tail e = llvar_wrong bytes (cc (tail, e))

lllvar_wrong : (bytes : List ℕ) → decode_lllvar bytes ≡ Err Wrong → HasWrongDigit 3 bytes
lllvar_wrong [] e = absurd cc
lllvar_wrong (hundreds ∷ bytes) e =
    elim (digit_or_other hundreds) [
      | Other test not ↦ inl not
      | Digit test is ↦ inr (lllvar_wrong_by hundreds bytes (decode_llvar bytes) refl (rw test at e))
    ]

tlv_wrong : (bytes : List ℕ) (length : Option (ℕ × List ℕ)) → tlv_length_or_fault bytes length ≡ Err Wrong → HasWrongFieldLength Tlv bytes
tlv_wrong bytes (Some found) e = absurd cc
tlv_wrong [] None e = absurd cc
tlv_wrong (b ∷ bytes) None e =
    elim (cases_eq b 128) [
      | inl is ↦ (b, bytes, inl is, refl)
      | inr ne ↦
          let other : eqb b 128 ≡ false = ne_eqb _ _ ne in
          elim (cases_lt 130 b) [
            | inl above ↦ (b, bytes, inr above, refl)
            | inr below ↦ let test : ltb 130 b ≡ false = le-ltb _ _ below in let truncated = rw (other, test) at e in absurd (cc truncated)
          ]
    ]

pub length_wrong : (form : LengthForm) (bytes : List ℕ) → decode_field_length form bytes ≡ Err Wrong → HasWrongFieldLength form bytes
length_wrong (Fixed size) bytes e = absurd cc
length_wrong Llvar bytes e = llvar_wrong bytes e
length_wrong Lllvar bytes e = lllvar_wrong bytes e
length_wrong Tlv bytes e = tlv_wrong bytes (decode_tlv_length bytes) e

wrong_llvar : (bytes : List ℕ) → HasWrongDigit 2 bytes → decode_llvar bytes ≡ Err Wrong
wrong_llvar [] h = absurd h
wrong_llvar (tens ∷ []) (inl not) =
    elim (digit_or_other tens) [ Digit test is ↦ absurd (not is) | Other test _ ↦ rw test refl ]
wrong_llvar (tens ∷ []) (inr h) = absurd h
wrong_llvar (tens ∷ units ∷ bytes) (inl not) =
    elim (digit_or_other tens) [ Digit test is ↦ absurd (not is) | Other test _ ↦ rw test refl ]
wrong_llvar (tens ∷ units ∷ bytes) (inr (inl not)) =
    elim (digit_or_other tens) [
      | Other test _ ↦ rw test refl
      | Digit first is ↦ elim (digit_or_other units) [ Digit test has ↦ absurd (not has) | Other test _ ↦ rw (first, test) refl ]
    ]
wrong_llvar (tens ∷ units ∷ bytes) (inr (inr h)) = absurd h

wrong_lllvar : (bytes : List ℕ) → HasWrongDigit 3 bytes → decode_lllvar bytes ≡ Err Wrong
wrong_lllvar [] h = absurd h
wrong_lllvar (hundreds ∷ bytes) (inl not) =
    elim (digit_or_other hundreds) [ Digit test is ↦ absurd (not is) | Other test _ ↦ rw test refl ]
wrong_lllvar (hundreds ∷ bytes) (inr low) =
    elim (digit_or_other hundreds) [ Other test _ ↦ rw test refl | Digit test is ↦ rw test (ap (with_hundreds_digit hundreds) (wrong_llvar bytes low)) ]

wrong_fault : (b : ℕ) (more : List ℕ) → (b ≡ 128) ⊎ (130 < b) → tlv_length_fault (b ∷ more) ≡ Wrong
wrong_fault b more (inl is) = rw is refl
wrong_fault b more (inr above) =
    let other : eqb b 128 ≡ false = ne_eqb _ _ (λ e. omega arith) in
    let test : ltb 130 b ≡ true = lt-ltb _ _ above in
    rw (other, test) refl

pub wrong_length : (form : LengthForm) (bytes : List ℕ) → HasWrongFieldLength form bytes → decode_field_length form bytes ≡ Err Wrong
wrong_length (Fixed size) bytes h = absurd h
wrong_length Llvar bytes h = wrong_llvar bytes h
wrong_length Lllvar bytes h = wrong_lllvar bytes h
wrong_length Tlv bytes (b, more, bad, parts) =
    rw parts (ap (tlv_length_or_fault (b ∷ more)) (bad_length b more bad) ∙ ap (λ (f : LengthFault). Err f) (wrong_fault b more bad))

-- more bytes after a wrong one leave it wrong
wrong_digit_longer : (count : ℕ) (bytes more : List ℕ) → HasWrongDigit count bytes → HasWrongDigit count (bytes ++ more)
wrong_digit_longer zero bytes more h = absurd h
wrong_digit_longer (suc count) [] more h = absurd h
wrong_digit_longer (suc count) (b ∷ bytes) more (inl not) = inl not
wrong_digit_longer (suc count) (b ∷ bytes) more (inr h) = inr (wrong_digit_longer count bytes more h)

pub wrong_longer : (form : LengthForm) (bytes more : List ℕ) → HasWrongFieldLength form bytes → HasWrongFieldLength form (bytes ++ more)
wrong_longer (Fixed size) bytes more h = absurd h
wrong_longer Llvar bytes more h = wrong_digit_longer 2 bytes more h
wrong_longer Lllvar bytes more h = wrong_digit_longer 3 bytes more h
wrong_longer Tlv bytes more (b, after, bad, parts) = (b, after ++ more, bad, ap (λ (t : List ℕ). t ++ more) parts)
