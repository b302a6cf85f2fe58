-- Amounts in the text of a JSON number.
use Rattle.std.proofs.Common.{◌≡◌, ℕ, suc, ◌+◌, ◌-◌, ◌*◌, ◌^◌, ◌<◌, ◌≤◌, List, [], ◌∷◌, ◌++◌, All, length, take, get_or, arith, sym, ◌∙◌, ap, length-append, length-take, refl, Bool, true, false, not, ◌||◌, ◌&&◌, ◌==◌, ◌≢◌, Option, Some, None, MatchOption, if◌then◌else◌, drop, subst, take-append-drop}
use Rattle.std.proofs.Math.Nat.{pow-suc, mul_assoc, mul-le-mul_right, add-mul, pow-le-pow_right}
use Rattle.std.proofs.lemmas.List.{append-nil, take_more}
use Rattle.std.proofs.lemmas.List.Elements.{All-nil, All-head, All-tail, All-take}
use Rattle.std.specs.Char.{is_ascii_digit, IsAsciiDigit}
use Rattle.std.specs.List.{list_all, prefix_len}
use Rattle.std.specs.Bool.{Decides}
use Rattle.std.proofs.lemmas.Bool.Decides.{nat_tests, Decides-and, Decides-at, Decides-by_and, Decides-eqb, Decides-like, Decides-not}
use Rattle.std.proofs.Math.Bool.{and-false, and-true, or-false, or-true}
use Rattle.std.proofs.Math.Seq.{take-append_seam, drop-append_seam}
use Rattle.gw_base.specs.Amount.{decimal_value, fraction_of, is_amount, has_no_digits, is_whole, minor_units, minor_units_of, minor_units_with, numeral_text, rest_of, whole_of, SpellsAmount, IsWhole}
use Rattle.gw_base.specs.Limits.{IsAmount}

-- ten to one power more
ten_more : (n m k : ℕ) → m ≡ n + 1 → k * 10 ^ m ≡ 10 * (k * 10 ^ n)
ten_more n m k e =
    let e2 : m ≡ suc n = omega arith in
    let p : 10 ^ m ≡ 10 ^ n * 10 = ap (λ x. 10 ^ x) e2 ∙ pow-suc 10 n in
    let q : k * (10 ^ n * 10) ≡ k * 10 ^ n * 10 = sym (mul_assoc k (10 ^ n) 10) in
    let r : k * 10 ^ m ≡ k * 10 ^ n * 10 = ap (λ x. k * x) p ∙ q in
    omega arith

-- one more digit at the end makes the number ten times as large
pub decimal_value-snoc : (digits : List ℕ) (digit : ℕ) → decimal_value (digits ++ digit ∷ []) ≡ 10 * decimal_value digits + (digit - 48)
decimal_value-snoc [] digit = omega arith
decimal_value-snoc (first ∷ digits) digit =
    let e : length (digits ++ digit ∷ []) ≡ length digits + 1 = length-append digits (digit ∷ []) in
    let p : (first - 48) * 10 ^ length (digits ++ digit ∷ []) ≡ 10 * ((first - 48) * 10 ^ length digits) =
    ten_more (length digits) _ (first - 48) e in
    let h : decimal_value (digits ++ digit ∷ []) ≡ 10 * decimal_value digits + (digit - 48) = decimal_value-snoc digits digit in
    omega (arith, p, h)

-- digits spell less than their count allows
pub decimal_value_bound : (digits : List ℕ) → All IsAsciiDigit digits → decimal_value digits < 10 ^ length digits
decimal_value_bound [] all = omega arith
decimal_value_bound (digit ∷ digits) all =
    let p : digit - 48 ≤ 9 = omega (arith, All-head IsAsciiDigit digit digits all) in
    let h : decimal_value digits < 10 ^ length digits = decimal_value_bound digits (All-tail IsAsciiDigit digit digits all) in
    let q : (digit - 48 + 1) * 10 ^ length digits ≤ 10 * 10 ^ length digits = mul-le-mul_right (10 ^ length digits) (omega arith) in
    let e : (digit - 48 + 1) * 10 ^ length digits ≡ (digit - 48) * 10 ^ length digits + 1 * 10 ^ length digits =
    add-mul (digit - 48) 1 (10 ^ length digits) in
    let s : 10 ^ suc (length digits) ≡ 10 ^ length digits * 10 = pow-suc 10 (length digits) in
    omega (arith, q, e, s, h)

-- fewer than ten digits spell a number below 1,000,000,000
pub decimal_value-small : (digits : List ℕ) (count : ℕ) → All IsAsciiDigit digits → count < length digits → length digits ≤ 10
    → decimal_value (take count digits) < 1000000000
decimal_value-small digits count all inside few =
    let b : decimal_value (take count digits) < 10 ^ length (take count digits) = decimal_value_bound (take count digits) (All-take IsAsciiDigit count digits all) in
    let n : length (take count digits) ≤ 9 = omega (arith, length-take count digits) in
    let p : 10 ^ length (take count digits) ≤ 10 ^ 9 = pow-le-pow_right {n = 10} (omega arith) n in
    omega (arith, b, p)

-- ten digits spell a number below 10,000,000,000
pub decimal_value-ten : (digits : List ℕ) → All IsAsciiDigit digits → length digits ≤ 10 → decimal_value digits < 10000000000
decimal_value-ten digits all few =
    let p : 10 ^ length digits ≤ 10 ^ 10 = pow-le-pow_right {n = 10} (omega arith) few in
    omega (arith, decimal_value_bound digits all, p)

-- the digits up to one more
pub decimal_take-more : (digits : List ℕ) (count : ℕ) → count < length digits
    → decimal_value (take (count + 1) digits) ≡ 10 * decimal_value (take count digits) + (get_or digits count 0 - 48)
decimal_take-more digits count inside = ap decimal_value (take_more digits count 0 inside) ∙ decimal_value-snoc (take count digits) (get_or digits count 0)

-- a test of digits, and the fact that it tests
digit_test : (byte : ℕ) → Decides (is_ascii_digit byte) (IsAsciiDigit byte)
digit_test byte = (λ e. grind (arith, nat_tests), λ h. grind (arith, nat_tests))

digits_test : (digits : List ℕ) → Decides (list_all is_ascii_digit digits) (All IsAsciiDigit digits)
digits_test digits =
    Decides-by_and is_ascii_digit IsAsciiDigit (list_all is_ascii_digit) digit_test refl (λ _ _. refl) digits

zeros_test : (digits : List ℕ) → Decides (list_all (λ digit. digit == 48) digits) (All (λ digit. digit ≡ 48) digits)
zeros_test digits =
    Decides-by_and (λ digit. digit == 48) (λ digit. digit ≡ 48) (list_all (λ digit. digit == 48)) (λ digit. Decides-eqb digit 48) refl (λ _ _. refl) digits

-- no zero at the head, or nothing after it
head_test : (digit : ℕ) (digits : List ℕ) → Decides (not (digit == 48) || has_no_digits digits) (digit ≡ 48 → digits ≡ [])
head_test digit [] = (λ e h. refl, λ h. simp or-true)
head_test digit (next ∷ digits) =
    Decides-like (not (digit == 48) || false) (λ n e. absurd (n e)) (λ h e. cons-ne-nil next digits (h e))
    (Decides-at (not (digit == 48) || false) (not (digit == 48)) (or-false (not (digit == 48)))
    (Decides-not (digit == 48) (Decides-eqb digit 48)))
  where
    cons-ne-nil : (x : ℕ) (xs : List ℕ) → x ∷ xs ≡ [] → ⊥
    cons-ne-nil x xs e = cc

whole_test : (digits : List ℕ) → Decides (is_whole digits) (IsWhole digits)
whole_test [] = (λ e. cc, λ h. absurd h)
whole_test (digit ∷ digits) =
    Decides-and (list_all is_ascii_digit (digit ∷ digits)) (not (digit == 48) || has_no_digits digits)
    (digits_test (digit ∷ digits)) (head_test digit digits)

amount_test : (units : ℕ) → Decides (is_amount units) (IsAmount units)
amount_test units = (λ e. grind (arith, nat_tests), λ h. grind (arith, nat_tests))

-- more than ten digits before the point are too many
pub too_long : (whole fraction : List ℕ) → is_whole whole ≡ true → 10 < length whole → is_amount (minor_units_of whole fraction) ≡ false
too_long [] fraction e long = absurd (omega arith)
too_long (digit ∷ digits) fraction e long =
    let whole : IsWhole (digit ∷ digits) = (whole_test (digit ∷ digits)).0 e in
    let here : IsAsciiDigit digit = All-head IsAsciiDigit digit digits whole.0 in
    let first : digit ≢ 48 = λ zero. let empty : length digits ≡ 0 = ap length (whole.1 zero) in absurd (omega arith) in
    let q : 1 * 10 ^ length digits ≤ (digit - 48) * 10 ^ length digits = mul-le-mul_right (10 ^ length digits) (omega arith) in
    let ten : 10 ≤ length digits = omega arith in
    let p : 10 ^ 10 ≤ 10 ^ length digits = pow-le-pow_right {n = 10} (omega arith) ten in
    let large : 999999999999 < minor_units_of (digit ∷ digits) fraction = omega (arith, q, p) in
    let no : ¬ IsAmount (minor_units_of (digit ∷ digits) fraction) = λ amount. omega (arith, large, amount.1) in
    not_true (is_amount (minor_units_of (digit ∷ digits) fraction)) (λ yes. no ((amount_test (minor_units_of (digit ∷ digits) fraction)).0 yes))
  where
    not_true : (b : Bool) → (b ≡ true → ⊥) → b ≡ false
    not_true true h = absurd (h refl)
    not_true false h = refl

-- what follows the whole digits of a numeral
abbrev tail_of : List ℕ → List ℕ
tail_of [] = []
tail_of (digit ∷ digits) = 0x2E ∷ digit ∷ digits

numeral_text-tail : (whole fraction : List ℕ) → numeral_text whole fraction ≡ whole ++ tail_of fraction
numeral_text-tail whole [] = sym (append-nil whole)
numeral_text-tail whole (digit ∷ digits) = refl

-- the whole digits end where a numeral's point or end is
prefix_len-tail : (whole fraction : List ℕ) → All IsAsciiDigit whole → prefix_len is_ascii_digit (whole ++ tail_of fraction) ≡ length whole
prefix_len-tail [] [] all = refl
prefix_len-tail [] (digit ∷ digits) all = refl
prefix_len-tail (first ∷ whole) fraction all =
    let here : is_ascii_digit first ≡ true = (digit_test first).1 (All-head IsAsciiDigit first whole all) in
    let later : prefix_len is_ascii_digit (whole ++ tail_of fraction) ≡ length whole = prefix_len-tail whole fraction (All-tail IsAsciiDigit first whole all) in
    rw here (omega (arith, later))

fraction_of-tail : (fraction : List ℕ) → All IsAsciiDigit fraction → fraction_of (tail_of fraction) ≡ Some fraction
fraction_of-tail [] all = refl
fraction_of-tail (digit ∷ digits) all = let e : list_all is_ascii_digit (digit ∷ digits) ≡ true = (digits_test (digit ∷ digits)).1 all in rw e refl

list_all_zeros : (fraction : List ℕ) → All (λ digit. digit ≡ 48) fraction → list_all (λ digit. digit == 48) fraction ≡ true
list_all_zeros fraction all = (zeros_test fraction).1 all

-- an amount is read
pub minor_units-text : (text : List ℕ) (units : ℕ) → SpellsAmount text units → minor_units text ≡ Some units
unfolding minor_units
minor_units-text text units a =
    let digits : All IsAsciiDigit a.whole = whole_digits a.whole a.whole_digits in
    let spelling : text ≡ a.whole ++ tail_of a.fraction = a.spelling ∙ numeral_text-tail a.whole a.fraction in
    let count : prefix_len is_ascii_digit text ≡ length a.whole = ap (prefix_len is_ascii_digit) spelling ∙ prefix_len-tail a.whole a.fraction digits in
    let prefix : whole_of text ≡ a.whole =
    ap (λ n. take n text) count ∙ ap (take (length a.whole)) spelling ∙ take-append_seam a.whole (tail_of a.fraction) in
    let back : rest_of text ≡ tail_of a.fraction =
    ap (λ n. drop n text) count ∙ ap (drop (length a.whole)) spelling ∙ drop-append_seam a.whole (tail_of a.fraction) in
    let fraction : fraction_of (rest_of text) ≡ Some a.fraction = ap fraction_of back ∙ fraction_of-tail a.fraction a.fraction_digits in
    let joined : minor_units_with (whole_of text) (fraction_of (rest_of text)) ≡ minor_units_with a.whole (Some a.fraction) =
    ap (λ w. minor_units_with w (fraction_of (rest_of text))) prefix ∙ ap (minor_units_with a.whole) fraction in
    joined ∙ passes a.whole a.fraction ((whole_test a.whole).1 a.whole_digits) ((zeros_test (drop 2 a.fraction)).1 a.zeros_past_second)
    ((amount_test (minor_units_of a.whole a.fraction)).1 (subst IsAmount a.value a.amount))
    ∙ ap Some (sym a.value)
  where
    whole_digits : (whole : List ℕ) → IsWhole whole → All IsAsciiDigit whole
    whole_digits [] h = absurd h
    whole_digits (digit ∷ digits) h = h.0

    passes : (whole fraction : List ℕ) → is_whole whole ≡ true → list_all (λ digit. digit == 48) (drop 2 fraction) ≡ true
        → is_amount (minor_units_of whole fraction) ≡ true → minor_units_with whole (Some fraction) ≡ Some (minor_units_of whole fraction)
    passes whole fraction e f g = rw (e, f, g) refl

-- a choice that gives a value took the value
picked : {X : Type 0} (test : Bool) (x y : X) → (if test then Some x else None) ≡ Some y → (test ≡ true) × (x ≡ y)
picked true x y e = (refl, cc)
picked false x y e = absurd (cc)

-- the rest of a numeral with these digits after the point
tail_is : (rest fraction : List ℕ) → fraction_of rest ≡ Some fraction → (rest ≡ tail_of fraction) × All IsAsciiDigit fraction
tail_is [] fraction e = let empty : [] ≡ fraction = cc in (ap tail_of empty, subst (All IsAsciiDigit) empty (All-nil IsAsciiDigit))
tail_is (byte ∷ []) fraction e =
    let h = picked (((byte == 0x2E) && false) && true) [] fraction e in
    let no : (((byte == 0x2E) && false) && true) ≡ false = simp (and-false) in
    let f : true ≡ false = sym h.0 ∙ no in absurd (cc)
tail_is (byte ∷ digit ∷ digits) fraction e =
    let h = picked (((byte == 0x2E) && true) && list_all is_ascii_digit (digit ∷ digits)) (digit ∷ digits) fraction e in
    let point = Decides-at ((byte == 0x2E) && true) (byte == 0x2E) (and-true (byte == 0x2E)) (Decides-eqb byte 0x2E) in
    let both = (Decides-and ((byte == 0x2E) && true) (list_all is_ascii_digit (digit ∷ digits)) point (digits_test (digit ∷ digits))).0 h.0 in
    (ap (λ b. b ∷ digit ∷ digits) both.0 ∙ ap tail_of h.1, subst (All IsAsciiDigit) h.1 both.1)

-- what is read is an amount
amount_of : (text fraction : List ℕ) (units : ℕ) → fraction_of (rest_of text) ≡ Some fraction → minor_units_with (whole_of text) (Some fraction) ≡ Some units → SpellsAmount text units
amount_of text fraction units e f =
    let whole = whole_of text in
    let tail = tail_is (rest_of text) fraction e in
    let chosen = picked (is_whole whole && list_all (λ digit. digit == 48) (drop 2 fraction) && is_amount (minor_units_of whole fraction))
    (minor_units_of whole fraction) units f in
    let tests = (Decides-and (is_whole whole && list_all (λ digit. digit == 48) (drop 2 fraction)) (is_amount (minor_units_of whole fraction))
    (Decides-and (is_whole whole) (list_all (λ digit. digit == 48) (drop 2 fraction)) (whole_test whole) (zeros_test (drop 2 fraction)))
    (amount_test (minor_units_of whole fraction))).0 chosen.0 in
    let joined : whole ++ rest_of text ≡ text = take-append-drop (prefix_len is_ascii_digit text) text in
    record {
      whole = whole;
      fraction = fraction;
      spelling = sym joined ∙ ap (λ rest. whole ++ rest) tail.0 ∙ sym (numeral_text-tail whole fraction);
      whole_digits = tests.0.0;
      fraction_digits = tail.1;
      zeros_past_second = tests.0.1;
      value = sym chosen.1;
      amount = subst IsAmount chosen.1 tests.1;
    }

pub minor_units-is : (text : List ℕ) (units : ℕ) → minor_units text ≡ Some units → SpellsAmount text units
unfolding minor_units
minor_units-is text units e = by_case (fraction_of (rest_of text)) refl e
  where
    by_case : (found : Option (List ℕ)) → fraction_of (rest_of text) ≡ found → minor_units_with (whole_of text) found ≡ Some units → SpellsAmount text units
    by_case None h g = absurd (cc)
    by_case (Some fraction) h g = amount_of text fraction units h g

-- the text is an amount of just the minor units that are read
pub minor_units-meaning : (text : List ℕ) → MatchOption (minor_units text) ((units : ℕ) → ¬ SpellsAmount text units) (SpellsAmount text)
minor_units-meaning text = by_case (minor_units text) refl
  where
    by_case : (found : Option ℕ) → minor_units text ≡ found → MatchOption found ((units : ℕ) → ¬ SpellsAmount text units) (SpellsAmount text)
    by_case None e = λ units a. let f : None ≡ Some units = sym e ∙ minor_units-text text units a in absurd (cc)
    by_case (Some units) e = minor_units-is text units e

-- minor units beyond the limits are none
pub minor_units_with-large : (whole fraction : List ℕ) → is_amount (minor_units_of whole fraction) ≡ false → minor_units_with whole (Some fraction) ≡ None
minor_units_with-large whole fraction e = rw e (simp and-false)

-- a text spells one amount at most
pub amount_text-one : (text : List ℕ) (units other : ℕ) → SpellsAmount text units → SpellsAmount text other → units ≡ other
amount_text-one text units other a b =
    let e : Some units ≡ Some other = sym (minor_units-text text units a) ∙ minor_units-text text other b in cc
