-- Money that was written is read again.
use Rattle.std.proofs.Common.{◌≡◌, ℕ, ◌+◌, ◌/◌, ◌%◌, ◌^◌, ◌<◌, ◌≤◌, List, [], ◌∷◌, ◌++◌, Some, Bool, true, false, refl, sym, ap, subst, ◌∙◌, inl, inr, length, take, drop, not, ◌&&◌, ◌||◌, ◌==◌, arith, decimal}
use Rattle.std.specs.Char.{is_ascii_digit}
use Rattle.std.proofs.Math.Seq.{take-append_seam, drop-append_seam}
use Rattle.std.specs.List.{list_all, prefix_len}
use Rattle.std.proofs.lemmas.Fmt.{decimal_by_steps}
use Rattle.std.proofs.lemmas.List.{append-nil}
use Rattle.std.proofs.lemmas.Bool.Decides.{nat_tests}
use Rattle.std.proofs.lemmas.Bool.{eqb-true}
use Rattle.gw_base.specs.Amount.{decimal_value, fraction_of, has_no_digits, is_amount, is_whole, minor_units, minor_units_of, minor_units_with, rest_of, whole_of}
use Rattle.gw_base.specs.Digits.{digits}
use Rattle.gw_base.specs.Limits.{IsAmount}
use Rattle.gw_base.proofs.AmountLemmas.{decimal_value-snoc}
use Rattle.json_text.specs.Number.{IsDigit, AreDigits, IsInt, IsNumberText}
use Rattle.sale_values.specs.Money.{money_text}

-- a digit
digit_is : (d : ℕ) → d < 10 → is_ascii_digit (48 + d) ≡ true
digit_is d h = grind (arith, nat_tests)

both : (a b : Bool) → (a && b) ≡ true → (a ≡ true) × (b ≡ true)
both true b h = (refl, h)
both false b h = absurd cc

-- the first byte is no zero, where there are others
abbrev pub IsTrim : List ℕ → Type 0
IsTrim [] = ⊥
IsTrim (digit ∷ digits) = (digit ≡ 48) → digits ≡ []

-- decimal digits of a number
pub record SpellsNumber (n : ℕ) (text : List ℕ) : Type 0 where
  pub digits : list_all is_ascii_digit text ≡ true
  pub value : decimal_value text ≡ n
  pub trim : IsTrim text

digits_snoc : (text : List ℕ) (d : ℕ) → list_all is_ascii_digit text ≡ true → is_ascii_digit d ≡ true → list_all is_ascii_digit (text ++ d ∷ []) ≡ true
digits_snoc [] d h k = rw k refl
digits_snoc (x ∷ text) d h k =
    let p = both (is_ascii_digit x) (list_all is_ascii_digit text) h in
    let here : is_ascii_digit x ≡ true = p.0 in
    rw here (digits_snoc text d p.1 k)

one_digit : (n : ℕ) → n < 10 → SpellsNumber n ((48 + n) ∷ [])
one_digit n h = record { digits = rw (digit_is n h) refl; value = omega arith; trim = λ e. refl }

trim_more : (n c : ℕ) (text : List ℕ) → 1 ≤ n → decimal_value text ≡ n → IsTrim text → IsTrim (text ++ c ∷ [])
trim_more n c [] p v t = absurd t
trim_more n c (x ∷ text) p v t =
    λ e.
    let P : List ℕ → Type 0 = λ l. decimal_value (x ∷ l) ≡ n in
    let w : decimal_value (x ∷ []) ≡ n = subst P (t e) v in
    absurd (omega arith)

more_digits : (n : ℕ) (text : List ℕ) → 10 ≤ n → SpellsNumber (n / 10) text → SpellsNumber n (text ++ ((48 + n % 10) ∷ []))
more_digits n text h s = record {
  digits = digits_snoc text (48 + n % 10) s.digits (digit_is (n % 10) (omega arith));
  value = decimal_value-snoc text (48 + n % 10) ∙ omega (arith, s.value);
  trim = trim_more (n / 10) (48 + n % 10) text (omega arith) s.value s.trim;
}

pub decimal_spells : (n : ℕ) → n < 2 ^ 64 → SpellsNumber n (decimal n)
decimal_spells n h = decimal_by_steps SpellsNumber one_digit more_digits n h

whole_is : (text : List ℕ) → list_all is_ascii_digit text ≡ true → IsTrim text → is_whole text ≡ true
whole_is [] h t = absurd t
whole_is (x ∷ text) h t = rw h (by (x == 48) refl)
  where
    by : (b : Bool) → (x == 48) ≡ b → (not b || has_no_digits text) ≡ true
    by true e = ap has_no_digits (t (eqb-true x 48 e))
    by false e = refl

prefix_is : (text rest : List ℕ) → list_all is_ascii_digit text ≡ true → prefix_len is_ascii_digit (text ++ 0x2E ∷ rest) ≡ length text
prefix_is [] rest h = refl
prefix_is (x ∷ text) rest h =
    let p = both (is_ascii_digit x) (list_all is_ascii_digit text) h in
    let here : is_ascii_digit x ≡ true = p.0 in
    let later : prefix_len is_ascii_digit (text ++ 0x2E ∷ rest) ≡ length text = prefix_is text rest p.1 in
    rw here (omega (arith, later))

fraction_is : (m : ℕ) → m < 100 → fraction_of (0x2E ∷ digits 2 m) ≡ Some (digits 2 m)
fraction_is m h = rw (digit_is (m / 10 % 10) (omega arith), digit_is (m % 10) (omega arith)) refl

amount_is : (n : ℕ) → IsAmount n → is_amount n ≡ true
amount_is n h = let low = h.0 in let high = h.1 in grind (arith, nat_tests)

value_is : (n : ℕ) (text : List ℕ) → decimal_value text ≡ n / 100 → minor_units_of text (digits 2 (n % 100)) ≡ n
value_is n text e = omega (arith, e)

chosen : (n : ℕ) (text fraction : List ℕ) → is_whole text ≡ true → list_all (λ digit. digit == 0x30) (drop 2 fraction) ≡ true
    → minor_units_of text fraction ≡ n → is_amount n ≡ true → minor_units_with text (Some fraction) ≡ Some n
chosen n text fraction w z v a =
    let b : is_amount (minor_units_of text fraction) ≡ true = ap is_amount v ∙ a in rw (w, z, b) (ap (λ (x : ℕ). Some x) v)

-- the minor units that were written
pub money_again : (n : ℕ) → IsAmount n → minor_units (money_text n) ≡ Some n
unfolding minor_units money_text
money_again n h =
    let s = decimal_spells (n / 100) (omega (arith, h.1)) in
    let whole = decimal (n / 100) in
    let text : List ℕ = whole ++ 0x2E ∷ digits 2 (n % 100) in
    let count = prefix_is whole (digits 2 (n % 100)) s.digits in
    let prefix : whole_of text ≡ whole =
    ap (λ k. take k text) count ∙ take-append_seam whole (0x2E ∷ digits 2 (n % 100)) in
    let back : rest_of text ≡ 0x2E ∷ digits 2 (n % 100) =
    ap (λ k. drop k text) count ∙ drop-append_seam whole (0x2E ∷ digits 2 (n % 100)) in
    ap (λ w. minor_units_with w (fraction_of (rest_of text))) prefix
    ∙ ap (λ r. minor_units_with whole (fraction_of r)) back
    ∙ ap (minor_units_with whole) (fraction_is (n % 100) (omega arith))
    ∙ chosen n whole (digits 2 (n % 100)) (whole_is whole s.digits s.trim) refl (value_is n whole s.value) (amount_is n h)

-- ---- the text is a number's

digit_meaning : (c : ℕ) → is_ascii_digit c ≡ true → IsDigit c
digit_meaning c h = (grind (arith, nat_tests), grind (arith, nat_tests))

digits_meaning : (text : List ℕ) → list_all is_ascii_digit text ≡ true → AreDigits text
digits_meaning [] h = tt
digits_meaning (c ∷ text) h =
    let p = both (is_ascii_digit c) (list_all is_ascii_digit text) h in (digit_meaning c p.0, digits_meaning text p.1)

int_is : (text : List ℕ) → list_all is_ascii_digit text ≡ true → IsTrim text → IsInt text
int_is [] h t = absurd t
int_is (c ∷ text) h t =
    let p = both (is_ascii_digit c) (list_all is_ascii_digit text) h in
    by (digit_meaning c p.0) (digits_meaning text p.1) (c == 48) refl
  where
    by : IsDigit c → AreDigits text → (b : Bool) → (c == 48) ≡ b → IsInt (c ∷ text)
    by d ds true e = inl (eqb-true c 48 e, t (eqb-true c 48 e))
    by d ds false e = let low = d.0 in inr (grind (arith, nat_tests), d.1, ds)

fraction_digits : (m : ℕ) → m < 100 → AreDigits (digits 2 m)
fraction_digits m h = ((omega arith, omega arith), ((omega arith, omega arith), tt))

-- what is written is a number
pub money_number : (n : ℕ) → n < 2 ^ 64 → IsNumberText (money_text n)
unfolding money_text
money_number n h =
    let s = decimal_spells (n / 100) (omega arith) in
    let rest : List ℕ = 0x2E ∷ digits 2 (n % 100) in
    let d = fraction_digits (n % 100) (omega arith) in
    inl (record {
      int = decimal (n / 100);
      rest = rest;
      parts = refl;
      int_is = int_is (decimal (n / 100)) s.digits s.trim;
      rest_is = record { frac = rest; exp = []; parts = refl; frac_is = (refl, (d.0, d.1)); exp_is = tt };
    })

-- ---- the text determines the money

-- the number before the point
abbrev wholes : List ℕ → ℕ
wholes text = decimal_value (whole_of text)

whole_prefix : (n : ℕ) → n < 2 ^ 64 → whole_of (money_text n) ≡ decimal (n / 100)
unfolding money_text
whole_prefix n h =
    let s = decimal_spells (n / 100) (omega arith) in
    let whole = decimal (n / 100) in
    let rest : List ℕ = 0x2E ∷ digits 2 (n % 100) in
    ap (λ k. take k (whole ++ rest)) (prefix_is whole (digits 2 (n % 100)) s.digits) ∙ take-append_seam whole rest

fraction_back : (n : ℕ) → n < 2 ^ 64 → rest_of (money_text n) ≡ 0x2E ∷ digits 2 (n % 100)
unfolding money_text
fraction_back n h =
    let s = decimal_spells (n / 100) (omega arith) in
    let whole = decimal (n / 100) in
    let rest : List ℕ = 0x2E ∷ digits 2 (n % 100) in
    ap (λ k. drop k (whole ++ rest)) (prefix_is whole (digits 2 (n % 100)) s.digits) ∙ drop-append_seam whole rest

-- the number that the digits after a point spell
abbrev cents_of : List ℕ → ℕ
cents_of [] = 0
cents_of (point ∷ digits) = decimal_value digits

wholes_is : (n : ℕ) → n < 2 ^ 64 → wholes (money_text n) ≡ n / 100
wholes_is n h = let s = decimal_spells (n / 100) (omega arith) in ap decimal_value (whole_prefix n h) ∙ s.value

cents_is : (n : ℕ) → n < 2 ^ 64 → cents_of (rest_of (money_text n)) ≡ n % 100
cents_is n h = ap cents_of (fraction_back n h) ∙ omega arith

-- no two sums are written alike
pub money_one : (m n : ℕ) → m < 2 ^ 64 → n < 2 ^ 64 → money_text m ≡ money_text n → m ≡ n
money_one m n small low e =
    let whole : m / 100 ≡ n / 100 = sym (wholes_is m small) ∙ ap wholes e ∙ wholes_is n low in
    let cents : m % 100 ≡ n % 100 = sym (cents_is m small) ∙ ap (λ t. cents_of (rest_of t)) e ∙ cents_is n low in
    omega arith

-- decimal digits are a number
pub decimal_number : (n : ℕ) → n < 2 ^ 64 → IsNumberText (decimal n)
decimal_number n h =
    let s = decimal_spells n h in
    inl (record {
      int = decimal n;
      rest = [];
      parts = sym (append-nil (decimal n));
      int_is = int_is (decimal n) s.digits s.trim;
      rest_is = record { frac = []; exp = []; parts = refl; frac_is = tt; exp_is = tt };
    })
