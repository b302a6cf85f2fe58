-- What each byte of a number leaves.
use Rattle.std.proofs.Common.{◌≡◌, ◌≢◌, ℕ, ◌≤◌, List, [], ◌∷◌, ◌++◌, refl, sym, ap, subst, ◌∙◌, arith, inl, inr, ◌⊎◌}
use Rattle.json_text.specs.Number.{IsDigit, AreDigits, IsDigits, IsInt, IsFrac, IsSigned, IsExp, IsFraction, IsMagnitude, IsNumberText}
use Rattle.json_text.specs.inner.NumberLeft.{DigitsThen, LeftOfNumber, IsNumberByte, LeavesNumber, EndsNumber, TakesDigits}
use Rattle.json_text.specs.declared.number.NumberState.{NumberState}
use Rattle.json_text.specs.declared.number.NumberState.TheVariants as number_states
use Rattle.json_text.proofs.ListLemmas.{head_is, tail_is, not_nil}

-- ---- bytes

pub digit_byte : (c : ℕ) → IsDigit c → IsNumberByte c
digit_byte c d = record { ascii = omega arith; printed = omega arith; no_backslash = omega arith; no_space = (omega arith, omega arith, omega arith, omega arith); no_mark = (omega arith, omega arith, omega arith, omega arith) }

pub other_byte : (c : ℕ) → (c ≡ 45) ⊎ ((c ≡ 43) ⊎ ((c ≡ 46) ⊎ ((c ≡ 101) ⊎ (c ≡ 69)))) → IsNumberByte c
other_byte c h = record { ascii = omega arith; printed = omega arith; no_backslash = omega arith; no_space = (omega arith, omega arith, omega arith, omega arith); no_mark = (omega arith, omega arith, omega arith, omega arith) }

-- ---- the exponent

exp_head : (c : ℕ) (s : List ℕ) → IsExp (c ∷ s) → (c ≡ 101) ⊎ (c ≡ 69)
exp_head c s h = h.0

pub exponent_digit : (c : ℕ) → IsDigit c → LeavesNumber (LeftOfNumber number_states.Exponent) c number_states.Exponent
exponent_digit c d = record { on = λ s h. h.1; back = λ s h. (d, h); byte = digit_byte c d }

pub sign_digit : (c : ℕ) → IsDigit c → LeavesNumber (LeftOfNumber number_states.Sign) c number_states.Exponent
sign_digit c d = record { on = λ s h. h.1; back = λ s h. (d, h); byte = digit_byte c d }

pub letter_digit : (c : ℕ) → IsDigit c → LeavesNumber (LeftOfNumber number_states.Letter) c number_states.Exponent
letter_digit c d = record { on = λ s h. on s h; back = λ s h. inl (d, h); byte = digit_byte c d }
  where
    on : (s : List ℕ) → LeftOfNumber number_states.Letter (c ∷ s) → AreDigits s
    on s (inl h) = h.1
    on s (inr h) = absurd (omega (arith, h.0))

pub letter_sign : (c : ℕ) → (c ≡ 43) ⊎ (c ≡ 45) → LeavesNumber (LeftOfNumber number_states.Letter) c number_states.Sign
letter_sign c is = record { on = λ s h. on s h; back = λ s h. inr (is, h); byte = other_byte c (byte is) }
  where
    byte : (c ≡ 43) ⊎ (c ≡ 45) → (c ≡ 45) ⊎ ((c ≡ 43) ⊎ ((c ≡ 46) ⊎ ((c ≡ 101) ⊎ (c ≡ 69))))
    byte (inl e) = inr (inl e)
    byte (inr e) = inl e

    on : (s : List ℕ) → LeftOfNumber number_states.Letter (c ∷ s) → IsDigits s
    on s (inl h) = absurd (omega (arith, h.0, is))
    on s (inr h) = h.1

pub letter_stops : (c : ℕ) → (IsDigit c → ⊥) → c ≢ 43 → c ≢ 45 → EndsNumber (LeftOfNumber number_states.Letter) c
letter_stops c d p m s (inl h) = d h.0
letter_stops c d p m s (inr h) = omega (arith, h.0)

-- ---- after the point

-- the first byte of digits and what comes after them
pub data First (D P : List ℕ → Type 0) (c : ℕ) (s : List ℕ) : Type 0 where
  rest : D [] → P (c ∷ s) → First D P c s
  digit : (more r : List ℕ) → s ≡ more ++ r → D (c ∷ more) → P r → First D P c s

pub first_of : (D P : List ℕ → Type 0) (c : ℕ) (s : List ℕ) → DigitsThen D P (c ∷ s) → First D P c s
first_of D P c s h = on h.digits h.parts h.digits_are
  where
    on : (digits : List ℕ) → c ∷ s ≡ digits ++ h.rest → D digits → First D P c s
    on [] p d = rest d (subst (λ (l : List ℕ). P l) (sym p) h.rest_is)
    on (x ∷ more) p d = digit more h.rest (tail_is _ _ _ _ p) (subst (λ (k : ℕ). D (k ∷ more)) (sym (head_is _ _ _ _ p)) d) h.rest_is

one_digit : (D P : List ℕ → Type 0) (c : ℕ) (s : List ℕ) → ((more : List ℕ) → AreDigits more → D (c ∷ more)) → DigitsThen AreDigits P s → DigitsThen D P (c ∷ s)
one_digit D P c s d h = record { digits = c ∷ h.digits; rest = h.rest; parts = ap (λ (l : List ℕ). c ∷ l) h.parts; digits_are = d h.digits h.digits_are; rest_is = h.rest_is }

no_digits : (D P : List ℕ → Type 0) (s : List ℕ) → D [] → P s → DigitsThen D P s
no_digits D P s d p = record { digits = []; rest = s; parts = refl; digits_are = d; rest_is = p }

pub fraction_digit : (c : ℕ) → IsDigit c → LeavesNumber (LeftOfNumber number_states.Fraction) c number_states.Fraction
fraction_digit c d = record { on = λ s h. on s (first_of AreDigits IsExp c s h); back = λ s h. one_digit AreDigits IsExp c s (λ more m. (d, m)) h; byte = digit_byte c d }
  where
    on : (s : List ℕ) → First AreDigits IsExp c s → LeftOfNumber number_states.Fraction s
    on s (rest n e) = absurd (omega (arith, e.0))
    on s (digit more r p m e) = record { digits = more; rest = r; parts = p; digits_are = m.1; rest_is = e }

letter_byte : (c : ℕ) → (c ≡ 101) ⊎ (c ≡ 69) → IsNumberByte c
letter_byte c is = other_byte c (inr (inr (inr is)))

pub fraction_letter : (c : ℕ) → (c ≡ 101) ⊎ (c ≡ 69) → LeavesNumber (LeftOfNumber number_states.Fraction) c number_states.Letter
fraction_letter c is = record { on = λ s h. on s (first_of AreDigits IsExp c s h); back = λ s h. no_digits AreDigits IsExp (c ∷ s) tt (is, h); byte = letter_byte c is }
  where
    on : (s : List ℕ) → First AreDigits IsExp c s → LeftOfNumber number_states.Letter s
    on s (rest n e) = e.1
    on s (digit more r p m e) = absurd (omega (arith, m.0, is))

pub fraction_stops : (c : ℕ) → (IsDigit c → ⊥) → c ≢ 101 → c ≢ 69 → EndsNumber (LeftOfNumber number_states.Fraction) c
fraction_stops c d e1 e2 s h = dead (first_of AreDigits IsExp c s h)
  where
    dead : First AreDigits IsExp c s → ⊥
    dead (rest n e) = omega (arith, e.0)
    dead (digit more r p m e) = d m.0

pub point_digit : (c : ℕ) → IsDigit c → LeavesNumber (LeftOfNumber number_states.Point) c number_states.Fraction
point_digit c d = record { on = λ s h. on s (first_of IsDigits IsExp c s h); back = λ s h. one_digit IsDigits IsExp c s (λ more m. (d, m)) h; byte = digit_byte c d }
  where
    on : (s : List ℕ) → First IsDigits IsExp c s → LeftOfNumber number_states.Fraction s
    on s (rest n e) = absurd n
    on s (digit more r p m e) = record { digits = more; rest = r; parts = p; digits_are = m.1; rest_is = e }

pub point_stops : (c : ℕ) → (IsDigit c → ⊥) → EndsNumber (LeftOfNumber number_states.Point) c
point_stops c d s h = dead (first_of IsDigits IsExp c s h)
  where
    dead : First IsDigits IsExp c s → ⊥
    dead (rest n e) = n
    dead (digit more r p m e) = d m.0

-- ---- the point and the exponent's letter

-- the first byte of a fraction and an exponent
pub data Fractional (c : ℕ) (s : List ℕ) : Type 0 where
  point : c ≡ 46 → DigitsThen IsDigits IsExp s → Fractional c s
  letter : (c ≡ 101) ⊎ (c ≡ 69) → IsDigits s ⊎ IsSigned s → Fractional c s

pub fractional : (c : ℕ) (s : List ℕ) → IsFraction (c ∷ s) → Fractional c s
fractional c s h = on h.frac h.exp h.parts h.frac_is h.exp_is
  where
    on : (frac exp : List ℕ) → c ∷ s ≡ frac ++ exp → IsFrac frac → IsExp exp → Fractional c s
    on [] [] p f e = absurd (not_nil c s (sym p))
    on [] (x ∷ exp) p f e =
        let is = head_is _ _ _ _ p in
        letter (subst (λ (k : ℕ). (k ≡ 101) ⊎ (k ≡ 69)) (sym is) e.0) (subst (λ (l : List ℕ). IsDigits l ⊎ IsSigned l) (sym (tail_is _ _ _ _ p)) e.1)
    on (x ∷ frac) exp p f e = point (head_is _ _ _ _ p ∙ f.0) (record { digits = frac; rest = exp; parts = tail_is _ _ _ _ p; digits_are = f.1; rest_is = e })

with_point : (c : ℕ) (s : List ℕ) → c ≡ 46 → DigitsThen IsDigits IsExp s → IsFraction (c ∷ s)
with_point c s is h = record { frac = c ∷ h.digits; exp = h.rest; parts = ap (λ (l : List ℕ). c ∷ l) h.parts; frac_is = (is, h.digits_are); exp_is = h.rest_is }

with_letter : (c : ℕ) (s : List ℕ) → (c ≡ 101) ⊎ (c ≡ 69) → IsDigits s ⊎ IsSigned s → IsFraction (c ∷ s)
with_letter c s is h = record { frac = []; exp = c ∷ s; parts = refl; frac_is = tt; exp_is = (is, h) }

point_of : (c : ℕ) (s : List ℕ) → c ≡ 46 → Fractional c s → LeftOfNumber number_states.Point s
point_of c s is (point e h) = h
point_of c s is (letter e h) = absurd (omega (arith, e))

letter_of : (c : ℕ) (s : List ℕ) → (c ≡ 101) ⊎ (c ≡ 69) → Fractional c s → LeftOfNumber number_states.Letter s
letter_of c s is (point e h) = absurd (omega (arith, is))
letter_of c s is (letter e h) = h

point_byte : (c : ℕ) → c ≡ 46 → IsNumberByte c
point_byte c is = other_byte c (inr (inr (inl is)))

pub zero_point : (c : ℕ) → c ≡ 46 → LeavesNumber (LeftOfNumber number_states.Zero) c number_states.Point
zero_point c is = record { on = λ s h. point_of c s is (fractional c s h); back = λ s h. with_point c s is h; byte = point_byte c is }

pub zero_letter : (c : ℕ) → (c ≡ 101) ⊎ (c ≡ 69) → LeavesNumber (LeftOfNumber number_states.Zero) c number_states.Letter
zero_letter c is = record { on = λ s h. letter_of c s is (fractional c s h); back = λ s h. with_letter c s is h; byte = letter_byte c is }

fraction_head : (c : ℕ) (s : List ℕ) → IsFraction (c ∷ s) → (c ≡ 46) ⊎ ((c ≡ 101) ⊎ (c ≡ 69))
fraction_head c s h = head (fractional c s h)
  where
    head : Fractional c s → (c ≡ 46) ⊎ ((c ≡ 101) ⊎ (c ≡ 69))
    head (point e k) = inl e
    head (letter e k) = inr e

pub zero_stops : (c : ℕ) → c ≢ 46 → c ≢ 101 → c ≢ 69 → EndsNumber (LeftOfNumber number_states.Zero) c
zero_stops c p e1 e2 s h = omega (arith, fraction_head c s h)

pub digits_digit : (c : ℕ) → IsDigit c → LeavesNumber (LeftOfNumber number_states.Digits) c number_states.Digits
digits_digit c d = record { on = λ s h. on s (first_of AreDigits IsFraction c s h); back = λ s h. one_digit AreDigits IsFraction c s (λ more m. (d, m)) h; byte = digit_byte c d }
  where
    on : (s : List ℕ) → First AreDigits IsFraction c s → LeftOfNumber number_states.Digits s
    on s (rest n f) = absurd (omega (arith, fraction_head c s f))
    on s (digit more r p m f) = record { digits = more; rest = r; parts = p; digits_are = m.1; rest_is = f }

fraction_after : (c : ℕ) (s : List ℕ) → (IsDigit c → ⊥) → First AreDigits IsFraction c s → IsFraction (c ∷ s)
fraction_after c s d (rest n f) = f
fraction_after c s d (digit more r p m f) = absurd (d m.0)

pub digits_point : (c : ℕ) → c ≡ 46 → LeavesNumber (LeftOfNumber number_states.Digits) c number_states.Point
digits_point c is = record {
  on = λ s h. point_of c s is (fractional c s (fraction_after c s (λ d. omega (arith, d)) (first_of AreDigits IsFraction c s h)));
  back = λ s h. no_digits AreDigits IsFraction (c ∷ s) tt (with_point c s is h);
  byte = point_byte c is;
}

pub digits_letter : (c : ℕ) → (c ≡ 101) ⊎ (c ≡ 69) → LeavesNumber (LeftOfNumber number_states.Digits) c number_states.Letter
digits_letter c is = record {
  on = λ s h. letter_of c s is (fractional c s (fraction_after c s (λ d. omega (arith, d, is)) (first_of AreDigits IsFraction c s h)));
  back = λ s h. no_digits AreDigits IsFraction (c ∷ s) tt (with_letter c s is h);
  byte = letter_byte c is;
}

pub digits_stop : (c : ℕ) → (IsDigit c → ⊥) → c ≢ 46 → c ≢ 101 → c ≢ 69 → EndsNumber (LeftOfNumber number_states.Digits) c
digits_stop c d p e1 e2 s h = zero_stops c p e1 e2 s (fraction_after c s d (first_of AreDigits IsFraction c s h))

-- ---- the digits before the point

-- the first byte of a number without a sign
pub data Magnitude (c : ℕ) (s : List ℕ) : Type 0 where
  zero : c ≡ 48 → IsFraction s → Magnitude c s
  digits : 49 ≤ c → c ≤ 57 → DigitsThen AreDigits IsFraction s → Magnitude c s

pub magnitude : (c : ℕ) (s : List ℕ) → IsMagnitude (c ∷ s) → Magnitude c s
magnitude c s h = on h.int h.parts h.int_is
  where
    by_first : (x : ℕ) (more : List ℕ) → c ≡ x → s ≡ more ++ h.rest → ((x ≡ 48) × (more ≡ [])) ⊎ ((49 ≤ x) × (x ≤ 57) × AreDigits more) → Magnitude c s
    by_first x more is p (inl z) = zero (is ∙ z.0) (subst (λ (l : List ℕ). IsFraction l) (sym (p ∙ ap (λ (l : List ℕ). l ++ h.rest) z.1)) h.rest_is)
    by_first x more is p (inr d) = digits (omega (arith, d.0)) (omega (arith, d.1)) (record { digits = more; rest = h.rest; parts = p; digits_are = d.2; rest_is = h.rest_is })

    on : (int : List ℕ) → c ∷ s ≡ int ++ h.rest → IsInt int → Magnitude c s
    on [] p i = absurd i
    on (x ∷ more) p i = by_first x more (head_is _ _ _ _ p) (tail_is _ _ _ _ p) i

with_zero : (c : ℕ) (s : List ℕ) → c ≡ 48 → IsFraction s → IsMagnitude (c ∷ s)
with_zero c s is f = record { int = c ∷ []; rest = s; parts = refl; int_is = inl (is, refl); rest_is = f }

with_digit : (c : ℕ) (s : List ℕ) → 49 ≤ c → c ≤ 57 → DigitsThen AreDigits IsFraction s → IsMagnitude (c ∷ s)
with_digit c s lo hi h = record { int = c ∷ h.digits; rest = h.rest; parts = ap (λ (l : List ℕ). c ∷ l) h.parts; int_is = inr (lo, hi, h.digits_are); rest_is = h.rest_is }

zero_of : (c : ℕ) (s : List ℕ) → c ≡ 48 → Magnitude c s → LeftOfNumber number_states.Zero s
zero_of c s is (zero e f) = f
zero_of c s is (digits lo hi h) = absurd (omega arith)

digits_of : (c : ℕ) (s : List ℕ) → 49 ≤ c → Magnitude c s → LeftOfNumber number_states.Digits s
digits_of c s lo (zero e f) = absurd (omega arith)
digits_of c s lo (digits l hi h) = h

pub minus_zero : (c : ℕ) → c ≡ 48 → LeavesNumber (LeftOfNumber number_states.Minus) c number_states.Zero
minus_zero c is = record { on = λ s h. zero_of c s is (magnitude c s h); back = λ s f. with_zero c s is f; byte = digit_byte c (omega arith, omega arith) }

pub minus_digit : (c : ℕ) → 49 ≤ c → c ≤ 57 → LeavesNumber (LeftOfNumber number_states.Minus) c number_states.Digits
minus_digit c lo hi = record { on = λ s h. digits_of c s lo (magnitude c s h); back = λ s h. with_digit c s lo hi h; byte = digit_byte c (omega arith, hi) }

digit_head : (c : ℕ) (s : List ℕ) → IsMagnitude (c ∷ s) → IsDigit c
digit_head c s h = head (magnitude c s h)
  where
    head : Magnitude c s → IsDigit c
    head (zero e f) = (omega arith, omega arith)
    head (digits lo hi d) = (omega arith, hi)

pub minus_stops : (c : ℕ) → (IsDigit c → ⊥) → EndsNumber (LeftOfNumber number_states.Minus) c
minus_stops c d s h = d (digit_head c s h)

-- ---- the sign

pub start_minus : (c : ℕ) → c ≡ 45 → LeavesNumber IsNumberText c number_states.Minus
start_minus c is = record { on = λ s h. on s h; back = λ s h. inr (is, h); byte = other_byte c (inl is) }
  where
    on : (s : List ℕ) → IsNumberText (c ∷ s) → IsMagnitude s
    on s (inl h) = absurd (omega (arith, digit_head c s h))
    on s (inr h) = h.1

unsigned : (c : ℕ) (s : List ℕ) → c ≢ 45 → IsNumberText (c ∷ s) → IsMagnitude (c ∷ s)
unsigned c s ne (inl h) = h
unsigned c s ne (inr h) = absurd (ne h.0)

pub start_zero : (c : ℕ) → c ≡ 48 → LeavesNumber IsNumberText c number_states.Zero
start_zero c is = record { on = λ s h. zero_of c s is (magnitude c s (unsigned c s (omega arith) h)); back = λ s f. inl (with_zero c s is f); byte = digit_byte c (omega arith, omega arith) }

pub start_digit : (c : ℕ) → 49 ≤ c → c ≤ 57 → LeavesNumber IsNumberText c number_states.Digits
start_digit c lo hi = record { on = λ s h. digits_of c s lo (magnitude c s (unsigned c s (omega arith) h)); back = λ s h. inl (with_digit c s lo hi h); byte = digit_byte c (omega arith, hi) }

pub start_stops : (c : ℕ) → c ≢ 45 → (IsDigit c → ⊥) → EndsNumber IsNumberText c
start_stops c ne d s (inl h) = d (digit_head c s h)
start_stops c ne d s (inr h) = ne h.0

-- ---- the end

no_fraction : IsFraction []
no_fraction = record { frac = []; exp = []; parts = refl; frac_is = tt; exp_is = tt }

pub zero_whole : LeftOfNumber number_states.Zero []
zero_whole = no_fraction

pub digits_whole : LeftOfNumber number_states.Digits []
digits_whole = no_digits AreDigits IsFraction [] tt no_fraction

pub fraction_whole : LeftOfNumber number_states.Fraction []
fraction_whole = no_digits AreDigits IsExp [] tt tt

nil_digits : (D P : List ℕ → Type 0) → DigitsThen D P [] → D []
nil_digits D P h = on h.digits h.parts h.digits_are
  where
    on : (digits : List ℕ) → [] ≡ digits ++ h.rest → D digits → D []
    on [] p d = d
    on (x ∷ more) p d = absurd (not_nil x _ p)

pub point_open : LeftOfNumber number_states.Point [] → ⊥
point_open h = nil_digits IsDigits IsExp h

pub minus_open : LeftOfNumber number_states.Minus [] → ⊥
minus_open h = on h.int h.parts h.int_is
  where
    on : (int : List ℕ) → [] ≡ int ++ h.rest → IsInt int → ⊥
    on [] p i = i
    on (x ∷ more) p i = not_nil x _ p

pub letter_open : LeftOfNumber number_states.Letter [] → ⊥
letter_open (inl h) = h
letter_open (inr h) = h

pub swap : {A B : Type 0} → A ⊎ B → B ⊎ A
swap (inl a) = inr a
swap (inr b) = inl b

-- a number begins with a sign or a digit
pub number_head : (c : ℕ) (s : List ℕ) → IsNumberText (c ∷ s) → (c ≡ 45) ⊎ ((48 ≤ c) × (c ≤ 57))
number_head c s (inl h) = inr (digit_head c s h)
number_head c s (inr h) = inl h.0

pub number_nil : IsNumberText [] → ⊥
number_nil (inl h) = minus_open h
number_nil (inr h) = h

-- each state can come to an end
pub number_state_live : (p : NumberState) → (s : List ℕ) × LeftOfNumber p s
number_state_live number_states.Minus = (48 ∷ [], with_zero 48 [] refl no_fraction)
number_state_live number_states.Zero = ([], zero_whole)
number_state_live number_states.Digits = ([], digits_whole)
number_state_live number_states.Point = (48 ∷ [], one_digit IsDigits IsExp 48 [] (λ more m. ((omega arith, omega arith), m)) fraction_whole)
number_state_live number_states.Fraction = ([], fraction_whole)
number_state_live number_states.Letter = (48 ∷ [], inl ((omega arith, omega arith), tt))
number_state_live number_states.Sign = (48 ∷ [], ((omega arith, omega arith), tt))
number_state_live number_states.Exponent = ([], tt)

-- the states in which any number of digits may come
pub digits_stay : (q : NumberState) → (q ≡ number_states.Digits) ⊎ ((q ≡ number_states.Fraction) ⊎ (q ≡ number_states.Exponent)) → TakesDigits q
digits_stay q (inl e) = subst (λ (p : NumberState). TakesDigits p) (sym e) digits_digit
digits_stay q (inr (inl e)) = subst (λ (p : NumberState). TakesDigits p) (sym e) fraction_digit
digits_stay q (inr (inr e)) = subst (λ (p : NumberState). TakesDigits p) (sym e) exponent_digit
