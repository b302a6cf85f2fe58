-- The number of a word is the one that is written so in decimal.
use Rattle.std.proofs.Common.{◌≡◌, ℕ, zero, suc, ◌+◌, ◌-◌, ◌*◌, ◌^◌, ◌<◌, ◌≤◌, List, [], ◌∷◌, length, refl, sym, ◌∙◌, ap, arith, inl, inr, true, false, get_or, lit<}
use Rattle.std.proofs.lemmas.Bool.Decides.{eqb_tells, nat_tests}
use Rattle.std.proofs.lemmas.Fmt.{decimal_digit, decimal_is_IsNumeral, decimal-digits_value, first_decimal}
use Rattle.std.proofs.lemmas.Str.{digit_value_digit}
use Rattle.std.proofs.lemmas.Str.Parse.{digit_from_value, numerals_by_value, tells_digits}
use Rattle.std.specs.Char.{digit_value}
use Rattle.std.specs.Fmt.{decimal}
use Rattle.std.specs.Str.Parse.{AllDigits, digits_value, digits_value_after}
use Rattle.std.specs.Int.{IsInRange}
use Rattle.std.specs.Prelude.{Bool, ◌⊎◌, ◌==◌, ◌≢◌, nat_lt, Some, None}
use Rattle.gw_script.specs.Decode.{is_digit, more_digits, number}

by_value : (b : Bool) → (b ≡ true) ⊎ (b ≡ false)
by_value true = inl refl
by_value false = inr refl

-- a digit by its byte is one by its value
digit_range : (c : ℕ) → is_digit c ≡ true → IsInRange 48 57 c
digit_range c e = grind (arith, nat_tests)

digit_of_range : (c : ℕ) → IsInRange 48 57 c → is_digit c ≡ true
digit_of_range c h = grind (arith, nat_tests)

value_is : (c : ℕ) → IsInRange 48 57 c → digit_value c ≡ c - 48
value_is c h = omega (arith, digit_value_digit c h)

value_below : (c : ℕ) → IsInRange 48 57 c → digit_value c < 10
value_below c h = omega (arith, digit_value_digit c h)

below_test : (a b : ℕ) → a < b → nat_lt a b ≡ true
below_test a b h = grind (arith, nat_tests)

test_below : (a b : ℕ) → nat_lt a b ≡ true → a < b
test_below a b h = grind (arith, nat_tests)

-- more digits only make the number greater
grows : (n : ℕ) (ds : List ℕ) → n ≤ digits_value_after 10 n ds
grows n [] = omega arith
grows n (d ∷ ds) = omega (arith, grows (n * 10 + digit_value d) ds)

-- digits whose value is below 2^64 are read
pub more_read : (n : ℕ) (ds : List ℕ) → AllDigits 10 ds → digits_value_after 10 n ds < 2 ^ 64 → more_digits n ds ≡ Some (digits_value_after 10 n ds)
more_read n [] all lt = refl
more_read n (d ∷ ds) all lt =
    let range = digit_from_value d all.0 in
    let same : n * 10 + digit_value d ≡ n * 10 + (d - 48) = ap (λ v. n * 10 + v) (value_is d range) in
    let small : n * 10 + (d - 48) < 2 ^ 64 = omega (arith, grows (n * 10 + digit_value d) ds, same) in
    rw (digit_of_range d range, below_test (n * 10 + (d - 48)) (2 ^ 64) small, ← same) (more_read (n * 10 + digit_value d) ds all.1 lt)

-- what is read is digits whose value is below 2^64
pub record IsRead (n : ℕ) (ds : List ℕ) : Type 0 where
  pub digits : AllDigits 10 ds
  pub small : digits_value_after 10 n ds < 2 ^ 64

pub read_more : (n : ℕ) (ds : List ℕ) (v : ℕ) → n < 2 ^ 64 → more_digits n ds ≡ Some v → IsRead n ds
read_more n [] v lt e = record { digits = tt; small = lt }
read_more n (d ∷ ds) v lt e = elim (by_value (is_digit d)) [
  | inl digit ↦ elim (by_value (nat_lt (n * 10 + (d - 48)) (2 ^ 64))) [
    | inl below ↦ (
        let range = digit_range d digit in
        let rest : IsRead (n * 10 + (d - 48)) ds = read_more (n * 10 + (d - 48)) ds v (test_below (n * 10 + (d - 48)) (2 ^ 64) below) (rw (digit, below) at e) in
        record { digits = (value_below d range, rest.digits); small = rw (value_is d range) rest.small })
    | inr past ↦ absurd (let none = rw (digit, past) at e in cc)
  ]
  | inr other ↦ absurd (let none = rw other at e in cc)
]

-- without a leading zero a word is its digits
pub number_plain : (d : ℕ) (ds : List ℕ) → (1 < length (d ∷ ds) → d ≢ 48) → number (d ∷ ds) ≡ more_digits 0 (d ∷ ds)
number_plain d [] led = elim (by_value (d == 48)) [ inl e ↦ rw e refl | inr e ↦ rw e refl ]
number_plain d (next ∷ ds) led = elim (eqb_tells d 48) [ inl e ↦ absurd (led (omega arith) e.1) | inr e ↦ rw e.0 refl ]

-- digits without a leading zero are the number that they spell
plain_number : (word : List ℕ) → AllDigits 10 word → 0 < length word → (1 < length word → get_or word 0 0 ≢ 48) → digits_value 10 word < 2 ^ 64 → number word ≡ Some (digits_value 10 word)
plain_number [] all some led small = absurd (omega arith)
plain_number (d ∷ ds) all some led small = number_plain d ds led ∙ more_read 0 (d ∷ ds) all small

long_above : (n : ℕ) → 1 < length (decimal n) → 0 < n
long_above zero long = absurd (let e = ap length (decimal_digit 0 (lit< tt)) in omega arith)
long_above (suc n) long = omega arith

-- a number is read as it is written
pub number_decimal : (n : ℕ) → n < 2 ^ 64 → number (decimal n) ≡ Some n
number_decimal n small =
    let k = decimal_is_IsNumeral n small in
    plain_number (decimal n) k.0.1 k.0.0 (λ long e. absurd (let h = first_decimal n (long_above n long) small in omega arith)) (rw k.1 small) ∙ ap Some k.1

-- and what is read as a number is written so
pub record IsWritten (n : ℕ) (word : List ℕ) : Type 0 where
  pub small : n < 2 ^ 64
  pub is : word ≡ decimal n

some_same : {A : Type 0} (a b : A) → Some a ≡ Some b → a ≡ b
some_same a b e = cc

read_written : (word : List ℕ) (n : ℕ) → 0 < length word → (get_or word 0 0 ≡ 48 → length word ≡ 1) → more_digits 0 word ≡ Some n → IsWritten n word
read_written word n some alone e =
    let r = read_more 0 word n (lit< tt) e in
    let same : digits_value 10 word ≡ n = some_same (digits_value 10 word) n (sym (more_read 0 word r.digits r.small) ∙ e) in
    record {
      small = rw (← same) r.small;
      is = sym (decimal-digits_value (numerals_by_value (AllDigits 10) tells_digits) word r.digits some alone r.small) ∙ ap decimal same;
    }

pub decimal_number : (word : List ℕ) (n : ℕ) → number word ≡ Some n → IsWritten n word
decimal_number [] n e = absurd (let h : None ≡ Some n = e in cc)
decimal_number (d ∷ []) n e = read_written (d ∷ []) n (omega arith) (λ e. refl) (sym (number_plain d [] (λ long. absurd (omega arith))) ∙ e)
decimal_number (d ∷ next ∷ ds) n e = elim (eqb_tells d 48) [
  | inl same ↦ absurd (let h : None ≡ Some n = rw same.0 at e in cc)
  | inr other ↦ read_written (d ∷ next ∷ ds) n (omega arith) (λ e. absurd (other.1 e)) (rw other.0 at e)
]
