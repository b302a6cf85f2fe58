-- Passwords, numbers, and an amount with its currency: what is spelt is found, what is found is spelt, and how each is written.
use Rattle.std.proofs.Common.{◌≡◌, ℕ, ◌^◌, ◌<◌, Bool, true, false, cond, eqb, List, [], ◌∷◌, ◌++◌, length, take, drop, Option, Some, None, refl, sym, ap, subst, ◌∙◌}
use Rattle.std.specs.Prelude.{◌&&◌}
use Rattle.std.proofs.lemmas.Bool.{eq-eqb, eqb-true, and_parts}
use Rattle.std.proofs.lemmas.List.{take_at, drop_at, take-append-drop}
use Rattle.gw_base.specs.Bcd.{bcd_value, bcd_of, is_bcd}
use Rattle.gw_base.proofs.BcdLemmas.{length-bcd_of, bcd_value_bound, bcd_of-value, bcd_value-of, bcd_passes, passes_bcd}
use Rattle.zvt_msg.specs.CommandGrammar.{IsPassword, SpellsBcdNumber}
use Rattle.zvt_msg.specs.CommandDecode.{decode_password, decode_bcd_number}
use Rattle.zvt_more.specs.Grammar.{SpellsAmountAndCurrency}
use Rattle.zvt_more.specs.Decode.{amount_and_currency_with, amount_and_currency_at, decode_amount_and_currency}
use Rattle.zvt_more.specs.Canonical.{canonical_amount_and_currency}

-- ---- options

abbrev some : {A : Type 0} → A → Option A
some x = Some x

pub some_is : {A : Type 0} (x y : A) → some x ≡ some y → x ≡ y
some_is x y e = cc

-- what a test lets through
passed : {A : Type 0} (test : Bool) (x y : A) → cond test (some x) None ≡ some y → (test ≡ true) × (x ≡ y)
passed true x y e = (refl, some_is x y e)
passed false x y e = absurd cc

-- ---- passwords and numbers

pub password_found : (bytes : List ℕ) → IsPassword bytes → decode_password bytes ≡ Some bytes
password_found bytes (size, digits) = rw (eq-eqb (length bytes) 3 size, bcd_passes bytes digits) refl

pub found_password : (bytes password : List ℕ) → decode_password bytes ≡ Some password → IsPassword password × (bytes ≡ password)
found_password bytes password e =
    let is = passed (eqb (length bytes) 3 && is_bcd bytes) bytes password e in
    let tests = and_parts (eqb (length bytes) 3) (is_bcd bytes) is.0 in
    (subst IsPassword is.1 (eqb-true _ _ tests.0, passes_bcd bytes tests.1), is.1)

pub number_found : (count : ℕ) (bytes : List ℕ) (n : ℕ) → SpellsBcdNumber count bytes n → decode_bcd_number count bytes ≡ Some n
number_found count bytes n (size, digits, value) = rw (eq-eqb (length bytes) count size, bcd_passes bytes digits) (ap (λ (m : ℕ). Some m) value)

pub found_number : (count : ℕ) (bytes : List ℕ) (n : ℕ) → decode_bcd_number count bytes ≡ Some n → SpellsBcdNumber count bytes n
found_number count bytes n e =
    let is = passed (eqb (length bytes) count && is_bcd bytes) (bcd_value bytes) n e in
    let tests = and_parts (eqb (length bytes) count) (is_bcd bytes) is.0 in
    (eqb-true _ _ tests.0, passes_bcd bytes tests.1, is.1)

pub number_digits : (count : ℕ) (bytes : List ℕ) (n : ℕ) → SpellsBcdNumber count bytes n → (n < 100 ^ count) × (bytes ≡ bcd_of count n)
number_digits count bytes n (size, digits, value) =
    let small = bcd_value_bound bytes digits in
    let same = bcd_of-value bytes digits in (
      subst (λ (k : ℕ). n < 100 ^ k) size (subst (λ (m : ℕ). m < 100 ^ length bytes) value small),
      sym same ∙ ap (λ (k : ℕ). bcd_of k (bcd_value bytes)) size ∙ ap (bcd_of count) value,
    )

pub digits_spell : (count n : ℕ) → n < 100 ^ count → SpellsBcdNumber count (bcd_of count n) n
digits_spell count n small = let again = bcd_value-of count n small in (length-bcd_of count n, again.0, again.1)

-- bytes whose first so many are the one, and the rest the other
pub prefix_is : (count : ℕ) (bytes prefix rest : List ℕ) → take count bytes ≡ prefix → drop count bytes ≡ rest → bytes ≡ prefix ++ rest
prefix_is count bytes prefix rest first second =
    sym (take-append-drop count bytes) ∙ ap (λ (f : List ℕ). f ++ drop count bytes) first ∙ ap (λ (r : List ℕ). prefix ++ r) second

-- ---- an amount and its currency

-- what was found is spelt by these bytes
abbrev pub AreSpelt : List ℕ → Option (ℕ × ℕ) → Type 0
AreSpelt bytes None = Unit {0}
AreSpelt bytes (Some found) = SpellsAmountAndCurrency bytes found.0 found.1

currency_spelt : (bytes digits number : List ℕ) (amount currency : Option ℕ) → bytes ≡ 0x04 ∷ (digits ++ 0x49 ∷ number) → decode_bcd_number 6 digits ≡ amount → decode_bcd_number 2 number ≡ currency → AreSpelt bytes (amount_and_currency_with amount currency)
currency_spelt bytes digits number None currency e first second = tt
currency_spelt bytes digits number (Some amount) None e first second = tt
currency_spelt bytes digits number (Some amount) (Some currency) e first second =
    (digits, number, found_number 6 digits amount first, found_number 2 number currency second, e)

at_49 : (bytes digits number : List ℕ) (b : ℕ) (test : Bool) → eqb b 0x49 ≡ test → bytes ≡ 0x04 ∷ (digits ++ b ∷ number) → AreSpelt bytes (cond test (amount_and_currency_with (decode_bcd_number 6 digits) (decode_bcd_number 2 number)) None)
at_49 bytes digits number b false is e = tt
at_49 bytes digits number b true is e =
    currency_spelt bytes digits number (decode_bcd_number 6 digits) (decode_bcd_number 2 number) (e ∙ ap (λ (a : ℕ). 0x04 ∷ (digits ++ a ∷ number)) (eqb-true _ _ is)) refl refl

after_amount : (bytes digits rest : List ℕ) → bytes ≡ 0x04 ∷ (digits ++ rest) → AreSpelt bytes (amount_and_currency_at (decode_bcd_number 6 digits) rest)
after_amount bytes digits [] e = tt
after_amount bytes digits (b ∷ number) e = at_49 bytes digits number b (eqb b 0x49) refl e

at_04 : (b : ℕ) (bytes : List ℕ) (test : Bool) → eqb b 0x04 ≡ test → AreSpelt (b ∷ bytes) (cond test (amount_and_currency_at (decode_bcd_number 6 (take 6 bytes)) (drop 6 bytes)) None)
at_04 b bytes false is = tt
at_04 b bytes true is =
    after_amount (b ∷ bytes) (take 6 bytes) (drop 6 bytes) (ap (λ (a : ℕ). a ∷ bytes) (eqb-true _ _ is) ∙ ap (λ (t : List ℕ). 0x04 ∷ t) (sym (take-append-drop 6 bytes)))

are_spelt : (bytes : List ℕ) → AreSpelt bytes (decode_amount_and_currency bytes)
are_spelt [] = tt
are_spelt (b ∷ bytes) = at_04 b bytes (eqb b 0x04) refl

pub found_spelt : (bytes : List ℕ) (found : Option (ℕ × ℕ)) → decode_amount_and_currency bytes ≡ found → AreSpelt bytes found
found_spelt bytes found e = subst (AreSpelt bytes) e (are_spelt bytes)

pub spelt_are_found : (bytes : List ℕ) (amount currency : ℕ) → SpellsAmountAndCurrency bytes amount currency → decode_amount_and_currency bytes ≡ Some (amount, currency)
spelt_are_found bytes amount currency (digits, number, is_amount, is_currency, is) =
    ap decode_amount_and_currency is
    ∙ ap (λ (t : List ℕ). amount_and_currency_at (decode_bcd_number 6 t) (drop 6 (digits ++ 0x49 ∷ number))) (take_at digits (0x49 ∷ number) 6 is_amount.0)
    ∙ ap (amount_and_currency_at (decode_bcd_number 6 digits)) (drop_at digits (0x49 ∷ number) 6 is_amount.0)
    ∙ rw (number_found 6 digits amount is_amount, number_found 2 number currency is_currency) refl

pub amount_and_currency_are : (bytes : List ℕ) (amount currency : ℕ) → SpellsAmountAndCurrency bytes amount currency → (amount < 100 ^ 6) × (currency < 100 ^ 2) × (bytes ≡ canonical_amount_and_currency amount currency)
amount_and_currency_are bytes amount currency (digits, number, is_amount, is_currency, is) =
    let a = number_digits 6 digits amount is_amount in
    let n = number_digits 2 number currency is_currency in
    (a.0, n.0, is ∙ ap (λ (d : List ℕ). 0x04 ∷ (d ++ 0x49 ∷ number)) a.1 ∙ ap (λ (d : List ℕ). 0x04 ∷ (bcd_of 6 amount ++ 0x49 ∷ d)) n.1)

pub canonical_spells : (amount currency : ℕ) → amount < 100 ^ 6 → currency < 100 ^ 2 → SpellsAmountAndCurrency (canonical_amount_and_currency amount currency) amount currency
canonical_spells amount currency few small =
    (bcd_of 6 amount, bcd_of 2 currency, digits_spell 6 amount few, digits_spell 2 currency small, refl)
