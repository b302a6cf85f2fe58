-- Identifiers and currencies, by the tests that their forms make.
use Rattle.std.proofs.Common.{◌≡◌, ℕ, ◌≤◌, ◌<◌, get_or, Bool, true, false, ◌&&◌, if◌then◌else◌, List, [], ◌∷◌, length, Option, Some, None, refl, ap, sym, arith}
use Rattle.std.specs.Prelude.{◌≢◌, nat_le, MatchOption}
use Rattle.std.specs.List.{list_all, find}
use Rattle.std.specs.Option.{SomeIff}
use Rattle.std.specs.Str.{bytes_eq}
use Rattle.std.proofs.lemmas.Bool.{and_parts, leb-true, le-leb, false≢true, false_from_ne_true}
use Rattle.std.specs.Cmp.Derive.{both_true}
use Rattle.std.proofs.lemmas.List.Elements.{All-weaker}
use Rattle.std.proofs.lemmas.List.Sums.{AllPass-from_list_all, list_all-from_AllPass}
use Rattle.std.proofs.lemmas.Slice.Eq.{bytes_eq-Decides}
use Rattle.gw_base.specs.Ident.{IsIdent, IsPrintable}
use Rattle.gw_base.specs.Text437.{is_printable}
use Rattle.gw_base.specs.Currency.{currency_letters}
use Rattle.gw_base.specs.declared.currency.Currency.{Currency}
use Rattle.gw_base.specs.declared.currency.Currency.TheVariants.{Eur, Chf, Gbp, Usd, Dkk, Sek, Nok, Pln, Czk}
use Rattle.gw_config.specs.Form.{is_from_to, currencies}

-- ---- identifiers

-- a test that a form makes of a text
abbrev pub is_identifier : List ℕ → Bool
is_identifier text = is_from_to 1 40 (length text) && list_all is_printable text

passes : (byte : ℕ) → is_printable byte ≡ true → IsPrintable byte
passes byte test =
    let bounds = and_parts (nat_le 0x20 byte) (nat_le byte 0x7E) test in
    (leb-true 0x20 byte bounds.0, leb-true byte 0x7E bounds.1)

is_passed : (byte : ℕ) → IsPrintable byte → is_printable byte ≡ true
is_passed byte bounds = both_true (le-leb 0x20 byte bounds.0) (le-leb byte 0x7E bounds.1)

pub passed_identifier : (text : List ℕ) → is_identifier text ≡ true → IsIdent 40 text
passed_identifier text test =
    let parts = and_parts (is_from_to 1 40 (length text)) (list_all is_printable text) test in
    let bounds = and_parts (nat_le 1 (length text)) (nat_le (length text) 40) parts.0 in (
      leb-true 1 (length text) bounds.0,
      leb-true (length text) 40 bounds.1,
      All-weaker (λ byte. is_printable byte ≡ true) IsPrintable passes text
          (AllPass-from_list_all is_printable text parts.1),
    )

pub identifier_passes : (text : List ℕ) → IsIdent 40 text → is_identifier text ≡ true
identifier_passes text is =
    both_true (both_true (le-leb 1 (length text) is.0) (le-leb (length text) 40 is.1))
    (list_all-from_AllPass is_printable text
    (All-weaker IsPrintable (λ byte. is_printable byte ≡ true) is_passed text is.2))

-- what is found exactly where a fact holds is found exactly where its test passes
by_test : (found : Option (List ℕ)) (test : Bool) (P : Type 0) (text : List ℕ)
    → (test ≡ true → P) → (P → test ≡ true) → SomeIff found P text
    → found ≡ (if test then Some text else None)
by_test None true P text holds passed none = absurd (none (holds refl))
by_test None false P text holds passed none = refl
by_test (Some other) true P text holds passed some = ap Some some.1
by_test (Some other) false P text holds passed some = absurd (false≢true (passed some.0))

pub identifier_found : (found : Option (List ℕ)) (text : List ℕ) → SomeIff found (IsIdent 40 text) text
    → found ≡ (if is_identifier text then Some text else None)
identifier_found found text is =
    by_test found (is_identifier text) (IsIdent 40 text) text (passed_identifier text) (identifier_passes text) is

-- ---- currencies

-- the currency of a list that has these letters
abbrev pub with_code : List ℕ → List Currency → Option Currency
with_code code all = find (λ c. bytes_eq (currency_letters c) code) all

no_currency : (code : List ℕ) (all : List Currency) → ((c : Currency) → currency_letters c ≢ code) → with_code code all ≡ None
no_currency code [] none = refl
no_currency code (c ∷ all) none =
    let other : bytes_eq (currency_letters c) code ≡ false =
    false_from_ne_true _ (λ test. none c ((bytes_eq-Decides (currency_letters c) code).0 test)) in
    rw other (no_currency code all none)

own_code : (c : Currency) → with_code (currency_letters c) currencies ≡ Some c
own_code Eur = refl
own_code Chf = refl
own_code Gbp = refl
own_code Usd = refl
own_code Dkk = refl
own_code Sek = refl
own_code Nok = refl
own_code Pln = refl
own_code Czk = refl

-- the letters of a text of three bytes
pub three_bytes : (text : List ℕ) → 3 ≤ length text → length text < 4
    → text ≡ get_or text 0 0 ∷ get_or text 1 0 ∷ get_or text 2 0 ∷ []
three_bytes [] least most = absurd (omega arith)
three_bytes (a ∷ []) least most = absurd (omega arith)
three_bytes (a ∷ b ∷ []) least most = absurd (omega arith)
three_bytes (a ∷ b ∷ c ∷ []) least most = refl
three_bytes (a ∷ b ∷ c ∷ d ∷ text) least most = absurd (omega arith)

pub currency_found : (found : Option Currency) (code : List ℕ)
    → MatchOption found ((c : Currency) → currency_letters c ≢ code) (λ c. currency_letters c ≡ code)
    → found ≡ with_code code currencies
currency_found None code none = sym (no_currency code currencies none)
currency_found (Some c) code is = rw (← is) (sym (own_code c))
