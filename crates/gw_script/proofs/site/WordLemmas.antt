-- The words of lines are read as what they spell.
use Rattle.std.proofs.Common.{◌≡◌, ℕ, ◌+◌, ◌*◌, ◌^◌, ◌<◌, ◌≤◌, List, [], ◌∷◌, length, refl, sym, ◌∙◌, ap, subst, arith, inl, inr, true, false}
use Rattle.std.proofs.lemmas.Bool.{and_parts, leb-true}
use Rattle.std.proofs.lemmas.Bool.Decides.{Decides-eqb, nat_tests}
use Rattle.std.proofs.lemmas.Fmt.{decimal_is_IsNumeral}
use Rattle.std.proofs.lemmas.List.Elements.{All-nil, All-cons, All-head, All-tail}
use Rattle.std.proofs.lemmas.Slice.Eq.{bytes_eq-Decides}
use Rattle.std.proofs.lemmas.Str.Parse.{digit_from_value}
use Rattle.std.specs.Fmt.{decimal}
use Rattle.std.specs.List.{list_all}
use Rattle.std.specs.Prelude.{◌≢◌, Bool, ◌%◌, All, ◌==◌, ◌&&◌, nat_le, if◌then◌else◌, Some, None, Result, Ok, Err, codes, bytes_eq}
use Rattle.std.specs.Str.Parse.{AllDigits}
use Rattle.hex.specs.declared.error.FromHexError.{FromHexError}
use Rattle.hex.specs.declared.error.FromHexError.TheVariants.{InvalidHexCharacter, OddLength}
use Rattle.std.specs.Result.{result_ok}
use Rattle.hex.specs.Hex.{decode_of, decode_pairs, pair_value, value_at, ◌>>=◌}
use Rattle.gw_base.proofs.BcdLemmas.{bcd_passes, passes_bcd}
use Rattle.gw_base.specs.Bcd.{IsBcd, is_bcd}
use Rattle.gw_base.specs.Currency.{currency_letters}
use Rattle.gw_base.specs.Ident.{IsPrintable}
use Rattle.gw_base.specs.declared.currency.Currency.{Currency}
use Rattle.gw_base.specs.declared.currency.Currency.TheVariants.{Eur, Chf, Gbp, Usd, Dkk, Sek, Nok, Pln, Czk}
use Rattle.sale_frame.specs.Grammar.{frame}
use Rattle.gw_script.specs.Decode.{is_name, is_visible, number}
use Rattle.gw_script.specs.site.Decode.{byte_number, chunk, currency_among, currency_word, few_bytes, link_number, name_word, number_within, password_word, said}
use Rattle.gw_script.specs.site.Grammar.{IsLink, IsNameWord, IsNumber, IsWord, SpellsChunk}
use Rattle.gw_script.proofs.NumberLemmas.{decimal_number, number_decimal}
use Rattle.gw_script.proofs.site.ExactLemmas.{Exact, chosen, kept-exact, none_some, said-exact, some_is}

pub at_most : (a b : ℕ) → a ≤ b → nat_le a b ≡ true
at_most a b h = grind (arith, nat_tests)

pub is_word : (word text : List ℕ) → bytes_eq word text ≡ true → word ≡ text
is_word word text e = (bytes_eq-Decides word text).0 e

-- ---- numbers

abbrev pub NumberIs : ℕ → List ℕ → Type 0
NumberIs n text = IsNumber n × (text ≡ decimal n)

pub number-exact : Exact NumberIs number
number-exact = record {
  sound = λ text n e. (let w = decimal_number text n e in (w.small, w.is));
  complete = λ text n s. ap number s.1 ∙ number_decimal n s.0;
}

digits_word : (digits : List ℕ) → AllDigits 10 digits → IsWord digits
digits_word [] all = tt
digits_word (digit ∷ digits) all = ((λ e. (let range = digit_from_value digit all.0 in omega (arith, e))), digits_word digits all.1)

decimal_word : (n : ℕ) → IsNumber n → IsWord (decimal n)
decimal_word n small = digits_word (decimal n) (decimal_is_IsNumeral n small).0.1

pub number_word : (n : ℕ) (word : List ℕ) → NumberIs n word → IsWord word
number_word n word s = subst IsWord (sym s.1) (decimal_word n s.0)

abbrev pub WithinIs : ℕ → ℕ → ℕ → List ℕ → Type 0
WithinIs least most n text = (least ≤ n) × (n ≤ most) × (text ≡ decimal n)

pub within-exact : (least most : ℕ) → most < 2 ^ 64 → Exact (WithinIs least most) (number_within least most)
within-exact least most small = said-exact (λ n text. NumberIs n text × ((nat_le least n && nat_le n most) ≡ true)) (WithinIs least most) (number_within least most)
    (kept-exact NumberIs (λ n. nat_le least n && nat_le n most) number number-exact)
    (λ n text s. (let p = and_parts (nat_le least n) (nat_le n most) s.1 in (leb-true least n p.0, leb-true n most p.1, s.0.1)))
    (λ n text w. (((let most_is = w.1 in omega (arith, most_is, small)), w.2), rw (at_most least n w.0, at_most n most w.1) refl))

pub within_word : (least most n : ℕ) (word : List ℕ) → most < 2 ^ 64 → WithinIs least most n word → IsWord word
within_word least most n word small w = subst IsWord (sym w.2) (decimal_word n (let most_is = w.1 in omega (arith, most_is, small)))

abbrev pub LinkIs : ℕ → List ℕ → Type 0
LinkIs pt text = IsLink pt × (text ≡ decimal pt)

pub link-exact : Exact LinkIs link_number
link-exact = said-exact (WithinIs 0 65535) LinkIs link_number (within-exact 0 65535 (omega arith)) (λ pt text w. (w.1, w.2)) (λ pt text s. (omega arith, s.0, s.1))

pub link_word : (pt : ℕ) (word : List ℕ) → LinkIs pt word → IsWord word
link_word pt word s = within_word 0 65535 pt word (omega arith) (omega arith, s.0, s.1)

abbrev pub ByteIs : ℕ → List ℕ → Type 0
ByteIs n text = WithinIs 0 255 n text

pub byte-exact : Exact ByteIs byte_number
byte-exact = within-exact 0 255 (omega arith)

pub byte_word : (n : ℕ) (word : List ℕ) → ByteIs n word → IsWord word
byte_word n word w = within_word 0 255 n word (omega arith) w

-- ---- names

visible_printable : (byte : ℕ) → is_visible byte ≡ true → IsPrintable byte
visible_printable byte e = grind (arith, nat_tests)

visible_byte : (byte : ℕ) → is_visible byte ≡ true → byte ≢ 32
visible_byte byte e = grind (arith, nat_tests)

byte_visible : (byte : ℕ) → IsPrintable byte → byte ≢ 32 → is_visible byte ≡ true
byte_visible byte printable other = grind (arith, nat_tests)

visible_word : (bytes : List ℕ) → list_all is_visible bytes ≡ true → IsWord bytes
visible_word [] e = tt
visible_word (byte ∷ bytes) e = let p = and_parts (is_visible byte) (list_all is_visible bytes) e in (visible_byte byte p.0, visible_word bytes p.1)

visible_all : (bytes : List ℕ) → list_all is_visible bytes ≡ true → All IsPrintable bytes
visible_all [] e = All-nil IsPrintable
visible_all (byte ∷ bytes) e = let p = and_parts (is_visible byte) (list_all is_visible bytes) e in All-cons IsPrintable byte bytes (visible_printable byte p.0) (visible_all bytes p.1)

all_visible : (bytes : List ℕ) → All IsPrintable bytes → IsWord bytes → list_all is_visible bytes ≡ true
all_visible [] all word = refl
all_visible (byte ∷ bytes) all word =
    rw (byte_visible byte (All-head IsPrintable byte bytes all) word.0) (all_visible bytes (All-tail IsPrintable byte bytes all) word.1)

abbrev pub NameIs : List ℕ → List ℕ → Type 0
NameIs name text = (name ≡ text) × IsNameWord name

name_is : (text : List ℕ) → is_name text ≡ true → IsNameWord text
name_is text e =
    let p = and_parts (nat_le 1 (length text) && nat_le (length text) 40) (list_all is_visible text) e in
    let q = and_parts (nat_le 1 (length text)) (nat_le (length text) 40) p.0 in
    ((leb-true 1 (length text) q.0, leb-true (length text) 40 q.1, visible_all text p.1), visible_word text p.1)

is_name_word : (text : List ℕ) → IsNameWord text → is_name text ≡ true
is_name_word text is = rw (at_most 1 (length text) is.0.0, at_most (length text) 40 is.0.1, all_visible text is.0.2 is.1) refl

name_sound : (text name : List ℕ) → name_word text ≡ Some name → NameIs name text
name_sound text name e = elim (chosen (is_name text) (Some text) None name e) [
  | inl x ↦ (sym (some_is text name x.1), subst IsNameWord (some_is text name x.1) (name_is text x.0))
  | inr x ↦ none_some name x.1
]

pub name-exact : Exact NameIs name_word
name-exact = record {
  sound = λ text name e. name_sound text name e;
  complete = λ text name s. subst (λ t. name_word t ≡ Some name) s.0 (rw (is_name_word name s.1) refl);
}

pub name_is_word : (name word : List ℕ) → NameIs name word → IsWord word
name_is_word name word s = subst IsWord s.0 s.1.1

-- ---- bytes

abbrev pub HexIs : List ℕ → List ℕ → Type 0
HexIs bytes text = decode_of text ≡ Ok bytes

pub hex_ok : (read : Result (List ℕ) FromHexError) (bytes : List ℕ) → result_ok read ≡ Some bytes → read ≡ Ok bytes
hex_ok (Ok read) bytes e = ap Ok (some_is read bytes e)
hex_ok (Err fault) bytes e = none_some bytes e

pub hex-exact : Exact HexIs (λ text. result_ok (decode_of text))
hex-exact = record {
  sound = λ text bytes e. hex_ok (decode_of text) bytes e;
  complete = λ text bytes s. ap result_ok s;
}

pub chunk-exact : Exact SpellsChunk chunk
chunk-exact = said-exact (λ bytes text. HexIs bytes text × (few_bytes 4096 bytes ≡ true)) SpellsChunk chunk
    (kept-exact HexIs (few_bytes 4096) (λ text. result_ok (decode_of text)) hex-exact)
    (λ bytes text s. (let p = and_parts (nat_le 1 (length bytes)) (nat_le (length bytes) 4096) s.1 in (s.0, (leb-true 1 (length bytes) p.0, leb-true (length bytes) 4096 p.1))))
    (λ bytes text s. (s.0, rw (at_most 1 (length bytes) s.1.0, at_most (length bytes) 4096 s.1.1) refl))

abbrev pub SaidIs : List ℕ → List ℕ → Type 0
SaidIs bytes text = (bytes ≡ frame text) × (1 ≤ length text) × (length text ≤ 4092)

said_sound : (text bytes : List ℕ) → said text ≡ Some bytes → SaidIs bytes text
said_sound text bytes e = elim (chosen (few_bytes 4092 text) (Some (frame text)) None bytes e) [
  | inl x ↦ (let p = and_parts (nat_le 1 (length text)) (nat_le (length text) 4092) x.0 in
      (sym (some_is (frame text) bytes x.1), leb-true 1 (length text) p.0, leb-true (length text) 4092 p.1))
  | inr x ↦ none_some bytes x.1
]

pub framed-exact : Exact SaidIs said
framed-exact = record {
  sound = λ text bytes e. said_sound text bytes e;
  complete = λ text bytes s. subst (λ b. said text ≡ Some b) (sym s.0) (rw (at_most 1 (length text) s.1, at_most (length text) 4092 s.2) refl);
}

-- ---- hexadecimal text is a word

ok_step : {A B : Type 0} (read : Result A FromHexError) (next : A → Result B FromHexError) (b : B) → read >>= next ≡ Ok b → (a : A) × (read ≡ Ok a) × (next a ≡ Ok b)
ok_step (Ok a) next b e = (a, refl, e)
ok_step (Err fault) next b e = absurd (let h : Err fault ≡ Ok b = e in cc)

digit_word : (byte index value : ℕ) → value_at byte index ≡ Ok value → byte ≢ 32
digit_word byte index value e same =
    let h : Err (InvalidHexCharacter 32 index) ≡ Ok value = subst (λ b. value_at b index ≡ Ok value) same e in
    cc

pairs_word : (index : ℕ) (text bytes : List ℕ) → decode_pairs index text ≡ Ok bytes → IsWord text
unfolding decode_pairs
pairs_word index [] bytes e = tt
pairs_word index (digit ∷ []) bytes e = absurd (let h : Err OddLength ≡ Ok bytes = e in cc)
pairs_word index (high ∷ low ∷ rest) bytes e =
    let (byte, pair_is, more) = ok_step (pair_value high low index) (λ byte. decode_pairs (index + 2) rest >>= (λ bytes. Ok (byte ∷ bytes))) bytes e in
    let (h, high_is, next) = ok_step (value_at high index) (λ h. value_at low (index + 1) >>= (λ l. Ok (h * 16 + l))) byte pair_is in
    let (l, low_is, sum) = ok_step (value_at low (index + 1)) (λ l. Ok (h * 16 + l)) byte next in
    let (others, rest_is, all) = ok_step (decode_pairs (index + 2) rest) (λ bytes. Ok (byte ∷ bytes)) bytes more in
    (digit_word high index h high_is, (digit_word low (index + 1) l low_is, pairs_word (index + 2) rest others rest_is))

pub hex_word : (text bytes : List ℕ) → decode_of text ≡ Ok bytes → IsWord text
hex_word text bytes e = by_length (length text % 2 == 1) e
  where
    by_length : (odd : Bool) → (if odd then Err OddLength else decode_pairs 0 text) ≡ Ok bytes → IsWord text
    by_length true e = absurd (let h : Err OddLength ≡ Ok bytes = e in cc)
    by_length false e = pairs_word 0 text bytes e

-- ---- currencies and passwords

abbrev pub CurrencyIs : Currency → List ℕ → Type 0
CurrencyIs currency text = text ≡ currency_letters currency

among : (currencies : List Currency) (text : List ℕ) (currency : Currency) → currency_among currencies text ≡ Some currency → CurrencyIs currency text
among [] text currency e = none_some currency e
among (first ∷ currencies) text currency e = elim (chosen (bytes_eq text (currency_letters first)) (Some first) (currency_among currencies text) currency e) [
  | inl x ↦ is_word text (currency_letters first) x.0 ∙ ap currency_letters (some_is first currency x.1)
  | inr x ↦ among currencies text currency x.1
]

letters_read : (currency : Currency) → currency_word (currency_letters currency) ≡ Some currency
letters_read Eur = refl
letters_read Chf = refl
letters_read Gbp = refl
letters_read Usd = refl
letters_read Dkk = refl
letters_read Sek = refl
letters_read Nok = refl
letters_read Pln = refl
letters_read Czk = refl

pub currency-exact : Exact CurrencyIs currency_word
currency-exact = record {
  sound = λ text currency e. among (Eur ∷ Chf ∷ Gbp ∷ Usd ∷ Dkk ∷ Sek ∷ Nok ∷ Pln ∷ Czk ∷ []) text currency e;
  complete = λ text currency s. ap currency_word s ∙ letters_read currency;
}

letters_word : (currency : Currency) → IsWord (currency_letters currency)
letters_word Eur = visible_word (codes "EUR") refl
letters_word Chf = visible_word (codes "CHF") refl
letters_word Gbp = visible_word (codes "GBP") refl
letters_word Usd = visible_word (codes "USD") refl
letters_word Dkk = visible_word (codes "DKK") refl
letters_word Sek = visible_word (codes "SEK") refl
letters_word Nok = visible_word (codes "NOK") refl
letters_word Pln = visible_word (codes "PLN") refl
letters_word Czk = visible_word (codes "CZK") refl

pub currency_is_word : (currency : Currency) (word : List ℕ) → CurrencyIs currency word → IsWord word
currency_is_word currency word s = subst IsWord (sym s) (letters_word currency)

abbrev pub PasswordIs : List ℕ → List ℕ → Type 0
PasswordIs password text = (decode_of text ≡ Ok password) × (length password ≡ 3) × IsBcd password

pub password-exact : Exact PasswordIs password_word
password-exact = said-exact (λ bytes text. HexIs bytes text × (((length bytes == 3) && is_bcd bytes) ≡ true)) PasswordIs password_word
    (kept-exact HexIs (λ bytes. (length bytes == 3) && is_bcd bytes) (λ text. result_ok (decode_of text)) hex-exact)
    (λ bytes text s. (let p = and_parts (length bytes == 3) (is_bcd bytes) s.1 in (s.0, (Decides-eqb (length bytes) 3).0 p.0, passes_bcd bytes p.1)))
    (λ bytes text s. (s.0, rw ((Decides-eqb (length bytes) 3).1 s.1, bcd_passes bytes s.2) refl))

pub password_is_word : (password word : List ℕ) → PasswordIs password word → IsWord word
password_is_word password word s = hex_word word password s.0
