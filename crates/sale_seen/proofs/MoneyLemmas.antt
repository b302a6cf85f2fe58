-- The number that the digits of a text spell, and that money spells its minor units.
use Rattle.std.proofs.Common.{◌≡◌, ℕ, ◌+◌, ◌-◌, ◌*◌, ◌/◌, ◌%◌, ◌^◌, ◌<◌, ◌≤◌, List, [], ◌∷◌, ◌++◌, Bool, true, false, if◌then◌else◌, refl, sym, ap, ◌∙◌, arith, decimal, drop, get_or, length, suc}
use Rattle.std.proofs.Math.Seq.{drop-cons}
use Rattle.std.proofs.lemmas.List.{drop_all}
use Rattle.std.specs.Char.{is_ascii_digit}
use Rattle.std.proofs.lemmas.Fmt.{decimal_by_steps}
use Rattle.std.proofs.lemmas.Bool.Decides.{nat_tests}
use Rattle.gw_base.specs.Digits.{digits}
use Rattle.sale_values.specs.Money.{money_text}
use Rattle.sale_seen.specs.inner.Spelled.{spelled_on, after_byte}

with_byte_grows : (n c : ℕ) → n ≤ after_byte n c
with_byte_grows n c = by (is_ascii_digit c)
  where
    by : (b : Bool) → n ≤ (if b then 10 * n + (c - 48) else n)
    by true = omega arith
    by false = omega arith

pub spelled_on_grows : (n : ℕ) (text : List ℕ) → n ≤ spelled_on n text
spelled_on_grows n [] = omega arith
spelled_on_grows n (c ∷ text) =
    let here = with_byte_grows n c in
    let more = spelled_on_grows (after_byte n c) text in
    omega (arith, here, more)

pub spelled_on_append : (n : ℕ) (a b : List ℕ) → spelled_on n (a ++ b) ≡ spelled_on (spelled_on n a) b
spelled_on_append n [] b = refl
spelled_on_append n (c ∷ a) b = spelled_on_append (after_byte n c) a b

digit_is : (d : ℕ) → d < 10 → is_ascii_digit (48 + d) ≡ true
digit_is d h = grind (arith, nat_tests)

with_digit : (n d : ℕ) → d < 10 → after_byte n (48 + d) ≡ 10 * n + d
with_digit n d h = rw (digit_is d h) (omega arith)

one : (n : ℕ) → n < 10 → spelled_on 0 ((48 + n) ∷ []) ≡ n
one n h = with_digit 0 n h ∙ omega arith

more : (n : ℕ) (text : List ℕ) → 10 ≤ n → spelled_on 0 text ≡ n / 10 → spelled_on 0 (text ++ ((48 + n % 10) ∷ [])) ≡ n
more n text h e =
    spelled_on_append 0 text ((48 + n % 10) ∷ [])
    ∙ with_digit (spelled_on 0 text) (n % 10) (omega arith)
    ∙ omega (arith, e)

pub decimal_spells : (n : ℕ) → n < 2 ^ 64 → spelled_on 0 (decimal n) ≡ n
decimal_spells n h = decimal_by_steps (λ n text. spelled_on 0 text ≡ n) one more n h

cents_spell : (n m : ℕ) → m < 100 → spelled_on n (0x2E ∷ digits 2 m) ≡ 100 * n + m
cents_spell n m h =
    let tens = with_digit n (m / 10 % 10) (omega arith) in
    let ones = with_digit (after_byte n (48 + m / 10 % 10)) (m % 10) (omega arith) in
    ones ∙ omega (arith, tens)

-- money spells its minor units
pub money_spells : (units : ℕ) → units < 2 ^ 64 → spelled_on 0 (money_text units) ≡ units
unfolding money_text
money_spells units h =
    spelled_on_append 0 (decimal (units / 100)) (0x2E ∷ digits 2 (units % 100))
    ∙ cents_spell (spelled_on 0 (decimal (units / 100))) (units % 100) (omega arith)
    ∙ omega (arith, decimal_spells (units / 100) (omega arith))

-- no two amounts are written alike
pub money_one : (m n : ℕ) → m < 2 ^ 64 → n < 2 ^ 64 → money_text m ≡ money_text n → m ≡ n
money_one m n h k e = sym (money_spells m h) ∙ ap (spelled_on 0) e ∙ money_spells n k

-- the point and the digits after it
abbrev pub cents_text : ℕ → List ℕ
cents_text units = 0x2E ∷ (0x30 + units % 100 / 10) ∷ (0x30 + units % 100 % 10) ∷ []

-- money is the whole units, and then the digits after the point
pub money_cents : (units : ℕ) → money_text units ≡ decimal (units / 100) ++ cents_text units
unfolding money_text
money_cents units =
    let tens : units % 100 / 10 % 10 ≡ units % 100 / 10 = omega arith in
    ap (λ d. decimal (units / 100) ++ 0x2E ∷ (0x30 + d) ∷ (0x30 + units % 100 % 10) ∷ []) tens

-- where the digits so far are more than 64 bits hold, all of them are
pub too_long : (value index : ℕ) (text : List ℕ) → index < length text → spelled_on value (drop index text) ≡ spelled_on 0 text
    → 2 ^ 64 ≤ after_byte value (get_or text index 0) → 2 ^ 64 ≤ spelled_on 0 text
too_long value index text inside same long =
    let next : drop index text ≡ get_or text index 0 ∷ drop (suc index) text = drop-cons text index 0 inside in
    let grows = spelled_on_grows (after_byte value (get_or text index 0)) (drop (suc index) text) in
    let whole : spelled_on value (drop index text) ≡ spelled_on (after_byte value (get_or text index 0)) (drop (suc index) text) =
    ap (spelled_on value) next in
    omega (arith, grows, whole, same, long)

-- a text is that of an amount where it is the whole units and then the digits after the point
pub written_by_parts : (units : ℕ) (text prefix fraction : List ℕ) → prefix ≡ decimal (units / 100)
    → fraction ≡ cents_text units → text ≡ prefix ++ fraction → text ≡ money_text units
written_by_parts units text prefix fraction e f whole =
    whole ∙ ap (λ a. a ++ fraction) e ∙ ap (λ b. decimal (units / 100) ++ b) f ∙ sym (money_cents units)

-- at the end of a text the number is the one that it spells
pub read_whole : (value index : ℕ) (text : List ℕ) → length text ≤ index → spelled_on value (drop index text) ≡ spelled_on 0 text
    → value ≡ spelled_on 0 text
read_whole value index text past same =
    let nothing : drop index text ≡ [] = drop_all index text past in
    sym (ap (spelled_on value) nothing) ∙ same

-- the text of an amount spells it
pub amount_spells : (text : List ℕ) (units : ℕ) → units < 2 ^ 64 → text ≡ money_text units → spelled_on 0 text ≡ units
amount_spells text units low written = ap (spelled_on 0) written ∙ money_spells units low
