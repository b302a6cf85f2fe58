-- Each state can be completed.
use Rattle.std.proofs.Common.{◌≡◌, ℕ, zero, suc, ◌+◌, ◌-◌, ◌*◌, ◌<◌, ◌≤◌, List, [], ◌∷◌, ◌++◌, length, false, refl, sym, ap, subst, ◌∙◌, arith, true≢false, length-append, inl, inr, ◌⊎◌}
use Rattle.std.specs.Char.{encode_utf8}
use Rattle.std.specs.Str.{encode_utf8_all}
use Rattle.std.proofs.lemmas.Str.{encode_ascii}
use Rattle.std.proofs.lemmas.Bool.{cases_lt}
use Rattle.json_text.specs.Tree.{Tree, null, number, string, array, object, no_elements, element, no_members, member}
use Rattle.json_text.specs.ValueOf.{elements_onto, members_onto}
use Rattle.json_text.specs.MemberNames.{pair_names}
use Rattle.json_text.specs.Character.{unescaped, short, AreCharacters, AreHex, IsUnit, IsLow, of_pair}
use Rattle.json_text.specs.Grammar.{Rules, Allows, AreDistinct, IsNew}
use Rattle.json_text.specs.inner.CharacterLeft.{Completes, LeftOfCharacter, AfterUnit, InFirst, InSecond, IsSecond, IsSound, Bounds, Utf8Bounds, FirstBounds, SecondBounds}
use Rattle.json_text.specs.inner.ReaderStates.{Level, in_list, in_object, IsStringRest, Role, as_value, as_name, value, first_element, first_name, name, colon, after, literal, number_in, string_in, character_in, Closed}
use Rattle.json_text.specs.inner.ReaderProgress.{AreSound, IsRoleSound, IsLive}
use Rattle.json_text.specs.declared.character.CharacterState.{CharacterState}
use Rattle.json_text.specs.declared.character.CharacterState.TheVariants as character_states
use Rattle.json_text.specs.declared.number.NumberState.{NumberState}
use Rattle.json_text.proofs.NumberLemmas.{number_state_live}

-- ---- names

-- as long as all of the names together
total : List (List ℕ) → ℕ
total [] = 0
total (n ∷ ns) = length n + total ns

longer : ℕ → List ℕ
longer zero = []
longer (suc k) = 97 ∷ longer k

length-longer : (k : ℕ) → length (longer k) ≡ k
unfolding longer
length-longer zero = refl
length-longer (suc k) = ap suc (length-longer k)

-- a name longer than all of the others is none of them
distinct-longer : (ns : List (List ℕ)) (k : List ℕ) → total ns < length k → AreDistinct ns → AreDistinct (ns ++ k ∷ [])
unfolding total
distinct-longer [] k lt h = (tt, tt)
distinct-longer (n ∷ ns) k lt h = (new ns h.0 (omega arith), distinct-longer ns k (omega arith) h.1)
  where
    new : (ms : List (List ℕ)) → IsNew n ms → length n < length k → IsNew n (ms ++ k ∷ [])
    new [] h lt = (λ e. absurd (omega (arith, ap length e)), tt)
    new (m ∷ ms) h lt = (h.0, new ms h.1 lt)

-- ---- open arrays and objects

pub after_live : (R : Rules) (st : List Level) (x : Tree) → AreSound st → IsLive R (after x) st
after_live R [] x s = ([], x, (refl, refl))
after_live R (in_list done ∷ st) x s = let below = after_live R st (array (elements_onto done (element x no_elements))) s in (93 ∷ below.0, below.1, (no_elements, below.0, refl, below.2))
after_live R (in_object done k ∷ st) x s =
    let below = after_live R st (object (members_onto done (member k x no_members))) s.1 in
    (125 ∷ below.0, below.1, (no_members, below.0, refl, λ strict. s.0, below.2))

pub value_live : (R : Rules) (st : List Level) → AreSound st → IsLive R value st
value_live R st s = let a = after_live R st null s in (110 ∷ 117 ∷ 108 ∷ 108 ∷ a.0, a.1, record { tree = null; rest = a.0; valued = refl; after = a.2 })

pub first_element_live : (R : Rules) (st : List Level) → AreSound st → IsLive R first_element st
first_element_live R st s = let a = after_live R st (array no_elements) s in (93 ∷ a.0, a.1, (no_elements, a.0, refl, a.2))

pub first_name_live : (R : Rules) (st : List Level) → AreSound st → IsLive R first_name st
first_name_live R st s = let a = after_live R st (object no_members) s in (125 ∷ a.0, a.1, (no_members, a.0, refl, λ strict. tt, a.2))

pub literal_live : (R : Rules) (l : List ℕ) (x : Tree) (st : List Level) → AreSound st → IsLive R (literal l x) st
literal_live R l x st s = let a = after_live R st x s in (l ++ a.0, a.1, (a.0, refl, a.2))

pub number_live : (R : Rules) (text : List ℕ) (p : NumberState) (st : List Level) → AreSound st → IsLive R (number_in text p) st
number_live R text p st s =
    let l = number_state_live p in
    let a = after_live R st (number (text ++ l.0)) s in
    (l.0 ++ a.0, a.1, record { digits = l.0; rest = a.0; left = l.1; parts = refl; following = a.2 })

-- the names differ where the rules want it, so the object may be closed
colon_by : (R : Rules) (st : List Level) (done : List (List ℕ × Tree)) (k : List ℕ) → AreSound st → Allows R (pair_names done ++ k ∷ []) → IsLive R (colon done k) st
colon_by R st done k s d =
    let below = after_live R st (object (members_onto done (member k null no_members))) s in (
      58 ∷ 110 ∷ 117 ∷ 108 ∷ 108 ∷ 125 ∷ below.0,
      below.1,
      record { value = 110 ∷ 117 ∷ 108 ∷ 108 ∷ 125 ∷ below.0; tree = null; rest = 125 ∷ below.0; colon = refl; valued = refl; after = (no_members, below.0, refl, d, below.2) },
    )

pub colon_live : (R : Rules) (st : List Level) (done : List (List ℕ × Tree)) (k : List ℕ) → AreSound st → AreDistinct (pair_names done ++ k ∷ []) → IsLive R (colon done k) st
colon_live R st done k s d = colon_by R st done k s (λ strict. d)

-- where a name may occur twice, any name will do
pub lax_colon_live : (R : Rules) (st : List Level) (done : List (List ℕ × Tree)) (k : List ℕ) → AreSound st → R.distinct ≡ false → IsLive R (colon done k) st
lax_colon_live R st done k s lax = colon_by R st done k s (λ strict. absurd (true≢false (sym strict ∙ lax)))

-- ---- strings

-- letters, and the quotation mark
letters : (k : ℕ) (r : List ℕ) → (cs : List ℕ) × AreCharacters cs (longer k ++ 34 ∷ r) r × (encode_utf8_all cs ≡ longer k)
unfolding longer
letters zero r = ([], refl, refl)
letters (suc k) r =
    let t = letters k r in
    let a : encode_utf8 97 ≡ 97 ∷ [] = encode_ascii 97 (omega arith) in (
      97 ∷ t.0,
      (97 ∷ [], longer k ++ 34 ∷ r, unescaped (record { scalar = inl (omega arith); no_control = omega arith; no_quote = omega arith; no_backslash = omega arith; bytes = sym a }), refl, t.1),
      ap (λ (l : List ℕ). l ++ encode_utf8_all t.0) a ∙ ap (λ (l : List ℕ). 97 ∷ l) t.2,
    )

-- the string can be closed, where its text may be so much longer
text_by : (K : List ℕ → List ℕ → Type 0) (text : List ℕ) (k : ℕ) (r : List ℕ) → K (text ++ longer k) r → IsStringRest K text (longer k ++ 34 ∷ r)
text_by K text k r c = let t = letters k r in record { characters = t.0; rest = r; spelled = t.1; closed = subst (λ (l : List ℕ). K (text ++ l) r) (sym t.2) c }

-- a string that is closed after any text that is long enough
closed_live : (R : Rules) (st : List Level) (role : Role) → AreSound st → IsRoleSound role → (k : ℕ) × ((text : List ℕ) → k ≤ length text → (b : List ℕ) × (v : Tree) × Closed R st role text b v)
closed_live R st as_value s r = (0, λ text le. after_live R st (string text) s)
closed_live R st (as_name done) s d = (suc (total (pair_names done)), λ text le. colon_live R st done text s (distinct-longer (pair_names done) text (omega arith) d))

pub text_live : (R : Rules) (st : List Level) (role : Role) (text : List ℕ) → AreSound st → IsRoleSound role → IsLive R (string_in role text) st
text_live R st role text s r =
    let c = closed_live R st role s r in
    let d = c.1 (text ++ longer c.0) (omega (arith, length-append text (longer c.0), length-longer c.0)) in
    (longer c.0 ++ 34 ∷ d.0, d.1, text_by (λ t n. Closed R st role t n d.1) text c.0 d.0 d.2)

pub name_live : (R : Rules) (st : List Level) (done : List (List ℕ × Tree)) → AreSound st → AreDistinct (pair_names done) → IsLive R (name done) st
name_live R st done s d = let t = text_live R st (as_name done) [] s d in (34 ∷ t.0, t.1, (t.0, refl, t.2))

-- ---- characters

fill : ℕ → ℕ → List ℕ
fill x zero = []
fill x (suc k) = x ∷ fill x k

length-fill : (x k : ℕ) → length (fill x k) ≡ k
unfolding fill
length-fill x zero = refl
length-fill x (suc k) = ap suc (length-fill x k)

-- the character that continuation bytes make of the bits
completed : ℕ → List ℕ → ℕ
completed bits [] = bits
completed bits (x ∷ w) = completed (bits * 64 + (x - 128)) w

completes-fill : (bits k : ℕ) → Completes 128 191 bits (fill 128 k) (completed bits (fill 128 k))
unfolding fill completed
completes-fill bits zero = refl
completes-fill bits (suc k) = (omega arith, omega arith, completes-fill (bits * 64 + (128 - 128)) k)

utf8_live : (owed low high bits : ℕ) → Utf8Bounds owed low high bits → (w : List ℕ) × (c : ℕ) × LeftOfCharacter (character_states.Utf8 owed low high bits) w c
utf8_live owed low high bits b =
    let w = fill 128 (owed - 1) in
    let next = bits * 64 + (low - 128) in
    (low ∷ w, completed next w, (omega (arith, length-fill 128 (owed - 1), b), (omega arith, b.low_to, completes-fill next (owed - 1))))

-- the unit of four digits, `0` three times and another
low_unit : IsUnit 0xDC00 (92 ∷ 117 ∷ 100 ∷ 99 ∷ 48 ∷ 48 ∷ [])
low_unit = record { digits = 100 ∷ 99 ∷ 48 ∷ 48 ∷ []; four = refl; value = (13, refl, (12, refl, (0, refl, (0, refl, refl)))); parts = refl }

second_of : (high : ℕ) → IsSecond high (92 ∷ 117 ∷ 100 ∷ 99 ∷ 48 ∷ 48 ∷ []) (of_pair high 0xDC00)
second_of high = record { low = 0xDC00; unit = low_unit; low_is = (omega arith, omega arith); c_is = refl }

-- what completes a unit that isn't a low surrogate
unit_live : (u : ℕ) → u < 0x10000 → (0xDC00 ≤ u → 0xE000 ≤ u) → (w : List ℕ) × (c : ℕ) × AfterUnit u w c
unit_live u lt low = by (cases_lt u 0xD800) (cases_lt u 0xDC00)
  where
    by : (u < 0xD800) ⊎ (0xD800 ≤ u) → (u < 0xDC00) ⊎ (0xDC00 ≤ u) → (w : List ℕ) × (c : ℕ) × AfterUnit u w c
    by (inl l) d = ([], u, inl (refl, refl, inl l))
    by (inr g) (inl l) = (92 ∷ 117 ∷ 100 ∷ 99 ∷ 48 ∷ 48 ∷ [], of_pair u 0xDC00, inr ((g, l), second_of u))
    by (inr g) (inr h) = ([], u, inl (refl, refl, inr (low h, omega arith)))

in_first : (owed bits u : ℕ) (digits : List ℕ) → length digits ≡ owed → AreHex digits bits u → u < 0x10000 → (0xDC00 ≤ u → 0xE000 ≤ u) → (w : List ℕ) × (c : ℕ) × InFirst owed bits w c
in_first owed bits u digits len makes lt low =
    let b = unit_live u lt low in
    (digits ++ b.0, b.1, record { digits = digits; rest = b.0; unit = u; parts = refl; len = len; value = makes; following = b.2 })

-- how many digits are owed
pub data Owed (owed : ℕ) : Type 0 where
  one : owed ≡ 1 → Owed owed
  two : owed ≡ 2 → Owed owed
  three : owed ≡ 3 → Owed owed
  four : owed ≡ 4 → Owed owed

owed_of : (owed : ℕ) → 1 ≤ owed → owed ≤ 4 → Owed owed
owed_of owed some few =
    elim (cases_lt owed 2) [
      | inl a ↦ one (omega arith)
      | inr a ↦ elim (cases_lt owed 3) [
        | inl b ↦ two (omega arith)
        | inr b ↦ elim (cases_lt owed 4) [ inl c ↦ three (omega arith) | inr c ↦ four (omega arith) ]
      ]
    ]

hex_zeros_1 : (bits : ℕ) → AreHex (48 ∷ []) bits (bits * 16 + 0)
hex_zeros_1 bits = (0, refl, refl)

hex_zeros_2 : (bits : ℕ) → AreHex (48 ∷ 48 ∷ []) bits ((bits * 16 + 0) * 16 + 0)
hex_zeros_2 bits = (0, refl, hex_zeros_1 (bits * 16 + 0))

hex_zeros_3 : (bits : ℕ) → AreHex (48 ∷ 48 ∷ 48 ∷ []) bits (((bits * 16 + 0) * 16 + 0) * 16 + 0)
hex_zeros_3 bits = (0, refl, hex_zeros_2 (bits * 16 + 0))

first_live : (owed bits : ℕ) → FirstBounds owed bits → (w : List ℕ) × (c : ℕ) × LeftOfCharacter (character_states.First owed bits) w c
first_live owed bits b = by (owed_of owed b.some b.few)
  where
    by : Owed owed → (w : List ℕ) × (c : ℕ) × InFirst owed bits w c
    by (one e) = in_first owed bits (bits * 16 + 0) (48 ∷ []) (sym e) (hex_zeros_1 bits) (omega (arith, b)) (λ le. omega (arith, b))
    by (two e) = in_first owed bits ((bits * 16 + 0) * 16 + 0) (48 ∷ 48 ∷ []) (sym e) (hex_zeros_2 bits) (omega (arith, b)) (λ le. omega (arith, b))
    by (three e) = in_first owed bits (((bits * 16 + 0) * 16 + 0) * 16 + 0) (48 ∷ 48 ∷ 48 ∷ []) (sym e) (hex_zeros_3 bits) (omega (arith, b)) (λ le. omega (arith, b))
    by (four e) = in_first owed bits ((((bits * 16 + 0) * 16 + 0) * 16 + 0) * 16 + 0) (48 ∷ 48 ∷ 48 ∷ 48 ∷ []) (sym e) (0, refl, hex_zeros_3 (bits * 16 + 0)) (omega (arith, b)) (λ le. omega (arith, b))

in_second : (high owed bits low : ℕ) (digits : List ℕ) → length digits ≡ owed → AreHex digits bits low → IsLow low → (w : List ℕ) × (c : ℕ) × InSecond high owed bits w c
in_second high owed bits low digits len makes is = (digits, of_pair high low, record { low = low; len = len; value = makes; low_is = is; c_is = refl })

second_live : (high owed bits : ℕ) → SecondBounds owed bits → (w : List ℕ) × (c : ℕ) × LeftOfCharacter (character_states.Second high owed bits) w c
second_live high owed bits b = by (owed_of owed b.some b.few)
  where
    by : Owed owed → (w : List ℕ) × (c : ℕ) × InSecond high owed bits w c
    by (one e) = let d = b.three_digits e in in_second high owed bits (bits * 16 + 0) (48 ∷ []) (sym e) (hex_zeros_1 bits) (omega arith, omega arith)
    by (two e) = let d = b.two_digits e in in_second high owed bits ((bits * 16 + 0) * 16 + 0) (48 ∷ 48 ∷ []) (sym e) (hex_zeros_2 bits) (omega arith, omega arith)
    by (three e) = let d = b.one_digit e in in_second high owed bits (((bits * 16 + 12) * 16 + 0) * 16 + 0) (99 ∷ 48 ∷ 48 ∷ []) (sym e) (12, refl, hex_zeros_2 (bits * 16 + 12)) (omega arith, omega arith)
    by (four e) = let d = b.no_digit e in in_second high owed bits ((((bits * 16 + 13) * 16 + 12) * 16 + 0) * 16 + 0) (100 ∷ 99 ∷ 48 ∷ 48 ∷ []) (sym e) (13, refl, (12, refl, hex_zeros_2 ((bits * 16 + 13) * 16 + 12))) (omega arith, omega arith)

within_live : (s : CharacterState) → Bounds s → (w : List ℕ) × (c : ℕ) × LeftOfCharacter s w c
within_live (character_states.Utf8 owed low high bits) b = utf8_live owed low high bits b
within_live character_states.Escape b = (110 ∷ [], 10, short 110 refl refl)
within_live (character_states.First owed bits) b = first_live owed bits b
within_live (character_states.Between high) b = (92 ∷ 117 ∷ 100 ∷ 99 ∷ 48 ∷ 48 ∷ [], of_pair high 0xDC00, second_of high)
within_live (character_states.SecondEscape high) b = (117 ∷ 100 ∷ 99 ∷ 48 ∷ 48 ∷ [], of_pair high 0xDC00, second_of high)
within_live (character_states.Second high owed bits) b = second_live high owed bits b.1

pub character_live : (R : Rules) (st : List Level) (role : Role) (text : List ℕ) (s : CharacterState) → AreSound st → IsRoleSound role → IsSound s → IsLive R (character_in role text s) st
character_live R st role text s sound r within =
    let l = within_live s within.bounds in
    let t = text_live R st role (text ++ encode_utf8 l.1) sound r in
    (l.0 ++ t.0, t.1, record { bytes = l.0; character = l.1; rest = t.0; left = l.2; parts = refl; following = t.2 })
