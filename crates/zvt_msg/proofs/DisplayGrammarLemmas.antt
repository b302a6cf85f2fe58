-- Lines of a display: the function that computes them agrees with the definition, and they have one spelling.
use Rattle.std.proofs.Common.{◌≡◌, ℕ, zero, suc, ◌+◌, ◌-◌, ◌*◌, ◌/◌, ◌%◌, ◌<◌, ◌≤◌, Bool, true, false, cond, eqb, leb, ltb, List, [], ◌∷◌, ◌++◌, length, take, drop, Option, Some, None, inl, inr, refl, sym, ap, subst, ◌∙◌, arith}
use Rattle.std.specs.Prelude.{◌⊎◌, ◌&&◌}
use Rattle.std.proofs.lemmas.Bool.{cases_lt, eq-eqb, eqb-true, leb-true, le-leb, lt-ltb, le-ltb, and_parts, and_from}
use Rattle.std.proofs.lemmas.List.{take_at, drop_at, length-append, length-take-le, take-append-drop}
use Rattle.arrayvec.specs.ArrayVec.{ArrayVec}
use Rattle.zvt_bmp.specs.Decode.{length_digit}
use Rattle.zvt_bmp.specs.ValueGrammar.{SpellsLlvar}
use Rattle.zvt_msg.specs.CommandGrammar.{SpellsDisplayLines, AreShortLines}
use Rattle.zvt_msg.specs.CommandDecode.{display_line_with, display_line_by, decode_display_line, with_first_line, display_lines_from, decode_display_lines_within}
use Rattle.zvt_msg.specs.CommandCanonical.{canonical_llvar, canonical_display_lines}

-- ---- a digit

digit_found : (digit : ℕ) → digit < 10 → length_digit (240 + digit) ≡ Some digit
digit_found digit small =
    let test : (leb 240 (240 + digit) && leb (240 + digit) 249) ≡ true = and_from (leb 240 (240 + digit)) (leb (240 + digit) 249) (le-leb 240 (240 + digit) (omega arith)) (le-leb (240 + digit) 249 (omega arith)) in
    let value : (240 + digit) - 240 ≡ digit = omega arith in
    rw (test, value) refl

abbrev some_of : ℕ → Option ℕ
some_of n = Some n

some_of_is : (m n : ℕ) → some_of m ≡ some_of n → m ≡ n
some_of_is m n e = cc

digit_by : (byte digit : ℕ) (test : Bool) → (leb 240 byte && leb byte 249) ≡ test → cond test (some_of (byte - 240)) None ≡ some_of digit → (digit < 10) × (byte ≡ 240 + digit)
digit_by byte digit false is e = absurd cc
digit_by byte digit true is e =
    let tests = and_parts (leb 240 byte) (leb byte 249) is in
    let low : 240 ≤ byte = leb-true _ _ tests.0 in
    let high : byte ≤ 249 = leb-true _ _ tests.1 in
    let value = some_of_is (byte - 240) digit e in
    (omega arith, omega arith)

found_digit : (byte digit : ℕ) → length_digit byte ≡ Some digit → (digit < 10) × (byte ≡ 240 + digit)
found_digit byte digit e = digit_by byte digit (leb 240 byte && leb byte 249) refl e

-- ---- a line

abbrev line : List ℕ → ArrayVec ℕ
line bytes = record { items = bytes }

-- the bytes after a number are this line, and rest follows it
pub record HasLine (bytes : List ℕ) (found : ArrayVec ℕ) (rest : List ℕ) : Type 0 where
  pub size : List ℕ
  pub spells : SpellsLlvar size (length found.items)
  pub fits : length found.items ≤ 40
  pub parts : bytes ≡ size ++ (found.items ++ rest)

line_found : (bytes : List ℕ) (found : ArrayVec ℕ) (rest : List ℕ) → HasLine bytes found rest → decode_display_line bytes ≡ Some (found, rest)
line_found bytes found rest has =
    let tens = has.spells.0 in
    let units = has.spells.1 in
    let count : length found.items ≡ 10 * tens + units = has.spells.4 in
    let whole : bytes ≡ (240 + tens) ∷ (240 + units) ∷ (found.items ++ rest) = has.parts ∙ ap (λ (s : List ℕ). s ++ (found.items ++ rest)) has.spells.5 in
    let first = digit_found tens has.spells.2 in
    let second = digit_found units has.spells.3 in
    let fits : ltb 40 (length found.items) ≡ false = le-ltb _ _ has.fits in
    let there : ltb (length (found.items ++ rest)) (length found.items) ≡ false = le-ltb _ _ (omega (arith, length-append found.items rest)) in
    ap decode_display_line whole
    ∙ ap (λ (d : Option ℕ). display_line_by d (length_digit (240 + units)) (found.items ++ rest)) first
    ∙ ap (λ (d : Option ℕ). display_line_by (Some tens) d (found.items ++ rest)) second
    ∙ ap (λ (n : ℕ). display_line_with n (found.items ++ rest)) (sym count)
    ∙ rw (fits, there, take_at found.items rest (length found.items) refl, drop_at found.items rest (length found.items) refl) refl

abbrev both : ArrayVec ℕ → List ℕ → Option (ArrayVec ℕ × List ℕ)
both found rest = Some (found, rest)

both_are : (a b : ArrayVec ℕ) (x y : List ℕ) → both a x ≡ both b y → (a ≡ b) × (x ≡ y)
both_are a b x y e =
    let pair = some_is (a, x) (b, y) e in
    (ap (λ (p : ArrayVec ℕ × List ℕ). p.0) pair, ap (λ (p : ArrayVec ℕ × List ℕ). p.1) pair) where
      some_is : (p q : ArrayVec ℕ × List ℕ) → both p.0 p.1 ≡ both q.0 q.1 → p ≡ q
      some_is p q e = cc

-- after a length, its bytes
record SplitsAt (n : ℕ) (bytes : List ℕ) (found : ArrayVec ℕ) (rest : List ℕ) : Type 0 where
  count : length found.items ≡ n
  fits : n ≤ 40
  parts : bytes ≡ found.items ++ rest

split_with : (n : ℕ) (bytes : List ℕ) (found : ArrayVec ℕ) (rest : List ℕ) → (40 < n) ⊎ (n ≤ 40) → (length bytes < n) ⊎ (n ≤ length bytes) → display_line_with n bytes ≡ both found rest → SplitsAt n bytes found rest
split_with n bytes found rest (inl long) there e =
    let test : ltb 40 n ≡ true = lt-ltb _ _ long in
    let none = rw test at e in absurd (cc none)
split_with n bytes found rest (inr fits) (inl truncated) e =
    let first : ltb 40 n ≡ false = le-ltb _ _ fits in
    let second : ltb (length bytes) n ≡ true = lt-ltb _ _ truncated in
    let none = rw (first, second) at e in absurd (cc none)
split_with n bytes found rest (inr fits) (inr there) e =
    let first : ltb 40 n ≡ false = le-ltb _ _ fits in
    let second : ltb (length bytes) n ≡ false = le-ltb _ _ there in
    let same = both_are (line (take n bytes)) found (drop n bytes) rest (rw (first, second) at e) in
    let same_bytes : take n bytes ≡ found.items = ap (λ (l : ArrayVec ℕ). l.items) same.0 in
    record {
      count = ap length (sym same_bytes) ∙ length-take-le n bytes there;
      fits = fits;
      parts = sym (take-append-drop n bytes) ∙ ap (λ (t : List ℕ). t ++ drop n bytes) same_bytes ∙ ap (λ (r : List ℕ). found.items ++ r) same.1;
    }

line_by_digits : (tens units : ℕ) (bytes : List ℕ) (found : ArrayVec ℕ) (rest : List ℕ) (t u : Option ℕ) → length_digit tens ≡ t → length_digit units ≡ u → display_line_by t u bytes ≡ both found rest → HasLine (tens ∷ units ∷ bytes) found rest
line_by_digits tens units bytes found rest None u first second e = absurd cc
line_by_digits tens units bytes found rest (Some t) None first second e = absurd cc
line_by_digits tens units bytes found rest (Some t) (Some u) first second e =
    let high = found_digit tens t first in
    let low = found_digit units u second in
    let splits = split_with (10 * t + u) bytes found rest (cases_lt 40 (10 * t + u)) (cases_lt (length bytes) (10 * t + u)) e in
    record {
      size = tens ∷ units ∷ [];
      spells = (t, u, high.0, low.0, splits.count, ap (λ (a : ℕ). a ∷ units ∷ []) high.1 ∙ ap (λ (b : ℕ). (240 + t) ∷ b ∷ []) low.1);
      fits = omega (arith, splits.count, splits.fits);
      parts = ap (λ (b : List ℕ). tens ∷ units ∷ b) splits.parts;
    }

found_line : (bytes : List ℕ) (found : ArrayVec ℕ) (rest : List ℕ) → decode_display_line bytes ≡ Some (found, rest) → HasLine bytes found rest
found_line [] found rest e = absurd cc
found_line (tens ∷ []) found rest e = absurd cc
found_line (tens ∷ units ∷ bytes) found rest e = line_by_digits tens units bytes found rest (length_digit tens) (length_digit units) refl refl e

-- ---- lines

no_bytes : (n number : ℕ) → decode_display_lines_within n number [] ≡ Some []
no_bytes zero number = refl
no_bytes (suc n) number = refl

pub lines_found : (lines : List (ArrayVec ℕ)) (n number : ℕ) (bytes : List ℕ) → length lines ≤ n → AreShortLines lines → SpellsDisplayLines number bytes lines → decode_display_lines_within n number bytes ≡ Some lines
lines_found [] n number bytes few fits empty = ap (decode_display_lines_within n number) empty ∙ no_bytes n number
lines_found (first ∷ lines) zero number bytes few fits spells = absurd (omega arith)
lines_found (first ∷ lines) (suc n) number bytes few fits (size, more, length_is, others, whole) =
    let has : HasLine (size ++ (first.items ++ more)) first more = record { size = size; spells = length_is; fits = fits.0; parts = refl } in
    let found = line_found (size ++ (first.items ++ more)) first more has in
    let after = lines_found lines n (number + 1) more (omega arith) fits.1 others in
    ap (decode_display_lines_within (suc n) number) whole
    ∙ rw (eq-eqb number number refl) (ap (display_lines_from (decode_display_lines_within n (number + 1))) found ∙ ap (with_first_line first) after)

-- what is known of the lines that were found
abbrev pub AreFound : ℕ → ℕ → List ℕ → Option (List (ArrayVec ℕ)) → Type 0
AreFound n number bytes None = Unit {0}
AreFound n number bytes (Some lines) = (length lines ≤ n) × AreShortLines lines × SpellsDisplayLines number bytes lines

with_line : (n number : ℕ) (bytes : List ℕ) (first : ArrayVec ℕ) (rest : List ℕ) (others : Option (List (ArrayVec ℕ))) → HasLine bytes first rest → AreFound n (number + 1) rest others → AreFound (suc n) number (number ∷ bytes) (with_first_line first others)
with_line n number bytes first rest None has found = tt
with_line n number bytes first rest (Some lines) has (few, fits, spells) =
    (omega (arith, few), (has.fits, fits), (has.size, rest, has.spells, spells, ap (λ (b : List ℕ). number ∷ b) has.parts))

at_line : (n number : ℕ) (bytes : List ℕ) (found : Option (ArrayVec ℕ × List ℕ)) → decode_display_line bytes ≡ found → ((rest : List ℕ) → AreFound n (number + 1) rest (decode_display_lines_within n (number + 1) rest)) → AreFound (suc n) number (number ∷ bytes) (display_lines_from (decode_display_lines_within n (number + 1)) found)
at_line n number bytes None e others = tt
at_line n number bytes (Some (first, rest)) e others =
    with_line n number bytes first rest (decode_display_lines_within n (number + 1) rest) (found_line bytes first rest e) (others rest)

at_number : (n number b : ℕ) (bytes : List ℕ) (test : Bool) → eqb b number ≡ test → ((rest : List ℕ) → AreFound n (number + 1) rest (decode_display_lines_within n (number + 1) rest)) → AreFound (suc n) number (b ∷ bytes) (cond test (display_lines_from (decode_display_lines_within n (number + 1)) (decode_display_line bytes)) None)
at_number n number b bytes false is others = tt
at_number n number b bytes true is others =
    subst (λ (a : ℕ). AreFound (suc n) number (a ∷ bytes) (display_lines_from (decode_display_lines_within n (number + 1)) (decode_display_line bytes))) (sym (eqb-true b number is)) (at_line n number bytes (decode_display_line bytes) refl others)

pub found_lines : (n number : ℕ) (bytes : List ℕ) → AreFound n number bytes (decode_display_lines_within n number bytes)
found_lines zero number [] = (omega arith, tt, refl)
found_lines zero number (b ∷ bytes) = tt
found_lines (suc n) number [] = (omega arith, tt, refl)
found_lines (suc n) number (b ∷ bytes) = at_number n number b bytes (eqb b number) refl (λ rest. found_lines n (number + 1) rest)

-- ---- the one spelling

llvar_is : (size : List ℕ) (n : ℕ) → SpellsLlvar size n → size ≡ canonical_llvar n
llvar_is size n (tens, units, high, low, count, is) =
    let first : 240 + tens ≡ 240 + n / 10 = omega arith in
    let second : 240 + units ≡ 240 + n % 10 = omega arith in
    is ∙ ap (λ (a : ℕ). a ∷ (240 + units) ∷ []) first ∙ ap (λ (b : ℕ). (240 + n / 10) ∷ b ∷ []) second

llvar_spells : (n : ℕ) → n ≤ 40 → SpellsLlvar (canonical_llvar n) n
llvar_spells n fits = (n / 10, n % 10, omega arith, omega arith, omega arith, refl)

pub lines_are : (lines : List (ArrayVec ℕ)) (number : ℕ) (bytes : List ℕ) → SpellsDisplayLines number bytes lines → bytes ≡ canonical_display_lines number lines
lines_are [] number bytes empty = empty
lines_are (first ∷ lines) number bytes (size, more, length_is, others, whole) =
    whole
    ∙ ap (λ (s : List ℕ). number ∷ (s ++ (first.items ++ more))) (llvar_is size (length first.items) length_is)
    ∙ ap (λ (m : List ℕ). number ∷ (canonical_llvar (length first.items) ++ (first.items ++ m))) (lines_are lines (number + 1) more others)

pub lines_spell : (lines : List (ArrayVec ℕ)) (number : ℕ) → AreShortLines lines → SpellsDisplayLines number (canonical_display_lines number lines) lines
lines_spell [] number fits = refl
lines_spell (first ∷ lines) number fits =
    (canonical_llvar (length first.items), canonical_display_lines (number + 1) lines, llvar_spells (length first.items) fits.0, lines_spell lines (number + 1) fits.1, refl)
