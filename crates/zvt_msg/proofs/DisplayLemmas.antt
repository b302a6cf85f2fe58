-- Reading the lines of a display, one after another.
use Rattle.std.proofs.Common.{◌≡◌, ℕ, suc, ◌+◌, ◌-◌, ◌<◌, ◌≤◌, get_or, List, [], ◌∷◌, ◌++◌, length, take, drop, Option, Some, None, refl, sym, ap, ◌∙◌, arith}
use Rattle.std.proofs.lemmas.Bool.{eq-eqb, ne_eqb}
use Rattle.std.proofs.lemmas.List.{append_assoc, length-append, length-drop, take_all}
use Rattle.arrayvec.specs.ArrayVec.{ArrayVec}
use Rattle.zvt_msg.specs.CommandDecode.{decode_display_line, with_first_line, display_lines_from, decode_display_lines_within}

-- these lines before others
abbrev pub preceded_by : List (ArrayVec ℕ) → Option (List (ArrayVec ℕ)) → Option (List (ArrayVec ℕ))
preceded_by lines None = None
preceded_by lines (Some others) = Some (lines ++ others)

-- these lines, and those that the rest gives
abbrev pub all_from : List (ArrayVec ℕ) → List ℕ → Option (List (ArrayVec ℕ))
all_from lines rest = preceded_by lines (decode_display_lines_within (8 - length lines) (241 + length lines) rest)

preceded_by_nothing : (found : Option (List (ArrayVec ℕ))) → preceded_by [] found ≡ found
preceded_by_nothing None = refl
preceded_by_nothing (Some lines) = refl

pub all_begin : (lines : List (ArrayVec ℕ)) (bytes : List ℕ) → lines ≡ [] → all_from lines bytes ≡ decode_display_lines_within 8 241 bytes
all_begin lines bytes none = ap (λ (l : List (ArrayVec ℕ)). all_from l bytes) none ∙ preceded_by_nothing (decode_display_lines_within 8 241 bytes)

-- no line is the ninth
pub all_full : (lines : List (ArrayVec ℕ)) (rest : List ℕ) → length lines ≡ 8 → 1 ≤ length rest → all_from lines rest ≡ None
all_full lines [] full some = absurd (omega arith)
all_full lines (b ∷ rest) full some = rw full refl

-- a line has its own number
pub all_misnumbered : (lines : List (ArrayVec ℕ)) (rest : List ℕ) → length lines < 8 → 1 ≤ length rest → (get_or rest 0 0 ≡ 241 + length lines → ⊥) → all_from lines rest ≡ None
all_misnumbered lines [] room some other = absurd (omega arith)
all_misnumbered lines (b ∷ rest) room some other =
    let left : 8 - length lines ≡ suc (7 - length lines) = omega arith in
    rw (left, ne_eqb b (241 + length lines) other) refl

from_line : (lines : List (ArrayVec ℕ)) (rest : List ℕ) → length lines < 8 → 1 ≤ length rest → get_or rest 0 0 ≡ 241 + length lines → all_from lines rest ≡ preceded_by lines (display_lines_from (decode_display_lines_within (7 - length lines) (241 + length lines + 1)) (decode_display_line (drop 1 rest)))
from_line lines [] room some is = absurd (omega arith)
from_line lines (b ∷ rest) room some is =
    let left : 8 - length lines ≡ suc (7 - length lines) = omega arith in
    rw (left, eq-eqb b (241 + length lines) is) refl

pub all_ended : (lines : List (ArrayVec ℕ)) (rest : List ℕ) → length lines < 8 → 1 ≤ length rest → get_or rest 0 0 ≡ 241 + length lines → decode_display_line (drop 1 rest) ≡ None → all_from lines rest ≡ None
all_ended lines rest room some is none =
    from_line lines rest room some is
    ∙ ap (λ (f : Option (ArrayVec ℕ × List ℕ)). preceded_by lines (display_lines_from (decode_display_lines_within (7 - length lines) (241 + length lines + 1)) f)) none

preceded_by_one : (lines : List (ArrayVec ℕ)) (line : ArrayVec ℕ) (found : Option (List (ArrayVec ℕ))) → preceded_by lines (with_first_line line found) ≡ preceded_by (lines ++ line ∷ []) found
preceded_by_one lines line None = refl
preceded_by_one lines line (Some others) = ap (λ (l : List (ArrayVec ℕ)). Some l) (sym (append_assoc lines (line ∷ []) others))

pub all_go_on : (lines : List (ArrayVec ℕ)) (rest : List ℕ) (line : ArrayVec ℕ) (after : List ℕ) → length lines < 8 → 1 ≤ length rest → get_or rest 0 0 ≡ 241 + length lines → decode_display_line (drop 1 rest) ≡ Some (line, after) → all_from lines rest ≡ all_from (lines ++ line ∷ []) after
all_go_on lines rest line after room some is found =
    let size : length (lines ++ line ∷ []) ≡ length lines + 1 = length-append lines (line ∷ []) in
    let left : 7 - length lines ≡ 8 - length (lines ++ line ∷ []) = omega (arith, size) in
    let number : 241 + length lines + 1 ≡ 241 + length (lines ++ line ∷ []) = omega (arith, size) in
    from_line lines rest room some is
    ∙ ap (λ (f : Option (ArrayVec ℕ × List ℕ)). preceded_by lines (display_lines_from (decode_display_lines_within (7 - length lines) (241 + length lines + 1)) f)) found
    ∙ preceded_by_one lines line (decode_display_lines_within (7 - length lines) (241 + length lines + 1) after)
    ∙ ap (λ (n : ℕ). preceded_by (lines ++ line ∷ []) (decode_display_lines_within n (241 + length lines + 1) after)) left
    ∙ ap (λ (n : ℕ). preceded_by (lines ++ line ∷ []) (decode_display_lines_within (8 - length (lines ++ line ∷ [])) n after)) number

-- all after the first byte, as the code splits it off
abbrev pub text : List ℕ → List ℕ
text rest = take (length rest - 1) (drop 1 rest)

text_is : (rest : List ℕ) → text rest ≡ drop 1 rest
text_is rest = take_all (length rest - 1) (drop 1 rest) (omega (arith, length-drop 1 rest))

pub ends_there : (lines : List (ArrayVec ℕ)) (rest : List ℕ) → length lines < 8 → 1 ≤ length rest → get_or rest 0 0 ≡ 241 + length lines → decode_display_line (text rest) ≡ None → all_from lines rest ≡ None
ends_there lines rest room some is none = all_ended lines rest room some is (ap decode_display_line (sym (text_is rest)) ∙ none)

pub goes_on : (lines others : List (ArrayVec ℕ)) (rest : List ℕ) (line : ArrayVec ℕ) (after : List ℕ) → length lines < 8 → 1 ≤ length rest → get_or rest 0 0 ≡ 241 + length lines → others ≡ lines ++ line ∷ [] → decode_display_line (text rest) ≡ Some (line, after) → all_from others after ≡ all_from lines rest
goes_on lines others rest line after room some is more found =
    ap (λ (l : List (ArrayVec ℕ)). all_from l after) more ∙ sym (all_go_on lines rest line after room some is (ap decode_display_line (sym (text_is rest)) ∙ found))
