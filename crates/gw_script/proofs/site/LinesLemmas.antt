-- Splitting a text gives its lines, and nothing else does.
use Rattle.std.proofs.Common.{◌≡◌, ℕ, List, [], ◌∷◌, ◌++◌, refl, sym, ◌∙◌, ap, subst, inl, inr, append_assoc}
use Rattle.std.proofs.lemmas.Bool.Decides.{eqb_tells}
use Rattle.std.specs.Prelude.{◌≢◌, ◌⊎◌}
use Rattle.std.specs.List.{AllByRecursion}
use Rattle.gw_script.specs.Decode.{split_lines, with_prefix}
use Rattle.gw_script.specs.site.Grammar.{AreLinesOf, IsOpenEnded, ended_lines}
use Rattle.gw_script.specs.site.Laws.{SplitsLines}

-- no line end is in the text
abbrev IsLine : List ℕ → Type 0
IsLine line = AllByRecursion (λ byte. byte ≢ 10) line

abbrev AreLines : List (List ℕ) → Type 0
AreLines lines = AllByRecursion IsLine lines

-- ---- what is split are the lines

abbrev TextIs : List (List ℕ) → List ℕ → Type 0
TextIs lines text = (text ≡ ended_lines lines) ⊎ IsOpenEnded lines text

after_end : (lines : List (List ℕ)) (text : List ℕ) → TextIs lines text → TextIs ([] ∷ lines) (10 ∷ text)
after_end lines text (inl is) = inl (ap (λ t. 10 ∷ t) is)
after_end lines text (inr (first, last, are, some, is)) = inr ([] ∷ first, last, ap (λ ls. [] ∷ ls) are, some, ap (λ t. 10 ∷ t) is)

some_byte : (byte : ℕ) (bytes : List ℕ) → byte ∷ bytes ≢ []
some_byte byte bytes e = cc

prefixed_open : (byte : ℕ) (line : List ℕ) (lines : List (List ℕ)) (text : List ℕ) (first : List (List ℕ)) (last : List ℕ) → line ∷ lines ≡ first ++ last ∷ [] → last ≢ [] → text ≡ ended_lines first ++ last → IsOpenEnded ((byte ∷ line) ∷ lines) (byte ∷ text)
prefixed_open byte line lines text [] last are some is =
    let h : line ∷ lines ≡ last ∷ [] = are in
    let l : line ≡ last = cc in
    let ls : lines ≡ [] = cc in
    ([], byte ∷ last, ap (λ x. (byte ∷ x) ∷ lines) l ∙ ap (λ x. (byte ∷ last) ∷ x) ls, some_byte byte last, ap (λ t. byte ∷ t) is)
prefixed_open byte line lines text (one ∷ others) last are some is =
    let h : line ∷ lines ≡ one ∷ (others ++ last ∷ []) = are in
    let l : line ≡ one = cc in
    let ls : lines ≡ others ++ last ∷ [] = cc in
    ((byte ∷ one) ∷ others, last, ap (λ x. (byte ∷ x) ∷ lines) l ∙ ap (λ x. (byte ∷ one) ∷ x) ls, some, ap (λ t. byte ∷ t) is)

none_open : {A : Type 0} (first : List (List ℕ)) (last : List ℕ) → [] ≡ first ++ last ∷ [] → A
none_open [] last e = absurd (let h : [] ≡ last ∷ [] = e in cc)
none_open (one ∷ others) last e = absurd (let h : [] ≡ one ∷ (others ++ last ∷ []) = e in cc)

alone : (byte : ℕ) (text : List ℕ) → TextIs [] text → TextIs ((byte ∷ []) ∷ []) (byte ∷ text)
alone byte text (inl is) = inr ([], byte ∷ [], refl, some_byte byte [], ap (λ t. byte ∷ t) is)
alone byte text (inr (first, last, are, some, is)) = none_open first last are

prefixed : (byte : ℕ) (line : List ℕ) (lines : List (List ℕ)) (text : List ℕ) → TextIs (line ∷ lines) text → TextIs ((byte ∷ line) ∷ lines) (byte ∷ text)
prefixed byte line lines text (inl is) = inl (ap (λ t. byte ∷ t) is)
prefixed byte line lines text (inr (first, last, are, some, is)) = inr (prefixed_open byte line lines text first last are some is)

with_byte : (byte : ℕ) (lines : List (List ℕ)) (text : List ℕ) → byte ≢ 10 → AreLinesOf lines text → AreLinesOf (with_prefix byte lines) (byte ∷ text)
with_byte byte [] text other are = record { no_end_within = ((other, tt), tt); text_is = alone byte text are.text_is }
with_byte byte (line ∷ lines) text other are = record {
  no_end_within = ((other, are.no_end_within.0), are.no_end_within.1);
  text_is = prefixed byte line lines text are.text_is;
}

with_end : (lines : List (List ℕ)) (text : List ℕ) → AreLinesOf lines text → AreLinesOf ([] ∷ lines) (10 ∷ text)
with_end lines text are = record { no_end_within = (tt, are.no_end_within); text_is = after_end lines text are.text_is }

split_are : (text : List ℕ) → AreLinesOf (split_lines text) text
split_are [] = record { no_end_within = tt; text_is = inl refl }
split_are (byte ∷ text) = elim (eqb_tells byte 10) [
  | inl here ↦ rw (here.0, here.1) (with_end (split_lines text) text (split_are text))
  | inr later ↦ rw later.0 (with_byte byte (split_lines text) text later.1 (split_are text))
]

-- ---- the lines are what is split

split_line : (line text : List ℕ) → IsLine line → split_lines (line ++ 10 ∷ text) ≡ line ∷ split_lines text
split_line [] text is = refl
split_line (byte ∷ line) text is = elim (eqb_tells byte 10) [
  | inl here ↦ absurd (is.0 here.1)
  | inr later ↦ rw later.0 (ap (with_prefix byte) (split_line line text is.1))
]

split_last : (line : List ℕ) → IsLine line → line ≢ [] → split_lines line ≡ line ∷ []
split_last [] is some = absurd (some refl)
split_last (byte ∷ []) is some = elim (eqb_tells byte 10) [
  | inl here ↦ absurd (is.0 here.1)
  | inr later ↦ rw later.0 refl
]
split_last (byte ∷ next ∷ line) is some = elim (eqb_tells byte 10) [
  | inl here ↦ absurd (is.0 here.1)
  | inr later ↦ rw later.0 (ap (with_prefix byte) (split_last (next ∷ line) is.1 (some_byte next line)))
]

split_ended : (lines : List (List ℕ)) → AreLines lines → split_lines (ended_lines lines) ≡ lines
split_ended [] are = refl
split_ended (line ∷ lines) are = split_line line (ended_lines lines) are.0 ∙ ap (λ ls. line ∷ ls) (split_ended lines are.1)

split_open : (first : List (List ℕ)) (last : List ℕ) → AreLines (first ++ last ∷ []) → last ≢ [] → split_lines (ended_lines first ++ last) ≡ first ++ last ∷ []
split_open [] last are some = split_last last are.0 some
split_open (line ∷ first) last are some =
    ap split_lines (append_assoc line (10 ∷ ended_lines first) last)
    ∙ split_line line (ended_lines first ++ last) are.0
    ∙ ap (λ ls. line ∷ ls) (split_open first last are.1 some)

split_by : (lines : List (List ℕ)) (text : List ℕ) → AreLines lines → TextIs lines text → split_lines text ≡ lines
split_by lines text are (inl is) = ap split_lines is ∙ split_ended lines are
split_by lines text are (inr (first, last, lines_are, some, is)) =
    ap split_lines is ∙ split_open first last (subst AreLines lines_are are) some ∙ sym lines_are

pub splits-lines : SplitsLines
splits-lines text lines = (
  λ e. subst (λ ls. AreLinesOf ls text) e (split_are text),
  λ are. split_by lines text are.no_end_within are.text_is,
)
