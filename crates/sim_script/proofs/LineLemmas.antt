-- The lines of a script, as the code takes them apart.
use Rattle.std.proofs.Common.{◌≡◌, ℕ, ◌+◌, ◌<◌, ◌≤◌, List, [], ◌∷◌, length, take, drop, refl, sym, ap, arith, inl, inr, true, false}
use Rattle.std.proofs.lemmas.Bool.Decides.{eqb_tells}
use Rattle.std.proofs.lemmas.Str.{IsUtf8-from_is_utf8}
use Rattle.std.proofs.lemmas.Str.Pattern.{IsSplitOnceResult, split_once_first}
use Rattle.std.specs.Borrow.{Bor}
use Rattle.std.specs.Prelude.{Bool, Option, Some, None, MatchOption, option_map}
use Rattle.std.specs.Str.{IsUtf8, is_utf8}
use Rattle.gw_script.specs.Decode.{WordAndRest, split_at_space, with_first_of_word}
use Rattle.sim_script.specs.Words.{parts_value}
use Rattle.sim_script.proofs.SplitLemmas.{offset_of, offset_here, offset_later, take_later, drop_later}

-- the two parts of a text at this offset
abbrev pub parts_at : ℕ → List ℕ → WordAndRest
parts_at offset text = record { word = take offset text; rest = drop (offset + 1) text }

space_split : (text : List ℕ) → offset_of 32 text < length text → split_at_space text ≡ Some (parts_at (offset_of 32 text) text)
space_split [] lt = absurd (omega arith)
space_split (byte ∷ text) lt = elim (eqb_tells byte 32) [
  | inl e ↦ rw (offset_here 32 byte text e.0, e.0) refl
  | inr e ↦ rw (offset_later 32 byte text e.0, take_later byte (offset_of 32 text) text, drop_later byte (offset_of 32 text) text, e.0) (ap (with_first_of_word byte) (space_split text (omega (arith, offset_later 32 byte text e.0))))
]

space_none : (text : List ℕ) → length text ≤ offset_of 32 text → split_at_space text ≡ None
space_none [] le = refl
space_none (byte ∷ text) le = elim (eqb_tells byte 32) [
  | inl e ↦ absurd (omega (arith, offset_here 32 byte text e.0))
  | inr e ↦ rw e.0 (ap (with_first_of_word byte) (space_none text (omega (arith, offset_later 32 byte text e.0))))
]

-- `split_once` at a space splits as the grammar does
pub splits : (text : List ℕ) (r : Option (Bor (List ℕ) × Bor (List ℕ))) → IsSplitOnceResult 32 text r →
    MatchOption r (split_at_space text ≡ None) (λ x. split_at_space text ≡ Some (record { word = x.0.now; rest = x.1.now }))
splits text r h = parts r (split_once_first 32 text r h (omega arith))
  where
    parts : (r : Option (Bor (List ℕ) × Bor (List ℕ))) → MatchOption r (offset_of 32 text ≡ length text) (λ x. (offset_of 32 text < length text) × (x.0.now ≡ take (offset_of 32 text) text) × (x.1.now ≡ drop (offset_of 32 text + 1) text)) →
        MatchOption r (split_at_space text ≡ None) (λ x. split_at_space text ≡ Some (record { word = x.0.now; rest = x.1.now }))
    parts None h = space_none text (omega arith)
    parts (Some x) h = rw (h.1, h.2) (space_split text h.0)

-- the two parts of a text, as the grammar sees them
pub parts_split : (text : List ℕ) (r : Option (Bor (List ℕ) × Bor (List ℕ))) → IsSplitOnceResult 32 text r → option_map parts_value r ≡ split_at_space text
parts_split text None h = sym (splits text None h)
parts_split text (Some parts) h = sym (splits text (Some parts) h)

-- a text of another form than UTF-8
pub not_utf8 : (bytes : List ℕ) → ¬ (IsUtf8 bytes) → is_utf8 bytes ≡ false
not_utf8 bytes other = by_test (is_utf8 bytes) (IsUtf8-from_is_utf8 bytes)
  where
    by_test : (b : Bool) → (b ≡ true → IsUtf8 bytes) → b ≡ false
    by_test true is = absurd (other (is refl))
    by_test false is = refl
