-- Texts and words, split at the first line end or space.
use Rattle.std.proofs.Common.{◌≡◌, ℕ, ◌+◌, ◌<◌, ◌≤◌, List, [], ◌∷◌, length, take, drop, refl, ap, arith, inl, inr, true, false}
use Rattle.std.proofs.Math.Numerals.{one-add, add-one}
use Rattle.std.proofs.lemmas.Bool.{false_from_ne_true}
use Rattle.std.proofs.lemmas.Bool.Decides.{eqb_tells, nat_tests}
use Rattle.std.proofs.lemmas.List.Sums.{position_or_len_is}
use Rattle.std.specs.Prelude.{Bool, ◌==◌, nat_lt, if◌then◌else◌, Option, Some, None, position}
use Rattle.std.specs.List.{position_or_len}
use Rattle.memchr.specs.Find.{IsFirstByte, is_byte}
use Rattle.gw_script.specs.Decode.{split_lines, with_prefix}

-- the offset of the first byte of this value, or the length
abbrev pub offset_of : ℕ → List ℕ → ℕ
offset_of byte bytes = position_or_len (λ x. x == byte) bytes

pub offset_here : (byte first : ℕ) (bytes : List ℕ) → (first == byte) ≡ true → offset_of byte (first ∷ bytes) ≡ 0
offset_here byte first bytes e = rw e refl

pub offset_later : (byte first : ℕ) (bytes : List ℕ) → (first == byte) ≡ false → offset_of byte (first ∷ bytes) ≡ 1 + offset_of byte bytes
offset_later byte first bytes e = rw e refl

-- an offset one further on, after a byte more before it
pub take_later : (byte n : ℕ) (bytes : List ℕ) → take (1 + n) (byte ∷ bytes) ≡ byte ∷ take n bytes
take_later byte n bytes = rw one-add refl

pub drop_later : (byte n : ℕ) (bytes : List ℕ) → drop ((1 + n) + 1) (byte ∷ bytes) ≡ drop (n + 1) bytes
drop_later byte n bytes = rw (add-one (1 + n), one-add n, add-one n) refl

lines_later : (byte : ℕ) (bytes : List ℕ) → (byte == 10) ≡ false → split_lines bytes ≡ take (offset_of 10 bytes) bytes ∷ split_lines (drop (offset_of 10 bytes + 1) bytes) →
    split_lines (byte ∷ bytes) ≡ take (offset_of 10 (byte ∷ bytes)) (byte ∷ bytes) ∷ split_lines (drop (offset_of 10 (byte ∷ bytes) + 1) (byte ∷ bytes))
lines_later byte bytes e before =
    let n = offset_of 10 bytes in
    rw (offset_later 10 byte bytes e, take_later byte n bytes, drop_later byte n bytes, e) (ap (with_prefix byte) before)

lines_here : (byte : ℕ) (bytes : List ℕ) → (byte == 10) ≡ true →
    split_lines (byte ∷ bytes) ≡ take (offset_of 10 (byte ∷ bytes)) (byte ∷ bytes) ∷ split_lines (drop (offset_of 10 (byte ∷ bytes) + 1) (byte ∷ bytes))
lines_here byte bytes e = rw (offset_here 10 byte bytes e, e) refl

lines_split : (bytes : List ℕ) → offset_of 10 bytes < length bytes → split_lines bytes ≡ take (offset_of 10 bytes) bytes ∷ split_lines (drop (offset_of 10 bytes + 1) bytes)
lines_split [] lt = absurd (omega arith)
lines_split (byte ∷ bytes) lt = elim (eqb_tells byte 10) [ inl e ↦ lines_here byte bytes e.0 | inr e ↦ lines_later byte bytes e.0 (lines_split bytes (omega (arith, offset_later 10 byte bytes e.0))) ]

lines_whole : (byte : ℕ) (bytes : List ℕ) → length (byte ∷ bytes) ≤ offset_of 10 (byte ∷ bytes) → split_lines (byte ∷ bytes) ≡ (byte ∷ bytes) ∷ []
lines_whole byte [] le = elim (eqb_tells byte 10) [ inl e ↦ absurd (omega (arith, offset_here 10 byte [] e.0)) | inr e ↦ rw e.0 refl ]
lines_whole byte (next ∷ bytes) le = elim (eqb_tells byte 10) [
  | inl e ↦ absurd (omega (arith, offset_here 10 byte (next ∷ bytes) e.0))
  | inr e ↦ rw e.0 (ap (with_prefix byte) (lines_whole next bytes (omega (arith, offset_later 10 byte (next ∷ bytes) e.0))))
]

-- what the result of `position` says of the offset
found_at : (within : Bool) (offset end : ℕ) → Some end ≡ (if within then Some offset else None) → (within ≡ true) × (end ≡ offset)
found_at true offset end e = (refl, cc)
found_at false offset end e = cc

found_none : (within : Bool) (offset : ℕ) → None ≡ (if within then Some offset else None) → within ≡ false
found_none true offset e = cc
found_none false offset e = refl

-- a text is split at its first line end
pub text_split : (bytes : List ℕ) (end : ℕ) → Some end ≡ position (λ x. x == 10) bytes → split_lines bytes ≡ take end bytes ∷ split_lines (drop (end + 1) bytes)
text_split bytes end found =
    let at = found_at (nat_lt (offset_of 10 bytes) (length bytes)) (offset_of 10 bytes) end found in
    let lt : offset_of 10 bytes < length bytes = grind (arith, nat_tests, at.0) in
    rw at.1 (lines_split bytes lt)

-- and is whole where it has none
pub text_whole : (bytes : List ℕ) → 0 < length bytes → None ≡ position (λ x. x == 10) bytes → split_lines bytes ≡ bytes ∷ []
text_whole [] some found = absurd (omega arith)
text_whole (byte ∷ bytes) some found =
    let past = found_none (nat_lt (offset_of 10 (byte ∷ bytes)) (length (byte ∷ bytes))) (offset_of 10 (byte ∷ bytes)) found in
    lines_whole byte bytes (not_below (offset_of 10 (byte ∷ bytes)) (length (byte ∷ bytes)) past)
  where
    not_below : (a b : ℕ) → nat_lt a b ≡ false → b ≤ a
    not_below a b e = grind (arith, nat_tests)

-- the place that a search finds is the offset
pub found_is : (bytes : List ℕ) (found : Option ℕ) → IsFirstByte (is_byte 10) bytes found → found ≡ position (λ x. x == 10) bytes
found_is bytes (Some end) first =
    let at : offset_of 10 bytes ≡ end = position_or_len_is (λ x. x == 10) bytes end 0 (omega (arith, first.0.high)) (λ k lt. false_from_ne_true _ (first.0.before k (omega arith) lt)) (λ lt. first.1) in
    let within : nat_lt end (length bytes) ≡ true = let lt = first.0.high in grind (arith, nat_tests) in
    rw (at, within) refl
found_is bytes None nowhere =
    let at : offset_of 10 bytes ≡ length bytes = position_or_len_is (λ x. x == 10) bytes (length bytes) 0 (omega arith) (λ k lt. false_from_ne_true _ (nowhere k (omega arith) lt)) (λ lt. absurd (omega (arith, lt))) in
    let past : nat_lt (length bytes) (length bytes) ≡ false = grind (arith, nat_tests) in
    rw (at, past) refl
