-- Digits, one by one and in the lanes of a vector.
use Rattle.std.proofs.Common.{◌≡◌, ℕ, zero, suc, ◌+◌, ◌<◌, ◌≤◌, ◌%◌, ◌^◌, Bool, false, ◌||◌, cond, ltb, leb, List, [], ◌∷◌, ◌++◌, map, length, take, replicate, ap, ap₂, ◌∙◌, arith}
use Rattle.std.proofs.lemmas.Bool.Decides.{nat_tests}
use Rattle.std.proofs.lemmas.Simd.{zip2_splat, zip2_splat_left, zip2-map}
use lib.Bits.{bit_or}
use lib.Count.{count_trailing_zeros}
use lib.Lanes.{chunk, mask_l, top, zip2}
use Rattle.json_text.specs.Number.{AreDigits, IsDigit}
use Rattle.json_text.proofs.LaneLemmas.{all_lanes_after, lanes_after, lanes_are, or_lanes, top_lane}

digits_append : (w x : List ℕ) → AreDigits w → AreDigits x → AreDigits (w ++ x)
digits_append [] x h g = g
digits_append (c ∷ w) x h g = (h.0, digits_append w x h.1 g)

digits_take : (n : ℕ) (w : List ℕ) → AreDigits w → AreDigits (take n w)
digits_take zero w h = tt
digits_take (suc n) [] h = tt
digits_take (suc n) (c ∷ w) h = (h.0, digits_take n w h.1)

-- no digit, as the lanes are tested
abbrev pub is_no_digit : ℕ → Bool
is_no_digit x = ltb x 48 || leb 58 x

-- what the tests leave in a lane
abbrev pub digit_lane : ℕ → ℕ
digit_lane x = bit_or (cond (ltb x 48) 255 0) (cond (leb 58 x) 255 0)

top_digit : (x : ℕ) → top 7 (digit_lane x) ≡ is_no_digit x
top_digit x = ap (top 7) (or_lanes (ltb x 48) (leb 58 x)) ∙ top_lane (is_no_digit x)

-- both tests together
pub digit_lanes_of : (v : List ℕ) → length v ≡ 16 → zip2 bit_or (zip2 (λ a b. cond (ltb a b) 255 0) v (replicate 16 48)) (zip2 (λ a b. cond (leb a b) 255 0) (replicate 16 58) v) ≡ map digit_lane v
digit_lanes_of v long =
    ap₂ (zip2 bit_or) (zip2_splat (λ a b. cond (ltb a b) 255 0) v 16 48 long) (zip2_splat_left (λ a b. cond (leb a b) 255 0) 58 16 v long)
    ∙ zip2-map bit_or (λ x. cond (ltb x 48) 255 0) (λ x. cond (leb 58 x) 255 0) v

digit_false : (x : ℕ) → is_no_digit x ≡ false → IsDigit x
digit_false x e = (grind (arith, nat_tests), grind (arith, nat_tests))

pub lanes_digits : (v z : List ℕ) → length v ≡ 16 → z ≡ map digit_lane v → AreDigits (take (count_trailing_zeros 64 (mask_l (map (top 7) z) % 2 ^ 64)) v)
lanes_digits = lanes_are AreDigits tt digits_take is_no_digit (λ x w e h. (digit_false x e, h)) digit_lane top_digit

pub digits_after : (b : List ℕ) (len n : ℕ) → len + 16 ≤ length b → n < 16 → AreDigits (take len b) → AreDigits (take n (chunk len 16 b)) → AreDigits (take (len + n) b)
digits_after = lanes_after AreDigits digits_append

pub all_digits_after : (b : List ℕ) (len n : ℕ) → len + 16 ≤ length b → 16 ≤ n → AreDigits (take len b) → AreDigits (take n (chunk len 16 b)) → AreDigits (take (len + 16) b)
all_digits_after = all_lanes_after AreDigits digits_append
