-- Plain characters, one by one and in the lanes of a vector.
use Rattle.std.proofs.Common.{◌≡◌, ℕ, suc, ◌+◌, ◌<◌, ◌≤◌, ◌%◌, ◌^◌, zero, Bool, false, ◌||◌, cond, eqb, ltb, leb, List, [], ◌∷◌, ◌++◌, map, length, get_or, take, replicate, sym, ap, ap₂, subst, ◌∙◌, arith}
use Rattle.std.proofs.lemmas.List.{take_more}
use Rattle.std.proofs.lemmas.Bool.Decides.{nat_tests}
use Rattle.std.proofs.lemmas.Simd.{zip2_splat, zip2_splat_left, zip2-map}
use lib.Bits.{bit_or}
use lib.Count.{count_trailing_zeros}
use lib.Lanes.{chunk, mask_l, top, zip2}
use Rattle.json_text.specs.inner.ReaderStates.{IsPlain, ArePlain}
use Rattle.json_text.proofs.LaneLemmas.{all_lanes_after, lanes_after, lanes_are, or_lanes, top_lane}

-- ---- one by one

pub plain_append : (w x : List ℕ) → ArePlain w → ArePlain x → ArePlain (w ++ x)
plain_append [] x h g = g
plain_append (c ∷ w) x h g = (h.0, plain_append w x h.1 g)

pub one_more_plain : (b : List ℕ) (i c : ℕ) → i < length b → c ≡ get_or b i 0 → ArePlain (take i b) → IsPlain c → ArePlain (take (i + 1) b)
one_more_plain b i c lt e h s = subst (λ (w : List ℕ). ArePlain w) (sym (take_more b i 0 lt)) (subst (λ (k : ℕ). ArePlain (take i b ++ k ∷ [])) e (plain_append (take i b) (c ∷ []) h (s, tt)))

plain_take : (n : ℕ) (w : List ℕ) → ArePlain w → ArePlain (take n w)
plain_take zero w h = tt
plain_take (suc n) [] h = tt
plain_take (suc n) (c ∷ w) h = (h.0, plain_take n w h.1)

-- ---- the lanes of a vector

-- no plain character, as the lanes are tested
abbrev pub is_other : ℕ → Bool
is_other x = eqb x 34 || eqb x 92 || ltb x 32 || leb 128 x

-- what the tests leave in a lane
abbrev pub lane_of : ℕ → ℕ
lane_of x = bit_or (bit_or (bit_or (cond (eqb x 34) 255 0) (cond (eqb x 92) 255 0)) (cond (ltb x 32) 255 0)) (cond (leb 128 x) 255 0)

or_four : (a b c d : Bool) → bit_or (bit_or (bit_or (cond a 255 0) (cond b 255 0)) (cond c 255 0)) (cond d 255 0) ≡ cond (((a || b) || c) || d) 255 0
or_four a b c d =
    ap (λ (x : ℕ). bit_or (bit_or x (cond c 255 0)) (cond d 255 0)) (or_lanes a b)
    ∙ ap (λ (x : ℕ). bit_or x (cond d 255 0)) (or_lanes (a || b) c)
    ∙ or_lanes ((a || b) || c) d

top_other : (x : ℕ) → top 7 (lane_of x) ≡ is_other x
top_other x = ap (top 7) (or_four (eqb x 34) (eqb x 92) (ltb x 32) (leb 128 x)) ∙ top_lane (is_other x)

-- the four tests together
pub lanes_of : (v : List ℕ) → length v ≡ 16
    → zip2 bit_or (zip2 bit_or (zip2 bit_or (zip2 (λ a b. cond (eqb a b) 255 0) v (replicate 16 34)) (zip2 (λ a b. cond (eqb a b) 255 0) v (replicate 16 92))) (zip2 (λ a b. cond (ltb a b) 255 0) v (replicate 16 32))) (zip2 (λ a b. cond (leb a b) 255 0) (replicate 16 128) v) ≡ map lane_of v
lanes_of v long =
    ap₂ (zip2 bit_or)
    (ap₂ (zip2 bit_or)
    (ap₂ (zip2 bit_or) (zip2_splat (λ a b. cond (eqb a b) 255 0) v 16 34 long) (zip2_splat (λ a b. cond (eqb a b) 255 0) v 16 92 long)
    ∙ zip2-map bit_or (λ x. cond (eqb x 34) 255 0) (λ x. cond (eqb x 92) 255 0) v)
    (zip2_splat (λ a b. cond (ltb a b) 255 0) v 16 32 long)
    ∙ zip2-map bit_or (λ x. bit_or (cond (eqb x 34) 255 0) (cond (eqb x 92) 255 0)) (λ x. cond (ltb x 32) 255 0) v)
    (zip2_splat_left (λ a b. cond (leb a b) 255 0) 128 16 v long)
    ∙ zip2-map bit_or (λ x. bit_or (bit_or (cond (eqb x 34) 255 0) (cond (eqb x 92) 255 0)) (cond (ltb x 32) 255 0)) (λ x. cond (leb 128 x) 255 0) v

other_false : (x : ℕ) → is_other x ≡ false → IsPlain x
other_false x e = (grind (arith, nat_tests), grind (arith, nat_tests), λ is. grind (arith, nat_tests), λ is. grind (arith, nat_tests))

pub lanes_plain : (v z : List ℕ) → length v ≡ 16 → z ≡ map lane_of v → ArePlain (take (count_trailing_zeros 64 (mask_l (map (top 7) z) % 2 ^ 64)) v)
lanes_plain = lanes_are ArePlain tt plain_take is_other (λ x w e h. (other_false x e, h)) lane_of top_other

-- ---- one vector after another

pub plain_after : (b : List ℕ) (len n : ℕ) → len + 16 ≤ length b → n < 16 → ArePlain (take len b) → ArePlain (take n (chunk len 16 b)) → ArePlain (take (len + n) b)
plain_after = lanes_after ArePlain plain_append

pub all_plain_after : (b : List ℕ) (len n : ℕ) → len + 16 ≤ length b → 16 ≤ n → ArePlain (take len b) → ArePlain (take n (chunk len 16 b)) → ArePlain (take (len + 16) b)
all_plain_after = all_lanes_after ArePlain plain_append
