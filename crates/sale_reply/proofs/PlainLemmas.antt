-- Bytes that are written as they are, one by one and in the lanes of a vector.
use Rattle.std.proofs.Common.{◌≡◌, ℕ, suc, ◌+◌, ◌<◌, ◌≤◌, ◌/◌, ◌%◌, ◌^◌, lit≤, Bool, true, false, not, ◌||◌, if◌then◌else◌, cond, nat_eq, nat_lt, eqb, ltb, List, [], ◌∷◌, ◌++◌, map, length, get_or, take, drop, replicate, refl, sym, ap, ap₂, subst, ◌∙◌, arith, inl, inr}
use Rattle.std.proofs.lemmas.List.{take_more, take_all, take-take, take-append-drop, length-append, length-map}
use Rattle.std.proofs.lemmas.Bool.Decides.{nat_tests}
use Rattle.std.proofs.lemmas.Bool.{cases_eq}
use Rattle.std.proofs.lemmas.Grind.{flat_map-append}
use Rattle.std.proofs.lemmas.Simd.{zip2_splat, zip2_splat_left, zip2-map, mask_l-mod, leading_from_mask_l, trailing_mask_l, length-chunk}
use Rattle.std.proofs.Math.Seq.{take-add, take-append_seam}
use Rattle.std.specs.List.{prefix_len}
use Rattle.std.specs.Prelude.{flat_map}
use Rattle.std.specs.Char.{digit_char, encode_utf8}
use Rattle.std.proofs.lemmas.Str.{encode_ascii}
use lib.Bits.{bit_or}
use lib.Count.{count_trailing_zeros}
use lib.Lanes.{chunk, mask_l, top, zip2}
use Rattle.json_text.specs.Canonical.{canonical_byte}
use Rattle.gw_base.specs.Text437.{char_of}
use Rattle.sale_reply.specs.inner.ShownByte.{shown_byte}

-- ---- one by one

-- bytes that are spelled as they are, by the spelling of each
abbrev pub ArePlain : (ℕ → List ℕ) → List ℕ → Type 0
ArePlain spell bytes = flat_map spell bytes ≡ bytes

plain_append : (spell : ℕ → List ℕ) (w x : List ℕ) → ArePlain spell w → ArePlain spell x → ArePlain spell (w ++ x)
plain_append spell w x h g = flat_map-append spell w x ∙ ap₂ (λ (a b : List ℕ). a ++ b) h g

plain_more : (spell : ℕ → List ℕ) (c : ℕ) (w : List ℕ) → spell c ≡ c ∷ [] → ArePlain spell w → ArePlain spell (c ∷ w)
plain_more spell c w h g = ap₂ (λ (a b : List ℕ). a ++ b) h g

pub one_more_plain : (spell : ℕ → List ℕ) (b : List ℕ) (i : ℕ) → i < length b → spell (get_or b i 0) ≡ get_or b i 0 ∷ [] → ArePlain spell (take i b) → ArePlain spell (take (i + 1) b)
one_more_plain spell b i lt same h =
    subst (λ (w : List ℕ). ArePlain spell w) (sym (take_more b i 0 lt)) (plain_append spell (take i b) (get_or b i 0 ∷ []) h (plain_more spell (get_or b i 0) [] same refl))

-- ---- the lanes of a vector

or_lanes : (a b : Bool) → bit_or (cond a 255 0) (cond b 255 0) ≡ cond (a || b) 255 0
or_lanes true true = refl
or_lanes true false = refl
or_lanes false true = refl
or_lanes false false = refl

or_three : (a b c : Bool) → bit_or (bit_or (cond a 255 0) (cond b 255 0)) (cond c 255 0) ≡ cond ((a || b) || c) 255 0
or_three a b c = ap (λ (x : ℕ). bit_or x (cond c 255 0)) (or_lanes a b) ∙ or_lanes (a || b) c

or_four : (a b c d : Bool) → bit_or (bit_or (bit_or (cond a 255 0) (cond b 255 0)) (cond c 255 0)) (cond d 255 0) ≡ cond (((a || b) || c) || d) 255 0
or_four a b c d = ap (λ (x : ℕ). bit_or x (cond d 255 0)) (or_three a b c) ∙ or_lanes ((a || b) || c) d

top_lane : (b : Bool) → top 7 (cond b 255 0) ≡ b
top_lane true = refl
top_lane false = refl

no_bit : count_trailing_zeros 64 0 ≡ 64
unfolding count_trailing_zeros
no_bit = refl

-- lanes by a test of bytes, where a byte that the test does not find is spelled as it is
module _ (spell : ℕ → List ℕ) (is_found : ℕ → Bool) (same : (x : ℕ) → is_found x ≡ false → spell x ≡ x ∷ []) (lane_of : ℕ → ℕ) (tops : (x : ℕ) → top 7 (lane_of x) ≡ is_found x) where
  all_tops : (v : List ℕ) → map (top 7) (map lane_of v) ≡ map is_found v
  all_tops [] = refl
  all_tops (x ∷ v) = ap₂ (λ (b : Bool) (bs : List Bool). b ∷ bs) (tops x) (all_tops v)

  first_plain : (v : List ℕ) → ArePlain spell (take (prefix_len (λ x. not (is_found x)) v) v)
  first_plain [] = refl
  first_plain (x ∷ v) = by (is_found x) refl (first_plain v)
    where
      by : (b : Bool) → is_found x ≡ b → ArePlain spell (take (prefix_len (λ x. not (is_found x)) v) v) → ArePlain spell (take (prefix_len (λ x. not (is_found x)) (x ∷ v)) (x ∷ v))
      by true e rest = subst (λ (b : Bool). ArePlain spell (take (cond (not b) (1 + prefix_len (λ x. not (is_found x)) v) 0) (x ∷ v))) (sym e) refl
      by false e rest =
          let more : 1 + prefix_len (λ x. not (is_found x)) v ≡ suc (prefix_len (λ x. not (is_found x)) v) = omega arith in
          let all : ArePlain spell (take (suc (prefix_len (λ x. not (is_found x)) v)) (x ∷ v)) = plain_more spell x (take (prefix_len (λ x. not (is_found x)) v) v) (same x e) rest in
          subst (λ (b : Bool). ArePlain spell (take (cond (not b) (1 + prefix_len (λ x. not (is_found x)) v) 0) (x ∷ v))) (sym e) (subst (λ (n : ℕ). ArePlain spell (take n (x ∷ v))) (sym more) all)

  all_plain : (v : List ℕ) → prefix_len (λ x. not (is_found x)) v ≡ length v → ArePlain spell v
  all_plain v e = subst (λ (w : List ℕ). ArePlain spell w) (ap (λ (n : ℕ). take n v) e ∙ take_all (length v) v (omega arith)) (first_plain v)

  pub lanes_plain : (v z : List ℕ) → length v ≡ 16 → z ≡ map lane_of v → ArePlain spell (take (count_trailing_zeros 64 (mask_l (map (top 7) z) % 2 ^ 64)) v)
  lanes_plain v z long e =
      let mask : mask_l (map (top 7) z) % 2 ^ 64 ≡ mask_l (map is_found v) = ap (λ l. mask_l l % 2 ^ 64) (ap (map (top 7)) e ∙ all_tops v) ∙ mask_l-mod (map is_found v) 64 (omega (arith, length-map v is_found, long)) in
      subst (λ (m : ℕ). ArePlain spell (take (count_trailing_zeros 64 m) v)) (sym mask)
      (elim (cases_eq (mask_l (map is_found v)) 0) [
        | inl none ↦
            let whole : take (count_trailing_zeros 64 0) v ≡ v = take_all (count_trailing_zeros 64 0) v (omega (arith, long, no_bit)) in
            subst (λ (m : ℕ). ArePlain spell (take (count_trailing_zeros 64 m) v)) (sym none) (subst (λ (w : List ℕ). ArePlain spell w) (sym whole) (all_plain v (leading_from_mask_l is_found v none)))
        | inr some ↦ subst (λ (n : ℕ). ArePlain spell (take n v)) (sym (trailing_mask_l is_found 64 v (omega (arith, long)) (omega (arith, some)))) (first_plain v)
      ])

-- ---- the bytes of a string

-- a byte that has to be escaped, as the lanes are tested
abbrev is_escaped : ℕ → Bool
is_escaped x = eqb x 34 || eqb x 92 || ltb x 32

-- what the tests leave in a lane
abbrev escaped_lane : ℕ → ℕ
escaped_lane x = bit_or (bit_or (cond (eqb x 34) 255 0) (cond (eqb x 92) 255 0)) (cond (ltb x 32) 255 0)

top_escaped : (x : ℕ) → top 7 (escaped_lane x) ≡ is_escaped x
top_escaped x = ap (top 7) (or_three (eqb x 34) (eqb x 92) (ltb x 32)) ∙ top_lane (is_escaped x)

-- the three tests together
escaped_lanes : (v : List ℕ) → length v ≡ 16
    → zip2 bit_or (zip2 bit_or (zip2 (λ a b. cond (eqb a b) 255 0) v (replicate 16 34)) (zip2 (λ a b. cond (eqb a b) 255 0) v (replicate 16 92))) (zip2 (λ a b. cond (ltb a b) 255 0) v (replicate 16 32)) ≡ map escaped_lane v
escaped_lanes v long =
    ap₂ (zip2 bit_or)
    (ap₂ (zip2 bit_or) (zip2_splat (λ a b. cond (eqb a b) 255 0) v 16 34 long) (zip2_splat (λ a b. cond (eqb a b) 255 0) v 16 92 long)
    ∙ zip2-map bit_or (λ x. cond (eqb x 34) 255 0) (λ x. cond (eqb x 92) 255 0) v)
    (zip2_splat (λ a b. cond (ltb a b) 255 0) v 16 32 long)
    ∙ zip2-map bit_or (λ x. bit_or (cond (eqb x 34) 255 0) (cond (eqb x 92) 255 0)) (λ x. cond (ltb x 32) 255 0) v

not_escaped : (x : ℕ) → is_escaped x ≡ false → canonical_byte x ≡ x ∷ []
not_escaped x e = grind (arith, nat_tests)

pub plain_lanes_are : (v : List ℕ) → length v ≡ 16
    → ArePlain canonical_byte (take (count_trailing_zeros 64 (mask_l (map (top 7) (zip2 bit_or (zip2 bit_or (zip2 (λ a b. cond (eqb a b) 255 0) v (replicate 16 34)) (zip2 (λ a b. cond (eqb a b) 255 0) v (replicate 16 92))) (zip2 (λ a b. cond (ltb a b) 255 0) v (replicate 16 32)))) % 2 ^ 64)) v)
plain_lanes_are v long = lanes_plain canonical_byte is_escaped not_escaped escaped_lane top_escaped v _ long (escaped_lanes v long)

-- ---- the bytes of a terminal's line

-- a byte that is written in another way, as the lanes are tested
abbrev is_respelled : ℕ → Bool
is_respelled x = (eqb x 34 || eqb x 92 || ltb x 32) || ltb 126 x

-- what the tests leave in a lane
abbrev respelled_lane : ℕ → ℕ
respelled_lane x = bit_or (escaped_lane x) (cond (ltb 126 x) 255 0)

top_respelled : (x : ℕ) → top 7 (respelled_lane x) ≡ is_respelled x
top_respelled x = ap (top 7) (or_four (eqb x 34) (eqb x 92) (ltb x 32) (ltb 126 x)) ∙ top_lane (is_respelled x)

shown_as_is : (x : ℕ) → 32 ≤ x → x ≤ 126 → canonical_byte x ≡ x ∷ [] → shown_byte x ≡ x ∷ []
shown_as_is x low high same =
    let character : char_of x ≡ x = grind (arith, nat_tests) in
    ap (λ c. flat_map canonical_byte (encode_utf8 c)) character
    ∙ ap (flat_map canonical_byte) (encode_ascii x (omega arith))
    ∙ plain_more canonical_byte x [] same refl

not_respelled : (x : ℕ) → is_respelled x ≡ false → shown_byte x ≡ x ∷ []
not_respelled x e = shown_as_is x (grind (arith, nat_tests)) (grind (arith, nat_tests)) (not_escaped x (grind (arith, nat_tests)))

-- the four tests together
respelled_lanes : (v : List ℕ) → length v ≡ 16
    → zip2 bit_or (zip2 bit_or (zip2 bit_or (zip2 (λ a b. cond (eqb a b) 255 0) v (replicate 16 34)) (zip2 (λ a b. cond (eqb a b) 255 0) v (replicate 16 92))) (zip2 (λ a b. cond (ltb a b) 255 0) v (replicate 16 32))) (zip2 (λ a b. cond (ltb a b) 255 0) (replicate 16 126) v) ≡ map respelled_lane v
respelled_lanes v long =
    ap₂ (zip2 bit_or) (escaped_lanes v long) (zip2_splat_left (λ a b. cond (ltb a b) 255 0) 126 16 v long) ∙ zip2-map bit_or escaped_lane (λ x. cond (ltb 126 x) 255 0) v

pub ascii_lanes_are : (v : List ℕ) → length v ≡ 16
    → ArePlain shown_byte (take (count_trailing_zeros 64 (mask_l (map (top 7) (zip2 bit_or (zip2 bit_or (zip2 bit_or (zip2 (λ a b. cond (eqb a b) 255 0) v (replicate 16 34)) (zip2 (λ a b. cond (eqb a b) 255 0) v (replicate 16 92))) (zip2 (λ a b. cond (ltb a b) 255 0) v (replicate 16 32))) (zip2 (λ a b. cond (ltb a b) 255 0) (replicate 16 126) v))) % 2 ^ 64)) v)
ascii_lanes_are v long = lanes_plain shown_byte is_respelled not_respelled respelled_lane top_respelled v _ long (respelled_lanes v long)

-- ---- one vector after another

pub lanes_after : (spell : ℕ → List ℕ) (b : List ℕ) (len n : ℕ) → n < 16 → ArePlain spell (take len b) → ArePlain spell (take n (chunk len 16 b)) → ArePlain spell (take (len + n) b)
lanes_after spell b len n lt h g =
    let part : take n (take 16 (drop len b)) ≡ take n (drop len b) = take-take n 16 (drop len b) (omega arith) in
    subst (λ (w : List ℕ). ArePlain spell w) (sym (take-add len n b)) (plain_append spell (take len b) (take n (drop len b)) h (subst (λ (w : List ℕ). ArePlain spell w) part g))

pub all_lanes_after : (spell : ℕ → List ℕ) (b : List ℕ) (len n : ℕ) → len + 16 ≤ length b → 16 ≤ n → ArePlain spell (take len b) → ArePlain spell (take n (chunk len 16 b)) → ArePlain spell (take (len + 16) b)
all_lanes_after spell b len n room ge h g =
    let whole : take n (chunk len 16 b) ≡ chunk len 16 b = take_all n (chunk len 16 b) (omega (arith, length-chunk len 16 b room)) in
    subst (λ (w : List ℕ). ArePlain spell w) (sym (take-add len 16 b)) (plain_append spell (take len b) (take 16 (drop len b)) h (subst (λ (w : List ℕ). ArePlain spell w) whole g))

-- the bytes after the last whole vector
pub rest_after : (spell : ℕ → List ℕ) (b : List ℕ) (len n : ℕ) → ArePlain spell (take len b) → ArePlain spell (take n (drop len b)) → ArePlain spell (take (len + n) b)
rest_after spell b len n h g =
    subst (λ (w : List ℕ). ArePlain spell w) (sym (take-add len n b)) (plain_append spell (take len b) (take n (drop len b)) h g)

-- ---- bytes before others

some_escaped : (c x y : ℕ) (a b e : Bool) →
    1 ≤ length (if a || b then 92 ∷ c ∷ [] else (if e then 92 ∷ 117 ∷ 48 ∷ 48 ∷ x ∷ y ∷ [] else c ∷ []))
some_escaped c x y true b e = lit≤ tt
some_escaped c x y false true e = lit≤ tt
some_escaped c x y false false true = lit≤ tt
some_escaped c x y false false false = lit≤ tt

-- no byte is spelled by nothing
some_byte : (c : ℕ) → 1 ≤ length (canonical_byte c)
some_byte c = some_escaped c (digit_char (c / 16)) (digit_char (c % 16)) (nat_eq c 34) (nat_eq c 92) (nat_lt c 32)

-- so no spelling is shorter
no_shorter : (w : List ℕ) → length w ≤ length (flat_map canonical_byte w)
no_shorter [] = lit≤ tt
no_shorter (c ∷ w) = omega (arith, length-append (canonical_byte c) (flat_map canonical_byte w), some_byte c, no_shorter w)

-- and where bytes and those after them are plain, they are
plain_before : (w x : List ℕ) → ArePlain canonical_byte (w ++ x) → ArePlain canonical_byte w
plain_before w x h =
    let spelled_w : List ℕ = flat_map canonical_byte w in
    let spelled_x : List ℕ = flat_map canonical_byte x in
    let same : spelled_w ++ spelled_x ≡ w ++ x = sym (flat_map-append canonical_byte w x) ∙ h in
    let long : length spelled_w ≡ length w =
    omega (arith, ap (λ (l : List ℕ). length l) same, length-append spelled_w spelled_x, length-append w x, no_shorter w, no_shorter x) in
    sym (take-append_seam spelled_w spelled_x) ∙ ap₂ (λ (n : ℕ) (l : List ℕ). take n l) long same ∙ take-append_seam w x

-- all bytes of the rest, which were copied before others into a vector of which so many are plain
pub rest_plain : (rest copied after : List ℕ) (n : ℕ) → length rest ≤ n → copied ≡ rest → ArePlain canonical_byte (take n (copied ++ after)) → ArePlain canonical_byte (take (length rest) rest)
rest_plain rest copied after n ge same h =
    let lanes : List ℕ = copied ++ after in
    let begins : take (length rest) lanes ≡ rest = ap (λ (w : List ℕ). take (length rest) (w ++ after)) same ∙ take-append_seam rest after in
    let prefix : take (length rest) (take n lanes) ≡ rest = take-take (length rest) n lanes ge ∙ begins in
    let split : rest ++ drop (length rest) (take n lanes) ≡ take n lanes =
    ap (λ (w : List ℕ). w ++ drop (length rest) (take n lanes)) (sym prefix) ∙ take-append-drop (length rest) (take n lanes) in
    let plain : ArePlain canonical_byte rest =
    plain_before rest (drop (length rest) (take n lanes)) (subst (λ (w : List ℕ). ArePlain canonical_byte w) (sym split) h) in
    subst (λ (w : List ℕ). ArePlain canonical_byte w) (sym (take_all (length rest) rest (omega arith))) plain
