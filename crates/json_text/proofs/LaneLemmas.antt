-- What the lanes of a vector say of bytes: of those before the first that a test finds, and of one vector after another.
use Rattle.std.proofs.Common.{◌≡◌, ℕ, zero, suc, ◌+◌, ◌<◌, ◌≤◌, ◌%◌, ◌^◌, Bool, true, false, not, ◌||◌, cond, List, [], ◌∷◌, ◌++◌, map, length, take, drop, refl, sym, ap, ap₂, subst, ◌∙◌, arith, inl, inr}
use Rattle.std.proofs.lemmas.List.{take_all, length-map}
use Rattle.std.proofs.lemmas.Bool.{cases_eq}
use Rattle.std.proofs.lemmas.Simd.{mask_l-mod, leading_from_mask_l, trailing_mask_l, length-chunk}
use Rattle.std.proofs.Math.Seq.{take-add}
use Rattle.std.specs.List.{prefix_len}
use lib.Bits.{bit_or}
use lib.Count.{count_trailing_zeros}
use lib.Lanes.{chunk, mask_l, top}

-- the tests of a lane together
pub or_lanes : (a b : Bool) → bit_or (cond a 255 0) (cond b 255 0) ≡ cond (a || b) 255 0
or_lanes true true = refl
or_lanes true false = refl
or_lanes false true = refl
or_lanes false false = refl

pub top_lane : (b : Bool) → top 7 (cond b 255 0) ≡ b
top_lane true = refl
top_lane false = refl

module _ (Are : List ℕ → Type 0) (joined : (w x : List ℕ) → Are w → Are x → Are (w ++ x)) where
  -- ---- one vector after another

  take_fewer : (n m : ℕ) (w : List ℕ) → n ≤ m → take n (take m w) ≡ take n w
  take_fewer zero m w le = refl
  take_fewer (suc n) zero w le = absurd (omega arith)
  take_fewer (suc n) (suc m) [] le = refl
  take_fewer (suc n) (suc m) (c ∷ w) le = ap (λ (l : List ℕ). c ∷ l) (take_fewer n m w (omega arith))

  pub lanes_after : (b : List ℕ) (len n : ℕ) → len + 16 ≤ length b → n < 16 → Are (take len b) → Are (take n (chunk len 16 b)) → Are (take (len + n) b)
  lanes_after b len n room lt h g =
      let part : take n (take 16 (drop len b)) ≡ take n (drop len b) = take_fewer n 16 (drop len b) (omega arith) in
      subst (λ (w : List ℕ). Are w) (sym (take-add len n b)) (joined (take len b) (take n (drop len b)) h (subst (λ (w : List ℕ). Are w) part g))

  pub all_lanes_after : (b : List ℕ) (len n : ℕ) → len + 16 ≤ length b → 16 ≤ n → Are (take len b) → Are (take n (chunk len 16 b)) → Are (take (len + 16) b)
  all_lanes_after b len n room ge h g =
      let whole : take n (chunk len 16 b) ≡ chunk len 16 b = take_all n (chunk len 16 b) (omega (arith, length-chunk len 16 b room)) in
      subst (λ (w : List ℕ). Are w) (sym (take-add len 16 b)) (joined (take len b) (take 16 (drop len b)) h (subst (λ (w : List ℕ). Are w) whole g))

module _ (Are : List ℕ → Type 0) (none : Are []) (taken : (n : ℕ) (w : List ℕ) → Are w → Are (take n w)) (is_other : ℕ → Bool)
    (one : (x : ℕ) (w : List ℕ) → is_other x ≡ false → Are w → Are (x ∷ w)) where
  -- ---- the lanes of one vector

  first_are : (v : List ℕ) → Are (take (prefix_len (λ x. not (is_other x)) v) v)
  first_are [] = none
  first_are (x ∷ v) = by (is_other x) refl (first_are v)
    where
      by : (b : Bool) → is_other x ≡ b → Are (take (prefix_len (λ x. not (is_other x)) v) v) → Are (take (prefix_len (λ x. not (is_other x)) (x ∷ v)) (x ∷ v))
      by true e rest = subst (λ (b : Bool). Are (take (cond (not b) (1 + prefix_len (λ x. not (is_other x)) v) 0) (x ∷ v))) (sym e) none
      by false e rest =
          let more : 1 + prefix_len (λ x. not (is_other x)) v ≡ suc (prefix_len (λ x. not (is_other x)) v) = omega arith in
          let all : Are (take (suc (prefix_len (λ x. not (is_other x)) v)) (x ∷ v)) = one x (take (prefix_len (λ x. not (is_other x)) v) v) e rest in
          subst (λ (b : Bool). Are (take (cond (not b) (1 + prefix_len (λ x. not (is_other x)) v) 0) (x ∷ v))) (sym e) (subst (λ (n : ℕ). Are (take n (x ∷ v))) (sym more) all)

  all_are : (v : List ℕ) → prefix_len (λ x. not (is_other x)) v ≡ length v → Are v
  all_are v e = subst (λ (w : List ℕ). Are w) (ap (λ (n : ℕ). take n v) e ∙ take_all (length v) v (omega arith)) (first_are v)

  module _ (lane_of : ℕ → ℕ) (top_other : (x : ℕ) → top 7 (lane_of x) ≡ is_other x) where
    tops_other : (v : List ℕ) → map (top 7) (map lane_of v) ≡ map is_other v
    tops_other [] = refl
    tops_other (x ∷ v) = ap₂ (λ (b : Bool) (bs : List Bool). b ∷ bs) (top_other x) (tops_other v)

    -- the lanes before the first that the tests find, or all
    pub lanes_are : (v z : List ℕ) → length v ≡ 16 → z ≡ map lane_of v → Are (take (count_trailing_zeros 64 (mask_l (map (top 7) z) % 2 ^ 64)) v)
    lanes_are v z long e =
        let mask : mask_l (map (top 7) z) % 2 ^ 64 ≡ mask_l (map is_other v) = ap (λ l. mask_l l % 2 ^ 64) (ap (map (top 7)) e ∙ tops_other v) ∙ mask_l-mod (map is_other v) 64 (omega (arith, length-map v is_other, long)) in
        subst (λ (m : ℕ). Are (take (count_trailing_zeros 64 m) v)) (sym mask)
        (elim (cases_eq (mask_l (map is_other v)) 0) [
          | inl zeros ↦ taken (count_trailing_zeros 64 (mask_l (map is_other v))) v (all_are v (leading_from_mask_l is_other v zeros))
          | inr some ↦ subst (λ (n : ℕ). Are (take n v)) (sym (trailing_mask_l is_other 64 v (omega (arith, long)) (omega (arith, some)))) (first_are v)
        ])
