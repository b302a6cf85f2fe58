-- What a power failure leaves where it puts one byte over all that was written.
use Rattle.std.proofs.Common.{◌≡◌, ℕ, zero, suc, ◌+◌, ◌<◌, ◌≤◌, List, [], ◌∷◌, ◌++◌, length, get_or, take, refl, sym, ◌∙◌, ap, arith, true, false}
use Rattle.std.proofs.lemmas.List.{reverse-append, take_all}
use Rattle.std.proofs.lemmas.Grind.{same_number_lists}
use Rattle.std.specs.List.{list_any}
use Rattle.std.specs.Prelude.{Bool, ◌||◌, map, reverse, if◌then◌else◌}
use Rattle.gw_site.specs.Image.{covers, is_covered, junked_from}
use Rattle.gw_site.specs.Outside.{Range}
use Rattle.sim_site.specs.Ranges.{range_value, ranges_value}
use Rattle.sim_site.specs.declared.disk.Written.{Written}

junked_length : (junk : ℕ) (ranges : List Range) (offset : ℕ) (bytes : List ℕ) → length (junked_from junk ranges offset bytes) ≡ length bytes
junked_length junk ranges offset [] = refl
junked_length junk ranges offset (byte ∷ bytes) = ap (λ n. suc n) (junked_length junk ranges (offset + 1) bytes)

junked_get : (junk : ℕ) (ranges : List Range) (start i : ℕ) (bytes : List ℕ) → i < length bytes
    → get_or (junked_from junk ranges start bytes) i 0 ≡ (if is_covered ranges (start + i) then junk else get_or bytes i 0)
junked_get junk ranges start i [] lt = absurd (omega arith)
junked_get junk ranges start zero (byte ∷ bytes) lt = let e : start + 0 ≡ start = omega arith in rw e refl
junked_get junk ranges start (suc i) (byte ∷ bytes) lt =
    let e : start + suc i ≡ (start + 1) + i = omega arith in
    rw e (junked_get junk ranges (start + 1) i bytes (omega arith))

junked_at : (junk : ℕ) (ranges : List Range) (i : ℕ) (bytes : List ℕ) → i < length bytes
    → get_or (junked_from junk ranges 0 bytes) i 0 ≡ (if is_covered ranges i then junk else get_or bytes i 0)
junked_at junk ranges i bytes lt = let e : 0 + i ≡ i = omega arith in rw e at (junked_get junk ranges 0 i bytes lt)

-- a file of the same length that holds the byte at each covered offset, and the old byte at each other
pub junked_is : (junk : ℕ) (ranges : List Range) (old new : List ℕ) → length new ≡ length old
    → ((i : ℕ) → i < length old → get_or new i 0 ≡ (if is_covered ranges i then junk else get_or old i 0)) → new ≡ junked_from junk ranges 0 old
junked_is junk ranges old new size each = same_number_lists new (junked_from junk ranges 0 old) (size ∙ sym (junked_length junk ranges 0 old))
    (λ i lt. let l : i < length old = omega (arith, size) in each i l ∙ sym (junked_at junk ranges i old l))

or_false : (a : Bool) → (a || false) ≡ a
or_false true = refl
or_false false = refl

or_turned : (a b : Bool) → (a || b) ≡ (b || a)
or_turned true true = refl
or_turned true false = refl
or_turned false true = refl
or_turned false false = refl

or_joined : (a b c : Bool) → (a || (b || c)) ≡ ((a || b) || c)
or_joined true b c = refl
or_joined false b c = refl

covered_more : (ranges : List Range) (range : Range) (offset : ℕ) → is_covered (ranges ++ range ∷ []) offset ≡ (is_covered ranges offset || covers offset range)
covered_more [] range offset = or_false (covers offset range)
covered_more (first ∷ ranges) range offset = ap (λ b. covers offset first || b) (covered_more ranges range offset) ∙ or_joined (covers offset first) (is_covered ranges offset) (covers offset range)

map_more : (xs : List Written) (x : Written) → map range_value (xs ++ x ∷ []) ≡ map range_value xs ++ range_value x ∷ []
map_more [] x = refl
map_more (y ∷ xs) x = ap (λ rest. range_value y ∷ rest) (map_more xs x)

-- in whatever order the ranges are asked
pub covered_any : (written : List Written) (offset : ℕ) → list_any (λ w. covers offset (range_value w)) written ≡ is_covered (ranges_value written) offset
covered_any [] offset = refl
covered_any (w ∷ written) offset =
    ap (λ b. covers offset (range_value w) || b) (covered_any written offset) ∙ or_turned (covers offset (range_value w)) (is_covered (ranges_value written) offset)
    ∙ sym (covered_more (ranges_value written) (range_value w) offset) ∙ ap (λ ranges. is_covered ranges offset) (sym (map_more (reverse written) w))
    ∙ ap (λ all. is_covered (map range_value all) offset) (sym (reverse-append (w ∷ []) written))

-- all ranges were asked
pub covered_all : (written : List Written) (k offset : ℕ) → length written ≤ k → list_any (λ w. covers offset (range_value w)) (take k written) ≡ is_covered (ranges_value written) offset
covered_all written k offset le = ap (list_any (λ w. covers offset (range_value w))) (take_all k written le) ∙ covered_any written offset
