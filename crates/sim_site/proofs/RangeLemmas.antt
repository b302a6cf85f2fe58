-- What a range covers, and what a file has where bytes were put over a range of it.
use Rattle.std.proofs.Common.{◌≡◌, ℕ, ◌+◌, ◌-◌, ◌<◌, ◌≤◌, List, ◌++◌, append-nil, append_assoc, drop, length, get_or, take, refl, sym, ◌∙◌, ap, arith, inl, inr}
use Rattle.std.proofs.lemmas.Bool.{cases_lt, and_from, lt-ltb, le-ltb, le-leb, lt-leb}
use Rattle.std.proofs.lemmas.List.{get_or-drop, get_or-take, length-drop, length-take}
use Rattle.std.proofs.lemmas.List.Edits.{paste_all}
use Rattle.std.proofs.lemmas.List.Folds.{list_any_more}
use Rattle.std.proofs.lemmas.Slice.{put_mid-paste}
use borrow.Rule.Slice.PartMut.{put_mid}
use Rattle.std.specs.List.{list_any}
use Rattle.std.specs.Prelude.{Bool, true, false, ◌||◌, ◌&&◌, min, nat_le, nat_lt, replicate, if◌then◌else◌}
use Rattle.gw_site.specs.Image.{covers}
use Rattle.gw_site.specs.Outside.{Range, overwrite}
use Rattle.gw_site.proofs.OverwriteLemmas.{over_below, over_inside, over_above}
use Rattle.sim_site.specs.declared.disk.Written.{Written}

pub covers_inside : (range : Range) (offset : ℕ) → range.offset ≤ offset → offset < range.offset + range.size → covers offset range ≡ true
covers_inside range offset le lt = and_from (nat_le range.offset offset) (nat_lt offset (range.offset + range.size)) (le-leb range.offset offset le) (lt-ltb offset (range.offset + range.size) lt)

and_false : (a b : Bool) → b ≡ false → (a && b) ≡ false
and_false true b e = e
and_false false b e = refl

covers_below : (range : Range) (offset : ℕ) → offset < range.offset → covers offset range ≡ false
covers_below range offset lt = ap (λ b. b && nat_lt offset (range.offset + range.size)) (lt-leb range.offset offset lt)

covers_above : (range : Range) (offset : ℕ) → range.offset + range.size ≤ offset → covers offset range ≡ false
covers_above range offset le = and_false (nat_le range.offset offset) (nat_lt offset (range.offset + range.size)) (le-ltb offset (range.offset + range.size) le)

if_covered : (b : Bool) (new value old : ℕ) → b ≡ true → new ≡ value → new ≡ (if b then value else old)
if_covered b new value old e same = same ∙ ap (λ (c : Bool). if c then value else old) (sym e)

if_clean : (b : Bool) (new value old : ℕ) → b ≡ false → new ≡ old → new ≡ (if b then value else old)
if_clean b new value old e same = same ∙ ap (λ (c : Bool). if c then value else old) (sym e)

-- bytes put over the part of a range that lies in the file
pub range_put : (old bytes : List ℕ) (range : Range) (end value offset : ℕ) → end ≡ min (range.offset + range.size) (length old) → range.offset < end → length bytes ≡ end - range.offset
    → (range.offset ≤ offset → offset < end → get_or bytes (offset - range.offset) 0 ≡ value) → offset < length old
    → get_or (overwrite old range.offset bytes) offset 0 ≡ (if covers offset range then value else get_or old offset 0)
range_put old bytes range end value offset e some size each lt = elim (cases_lt offset range.offset) [ inl below ↦ outside_below below | inr le ↦ elim (cases_lt offset end) [ inl inside ↦ within le inside | inr above ↦ outside_above above ] ]
  where
    new : ℕ
    new = get_or (overwrite old range.offset bytes) offset 0

    outside_below : offset < range.offset → new ≡ (if covers offset range then value else get_or old offset 0)
    outside_below below = if_clean (covers offset range) new value (get_or old offset 0) (covers_below range offset below) (over_below old range.offset bytes offset below)

    within : range.offset ≤ offset → offset < end → new ≡ (if covers offset range then value else get_or old offset 0)
    within le inside = if_covered (covers offset range) new value (get_or old offset 0) (covers_inside range offset le (omega (arith, e))) (over_inside old range.offset bytes offset le (omega (arith, size)) ∙ each le inside)

    outside_above : end ≤ offset → new ≡ (if covers offset range then value else get_or old offset 0)
    outside_above above = if_clean (covers offset range) new value (get_or old offset 0) (covers_above range offset (omega (arith, e))) (over_above old range.offset bytes offset (omega (arith, size)))

-- bytes put over a part of a file
part_put : (old new : List ℕ) (start size : ℕ) → start ≤ length old → length new ≡ size → put_mid start size old new ≡ overwrite old start new
part_put old new start size within same =
    let none : 0 ≡ start - length old = omega arith in
    put_mid-paste start size old new new size refl refl (sym same) ∙ paste_all old start new size (sym same)
    ∙ sym (append_assoc (take start old) new (drop (start + size) old))
    ∙ ap (λ head. (head ++ new) ++ drop (start + size) old) (sym (append-nil (take start old)))
    ∙ ap (λ n. ((take start old ++ replicate n 0) ++ new) ++ drop (start + size) old) none
    ∙ ap (λ n. ((take start old ++ replicate (start - length old) 0) ++ new) ++ drop (start + n) old) (sym same)

-- one byte put over the part of a range that lies in the file
pub range_filled : (old new : List ℕ) (range : Range) (end value offset : ℕ) → end ≡ min (range.offset + range.size) (length old) → range.offset < end → length new ≡ length (take (end - range.offset) (drop range.offset old))
    → ((k d : ℕ) → k < length (take (end - range.offset) (drop range.offset old)) → value ≡ value → get_or new k d ≡ value) → offset < length old
    → get_or (put_mid range.offset (end - range.offset) old new) offset 0 ≡ (if covers offset range then value else get_or old offset 0)
range_filled old new range end value offset e some long each lt =
    let part : length (take (end - range.offset) (drop range.offset old)) ≡ end - range.offset = omega (arith, e, length-take (end - range.offset) (drop range.offset old), length-drop range.offset old) in
    let size = long ∙ part in
    ap (λ bytes. get_or bytes offset 0) (part_put old new range.offset (end - range.offset) (omega (arith, e, some)) size)
    ∙ range_put old new range end value offset e some size (λ le inside. each (offset - range.offset) 0 (omega (arith, part)) refl) lt

-- the bytes of another file put over the part of a range that lies in the file
pub range_taken : (old file : List ℕ) (range : Range) (end offset : ℕ) → length old ≡ length file → end ≡ min (range.offset + range.size) (length old) → range.offset < end → offset < length old
    → get_or (overwrite old range.offset (take (end - range.offset) (drop range.offset file))) offset 0 ≡ (if covers offset range then get_or file offset 0 else get_or old offset 0)
range_taken old file range end offset same e some lt = range_put old (take (end - range.offset) (drop range.offset file)) range end (get_or file offset 0) offset e some
    (omega (arith, e, same, length-take (end - range.offset) (drop range.offset file), length-drop range.offset file))
    (λ le inside. let k : range.offset + (offset - range.offset) ≡ offset = omega arith in get_or-take (end - range.offset) (drop range.offset file) (offset - range.offset) 0 (omega (arith, some)) ∙ get_or-drop range.offset file (offset - range.offset) 0 ∙ ap (λ n. get_or file n 0) k) lt

-- no byte of the file lies in the range
pub range_missed : (old : List ℕ) (range : Range) (end value offset : ℕ) → end ≡ min (range.offset + range.size) (length old) → end ≤ range.offset → offset < length old
    → get_or old offset 0 ≡ (if covers offset range then value else get_or old offset 0)
range_missed old range end value offset e none lt = elim (cases_lt offset range.offset) [ inl below ↦ if_clean (covers offset range) (get_or old offset 0) value (get_or old offset 0) (covers_below range offset below) refl | inr le ↦ if_clean (covers offset range) (get_or old offset 0) value (get_or old offset 0) (covers_above range offset (omega (arith, e))) refl ]

either : (any covered : Bool) (new old first value : ℕ) → old ≡ (if any then value else first) → new ≡ (if covered then value else old) → new ≡ (if any || covered then value else first)
either true true new old first value o n = n
either true false new old first value o n = n ∙ o
either false true new old first value o n = n
either false false new old first value o n = n ∙ o

-- one range more
pub ranges_put : (p : Written → Bool) (written : List Written) (k : ℕ) (w : Written) (new old first value : ℕ) → k < length written → get_or written k w ≡ w → old ≡ (if list_any p (take k written) then value else first)
    → new ≡ (if p w then value else old) → new ≡ (if list_any p (take (k + 1) written) then value else first)
ranges_put p written k w new old first value lt item o n =
    either (list_any p (take k written)) (p w) new old first value o n
    ∙ ap (λ (b : Bool). if b then value else first) (ap (λ x. list_any p (take k written) || p x) (sym item) ∙ sym (list_any_more p written k w lt))
