-- The copying, byte by byte.
use Rattle.std.proofs.Common.{◌≡◌, ℕ, ◌+◌, ◌-◌, ◌<◌, ◌≤◌, List, length, get_or, take, drop, sym, ◌∙◌, ap, arith, inl, inr, length-append, length-drop}
use Rattle.std.proofs.lemmas.List.{length-take, length-replicate, get_or-take, get_or-drop, get_or_past, ext_get_or}
use Rattle.std.proofs.lemmas.Bool.{cases_lt}
use Rattle.std.specs.Prelude.{◌≢◌, max, min}
use Rattle.gw_bytes.specs.Bytes.{AreBytes}
use Rattle.gw_bytes.proofs.ByteLemmas.{are_bytes}
use Rattle.gw_site.specs.Outside.{Outside, overwrite, file_part}
use Rattle.gw_site.proofs.OverwriteLemmas.{over_below, over_inside, over_above}
use Rattle.jrn_log.proofs.PartLemmas.{part_get, part_part}
use Rattle.jrn_mirror.specs.declared.turn.Half.{Half}
use Rattle.jrn_mirror.specs.declared.turn.Half.TheVariants.{First, Second}
use Rattle.jrn_mirror.specs.Mirrored.{IsCopy, IsLonger}
use Rattle.jrn_mirror.specs.inner.Copying.{Copied, PartCopied}

over_size : (file : List ℕ) (offset : ℕ) (bytes : List ℕ) → length (overwrite file offset bytes) ≡ max (length file) (offset + length bytes)
over_size file offset bytes = simp (length-append, length-take, length-replicate, length-drop) (omega arith)

-- a run of a part, from here to there
pub run_size : (part : List ℕ) (start to : ℕ) → start ≤ to → to ≤ length part → length (take (to - start) (drop start part)) ≡ to - start
run_size part start to le within = simp (length-take, length-drop) (omega arith)

run_get : (part : List ℕ) (start to i : ℕ) → i < to - start → get_or (take (to - start) (drop start part)) i 0 ≡ get_or part (start + i) 0
run_get part start to i lt = get_or-take (to - start) (drop start part) i 0 lt ∙ get_or-drop start part i 0

-- a run of bytes is bytes
pub run_bytes : (part : List ℕ) (start to : ℕ) → ((i : ℕ) → get_or part i 0 < 256) → AreBytes (take (to - start) (drop start part))
run_bytes part start to each = are_bytes (take (to - start) (drop start part)) (λ i. elim (cases_lt i (to - start)) [
  | inl inside ↦ rw (run_get part start to i inside) (each (start + i))
  | inr past ↦ (let n : length (take (to - start) (drop start part)) ≤ i = simp length-take (omega arith) in rw (get_or_past (take (to - start) (drop start part)) i 0 n) (omega arith))
])

-- before anything is copied
pub copied_none : (original copy : List ℕ) (size shorter : ℕ) → size ≡ length original → shorter ≡ length copy → Copied original copy size shorter 0
copied_none original copy size shorter e f = record { size_is = sym e; length_is = omega (arith, f); same = λ index lt. absurd (omega (arith, lt)) }

-- all is copied
pub copied_all : (original copy : List ℕ) (size shorter : ℕ) → shorter ≤ size → Copied original copy size shorter size → copy ≡ original
copied_all original copy size shorter le c = ext_get_or 0 copy original (omega (arith, c.size_is, c.length_is)) (λ i lt. c.same i (omega (arith, lt, c.size_is, c.length_is)))

-- a part was read
pub part_begun : (original copy part read : List ℕ) (size shorter offset : ℕ) → Copied original copy size shorter offset → part ≡ file_part original offset (length part) → read ≡ file_part copy offset (length part) → PartCopied original copy size shorter offset part read 0
part_begun original copy part read size shorter offset c e f = record {
  copied = (let n : offset + 0 ≡ offset = omega arith in rw n c);
  part_is = e;
  above = λ index le lt. rw f (sym (part_get copy offset (length part) index lt));
}

-- a part is copied whole
pub part_done : (original copy part read : List ℕ) (size shorter offset upto : ℕ) → length part ≤ upto → upto ≤ length part → PartCopied original copy size shorter offset part read upto → Copied original copy size shorter (offset + length part)
part_done original copy part read size shorter offset upto le within p = let n : length part ≡ upto = omega arith in rw n p.copied

-- what is equal is left out
pub part_skipped : (original copy part read : List ℕ) (size shorter offset known start to : ℕ) → offset + length part ≤ size → known ≡ min (shorter - offset) (length part) → start ≤ to → to ≤ length part →
    ((index : ℕ) → start ≤ index → index < to → (index < known) × (get_or read index 0 ≡ get_or part index 0)) → PartCopied original copy size shorter offset part read start → PartCopied original copy size shorter offset part read to
part_skipped original copy part read size shorter offset known start to fits is le within equal p = record {
  copied = record {
    size_is = p.copied.size_is;
    length_is = elim (cases_lt start to) [
      | inl less ↦ (let last : to - 1 < known = (equal (to - 1) (omega arith) (omega arith)).0 in omega (arith, p.copied.length_is, is, last, less))
      | inr same ↦ omega (arith, p.copied.length_is, same, le)
    ];
    same = λ index lt. elim (cases_lt index (offset + start)) [ inl below ↦ p.copied.same index below | inr above ↦ skipped index above lt ];
  };
  part_is = p.part_is;
  above = λ index more lt. p.above index (omega arith) lt;
}
  where
    skipped : (index : ℕ) → offset + start ≤ index → index < offset + to → get_or copy index 0 ≡ get_or original index 0
    skipped index le_index lt =
        let i = index - offset in
        let e : offset + i ≡ index = omega arith in
        let lower : start ≤ i = omega arith in
        let upper : i < to = omega arith in
        let inside : i < length part = omega arith in
        let a : get_or copy (offset + i) 0 ≡ get_or read i 0 = p.above i lower inside in
        let b : get_or read i 0 ≡ get_or part i 0 = (equal i lower upper).1 in
        let c : get_or part i 0 ≡ get_or original (offset + i) 0 = ap (λ (xs : List ℕ). get_or xs i 0) p.part_is ∙ part_get original offset (length part) i inside in
        let d : get_or copy (offset + i) 0 ≡ get_or original (offset + i) 0 = a ∙ b ∙ c in
        rw e at d

-- a run is written
pub part_written : (original copy part read : List ℕ) (size shorter offset start to : ℕ) → offset + length part ≤ size → start < to → to ≤ length part → PartCopied original copy size shorter offset part read start →
    PartCopied original (overwrite copy (offset + start) (take (to - start) (drop start part))) size shorter offset part read to
part_written original copy part read size shorter offset start to fits lt within p = record {
  copied = record {
    size_is = p.copied.size_is;
    length_is = over_size copy (offset + start) bytes ∙ omega (arith, p.copied.length_is, size_is);
    same = λ index below. elim (cases_lt index (offset + start)) [ inl lower ↦ over_below copy (offset + start) bytes index lower ∙ p.copied.same index lower | inr le ↦ inside index le below ];
  };
  part_is = p.part_is;
  above = λ index more less. over_above copy (offset + start) bytes (offset + index) (omega (arith, size_is)) ∙ p.above index (omega arith) less;
}
  where
    bytes : List ℕ
    bytes = take (to - start) (drop start part)

    size_is : length (take (to - start) (drop start part)) ≡ to - start
    size_is = run_size part start to (omega arith) within

    inside : (index : ℕ) → offset + start ≤ index → index < offset + to → get_or (overwrite copy (offset + start) (take (to - start) (drop start part))) index 0 ≡ get_or original index 0
    inside index le below =
        let i = index - (offset + start) in
        let e : offset + (start + i) ≡ index = omega arith in
        let n : start + i < length part = omega arith in
        let c : get_or part (start + i) 0 ≡ get_or original (offset + (start + i)) 0 = ap (λ (xs : List ℕ). get_or xs (start + i) 0) p.part_is ∙ part_get original offset (length part) (start + i) n in
        over_inside copy (offset + start) (take (to - start) (drop start part)) index le (omega (arith, size_is)) ∙ run_get part start to i (omega arith) ∙ c ∙ ap (λ k. get_or original k 0) e

-- a run differs from what is there, or lies past the end of it
pub part_copies : (original copy : Outside) (part read : List ℕ) (size shorter offset known start to : ℕ) → offset + length part ≤ size → length part ≤ 4096 → known ≡ min (shorter - offset) (length part) → start < to → to ≤ length part →
    (start < known → get_or read start 0 ≢ get_or part start 0) → ((index : ℕ) → start + 1 ≤ index → index < to → index < known → get_or read index 0 ≢ get_or part index 0) → PartCopied original.file copy.file size shorter offset part read start →
    IsCopy original copy (offset + start) (take (to - start) (drop start part))
part_copies original copy part read size shorter offset known start to fits few is lt within first rest p = record {
  some = omega (arith, size_is);
  few = omega (arith, size_is);
  part = run_is;
  within = omega (arith, size_is, p.copied.size_is);
  differs = λ index le below past. differ index le (omega (arith, size_is)) past;
}
  where
    size_is : length (take (to - start) (drop start part)) ≡ to - start
    size_is = run_size part start to (omega arith) within

    run_is : take (to - start) (drop start part) ≡ file_part original.file (offset + start) (length (take (to - start) (drop start part)))
    run_is = ap (λ (xs : List ℕ). take (to - start) (drop start xs)) p.part_is ∙ part_part original.file offset (length part) start (to - start) (omega arith) ∙ ap (λ n. file_part original.file (offset + start) n) (sym size_is)

    at_from : (i : ℕ) → start ≤ i → i < to → i < known → get_or read i 0 ≢ get_or part i 0
    at_from i le below less = elim (cases_lt start i) [ inl more ↦ rest i (omega arith) below less | inr no_more ↦ (let e : i ≡ start = omega arith in rw e (first (omega arith))) ]

    differ : (index : ℕ) → offset + start ≤ index → index < offset + to → index < length copy.file → get_or copy.file index 0 ≢ get_or original.file index 0
    differ index le below past = λ same.
        let i = index - offset in
        let e : offset + i ≡ index = omega arith in
        let n : i < length part = omega arith in
        let a : get_or copy.file (offset + i) 0 ≡ get_or read i 0 = p.above i (omega arith) n in
        let c : get_or part i 0 ≡ get_or original.file (offset + i) 0 = ap (λ (xs : List ℕ). get_or xs i 0) p.part_is ∙ part_get original.file offset (length part) i n in
        let s : get_or copy.file (offset + i) 0 ≡ get_or original.file (offset + i) 0 = rw e same in
        at_from i (omega arith) (omega arith) (omega (arith, p.copied.length_is, is)) (sym a ∙ s ∙ sym c)

-- the file that is written is the shorter one, or the second of two equally long ones
pub part_longer : (disk : Half) (original copy part read : List ℕ) (size shorter offset start : ℕ) → IsLonger disk size shorter → offset + length part ≤ size → start < length part → PartCopied original copy size shorter offset part read start → IsLonger disk (length original) (length copy)
part_longer First original copy part read size shorter offset start longer fits lt p = omega (arith, longer, p.copied.size_is, p.copied.length_is)
part_longer Second original copy part read size shorter offset start longer fits lt p = omega (arith, longer, p.copied.size_is, p.copied.length_is)
