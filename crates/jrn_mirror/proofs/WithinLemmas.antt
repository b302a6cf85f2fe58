-- Where each image of a disk by itself is one of the one disk that both stand for.
use Rattle.std.proofs.Common.{◌≡◌, ℕ, ◌+◌, ◌<◌, ◌≤◌, List, [], length, get_or, refl, sym, ◌∙◌, arith, length-append, length-drop}
use Rattle.std.proofs.lemmas.List.{length-take, length-replicate}
use Rattle.std.proofs.lemmas.Bool.{or_parts, or_from, and_parts, false_from_ne_true, ltb-true, leb-true}
use Rattle.std.specs.Prelude.{true, false, nat_le, nat_lt}
use Rattle.gw_site.specs.Outside.{Outside, overwrite, outside_after}
use Rattle.gw_site.specs.Image.{Image, covers, is_covered}
use Rattle.gw_site.specs.declared.turn.Turn.TheVariants.{Wrote, Synced, Crash}
use Rattle.gw_site.proofs.ImageLemmas.{Sound}
use Rattle.gw_site.proofs.OverwriteLemmas.{over_length}
use Rattle.jrn_mirror.specs.Mirrored.{IsCopy}

-- each image of the disk is one of the one disk
pub record Within (o d : Outside) : Type 0 where
  pub no_shorter : length o.stable ≤ length d.stable
  pub no_longer : length d.file ≤ length o.file
  pub clean : (index : ℕ) → index < length o.stable → is_covered o.written index ≡ false → is_covered d.written index ≡ false
  pub same : (index : ℕ) → index < length o.stable → is_covered o.written index ≡ false → get_or d.stable index 0 ≡ get_or o.stable index 0

pub within_image : (o d : Outside) (file : List ℕ) → Within o d → Image d file → Image o file
within_image o d file w i = record {
  no_shorter = omega (arith, w.no_shorter, i.no_shorter);
  no_longer = omega (arith, w.no_longer, i.no_longer);
  kept = λ index lt un. i.kept index (omega (arith, w.no_shorter, lt)) (w.clean index lt un) ∙ w.same index lt un;
}

pub within_left : (o d : Outside) (file : List ℕ) → Image o file → Within o (outside_after d (Crash file))
within_left o d file i = record {
  no_shorter = i.no_shorter;
  no_longer = i.no_longer;
  clean = λ index lt un. refl;
  same = λ index lt un. i.kept index lt un;
}

pub file_image : (o d : Outside) → Within o d → Sound d → Image o d.file
file_image o d w s = within_image o d d.file w (record { no_shorter = s.within; no_longer = omega arith; kept = s.same })

pub within_both : (o d : Outside) (offset : ℕ) (bytes : List ℕ) → Within o d → d.file ≡ o.file → Within (outside_after o (Wrote offset bytes)) (outside_after d (Wrote offset bytes))
within_both o d offset bytes w e = record {
  no_shorter = w.no_shorter;
  no_longer = rw e (omega arith);
  clean = λ index lt un. let p = or_parts (covers index (record { offset = offset; size = length bytes })) (is_covered o.written index) un in or_from (covers index (record { offset = offset; size = length bytes })) (is_covered d.written index) p.0 (w.clean index lt p.1);
  same = λ index lt un. let p = or_parts (covers index (record { offset = offset; size = length bytes })) (is_covered o.written index) un in w.same index lt p.1;
}

pub within_older : (o d : Outside) (offset : ℕ) (bytes : List ℕ) → Within o d → Within (outside_after o (Wrote offset bytes)) d
within_older o d offset bytes w = record {
  no_shorter = w.no_shorter;
  no_longer = omega (arith, w.no_longer, over_length o.file offset bytes);
  clean = λ index lt un. let p = or_parts (covers index (record { offset = offset; size = length bytes })) (is_covered o.written index) un in w.clean index lt p.1;
  same = λ index lt un. let p = or_parts (covers index (record { offset = offset; size = length bytes })) (is_covered o.written index) un in w.same index lt p.1;
}

pub within_caught_up : (o d : Outside) (offset : ℕ) (bytes : List ℕ) → Within o d → overwrite d.file offset bytes ≡ o.file →
    ((index : ℕ) → is_covered o.written index ≡ false → covers index (record { offset = offset; size = length bytes }) ≡ false) → Within o (outside_after d (Wrote offset bytes))
within_caught_up o d offset bytes w e c = record {
  no_shorter = w.no_shorter;
  no_longer = rw e (omega arith);
  clean = λ index lt un. or_from (covers index (record { offset = offset; size = length bytes })) (is_covered d.written index) (c index un) (w.clean index lt un);
  same = w.same;
}

pub within_synced : (o d : Outside) → Within o d → Sound d → Within o (outside_after d Synced)
within_synced o d w s = record {
  no_shorter = omega (arith, w.no_shorter, s.within);
  no_longer = w.no_longer;
  clean = λ index lt un. refl;
  same = λ index lt un. s.same index (omega (arith, lt, w.no_shorter)) (w.clean index lt un) ∙ w.same index lt un;
}

pub within_flushed : (o d : Outside) → d.file ≡ o.file → d.stable ≡ d.file → d.written ≡ [] → Within (outside_after o Synced) d
within_flushed o d e f g = record {
  no_shorter = rw f (rw e (omega arith));
  no_longer = rw e (omega arith);
  clean = λ index lt un. rw g refl;
  same = λ index lt un. rw f (rw e refl);
}

pub within_opened : (o d : Outside) (file : List ℕ) → d.file ≡ file → d.stable ≡ d.file → d.written ≡ [] → Within (outside_after o (Crash file)) d
within_opened o d file e f g = record {
  no_shorter = rw f (rw e (omega arith));
  no_longer = rw e (omega arith);
  clean = λ index lt un. rw g refl;
  same = λ index lt un. rw f (rw e refl);
}

pub over_length_is : (file : List ℕ) (offset : ℕ) (bytes : List ℕ) (most : ℕ) → length file ≤ most → offset + length bytes ≤ most → length (overwrite file offset bytes) ≤ most
over_length_is file offset bytes most a b = simp (length-append, length-take, length-replicate, length-drop) (omega arith)

pub within_copied : (o source to : Outside) (offset : ℕ) (bytes : List ℕ) → Within o source → Within o to → Sound source → Sound to → IsCopy source to offset bytes →
    Within o (outside_after to (Wrote offset bytes))
within_copied o source to offset bytes wf wt sf st c = record {
  no_shorter = wt.no_shorter;
  no_longer = over_length_is to.file offset bytes (length o.file) wt.no_longer (omega (arith, c.within, wf.no_longer));
  clean = λ index lt un. or_from (covers index (record { offset = offset; size = length bytes })) (is_covered to.written index) (uncovered index lt un) (wt.clean index lt un);
  same = wt.same;
}
  where
    to_same : (index : ℕ) → index < length o.stable → is_covered o.written index ≡ false → get_or to.file index 0 ≡ get_or o.stable index 0
    to_same index lt un = st.same index (omega (arith, lt, wt.no_shorter)) (wt.clean index lt un) ∙ wt.same index lt un

    from_same : (index : ℕ) → index < length o.stable → is_covered o.written index ≡ false → get_or source.file index 0 ≡ get_or o.stable index 0
    from_same index lt un = sf.same index (omega (arith, lt, wf.no_shorter)) (wf.clean index lt un) ∙ wf.same index lt un

    in_range : (index : ℕ) → covers index (record { offset = offset; size = length bytes }) ≡ true → (offset ≤ index) × (index < offset + length bytes)
    in_range index h = let p = and_parts (nat_le offset index) (nat_lt index (offset + length bytes)) h in (leb-true offset index p.0, ltb-true index (offset + length bytes) p.1)

    uncovered : (index : ℕ) → index < length o.stable → is_covered o.written index ≡ false → covers index (record { offset = offset; size = length bytes }) ≡ false
    uncovered index lt un = false_from_ne_true (covers index (record { offset = offset; size = length bytes })) (λ h.
        let r = in_range index h in
        c.differs index r.0 r.1 (omega (arith, lt, wt.no_shorter, st.within)) (to_same index lt un ∙ sym (from_same index lt un)))
