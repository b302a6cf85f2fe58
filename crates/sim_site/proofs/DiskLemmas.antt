-- The disk of a site, as turns change it.
use Rattle.std.proofs.Common.{◌≡◌, ℕ, ◌+◌, ◌-◌, ◌<◌, List, [], ◌∷◌, ◌++◌, length, get_or, take, refl, sym, ◌∙◌, ap, arith, inl, inr, subst}
use Rattle.std.proofs.lemmas.Bool.{cases_lt, or_parts, both_ways}
use Rattle.std.proofs.lemmas.Grind.{same_number_lists}
use Rattle.std.proofs.lemmas.List.{reverse-append}
use Rattle.std.specs.Prelude.{Bool, true, false, map, replicate, if◌then◌else◌, Result, Ok, Err, IfOk}
use Rattle.gw_site.specs.Image.{covers, is_covered}
use Rattle.gw_site.specs.Outside.{Outside, Range, outside_after, overwrite}
use Rattle.gw_site.proofs.OverwriteLemmas.{over_below, over_above}
use Rattle.gw_site.specs.declared.turn.Turn.TheVariants.{Crash, Synced, Wrote}
use Rattle.gw_site.specs.Steps.{ImageKind}
use Rattle.gw_script.specs.site.Hazards.{crash_file}
use Rattle.sim_site.specs.Disks.{HasDisk}
use Rattle.sim_site.specs.Ranges.{range_value, ranges_value}
use Rattle.sim_site.proofs.RangeLemmas.{covers_inside}
use Rattle.sim_site.proofs.WriteLemmas.{resized_get, resized_length}
use Rattle.sim_site.specs.declared.disk.Disk.{Disk}
use Rattle.sim_site.specs.declared.disk.Written.{Written}

-- one range more, which comes first
ranges_more : (written : List Written) (w : Written) → ranges_value (written ++ w ∷ []) ≡ range_value w ∷ ranges_value written
ranges_more written w = ap (map range_value) (reverse-append written (w ∷ []))

-- where a write and those before it covered nothing, the file is as before
wrote_kept : (o : Outside) (start : ℕ) (bytes : List ℕ) → ((offset : ℕ) → is_covered o.written offset ≡ false → get_or o.file offset 0 ≡ get_or o.stable offset 0) → (offset : ℕ)
    → is_covered (record { offset = start; size = length bytes } ∷ o.written) offset ≡ false → get_or (overwrite o.file start bytes) offset 0 ≡ get_or o.stable offset 0
wrote_kept o start bytes kept offset clean =
    elim (cases_lt offset start) [
      | inl below ↦ over_below o.file start bytes offset below ∙ older
      | inr le ↦ elim (cases_lt offset (start + length bytes)) [ inl inside ↦ absurd (both_ways (covers offset range) parts.0 (covers_inside range offset le inside)) | inr above ↦ over_above o.file start bytes offset above ∙ older ]
    ]
  where
    range : Range
    range = record { offset = start; size = length bytes }

    parts : (covers offset range ≡ false) × (is_covered o.written offset ≡ false)
    parts = or_parts (covers offset range) (is_covered o.written offset) clean

    older : get_or o.file offset 0 ≡ get_or o.stable offset 0
    older = kept offset parts.1

-- a write
pub disk_wrote : (o : Outside) (held next : Disk) (offset : ℕ) (bytes : List ℕ) (w : Written) → HasDisk o held → next.file.items ≡ overwrite held.file.items offset bytes → next.stable.items ≡ held.stable.items →
    next.written.items ≡ held.written.items ++ w ∷ [] → w.offset ≡ offset → w.size ≡ length bytes → HasDisk (outside_after o (Wrote offset bytes)) next
disk_wrote o held next offset bytes w h file stable written at size = record {
  file = ap (λ f. overwrite f offset bytes) h.file ∙ sym file;
  stable = h.stable ∙ sym stable;
  ranges = ap (λ ranges. record { offset = offset; size = length bytes } ∷ ranges) h.ranges ∙ ap (λ n. record { offset = n; size = length bytes } ∷ ranges_value held.written.items) (sym at) ∙ ap (λ n. record { offset = w.offset; size = n } ∷ ranges_value held.written.items) (sym size) ∙ sym (ranges_more held.written.items w) ∙ ap ranges_value (sym written);
  kept = wrote_kept o offset bytes h.kept;
}

-- the file of the last sync, with what was written since then taken over, is the file
caught_up : (o : Outside) (ranges : List Range) (stable file next : List ℕ) → o.file ≡ file → o.stable ≡ stable → o.written ≡ ranges → length next ≡ length file
    → ((offset : ℕ) → is_covered o.written offset ≡ false → get_or o.file offset 0 ≡ get_or o.stable offset 0)
    → ((offset : ℕ) → offset < length file → get_or next offset 0 ≡ (if is_covered ranges offset then get_or file offset 0 else get_or stable offset 0)) → next ≡ file
caught_up o ranges stable file next f s r size kept each = same_number_lists next file size (λ offset lt. let l : offset < length file = omega (arith, size) in each offset l ∙ chosen (is_covered ranges offset) (get_or file offset 0) (get_or stable offset 0) (λ clean. older offset clean))
  where
    older : (offset : ℕ) → is_covered ranges offset ≡ false → get_or stable offset 0 ≡ get_or file offset 0
    older offset clean = ap (λ bytes. get_or bytes offset 0) (sym s) ∙ sym (kept offset (ap (λ rs. is_covered rs offset) r ∙ clean)) ∙ ap (λ bytes. get_or bytes offset 0) f

    chosen : (covered : Bool) (new old : ℕ) → (covered ≡ false → old ≡ new) → (if covered then new else old) ≡ new
    chosen true new old same = refl
    chosen false new old same = same refl

-- the ranges taken over, in a file that was cut or filled to the size of the other before
pub taken_over : (written taken : List Written) (file from stable resized next : List ℕ) → taken ≡ written → from ≡ file → resized ≡ take (length file) stable ++ replicate (length file - length stable) 0
    → ((i : ℕ) → i < length resized → get_or next i 0 ≡ (if is_covered (ranges_value taken) i then get_or from i 0 else get_or resized i 0))
    → (i : ℕ) → i < length file → get_or next i 0 ≡ (if is_covered (ranges_value written) i then get_or file i 0 else get_or stable i 0)
taken_over written taken file from stable resized next t f r each i lt =
    let size : length resized ≡ length file = ap length r ∙ resized_length stable (length file) in
    each i (omega (arith, size)) ∙ ap (λ (ws : List Written). if is_covered (ranges_value ws) i then get_or from i 0 else get_or resized i 0) t
    ∙ ap (λ (new : List ℕ). if is_covered (ranges_value written) i then get_or new i 0 else get_or resized i 0) f
    ∙ ap (λ (old : ℕ). if is_covered (ranges_value written) i then get_or file i 0 else old) (ap (λ bytes. get_or bytes i 0) r ∙ resized_get stable (length file) i lt)

-- a sync
pub disk_synced : (o : Outside) (held next : Disk) (taken : List ℕ) → HasDisk o held → next.file.items ≡ held.file.items → next.stable.items ≡ taken → length taken ≡ length held.file.items
    → ((i : ℕ) → i < length held.file.items → get_or taken i 0 ≡ (if is_covered (ranges_value held.written.items) i then get_or held.file.items i 0 else get_or held.stable.items i 0))
    → next.written.items ≡ [] → HasDisk (outside_after o Synced) next
disk_synced o held next taken h file stable size each written =
    let same : taken ≡ held.file.items = caught_up o (ranges_value held.written.items) held.stable.items held.file.items taken h.file h.stable h.ranges size h.kept each in
    record { file = h.file ∙ sym file; stable = h.file ∙ sym (stable ∙ same); ranges = ap ranges_value (sym written); kept = λ offset clean. refl }

-- a power failure
pub disk_fallen : {E : Type 0} (result : Result Disk E) (image : List ℕ) (held : Disk) (kind : ImageKind) → IfOk result (λ disk. (o : Outside) → HasDisk (outside_after o (Crash image)) disk) → ((o : Outside) → HasDisk o held → image ≡ crash_file kind o)
    → IfOk result (λ disk. (o : Outside) → HasDisk o held → HasDisk (outside_after o (Crash (crash_file kind o))) disk)
disk_fallen (Ok disk) image held kind there is = λ o h. subst (λ file. HasDisk (outside_after o (Crash file)) disk) (is o h) (there o)
disk_fallen (Err error) image held kind there is = tt
