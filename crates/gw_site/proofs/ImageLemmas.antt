-- Each log leaves its images.
use Rattle.std.proofs.Common.{◌≡◌, ℕ, zero, suc, ◌+◌, ◌<◌, ◌≤◌, List, [], ◌∷◌, length, get_or, refl, ◌∙◌, ap, arith, inl, inr}
use Rattle.std.proofs.lemmas.Bool.{cases_lt, or_parts, both_ways, and_from, lt-ltb, le-leb}
use Rattle.std.specs.Prelude.{true, false, nat_le, nat_lt}
use Rattle.gw_site.specs.Outside.{Outside, Range, overwrite, outside_after, outside_from, outside_of, nothing_yet}
use Rattle.gw_site.specs.Image.{Image, covers, is_covered, junked, junked_from}
use Rattle.gw_site.specs.declared.turn.Turn.{Turn}
use Rattle.gw_site.specs.declared.turn.Turn.TheVariants.{Start, OpenFailed, Polled, Opened, HeardTill, Closed, HeardPt, Lost, Stopped, Linked, LinkFailed, SentTill, SentPt, CutTill, CutPt, Wrote, Synced, DiskFailed, Crash}
use Rattle.gw_site.proofs.OverwriteLemmas.{over_below, over_above, over_length}

-- what every log keeps: the file isn't shorter than that of the last sync, and equals it where nothing was written since
pub record Sound (o : Outside) : Type 0 where
  pub within : length o.stable ≤ length o.file
  pub same : (offset : ℕ) → offset < length o.stable → is_covered o.written offset ≡ false → get_or o.file offset 0 ≡ get_or o.stable offset 0

inside_covered : (range : Range) (offset : ℕ) → range.offset ≤ offset → offset < range.offset + range.size → covers offset range ≡ true
inside_covered range offset le lt = and_from (nat_le range.offset offset) (nat_lt offset (range.offset + range.size)) (le-leb range.offset offset le) (lt-ltb offset (range.offset + range.size) lt)

wrote_same : (o : Outside) (start : ℕ) (bytes : List ℕ) → Sound o → (offset : ℕ) → offset < length o.stable →
    is_covered (record { offset = start; size = length bytes } ∷ o.written) offset ≡ false → get_or (overwrite o.file start bytes) offset 0 ≡ get_or o.stable offset 0
wrote_same o start bytes sound offset lt clean =
    elim (cases_lt offset start) [ inl below ↦ over_below o.file start bytes offset below ∙ older | inr le ↦ elim (cases_lt offset (start + length bytes)) [ inl inside ↦ absurd (both_ways (covers offset range) parts.0 (inside_covered range offset le inside)) | inr above ↦ over_above o.file start bytes offset above ∙ older ] ]
  where
    range : Range
    range = record { offset = start; size = length bytes }

    parts : (covers offset range ≡ false) × (is_covered o.written offset ≡ false)
    parts = or_parts (covers offset range) (is_covered o.written offset) clean

    older : get_or o.file offset 0 ≡ get_or o.stable offset 0
    older = sound.same offset lt parts.1

sound_after : (o : Outside) (turn : Turn) → Sound o → Sound (outside_after o turn)
sound_after o (Start setup) s = record { within = s.within; same = s.same }
sound_after o OpenFailed s = record { within = s.within; same = s.same }
sound_after o (Polled now) s = record { within = s.within; same = s.same }
sound_after o (Opened till) s = record { within = s.within; same = s.same }
sound_after o (HeardTill till bytes) s = record { within = s.within; same = s.same }
sound_after o (Closed till) s = record { within = s.within; same = s.same }
sound_after o (HeardPt pt bytes) s = record { within = s.within; same = s.same }
sound_after o (Lost pt) s = record { within = s.within; same = s.same }
sound_after o Stopped s = s
sound_after o (Linked pt) s = record { within = s.within; same = s.same }
sound_after o (LinkFailed pt) s = s
sound_after o (SentTill till bytes ok) s = s
sound_after o (SentPt pt bytes ok) s = s
sound_after o (CutTill till) s = record { within = s.within; same = s.same }
sound_after o (CutPt pt) s = record { within = s.within; same = s.same }
sound_after o (Wrote offset bytes) s = record { within = omega (arith, s.within, over_length o.file offset bytes); same = wrote_same o offset bytes s }
sound_after o Synced s = record { within = omega arith; same = λ offset lt clean. refl }
sound_after o DiskFailed s = s
sound_after o (Crash file) s = record { within = omega arith; same = λ offset lt clean. refl }

sound_from : (o : Outside) (log : List Turn) → Sound o → Sound (outside_from o log)
sound_from o [] s = s
sound_from o (turn ∷ log) s = sound_from (outside_after o turn) log (sound_after o turn s)

pub sound_of : (log : List Turn) → Sound (outside_of log)
sound_of log = sound_from nothing_yet log (record { within = omega arith; same = λ offset lt clean. refl })

junked_length : (junk : ℕ) (ranges : List Range) (offset : ℕ) (bytes : List ℕ) → length (junked_from junk ranges offset bytes) ≡ length bytes
junked_length junk ranges offset [] = refl
junked_length junk ranges offset (byte ∷ bytes) = ap (λ n. suc n) (junked_length junk ranges (offset + 1) bytes)

junked_get : (junk : ℕ) (ranges : List Range) (start i : ℕ) (bytes : List ℕ) → is_covered ranges (start + i) ≡ false → get_or (junked_from junk ranges start bytes) i 0 ≡ get_or bytes i 0
junked_get junk ranges start i [] clean = refl
junked_get junk ranges start zero (byte ∷ bytes) clean = let e : start + 0 ≡ start = omega arith in let c : is_covered ranges start ≡ false = rw e at clean in rw c refl
junked_get junk ranges start (suc i) (byte ∷ bytes) clean =
    let e : start + suc i ≡ (start + 1) + i = omega arith in
    junked_get junk ranges (start + 1) i bytes (rw e at clean)

pub stable_image : (log : List Turn) → Image (outside_of log) (outside_of log).stable
stable_image log = record { no_shorter = omega arith; no_longer = (sound_of log).within; kept = λ offset lt clean. refl }

pub file_image : (log : List Turn) → Image (outside_of log) (outside_of log).file
file_image log = record { no_shorter = (sound_of log).within; no_longer = omega arith; kept = (sound_of log).same }

pub junk_image : (junk : ℕ) (log : List Turn) → Image (outside_of log) (junked junk (outside_of log))
junk_image junk log =
    let o = outside_of log in
    let s = sound_of log in
    record {
      no_shorter = rw (junked_length junk o.written 0 o.file) s.within;
      no_longer = rw (junked_length junk o.written 0 o.file) (omega arith);
      kept = λ offset lt clean. let c : is_covered o.written (0 + offset) ≡ false = (let e : 0 + offset ≡ offset = omega arith in rw e clean) in junked_get junk o.written 0 offset o.file c ∙ s.same offset lt clean;
    }
