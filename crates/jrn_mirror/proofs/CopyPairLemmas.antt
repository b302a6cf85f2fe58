-- The copying on the pair.
use Rattle.std.proofs.Common.{◌≡◌, ℕ, ◌+◌, ◌-◌, ◌<◌, ◌≤◌, List, [], ◌∷◌, ◌++◌, length, get_or, take, drop, refl, sym, ◌∙◌, ap, subst, arith}
use Rattle.std.specs.Prelude.{◌≢◌, Bool, true, false, min, Some, None}
use Rattle.gw_base.specs.declared.setup.Setup.{Setup}
use Rattle.gw_site.specs.Outside.{overwrite, file_part}
use Rattle.jrn_mirror.specs.declared.copying.Copying.{Copying}
use Rattle.jrn_mirror.specs.declared.turn.Half.{Half}
use Rattle.jrn_mirror.specs.declared.turn.Half.TheVariants.{First, Second}
use Rattle.jrn_mirror.specs.declared.turn.Turn2.{Turn2}
use Rattle.jrn_mirror.specs.declared.turn.Turn2.TheVariants.{Wrote}
use Rattle.jrn_mirror.specs.PairOutside.{PairOutside, nothing_on_two, disk_of, pair_outside_of}
use Rattle.jrn_mirror.specs.One.{joint_of}
use Rattle.jrn_mirror.specs.Mirrored.{IsCopy, IsLonger, IsCopying}
use Rattle.jrn_mirror.specs.PairObserved.{PairObserved, IfLogged, PairGrows}
use Rattle.jrn_mirror.specs.inner.Copying.{other_half, Copied, PartCopied, AreCopiedTo, ArePartCopiedTo, AreLengths, HasLengths, HasLengthsBy}
use Rattle.jrn_mirror.specs.inner.Halves.{HasOf, loss, half_write}
use Rattle.jrn_mirror.specs.inner.Opening.{IsOpeningOf, HaveSameFile, file_on}
use Rattle.jrn_mirror.proofs.CopyLemmas.{copied_none, copied_all, part_begun, part_done, part_skipped, part_written, part_copies, part_longer}
use Rattle.jrn_mirror.proofs.MirrorLemmas.{was-logged, all-added}
use Rattle.jrn_mirror.proofs.OutsideLemmas.{joint_has_outside}
use Rattle.jrn_mirror.proofs.PairLemmas.{pair_from-append, pair-is}
use Rattle.jrn_mirror.proofs.ReachLemmas.{logged_before, lit_before}

-- what is known of the log stays where a call has no turns
pub kept : (old new : PairObserved) (P : List Turn2 → Type 0) → PairGrows old new (λ turns. turns ≡ []) → (old.dark ≡ false → IfLogged old P) → new.dark ≡ false → IfLogged new P
kept old new P grows has = λ d log e. has (lit_before old new (λ turns. turns ≡ []) grows d) log (logged_before old new log grows e)

-- a look that succeeded has no turns
pub there-look : (old new : PairObserved) (disk : Half) (there : Bool) → there ≡ true → PairGrows old new (λ turns. turns ≡ loss there disk) → PairGrows old new (λ turns. turns ≡ [])
there-look old new disk there e grows = pair-is old new (loss there disk) [] (rw e refl) grows

-- the log before a call with these turns
pub logged_after : (old new : PairObserved) (log xs : List Turn2) → PairGrows old new (λ turns. turns ≡ xs) → new.dark ≡ false → new.log ≡ Some log → (before : List Turn2) × (old.log ≡ Some before) × (log ≡ before ++ xs)
logged_after old new log xs grows d e =
    let was = was-logged old.log (λ n. let k : None ≡ Some log = sym (grows.unlogged n) ∙ e in absurd (let m : None ≡ Some log = k in cc)) in
    let a = grows.logged was.0 was.1 in
    let all : a.added ≡ a.turns = all-added old.dark new.dark a.turns a.added a.adds (lit_before old new (λ turns. turns ≡ xs) grows d) d in
    let h : Some (was.0 ++ a.added) ≡ Some log = sym a.log_is ∙ e in
    let k : log ≡ was.0 ++ a.added = cc in
    (was.0, was.1, k ∙ ap (λ (ys : List Turn2). was.0 ++ ys) (all ∙ a.call))

-- ---- the files after a write to the target

source_kept : (source : Half) (log : List Turn2) (offset : ℕ) (bytes : List ℕ) → file_on (log ++ Wrote (other_half source) offset bytes ∷ []) source ≡ file_on log source
source_kept First log offset bytes = ap (λ (o : PairOutside). o.first.outside.file) (pair_from-append nothing_on_two log (Wrote Second offset bytes ∷ []))
source_kept Second log offset bytes = ap (λ (o : PairOutside). o.second.outside.file) (pair_from-append nothing_on_two log (Wrote First offset bytes ∷ []))

target_written : (source : Half) (log : List Turn2) (offset : ℕ) (bytes : List ℕ) → file_on (log ++ Wrote (other_half source) offset bytes ∷ []) (other_half source) ≡ overwrite (file_on log (other_half source)) offset bytes
target_written First log offset bytes = ap (λ (o : PairOutside). o.second.outside.file) (pair_from-append nothing_on_two log (Wrote Second offset bytes ∷ []))
target_written Second log offset bytes = ap (λ (o : PairOutside). o.first.outside.file) (pair_from-append nothing_on_two log (Wrote First offset bytes ∷ []))

-- ---- the beginning and the end

pub lengths-copied : (observed : PairObserved) (copying : Copying) (first second : ℕ) → IfLogged observed (λ log. AreLengths log (Some first) (Some second)) → HasLengths copying first second → AreCopiedTo observed copying 0
lengths-copied observed copying first second has is = λ d log e. by_half copying.source copying.size copying.shorter log (has log e) is
  where
    by_half : (source : Half) (size shorter : ℕ) (log : List Turn2) → AreLengths log (Some first) (Some second) → HasLengthsBy source size shorter first second → Copied (file_on log source) (file_on log (other_half source)) size shorter 0
    by_half First size shorter log l h = copied_none (file_on log First) (file_on log Second) size shorter (h.0 ∙ l.first_has.1) (h.1 ∙ l.second_has.1)
    by_half Second size shorter log l h = copied_none (file_on log Second) (file_on log First) size shorter (h.0 ∙ l.second_has.1) (h.1 ∙ l.first_has.1)

pub same-file : (observed : PairObserved) (copying : Copying) → copying.shorter ≤ copying.size → AreCopiedTo observed copying copying.size → HaveSameFile observed
same-file observed copying le has = λ d log e. by_half copying.source (file_on log) (copied_all (file_on log copying.source) (file_on log (other_half copying.source)) copying.size copying.shorter le (has d log e))
  where
    by_half : (source : Half) (file : Half → List ℕ) → file (other_half source) ≡ file source → file First ≡ file Second
    by_half First file e = sym e
    by_half Second file e = e

-- ---- the parts

pub part-begun : (old mid new : PairObserved) (copying : Copying) (offset : ℕ) (part read : List ℕ) → AreCopiedTo old copying offset →
    PairGrows old mid (λ turns. turns ≡ []) → IfLogged old (λ log. HasOf log copying.source (λ file. part ≡ file_part file offset (length part))) →
    PairGrows mid new (λ turns. turns ≡ []) → IfLogged mid (λ log. HasOf log (other_half copying.source) (λ file. read ≡ file_part file offset (length part))) → ArePartCopiedTo new copying offset part read 0
part-begun old mid new copying offset part read copied first part_has second read_has = λ d log e.
    let was = logged_before mid new log second e in
    let before = logged_before old mid log first was in
    let lit = lit_before old mid (λ turns. turns ≡ []) first (lit_before mid new (λ turns. turns ≡ []) second d) in
    part_begun (file_on log copying.source) (file_on log (other_half copying.source)) part read copying.size copying.shorter offset (copied lit log before) (part_has log before).1 (read_has log was).1

pub part-done : (observed : PairObserved) (copying : Copying) (offset : ℕ) (part read : List ℕ) (upto : ℕ) → length part ≤ upto → upto ≤ length part → ArePartCopiedTo observed copying offset part read upto → AreCopiedTo observed copying (offset + length part)
part-done observed copying offset part read upto le within has = λ d log e. part_done (file_on log copying.source) (file_on log (other_half copying.source)) part read copying.size copying.shorter offset upto le within (has d log e)

pub part-skipped : (observed : PairObserved) (copying : Copying) (offset : ℕ) (part read : List ℕ) (known start to : ℕ) → offset + length part ≤ copying.size → known ≡ min (copying.shorter - offset) (length part) → start ≤ to → to ≤ length part →
    ((index : ℕ) → start ≤ index → index < to → (index < known) × (get_or read index 0 ≡ get_or part index 0)) → ArePartCopiedTo observed copying offset part read start → ArePartCopiedTo observed copying offset part read to
part-skipped observed copying offset part read known start to fits is le within equal has = λ d log e. part_skipped (file_on log copying.source) (file_on log (other_half copying.source)) part read copying.size copying.shorter offset known start to fits is le within equal (has d log e)

pub part-written : (old new : PairObserved) (copying : Copying) (offset : ℕ) (part read : List ℕ) (start to : ℕ) (there : Bool) → there ≡ true → offset + length part ≤ copying.size → start < to → to ≤ length part →
    PairGrows old new (λ turns. turns ≡ half_write (other_half copying.source) (offset + start) (take (to - start) (drop start part)) there) → ArePartCopiedTo old copying offset part read start → ArePartCopiedTo new copying offset part read to
part-written old new copying offset part read start to there is_there fits lt within grows has = λ d log e.
    let bytes = take (to - start) (drop start part) in
    let turns = Wrote (other_half copying.source) (offset + start) bytes ∷ [] in
    let grown : PairGrows old new (λ xs. xs ≡ turns) = pair-is old new (half_write (other_half copying.source) (offset + start) bytes there) turns (rw is_there refl) grows in
    let t = logged_after old new log turns grown d e in
    let p = part_written (file_on t.0 copying.source) (file_on t.0 (other_half copying.source)) part read copying.size copying.shorter offset start to fits lt within (has (lit_before old new (λ xs. xs ≡ turns) grown d) t.0 t.1) in
    let q : PartCopied (file_on (t.0 ++ turns) copying.source) (file_on (t.0 ++ turns) (other_half copying.source)) copying.size copying.shorter offset part read to =
    rw (source_kept copying.source t.0 (offset + start) bytes, target_written copying.source t.0 (offset + start) bytes) p in
    subst (λ (l : List Turn2). PartCopied (file_on l copying.source) (file_on l (other_half copying.source)) copying.size copying.shorter offset part read to) (sym t.2) q

copying_of : (source : Half) (log : List Turn2) (setup : Setup) (is_first : Bool) (offset : ℕ) (bytes : List ℕ) → IsOpeningOf setup is_first true true (joint_of log) →
    IsLonger (other_half source) (length (file_on log source)) (length (file_on log (other_half source))) → IsCopy (disk_of (pair_outside_of log) source).outside (disk_of (pair_outside_of log) (other_half source)).outside offset bytes → IsCopying (joint_of log) (other_half source) offset bytes
copying_of First log setup is_first offset bytes o l c = let e = joint_has_outside log in record { there = o.second_is; other = o.first_is; longer = rw e l; copy = rw e c }
copying_of Second log setup is_first offset bytes o l c = let e = joint_has_outside log in record { there = o.first_is; other = o.second_is; longer = rw e l; copy = rw e c }

pub part-copies : (observed : PairObserved) (copying : Copying) (offset : ℕ) (part read : List ℕ) (known start to : ℕ) → IsLonger (other_half copying.source) copying.size copying.shorter → offset + length part ≤ copying.size → length part ≤ 4096 → known ≡ min (copying.shorter - offset) (length part) → start < to → to ≤ length part →
    (start < known → get_or read start 0 ≢ get_or part start 0) → ((index : ℕ) → start + 1 ≤ index → index < to → index < known → get_or read index 0 ≢ get_or part index 0) → ArePartCopiedTo observed copying offset part read start →
    observed.dark ≡ false → IfLogged observed (λ log. (setup : Setup) (is_first : Bool) → IsOpeningOf setup is_first true true (joint_of log) → IsCopying (joint_of log) (other_half copying.source) (offset + start) (take (to - start) (drop start part)))
part-copies observed copying offset part read known start to longer fits few is lt within first rest has = λ d log e setup is_first o.
    let p = has d log e in
    copying_of copying.source log setup is_first (offset + start) (take (to - start) (drop start part)) o
    (part_longer (other_half copying.source) (file_on log copying.source) (file_on log (other_half copying.source)) part read copying.size copying.shorter offset start longer fits (let m : start < length part = omega arith in m) p)
    (part_copies (disk_of (pair_outside_of log) copying.source).outside (disk_of (pair_outside_of log) (other_half copying.source)).outside part read copying.size copying.shorter offset known start to fits few is lt within first rest p)

-- the target isn't longer than the source
pub longer_le : (copying : Copying) → IsLonger (other_half copying.source) copying.size copying.shorter → copying.shorter ≤ copying.size
longer_le copying longer = by_half copying.source longer
  where
    by_half : (source : Half) → IsLonger (other_half source) copying.size copying.shorter → copying.shorter ≤ copying.size
    by_half First l = l
    by_half Second l = omega (arith, l)

-- the copying has come to an offset that is written otherwise
pub copied-to : (observed : PairObserved) (copying : Copying) (offset count other : ℕ) → count ≡ other → AreCopiedTo observed copying (offset + count) → AreCopiedTo observed copying (offset + other)
copied-to observed copying offset count other e has = subst (λ (n : ℕ). AreCopiedTo observed copying (offset + n)) e has
