-- What a drill has counted and printed, and why it ended so.
use Rattle.std.proofs.Common.{◌≡◌, ℕ, List, refl, ◌∙◌, ap, subst, inl, inr}
use Rattle.std.specs.Prelude.{◌⊎◌}
use Rattle.gw_bytes.specs.Bytes.{IsPrefix}
use Rattle.gw_drill.specs.declared.counts.Counts.{Counts}
use Rattle.gw_run.specs.Drill.{DrillCause, DrillPrinted, HasCounted, HasDrilled, drill_text}
use Rattle.gw_run.specs.Drills.{CountsWritten, IsDrillEnd}
use Rattle.gw_run.specs.LogWritten.{Adds}
use Rattle.gw_run.specs.Replay.{IsReportedEnd, WritesTail}
use Rattle.gw_run.specs.Top.{HasRisen, Stream, status_of, tail_of}
use Rattle.gw_run.specs.declared.ending.Ending.{Ending}
use Rattle.gw_run.specs.declared.ending.Ending.TheVariants.{Played, Words, Long, Line as AtLine, Input, NotOpened, Memory, OutputFailed, Disk, LongJournal, CutJournal, BadSlot}

-- ---- what is printed

-- the lines of counts, in full or in part
pub counts-printed : (from payments : ℕ) (counts : Counts) (ending : Ending) (added : List ℕ) → HasCounted from payments counts → CountsWritten counts ending added → DrillPrinted from payments ending added
counts-printed from payments counts ending added has (inl (played, all)) = rw played (inl (counts, has, all))
counts-printed from payments counts ending added has (inr (inl (memory, all))) = rw memory (inl all)
counts-printed from payments counts ending added has (inr (inr (failed, inl prefix))) = inr (failed, record { ending = Played; whole = drill_text counts; prints = (counts, has, refl); prefix = prefix })
counts-printed from payments counts ending added has (inr (inr (failed, inr prefix))) = inr (failed, record { ending = Memory; whole = tail_of Memory; prints = refl; prefix = prefix })

-- the lines of a drill without memory
pub refused-printed : (from payments : ℕ) (ending result : Ending) (added : List ℕ) → ending ≡ Memory → WritesTail ending result added → DrillPrinted from payments result added
refused-printed from payments ending result added refused (inl (same, all)) = rw (same, refused) (inl (all ∙ ap tail_of refused))
refused-printed from payments ending result added refused (inr (inl (memory, names, all))) = rw memory (inl all)
refused-printed from payments ending result added refused (inr (inr (failed, (reported, inl same, prefix)))) = inr (failed, record { ending = Memory; whole = tail_of Memory; prints = refl; prefix = subst (λ e. IsPrefix added (tail_of e)) (same ∙ refused) prefix })
refused-printed from payments ending result added refused (inr (inr (failed, (reported, inr other, prefix)))) = inr (failed, record { ending = Memory; whole = tail_of Memory; prints = refl; prefix = subst (λ e. IsPrefix added (tail_of e)) other.0 prefix })

-- ---- how it ends

-- the cause of its end, once it has counted this
pub drill-cause : (from payments : ℕ) (counts : Counts) (ending : Ending) (out : Stream) → HasCounted from payments counts → IsDrillEnd ending → (ending ≡ OutputFailed → HasRisen out) → DrillCause from payments ending out
drill-cause from payments counts ending out has (inl played) failed = rw played (counts, has)
drill-cause from payments counts ending out has (inr (inl memory)) failed = rw memory tt
drill-cause from payments counts ending out has (inr (inr e)) failed = rw e (failed e)

-- the cause of an end without memory
pub refused-cause : (from payments : ℕ) (ending result : Ending) (out : Stream) → ending ≡ Memory → IsReportedEnd ending result → (result ≡ OutputFailed → HasRisen out) → DrillCause from payments result out
refused-cause from payments ending result out refused (inl same) failed = rw (same, refused) tt
refused-cause from payments ending result out refused (inr (inl (memory, names))) failed = rw memory tt
refused-cause from payments ending result out refused (inr (inr e)) failed = rw e (failed e)

-- ---- what the words ask for

-- the drill has ended so
pub drill-ended : (status from payments : ℕ) (out : Stream) (ending : Ending) → status ≡ status_of ending → DrillCause from payments ending out → Adds out.before out.after (DrillPrinted from payments ending) → HasDrilled status from payments out
drill-ended status from payments out ending s cause printed = record {
  ending = ending;
  status_is = s;
  cause = cause;
  output = λ written e. let y = printed written e in (y.0, y.2, y.1);
}

-- for the numbers that the words ask for
pub drill-ended-as : (status from payments other more : ℕ) (out : Stream) (ending : Ending) → (from ≡ other) × (payments ≡ more) → status ≡ status_of ending → DrillCause from payments ending out → Adds out.before out.after (DrillPrinted from payments ending) → HasDrilled status other more out
drill-ended-as status from payments other more out ending same s cause printed =
    subst (λ n. HasDrilled status other n out) same.1 (subst (λ n. HasDrilled status n payments out) same.0 (drill-ended status from payments out ending s cause printed))

-- without memory for the words
pub memory-drilled : (status from payments : ℕ) (out : Stream) (ending : Ending) → status ≡ status_of ending → (ending ≡ OutputFailed → HasRisen out) → IsReportedEnd Memory ending → Adds out.before out.after (WritesTail Memory ending) → HasDrilled status from payments out
memory-drilled status from payments out ending s rose which printed = drill-ended status from payments out ending s (refused-cause from payments Memory ending out refl which rose)
    (λ written e. let y = printed written e in (y.0, refused-printed from payments Memory ending y.0 refl y.1, y.2))

-- no write has failed, so that it has ended well or memory was refused
pub drill-complete : (status from payments : ℕ) (ending : Ending) (out : Stream) → status ≡ status_of ending → DrillCause from payments ending out → (HasRisen out → ⊥) → (status ≡ 0) ⊎ (status ≡ 71)
drill-complete status from payments Played out s cause calm = inl s
drill-complete status from payments Memory out s cause calm = inr s
drill-complete status from payments OutputFailed out s cause calm = absurd (calm cause)
drill-complete status from payments Words out s cause calm = absurd cause
drill-complete status from payments Long out s cause calm = absurd cause
drill-complete status from payments (AtLine line) out s cause calm = absurd cause
drill-complete status from payments Input out s cause calm = absurd cause
drill-complete status from payments NotOpened out s cause calm = absurd cause
drill-complete status from payments Disk out s cause calm = absurd cause
drill-complete status from payments (LongJournal size) out s cause calm = absurd cause
drill-complete status from payments (CutJournal slot) out s cause calm = absurd cause
drill-complete status from payments (BadSlot slot) out s cause calm = absurd cause
