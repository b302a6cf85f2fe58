-- How the top call ends after one run.
use Rattle.std.proofs.Common.{◌≡◌, ℕ, List, ◌++◌, Some, ◌∙◌, ap, arith, inl, refl, subst, sym}
use Rattle.gw_base.specs.declared.setup.Setup.{Setup}
use Rattle.gw_site.specs.Observed.{IfObserved, Observed}
use Rattle.gw_site.specs.declared.turn.Turn.{Turn}
use Rattle.gw_rules.specs.Lawful.{IsClear, Stands, turns_of}
use Rattle.gw_rules.specs.Triple.{IsRun, RunTriple}
use Rattle.gw_rules.specs.View.{View, view_from}
use Rattle.gw_rules.proofs.CourseLemmas.{stands-more}
use Rattle.gw_books.specs.PastLaws.{AgreesThroughout, EachLogAgrees}
use Rattle.gw_dispatch.specs.RunEnd.{EndedBy}
use Rattle.gw_dispatch.specs.declared.engine.Ended.{Ended}
use Rattle.gw_dispatch.specs.declared.engine.Ended.TheVariants.{Done, NotOpened as RunNotOpened, NoMemory, Disk as RunDisk, TooLong, Cut, BadRecord}
use Rattle.gw_run.specs.RunEnds.{EndsRun, EndsWithStatus, GivesEnd, GivesStatus, ending_of}
use Rattle.gw_run.specs.Serving.{MayReportMemory}
use Rattle.gw_run.specs.Top.{status_of}
use Rattle.gw_run.specs.declared.ending.Ending.{Ending}
use Rattle.gw_run.specs.declared.ending.Ending.TheVariants.{Played, Words, Long, Line as AtLine, Input, NotOpened, Memory, OutputFailed, Disk, LongJournal, CutJournal, BadSlot}

-- after one run at most something weaker is so
pub run-weaker : (own : Setup) (old new : Observed) (Shape : List Turn → Type 0) (Q R : View → Type 0) → ((v : View) → Q v → R v) → RunTriple own old new Shape Q → RunTriple own old new Shape R
run-weaker own old new Shape Q R weaker runs = record {
  observed = λ before v e s clear.
      let r = runs.observed before v e s clear in
      record { moves = r.moves; log_is = r.log_is; lawful = r.lawful; shape = r.shape; done = r.done; none = r.none; owed = λ lit. weaker _ (r.owed lit) };
  unobserved = runs.unobserved;
  origin = runs.origin;
}

-- a run that has ended so gives this end
pub gives-end : (own : Setup) (old new : Observed) (ended : Ended) (ending : Ending) (most : ℕ) → ending ≡ ending_of ended → RunTriple own old new (IsRun own) (EndedBy ended most) → RunTriple own old new (IsRun own) (EndsRun ending most)
gives-end own old new ended ending most e runs = run-weaker own old new (IsRun own) (EndedBy ended most) (EndsRun ending most) (λ v by. (ended, e, by)) runs

-- an end gives its status
pub gives-status : (ending : Ending) (status : ℕ) (IsSo : Ended → Type 0) → status ≡ status_of ending → GivesEnd ending IsSo → GivesStatus status IsSo
gives-status ending status IsSo s r = (r.0, s ∙ ap status_of r.1, r.2)

-- and so does that of a run
pub run-status : (own : Setup) (old new : Observed) (ending : Ending) (status most : ℕ) → status ≡ status_of ending → RunTriple own old new (IsRun own) (EndsRun ending most) → RunTriple own old new (IsRun own) (EndsWithStatus status most)
run-status own old new ending status most s runs = run-weaker own old new (IsRun own) (EndsRun ending most) (EndsWithStatus status most) (λ v r. gives-status ending status (λ ended. EndedBy ended most v) s r) runs

-- a run gives the end of one that is done only where it is
done-played : (ended : Ended) → ending_of ended ≡ Played → ended ≡ Done
done-played Done e = refl
done-played RunNotOpened e = absurd (let h : NotOpened ≡ Played = e in cc)
done-played NoMemory e = absurd (let h : Memory ≡ Played = e in cc)
done-played RunDisk e = absurd (let h : Disk ≡ Played = e in cc)
done-played (TooLong size) e = absurd (let h : LongJournal size ≡ Played = e in cc)
done-played (Cut slot) e = absurd (let h : CutJournal slot ≡ Played = e in cc)
done-played (BadRecord slot) e = absurd (let h : BadSlot slot ≡ Played = e in cc)

pub played-done : (ended : Ended) (ending : Ending) → ending ≡ ending_of ended → ending ≡ Played → ended ≡ Done
played-done ended ending e played = done-played ended (sym e ∙ played)

-- of 0 it has ended well
pub zero-played : (ending : Ending) → status_of ending ≡ 0 → ending ≡ Played
zero-played Played e = refl
zero-played Words e = absurd (let h : 64 ≡ 0 = e in cc)
zero-played Long e = absurd (let h : 65 ≡ 0 = e in cc)
zero-played (AtLine line) e = absurd (let h : 65 ≡ 0 = e in cc)
zero-played Input e = absurd (let h : 66 ≡ 0 = e in cc)
zero-played NotOpened e = absurd (let h : 69 ≡ 0 = e in cc)
zero-played Memory e = absurd (let h : ◌≡◌ {A = ℕ} 71 0 = e in cc)
zero-played OutputFailed e = absurd (let h : 73 ≡ 0 = e in cc)
zero-played Disk e = absurd (let h : 74 ≡ 0 = e in cc)
zero-played (LongJournal size) e = absurd (let h : 76 ≡ 0 = e in cc)
zero-played (CutJournal slot) e = absurd (let h : 76 ≡ 0 = e in cc)
zero-played (BadSlot slot) e = absurd (let h : 76 ≡ 0 = e in cc)

-- of 71 memory was refused
refused-status : (ending : Ending) → status_of ending ≡ 71 → ending ≡ Memory
refused-status Memory e = refl
refused-status Played e = absurd (let h : ◌≡◌ {A = ℕ} 0 71 = e in omega (arith, h))
refused-status Words e = absurd (let h : ◌≡◌ {A = ℕ} 64 71 = e in omega (arith, h))
refused-status Long e = absurd (let h : ◌≡◌ {A = ℕ} 65 71 = e in omega (arith, h))
refused-status (AtLine line) e = absurd (let h : ◌≡◌ {A = ℕ} 65 71 = e in omega (arith, h))
refused-status Input e = absurd (let h : ◌≡◌ {A = ℕ} 66 71 = e in omega (arith, h))
refused-status NotOpened e = absurd (let h : ◌≡◌ {A = ℕ} 69 71 = e in omega (arith, h))
refused-status OutputFailed e = absurd (let h : ◌≡◌ {A = ℕ} 73 71 = e in omega (arith, h))
refused-status Disk e = absurd (let h : ◌≡◌ {A = ℕ} 74 71 = e in omega (arith, h))
refused-status (LongJournal size) e = absurd (let h : ◌≡◌ {A = ℕ} 76 71 = e in omega (arith, h))
refused-status (CutJournal slot) e = absurd (let h : ◌≡◌ {A = ℕ} 76 71 = e in omega (arith, h))
refused-status (BadSlot slot) e = absurd (let h : ◌≡◌ {A = ℕ} 76 71 = e in omega (arith, h))

pub status-lacks : (ending : Ending) (status : ℕ) → status ≡ status_of ending → status ≡ 71 → MayReportMemory ending
status-lacks ending status s e = inl (refused-status ending (sym s ∙ e))

some-turns : (a b : List Turn) → Some a ≡ Some b → a ≡ b
some-turns a b e = cc

-- what a run leaves of a lawful log is one, so that the headline holds of it
pub run-agrees : EachLogAgrees → (own : Setup) (old new : Observed) (Shape : List Turn → Type 0) (Q : View → Type 0) → RunTriple own old new Shape Q →
    IfObserved old (λ before. (v : View) → Stands before v → IsClear v → IfObserved new AgreesThroughout)
run-agrees headline own old new Shape Q runs before e v stands clear after is =
    let r = runs.observed before v e stands clear in
    let after_is : before ++ turns_of r.moves ≡ after = some-turns _ _ (sym r.log_is ∙ is) in
    headline after (view_from v r.moves, subst (λ log. Stands log (view_from v r.moves)) after_is (stands-more before v r.moves stands r.lawful))
