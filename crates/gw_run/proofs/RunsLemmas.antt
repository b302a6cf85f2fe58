-- The runs over a site in memory, one after each power failure.
use Rattle.std.proofs.Common.{◌≡◌, ℕ, ◌+◌, ◌-◌, ◌<◌, ◌≤◌, List, [], ◌∷◌, ◌++◌, length, refl, sym, ◌∙◌, ap, subst, arith, append-nil, inl, inr, true, false}
use Rattle.std.proofs.lemmas.List.{length-map}
use Rattle.std.specs.Prelude.{◌⊎◌, Option, Some}
use Rattle.gw_base.specs.declared.setup.Setup.{Setup}
use Rattle.gw_bytes.specs.Bytes.{AreBytes}
use Rattle.gw_site.specs.Image.{Image}
use Rattle.gw_site.specs.Observed.{Observed}
use Rattle.gw_site.specs.Outside.{outside_of}
use Rattle.gw_site.specs.Steps.{Plan, Made, PowerBack, StopAfter, Holding, SiteStep, TakenStep, Takes, log_of_parts, steps_of, turns_of_steps}
use Rattle.gw_site.specs.declared.turn.Turn.{Turn}
use Rattle.gw_site.specs.declared.turn.Turn.TheVariants.{OpenFailed, Crash}
use Rattle.gw_script.proofs.site.CallLemmas.{calls-play}
use Rattle.gw_script.proofs.site.PowerLemmas.{failures-add-up, failures-within-lines}
use Rattle.gw_script.proofs.site.StepTurnLemmas.{steps-have-their-turns}
use Rattle.gw_script.specs.site.Calls.{PlaysBy, are_scripted}
use Rattle.gw_script.specs.site.Powers.{power_failures, power_lines}
use Rattle.gw_script.specs.site.ScriptLine.{PlayedLine}
use Rattle.gw_script.specs.site.StepTurns.{PlaysInParts, site_turns}
use Rattle.gw_ledger.specs.Sums.{tally_of}
use Rattle.gw_rules.specs.LedgerRules.{LawfulRefusedOnlyWithFewerSlots}
use Rattle.gw_rules.specs.Acts.{Act, ToBegin, ToRead, ToTake, AreDue, IsDueStep, Look, Unopened, after_act, look_after, look_from, moves_of, taken_of}
use Rattle.gw_rules.specs.Lawful.{IsClear, IsCourse, Stands, turns_of}
use Rattle.gw_rules.specs.Triple.{IsRun, Ran, RunTriple}
use Rattle.gw_rules.specs.View.{View, Make, at_first, view_from}
use Rattle.gw_rules.proofs.ActLemmas.{due-append, look_from-append, moves_of-append, taken-none, taken-then, taken_of-append, turns-of-acts}
use Rattle.gw_rules.proofs.CourseLemmas.{course-append, stands-more, stands-outside, turns_of-append, view_from-append}
use Rattle.gw_dispatch.specs.RunEnd.{EndedBy, NoneBegan, TalliedBy}
use Rattle.gw_dispatch.specs.declared.engine.Ended.{Ended}
use Rattle.gw_dispatch.specs.declared.engine.TalliedEnd.{TalliedEnd}
use Rattle.gw_dispatch.specs.declared.engine.Ended.TheVariants.{Done, NotOpened as RunNotOpened, NoMemory, Disk as RunDisk, TooLong, Cut, BadRecord}
use Rattle.gw_run.specs.RunEnds.{ending_of}
use Rattle.gw_run.specs.PlayedRuns.{FailsAtMost, HasPlayed, HasTallied, view_of}
use Rattle.gw_run.specs.ScriptLog.{AreOpenings, HasLastTurn, HasDone}
use Rattle.gw_run.specs.Top.{ShowsEnd}
use Rattle.gw_run.specs.declared.ending.Ending.TheVariants.{Memory}
use Rattle.gw_run.proofs.EndLemmas.{broken-ends, over-ends, polls-most}
use Rattle.gw_run.proofs.RefusedLemmas.{may-open-again, may_open, never-refused, openings-append, run-openings}

-- ---- before a run

-- a run may begin after what was done: the site is to be opened, and no call on the disk has failed since the last power failure
pub record MayRun (own : Setup) (whole : Plan) (plan : Option Plan) (log : List Turn) : Type 0 where
  pub played : HasPlayed own whole plan log
  pub clear : IsClear (view_from at_first (moves_of played.acts))
  pub look : look_from own at_first Unopened played.acts ≡ Unopened
  pub may : may_open true log ≡ true

-- what was done is a lawful log
pub done-stands : (own : Setup) (acts : List Act) (log : List Turn) → HasDone own acts log → Stands log (view_from at_first (moves_of acts))
done-stands own acts log d = record { course = moves_of acts; log_is = d.log_is; lawful = d.lawful; view_is = refl }

-- nothing was done before the first
abbrev pub nothing-played : (own : Setup) (whole : Plan) (plan : Option Plan) → plan ≡ Some whole → HasPlayed own whole plan []
nothing-played own whole plan e = record {
  acts = [];
  done = record { lawful = tt; due = tt; log_is = refl };
  openings = tt;
  taken = subst (λ p. Takes (Some whole) p []) (sym e) (taken-none (Some whole));
}

pub may-run-first : (own : Setup) (whole : Plan) (plan : Option Plan) → plan ≡ Some whole → MayRun own whole plan []
may-run-first own whole plan e = record { played = nothing-played own whole plan e; clear = refl; look = refl; may = refl }

-- the power is there again, with this file
abbrev pub power_back : List ℕ → TakenStep
power_back file = record { step = PowerBack; turns = Crash file ∷ [] }

-- so a run may begin once it is
module _ (own : Setup) (whole : Plan) (old new : Option Plan) (log : List Turn) (file : List ℕ) (p : HasPlayed own whole old log) (image : Image (outside_of log) file) (bytes : AreBytes file) (t : Takes old new (power_back file ∷ [])) where
  abbrev before : View
  before = view_from at_first (moves_of p.acts)

  abbrev acts : List Act
  acts = p.acts ++ ToTake (power_back file) ∷ []

  outside-is : outside_of log ≡ before.scene.outside
  outside-is = sym (stands-outside log before (done-stands own p.acts log p.done))

  moves-are : moves_of acts ≡ moves_of p.acts ++ Make (Crash file) ∷ []
  moves-are = moves_of-append p.acts (ToTake (power_back file) ∷ [])

  course : IsCourse at_first (moves_of p.acts ++ Make (Crash file) ∷ [])
  course = course-append at_first (moves_of p.acts) (Make (Crash file) ∷ []) p.done.lawful ((subst (λ o. Image o file) outside-is image, bytes), tt)

  crash-openings : AreOpenings own (may_open true log) (Crash file ∷ [])
  crash-openings = (λ e. absurd (let h : false ≡ true = e in cc), tt)

  pub may-run-again : MayRun own whole new (log ++ Crash file ∷ [])
  may-run-again = record {
    played = record {
      acts = acts;
      done = record {
        lawful = subst (IsCourse at_first) (sym moves-are) course;
        due = due-append own at_first Unopened p.acts (ToTake (power_back file) ∷ []) p.done.due (tt, tt);
        log_is = ap turns_of moves-are ∙ turns_of-append (moves_of p.acts) (Make (Crash file) ∷ []) ∙ ap (λ l. l ++ Crash file ∷ []) p.done.log_is;
      };
      openings = openings-append own true log (Crash file ∷ []) p.openings crash-openings;
      taken = subst (Takes (Some whole) new) (sym (taken_of-append p.acts (ToTake (power_back file) ∷ []))) (taken-then (Some whole) old new (taken_of p.acts) (power_back file ∷ []) p.taken t);
    };
    clear = subst IsClear (sym (ap (view_from at_first) moves-are ∙ view_from-append at_first (moves_of p.acts) (Make (Crash file) ∷ []))) refl;
    look = look_from-append own at_first Unopened p.acts (ToTake (power_back file) ∷ []);
    may = may-open-again true log file;
  }

-- ---- a run

pub some-log : {xs ys : List Turn} → Some xs ≡ Some ys → xs ≡ ys
some-log e = cc

module _ (rules : LawfulRefusedOnlyWithFewerSlots) (own : Setup) (whole : Plan) (end : TalliedEnd) (old new : Observed) (log after : List Turn) (m : MayRun own whole old.plan log) (old_is : old.log ≡ Some log) (new_is : new.log ≡ Some after)
    (none : end.ended ≡ RunNotOpened → NoneBegan log new) (runs : RunTriple own old new (IsRun own) (TalliedBy end 18446744073709551615)) where
  abbrev start : View
  start = view_from at_first (moves_of m.played.acts)

  stands : Stands log start
  stands = done-stands own m.played.acts log m.played.done

  abbrev r : Ran own old log start new (IsRun own) (TalliedBy end 18446744073709551615)
  r = runs.observed log start old_is stands m.clear

  after-is : log ++ turns_of r.moves ≡ after
  after-is = some-log (sym r.log_is ∙ new_is)

  now-stands : Stands after (view_from start r.moves)
  now-stands = subst (λ l. Stands l (view_from start r.moves)) after-is (stands-more log start r.moves stands r.lawful)

  all-openings : AreOpenings own true after
  all-openings = subst (AreOpenings own true) after-is
      (openings-append own true log (turns_of r.moves) m.played.openings (subst (λ may. AreOpenings own may (turns_of r.moves)) (sym m.may) (run-openings own (turns_of r.moves) r.shape)))

  all-moves : moves_of (m.played.acts ++ r.done.acts) ≡ moves_of m.played.acts ++ r.moves
  all-moves = moves_of-append m.played.acts r.done.acts ∙ ap (λ l. moves_of m.played.acts ++ l) r.done.moves_are

  abbrev played-on : HasPlayed own whole new.plan after
  played-on = record {
    acts = m.played.acts ++ r.done.acts;
    done = record {
      lawful = subst (IsCourse at_first) (sym all-moves) (course-append at_first (moves_of m.played.acts) r.moves m.played.done.lawful r.lawful);
      due = due-append own at_first Unopened m.played.acts r.done.acts m.played.done.due (subst (λ look. AreDue own start look r.done.acts) (sym m.look) r.done.due);
      log_is = ap turns_of all-moves ∙ turns_of-append (moves_of m.played.acts) r.moves ∙ ap (λ l. l ++ turns_of r.moves) m.played.done.log_is ∙ after-is;
    };
    openings = all-openings;
    taken = subst (Takes (Some whole) new.plan) (sym (taken_of-append m.played.acts r.done.acts)) (taken-then (Some whole) old.plan new.plan (taken_of m.played.acts) (taken_of r.done.acts) m.played.taken r.done.taken);
  }

  -- where the site could not be opened, the log ends with that
  opening-failed : new.dark ≡ false → NoneBegan log new → HasLastTurn OpenFailed after
  opening-failed lit (inl failed) = (log, some-log (sym new_is ∙ failed))
  opening-failed lit (inr (dark, same)) = absurd (let h : true ≡ false = sym dark ∙ lit in cc)

  end-by : new.dark ≡ false → length after < 18446744073709551615 → (ended : Ended) → end.ended ≡ ended → EndedBy ended 18446744073709551615 (view_from start r.moves) → (ending_of ended ≡ Memory) ⊎ ShowsEnd (ending_of ended) after
  end-by lit few Done e (inl over) = inr (over-ends after (view_from start r.moves) now-stands over)
  end-by lit few Done e (inr all) = absurd (let h = polls-most after (view_from start r.moves) now-stands in let polls = all.polls in omega arith)
  end-by lit few RunNotOpened e by = inr (opening-failed lit (none e))
  end-by lit few NoMemory e by = inl refl
  end-by lit few RunDisk e by = inr (broken-ends after (view_from start r.moves) now-stands by)
  end-by lit few (TooLong size) e by = absurd (never-refused rules own after (view_from start r.moves) now-stands all-openings by.0)
  end-by lit few (Cut slot) e by = absurd by
  end-by lit few (BadRecord slot) e by = absurd by

  -- the view after all acts is that after the run
  same-view : view_from start r.moves ≡ view_of (m.played.acts ++ r.done.acts)
  same-view = sym (ap (view_from at_first) all-moves ∙ view_from-append at_first (moves_of m.played.acts) r.moves)

  -- so one run more was played
  pub has-run : HasTallied own whole end new after
  has-run = record {
    run = record { played = played-on; end = λ lit few. end-by lit few end.ended refl (r.owed lit).ended_by };
    tally = λ lit done. (r.owed lit).tally done ∙ ap (λ (v : View). tally_of v.scene.kept) same-view;
  }

  -- by which no power failure is gone
  pub failures-more : (more : List Turn) × (power_failures after ≡ power_failures log + power_failures more)
  failures-more = (turns_of r.moves, ap power_failures (sym after-is) ∙ failures-add-up log (turns_of r.moves))

-- ---- power failures

due-step : (own : Setup) (v : View) (look : Look) (step : SiteStep) (steps : List SiteStep) → IsDueStep own v look step → are_scripted steps ≡ true → are_scripted (step ∷ steps) ≡ true
due-step own v look (Made call) steps h e = e
due-step own v look PowerBack steps h e = e
due-step own v look (StopAfter calls kind) steps h e = absurd h
due-step own v look (Holding file) steps h e = absurd h

-- steps that are due are none beside the script
pub due-scripted : (own : Setup) (v : View) (look : Look) (acts : List Act) → AreDue own v look acts → are_scripted (steps_of (taken_of acts)) ≡ true
due-scripted own v look [] h = refl
due-scripted own v look (ToBegin ∷ acts) h = due-scripted own (after_act v ToBegin) look acts h.1
due-scripted own v look (ToRead as_read ∷ acts) h = due-scripted own (after_act v (ToRead as_read)) look acts h.1
due-scripted own v look (ToTake taken ∷ acts) h = due-step own v look taken.step (steps_of (taken_of acts)) h.0 (due-scripted own (after_act v (ToTake taken)) (look_after own v look (ToTake taken)) acts h.1)

-- the turns of further steps are known, and where none are taken there are none
pub record IsKnown (plan : Option Plan) : Type 0 where
  pub later : Plan
  pub plan_is : plan ≡ Some later
  pub nothing : later [] ≡ []

pub some-plan : {a b : Plan} → Some a ≡ Some b → a ≡ b
some-plan e = cc

-- the steps so far and more have the turns of those, and those that are known of these
pub with-more : (own : Setup) (whole : Plan) (plan : Option Plan) (log : List Turn) (later : Plan) (p : HasPlayed own whole plan log) → plan ≡ Some later → (more : List SiteStep) → whole (steps_of (taken_of p.acts) ++ more) ≡ turns_of_steps (taken_of p.acts) ++ later more
with-more own whole plan log later p e more =
    let t = p.taken later e in
    ap (λ (one : Plan). one (steps_of (taken_of p.acts) ++ more)) (some-plan t.1) ∙ t.2 more

-- the steps so far have their turns
pub steps-played : (own : Setup) (whole : Plan) (plan : Option Plan) (log : List Turn) (p : HasPlayed own whole plan log) → IsKnown plan → whole (steps_of (taken_of p.acts)) ≡ turns_of_steps (taken_of p.acts)
steps-played own whole plan log p k =
    ap whole (sym (append-nil (steps_of (taken_of p.acts))))
    ∙ with-more own whole plan log k.later p k.plan_is []
    ∙ ap (λ l. turns_of_steps (taken_of p.acts) ++ l) k.nothing
    ∙ append-nil (turns_of_steps (taken_of p.acts))

-- so the log has no more power failures than may come
pub failures-few : (own : Setup) (whole : Plan) (plan : Option Plan) (most : ℕ) (log : List Turn) → FailsAtMost most whole → HasPlayed own whole plan log → IsKnown plan → power_failures log ≤ most
failures-few own whole plan most log few p k =
    let steps = steps_of (taken_of p.acts) in
    let parts = turns_of_steps (taken_of p.acts) in
    let counted : length parts ≡ length steps = length-map (taken_of p.acts) (λ (one : TakenStep). one.turns) ∙ sym (length-map (taken_of p.acts) (λ (one : TakenStep). one.step)) in
    let log_is : log ≡ log_of_parts parts = sym p.done.log_is ∙ turns-of-acts p.acts in
    subst (λ l. power_failures l ≤ most) (sym log_is) (few steps parts (due-scripted own at_first Unopened p.acts p.done.due) (steps-played own whole plan log p k) counted)

-- after the failure and one run more, fewer may come
pub fewer-left : (most : ℕ) (log more after : List Turn) (file : List ℕ) → power_failures (log ++ Crash file ∷ []) ≤ most → power_failures after ≡ power_failures (log ++ Crash file ∷ []) + power_failures more → most - power_failures after < most - power_failures log
fewer-left most log more after file few e =
    let one : power_failures (log ++ Crash file ∷ []) ≡ power_failures log + 1 = failures-add-up log (Crash file ∷ []) in
    omega (arith, few, one, e)

-- the lines of a script let the power fail once each at most
pub script-fails : (lines : List PlayedLine) → FailsAtMost (power_lines lines) (site_turns lines)
script-fails lines steps parts scripted e counted =
    let in_parts : PlaysInParts lines steps parts = (steps-have-their-turns.in_parts lines steps parts).1 (e, counted) in
    let by : PlaysBy lines steps (log_of_parts parts) = (steps-have-their-turns.log_in_parts lines steps (log_of_parts parts)).1 (parts, in_parts, refl) in
    failures-within-lines lines (log_of_parts parts) ∣ calls-play lines steps (log_of_parts parts) scripted by ∣₁
