-- The opening of a run's journal: which turns are lawful and which steps are due where it is owed, and what they lead to.
use Rattle.std.proofs.Common.{◌≡◌, ◌∙◌, ℕ, ◌+◌, ◌*◌, ◌≤◌, Bool, true, false, not, ◌&&◌, List, [], ◌∷◌, ◌++◌, length, map, Some, refl, sym, ap, subst, arith, ◌⊎◌, inl, inr, append-nil, append_assoc}
use Rattle.std.proofs.lemmas.List.{append_cancel_left}
use Rattle.std.proofs.lemmas.Bool.{cases_lt, le-leb, le-ltb, lt-leb, lt-ltb, leb-true, leb-false}
use Rattle.std.specs.Prelude.{nat_le, nat_lt, if◌then◌else◌, ◌||◌, ◌<◌, Option, None, Result, Ok, Err}
use Rattle.gw_base.specs.declared.setup.Setup.{Setup}
use Rattle.gw_site.specs.Steps.{LengthCall, SyncCall, TakenStep, Takes, turns_of_steps, log_of_parts}
use Rattle.gw_site.specs.declared.turn.Turn.{Turn}
use Rattle.gw_site.specs.declared.turn.Turn.TheVariants.{Synced, DiskFailed}
use Rattle.jrn_log.specs.JournalTurns.{first_gate, first_gate_write, FailedTurns, FaultTurns, OpeningTurns}
use Rattle.jrn_record.specs.Grammar.{record_body}
use Rattle.jrn_record.specs.declared.records.Record.{Record}
use Rattle.jrn_log.specs.Slots.{IsFileTooLong}
use Rattle.jrn_log.proofs.SlotLemmas.{one_byte_slots, one_slots}
use Rattle.gw_ledger.specs.History.{history}
use Rattle.gw_ledger.specs.Sums.{open_count_of}
use Rattle.gw_owes.specs.Core.{new_core}
use Rattle.gw_site.specs.Observed.{Observed, Added, GrowsBy, IfObserved}
use Rattle.gw_site.specs.Sorts.{IsQuiet}
use Rattle.gw_rules.specs.Opening.{is_refused}
use Rattle.gw_rules.specs.Scene.{records_of}
use Rattle.gw_site.specs.Outside.{Outside, outside_of}
use Rattle.gw_site.proofs.ImageLemmas.{file_image}
use Rattle.jrn_log.specs.Journal.{JournalValue}
use Rattle.jrn_log.specs.declared.fault.OpenFault.{OpenFault}
use Rattle.jrn_log.specs.declared.fault.OpenFault.TheVariants.{Disk as JournalDisk, TooLong as JournalTooLong, Cut as JournalCut, Memory as JournalMemory}
use Rattle.gw_rules.specs.LedgerRules.{EachLawfulHasKept}
use Rattle.gw_rules.specs.RecordOrder.{EachLogFolds}
use Rattle.gw_rules.specs.Triple.{ExtendsBy, TripleBy, IsNewRun, JustBegun}
use Rattle.gw_dispatch.specs.RecordsOpening.{HasOpened, HasRecords, IsFileRefused, LacksMemory, LedgerGives, OpenedBy, OpensBy, UnopenedBy, cause_of}
use Rattle.gw_dispatch.specs.Growth.{EndsInFailure}
use Rattle.gw_dispatch.specs.declared.records.Records.{Records}
use Rattle.gw_dispatch.specs.declared.records.Unopened.{Unopened}
use Rattle.gw_dispatch.specs.declared.records.Unopened.TheVariants.{Disk, TooLong, Cut, BadRecord, Memory}
use Rattle.gw_dispatch.proofs.RecordsLemmas.{HoldsRefusedNot, IsByFile, IsFileCause, bad-not, one_file_records}
use Rattle.jrn_log.specs.JournalSteps.{Phase, ToSync, ToMeasure, ToWrite, ToRead, ToReadOn, Done, AreSteps, HasSucceeded, HasReached, phase_after, phase_turns, measured_phase, opening_phase, opened_phase, RestsDark, TakesOpening}
use Rattle.gw_owes.specs.Calls.{OwedCall, WriteFirstGate, Sync}
use Rattle.gw_rules.specs.Acts.{Act, ToTake, AreDue, IsDueStep, IsMeasuring, Look, Unmeasured, Measured, Looked, after_act, is_to_read, look_after, look_after_step, look_from, moves_of, taken_of}
use Rattle.gw_rules.specs.Lawful.{IsCourse, Stands, first_call}
use Rattle.gw_rules.specs.Scene.{Scene}
use Rattle.gw_rules.specs.Stage.{Opening, Looking, Broken, is_broken, is_looking, is_round, is_running, stage_synced, stage_wrote}
use Rattle.gw_rules.specs.View.{View, after_turn, later, view_from}
use Rattle.gw_rules.proofs.CourseLemmas.{course-prefix, makes, makes-append, quiet-prefix, stands-outside, turns_of-makes}

-- ---- acts that are steps alone

abbrev pub taking : List TakenStep → List Act
taking taken = map ToTake taken

pub moves-taking : (taken : List TakenStep) → moves_of (taking taken) ≡ makes (log_of_parts (turns_of_steps taken))
moves-taking [] = refl
moves-taking (one ∷ taken) = ap (λ l. makes one.turns ++ l) (moves-taking taken) ∙ sym (makes-append one.turns (log_of_parts (turns_of_steps taken)))

pub taken-taking : (taken : List TakenStep) → taken_of (taking taken) ≡ taken
taken-taking [] = refl
taken-taking (one ∷ taken) = ap (λ l. one ∷ l) (taken-taking taken)

-- ---- where an opening is owed

-- the calls after the first sync
abbrev gate_calls : ℕ → List OwedCall
gate_calls size = if nat_le size 1 then WriteFirstGate ∷ Sync ∷ [] else []

-- the view in this scene
abbrev pub owing : Scene → View
owing scene = record { scene = scene; calls = Sync ∷ gate_calls (length scene.outside.file); items = [] }

-- its first sync was made
abbrev first_synced : Scene → View
first_synced scene = after_turn (owing scene) Synced

-- ---- courses

module _ (scene : Scene) (refused : Bool) (stage : scene.stage ≡ Opening refused) where
  looking : is_looking (stage_synced scene.stage) ≡ true
  looking = ap (λ s. is_looking (stage_synced s)) stage

  gate-owed : length scene.outside.file ≤ 1 → gate_calls (length scene.outside.file) ≡ WriteFirstGate ∷ Sync ∷ []
  gate-owed le = ap (λ (b : Bool). if b then WriteFirstGate ∷ Sync ∷ [] else []) (le-leb (length scene.outside.file) 1 le)

  -- the turns of an opening in which the disk failed are lawful
  pub failed-course : (turns : List Turn) → FailedTurns scene.outside.file turns → IsCourse (owing scene) (makes turns)
  failed-course turns (inl e) = rw e (inl refl, tt)
  failed-course turns (inr (inl e)) = rw e (refl, (inr looking, tt))
  failed-course turns (inr (inr (le, e))) = rw e (refl, ((WriteFirstGate, ap first_call (gate-owed le), refl), (inl (ap (λ calls. first_call (later calls)) (gate-owed le)), tt)))

  -- those of one that is made are
  pub opened-course : IsCourse (owing scene) (makes (Synced ∷ first_gate (length scene.outside.file)))
  opened-course = by_size (nat_le (length scene.outside.file) 1) refl
    where
      by_size : (small : Bool) → nat_le (length scene.outside.file) 1 ≡ small → IsCourse (owing scene) (makes (Synced ∷ (if nat_le (length scene.outside.file) 1 then first_gate_write ∷ Synced ∷ [] else [])))
      by_size true e = (refl, rw e ((WriteFirstGate, refl, refl), (refl, tt)))
      by_size false e = (refl, rw e tt)

-- ---- steps that are due

-- a step is due, and those after it are where it has succeeded
step-due : (own : Setup) (v after : View) (look next : Look) (phase : Phase) (one : TakenStep) (more : List TakenStep) → IsDueStep own v look one.step → look_after_step own v look one.step ≡ next
    → view_from v (makes (phase_turns phase)) ≡ after → (AreSteps (phase_after phase) more → AreDue own after next (taking more)) → ((more ≡ []) ⊎ (HasSucceeded phase one × AreSteps (phase_after phase) more)) → AreDue own v look (taking (one ∷ more))
step-due own v after look next phase one more due look_is view_is rest (inl none) = (due, subst (λ m. AreDue own (after_act v (ToTake one)) (look_after own v look (ToTake one)) (taking m)) (sym none) tt)
step-due own v after look next phase one more due look_is view_is rest (inr (went, are)) =
    let view_too : after_act v (ToTake one) ≡ after = ap (λ turns. view_from v (makes turns)) went ∙ view_is in
    (due, subst (λ w. AreDue own w (look_after own v look (ToTake one)) (taking more)) (sym view_too) (subst (λ l. AreDue own after l (taking more)) (sym look_is) (rest are)))

due-done : (own : Setup) (v : View) (look : Look) (taken : List TakenStep) → AreSteps Done taken → AreDue own v look (taking taken)
due-done own v look [] are = tt
due-done own v look (one ∷ more) are = absurd are.0

due-sync : (own : Setup) (v : View) (taken : List TakenStep) → v.calls ≡ Sync ∷ [] → AreSteps (ToSync Done) taken → AreDue own v Looked (taking taken)
due-sync own v [] calls are = tt
due-sync own v (one ∷ more) calls are =
    step-due own v (view_from v (makes (Synced ∷ []))) Looked Looked (ToSync Done) one more
    (subst (IsDueStep own v Looked) (sym are.0) (inl (inl (Sync, ap first_call calls, refl)))) (ap (look_after_step own v Looked) are.0) refl (due-done own (view_from v (makes (Synced ∷ []))) Looked more) are.1

due-gate : (own : Setup) (v : View) (taken : List TakenStep) → v.calls ≡ WriteFirstGate ∷ Sync ∷ [] → AreSteps (ToWrite 0 (0 ∷ []) (ToSync Done)) taken → AreDue own v Looked (taking taken)
due-gate own v [] calls are = tt
due-gate own v (one ∷ more) calls are =
    step-due own v (view_from v (makes (first_gate_write ∷ []))) Looked Looked (ToWrite 0 (0 ∷ []) (ToSync Done)) one more
    (subst (IsDueStep own v Looked) (sym are.0) (inl (inl (WriteFirstGate, ap first_call calls, refl)))) (ap (look_after_step own v Looked) are.0) refl (due-sync own (view_from v (makes (first_gate_write ∷ []))) more (ap later calls)) are.1

due-reading : (own : Setup) (v : View) (taken : List TakenStep) → is_to_read own.slots v ≡ true → AreSteps ToReadOn taken → AreDue own v Looked (taking taken)
due-reading own v [] reads are = tt
due-reading own v (one ∷ more) reads are =
    step-due own v v Looked Looked ToReadOn one more
    (subst (IsDueStep own v Looked) (sym are.0.step_is) (inr (record { to_read = reads; offset = are.0.offset; size = are.0.size; call_is = refl }))) (ap (look_after_step own v Looked) are.0.step_is) refl (due-reading own v more reads) are.1

due-read : (own : Setup) (v : View) (taken : List TakenStep) → is_to_read own.slots v ≡ true → AreSteps ToRead taken → AreDue own v Measured (taking taken)
due-read own v [] reads are = tt
due-read own v (one ∷ more) reads are =
    step-due own v v Measured Looked ToRead one more
    (subst (IsDueStep own v Measured) (sym are.0.step_is) (record { to_read = reads; offset = are.0.offset; size = are.0.size; call_is = refl })) (ap (look_after_step own v Measured) are.0.step_is) refl (due-reading own v more reads) are.1

-- how far the file was looked at once its length is known
abbrev measured : Setup → View → Look
measured own v = if is_to_read own.slots v then Measured else Looked

-- what a file of this size is read for
reads-by : (slots : ℕ) (v : View) (small fits : Bool) → is_looking v.scene.stage ≡ true → nat_le (length v.scene.outside.file) 1 ≡ small → nat_le (length v.scene.outside.file) (256 * slots + 1) ≡ fits → is_to_read slots v ≡ not small && fits
reads-by slots v small fits looks s f = rw (looks, f) (ap (λ b. b && fits) (some small s))
  where
    some : (small : Bool) → nat_le (length v.scene.outside.file) 1 ≡ small → nat_lt 1 (length v.scene.outside.file) ≡ not small
    some true e = le-ltb 1 (length v.scene.outside.file) (leb-true (length v.scene.outside.file) 1 e)
    some false e = lt-ltb 1 (length v.scene.outside.file) (leb-false (length v.scene.outside.file) 1 e)

due-measured : (own : Setup) (v : View) (taken : List TakenStep) → is_looking v.scene.stage ≡ true → v.calls ≡ gate_calls (length v.scene.outside.file) → AreSteps (measured_phase own.slots (length v.scene.outside.file)) taken → AreDue own v (measured own v) (taking taken)
due-measured own v taken looks calls are = by_size (nat_le (length v.scene.outside.file) 1) (nat_le (length v.scene.outside.file) (256 * own.slots + 1)) refl refl
  where
    by_size : (small fits : Bool) → nat_le (length v.scene.outside.file) 1 ≡ small → nat_le (length v.scene.outside.file) (256 * own.slots + 1) ≡ fits → AreDue own v (measured own v) (taking taken)
    by_size true fits s f =
        subst (λ b. AreDue own v (if b then Measured else Looked) (taking taken)) (sym (reads-by own.slots v true fits looks s f))
        (due-gate own v taken (calls ∙ ap (λ (b : Bool). if b then WriteFirstGate ∷ Sync ∷ [] else []) s) (rw s at are))
    by_size false true s f =
        subst (λ b. AreDue own v (if b then Measured else Looked) (taking taken)) (sym (reads-by own.slots v false true looks s f))
        (due-read own v taken (reads-by own.slots v false true looks s f) (rw (s, f) at are))
    by_size false false s f =
        subst (λ b. AreDue own v (if b then Measured else Looked) (taking taken)) (sym (reads-by own.slots v false false looks s f))
        (due-done own v Looked taken (rw (s, f) at are))

due-length : (own : Setup) (v : View) (taken : List TakenStep) → is_looking v.scene.stage ≡ true → v.calls ≡ gate_calls (length v.scene.outside.file) → AreSteps (ToMeasure (measured_phase own.slots (length v.scene.outside.file))) taken → AreDue own v Unmeasured (taking taken)
due-length own v [] looks calls are = tt
due-length own v (one ∷ more) looks calls are =
    step-due own v v Unmeasured (measured own v) (ToMeasure (measured_phase own.slots (length v.scene.outside.file))) one more
    (subst (IsDueStep own v Unmeasured) (sym are.0) (subst (λ b. IsMeasuring b v LengthCall) (sym looks) refl)) (ap (look_after_step own v Unmeasured) are.0) refl (due-measured own v more looks calls) are.1

module _ (own : Setup) (scene : Scene) (refused : Bool) (stage : scene.stage ≡ Opening refused) where
  -- the steps of an opening are due where it is owed
  pub due-opening : (taken : List TakenStep) → AreSteps (opening_phase own.slots (length scene.outside.file)) taken → AreDue own (owing scene) Unmeasured (taking taken)
  due-opening [] are = tt
  due-opening (one ∷ more) are =
      step-due own (owing scene) (first_synced scene) Unmeasured Unmeasured (opening_phase own.slots (length scene.outside.file)) one more
      (subst (IsDueStep own (owing scene) Unmeasured) (sym are.0) (subst (λ b. IsMeasuring b (owing scene) SyncCall) (sym (ap is_looking stage)) (inl (Sync, refl, refl)))) (ap (look_after_step own (owing scene) Unmeasured) are.0) refl
      (due-length own (first_synced scene) more (looking scene refused stage) refl) are.1

-- ---- how far they look

-- a step that has succeeded, and those after it
step-looks : (own : Setup) (v after : View) (look next : Look) (phase : Phase) (one : TakenStep) (more : List TakenStep) → look_after_step own v look one.step ≡ next → view_from v (makes (phase_turns phase)) ≡ after
    → HasSucceeded phase one → look_from own after next (taking more) ≡ Looked → look_from own v look (taking (one ∷ more)) ≡ Looked
step-looks own v after look next phase one more look_is view_is went rest =
    let view_too : after_act v (ToTake one) ≡ after = ap (λ turns. view_from v (makes turns)) went ∙ view_is in
    ap (λ w. look_from own w (look_after own v look (ToTake one)) (taking more)) view_too ∙ ap (λ l. look_from own after l (taking more)) look_is ∙ rest

looks-done : (own : Setup) (v : View) (taken : List TakenStep) → HasReached Done Done taken → look_from own v Looked (taking taken) ≡ Looked
looks-done own v [] are = refl
looks-done own v (one ∷ more) are = absurd are.0

looks-sync : (own : Setup) (v : View) (taken : List TakenStep) → HasReached Done (ToSync Done) taken → look_from own v Looked (taking taken) ≡ Looked
looks-sync own v [] are = refl
looks-sync own v (one ∷ more) are =
    step-looks own v (view_from v (makes (Synced ∷ []))) Looked Looked (ToSync Done) one more (ap (look_after_step own v Looked) are.0) refl are.1 (looks-done own (view_from v (makes (Synced ∷ []))) more are.2)

looks-gate : (own : Setup) (v : View) (taken : List TakenStep) → HasReached Done (ToWrite 0 (0 ∷ []) (ToSync Done)) taken → look_from own v Looked (taking taken) ≡ Looked
looks-gate own v [] are = refl
looks-gate own v (one ∷ more) are =
    step-looks own v (view_from v (makes (first_gate_write ∷ []))) Looked Looked (ToWrite 0 (0 ∷ []) (ToSync Done)) one more (ap (look_after_step own v Looked) are.0) refl are.1 (looks-sync own (view_from v (makes (first_gate_write ∷ []))) more are.2)

looks-reading : (own : Setup) (v : View) (taken : List TakenStep) → HasReached ToReadOn ToReadOn taken → look_from own v Looked (taking taken) ≡ Looked
looks-reading own v [] are = refl
looks-reading own v (one ∷ more) are = step-looks own v v Looked Looked ToReadOn one more (ap (look_after_step own v Looked) are.0.step_is) refl are.1 (looks-reading own v more are.2)

looks-read : (own : Setup) (v : View) (taken : List TakenStep) → HasReached ToReadOn ToRead taken → look_from own v Measured (taking taken) ≡ Looked
looks-read own v [] are = absurd (not-reading are)
  where
    not-reading : ToRead ≡ ToReadOn → ⊥
    not-reading e = cc
looks-read own v (one ∷ more) are = step-looks own v v Measured Looked ToRead one more (ap (look_after_step own v Measured) are.0.step_is) refl are.1 (looks-reading own v more are.2)

never-read : (own : Setup) (v : View) (look : Look) (taken : List TakenStep) → HasReached ToReadOn Done taken → look_from own v look (taking taken) ≡ Looked
never-read own v look [] are = absurd (not-reading are)
  where
    not-reading : Done ≡ ToReadOn → ⊥
    not-reading e = cc
never-read own v look (one ∷ more) are = absurd are.0

looks-measured : (own : Setup) (v : View) (taken : List TakenStep) → is_looking v.scene.stage ≡ true → HasReached (opened_phase (length v.scene.outside.file)) (measured_phase own.slots (length v.scene.outside.file)) taken
    → look_from own v (measured own v) (taking taken) ≡ Looked
looks-measured own v taken looks are = by_size (nat_le (length v.scene.outside.file) 1) (nat_le (length v.scene.outside.file) (256 * own.slots + 1)) refl refl
  where
    by_size : (small fits : Bool) → nat_le (length v.scene.outside.file) 1 ≡ small → nat_le (length v.scene.outside.file) (256 * own.slots + 1) ≡ fits → look_from own v (measured own v) (taking taken) ≡ Looked
    by_size true fits s f = ap (λ (b : Bool). look_from own v (if b then Measured else Looked) (taking taken)) (reads-by own.slots v true fits looks s f) ∙ looks-gate own v taken (rw s at are)
    by_size false true s f = ap (λ (b : Bool). look_from own v (if b then Measured else Looked) (taking taken)) (reads-by own.slots v false true looks s f) ∙ looks-read own v taken (rw (s, f) at are)
    by_size false false s f = never-read own v (measured own v) taken (rw (s, f) at are)

looks-length : (own : Setup) (v : View) (taken : List TakenStep) → is_looking v.scene.stage ≡ true → HasReached (opened_phase (length v.scene.outside.file)) (ToMeasure (measured_phase own.slots (length v.scene.outside.file))) taken
    → look_from own v Unmeasured (taking taken) ≡ Looked
looks-length own v [] looks are = absurd (by_size (nat_le (length v.scene.outside.file) 1) are)
  where
    by_size : (small : Bool) → ToMeasure (measured_phase own.slots (length v.scene.outside.file)) ≡ (if small then Done else ToReadOn) → ⊥
    by_size true e = cc
    by_size false e = cc
looks-length own v (one ∷ more) looks are =
    step-looks own v v Unmeasured (measured own v) (ToMeasure (measured_phase own.slots (length v.scene.outside.file))) one more (ap (look_after_step own v Unmeasured) are.0) refl are.1 (looks-measured own v more looks are.2)

module _ (own : Setup) (scene : Scene) (refused : Bool) (stage : scene.stage ≡ Opening refused) where
  -- an opening that is made looks at all that it need
  pub looks-opening : (taken : List TakenStep) → HasReached (opened_phase (length scene.outside.file)) (opening_phase own.slots (length scene.outside.file)) taken → look_from own (owing scene) Unmeasured (taking taken) ≡ Looked
  looks-opening [] are = absurd (by_size (nat_le (length scene.outside.file) 1) are)
    where
      by_size : (small : Bool) → opening_phase own.slots (length scene.outside.file) ≡ (if small then Done else ToReadOn) → ⊥
      by_size true e = cc
      by_size false e = cc
  looks-opening (one ∷ more) are =
      step-looks own (owing scene) (first_synced scene) Unmeasured Unmeasured (opening_phase own.slots (length scene.outside.file)) one more (ap (look_after_step own (owing scene) Unmeasured) are.0) refl are.1
      (looks-length own (first_synced scene) more (looking scene refused stage) are.2)

-- ---- what they lead to

none_open : open_count_of [] ≡ 0
unfolding history
none_open = refl

-- whether the file is refused, by what it is
pub refused-true : (slots : ℕ) (file : List ℕ) (records : List Record) → HasRecords file records → IsFileRefused slots file → is_refused slots (length file) records ≡ true
refused-true slots file records has (inl long) = ap (λ b. b || nat_lt slots (length records + open_count_of records)) (lt-ltb (256 * slots + 1) (length file) long)
refused-true slots file records has (inr full) =
    let same : full.records ≡ records = one_file_records file full.records records full.has has in
    let few : nat_lt slots (length records + open_count_of records) ≡ true = lt-ltb slots (length records + open_count_of records) (subst (λ l. slots < length l + open_count_of l) same full.full) in
    ap (λ b. nat_lt (256 * slots + 1) (length file) || b) few ∙ or-true (nat_lt (256 * slots + 1) (length file))
  where
    or-true : (b : Bool) → b || true ≡ true
    or-true true = refl
    or-true false = refl

pub refused-false : (slots : ℕ) (file : List ℕ) (records : List Record) → (IsFileTooLong slots file → ⊥) → length records + open_count_of records ≤ slots → is_refused slots (length file) records ≡ false
refused-false slots file records fit free =
    ap (λ b. b || nat_lt slots (length records + open_count_of records)) (not-long (cases_lt (256 * slots + 1) (length file))) ∙ le-ltb slots (length records + open_count_of records) free
  where
    not-long : (256 * slots + 1 < length file) ⊎ (length file ≤ 256 * slots + 1) → nat_lt (256 * slots + 1) (length file) ≡ false
    not-long (inl lt) = absurd (fit lt)
    not-long (inr le) = le-ltb (256 * slots + 1) (length file) le

-- a file that is refused has more than one byte
pub refused-some : (slots : ℕ) (file : List ℕ) → IsFileRefused slots file → nat_le (length file) 1 ≡ false
refused-some slots file (inl long) = lt-leb (length file) 1 (omega (arith, long))
refused-some slots file (inr full) = by_size (cases_lt 1 (length file))
  where
    no-records : length file ≤ 1 → full.records ≡ []
    no-records le = by_records full.records (sym (one_slots file full.has.bodies [] full.has.slots_are (one_byte_slots file le)) ∙ full.has.records_are.bodies_are)
      where
        by_records : (records : List Record) → [] ≡ map record_body records → records ≡ []
        by_records [] e = refl
        by_records (first ∷ records) e = cc

    by_size : (1 < length file) ⊎ (length file ≤ 1) → nat_le (length file) 1 ≡ false
    by_size (inl lt) = lt-leb (length file) 1 lt
    by_size (inr le) = absurd (let lt : slots < length {A = Record} [] + open_count_of [] = subst (λ l. slots < length l + open_count_of l) (no-records le) full.full in omega (arith, lt, none_open))

-- the opening of a run with this setup is owed in this scene, on a file with the scene's records
pub record IsOpening (own : Setup) (scene : Scene) : Type 0 where
  pub setup_is : scene.setup ≡ Some own
  pub stage : scene.stage ≡ Opening (is_refused own.slots (length scene.outside.file) (records_of scene))
  pub tills : scene.outside.tills ≡ []
  pub links : scene.outside.links ≡ []
  pub polls : scene.polls ≡ 0
  pub core_is : scene.core ≡ new_core own
  pub has : HasRecords scene.outside.file (records_of scene)

module _ (own : Setup) (scene : Scene) (o : IsOpening own scene) where
  opened-view : (records : Records) → HoldsRefusedNot own.slots scene.outside.file records → HasOpened own records (view_from (owing scene) (makes (Synced ∷ first_gate (length scene.outside.file))))
  opened-view records h = by_size (nat_le (length scene.outside.file) 1) refl
    where
      kept : records_of scene ≡ records.ledger.records
      kept = one_file_records scene.outside.file (records_of scene) records.ledger.records o.has h.holds.has

      runs : scene.stage ≡ Opening false
      runs = o.stage ∙ ap Opening (refused-false own.slots scene.outside.file (records_of scene) h.fits (subst (λ l. length l + open_count_of l ≤ own.slots) (sym kept) h.free))

      by_size : (small : Bool) → nat_le (length scene.outside.file) 1 ≡ small → HasOpened own records (view_from (owing scene) (makes (Synced ∷ (if nat_le (length scene.outside.file) 1 then first_gate_write ∷ Synced ∷ [] else []))))
      by_size true e = rw e (record {
        opened = (_, refl, record { setup_is = o.setup_is; running = ap (λ s. is_running (stage_synced (stage_wrote (stage_synced s)))) runs; tills = o.tills; links = o.links; polls = o.polls; core_is = o.core_is; flight = refl });
        kept = append-nil (records_of scene) ∙ kept;
      })
      by_size false e = rw e (record {
        opened = (_, refl, record { setup_is = o.setup_is; running = ap (λ s. is_running (stage_synced s)) runs; tills = o.tills; links = o.links; polls = o.polls; core_is = o.core_is; flight = refl });
        kept = kept;
      })

  -- where memory was refused once the file was synced, or once it was opened
  synced-lacks : LacksMemory (first_synced scene)
  synced-lacks = record {
    clear = ap (λ s. is_broken (stage_synced s)) o.stage;
    calls = λ r. absurd (let h : false ≡ true = sym (ap (λ s. is_round (stage_synced s)) o.stage) ∙ r in cc);
  }

  opened-lacks : LacksMemory (view_from (owing scene) (makes (Synced ∷ first_gate (length scene.outside.file))))
  opened-lacks = by_size (nat_le (length scene.outside.file) 1) refl
    where
      by_size : (small : Bool) → nat_le (length scene.outside.file) 1 ≡ small → LacksMemory (view_from (owing scene) (makes (Synced ∷ (if nat_le (length scene.outside.file) 1 then first_gate_write ∷ Synced ∷ [] else []))))
      by_size true e = rw e (record { clear = ap (λ s. is_broken (stage_synced (stage_wrote (stage_synced s)))) o.stage; calls = λ r. refl })
      by_size false e = rw e (record { clear = ap (λ s. is_broken (stage_synced s)) o.stage; calls = λ r. refl })

  failed-view : (turns : List Turn) → FailedTurns scene.outside.file turns → (view_from (owing scene) (makes turns)).scene.stage ≡ Broken
  failed-view turns (inl e) = rw e refl
  failed-view turns (inr (inl e)) = rw e refl
  failed-view turns (inr (inr (le, e))) = rw e refl

  refused-view : IsFileRefused own.slots scene.outside.file → (first_synced scene).scene.stage ≡ Looking true
  refused-view refused = ap stage_synced (o.stage ∙ ap Opening (refused-true own.slots scene.outside.file (records_of scene) o.has refused))

  -- the turns of an opening are lawful where it is owed, and this holds after them
  pub record OpeningLeads (turns : List Turn) (Q : View → Type 0) : Type 0 where
    pub lawful : IsCourse (owing scene) (makes turns)
    pub quiet : IsQuiet turns
    pub owed : Q (view_from (owing scene) (makes turns))

  failed-leads : (turns : List Turn) → FailedTurns scene.outside.file turns → OpeningLeads turns (UnopenedBy Disk)
  failed-leads turns t = record { lawful = failed-course scene _ o.stage turns t; quiet = by_turns_quiet t; owed = failed-view turns t }
    where
      by_turns_quiet : FailedTurns scene.outside.file turns → IsQuiet turns
      by_turns_quiet (inl e) = rw e (refl, tt)
      by_turns_quiet (inr (inl e)) = rw e (refl, (refl, tt))
      by_turns_quiet (inr (inr (le, e))) = rw e (refl, (refl, (refl, tt)))

  synced-leads : (turns : List Turn) (Q : View → Type 0) → turns ≡ Synced ∷ [] → Q (first_synced scene) → OpeningLeads turns Q
  synced-leads turns Q e q = rw e (record { lawful = (refl, tt); quiet = (refl, tt); owed = q })

  opened-leads : (turns : List Turn) (Q : View → Type 0) → turns ≡ Synced ∷ first_gate (length scene.outside.file) → Q (view_from (owing scene) (makes (Synced ∷ first_gate (length scene.outside.file)))) → OpeningLeads turns Q
  opened-leads turns Q e q = rw e (record { lawful = opened-course scene _ o.stage; quiet = (refl, by_size_quiet (nat_le (length scene.outside.file) 1)); owed = q })
    where
      by_size_quiet : (small : Bool) → IsQuiet (if small then first_gate_write ∷ Synced ∷ [] else [])
      by_size_quiet true = (refl, (refl, tt))
      by_size_quiet false = tt

-- ---- the result of an opening, and that of the journal's

-- what a ledger of a journal that was opened may give
abbrev pub IsOfLedger : Result Records Unopened → Type 0
IsOfLedger (Ok records) = Unit {0}
IsOfLedger (Err Disk) = ⊥
IsOfLedger (Err (TooLong count)) = Unit {0}
IsOfLedger (Err (Cut slot)) = ⊥
IsOfLedger (Err (BadRecord slot)) = Unit {0}
IsOfLedger (Err Memory) = Unit {0}

-- the result is made of that of the journal
abbrev pub IsMadeOf : {T : Type 0} → Result T OpenFault → Result Records Unopened → Type 0
IsMadeOf (Ok opened) result = IsOfLedger result
IsMadeOf (Err fault) result = result ≡ Err (cause_of fault)

pub of-ledger : (journal : JournalValue) (bodies : List (List ℕ)) (result : Result Records Unopened) → LedgerGives journal bodies result → IsOfLedger result
of-ledger journal bodies (Ok records) gives = tt
of-ledger journal bodies (Err Disk) gives = gives
of-ledger journal bodies (Err (TooLong count)) gives = tt
of-ledger journal bodies (Err (Cut slot)) gives = gives
of-ledger journal bodies (Err (BadRecord slot)) gives = tt
of-ledger journal bodies (Err Memory) gives = tt

module _ (own : Setup) (scene : Scene) (o : IsOpening own scene) (turns : List Turn) where
  too-long-leads : (count : ℕ) → turns ≡ Synced ∷ [] → IsFileCause own.slots scene.outside.file (TooLong count) → OpeningLeads own scene o turns (UnopenedBy (TooLong count))
  too-long-leads count e by_file = synced-leads own scene o turns (UnopenedBy (TooLong count)) e (refused-view own scene o by_file.1, sym by_file.0)

  fault-leads : (fault : OpenFault) → FaultTurns scene.outside.file fault turns → IsFileCause own.slots scene.outside.file (cause_of fault) → OpeningLeads own scene o turns (UnopenedBy (cause_of fault))
  fault-leads JournalDisk t by_file = failed-leads own scene o turns t
  fault-leads (JournalTooLong count) t by_file = too-long-leads count t by_file
  fault-leads (JournalCut slot) t by_file = absurd (o.has.whole slot by_file.1)
  fault-leads JournalMemory t by_file = synced-leads own scene o turns (UnopenedBy Memory) t (synced-lacks own scene o)

  ledger-leads : (result : Result Records Unopened) → IsOfLedger result → turns ≡ Synced ∷ first_gate (length scene.outside.file) → IsByFile own.slots scene.outside.file result → OpeningLeads own scene o turns (OpenedBy own result)
  ledger-leads (Ok records) of t by_file = opened-leads own scene o turns (OpenedBy own (Ok records)) t (opened-view own scene o records by_file)
  ledger-leads (Err Disk) of t by_file = absurd of
  ledger-leads (Err (TooLong count)) of t by_file =
      too-long-leads count (t ∙ ap (λ (small : Bool). Synced ∷ (if small then first_gate_write ∷ Synced ∷ [] else [])) (refused-some own.slots scene.outside.file by_file.1)) by_file
  ledger-leads (Err (Cut slot)) of t by_file = absurd of
  ledger-leads (Err (BadRecord slot)) of t by_file = absurd (bad-not scene.outside.file (records_of scene) slot o.has by_file.1)
  ledger-leads (Err Memory) of t by_file = opened-leads own scene o turns (OpenedBy own (Err Memory)) t (opened-lacks own scene o)

  result-leads : {T : Type 0} (journal : Result T OpenFault) (result : Result Records Unopened) → IsMadeOf journal result → OpeningTurns scene.outside.file journal turns → IsByFile own.slots scene.outside.file result
      → OpeningLeads own scene o turns (OpenedBy own result)
  result-leads (Ok opened) result of t by_file = ledger-leads result of t by_file
  result-leads (Err fault) result of t by_file =
      subst (λ r. OpeningLeads own scene o turns (OpenedBy own r)) (sym of) (fault-leads fault t (subst (IsByFile own.slots scene.outside.file) of by_file))

-- the steps are due, and where the records are opened they look at all that they need
due-steps : {T : Type 0} (own : Setup) (scene : Scene) (o : IsOpening own scene) (before : List Turn) (old new : Observed) (journal : Result T OpenFault) (result : Result Records Unopened) → IsMadeOf journal result
    → (x : TakesOpening own.slots (length scene.outside.file) before old new journal) → OpensBy own result new.dark (owing scene) (taking x.taken)
due-steps own scene o before old new (Ok opened) (Ok records) of x = record {
  due = due-opening own scene _ o.stage x.taken x.are;
  ends = λ lit. looks-opening own scene _ o.stage x.taken (x.reaches lit);
}
due-steps own scene o before old new (Ok opened) (Err cause) of x = due-opening own scene _ o.stage x.taken x.are
due-steps own scene o before old new (Err fault) (Ok records) of x = absurd (let e : Ok records ≡ Err (cause_of fault) = of in cc)
due-steps own scene o before old new (Err fault) (Err cause) of x = due-opening own scene _ o.stage x.taken x.are

-- ---- what is added to the log

failed-ends : (before : List Turn) (file : List ℕ) (turns added : List Turn) (new : Observed) (d n : Bool) → new.dark ≡ n → FailedTurns file turns → Added d n turns added → new.log ≡ Some (before ++ added) → EndsInFailure new
failed-ends before file turns added new d true dark t a log = inl dark
failed-ends before file turns added new true false dark t a log = absurd a
failed-ends before file turns added new false false dark t a log = inr (by_turns t)
  where
    ends : (first : List Turn) → turns ≡ first ++ DiskFailed ∷ [] → (prefix : List Turn) × (new.log ≡ Some (prefix ++ DiskFailed ∷ []))
    ends first e = (before ++ first, log ∙ ap (λ more. Some (before ++ more)) (a ∙ e) ∙ ap Some (sym (append_assoc before first (DiskFailed ∷ []))))

    by_turns : FailedTurns file turns → (prefix : List Turn) × (new.log ≡ Some (prefix ++ DiskFailed ∷ []))
    by_turns (inl e) = ends [] e
    by_turns (inr (inl e)) = ends (Synced ∷ []) e
    by_turns (inr (inr (le, e))) = ends (Synced ∷ first_gate_write ∷ []) e

disk-fault : (fault : OpenFault) → cause_of fault ≡ Disk → fault ≡ JournalDisk
disk-fault JournalDisk e = refl
disk-fault (JournalTooLong count) e = absurd (cc)
disk-fault (JournalCut slot) e = absurd (cc)
disk-fault JournalMemory e = absurd (cc)

-- where the disk failed, the log ends so
pub opening-failed : (old new : Observed) (fault : OpenFault) (cause : Unopened) → cause ≡ cause_of fault → ◌≡◌ {A = Result Records Unopened} (Err cause) (Err Disk) → GrowsBy Added old new (λ before. FaultTurns (outside_of before).file fault) → IfObserved old (λ log. EndsInFailure new)
opening-failed old new fault cause is disk grows before e =
    let x = grows.observed before e in
    let cause_is : cause ≡ Disk = (cc) in
    failed-ends before (outside_of before).file x.0 x.1 new old.dark new.dark refl (subst (λ f. FaultTurns (outside_of before).file f x.0) (disk-fault fault (sym is ∙ cause_is)) x.2) x.3 x.4

pub ledger-not-failed : {A : Type 0} (journal : JournalValue) (bodies : List (List ℕ)) (result : Result Records Unopened) → LedgerGives journal bodies result → result ≡ Err Disk → A
ledger-not-failed journal bodies result gives e = absurd (subst (LedgerGives journal bodies) e gives)

-- ---- the triple

lit-not : {A : Type 0} (dark : Bool) → dark ≡ true → dark ≡ false → A
lit-not dark d e = absurd (let h : true ≡ false = sym d ∙ e in cc)

-- a dark site adds nothing
dark-extends : (own : Setup) (old new : Observed) (before : List Turn) (v : View) (result : Result Records Unopened) (Q : View → Type 0) → new.dark ≡ true → new.log ≡ Some before → Takes old.plan new.plan [] → ExtendsBy (OpensBy own result) old before v new Q
dark-extends own old new before v result Q dark log rests = record {
  moves = [];
  log_is = rw append-nil log;
  lawful = tt;
  quiet = tt;
  done = record { acts = []; moves_are = refl; due = by_result result; taken = rests };
  owed = lit-not new.dark dark;
}
  where
    by_result : (result : Result Records Unopened) → OpensBy own result new.dark v []
    by_result (Ok records) = record { due = tt; ends = lit-not new.dark dark }
    by_result (Err cause) = tt

-- the log goes on by the first of the turns
part-extends : {T : Type 0} (own : Setup) (scene : Scene) (o : IsOpening own scene) (old new : Observed) (before turns added : List Turn) (journal : Result T OpenFault) (result : Result Records Unopened) → IsMadeOf journal result
    → TakesOpening own.slots (length scene.outside.file) before old new journal → new.log ≡ Some (before ++ added) → IsCourse (owing scene) (makes added) → IsQuiet added
    → (new.dark ≡ false → OpenedBy own result (view_from (owing scene) (makes added))) → ExtendsBy (OpensBy own result) old before (owing scene) new (OpenedBy own result)
part-extends own scene o old new before turns added journal result of x log lawful quiet q =
    let e : Some (before ++ added) ≡ Some (before ++ log_of_parts (turns_of_steps x.taken)) = sym log ∙ x.log in
    let same : added ≡ log_of_parts (turns_of_steps x.taken) = append_cancel_left before added (log_of_parts (turns_of_steps x.taken)) (cc) in
    record {
      moves = makes added;
      log_is = rw turns_of-makes log;
      lawful = lawful;
      quiet = rw turns_of-makes quiet;
      done = record {
        acts = taking x.taken;
        moves_are = moves-taking x.taken ∙ ap makes (sym same);
        due = due-steps own scene o before old new journal result of x;
        taken = subst (Takes old.plan new.plan) (sym (taken-taking x.taken)) x.takes;
      };
      owed = q;
    }

opening-extends : {T : Type 0} (own : Setup) (scene : Scene) (o : IsOpening own scene) (old new : Observed) (before turns added : List Turn) (journal : Result T OpenFault) (result : Result Records Unopened) (n : Bool) → new.dark ≡ n → IsMadeOf journal result
    → TakesOpening own.slots (length scene.outside.file) before old new journal → Added false n turns added → new.log ≡ Some (before ++ added) → OpeningLeads own scene o turns (OpenedBy own result)
    → ExtendsBy (OpensBy own result) old before (owing scene) new (OpenedBy own result)
opening-extends own scene o old new before turns added journal result true dark of x a log leads =
    let e : makes turns ≡ makes added ++ makes a.0 = ap makes a.1 ∙ makes-append added a.0 in
    part-extends own scene o old new before turns added journal result of x log (course-prefix (owing scene) (makes added) (makes a.0) (rw e at leads.lawful))
    (quiet-prefix added a.0 (rw a.1 at leads.quiet)) (lit-not new.dark dark)
opening-extends own scene o old new before turns added journal result false lit of x a log leads =
    part-extends own scene o old new before turns added journal result of x log (rw a leads.lawful) (rw a leads.quiet) (λ d. rw a leads.owed)

-- a lawful log has left a file whose records are those of its view
pub file-has-records : EachLawfulHasKept → EachLogFolds → (before : List Turn) (v : View) → Stands before v → HasRecords v.scene.outside.file (records_of v.scene)
file-has-records has_kept folds before v stands =
    let kept = has_kept before v stands in
    subst (λ (out : Outside). HasRecords out.file (records_of v.scene)) (sym (stands-outside before v stands)) (record {
      whole = λ slot. kept.truncated (outside_of before).file slot (file_image before);
      bodies = map record_body (records_of v.scene);
      slots_are = kept.file.file;
      records_are = record { bodies_are = refl; folded = (folds before v stands).file };
    })

opening-of : (own : Setup) (scene : Scene) → IsNewRun own scene → HasRecords scene.outside.file (records_of scene) → IsOpening own scene
opening-of own scene new has = record { setup_is = new.setup_is; stage = new.stage; tills = new.tills; links = new.links; polls = new.polls; core_is = new.core_is; has = has }

module _ {T : Type 0} (has_kept : EachLawfulHasKept) (folds : EachLogFolds) (own : Setup) (old new : Observed) (journal : Result T OpenFault) (result : Result Records Unopened) (of : IsMadeOf journal result)
    (grows : GrowsBy Added old new (λ before. OpeningTurns (outside_of before).file journal))
    (steps : IfObserved old (λ before. TakesOpening own.slots (length (outside_of before).file) before old new journal))
    (by_file : IfObserved old (λ before. IsByFile own.slots (outside_of before).file result)) where
  lit-observed : (before turns added : List Turn) (v : View) (n : Bool) → old.log ≡ Some before → Stands before v → JustBegun own v → new.dark ≡ n → OpeningTurns (outside_of before).file journal turns → Added false n turns added → new.log ≡ Some (before ++ added)
      → ExtendsBy (OpensBy own result) old before v new (OpenedBy own result)
  lit-observed before turns added v n observed stands (scene, v_is, run) dark t a log =
      let out : outside_of before ≡ scene.outside = sym (stands-outside before v stands) ∙ ap (λ (w : View). w.scene.outside) v_is in
      let o = opening-of own scene run (subst (λ (w : View). HasRecords w.scene.outside.file (records_of w.scene)) v_is (file-has-records has_kept folds before v stands)) in
      subst (λ w. ExtendsBy (OpensBy own result) old before w new (OpenedBy own result)) (sym v_is)
      (opening-extends own scene o old new before turns added journal result n dark of (subst (λ (u : Outside). TakesOpening own.slots (length u.file) before old new journal) out (steps before observed)) a log
      (result-leads own scene o turns journal result of (subst (λ (u : Outside). OpeningTurns u.file journal turns) out t) (subst (λ (u : Outside). IsByFile own.slots u.file result) out (by_file before observed))))

  observed-extends : (before turns added : List Turn) (v : View) (d n : Bool) → old.dark ≡ d → new.dark ≡ n → old.log ≡ Some before → Stands before v → (old.dark ≡ false → JustBegun own v) → OpeningTurns (outside_of before).file journal turns → Added d n turns added
      → new.log ≡ Some (before ++ added) → ExtendsBy (OpensBy own result) old before v new (OpenedBy own result)
  observed-extends before turns added v true true was dark observed stands p t a log =
      let x = steps before observed in
      dark-extends own old new before v result (OpenedBy own result) dark (log ∙ ap (λ more. Some (before ++ more)) a ∙ ap Some (append-nil before)) (subst (Takes old.plan new.plan) (x.none was) x.takes)
  observed-extends before turns added v true false was dark observed stands p t a log = absurd a
  observed-extends before turns added v false n was dark observed stands p t a log = lit-observed before turns added v n observed stands (p was) dark t a log

  still-by : (before turns added : List Turn) (d n : Bool) → d ≡ true → Added d n turns added → new.log ≡ Some (before ++ added) → new.log ≡ Some before
  still-by before turns added true true was a log = log ∙ ap (λ more. Some (before ++ more)) a ∙ ap Some (append-nil before)
  still-by before turns added true false was a log = absurd a
  still-by before turns added false n was a log = absurd cc

  still : (log : Option (List Turn)) → old.log ≡ log → old.dark ≡ true → new.log ≡ old.log
  still None e was = grows.unobserved e ∙ sym e
  still (Some before) e was = let x = grows.observed before e in still-by before x.0 x.1 old.dark new.dark was x.3 x.4 ∙ sym e

  -- the opening of the records meets its triple
  pub opening-triple : (old.dark ≡ true → Takes old.plan new.plan []) → TripleBy (OpensBy own result) old new (JustBegun own) (OpenedBy own result)
  opening-triple rests = record {
    observed = λ before v e stands p. let x = grows.observed before e in observed-extends before x.0 x.1 v old.dark new.dark refl refl e stands p x.2 x.3 x.4;
    unobserved = grows.unobserved;
    stays = grows.stays;
    still = still old.log refl;
    rests = rests;
    origin = grows.origin;
  }

-- the same, with as many slots as the setup has
pub opens : {T : Type 0} → EachLawfulHasKept → EachLogFolds → (own : Setup) (slots : ℕ) → own.slots ≡ slots → (old new : Observed) (journal : Result T OpenFault) (result : Result Records Unopened) → IsMadeOf journal result → GrowsBy Added old new (λ before. OpeningTurns (outside_of before).file journal)
    → IfObserved old (λ before. TakesOpening slots (length (outside_of before).file) before old new journal) → RestsDark old new → IfObserved old (λ before. IsByFile slots (outside_of before).file result) → TripleBy (OpensBy own result) old new (JustBegun own) (OpenedBy own result)
opens has_kept folds own slots same old new journal result of grows steps rests by_file =
    opening-triple has_kept folds own old new journal result of grows (λ before e. subst (λ k. TakesOpening k (length (outside_of before).file) before old new journal) (sym same) (steps before e))
    (λ before e. subst (λ k. IsByFile k (outside_of before).file result) (sym same) (by_file before e)) rests
