-- Keeping a record: each step is the call owed at its view, and the turns lead to the record kept, or to a disk that has failed.
use Rattle.std.proofs.Common.{◌≡◌, ℕ, ◌*◌, List, [], ◌∷◌, ◌++◌, refl, sym, ◌∙◌, ap, subst, append-nil, inl, inr}
use Rattle.std.proofs.lemmas.List.{append_assoc, append_cancel_left}
use Rattle.std.specs.Prelude.{◌⊎◌, Bool, true, false, Option, Some, None, Result, Ok, Err}
use Rattle.gw_bytes.specs.Bytes.{IsPrefix}
use Rattle.gw_site.specs.Observed.{Observed, IfObserved, Added, Grows}
use Rattle.gw_site.specs.Sorts.{IsQuiet}
use Rattle.gw_site.specs.Steps.{Made, TakenStep, turns_of_steps, log_of_parts, Takes}
use Rattle.gw_site.specs.declared.turn.Turn.{Turn}
use Rattle.gw_site.specs.declared.turn.Turn.TheVariants.{Synced, DiskFailed}
use Rattle.jrn_record.specs.Grammar.{record_body}
use Rattle.jrn_record.specs.declared.records.Record.{Record}
use Rattle.jrn_log.specs.JournalSteps.{Phase, ToSync, ToWrite, Done, AreSteps, RestsDark, append_phase, TakesAppend}
use Rattle.jrn_log.specs.JournalTurns.{AppendTurns, FailedAppendTurns, body_write, gate_write}
use Rattle.jrn_log.proofs.SequenceLemmas.{added_whole}
use Rattle.gw_owes.specs.Calls.{OwedCall, WriteBody, WriteGate, Sync, keep_calls, site_call}
use Rattle.gw_owes.specs.Items.{RoundItem}
use Rattle.gw_rules.specs.Acts.{AreOwed, IsOwedStep}
use Rattle.gw_rules.specs.Lawful.{IsCourse, IsNext}
use Rattle.gw_rules.specs.Scene.{Scene}
use Rattle.gw_rules.specs.Stage.{Stage, Resting, Opening, Looking, AtPoll, Handling, Over, Broken, is_round, stage_synced, stage_wrote}
use Rattle.gw_rules.specs.Triple.{Extends, IsOwedBy, Triple}
use Rattle.gw_rules.specs.View.{View, after_turn, view_from}
use Rattle.gw_rules.proofs.ActLemmas.{acts_of, done-steps}
use Rattle.gw_rules.proofs.CourseLemmas.{course-prefix, makes, makes-append, quiet-prefix, turns_of-makes}
use Rattle.gw_rules.proofs.StageLemmas.{no-true}
use Rattle.gw_rules.proofs.TripleLemmas.{nothing-extends}
use Rattle.gw_dispatch.specs.Growth.{EndsInFailure}
use Rattle.gw_dispatch.specs.Keeping.{MayKeep, OwesKeeping, Kept}

-- ---- steps that are owed

-- the next step is the call that is owed, and where it has these turns so are the steps after it
owed-next : (v : View) (call : OwedCall) (phase after : Phase) (made : List Turn) → IsNext v call →
    ((one : TakenStep) (more : List TakenStep) → AreSteps phase (one ∷ more) → (one.step ≡ Made (site_call call)) × ((more ≡ []) ⊎ ((one.turns ≡ made) × AreSteps after more))) →
    ((more : List TakenStep) → AreSteps after more → AreOwed (view_from v (makes made)) (acts_of more)) → (taken : List TakenStep) → AreSteps phase taken → AreOwed v (acts_of taken)
owed-next v call phase after made next comes rest [] h = tt
owed-next v call phase after made next comes rest (one ∷ more) h = let c = comes one more h in (subst (IsOwedStep v) (sym c.0) (inl (call, next, refl)), owed-more c.1)
  where
    owed-more : (more ≡ []) ⊎ ((one.turns ≡ made) × AreSteps after more) → AreOwed (view_from v (makes one.turns)) (acts_of more)
    owed-more (inl none) = subst (λ taken. AreOwed (view_from v (makes one.turns)) (acts_of taken)) (sym none) tt
    owed-more (inr (has, are)) = subst (λ turns. AreOwed (view_from v (makes turns)) (acts_of more)) (sym has) (rest more are)

owed-none : (v : View) (taken : List TakenStep) → AreSteps Done taken → AreOwed v (acts_of taken)
owed-none v [] h = tt
owed-none v (one ∷ more) h = absurd h.0

-- ---- turns that were made

-- a site that wasn't dark has made a prefix of the turns
prefix-of : (dark : Bool) (turns added : List Turn) → Added false dark turns added → IsPrefix added turns
prefix-of true turns added h = h
prefix-of false turns added h = ([], sym h ∙ sym (append-nil added))

-- ---- stages

-- in a round, items are handled once the record is kept
kept-stage : (stage : Stage) → is_round stage ≡ true → stage_synced (stage_wrote (stage_synced (stage_wrote stage))) ≡ Handling
kept-stage Resting e = no-true e
kept-stage (Opening refused) e = no-true e
kept-stage (Looking refused) e = no-true e
kept-stage AtPoll e = refl
kept-stage Handling e = refl
kept-stage Over e = no-true e
kept-stage Broken e = no-true e

module _ (scene : Scene) (slot : ℕ) (the_record : Record) (calls : List OwedCall) (items : List RoundItem) where
  -- ---- the views between the calls

  abbrev at_body : View
  at_body = record { scene = scene; calls = keep_calls slot the_record ++ calls; items = items }

  abbrev at_body_sync : View
  at_body_sync = after_turn at_body (body_write slot (record_body the_record))

  abbrev at_gate : View
  at_gate = after_turn at_body_sync Synced

  abbrev at_gate_sync : View
  at_gate_sync = after_turn at_gate (gate_write slot)

  abbrev to_open : Phase
  to_open = ToWrite (256 * slot) (165 ∷ []) (ToSync Done)

  abbrev with_gate : Phase
  with_gate = ToSync to_open

  -- each step of an append is the call owed at its view
  owed-append-steps : (taken : List TakenStep) → AreSteps (append_phase slot (record_body the_record)) taken → AreOwed at_body (acts_of taken)
  owed-append-steps =
      owed-next at_body (WriteBody slot the_record) (append_phase slot (record_body the_record)) with_gate (body_write slot (record_body the_record) ∷ []) refl (λ one more h. h)
      (owed-next at_body_sync Sync with_gate to_open (Synced ∷ []) refl (λ one more h. h)
      (owed-next at_gate (WriteGate slot the_record) to_open (ToSync Done) (gate_write slot ∷ []) refl (λ one more h. h)
      (owed-next at_gate_sync Sync (ToSync Done) Done (Synced ∷ []) refl (λ one more h. h) (owed-none (after_turn at_gate_sync Synced)))))

  -- ---- the turns

  -- the turns are lawful, and lead to this
  record Leads (turns : List Turn) (Q : View → Type 0) : Type 0 where
    lawful : IsCourse at_body (makes turns)
    quiet : IsQuiet turns
    then : Q (view_from at_body (makes turns))

  leads : {T E : Type 0} (result : Result T E) (turns : List Turn) → MayKeep scene → AppendTurns slot (record_body the_record) result turns → Leads turns (Kept result scene slot the_record calls items)
  leads (Ok given) turns may e = rw e (record {
    lawful = ((WriteBody slot the_record, refl, refl), (refl, ((WriteGate slot the_record, refl, refl), (refl, tt))));
    quiet = (refl, (refl, (refl, (refl, tt))));
    then = rw (kept-stage scene.stage may.round, may.flight, append-nil) refl;
  })
  leads (Err failed) turns may (inl e) = rw e (record {
    lawful = ((WriteBody slot the_record, refl, refl), (inl refl, tt));
    quiet = (refl, (refl, tt));
    then = refl;
  })
  leads (Err failed) turns may (inr e) = rw e (record {
    lawful = ((WriteBody slot the_record, refl, refl), (refl, ((WriteGate slot the_record, refl, refl), (inl refl, tt))));
    quiet = (refl, (refl, (refl, (refl, tt))));
    then = refl;
  })

  -- ---- the triple

  module _ {T E : Type 0} (result : Result T E) (old new : Observed) where
    -- a dark site adds nothing
    still-log : (before : List Turn) → TakesAppend slot (record_body the_record) before old new result → old.dark ≡ true → new.log ≡ Some before
    still-log before x dark = x.log ∙ ap (λ taken. Some (before ++ log_of_parts (turns_of_steps taken))) (x.none dark) ∙ ap Some (append-nil before)

    -- where the site wasn't dark before, what was made of the append is a prefix of its turns
    extends-lit : (before turns added : List Turn) → MayKeep scene → AppendTurns slot (record_body the_record) result turns → Added false new.dark turns added → new.log ≡ Some (before ++ added) →
        TakesAppend slot (record_body the_record) before old new result → Extends old before at_body new (Kept result scene slot the_record calls items)
    extends-lit before turns added may call adds log x =
        let made = log_of_parts (turns_of_steps x.taken) in
        let l = leads result turns may call in
        let same : added ≡ made = append_cancel_left before added made (let h : Some (before ++ added) ≡ Some (before ++ made) = sym log ∙ x.log in cc) in
        let prefix : IsPrefix made turns = subst (λ t. IsPrefix t turns) same (prefix-of new.dark turns added adds) in
        record {
          moves = makes made;
          log_is = rw turns_of-makes x.log;
          lawful = course-prefix at_body (makes made) (makes prefix.0) (subst (IsCourse at_body) (ap makes prefix.1 ∙ makes-append made prefix.0) l.lawful);
          quiet = rw turns_of-makes (quiet-prefix made prefix.0 (subst IsQuiet prefix.1 l.quiet));
          done = done-steps (IsOwedBy new.dark) old.plan new.plan at_body x.taken (owed-append-steps x.taken x.are) x.takes;
          owed = λ lit. subst (λ t. Kept result scene slot the_record calls items (view_from at_body (makes t))) (sym (sym same ∙ added_whole false new.dark turns added adds lit)) l.then;
        }

    extends-by : (dark : Bool) → old.dark ≡ dark → (before : List Turn) (v : View) → old.log ≡ Some before → (old.dark ≡ false → OwesKeeping scene slot the_record calls items v) → Grows old new (AppendTurns slot (record_body the_record) result) →
        TakesAppend slot (record_body the_record) before old new result → Extends old before v new (Kept result scene slot the_record calls items)
    extends-by true dark before v e p grows x =
        nothing-extends old before v new (Kept result scene slot the_record calls items) tt (still-log before x dark) (subst (Takes old.plan new.plan) (x.none dark) x.takes) (λ lit. absurd (let h : true ≡ false = sym (grows.stays dark) ∙ lit in cc))
    extends-by false lit before v e p grows x =
        let q = p lit in
        let a = grows.observed before e in
        subst (λ w. Extends old before w new (Kept result scene slot the_record calls items)) (sym q.0) (extends-lit before a.0 a.1 q.1 a.2 (subst (λ dark. Added dark new.dark a.0 a.1) lit a.3) a.4 x)

    still-by : (log : Option (List Turn)) → old.log ≡ log → Grows old new (AppendTurns slot (record_body the_record) result) → IfObserved old (λ before. TakesAppend slot (record_body the_record) before old new result) → old.dark ≡ true → new.log ≡ old.log
    still-by None e grows steps dark = grows.unobserved e ∙ sym e
    still-by (Some before) e grows steps dark = still-log before (steps before e) dark ∙ sym e

    -- an append keeps the record
    pub append-triple : Grows old new (AppendTurns slot (record_body the_record) result) → IfObserved old (λ before. TakesAppend slot (record_body the_record) before old new result) → RestsDark old new →
        Triple old new (OwesKeeping scene slot the_record calls items) (Kept result scene slot the_record calls items)
    append-triple grows steps rests = record {
      observed = λ before v e stands p. extends-by old.dark refl before v e p grows (steps before e);
      unobserved = grows.unobserved;
      stays = grows.stays;
      still = still-by old.log refl grows steps;
      rests = rests;
      origin = grows.origin;
    }

-- ---- where the disk fails

failed-ends : (slot : ℕ) (body : List ℕ) (before turns added : List Turn) (new : Observed) (d n : Bool) → new.dark ≡ n → FailedAppendTurns slot body turns → Added d n turns added → new.log ≡ Some (before ++ added) → EndsInFailure new
failed-ends slot body before turns added new d true dark t a log = inl dark
failed-ends slot body before turns added new true false dark t a log = absurd a
failed-ends slot body before turns added new false false dark t a log = inr (by_turns t)
  where
    ends : (first : List Turn) → turns ≡ first ++ DiskFailed ∷ [] → (prefix : List Turn) × (new.log ≡ Some (prefix ++ DiskFailed ∷ []))
    ends first e = (before ++ first, log ∙ ap (λ more. Some (before ++ more)) (a ∙ e) ∙ ap Some (sym (append_assoc before first (DiskFailed ∷ []))))

    by_turns : FailedAppendTurns slot body turns → (prefix : List Turn) × (new.log ≡ Some (prefix ++ DiskFailed ∷ []))
    by_turns (inl e) = ends (body_write slot body ∷ []) e
    by_turns (inr e) = ends (body_write slot body ∷ Synced ∷ gate_write slot ∷ []) e

-- the log of an append in which the disk failed ends with the failure
pub append-ends : (slot : ℕ) (body : List ℕ) (old new : Observed) → Grows old new (FailedAppendTurns slot body) → IfObserved old (λ before. EndsInFailure new)
append-ends slot body old new grows before e = let x = grows.observed before e in failed-ends slot body before x.0 x.1 new old.dark new.dark refl x.2 x.3 x.4
