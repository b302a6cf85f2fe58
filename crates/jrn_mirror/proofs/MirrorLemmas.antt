-- The calls on a pair are those of the one site.
use Rattle.std.proofs.Common.{◌≡◌, ℕ, List, [], ◌∷◌, ◌++◌, refl, sym, ◌∙◌, ap, inl, inr, subst}
use Rattle.std.proofs.lemmas.Bool.{cases_Bool, both_ways}
use Rattle.std.specs.Prelude.{Bool, true, false, ◌||◌, Option, Some, None, Result, Ok, Err, IsErr, is_ok, is_some, IfOk, OnErr}
use Rattle.gw_bytes.specs.Bytes.{AreBytes}
use Rattle.gw_site.specs.Failures.{Rose}
use Rattle.gw_site.specs.Turns.{WroteTurns, SyncedTurns, DiskTurns}
use Rattle.gw_site.specs.Outside.{outside_of}
use Rattle.gw_site.specs.declared.site.Failed.{Failed}
use Rattle.gw_site.specs.Observed.{Added, Grows, IfObserved, IsStep, TakesCall}
use Rattle.gw_site.specs.Steps.{Plan, SiteCall, Made, TakenStep, Takes}
use Rattle.gw_site.specs.declared.turn.Turn.{Turn}
use Rattle.jrn_mirror.specs.declared.turn.Turn2.{Turn2}
use Rattle.jrn_mirror.specs.One.{Joint, joint_at_first, gained, one, one_from, joint_of, joint_from}
use Rattle.jrn_mirror.specs.Mirrored.{MayAllCome, IsMirrored}
use Rattle.jrn_mirror.specs.PairObserved.{PairObserved, IfLogged, AddsTurns, PairGrows}
use Rattle.jrn_mirror.specs.MirrorObserved.{one_log, mirror_observed, IsRunOf, IsPassedOn, MirrorSound}
use Rattle.jrn_mirror.specs.inner.Halves.{AreGone, StayGone, ok_if, there_write, there_sync, there_look, OneHas}
use Rattle.jrn_mirror.specs.PairOutside.{disk_of}
use Rattle.jrn_mirror.proofs.OneLemmas.{disks_hold_one}
use Rattle.jrn_mirror.proofs.OutsideLemmas.{joint_has_outside}
use Rattle.jrn_mirror.proofs.GrowLemmas.{one_from-append, one-append, joint_from-append}
use Rattle.jrn_mirror.proofs.RunLemmas.{Makes, one_write, one_sync, run_writes, run_syncs, run_looks, failed_unless}

-- the log of the one, where it is observed, is that of an observed log of two
pub logged-one : (log : Option (List Turn2)) (before : List Turn) → one_log log ≡ Some before → (two : List Turn2) × (log ≡ Some two) × (one two ≡ before)
logged-one None before e = absurd (let h : None ≡ Some before = e in cc)
logged-one (Some two) before e = (two, refl, (let h : Some (one two) ≡ Some before = e in cc))

-- what is added to the one
adds-one : (a b : Bool) (j : Joint) (turns added : List Turn2) (witness : List Turn) (Call : List Turn → Type 0) → AddsTurns a b turns added → (a ≡ false → Call (one_from j turns)) → Call witness →
    (ones : List Turn) × Call ones × Added a b ones (one_from j added)
adds-one true true j turns added witness Call x f w = (witness, w, rw x refl)
adds-one true false j turns added witness Call x f w = absurd x
adds-one false true j turns added witness Call x f w = (one_from j turns, f refl, (one_from (joint_from j added) x.0, rw x.1 (one_from-append j added x.0)))
adds-one false false j turns added witness Call x f w = (one_from j turns, f refl, rw x refl)

-- a call on the pair is one of the one site, where its turns are for the one those of a call
pub grows-made : (old new : PairObserved) (faults later : ℕ) (C : List Turn2 → Type 0) (Call : List Turn → Type 0) → PairGrows old new C → ((turns : List Turn2) → C turns → (ones : List Turn) × Call ones) →
    (old.dark ≡ false → IfLogged old (λ log. (turns : List Turn2) → C turns → Call (one_from (joint_of log) turns))) → Grows (mirror_observed old faults false) (mirror_observed new later false) Call
grows-made old new faults later C Call grows some makes = record {
  observed = λ before e. logged before (logged-one old.log before e);
  unobserved = λ e. unlogged (none-one old.log e);
  stays = grows.stays;
  origin = refl;
}
  where
    none-one : (log : Option (List Turn2)) → one_log log ≡ None → log ≡ None
    none-one None e = refl
    none-one (Some log) e = absurd (let h : Some (one log) ≡ None = e in cc)

    unlogged : old.log ≡ None → one_log new.log ≡ None
    unlogged e = rw (grows.unlogged e) refl

    logged : (before : List Turn) → (two : List Turn2) × (old.log ≡ Some two) × (one two ≡ before) →
        (turns : List Turn) × (added : List Turn) × Call turns × Added old.dark new.dark turns added × (one_log new.log ≡ Some (before ++ added))
    logged before t =
        let a = grows.logged t.0 t.1 in
        let w = some a.turns a.call in
        let s = adds-one old.dark new.dark (joint_of t.0) a.turns a.added w.0 Call a.adds (λ d. makes d t.0 t.1 a.turns a.call) w.1 in
        (s.0, one_from (joint_of t.0) a.added, s.1, s.2, rw a.log_is (ap (λ l. Some l) (one-append t.0 a.added ∙ ap (λ l. l ++ one_from (joint_of t.0) a.added) t.2)))

pub one-grows : (old new : PairObserved) (faults later : ℕ) (C : List Turn2 → Type 0) (Call : List Turn → Type 0) (witness : List Turn) → PairGrows old new C → Call witness →
    (old.dark ≡ false → IfLogged old (λ log. (turns : List Turn2) → C turns → Call (one_from (joint_of log) turns))) → Grows (mirror_observed old faults false) (mirror_observed new later false) Call
one-grows old new faults later C Call witness grows w makes = grows-made old new faults later C Call grows (λ turns c. (witness, w)) makes

-- ---- what holds of the pair after a call

pub may-append : (j : Joint) (xs ys : List Turn2) → MayAllCome j xs → MayAllCome (joint_from j xs) ys → MayAllCome j (xs ++ ys)
may-append j [] ys a b = b
may-append j (x ∷ xs) ys a b = (a.0, may-append (gained j x).joint xs ys a.1 b)

pub may-prefix : (j : Joint) (xs ys : List Turn2) → MayAllCome j (xs ++ ys) → MayAllCome j xs
may-prefix j [] ys a = tt
may-prefix j (x ∷ xs) ys a = (a.0, may-prefix (gained j x).joint xs ys a.1)

may-added : (a b : Bool) (j : Joint) (turns added : List Turn2) → AddsTurns a b turns added → (a ≡ false → MayAllCome j turns) → MayAllCome j added
may-added true true j turns added x f = rw x tt
may-added true false j turns added x f = absurd x
may-added false true j turns added x f = may-prefix j added x.0 (rw (sym x.1) (f refl))
may-added false false j turns added x f = rw x (f refl)

pub all-added : (a b : Bool) (turns added : List Turn2) → AddsTurns a b turns added → a ≡ false → b ≡ false → added ≡ turns
all-added true b turns added x e f = absurd (let h : true ≡ false = e in cc)
all-added false true turns added x e f = absurd (let h : true ≡ false = f in cc)
all-added false false turns added x e f = x

pub was-logged : (log : Option (List Turn2)) → (log ≡ None → ⊥) → (two : List Turn2) × (log ≡ Some two)
was-logged None f = absurd (f refl)
was-logged (Some two) f = (two, refl)

-- what a call leaves, where it makes something of the one
pub record Leaves (old new : PairObserved) (first second : Bool) : Type 0 where
  pub mirrored : IfLogged new IsMirrored
  pub in_run : new.dark ≡ false → IfLogged new (λ log. IsRunOf first second (joint_of log))

pub leaves-made : (old new : PairObserved) (C : List Turn2 → Type 0) (first second : Bool) → PairGrows old new C → IfLogged old IsMirrored →
    (old.dark ≡ false → IfLogged old (λ log. (turns : List Turn2) → C turns → MayAllCome (joint_of log) turns × IsRunOf first second (joint_from (joint_of log) turns))) → Leaves old new first second
leaves-made old new C first second grows mirrored makes = record { mirrored = λ log e. (after log e).0; in_run = λ d log e. (after log e).1 d }
  where
    was : (log : List Turn2) → new.log ≡ Some log → (two : List Turn2) × (old.log ≡ Some two)
    was log e = was-logged old.log (λ n. let h = grows.unlogged n in let k : None ≡ Some log = sym h ∙ e in absurd (let m : None ≡ Some log = k in cc))

    lit : new.dark ≡ false → old.dark ≡ false
    lit d = elim (cases_Bool old.dark) [ inl off ↦ absurd (both_ways new.dark d (grows.stays off)) | inr on ↦ on ]

    after : (log : List Turn2) → new.log ≡ Some log → IsMirrored log × (new.dark ≡ false → IsRunOf first second (joint_of log))
    after log e =
        let two = (was log e).0 in
        let t = (was log e).1 in
        let a = grows.logged two t in
        let same : two ++ a.added ≡ log = (let h : Some (two ++ a.added) ≡ Some log = sym a.log_is ∙ e in cc) in
        let may = may-added old.dark new.dark (joint_of two) a.turns a.added a.adds (λ d. (makes d two t a.turns a.call).0) in (
          rw (sym same) (may-append joint_at_first two a.added (mirrored two t) may),
          λ d. let whole = all-added old.dark new.dark a.turns a.added a.adds (lit d) d in
              rw (sym same, joint_from-append joint_at_first two a.added, whole) ((makes (lit d) two t a.turns a.call).1),
        )

pub call-leaves : (old new : PairObserved) (C : List Turn2 → Type 0) (ones : List Turn) (first second : Bool) → PairGrows old new C → IfLogged old IsMirrored →
    (old.dark ≡ false → IfLogged old (λ log. (turns : List Turn2) → C turns → Makes (joint_of log) turns ones first second)) → Leaves old new first second
call-leaves old new C ones first second grows mirrored makes = leaves-made old new C first second grows mirrored (λ d log e turns c. let m = makes d log e turns c in (m.may, m.left))

-- ---- the calls of a run on the disks that are there

wrote-outcome : (offset : ℕ) (bytes : List ℕ) (there : Bool) (result : Result (Unit {0}) Failed) → result ≡ ok_if there → WroteTurns offset bytes result (one_write offset bytes there)
wrote-outcome offset bytes true result e = rw e refl
wrote-outcome offset bytes false result e = rw e refl

synced-outcome : (there : Bool) (result : Result (Unit {0}) Failed) → result ≡ ok_if there → SyncedTurns result (one_sync there)
synced-outcome true result e = rw e refl
synced-outcome false result e = rw e refl

-- such a call, which makes these turns of the one
call-turns : (old new : PairObserved) (faults later : ℕ) (first second first_now second_now opened broken : Bool) (twos : List Turn2) (ones : List Turn) (Call : List Turn → Type 0) →
    MirrorSound old first second opened broken → opened ≡ true → PairGrows old new (λ turns. turns ≡ twos) → Call ones →
    ((j : Joint) → IsRunOf first second j → Makes j twos ones first_now second_now) → Grows (mirror_observed old faults broken) (mirror_observed new later broken) Call
call-turns old new faults later first second first_now second_now opened broken twos ones Call sound o grows call makes =
    rw (sound.whole o) (one-grows old new faults later (λ turns. turns ≡ twos) Call ones grows call
    (λ d log e turns t. rw (t, (makes (joint_of log) (sound.in_run d o log e)).ones_are) call))

call-sound : (old new : PairObserved) (first second first_now second_now opened broken : Bool) (twos : List Turn2) (ones : List Turn) →
    MirrorSound old first second opened broken → opened ≡ true → PairGrows old new (λ turns. turns ≡ twos) → AreGone new first_now second_now →
    ((j : Joint) → IsRunOf first second j → Makes j twos ones first_now second_now) → MirrorSound new first_now second_now opened broken
call-sound old new first second first_now second_now opened broken twos ones sound o grows gone makes =
    let l = call-leaves old new (λ turns. turns ≡ twos) ones first_now second_now grows sound.mirrored (λ d log e turns t. rw t (makes (joint_of log) (sound.in_run d o log e))) in
    record {
      mirrored = l.mirrored;
      may_open = λ d n b. absurd (both_ways opened n o);
      in_run = λ d p. l.in_run d;
      whole = sound.whole;
      first_gone = gone.0;
      second_gone = gone.1;
    }

pub write-turns : (old new : PairObserved) (faults later : ℕ) (first second first_now second_now opened broken : Bool) (offset : ℕ) (bytes : List ℕ) (result : Result (Unit {0}) Failed) → AreBytes bytes →
    MirrorSound old first second opened broken → opened ≡ true → StayGone first second first_now second_now → PairGrows old new (λ turns. turns ≡ there_write first second offset bytes first_now second_now) → result ≡ ok_if (first_now || second_now) →
    Grows (mirror_observed old faults broken) (mirror_observed new later broken) (WroteTurns offset bytes result)
write-turns old new faults later first second first_now second_now opened broken offset bytes result k sound o stay grows e =
    call-turns old new faults later first second first_now second_now opened broken (there_write first second offset bytes first_now second_now) (one_write offset bytes (first_now || second_now)) (WroteTurns offset bytes result) sound o grows (wrote-outcome offset bytes (first_now || second_now) result e)
    (λ j r. run_writes j offset bytes k first second first_now second_now r stay.0 stay.1)

pub write-sound : (old new : PairObserved) (first second first_now second_now opened broken : Bool) (offset : ℕ) (bytes : List ℕ) → AreBytes bytes →
    MirrorSound old first second opened broken → opened ≡ true → StayGone first second first_now second_now → PairGrows old new (λ turns. turns ≡ there_write first second offset bytes first_now second_now) → AreGone new first_now second_now →
    MirrorSound new first_now second_now opened broken
write-sound old new first second first_now second_now opened broken offset bytes k sound o stay grows gone =
    call-sound old new first second first_now second_now opened broken (there_write first second offset bytes first_now second_now) (one_write offset bytes (first_now || second_now)) sound o grows gone
    (λ j r. run_writes j offset bytes k first second first_now second_now r stay.0 stay.1)

pub sync-turns : (old new : PairObserved) (faults later : ℕ) (first second first_now second_now opened broken : Bool) (result : Result (Unit {0}) Failed) →
    MirrorSound old first second opened broken → opened ≡ true → StayGone first second first_now second_now → PairGrows old new (λ turns. turns ≡ there_sync first second first_now second_now) → result ≡ ok_if (first_now || second_now) →
    Grows (mirror_observed old faults broken) (mirror_observed new later broken) (SyncedTurns result)
sync-turns old new faults later first second first_now second_now opened broken result sound o stay grows e =
    call-turns old new faults later first second first_now second_now opened broken (there_sync first second first_now second_now) (one_sync (first_now || second_now)) (SyncedTurns result) sound o grows (synced-outcome (first_now || second_now) result e)
    (λ j r. run_syncs j first second first_now second_now r stay.0 stay.1)

pub sync-sound : (old new : PairObserved) (first second first_now second_now opened broken : Bool) →
    MirrorSound old first second opened broken → opened ≡ true → StayGone first second first_now second_now → PairGrows old new (λ turns. turns ≡ there_sync first second first_now second_now) → AreGone new first_now second_now →
    MirrorSound new first_now second_now opened broken
sync-sound old new first second first_now second_now opened broken sound o stay grows gone =
    call-sound old new first second first_now second_now opened broken (there_sync first second first_now second_now) (one_sync (first_now || second_now)) sound o grows gone
    (λ j r. run_syncs j first second first_now second_now r stay.0 stay.1)

-- ---- a call without an opening

none-after : (xs : List Turn) → xs ++ [] ≡ xs
none-after [] = refl
none-after (x ∷ xs) = ap (λ ys. x ∷ ys) (none-after xs)

nothing-added : (dark : Bool) (ones : List Turn) → Added dark true ones []
nothing-added true ones = refl
nothing-added false ones = (ones, refl)

pub refused-turns : (observed : PairObserved) (faults later : ℕ) (broken : Bool) (Call : List Turn → Type 0) (witness : List Turn) → Call witness → Grows (mirror_observed observed faults broken) (mirror_observed observed later true) Call
refused-turns observed faults later broken Call witness w = record {
  observed = λ before e. (witness, [], w, nothing-added (broken || observed.dark) witness, e ∙ ap (λ l. Some l) (sym (none-after before)));
  unobserved = λ e. e;
  stays = λ e. refl;
  origin = refl;
}

-- a call fails so
pub failed-write : (offset : ℕ) (bytes : List ℕ) (result : Result (Unit {0}) Failed) → IsErr result → WroteTurns offset bytes result (one_write offset bytes false)
failed-write offset bytes (Ok done) e = absurd (let h : false ≡ true = e in cc)
failed-write offset bytes (Err failed) e = refl

pub failed-sync : (result : Result (Unit {0}) Failed) → IsErr result → SyncedTurns result (one_sync false)
failed-sync (Ok done) e = absurd (let h : false ≡ true = e in cc)
failed-sync (Err failed) e = refl

-- ---- looks at the file

looked-outcome : {T : Type 0} (there : Bool) (result : Result T Failed) → is_ok result ≡ there → DiskTurns result (failed_unless there)
looked-outcome true (Ok given) e = refl
looked-outcome true (Err failed) e = absurd (let h : false ≡ true = e in cc)
looked-outcome false (Ok given) e = absurd (let h : true ≡ false = e in cc)
looked-outcome false (Err failed) e = refl

pub look-turns : {T : Type 0} (old new : PairObserved) (faults later : ℕ) (first second first_now second_now opened broken : Bool) (result : Result T Failed) →
    MirrorSound old first second opened broken → opened ≡ true → StayGone first second first_now second_now → PairGrows old new (λ turns. turns ≡ there_look first second first_now second_now) → is_ok result ≡ (first_now || second_now) →
    Grows (mirror_observed old faults broken) (mirror_observed new later broken) (DiskTurns result)
look-turns old new faults later first second first_now second_now opened broken result sound o stay grows e =
    call-turns old new faults later first second first_now second_now opened broken (there_look first second first_now second_now) (failed_unless (first_now || second_now)) (DiskTurns result) sound o grows (looked-outcome (first_now || second_now) result e)
    (λ j r. run_looks j first second first_now second_now r stay.0 stay.1)

pub look-sound : (old new : PairObserved) (first second first_now second_now opened broken : Bool) →
    MirrorSound old first second opened broken → opened ≡ true → StayGone first second first_now second_now → PairGrows old new (λ turns. turns ≡ there_look first second first_now second_now) → AreGone new first_now second_now →
    MirrorSound new first_now second_now opened broken
look-sound old new first second first_now second_now opened broken sound o stay grows gone =
    call-sound old new first second first_now second_now opened broken (there_look first second first_now second_now) (failed_unless (first_now || second_now)) sound o grows gone
    (λ j r. run_looks j first second first_now second_now r stay.0 stay.1)

pub failed-look : {T : Type 0} (result : Result T Failed) → IsErr result → DiskTurns result (failed_unless false)
failed-look (Ok done) e = absurd (let h : false ≡ true = e in cc)
failed-look (Err failed) e = refl

-- what a disk that is there has is the file of the one log
pub one-has : (old : PairObserved) (faults : ℕ) (first second opened broken : Bool) (P : List ℕ → Type 0) → MirrorSound old first second opened broken → opened ≡ true → old.dark ≡ false → IfLogged old (λ log. OneHas log P) →
    IfObserved (mirror_observed old faults broken) (λ log. P (outside_of log).file)
one-has old faults first second opened broken P sound o d has = λ before e. logged before (logged-one old.log before e)
  where
    logged : (before : List Turn) → (two : List Turn2) × (old.log ≡ Some two) × (one two ≡ before) → P (outside_of before).file
    logged before t =
        let h = has t.0 t.1 in
        let j = joint_has_outside t.0 in
        let gone : (disk_of (joint_of t.0).outside h.0).lost ≡ false = rw j h.1.0 in
        let p : P (disk_of (joint_of t.0).outside h.0).outside.file = rw j h.1.1 in
        let same = disks_hold_one t.0 (sound.mirrored t.0 t.1) (sound.in_run d o t.0 t.1).run h.0 gone in
        rw (sym t.2) (subst P same p)

-- the pair wasn't dark where a look at it gave something
pub looked-lit : (dark : Bool) (result : Option ℕ) (count : ℕ) → result ≡ Some count → (dark ≡ true → result ≡ None) → dark ≡ false
looked-lit true result count e f = absurd (let h : None ≡ Some count = sym (f refl) ∙ e in cc)
looked-lit false result count e f = refl

pub looked-ok : (result : Option ℕ) (count : ℕ) (there : Bool) → result ≡ Some count → is_some result ≡ there → true ≡ there
looked-ok result count there e s = (let h : is_some result ≡ true = rw e refl in sym h ∙ s)

pub looked-err : (result : Option ℕ) (there : Bool) → result ≡ None → is_some result ≡ there → false ≡ there
looked-err result there e s = (let h : is_some result ≡ false = rw e refl in sym h ∙ s)

pub ok_there : (there : Bool) (result : Result (Unit {0}) Failed) → result ≡ ok_if there → is_ok result ≡ there
ok_there true result e = rw e refl
ok_there false result e = rw e refl

-- what was read is of the one log
pub read-has : (old : PairObserved) (faults : ℕ) (first second opened broken there : Bool) (P : List ℕ → Type 0) (result : Result (Unit {0}) Failed) → MirrorSound old first second opened broken → opened ≡ true → (old.dark ≡ true → there ≡ false) → IfLogged old (λ log. there ≡ true → OneHas log P) →
    result ≡ ok_if there → IfObserved (mirror_observed old faults broken) (λ log. IfOk result (λ done. P (outside_of log).file))
read-has old faults first second opened broken true P result sound o dark has e = λ before b. rw e (one-has old faults first second opened broken P sound o lit (λ log t. has log t refl) before b)
  where
    lit : old.dark ≡ false
    lit = elim (cases_Bool old.dark) [ inl off ↦ absurd (let h : true ≡ false = dark off in cc) | inr on ↦ on ]
read-has old faults first second opened broken false P result sound o dark has e = λ before b. rw e tt

-- ---- the steps: a mirror knows no turns of further steps

takes-none : (before : Option Plan) (taken : List TakenStep) → Takes before None taken
takes-none before taken = λ later e. absurd (let h : None ≡ Some later = e in cc)

step-by : (dark : Bool) (old new : PairObserved) (faults later : ℕ) (broken broken_now : Bool) (call : SiteCall) → TakesCall dark (mirror_observed old faults broken) (mirror_observed new later broken_now) call
step-by true old new faults later broken broken_now call = takes-none None []
step-by false old new faults later broken broken_now call = λ before added e f. takes-none None (record { step = Made call; turns = added } ∷ [])

pub mirror-step : (old new : PairObserved) (faults later : ℕ) (broken broken_now : Bool) (call : SiteCall) → IsStep (mirror_observed old faults broken) (mirror_observed new later broken_now) call
mirror-step old new faults later broken broken_now call = step-by (broken || old.dark) old new faults later broken broken_now call

-- ---- a call on the lines that has failed

pub passed-on : (old new : PairObserved) (opened : Bool) (made result : Result (Unit {0}) Failed) → result ≡ made → OnErr made (Rose old.faults new.faults) → OnErr result (IsPassedOn old new opened)
passed-on old new opened (Ok done) result e rose = rw e tt
passed-on old new opened (Err failed) result e rose = rw e (λ o. rose)

pub passed-unopened : (old new : PairObserved) (opened : Bool) (result : Result (Unit {0}) Failed) → opened ≡ false → OnErr result (IsPassedOn old new opened)
passed-unopened old new opened (Ok done) e = tt
passed-unopened old new opened (Err failed) e = λ o. absurd (both_ways opened e o)
