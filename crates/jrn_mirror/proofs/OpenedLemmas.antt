-- An opening that has ended is one of the one site.
use Rattle.std.proofs.Common.{◌≡◌, ℕ, List, [], ◌∷◌, ◌++◌, refl, sym, ◌∙◌, ap, subst, inl, inr}
use Rattle.std.proofs.lemmas.Bool.{cases_Bool, or_parts}
use Rattle.std.specs.Prelude.{Bool, true, false, ◌||◌, Option, Some, None, Result}
use Rattle.gw_base.specs.declared.setup.Setup.{Setup}
use Rattle.gw_site.specs.Observed.{AddedWhole, GrowsWhole}
use Rattle.gw_site.specs.Outside.{Outside, outside_after, outside_from, outside_of, nothing_yet}
use Rattle.gw_site.specs.Turns.{OpenTurns}
use Rattle.gw_site.specs.declared.site.Failed.{Failed}
use Rattle.gw_site.specs.declared.turn.Turn.{Turn}
use Rattle.gw_site.specs.declared.turn.Turn.TheVariants.{Start, OpenFailed}
use Rattle.jrn_mirror.specs.declared.turn.Turn2.{Turn2}
use Rattle.jrn_mirror.specs.declared.turn.Turn2.TheVariants.{Line}
use Rattle.jrn_mirror.specs.PairOutside.{PairOutside}
use Rattle.jrn_mirror.specs.One.{MirrorStage, AtFirst, Between, Opening, Running, is_run_stage, Joint, one, one_from, joint_from, joint_of, joint_at_first, opened_turns, file_there}
use Rattle.jrn_mirror.specs.Mirrored.{MayOpen, MayAllCome, IsMirrored, AreImages}
use Rattle.jrn_mirror.specs.PairObserved.{PairObserved, IfLogged, AddsTurns, PairGrows}
use Rattle.jrn_mirror.specs.MirrorObserved.{one_log, mirror_observed, IsRunOf, MayOpenAs, MirrorSound}
use Rattle.jrn_mirror.specs.inner.Halves.{ok_if}
use Rattle.jrn_mirror.specs.inner.Opening.{stands_first, OpeningEnds, HasEndedSo, end_turns, HasComeTo, Opened, CanOpen}
use Rattle.jrn_mirror.proofs.GrowLemmas.{one-append, joint_from-append}
use Rattle.jrn_mirror.proofs.HoldsLemmas.{no_true, no_false}
use Rattle.jrn_mirror.proofs.MirrorLemmas.{logged-one, may-append, was-logged}
use Rattle.jrn_mirror.proofs.OneLemmas.{one_has_images}
use Rattle.jrn_mirror.proofs.ReachLemmas.{Steps, reach-first}

-- ---- images of the turns that were added

images-rest : (o : Outside) (xs ys : List Turn) → AreImages o (xs ++ ys) → AreImages (outside_from o xs) ys
images-rest o [] ys a = a
images-rest o (x ∷ xs) ys a = images-rest (outside_after o x) xs ys a.1

-- what was added leaves images of what comes before it
added-images : (log added : List Turn2) → IsMirrored log → MayAllCome (joint_of log) added → AreImages (outside_of (one log)) (one_from (joint_of log) added)
added-images log added mirrored may =
    let whole : AreImages nothing_yet (one (log ++ added)) = one_has_images (log ++ added) (may-append joint_at_first log added mirrored may) in
    let split : AreImages nothing_yet (one log ++ one_from (joint_of log) added) = rw (one-append log added) at whole in
    images-rest nothing_yet (one log) (one_from (joint_of log) added) split

-- ---- the turns

opened_so : (setup : Setup) (is_first : Bool) (o : PairOutside) (before : List Turn) (result : Result (Unit {0}) Failed) → result ≡ ok_if true → AreImages (outside_of before) (opened_turns setup is_first o) → OpenTurns setup result before (opened_turns setup is_first o)
opened_so setup true o before result e images = rw e (inl refl)
opened_so setup false o before result e images = rw e (inr (file_there o, images.0.0, images.0.1, refl))

-- the end of an opening has the turns of an opening
ends_so : (there : Bool) (setup : Setup) (is_first : Bool) (o : PairOutside) (before : List Turn) (result : Result (Unit {0}) Failed) → result ≡ ok_if there → AreImages (outside_of before) (end_turns there setup is_first o) → OpenTurns setup result before (end_turns there setup is_first o)
ends_so true setup is_first o before result e images = opened_so setup is_first o before result e images
ends_so false setup is_first o before result e images = rw e refl

-- some turns of an opening
some_turns : (there : Bool) (setup : Setup) (before : List Turn) (result : Result (Unit {0}) Failed) → result ≡ ok_if there → (turns : List Turn) × OpenTurns setup result before turns
some_turns true setup before result e = (Start setup ∷ [], rw e (inl refl))
some_turns false setup before result e = (OpenFailed ∷ [], rw e refl)

ends_are : (there : Bool) (setup : Setup) (is_first first second : Bool) (ones : List Turn) (j : Joint) → OpeningEnds there setup is_first first second ones j → ones ≡ end_turns there setup is_first j.outside
ends_are true setup is_first first second ones j e = e.0
ends_are false setup is_first first second ones j e = e.0

-- what an opening adds, by whether the pair is dark after it
added-by : (dark there : Bool) (setup : Setup) (is_first : Bool) (ones before : List Turn) (j : Joint) (result : Result (Unit {0}) Failed) → result ≡ ok_if there → AreImages (outside_of before) ones →
    (dark ≡ false → ones ≡ end_turns there setup is_first j.outside) → (dark ≡ true → HasEndedSo there setup is_first ones j) → (turns : List Turn) × OpenTurns setup result before turns × AddedWhole false dark turns ones
added-by false there setup is_first ones before j result e images lit off =
    let same = lit refl in
    (ones, subst (λ (xs : List Turn). OpenTurns setup result before xs) (sym same) (ends_so there setup is_first j.outside before result e (rw same at images)), refl)
added-by true there setup is_first ones before j result e images lit off = elim (off refl) [
  | inl none ↦ (let t = some_turns there setup before result e in (t.0, t.1, inl none))
  | inr same ↦ (ones, subst (λ (xs : List Turn). OpenTurns setup result before xs) (sym same) (ends_so there setup is_first j.outside before result e (rw same at images)), inr refl)
]

none-one : (log : Option (List Turn2)) → one_log log ≡ None → log ≡ None
none-one None e = refl
none-one (Some log) e = absurd (let h : Some (one log) ≡ None = e in cc)

-- an opening that has ended
opened-turns : (old new : PairObserved) (faults later : ℕ) (setup : Setup) (first second : Bool) (result : Result (Unit {0}) Failed) → old.dark ≡ false → IfLogged old IsMirrored → Opened old new setup first second → result ≡ ok_if (first || second) →
    GrowsWhole (mirror_observed old faults false) (mirror_observed new later false) (OpenTurns setup result)
opened-turns old new faults later setup first second result lit mirrored opened e = record {
  observed = λ before f. logged before (logged-one old.log before f);
  unobserved = λ f. rw (opened.unlogged (none-one old.log f)) refl;
  stays = λ f. no_true (sym lit ∙ f);
  origin = refl;
}
  where
    logged : (before : List Turn) → (two : List Turn2) × (old.log ≡ Some two) × (one two ≡ before) →
        (turns : List Turn) × (added : List Turn) × OpenTurns setup result before turns × AddedWhole old.dark new.dark turns added × (one_log new.log ≡ Some (before ++ added))
    logged before t =
        let r = opened.logged t.0 t.1 in
        let ones = one_from (joint_of t.0) r.added in
        let images : AreImages (outside_of before) ones = rw t.2 at (added-images t.0 r.added (mirrored t.0 t.1) r.may) in
        let a = added-by new.dark (first || second) setup (stands_first (joint_of t.0).stage) ones before (joint_from (joint_of t.0) r.added) result e images (λ d. ends_are (first || second) setup (stands_first (joint_of t.0).stage) first second ones (joint_from (joint_of t.0) r.added) (r.lit d)) r.dark in
        (a.0, ones, a.1, rw lit a.2, rw r.log_is (ap (λ l. Some l) (one-append t.0 r.added ∙ ap (λ l. l ++ ones) t.2)))

-- the same, by whether the mirror was used without an opening
pub opened-by : (old new : PairObserved) (faults later : ℕ) (broken : Bool) (setup : Setup) (first second : Bool) (result : Result (Unit {0}) Failed) → broken ≡ false → (old.dark ≡ true → false ≡ true) → IfLogged old IsMirrored → Opened old new setup first second → result ≡ ok_if (first || second) →
    GrowsWhole (mirror_observed old faults broken) (mirror_observed new later broken) (OpenTurns setup result)
opened-by old new faults later broken setup first second result b never mirrored opened e = rw b (opened-turns old new faults later setup first second result (lit_if old.dark never) mirrored opened e)
  where
    lit_if : (dark : Bool) → (dark ≡ true → false ≡ true) → dark ≡ false
    lit_if true f = no_true (f refl)
    lit_if false f = refl

-- the pair could not be opened
refused_added : (a b : Bool) (j : Joint) (turns added : List Turn2) → AddsTurns a b turns added → turns ≡ Line OpenFailed ∷ [] → AddedWhole a b (OpenFailed ∷ []) (one_from j added)
refused_added true true j turns added x e = rw x refl
refused_added true false j turns added x e = absurd x
refused_added false true j turns [] x e = inl refl
refused_added false true j turns (turn ∷ more) x e =
    let h : Line OpenFailed ∷ [] ≡ turn ∷ (more ++ x.0) = sym e ∙ x.1 in
    let f : turn ≡ Line OpenFailed = cc in
    let g : more ++ x.0 ≡ [] = cc in
    inr (rw (f, append_none more x.0 g) refl)
  where
    append_none : (xs ys : List Turn2) → xs ++ ys ≡ [] → xs ≡ []
    append_none [] ys n = refl
    append_none (x ∷ xs) ys n = absurd (let m : x ∷ (xs ++ ys) ≡ [] = n in cc)
refused_added false false j turns added x e = rw (x, e) refl

refused-opening : (old new : PairObserved) (faults later : ℕ) (setup : Setup) (result : Result (Unit {0}) Failed) → PairGrows old new (λ turns. turns ≡ Line OpenFailed ∷ []) → result ≡ ok_if false →
    GrowsWhole (mirror_observed old faults false) (mirror_observed new later false) (OpenTurns setup result)
refused-opening old new faults later setup result grows e = record {
  observed = λ before f. logged before (logged-one old.log before f);
  unobserved = λ f. rw (grows.unlogged (none-one old.log f)) refl;
  stays = grows.stays;
  origin = refl;
}
  where
    logged : (before : List Turn) → (two : List Turn2) × (old.log ≡ Some two) × (one two ≡ before) →
        (turns : List Turn) × (added : List Turn) × OpenTurns setup result before turns × AddedWhole old.dark new.dark turns added × (one_log new.log ≡ Some (before ++ added))
    logged before t =
        let a = grows.logged t.0 t.1 in
        (OpenFailed ∷ [], one_from (joint_of t.0) a.added, rw e refl, refused_added old.dark new.dark (joint_of t.0) a.turns a.added a.adds a.call, rw a.log_is (ap (λ l. Some l) (one-append t.0 a.added ∙ ap (λ l. l ++ one_from (joint_of t.0) a.added) t.2)))

pub refused-by : (old new : PairObserved) (faults later : ℕ) (broken : Bool) (setup : Setup) (result : Result (Unit {0}) Failed) → broken ≡ false → PairGrows old new (λ turns. turns ≡ Line OpenFailed ∷ []) → result ≡ ok_if false →
    GrowsWhole (mirror_observed old faults broken) (mirror_observed new later broken) (OpenTurns setup result)
refused-by old new faults later broken setup result b grows e = rw b (refused-opening old new faults later setup result grows e)

-- a mirror that was used without an opening is dark
pub broken-opening : (observed : PairObserved) (faults later : ℕ) (broken : Bool) (setup : Setup) (result : Result (Unit {0}) Failed) → broken ≡ true → result ≡ ok_if false → GrowsWhole (mirror_observed observed faults broken) (mirror_observed observed later broken) (OpenTurns setup result)
broken-opening observed faults later broken setup result b e = record {
  observed = λ before f. (OpenFailed ∷ [], [], rw e refl, rw b refl, f ∙ ap (λ l. Some l) (sym (none-after before)));
  unobserved = λ f. f;
  stays = λ f. f;
  origin = refl;
}
  where
    none-after : (xs : List Turn) → xs ++ [] ≡ xs
    none-after [] = refl
    none-after (x ∷ xs) = ap (λ ys. x ∷ ys) (none-after xs)

-- ---- what holds of the pair after it

ends_sound : (there : Bool) (setup : Setup) (is_first first second : Bool) (ones : List Turn) (j : Joint) → (first || second) ≡ there → OpeningEnds there setup is_first first second ones j → (there ≡ true → IsRunOf first second j) × (there ≡ false → MayOpenAs first second j)
ends_sound true setup is_first first second ones j s e = (λ t. e.1, λ f. no_false f)
ends_sound false setup is_first first second ones j s e = let p = or_parts first second s in (λ t. no_true t, λ f. rw (p.0, p.1) e.1)

-- the log after it
after : (old new : PairObserved) (setup : Setup) (first second : Bool) (log : List Turn2) → Opened old new setup first second → new.log ≡ Some log → (two : List Turn2) × (old.log ≡ Some two) × ((r : HasComeTo new two (OpeningEnds (first || second) setup (stands_first (joint_of two).stage) first second) (HasEndedSo (first || second) setup (stands_first (joint_of two).stage))) × (log ≡ two ++ r.added))
after old new setup first second log opened e =
    let was = was-logged old.log (λ n. let k : None ≡ Some log = sym (opened.unlogged n) ∙ e in absurd (let m : None ≡ Some log = k in cc)) in
    let r = opened.logged was.0 was.1 in
    let h : Some (was.0 ++ r.added) ≡ Some log = sym r.log_is ∙ e in
    let k : log ≡ was.0 ++ r.added = cc in
    (was.0, was.1, (r, k))

pub opened-sound : (old new : PairObserved) (setup : Setup) (first second opened broken : Bool) → IfLogged old IsMirrored → Opened old new setup first second → opened ≡ (first || second) → broken ≡ false → MirrorSound new first second opened broken
opened-sound old new setup first second opened broken mirrored o s b = record {
  mirrored = λ log e. let t = after old new setup first second log o e in rw t.2.1 (may-append joint_at_first t.0 t.2.0.added (mirrored t.0 t.1) t.2.0.may);
  may_open = λ d n f log e. let t = after old new setup first second log o e in rw (t.2.1, joint_from-append joint_at_first t.0 t.2.0.added) ((sound d t.0 t.2.0).1 (sym s ∙ n));
  in_run = λ d y log e. let t = after old new setup first second log o e in rw (t.2.1, joint_from-append joint_at_first t.0 t.2.0.added) ((sound d t.0 t.2.0).0 (sym s ∙ y));
  whole = λ y. b;
  first_gone = o.gone.0;
  second_gone = o.gone.1;
}
  where
    sound : new.dark ≡ false → (two : List Turn2) → (r : HasComeTo new two (OpeningEnds (first || second) setup (stands_first (joint_of two).stage) first second) (HasEndedSo (first || second) setup (stands_first (joint_of two).stage))) →
        ((first || second) ≡ true → IsRunOf first second (joint_from (joint_of two) r.added)) × ((first || second) ≡ false → MayOpenAs first second (joint_from (joint_of two) r.added))
    sound d two r = ends_sound (first || second) setup (stands_first (joint_of two).stage) first second (one_from (joint_of two) r.added) (joint_from (joint_of two) r.added) refl (r.lit d)

-- the pair could not be opened
refused_steps : (j : Joint) (first second : Bool) → MayOpenAs first second j → Steps j (Line OpenFailed ∷ []) (λ ones k. MayOpenAs first second k) (λ ones k. Unit {0})
refused_steps j first second may = record { may = (may.may, tt); whole = record { may = tt; first_gone = may.first_gone; second_gone = may.second_gone }; parts = (tt, tt) }

pub refused-sound : (old new : PairObserved) (first second opened broken : Bool) → IfLogged old IsMirrored → CanOpen old first second → PairGrows old new (λ turns. turns ≡ Line OpenFailed ∷ []) → opened ≡ false → broken ≡ false → MirrorSound new first second opened broken
refused-sound old new first second opened broken mirrored can grows n b = record {
  mirrored = λ log e. let t = reached log e in rw t.2.1 (may-append joint_at_first t.0 t.2.0.added (mirrored t.0 t.1) t.2.0.may);
  may_open = λ d m f log e. let t = reached log e in rw (t.2.1, joint_from-append joint_at_first t.0 t.2.0.added) (t.2.0.lit d);
  in_run = λ d y. no_true (sym n ∙ y);
  whole = λ y. b;
  first_gone = λ d f. grows.first_stays (can.gone.0 (lit d) f);
  second_gone = λ d f. grows.second_stays (can.gone.1 (lit d) f);
}
  where
    lit : new.dark ≡ false → old.dark ≡ false
    lit d = elim (cases_Bool old.dark) [ inl off ↦ no_true (sym d ∙ grows.stays off) | inr on ↦ on ]

    reached : (log : List Turn2) → new.log ≡ Some log → (two : List Turn2) × (old.log ≡ Some two) × ((r : HasComeTo new two (λ ones k. MayOpenAs first second k) (λ ones k. Unit {0})) × (log ≡ two ++ r.added))
    reached log e =
        let was = was-logged old.log (λ m. let k : None ≡ Some log = sym (grows.unlogged m) ∙ e in absurd (let q : None ≡ Some log = k in cc)) in
        let r = reach-first old new was.0 (Line OpenFailed ∷ []) (λ ones k. MayOpenAs first second k) (λ ones k. Unit {0}) grows was.1 (λ d. refused_steps (joint_of was.0) first second (can.may d was.0 was.1)) (λ d. tt) in
        let h : Some (was.0 ++ r.added) ≡ Some log = sym r.log_is ∙ e in
        let k : log ≡ was.0 ++ r.added = cc in
        (was.0, was.1, (r, k))

-- ---- where it may begin

can_open_run : (first second : Bool) (j : Joint) → IsRunOf first second j → MayOpenAs first second j
can_open_run first second j r = record { may = may_run j.stage r.run.stage; first_gone = λ e. rw e at r.first_is; second_gone = λ e. rw e at r.second_is }
  where
    may_run : (stage : MirrorStage) → is_run_stage stage ≡ true → MayOpen stage j
    may_run AtFirst e = tt
    may_run Between e = tt
    may_run (Opening setup is_first) e = no_true e
    may_run Running e = r.run.resting

pub can-open : (observed : PairObserved) (first second opened broken : Bool) → MirrorSound observed first second opened broken → broken ≡ false → CanOpen observed first second
can-open observed first second opened broken sound b = record {
  may = λ d log e. elim (cases_Bool opened) [ inl y ↦ can_open_run first second (joint_of log) (sound.in_run d y log e) | inr n ↦ sound.may_open d n b log e ];
  gone = (sound.first_gone, sound.second_gone);
}
