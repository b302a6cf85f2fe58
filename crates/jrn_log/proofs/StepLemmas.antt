-- The steps that the journal's calls take, one after the other.
use Rattle.std.proofs.Common.{◌≡◌, ℕ, ◌+◌, ◌*◌, ◌<◌, ◌≤◌, List, [], ◌∷◌, ◌++◌, length, refl, sym, ◌∙◌, ap, subst, inl, inr, append_assoc, append-nil}
use Rattle.std.proofs.lemmas.Bool.{lt-leb, le-leb}
use Rattle.std.proofs.lemmas.List.{map-append}
use Rattle.std.specs.Prelude.{Bool, true, false, Option, Some, None, Result, Ok, Err, OnErr}
use Rattle.gw_site.specs.Observed.{Observed, IfObserved, Added, Grows, IsStep, TakesCall}
use Rattle.gw_site.specs.Steps.{Plan, SiteCall, ReadCall, Made, TakenStep, steps_of, turns_of_steps, log_of_parts, Takes}
use Rattle.gw_site.specs.declared.turn.Turn.{Turn}
use Rattle.jrn_log.specs.declared.fault.OpenFault.{OpenFault}
use Rattle.jrn_log.specs.declared.fault.OpenFault.TheVariants.{Disk, TooLong, Cut, Memory}
use Rattle.jrn_log.specs.JournalSteps.{Phase, ToSync, ToWrite, ToRead, ToReadOn, Done, IsStepIn, phase_turns, phase_after, AreSteps, HasReached, HasReachedAny, TakesSteps, RestsDark, reached, measured_phase, opening_phase, fault_phase, opening_reaches, TakesOpening, append_phase, TakesAppend}
use Rattle.jrn_log.specs.inner.FileReader.{AreBodiesRead, IsToRead, HasReadSome, read_fault_phase, read_phase}
use Rattle.jrn_log.proofs.SequenceLemmas.{added_whole}

-- ---- what is taken

-- no steps are taken
pub takes-none : (plan : Option Plan) → Takes plan plan []
takes-none plan later e = (later, e, λ more. refl)

-- steps are taken, and then more
pub takes-then : (a b c : Option Plan) (xs ys : List TakenStep) → Takes a b xs → Takes b c ys → Takes a c (xs ++ ys)
takes-then a b c xs ys x y later e =
    let q = y later e in
    let p = x q.0 q.1 in (
      p.0,
      p.1,
      λ more.
          ap (λ steps. p.0 (steps ++ more)) (map-append (λ (one : TakenStep). one.step) xs ys) ∙ ap p.0 (append_assoc (steps_of xs) (steps_of ys) more)
          ∙ p.2 (steps_of ys ++ more) ∙ ap (λ parts. turns_of_steps xs ++ parts) (q.2 more)
          ∙ sym (ap (λ parts. parts ++ later more) (map-append (λ (one : TakenStep). one.turns) xs ys) ∙ append_assoc (turns_of_steps xs) (turns_of_steps ys) (later more)),
    )

-- the log of both
pub log-then : (xs ys : List TakenStep) → log_of_parts (turns_of_steps (xs ++ ys)) ≡ log_of_parts (turns_of_steps xs) ++ log_of_parts (turns_of_steps ys)
log-then [] ys = refl
log-then (one ∷ xs) ys = ap (λ log. one.turns ++ log) (log-then xs ys) ∙ sym (append_assoc one.turns (log_of_parts (turns_of_steps xs)) (log_of_parts (turns_of_steps ys)))

none-then : (xs ys : List TakenStep) → xs ≡ [] → ys ≡ [] → xs ++ ys ≡ []
none-then xs ys e f = rw (e, f) refl

-- ---- phases

-- steps that reach a phase are steps, and so are further ones after them
pub are-then : (first mid : Phase) (xs ys : List TakenStep) → HasReached mid first xs → AreSteps mid ys → AreSteps first (xs ++ ys)
are-then first mid [] ys r a = subst (λ phase. AreSteps phase ys) (sym r) a
are-then first mid (one ∷ xs) ys r a = (r.0, inr (r.1, are-then (phase_after first) mid xs ys r.2 a))

pub reaches-then : (first mid last : Phase) (xs ys : List TakenStep) → HasReached mid first xs → HasReached last mid ys → HasReached last first (xs ++ ys)
reaches-then first mid last [] ys r s = subst (λ phase. HasReached last phase ys) (sym r) s
reaches-then first mid last (one ∷ xs) ys r s = (r.0, r.1, reaches-then (phase_after first) mid last xs ys r.2 s)

pub reaches-any-then : (first mid : Phase) (last : Option Phase) (xs ys : List TakenStep) → HasReached mid first xs → HasReachedAny last mid ys → HasReachedAny last first (xs ++ ys)
reaches-any-then first mid None xs ys r s = tt
reaches-any-then first mid (Some last) xs ys r s = reaches-then first mid last xs ys r s

-- ---- steps from phase to phase

-- a site that is dark stays dark
abbrev pub StaysDark : Observed → Observed → Type 0
StaysDark old new = old.dark ≡ true → new.dark ≡ true

-- what isn't dark after steps wasn't before
lit-before : (old new : Observed) → StaysDark old new → new.dark ≡ false → old.dark ≡ false
lit-before old new stays lit = by_dark old.dark refl
  where
    by_dark : (b : Bool) → old.dark ≡ b → old.dark ≡ false
    by_dark true d = absurd (let h : true ≡ false = sym (stays d) ∙ lit in cc)
    by_dark false d = d

pub steps-none : (phase : Phase) (before : List Turn) (observed : Observed) → observed.log ≡ Some before → TakesSteps phase (Some phase) before observed observed
steps-none phase before observed e = record {
  taken = [];
  log = (rw append-nil e);
  takes = takes-none observed.plan;
  none = λ d. refl;
  are = tt;
  reaches = λ lit. refl;
}

-- steps to a phase, and then steps from there
pub steps-then : (first mid : Phase) (last : Option Phase) (before : List Turn) (old m new : Observed) → StaysDark old m → StaysDark m new →
    TakesSteps first (Some mid) before old m → IfObserved m (λ between. TakesSteps mid last between m new) → TakesSteps first last before old new
steps-then first mid last before old m new stays stays_on x y = record {
  taken = x.taken ++ z.taken;
  log = z.log ∙ ap Some (append_assoc before (log_of_parts (turns_of_steps x.taken)) (log_of_parts (turns_of_steps z.taken)) ∙ ap (λ turns. before ++ turns) (sym (log-then x.taken z.taken)));
  takes = takes-then old.plan m.plan new.plan x.taken z.taken x.takes z.takes;
  none = λ d. none-then x.taken z.taken (x.none d) (z.none (stays d));
  are = are_both m.dark refl;
  reaches = λ lit. reaches-any-then first mid last x.taken z.taken (x.reaches (lit-before m new stays_on lit)) (z.reaches lit);
}
  where
    z : TakesSteps mid last (before ++ log_of_parts (turns_of_steps x.taken)) m new
    z = y (before ++ log_of_parts (turns_of_steps x.taken)) x.log

    are_both : (b : Bool) → m.dark ≡ b → AreSteps first (x.taken ++ z.taken)
    are_both true d = subst (λ taken. AreSteps first taken) (sym (ap (λ taken. x.taken ++ taken) (z.none d) ∙ append-nil x.taken)) x.are
    are_both false d = are-then first mid x.taken z.taken (x.reaches d) z.are

-- ---- one call

-- a call is one step where the site wasn't dark, and none where it was
pub steps-one : (first : Phase) (last : Option Phase) (call : SiteCall) (Call : List Turn → Type 0) (before : List Turn) (old new : Observed) → IsStepIn first (Made call) → Grows old new Call → IsStep old new call →
    ((turns : List Turn) → Call turns → HasReachedAny last first (record { step = Made call; turns = turns } ∷ [])) → old.log ≡ Some before → TakesSteps first last before old new
steps-one first last call Call before old new comes grows step_is f e = by_dark old.dark refl step_is
  where
    a : (turns : List Turn) × (added : List Turn) × Call turns × Added old.dark new.dark turns added × (new.log ≡ Some (before ++ added))
    a = grows.observed before e

    none_added : (b c : Bool) → c ≡ true → b ≡ true → (turns added : List Turn) → Added b c turns added → added ≡ []
    none_added true true p q turns added h = h
    none_added true false p q turns added h = elim h [ ]
    none_added false true p q turns added h = absurd (let k : false ≡ true = q in cc)
    none_added false false p q turns added h = absurd (let k : false ≡ true = q in cc)

    by_dark : (b : Bool) → old.dark ≡ b → TakesCall b old new call → TakesSteps first last before old new
    by_dark true d t = record {
      taken = [];
      log = a.4 ∙ ap (λ added. Some (before ++ added)) (none_added old.dark new.dark (grows.stays d) d a.0 a.1 a.3);
      takes = t;
      none = λ dark. refl;
      are = tt;
      reaches = λ lit. absurd (let h : true ≡ false = sym (grows.stays d) ∙ lit in cc);
    }
    by_dark false d t = record {
      taken = record { step = Made call; turns = a.1 } ∷ [];
      log = a.4 ∙ ap (λ added. Some (before ++ added)) (sym (append-nil a.1));
      takes = t before a.1 e a.4;
      none = λ dark. absurd (let h : true ≡ false = sym dark ∙ d in cc);
      are = (comes, inl refl);
      reaches = λ lit. subst (λ turns. HasReachedAny last first (record { step = Made call; turns = turns } ∷ [])) (sym (added_whole old.dark new.dark a.0 a.1 a.3 lit)) (f a.0 a.2);
    }

-- a call that has succeeded reaches the next phase
pub steps-ok : (first : Phase) (call : SiteCall) (before : List Turn) (old new : Observed) → IsStepIn first (Made call) → Grows old new (λ turns. turns ≡ phase_turns first) → IsStep old new call → old.log ≡ Some before → TakesSteps first (Some (phase_after first)) before old new
steps-ok first call before old new comes grows step_is e = steps-one first (Some (phase_after first)) call _ before old new comes grows step_is (λ turns t. (comes, t, refl)) e

pub steps-err : (first : Phase) (call : SiteCall) (Call : List Turn → Type 0) (before : List Turn) (old new : Observed) → IsStepIn first (Made call) → Grows old new Call → IsStep old new call → old.log ≡ Some before → TakesSteps first None before old new
steps-err first call Call before old new comes grows step_is e = steps-one first None call Call before old new comes grows step_is (λ turns t. tt) e

-- by its result
pub steps-by : {T E : Type 0} (first : Phase) (call : SiteCall) (result : Result T E) (Call : Result T E → List Turn → Type 0) (before : List Turn) (old new : Observed) → ((done : T) (turns : List Turn) → Call (Ok done) turns → turns ≡ phase_turns first) →
    IsStepIn first (Made call) → Grows old new (Call result) → IsStep old new call → old.log ≡ Some before → TakesSteps first (reached (phase_after first) result) before old new
steps-by first call (Ok done) Call before old new f comes grows step_is e = steps-one first (Some (phase_after first)) call (Call (Ok done)) before old new comes grows step_is (λ turns t. (comes, f done turns t, refl)) e
steps-by first call (Err failed) Call before old new f comes grows step_is e = steps-err first call (Call (Err failed)) before old new comes grows step_is e

-- ---- two calls

-- after a call that has succeeded there is another
pub steps-two : {T E : Type 0} (first : Phase) (call next : SiteCall) (result : Result T E) (Call : Result T E → List Turn → Type 0) (before : List Turn) (old m new : Observed) → ((done : T) (turns : List Turn) → Call (Ok done) turns → turns ≡ phase_turns (phase_after first)) →
    IsStepIn first (Made call) → IsStepIn (phase_after first) (Made next) → Grows old m (λ turns. turns ≡ phase_turns first) → IsStep old m call → Grows m new (Call result) → IsStep m new next → old.log ≡ Some before →
    TakesSteps first (reached (phase_after (phase_after first)) result) before old new
steps-two first call next result Call before old m new f comes comes_next grows step_is grows_on step_on e =
    steps-then first (phase_after first) (reached (phase_after (phase_after first)) result) before old m new grows.stays grows_on.stays (steps-ok first call before old m comes grows step_is e)
    (λ between h. steps-by (phase_after first) next result Call between m new f comes_next grows_on step_on h)

-- ---- reading

read-comes : (first : Phase) → IsToRead first → (offset size : ℕ) → IsStepIn first (Made (ReadCall offset size))
read-comes first (inl e) offset size = rw e (record { offset = offset; size = size; step_is = refl })
read-comes first (inr e) offset size = rw e (record { offset = offset; size = size; step_is = refl })

read-turns : (first : Phase) → IsToRead first → phase_turns first ≡ []
read-turns first (inl e) = rw e refl
read-turns first (inr e) = rw e refl

read-next : (first : Phase) → IsToRead first → phase_after first ≡ ToReadOn
read-next first (inl e) = rw e refl
read-next first (inr e) = rw e refl

-- a fault in memory is found once a part was read
read-reaches : {T : Type 0} (result : Result T OpenFault) (first : Phase) (taken : List TakenStep) → HasReached ToReadOn first taken → HasReachedAny (read_phase result) first taken
read-reaches (Ok done) first taken r = r
read-reaches (Err fault) first taken r = by_fault fault
  where
    by_fault : (fault : OpenFault) → HasReachedAny (read_fault_phase fault) first taken
    by_fault Disk = tt
    by_fault (TooLong count) = tt
    by_fault (Cut slot) = r
    by_fault Memory = r

-- a part of the file is read, and this is the result
pub steps-read : {T : Type 0} (result : Result T OpenFault) (first : Phase) (offset size : ℕ) (before : List Turn) (old new : Observed) → IsToRead first → Grows old new (λ turns. turns ≡ []) → IsStep old new (ReadCall offset size) → old.log ≡ Some before →
    TakesSteps first (read_phase result) before old new
steps-read result first offset size before old new is grows step_is e =
    steps-one first (read_phase result) (ReadCall offset size) _ before old new comes grows step_is (λ turns t. read-reaches result first (record { step = Made (ReadCall offset size); turns = turns } ∷ []) (comes, t ∙ sym (read-turns first is), read-next first is)) e
  where
    comes : IsStepIn first (Made (ReadCall offset size))
    comes = read-comes first is offset size

-- a part of the file is to be read, but the disk fails
pub steps-not-read : (first : Phase) (offset size : ℕ) (Call : List Turn → Type 0) (before : List Turn) (old new : Observed) → IsToRead first → Grows old new Call → IsStep old new (ReadCall offset size) → old.log ≡ Some before → TakesSteps first None before old new
steps-not-read first offset size Call before old new is grows step_is e = steps-err first (ReadCall offset size) Call before old new (read-comes first is offset size) grows step_is e

-- one part more
pub reads-more : (last : Option Phase) (before : List Turn) (old m new : Observed) → StaysDark old m → StaysDark m new → HasReadSome before old m → ((first : Phase) → IsToRead first → IfObserved m (λ between. TakesSteps first last between m new)) → TakesSteps ToRead last before old new
reads-more last before old m new stays stays_on x y = steps-then ToRead x.0 last before old m new stays stays_on x.2 (y x.0 x.1)

pub reads-one : (before : List Turn) (old m new : Observed) → StaysDark old m → StaysDark m new → HasReadSome before old m → ((first : Phase) → IsToRead first → IfObserved m (λ between. TakesSteps first (Some ToReadOn) between m new)) → HasReadSome before old new
reads-one before old m new stays stays_on x y = (ToReadOn, inr refl, reads-more (Some ToReadOn) before old m new stays stays_on x y)

-- ---- a body that is kept

keep-phase : (slot offset : ℕ) (body bytes : List ℕ) → offset ≡ 256 * slot → bytes ≡ body ++ 0 ∷ [] → ToWrite (offset + 1) bytes (ToSync (ToWrite offset (165 ∷ []) (ToSync Done))) ≡ append_phase slot body
keep-phase slot offset body bytes s is = rw (s, is) refl

-- the body, and then the gate
pub steps-keep : {T E : Type 0} (result : Result T E) (slot offset : ℕ) (body bytes : List ℕ) (before : List Turn) (old m new : Observed) → offset ≡ 256 * slot → bytes ≡ body ++ 0 ∷ [] → StaysDark old m → StaysDark m new →
    TakesSteps (ToWrite (offset + 1) bytes (ToSync (ToWrite offset (165 ∷ []) (ToSync Done)))) (Some (ToWrite offset (165 ∷ []) (ToSync Done))) before old m →
    IfObserved m (λ between. TakesSteps (ToWrite offset (165 ∷ []) (ToSync Done)) (reached Done result) between m new) → TakesAppend slot body before old new result
steps-keep result slot offset body bytes before old m new s is stays stays_on x y =
    subst (λ phase. TakesSteps phase (reached Done result) before old new) (keep-phase slot offset body bytes s is)
    (steps-then _ (ToWrite offset (165 ∷ []) (ToSync Done)) (reached Done result) before old m new stays stays_on x y)

pub steps-keep-fails : (slot offset : ℕ) (body bytes : List ℕ) (before : List Turn) (old new : Observed) → offset ≡ 256 * slot → bytes ≡ body ++ 0 ∷ [] →
    TakesSteps (ToWrite (offset + 1) bytes (ToSync (ToWrite offset (165 ∷ []) (ToSync Done)))) None before old new → TakesSteps (append_phase slot body) None before old new
steps-keep-fails slot offset body bytes before old new s is x = subst (λ phase. TakesSteps phase None before old new) (keep-phase slot offset body bytes s is) x

-- ---- an opening

-- the opening of a file of at most one byte, by its result
pub steps-begin : {T : Type 0} (result : Result T OpenFault) (slots size : ℕ) (before : List Turn) (old new : Observed) → size ≤ 1 → OnErr result (result ≡ Err Disk) → TakesSteps (ToWrite 0 (0 ∷ []) (ToSync Done)) (reached Done result) before old new →
    TakesSteps (measured_phase slots size) (opening_reaches size result) before old new
steps-begin (Ok opened) slots size before old new le disk x = rw (le-leb size 1 le) x
steps-begin (Err fault) slots size before old new le disk x = (let h : fault ≡ Disk = (let k : Err fault ≡ Err Disk = disk in cc) in rw (h, le-leb size 1 le) x)

-- the result of reading isn't that the file is too long
not-too-long : (file : List ℕ) (result : Result (List (List ℕ)) OpenFault) → AreBodiesRead file result → (count : ℕ) → result ≡ Err (TooLong count) → ⊥
not-too-long file result read count e = subst (λ result. AreBodiesRead file result) e read

-- the opening of a file that has slots to read, by its result
pub steps-read-all : (result : Result (List (List ℕ)) OpenFault) (slots size : ℕ) (file : List ℕ) (before : List Turn) (old new : Observed) → 1 < size → size ≤ 256 * slots + 1 → AreBodiesRead file result →
    TakesSteps ToRead (read_phase result) before old new → TakesSteps (measured_phase slots size) (opening_reaches size result) before old new
steps-read-all result slots size file before old new some fits read x = by_result result (not-too-long file result read) x
  where
    by_fault : (fault : OpenFault) → ((count : ℕ) → fault ≡ TooLong count → ⊥) → TakesSteps ToRead (read_fault_phase fault) before old new → TakesSteps ToRead (fault_phase fault) before old new
    by_fault Disk m y = y
    by_fault (TooLong count) m y = absurd (m count refl)
    by_fault (Cut slot) m y = y
    by_fault Memory m y = y

    by_result : (result : Result (List (List ℕ)) OpenFault) → ((count : ℕ) → result ≡ Err (TooLong count) → ⊥) → TakesSteps ToRead (read_phase result) before old new → TakesSteps (measured_phase slots size) (opening_reaches size result) before old new
    by_result (Ok opened) n y = rw (lt-leb size 1 some, le-leb size (256 * slots + 1) fits) y
    by_result (Err fault) n y = rw (lt-leb size 1 some, le-leb size (256 * slots + 1) fits) (by_fault fault (λ count e. n count (ap Err e)) y)

-- the sync and the length, and what comes after them, of the file as it was
pub steps-opening : {T : Type 0} (result : Result T OpenFault) (slots size : ℕ) (file : List ℕ) (before : List Turn) (old m new : Observed) → size ≡ length file → StaysDark old m → StaysDark m new →
    TakesSteps (opening_phase slots size) (Some (measured_phase slots size)) before old m → IfObserved m (λ between. TakesSteps (measured_phase slots size) (opening_reaches size result) between m new) → TakesOpening slots (length file) before old new result
steps-opening result slots size file before old m new n stays stays_on x y =
    subst (λ size. TakesOpening slots size before old new result) n
    (steps-then (opening_phase slots size) (measured_phase slots size) (opening_reaches size result) before old m new stays stays_on x y)

-- ---- a dark site

pub rests-call : (old new : Observed) (Call : List Turn → Type 0) (call : SiteCall) → Grows old new Call → IsStep old new call → RestsDark old new
rests-call old new Call call grows x d = subst (λ dark. TakesCall dark old new call) d x

pub rests-then : (old m new : Observed) (Call Next : List Turn → Type 0) → Grows old m Call → Grows m new Next → RestsDark old m → RestsDark m new → RestsDark old new
rests-then old m new Call Next grows grows_on x y d = takes-then old.plan m.plan new.plan [] [] (x d) (y (grows.stays d))
