-- The acts along which a gateway goes with a site that plays lines: their first step, and how they end.
use Rattle.std.proofs.Common.{◌≡◌, ℕ, List, [], ◌∷◌, ◌++◌, refl, sym, ◌∙◌, ap, subst, inl, inr, true, false}
use Rattle.std.specs.Prelude.{◌⊎◌, Bool, ◌&&◌, Option, Some, None, if◌then◌else◌, map}
use Rattle.gw_base.specs.declared.setup.Setup.{Setup}
use Rattle.gw_site.specs.Outside.{outside_of}
use Rattle.gw_site.specs.Steps.{ImageKind, SiteCall, OpenCall, PollCall, SendTillCall, SendPtCall, LinkCall, CutTillCall, CutPtCall, LengthCall, ReadCall, WriteCall, SyncCall, SiteStep, Made, PowerBack, StopAfter, Holding, TakenStep, turns_of_steps, steps_of}
use Rattle.gw_site.specs.declared.turn.Turn.{Turn}
use Rattle.gw_site.specs.declared.turn.Turn.TheVariants.{OpenFailed, Stopped, DiskFailed, Crash}
use Rattle.gw_script.specs.site.Calls.{CallFits}
use Rattle.gw_script.specs.site.Hazards.{crash_file}
use Rattle.gw_script.specs.site.Playing.{Play}
use Rattle.gw_script.specs.site.StepTurns.{StepFits, place_after_step, step_turns, turns_by, with_those_after}
use Rattle.gw_script.proofs.site.QuietLemmas.{on_or_off}
use Rattle.gw_script.proofs.site.StepTurnLemmas.{step-has-its-turns}
use Rattle.gw_owes.specs.ReadAs.{ReadAs}
use Rattle.gw_rules.specs.Acts.{Act, ToBegin, ToRead, ToTake, Look, Unopened, Unmeasured, Measured, Looked, AreDue, IsDueCall, IsDueStep, IsMeasuring, IsOwedCall, IsReading, after_act, is_to_read, look_after, look_after_call, look_after_step, moves_of, taken_of}
use Rattle.gw_rules.specs.Lawful.{IsCourse, IsIdle, turns_of}
use Rattle.gw_rules.specs.Stage.{is_looking, is_round, is_running}
use Rattle.gw_rules.specs.View.{View, Move, Begin, Read, Make, after, after_turn, view_from}
use Rattle.gw_rules.proofs.StageLemmas.{no-call, no-true}
use Rattle.gw_run.specs.ScriptLog.{HasLastTurn, IsEnded}

-- ---- moves after turns

pub turns-before : (turns : List Turn) (moves : List Move) → turns_of (map Make turns ++ moves) ≡ turns ++ turns_of moves
turns-before [] moves = refl
turns-before (turn ∷ turns) moves = ap (λ l. turn ∷ l) (turns-before turns moves)

course-later : (v : View) (turns : List Turn) (moves : List Move) → IsCourse v (map Make turns ++ moves) → IsCourse (view_from v (map Make turns)) moves
course-later v [] moves h = h
course-later v (turn ∷ turns) moves h = course-later (after_turn v turn) turns moves h.1

-- ---- acts with their turns

-- from this view, this look, this log and this place of the script on, the acts may come, their steps have their turns, and no power failure waits at their end
pub record Goes (own : Setup) (v : View) (look : Look) (past : List Turn) (p : Play) (acts : List Act) : Type 0 where
  pub lawful : IsCourse v (moves_of acts)
  pub due : AreDue own v look acts
  pub turns : turns_by past p (steps_of (taken_of acts) ++ PowerBack ∷ []) ≡ turns_of_steps (taken_of acts)

by-turns : (t : Option (List Turn)) (later : List Turn → List (List Turn)) (turns : List Turn) (parts : List (List Turn)) → with_those_after t later ≡ turns ∷ parts → (t ≡ Some turns) × (later turns ≡ parts)
by-turns None later turns parts e = absurd (let h : [] ≡ turns ∷ parts = e in cc)
by-turns (Some some) later turns parts e =
    let h : some ∷ later some ≡ turns ∷ parts = e in
    let heads : some ≡ turns = cc in
    let tails : later some ≡ parts = cc in
    (ap (λ x. Some x) heads, ap later (sym heads) ∙ tails)

-- the first step has its turns, and the others have theirs after it
pub first-fits : (past : List Turn) (p : Play) (step : SiteStep) (steps : List SiteStep) (turns : List Turn) (parts : List (List Turn)) → turns_by past p (step ∷ steps) ≡ turns ∷ parts →
    StepFits past p step turns × (turns_by (past ++ turns) (place_after_step past p step) steps ≡ parts)
first-fits past p step steps turns parts e =
    let x = by-turns (step_turns past p step) (λ made. turns_by (past ++ made) (place_after_step past p step) steps) turns parts e in
    ((step-has-its-turns past p step turns).1 x.0, x.1)

pub goes-begin : (own : Setup) (v : View) (look : Look) (past : List Turn) (p : Play) (acts : List Act) → Goes own v look past p (ToBegin ∷ acts) → Goes own (after v Begin) look past p acts
goes-begin own v look past p acts g = record { lawful = g.lawful.1; due = g.due.1; turns = g.turns }

pub goes-read : (own : Setup) (v : View) (look : Look) (past : List Turn) (p : Play) (as_read : ReadAs) (acts : List Act) → Goes own v look past p (ToRead as_read ∷ acts) → Goes own (after v (Read as_read)) look past p acts
goes-read own v look past p as_read acts g = record { lawful = g.lawful.1; due = g.due.1; turns = g.turns }

pub goes-on : (own : Setup) (v : View) (look : Look) (past : List Turn) (p : Play) (taken : TakenStep) (acts : List Act) → Goes own v look past p (ToTake taken ∷ acts) →
    Goes own (view_from v (map Make taken.turns)) (look_after_step own v look taken.step) (past ++ taken.turns) (place_after_step past p taken.step) acts
goes-on own v look past p taken acts g = record {
  lawful = course-later v taken.turns (moves_of acts) g.lawful;
  due = g.due.1;
  turns = (first-fits past p taken.step (steps_of (taken_of acts) ++ PowerBack ∷ []) taken.turns (turns_of_steps (taken_of acts)) g.turns).1;
}

-- ---- the first step

-- a call is made that is due, and has these turns
pub record IsCallStep (own : Setup) (v : View) (look : Look) (past : List Turn) (p : Play) (step : SiteStep) (turns : List Turn) : Type 0 where
  pub call : SiteCall
  pub step_is : step ≡ Made call
  pub due : IsDueCall own v look call
  pub fits : CallFits (outside_of past) p call turns

-- the power is there again
pub record IsPowerStep (past : List Turn) (p : Play) (step : SiteStep) (turns : List Turn) : Type 0 where
  pub kind : ImageKind
  pub step_is : step ≡ PowerBack
  pub off : p.off ≡ Some kind
  pub turns_are : turns ≡ Crash (crash_file kind (outside_of past)) ∷ []

step-is : (own : Setup) (v : View) (look : Look) (past : List Turn) (p : Play) (step : SiteStep) (turns : List Turn) → IsDueStep own v look step → StepFits past p step turns → IsCallStep own v look past p step turns ⊎ IsPowerStep past p step turns
step-is own v look past p (Made call) turns due fits = inl (record { call = call; step_is = refl; due = due; fits = fits })
step-is own v look past p PowerBack turns due (kind, off, is) = inr (record { kind = kind; step_is = refl; off = off; turns_are = is })
step-is own v look past p (StopAfter calls kind) turns due fits = absurd due
step-is own v look past p (Holding file) turns due fits = absurd due

pub first-step : (own : Setup) (v : View) (look : Look) (past : List Turn) (p : Play) (taken : TakenStep) (acts : List Act) → Goes own v look past p (ToTake taken ∷ acts) →
    IsCallStep own v look past p taken.step taken.turns ⊎ IsPowerStep past p taken.step taken.turns
first-step own v look past p taken acts g =
    step-is own v look past p taken.step taken.turns g.due.0 (first-fits past p taken.step (steps_of (taken_of acts) ++ PowerBack ∷ []) taken.turns (turns_of_steps (taken_of acts)) g.turns).0

-- while the power is there, it is a call
pub first-call : (own : Setup) (v : View) (look : Look) (past : List Turn) (p : Play) (taken : TakenStep) (acts : List Act) → p.off ≡ None → Goes own v look past p (ToTake taken ∷ acts) → IsCallStep own v look past p taken.step taken.turns
first-call own v look past p taken acts on g = elim (first-step own v look past p taken acts g) [
  | inl s ↦ s
  | inr s ↦ on_or_off p s.kind on s.off
]

-- ---- ends

-- no item begins or is read, and no call is due
pub record Rests (own : Setup) (v : View) (look : Look) : Type 0 where
  pub round : is_round v.scene.stage ≡ false
  pub none : (call : SiteCall) → IsDueCall own v look call → ⊥

-- so it is after the acts
abbrev pub EndsAt : Setup → View → Look → List Act → Type 0
EndsAt own v look [] = Rests own v look
EndsAt own v look (act ∷ acts) = EndsAt own (after_act v act) (look_after own v look act) acts

-- nothing is owed, and no run goes on
record Final (v : View) : Type 0 where
  round : is_round v.scene.stage ≡ false
  running : is_running v.scene.stage ≡ false
  looking : is_looking v.scene.stage ≡ false
  calls : v.calls ≡ []

pub to-read-looks : (slots : ℕ) (v : View) → is_to_read slots v ≡ true → is_looking v.scene.stage ≡ true
to-read-looks slots v e = by_test (is_looking v.scene.stage) _ _ e
  where
    by_test : (b c d : Bool) → (b && c && d) ≡ true → b ≡ true
    by_test true c d e = refl
    by_test false c d e = no-true e

final-owed : (v : View) (call : SiteCall) → Final v → IsOwedCall v call → ⊥
final-owed v call f (inl (owed, next, is)) = no-call v.calls owed f.calls next
final-owed v call f (inr (may, is)) = no-true (sym f.running ∙ may.running)

final-reading : (slots : ℕ) (v : View) (call : SiteCall) → Final v → IsReading slots v call → ⊥
final-reading slots v call f r = no-true (sym f.looking ∙ to-read-looks slots v r.to_read)

-- the site was opened
abbrev pub IsPastOpening : Look → Type 0
IsPastOpening Unopened = ⊥
IsPastOpening Unmeasured = Unit {0}
IsPastOpening Measured = Unit {0}
IsPastOpening Looked = Unit {0}

final-rests : (own : Setup) (v : View) (look : Look) → Final v → IsPastOpening look → Rests own v look
final-rests own v Unopened f opened = absurd opened
final-rests own v Unmeasured f opened = record { round = f.round; none = λ call due. final-owed v call f (subst (λ looks. IsMeasuring looks v call) f.looking due) }
final-rests own v Measured f opened = record { round = f.round; none = λ call due. final-reading own.slots v call f due }
final-rests own v Looked f opened = record { round = f.round; none = λ call due. by_case call due }
  where
    by_case : (call : SiteCall) → IsOwedCall v call ⊎ IsReading own.slots v call → ⊥
    by_case call (inl owed) = final-owed v call f owed
    by_case call (inr reading) = final-reading own.slots v call f reading

keeps-opened : (own : Setup) (v : View) (look : Look) (call : SiteCall) → IsDueCall own v look call → (call ≡ OpenCall own → ⊥) → IsPastOpening look
keeps-opened own v Unopened call due other = other due
keeps-opened own v Unmeasured call due other = tt
keeps-opened own v Measured call due other = tt
keeps-opened own v Looked call due other = tt

pub opened-after : (own : Setup) (v : View) (look : Look) (call : SiteCall) → IsDueCall own v look call → IsPastOpening (look_after_call own v look call)
opened-after own v look (OpenCall setup) due = tt
opened-after own v look PollCall due = keeps-opened own v look PollCall due (λ e. cc)
opened-after own v look (SendTillCall till bytes) due = keeps-opened own v look (SendTillCall till bytes) due (λ e. cc)
opened-after own v look (SendPtCall pt bytes) due = keeps-opened own v look (SendPtCall pt bytes) due (λ e. cc)
opened-after own v look (LinkCall pt) due = keeps-opened own v look (LinkCall pt) due (λ e. cc)
opened-after own v look (CutTillCall till) due = keeps-opened own v look (CutTillCall till) due (λ e. cc)
opened-after own v look (CutPtCall pt) due = keeps-opened own v look (CutPtCall pt) due (λ e. cc)
opened-after own v look LengthCall due = by_test (is_to_read own.slots v)
  where
    by_test : (test : Bool) → IsPastOpening (if test then Measured else Looked)
    by_test true = tt
    by_test false = tt
opened-after own v look (ReadCall offset size) due = tt
opened-after own v look (WriteCall offset bytes) due = keeps-opened own v look (WriteCall offset bytes) due (λ e. cc)
opened-after own v look SyncCall due = keeps-opened own v look SyncCall due (λ e. cc)

-- after the turn nothing is owed, and it is no power failure
record IsLast (turn : Turn) : Type 0 where
  final : (v : View) → Final (after_turn v turn)
  other : (file : List ℕ) → turn ≡ Crash file → ⊥

stopped-last : IsLast Stopped
stopped-last = record { final = λ v. record { round = refl; running = refl; looking = refl; calls = refl }; other = λ file e. cc }

not-opened-last : IsLast OpenFailed
not-opened-last = record { final = λ v. record { round = refl; running = refl; looking = refl; calls = refl }; other = λ file e. cc }

disk-failed-last : IsLast DiskFailed
disk-failed-last = record { final = λ v. record { round = refl; running = refl; looking = refl; calls = refl }; other = λ file e. cc }

final-after : (turn : Turn) → IsLast turn → (v : View) (prefix : List Turn) → Final (view_from v (map Make (prefix ++ turn ∷ [])))
final-after turn last v [] = last.final v
final-after turn last v (first ∷ prefix) = final-after turn last (after_turn v first) prefix

none-left : (xs ys : List Turn) → xs ++ ys ≡ [] → (xs ≡ []) × (ys ≡ [])
none-left [] ys e = (refl, e)
none-left (x ∷ xs) ys e = absurd (let h : x ∷ (xs ++ ys) ≡ [] = e in cc)

none-last : (turn : Turn) (prefix : List Turn) → [] ≡ prefix ++ turn ∷ [] → ⊥
none-last turn [] e = cc
none-last turn (first ∷ prefix) e = cc

one-last : (turn only : Turn) (prefix : List Turn) → only ∷ [] ≡ prefix ++ turn ∷ [] → turn ≡ only
one-last turn only [] e = let h : only ∷ [] ≡ turn ∷ [] = e in let k : turn ≡ only = cc in k
one-last turn only (first ∷ prefix) e = absurd (none-last turn prefix (let h : only ∷ [] ≡ first ∷ (prefix ++ turn ∷ []) = e in cc))

-- the last turn is among the first turns, and no more come, or it is among those after them
ends-within : (turn : Turn) (turns log prefix : List Turn) → turns ++ log ≡ prefix ++ turn ∷ [] → (HasLastTurn turn turns × (log ≡ [])) ⊎ HasLastTurn turn log
ends-within turn [] log prefix e = inr (prefix, e)
ends-within turn (first ∷ turns) log [] e =
    let h : first ∷ (turns ++ log) ≡ turn ∷ [] = e in
    let heads : first ≡ turn = cc in
    let rest : turns ++ log ≡ [] = cc in
    let none = none-left turns log rest in
    inl (([], ap (λ l. first ∷ l) none.0 ∙ ap (λ t. t ∷ []) heads), none.1)
ends-within turn (first ∷ turns) log (other ∷ prefix) e =
    let h : first ∷ (turns ++ log) ≡ other ∷ (prefix ++ turn ∷ []) = e in
    let rest : turns ++ log ≡ prefix ++ turn ∷ [] = cc in
    elim (ends-within turn turns log prefix rest) [
      | inl x ↦ inl ((first ∷ x.0.0, ap (λ l. first ∷ l) x.0.1), x.1)
      | inr x ↦ inr x
    ]

-- where it is among the turns of a step, nothing may come after it
ended-here : (own : Setup) (v : View) (look : Look) (past : List Turn) (p : Play) (step : SiteStep) (turns : List Turn) (turn : Turn) → IsLast turn → IsCallStep own v look past p step turns ⊎ IsPowerStep past p step turns → HasLastTurn turn turns →
    Rests own (view_from v (map Make turns)) (look_after_step own v look step)
ended-here own v look past p step turns turn last (inl s) (prefix, e) =
    final-rests own (view_from v (map Make turns)) (look_after_step own v look step) (subst (λ t. Final (view_from v (map Make t))) (sym e) (final-after turn last v prefix))
    (subst (λ x. IsPastOpening (look_after_step own v look x)) (sym s.step_is) (opened-after own v look s.call s.due))
ended-here own v look past p step turns turn last (inr s) (prefix, e) = absurd (last.other _ (one-last turn _ prefix (sym s.turns_are ∙ e)))

pub rests-idle : (own : Setup) (v : View) (look : Look) → Rests own v look → IsIdle v → ⊥
rests-idle own v look rests idle = no-true (sym rests.round ∙ idle.round)

nothing-more : (own : Setup) (v : View) (look : Look) (past : List Turn) (p : Play) (acts : List Act) → Rests own v look → Goes own v look past p acts → turns_of (moves_of acts) ≡ [] → acts ≡ []
nothing-more own v look past p [] rests g none = refl
nothing-more own v look past p (ToBegin ∷ acts) rests g none = absurd (rests-idle own v look rests g.lawful.0.idle)
nothing-more own v look past p (ToRead as_read ∷ acts) rests g none = absurd (rests-idle own v look rests g.lawful.0.idle)
nothing-more own v look past p (ToTake taken ∷ acts) rests g none = elim (first-step own v look past p taken acts g) [
  | inl s ↦ absurd (rests.none s.call s.due)
  | inr s ↦ absurd (
      let made : taken.turns ≡ [] = (none-left taken.turns (turns_of (moves_of acts)) (sym (turns-before taken.turns (moves_of acts)) ∙ none)).0 in
      let h : [] ≡ Crash (crash_file s.kind (outside_of past)) ∷ [] = sym made ∙ s.turns_are in
      cc)
]

ends-by : (own : Setup) (turn : Turn) → IsLast turn → (acts : List Act) (v : View) (look : Look) (past : List Turn) (p : Play) → Goes own v look past p acts → HasLastTurn turn (turns_of (moves_of acts)) → EndsAt own v look acts
ends-by own turn last [] v look past p g (prefix, e) = absurd (none-last turn prefix e)
ends-by own turn last (ToBegin ∷ acts) v look past p g e = ends-by own turn last acts (after v Begin) look past p (goes-begin own v look past p acts g) e
ends-by own turn last (ToRead as_read ∷ acts) v look past p g e = ends-by own turn last acts (after v (Read as_read)) look past p (goes-read own v look past p as_read acts g) e
ends-by own turn last (ToTake taken ∷ acts) v look past p g (prefix, e) =
    let w = view_from v (map Make taken.turns) in
    let next = look_after_step own v look taken.step in
    let later = goes-on own v look past p taken acts g in
    elim (ends-within turn taken.turns (turns_of (moves_of acts)) prefix (sym (turns-before taken.turns (moves_of acts)) ∙ e)) [
      | inl x ↦ (
          let rests = ended-here own v look past p taken.step taken.turns turn last (first-step own v look past p taken acts g) x.0 in
          subst (EndsAt own w next) (sym (nothing-more own w next (past ++ taken.turns) (place_after_step past p taken.step) acts rests later x.1)) rests)
      | inr x ↦ ends-by own turn last acts w next (past ++ taken.turns) (place_after_step past p taken.step) later x
    ]

-- after a log that has ended nothing may come
pub ends-at : (own : Setup) (acts : List Act) (v : View) (look : Look) (past : List Turn) (p : Play) → Goes own v look past p acts → IsEnded (turns_of (moves_of acts)) → EndsAt own v look acts
ends-at own acts v look past p g (inl e) = ends-by own Stopped stopped-last acts v look past p g e
ends-at own acts v look past p g (inr (inl e)) = ends-by own OpenFailed not-opened-last acts v look past p g e
ends-at own acts v look past p g (inr (inr e)) = ends-by own DiskFailed disk-failed-last acts v look past p g e
