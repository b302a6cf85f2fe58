-- Where there is a run its setup is known, and lies within the limits.
use Rattle.std.proofs.Common.{◌≡◌, List, [], ◌∷◌, refl, sym, ◌∙◌, ap, subst, true, false, inl, inr}
use Rattle.std.specs.Prelude.{◌⊎◌, Option, Some, None}
use Rattle.gw_base.specs.Setup.{IsSetup}
use Rattle.gw_base.specs.declared.setup.Setup.{Setup}
use Rattle.gw_site.specs.declared.turn.Turn.{Turn}
use Rattle.gw_site.specs.declared.turn.Turn.TheVariants.{Start, OpenFailed, Polled, Opened, HeardTill, Closed, HeardPt, Lost, Stopped, Linked, LinkFailed, SentTill, SentPt, CutTill, CutPt, Wrote, Synced, DiskFailed, Crash}
use Rattle.gw_owes.specs.Calls.{OwedCall}
use Rattle.gw_owes.specs.Items.{RoundItem}
use Rattle.gw_owes.specs.ReadAs.{ReadAs}
use Rattle.gw_rules.specs.Laws.{SetupIsWithinLimits}
use Rattle.gw_rules.specs.Lawful.{first_call, AllowedTurn, IsCourse, Stands}
use Rattle.gw_rules.specs.Scene.{Scene}
use Rattle.gw_rules.specs.Stage.{Resting, AtPoll, is_round, is_running, is_looking}
use Rattle.gw_rules.specs.View.{View, Move, Begin, Read, Make, begin, after, after_turn, view_from, at_first}
use Rattle.gw_rules.proofs.StageLemmas.{no-true, no-call}

pub begin-setup : (scene : Scene) (items : List RoundItem) → (begin scene items).scene.setup ≡ scene.setup
begin-setup scene [] = refl
begin-setup scene (item ∷ items) = refl

-- the setup of the run is known, and lies within the limits
pub record HasSetup (scene : Scene) : Type 0 where
  pub setup : Setup
  pub setup_is : scene.setup ≡ Some setup
  pub within : IsSetup setup

-- there is no run, and nothing is owed
pub record IsResting (v : View) : Type 0 where
  pub resting : v.scene.stage ≡ Resting
  pub calls : v.calls ≡ []

abbrev pub IsInRun : View → Type 0
IsInRun v = HasSetup v.scene ⊎ IsResting v

same-setup : (scene other : Scene) → other.setup ≡ scene.setup → HasSetup scene → HasSetup other
same-setup scene other e h = record { setup = h.setup; setup_is = e ∙ h.setup_is; within = h.within }

resting-poll : {A : Type 0} (v : View) → IsResting v → v.scene.stage ≡ AtPoll → A
resting-poll v r e = absurd (let n : Resting ≡ AtPoll = sym r.resting ∙ e in cc)

resting-call : {A : Type 0} (v : View) (call : OwedCall) → IsResting v → first_call v.calls ≡ Some call → A
resting-call v call r e = no-call v.calls call r.calls e

resting-looks : {A : Type 0} (v : View) → IsResting v → is_looking v.scene.stage ≡ true → A
resting-looks v r e = no-true (sym (ap is_looking r.resting) ∙ e)

pub turn-run : (v : View) (turn : Turn) → IsInRun v → AllowedTurn v turn → IsInRun (after_turn v turn)
turn-run v (Start setup) h ok = inl (record { setup = setup; setup_is = refl; within = ok.1 })
turn-run v OpenFailed h ok = inr (record { resting = refl; calls = refl })
turn-run v (Crash file) h ok = inr (record { resting = refl; calls = refl })
turn-run v (Polled now) (inl h) ok = inl (same-setup v.scene (after_turn v (Polled now)).scene refl h)
turn-run v (Polled now) (inr r) ok = no-true (sym (ap is_running r.resting) ∙ ok.running)
turn-run v (Opened till) (inl h) ok = inl (same-setup v.scene (after_turn v (Opened till)).scene refl h)
turn-run v (Opened till) (inr r) ok = resting-poll v r ok.0
turn-run v (HeardTill till bytes) (inl h) ok = inl (same-setup v.scene (after_turn v (HeardTill till bytes)).scene refl h)
turn-run v (HeardTill till bytes) (inr r) ok = resting-poll v r ok.0.polled
turn-run v (Closed till) (inl h) ok = inl (same-setup v.scene (after_turn v (Closed till)).scene refl h)
turn-run v (Closed till) (inr r) ok = resting-poll v r ok.polled
turn-run v (HeardPt pt bytes) (inl h) ok = inl (same-setup v.scene (after_turn v (HeardPt pt bytes)).scene refl h)
turn-run v (HeardPt pt bytes) (inr r) ok = resting-poll v r ok.0.polled
turn-run v (Lost pt) (inl h) ok = inl (same-setup v.scene (after_turn v (Lost pt)).scene refl h)
turn-run v (Lost pt) (inr r) ok = resting-poll v r ok.polled
turn-run v Stopped (inl h) ok = inl (same-setup v.scene (after_turn v Stopped).scene refl h)
turn-run v Stopped (inr r) ok = resting-poll v r ok
turn-run v (Linked pt) (inl h) ok = inl (same-setup v.scene (after_turn v (Linked pt)).scene refl h)
turn-run v (Linked pt) (inr r) ok = resting-call v _ r ok
turn-run v (LinkFailed pt) (inl h) ok = inl (same-setup v.scene (after_turn v (LinkFailed pt)).scene refl h)
turn-run v (LinkFailed pt) (inr r) ok = resting-call v _ r ok
turn-run v (SentTill till bytes true) (inl h) ok = inl (same-setup v.scene (after_turn v (SentTill till bytes true)).scene refl h)
turn-run v (SentTill till bytes true) (inr r) ok = resting-call v _ r ok.1
turn-run v (SentTill till bytes false) (inl h) ok = inl (same-setup v.scene (after_turn v (SentTill till bytes false)).scene refl h)
turn-run v (SentTill till bytes false) (inr r) ok = resting-call v _ r ok.1
turn-run v (SentPt pt bytes true) (inl h) ok = inl (same-setup v.scene (after_turn v (SentPt pt bytes true)).scene refl h)
turn-run v (SentPt pt bytes true) (inr r) ok = resting-call v _ r ok.1
turn-run v (SentPt pt bytes false) (inl h) ok = inl (same-setup v.scene (after_turn v (SentPt pt bytes false)).scene refl h)
turn-run v (SentPt pt bytes false) (inr r) ok = resting-call v _ r ok.1
turn-run v (CutTill till) (inl h) ok = inl (same-setup v.scene (after_turn v (CutTill till)).scene refl h)
turn-run v (CutTill till) (inr r) ok = resting-call v _ r ok
turn-run v (CutPt pt) (inl h) ok = inl (same-setup v.scene (after_turn v (CutPt pt)).scene refl h)
turn-run v (CutPt pt) (inr r) ok = resting-call v _ r ok
turn-run v (Wrote offset bytes) (inl h) ok = inl (same-setup v.scene (after_turn v (Wrote offset bytes)).scene refl h)
turn-run v (Wrote offset bytes) (inr r) ok = resting-call v _ r ok.1
turn-run v Synced (inl h) ok = inl (same-setup v.scene (after_turn v Synced).scene refl h)
turn-run v Synced (inr r) ok = resting-call v _ r ok
turn-run v DiskFailed (inl h) ok = inl (same-setup v.scene (after_turn v DiskFailed).scene refl h)
turn-run v DiskFailed (inr r) (inl next) = resting-call v _ r next
turn-run v DiskFailed (inr r) (inr looking) = resting-looks v r looking

round-run : {A : Type 0} (v : View) → IsResting v → is_round v.scene.stage ≡ true → A
round-run v r e = no-true (sym (ap is_round r.resting) ∙ e)

pub begin-run : (v : View) → IsInRun v → is_round v.scene.stage ≡ true → IsInRun (after v Begin)
begin-run v (inl h) e = inl (same-setup v.scene (after v Begin).scene (begin-setup v.scene v.items) h)
begin-run v (inr r) e = round-run v r e

pub read-run : (v : View) (as_read : ReadAs) → IsInRun v → is_round v.scene.stage ≡ true → IsInRun (after v (Read as_read))
read-run v as_read (inl h) e = inl (same-setup v.scene (after v (Read as_read)).scene refl h)
read-run v as_read (inr r) e = round-run v r e

-- before the first turn there is no run
pub first-run : IsInRun at_first
first-run = inr (record { resting = refl; calls = refl })

course-run : (v : View) (moves : List Move) → IsInRun v → IsCourse v moves → IsInRun (view_from v moves)
course-run v [] h c = h
course-run v (Begin ∷ moves) h c = course-run (after v Begin) moves (begin-run v h c.0.idle.round) c.1
course-run v (Read as_read ∷ moves) h c = course-run (after v (Read as_read)) moves (read-run v as_read h c.0.idle.round) c.1
course-run v (Make turn ∷ moves) h c = course-run (after_turn v turn) moves (turn-run v turn h c.0) c.1

-- at the end of a lawful log
pub stands-run : (log : List Turn) (v : View) → Stands log v → IsInRun v
stands-run log v s = subst IsInRun s.view_is (course-run at_first s.course first-run s.lawful)

-- while an event may come, the setup is known
pub polled-setup : (v : View) → IsInRun v → v.scene.stage ≡ AtPoll → HasSetup v.scene
polled-setup v (inl h) e = h
polled-setup v (inr r) e = resting-poll v r e

-- ---- the limits

-- where the setup is known, it lies within the limits
abbrev IsKnownWithin : Option Setup → Type 0
IsKnownWithin None = Unit {0}
IsKnownWithin (Some setup) = IsSetup setup

turn-within : (v : View) (turn : Turn) → IsKnownWithin v.scene.setup → AllowedTurn v turn → IsKnownWithin (after_turn v turn).scene.setup
turn-within v (Start setup) h ok = ok.1
turn-within v OpenFailed h ok = tt
turn-within v (Polled now) h ok = h
turn-within v (Opened till) h ok = h
turn-within v (HeardTill till bytes) h ok = h
turn-within v (Closed till) h ok = h
turn-within v (HeardPt pt bytes) h ok = h
turn-within v (Lost pt) h ok = h
turn-within v Stopped h ok = h
turn-within v (Linked pt) h ok = h
turn-within v (LinkFailed pt) h ok = h
turn-within v (SentTill till bytes true) h ok = h
turn-within v (SentTill till bytes false) h ok = h
turn-within v (SentPt pt bytes true) h ok = h
turn-within v (SentPt pt bytes false) h ok = h
turn-within v (CutTill till) h ok = h
turn-within v (CutPt pt) h ok = h
turn-within v (Wrote offset bytes) h ok = h
turn-within v Synced h ok = h
turn-within v DiskFailed h ok = h
turn-within v (Crash file) h ok = tt

course-within : (v : View) (moves : List Move) → IsKnownWithin v.scene.setup → IsCourse v moves → IsKnownWithin (view_from v moves).scene.setup
course-within v [] h c = h
course-within v (Begin ∷ moves) h c = course-within (after v Begin) moves (subst IsKnownWithin (sym (begin-setup v.scene v.items)) h) c.1
course-within v (Read as_read ∷ moves) h c = course-within (after v (Read as_read)) moves h c.1
course-within v (Make turn ∷ moves) h c = course-within (after_turn v turn) moves (turn-within v turn h c.0) c.1

pub setup-within-limits : SetupIsWithinLimits
setup-within-limits log v setup s e = subst IsKnownWithin (ap (λ (w : View). w.scene.setup) s.view_is ∙ e) (course-within at_first s.course tt s.lawful)
