-- While a run opens its journal, calls on the disk are owed and no others.
use Rattle.std.proofs.Common.{◌≡◌, List, [], ◌∷◌, refl, sym, ◌∙◌, ap, subst, true, false}
use Rattle.std.proofs.lemmas.Bool.{and_parts}
use Rattle.std.specs.Prelude.{Bool, ◌&&◌, Some, None}
use Rattle.gw_base.specs.declared.setup.Setup.{Setup}
use Rattle.gw_site.specs.declared.turn.Turn.{Turn}
use Rattle.gw_site.specs.declared.turn.Turn.TheVariants.{Start, OpenFailed, Polled, Opened, HeardTill, Closed, HeardPt, Lost, Stopped, Linked, LinkFailed, SentTill, SentPt, CutTill, CutPt, Wrote, Synced, DiskFailed, Crash}
use Rattle.gw_owes.specs.Calls.{OwedCall}
use Rattle.gw_rules.specs.JournalFiles.{is_on_disk}
use Rattle.gw_rules.specs.Lawful.{first_call, AllowedTurn, IsCourse}
use Rattle.gw_rules.specs.Scene.{records_of}
use Rattle.gw_rules.specs.Stage.{Stage, Resting, Opening, Looking, AtPoll, Handling, Over, Broken, busy, is_looking, stage_synced, stage_wrote}
use Rattle.gw_rules.specs.View.{View, Move, Begin, Read, Make, later, after, after_turn, view_from, at_first}
use Rattle.gw_rules.proofs.CourseLemmas.{begin-stage}
use Rattle.gw_rules.proofs.OpensLemmas.{opens-all}
use Rattle.gw_rules.proofs.StageLemmas.{no-true, round-busy}

abbrev pub is_opening : Stage → Bool
is_opening Resting = false
is_opening (Opening refused) = true
is_opening (Looking refused) = true
is_opening AtPoll = false
is_opening Handling = false
is_opening Over = false
is_opening Broken = false

abbrev pub all_on_disk : List OwedCall → Bool
all_on_disk [] = true
all_on_disk (call ∷ calls) = is_on_disk call && all_on_disk calls

pub record OwesDisk (v : View) : Type 0 where
  pub disk : is_opening v.scene.stage ≡ true → all_on_disk v.calls ≡ true

first-disk : (calls : List OwedCall) (call : OwedCall) → all_on_disk calls ≡ true → first_call calls ≡ Some call → is_on_disk call ≡ true
first-disk [] call h e = absurd (let n : None ≡ Some call = e in cc)
first-disk (first ∷ calls) call h e = subst (λ c. is_on_disk c ≡ true) (let n : Some first ≡ Some call = e in cc) (and_parts (is_on_disk first) (all_on_disk calls) h).0

later-disk : (calls : List OwedCall) → all_on_disk calls ≡ true → all_on_disk (later calls) ≡ true
later-disk [] h = h
later-disk (call ∷ calls) h = (and_parts (is_on_disk call) (all_on_disk calls) h).1

pub busy-opening : (stage : Stage) → is_opening (busy stage) ≡ is_opening stage
busy-opening Resting = refl
busy-opening (Opening refused) = refl
busy-opening (Looking refused) = refl
busy-opening AtPoll = refl
busy-opening Handling = refl
busy-opening Over = refl
busy-opening Broken = refl

pub wrote-opening : (stage : Stage) → is_opening (stage_wrote stage) ≡ true → is_opening stage ≡ true
wrote-opening Resting e = e
wrote-opening (Opening refused) e = e
wrote-opening (Looking refused) e = no-true e
wrote-opening AtPoll e = e
wrote-opening Handling e = e
wrote-opening Over e = e
wrote-opening Broken e = e

pub synced-opening : (stage : Stage) → is_opening (stage_synced stage) ≡ true → is_opening stage ≡ true
synced-opening Resting e = e
synced-opening (Opening refused) e = refl
synced-opening (Looking refused) e = e
synced-opening AtPoll e = e
synced-opening Handling e = e
synced-opening Over e = e
synced-opening Broken e = e

looking-opening : (stage : Stage) → is_looking stage ≡ true → is_opening stage ≡ true
looking-opening Resting e = e
looking-opening (Opening refused) e = refl
looking-opening (Looking refused) e = refl
looking-opening AtPoll e = e
looking-opening Handling e = e
looking-opening Over e = e
looking-opening Broken e = e

not-opening : {A : Type 0} (v : View) (call : OwedCall) → OwesDisk v → first_call v.calls ≡ Some call → is_on_disk call ≡ false → is_opening (busy v.scene.stage) ≡ true → A
not-opening v call d next other e = no-true (sym other ∙ first-disk v.calls call (d.disk (sym (busy-opening v.scene.stage) ∙ e)) next)

-- once another call was made, no file is looked at
pub other-not-looking : {A : Type 0} (v : View) (call : OwedCall) → OwesDisk v → first_call v.calls ≡ Some call → is_on_disk call ≡ false → is_looking (busy v.scene.stage) ≡ true → A
other-not-looking v call d next other e = not-opening v call d next other (looking-opening (busy v.scene.stage) e)

-- a run that begins opens its journal
pub start-owes-disk : (v : View) (setup : Setup) → OwesDisk (after_turn v (Start setup))
start-owes-disk v setup = record { disk = λ e. opens-all (λ calls. all_on_disk calls ≡ true) refl refl setup v.scene.outside.file (records_of v.scene) }

turn-disk : (v : View) (turn : Turn) → OwesDisk v → AllowedTurn v turn → OwesDisk (after_turn v turn)
turn-disk v (Start setup) d ok = start-owes-disk v setup
turn-disk v OpenFailed d ok = record { disk = λ e. refl }
turn-disk v (Polled now) d ok = record { disk = λ e. refl }
turn-disk v (Opened till) d ok = record { disk = λ e. refl }
turn-disk v (HeardTill till bytes) d ok = record { disk = λ e. refl }
turn-disk v (Closed till) d ok = record { disk = λ e. refl }
turn-disk v (HeardPt pt bytes) d ok = record { disk = λ e. refl }
turn-disk v (Lost pt) d ok = record { disk = λ e. refl }
turn-disk v Stopped d ok = record { disk = λ e. refl }
turn-disk v (Linked pt) d ok = record { disk = λ e. not-opening v _ d ok refl e }
turn-disk v (LinkFailed pt) d ok = record { disk = λ e. not-opening v _ d ok refl e }
turn-disk v (SentTill till bytes true) d ok = record { disk = λ e. not-opening v _ d ok.1 refl e }
turn-disk v (SentTill till bytes false) d ok = record { disk = λ e. not-opening v _ d ok.1 refl e }
turn-disk v (SentPt pt bytes true) d ok = record { disk = λ e. not-opening v _ d ok.1 refl e }
turn-disk v (SentPt pt bytes false) d ok = record { disk = λ e. not-opening v _ d ok.1 refl e }
turn-disk v (CutTill till) d ok = record { disk = λ e. not-opening v _ d ok refl e }
turn-disk v (CutPt pt) d ok = record { disk = λ e. not-opening v _ d ok refl e }
turn-disk v (Wrote offset bytes) d ok = record { disk = λ e. later-disk v.calls (d.disk (wrote-opening v.scene.stage e)) }
turn-disk v Synced d ok = record { disk = λ e. later-disk v.calls (d.disk (synced-opening v.scene.stage e)) }
turn-disk v DiskFailed d ok = record { disk = λ e. refl }
turn-disk v (Crash file) d ok = record { disk = λ e. refl }

pub course-disk : (v : View) (moves : List Move) → OwesDisk v → IsCourse v moves → OwesDisk (view_from v moves)
course-disk v [] d c = d
course-disk v (Begin ∷ moves) d c = course-disk (after v Begin) moves (record { disk = λ e. no-true (sym (ap is_opening (begin-stage v.scene v.items ∙ round-busy v.scene.stage c.0.idle.round)) ∙ e) }) c.1
course-disk v (Read as_read ∷ moves) d c = course-disk (after v (Read as_read)) moves (record { disk = λ e. refl }) c.1
course-disk v (Make turn ∷ moves) d c = course-disk (after_turn v turn) moves (turn-disk v turn d c.0) c.1

pub first-owes-disk : OwesDisk at_first
first-owes-disk = record { disk = λ e. refl }
