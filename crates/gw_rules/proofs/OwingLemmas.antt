-- Which calls are owed along a course: those of its view, or those that a failed call on the disk has left.
use Rattle.std.proofs.Common.{◌≡◌, ℕ, List, [], ◌∷◌, refl, sym, ◌∙◌, ap, subst, true, false, inl, inr}
use Rattle.std.specs.Prelude.{Bool, ◌⊎◌, if◌then◌else◌, Some}
use Rattle.gw_site.specs.declared.turn.Turn.{Turn}
use Rattle.gw_site.specs.declared.turn.Turn.TheVariants.{Start, OpenFailed, Polled, Opened, HeardTill, Closed, HeardPt, Lost, Stopped, Linked, LinkFailed, SentTill, SentPt, CutTill, CutPt, Wrote, Synced, DiskFailed, Crash}
use Rattle.gw_owes.specs.Calls.{OwedCall}
use Rattle.gw_rules.specs.Lawful.{first_call, Allowed, AllowedTurn, IsCourse}
use Rattle.gw_rules.specs.Stage.{Stage, Resting, Opening, Looking, AtPoll, Handling, Over, Broken, busy, is_running, is_looking, is_broken, stage_synced, stage_wrote}
use Rattle.gw_rules.specs.TranscriptLaws.{owed_after, owed_from, ClearOwesItsCalls}
use Rattle.gw_rules.specs.View.{View, Move, Begin, Read, Make, after, after_turn, view_from, at_first}
use Rattle.gw_rules.proofs.CourseLemmas.{begin-stage}
use Rattle.gw_rules.proofs.StageLemmas.{no-true, no-call, handling-not-polled, round-busy, busy-broken}

-- ---- stages

broken-is : (stage : Stage) → is_broken stage ≡ true → stage ≡ Broken
broken-is Resting e = no-true e
broken-is (Opening refused) e = no-true e
broken-is (Looking refused) e = no-true e
broken-is AtPoll e = no-true e
broken-is Handling e = no-true e
broken-is Over e = no-true e
broken-is Broken e = refl

-- where the stage admits what none does after a failed call on the disk, no such call has failed
pub clear-where : (stage : Stage) (admits : Stage → Bool) → admits Broken ≡ false → admits stage ≡ true → is_broken stage ≡ false
clear-where stage admits never e = by_test (is_broken stage) refl
  where
    by_test : (test : Bool) → is_broken stage ≡ test → is_broken stage ≡ false
    by_test true broken = no-true (sym never ∙ sym (ap admits (broken-is stage broken)) ∙ e)
    by_test false clear = clear

pub wrote-broken : (stage : Stage) → is_broken (stage_wrote stage) ≡ is_broken stage
wrote-broken Resting = refl
wrote-broken (Opening refused) = refl
wrote-broken (Looking refused) = refl
wrote-broken AtPoll = refl
wrote-broken Handling = refl
wrote-broken Over = refl
wrote-broken Broken = refl

pub synced-broken : (stage : Stage) → is_broken (stage_synced stage) ≡ is_broken stage
synced-broken Resting = refl
synced-broken (Opening refused) = refl
synced-broken (Looking refused) = refl
synced-broken AtPoll = refl
synced-broken Handling = refl
synced-broken Over = refl
synced-broken Broken = refl

-- an event may come
abbrev is_polled : Stage → Bool
is_polled Resting = false
is_polled (Opening refused) = false
is_polled (Looking refused) = false
is_polled AtPoll = true
is_polled Handling = false
is_polled Over = false
is_polled Broken = false

busy-polled : (stage : Stage) → is_polled (busy stage) ≡ false
busy-polled Resting = refl
busy-polled (Opening refused) = refl
busy-polled (Looking refused) = refl
busy-polled AtPoll = refl
busy-polled Handling = refl
busy-polled Over = refl
busy-polled Broken = refl

wrote-polled : (stage : Stage) → is_polled (stage_wrote stage) ≡ false
wrote-polled Resting = refl
wrote-polled (Opening refused) = refl
wrote-polled (Looking refused) = refl
wrote-polled AtPoll = refl
wrote-polled Handling = refl
wrote-polled Over = refl
wrote-polled Broken = refl

synced-polled : (stage : Stage) → is_polled (stage_synced stage) ≡ false
synced-polled Resting = refl
synced-polled (Opening refused) = refl
synced-polled (Looking refused) = refl
synced-polled AtPoll = refl
synced-polled Handling = refl
synced-polled Over = refl
synced-polled Broken = refl

never-polled : {A : Type 0} (stage : Stage) → is_polled stage ≡ false → stage ≡ AtPoll → A
never-polled stage none e = no-true (sym none ∙ ap is_polled e)

-- ---- what holds along a course

-- these calls are owed, those of the view but after a failed call on the disk; of the view none is owed after that, nor where an event may come
pub record IsOwing (calls : List OwedCall) (v : View) : Type 0 where
  pub clear : is_broken v.scene.stage ≡ false → calls ≡ v.calls
  pub broken : is_broken v.scene.stage ≡ true → v.calls ≡ []
  pub polled : v.scene.stage ≡ AtPoll → v.calls ≡ []

-- after a move with which no call on the disk fails, those of the view are owed
pub after-clear : (v : View) (move : Move) → is_broken (after v move).scene.stage ≡ false → owed_after v move ≡ (after v move).calls
after-clear v move e = ap (λ (b : Bool). if b then v.calls else (after v move).calls) e

-- ---- turns

call-clear : (v : View) (call : OwedCall) → (is_broken v.scene.stage ≡ true → v.calls ≡ []) → first_call v.calls ≡ Some call → is_broken v.scene.stage ≡ false
call-clear v call none next = by_test (is_broken v.scene.stage) refl
  where
    by_test : (test : Bool) → is_broken v.scene.stage ≡ test → is_broken v.scene.stage ≡ false
    by_test true broken = no-call v.calls call (none broken) next
    by_test false clear = clear

-- after a failed call on the disk no turn comes but a power failure
pub clear-turn : (v : View) (turn : Turn) → (is_broken v.scene.stage ≡ true → v.calls ≡ []) → AllowedTurn v turn → (is_broken v.scene.stage ≡ false) ⊎ ((file : List ℕ) × (turn ≡ Crash file))
clear-turn v (Start setup) none ok = inl ok.0
clear-turn v OpenFailed none ok = inl ok
clear-turn v (Polled now) none ok = inl (clear-where v.scene.stage is_running refl ok.running)
clear-turn v (Opened till) none ok = inl (ap is_broken ok.0)
clear-turn v (HeardTill till bytes) none ok = inl (ap is_broken ok.0.polled)
clear-turn v (Closed till) none ok = inl (ap is_broken ok.polled)
clear-turn v (HeardPt pt bytes) none ok = inl (ap is_broken ok.0.polled)
clear-turn v (Lost pt) none ok = inl (ap is_broken ok.polled)
clear-turn v Stopped none ok = inl (ap is_broken ok)
clear-turn v (Linked pt) none ok = inl (call-clear v _ none ok)
clear-turn v (LinkFailed pt) none ok = inl (call-clear v _ none ok)
clear-turn v (SentTill till bytes true) none ok = inl (call-clear v _ none ok.1)
clear-turn v (SentTill till bytes false) none ok = inl (call-clear v _ none ok.1)
clear-turn v (SentPt pt bytes true) none ok = inl (call-clear v _ none ok.1)
clear-turn v (SentPt pt bytes false) none ok = inl (call-clear v _ none ok.1)
clear-turn v (CutTill till) none ok = inl (call-clear v _ none ok)
clear-turn v (CutPt pt) none ok = inl (call-clear v _ none ok)
clear-turn v (Wrote offset bytes) none ok = inl (call-clear v _ none ok.1)
clear-turn v Synced none ok = inl (call-clear v _ none ok)
clear-turn v DiskFailed none (inl next) = inl (call-clear v _ none next)
clear-turn v DiskFailed none (inr looking) = inl (clear-where v.scene.stage is_looking refl looking)
clear-turn v (Crash file) none ok = inr (file, refl)

-- no other turn says that a call on the disk has failed
pub turn-clear : (v : View) (turn : Turn) → is_broken v.scene.stage ≡ false → (turn ≡ DiskFailed) ⊎ (is_broken (after_turn v turn).scene.stage ≡ false)
turn-clear v (Start setup) clear = inr refl
turn-clear v OpenFailed clear = inr refl
turn-clear v (Polled now) clear = inr refl
turn-clear v (Opened till) clear = inr refl
turn-clear v (HeardTill till bytes) clear = inr refl
turn-clear v (Closed till) clear = inr refl
turn-clear v (HeardPt pt bytes) clear = inr refl
turn-clear v (Lost pt) clear = inr refl
turn-clear v Stopped clear = inr refl
turn-clear v (Linked pt) clear = inr (busy-broken v.scene.stage ∙ clear)
turn-clear v (LinkFailed pt) clear = inr (busy-broken v.scene.stage ∙ clear)
turn-clear v (SentTill till bytes true) clear = inr (busy-broken v.scene.stage ∙ clear)
turn-clear v (SentTill till bytes false) clear = inr (busy-broken v.scene.stage ∙ clear)
turn-clear v (SentPt pt bytes true) clear = inr (busy-broken v.scene.stage ∙ clear)
turn-clear v (SentPt pt bytes false) clear = inr (busy-broken v.scene.stage ∙ clear)
turn-clear v (CutTill till) clear = inr (busy-broken v.scene.stage ∙ clear)
turn-clear v (CutPt pt) clear = inr (busy-broken v.scene.stage ∙ clear)
turn-clear v (Wrote offset bytes) clear = inr (wrote-broken v.scene.stage ∙ clear)
turn-clear v Synced clear = inr (synced-broken v.scene.stage ∙ clear)
turn-clear v DiskFailed clear = inl refl
turn-clear v (Crash file) clear = inr refl

turn-polled : (v : View) (turn : Turn) → (after_turn v turn).scene.stage ≡ AtPoll → (after_turn v turn).calls ≡ []
turn-polled v (Start setup) e = never-polled (after_turn v (Start setup)).scene.stage refl e
turn-polled v OpenFailed e = refl
turn-polled v (Polled now) e = refl
turn-polled v (Opened till) e = refl
turn-polled v (HeardTill till bytes) e = refl
turn-polled v (Closed till) e = refl
turn-polled v (HeardPt pt bytes) e = refl
turn-polled v (Lost pt) e = refl
turn-polled v Stopped e = refl
turn-polled v (Linked pt) e = never-polled (busy v.scene.stage) (busy-polled v.scene.stage) e
turn-polled v (LinkFailed pt) e = never-polled (busy v.scene.stage) (busy-polled v.scene.stage) e
turn-polled v (SentTill till bytes true) e = never-polled (busy v.scene.stage) (busy-polled v.scene.stage) e
turn-polled v (SentTill till bytes false) e = never-polled (busy v.scene.stage) (busy-polled v.scene.stage) e
turn-polled v (SentPt pt bytes true) e = never-polled (busy v.scene.stage) (busy-polled v.scene.stage) e
turn-polled v (SentPt pt bytes false) e = never-polled (busy v.scene.stage) (busy-polled v.scene.stage) e
turn-polled v (CutTill till) e = never-polled (busy v.scene.stage) (busy-polled v.scene.stage) e
turn-polled v (CutPt pt) e = never-polled (busy v.scene.stage) (busy-polled v.scene.stage) e
turn-polled v (Wrote offset bytes) e = never-polled (stage_wrote v.scene.stage) (wrote-polled v.scene.stage) e
turn-polled v Synced e = never-polled (stage_synced v.scene.stage) (synced-polled v.scene.stage) e
turn-polled v DiskFailed e = refl
turn-polled v (Crash file) e = refl

turn-broken : (v : View) (turn : Turn) → (is_broken v.scene.stage ≡ true → v.calls ≡ []) → AllowedTurn v turn → is_broken (after_turn v turn).scene.stage ≡ true → (after_turn v turn).calls ≡ []
turn-broken v turn none ok e = by_clear (clear-turn v turn none ok)
  where
    by_turn : (turn ≡ DiskFailed) ⊎ (is_broken (after_turn v turn).scene.stage ≡ false) → (after_turn v turn).calls ≡ []
    by_turn (inl failed) = ap (λ t. (after_turn v t).calls) failed
    by_turn (inr clear) = no-true (sym clear ∙ e)

    by_clear : (is_broken v.scene.stage ≡ false) ⊎ ((file : List ℕ) × (turn ≡ Crash file)) → (after_turn v turn).calls ≡ []
    by_clear (inl clear) = by_turn (turn-clear v turn clear)
    by_clear (inr crash) = ap (λ t. (after_turn v t).calls) crash.1

-- ---- along a course

pub move-owing : (calls : List OwedCall) (v : View) (move : Move) → IsOwing calls v → Allowed v move → IsOwing (owed_after v move) (after v move)
move-owing calls v Begin o ok =
    let at : (after v Begin).scene.stage ≡ Handling = begin-stage v.scene v.items ∙ round-busy v.scene.stage ok.idle.round in
    record { clear = after-clear v Begin; broken = λ e. no-true (sym (ap is_broken at) ∙ e); polled = λ e. handling-not-polled (sym at ∙ e) }
move-owing calls v (Read as_read) o ok = record { clear = after-clear v (Read as_read); broken = λ e. refl; polled = λ e. refl }
move-owing calls v (Make turn) o ok = record { clear = after-clear v (Make turn); broken = turn-broken v turn o.broken ok; polled = turn-polled v turn }

course-owing : (calls : List OwedCall) (v : View) (moves : List Move) → IsOwing calls v → IsCourse v moves → IsOwing (owed_from v calls moves) (view_from v moves)
course-owing calls v [] o c = o
course-owing calls v (move ∷ moves) o c = course-owing (owed_after v move) (after v move) moves (move-owing calls v move o c.0) c.1

-- before the first turn nothing is owed
pub first-owing : IsOwing [] at_first
first-owing = record { clear = λ e. refl; broken = λ e. refl; polled = λ e. refl }

pub clear-owes-calls : ClearOwesItsCalls
clear-owes-calls log v s clear = (subst (IsOwing (owed_from at_first [] s.course)) s.view_is (course-owing [] at_first s.course first-owing s.lawful)).clear clear
