-- The acts of an example: where nothing begins or is read, the call that is due is made, or the power is there again.
use Rattle.std.proofs.Common.{◌≡◌, List, [], ◌∷◌, ◌++◌, refl, sym, ◌∙◌, ap, subst, inl, inr, true, false, append-nil}
use Rattle.std.specs.Prelude.{ℕ, zero, suc, Bool, Option, Some, None, if◌then◌else◌, map}
use Rattle.gw_base.specs.declared.setup.Setup.{Setup}
use Rattle.gw_site.specs.Outside.{outside_of}
use Rattle.gw_site.specs.Steps.{ImageKind, SiteCall, OpenCall, PollCall, LengthCall, SiteStep, Made, PowerBack, TakenStep, turns_of_steps, steps_of}
use Rattle.gw_site.specs.declared.turn.Turn.{Turn}
use Rattle.gw_site.specs.declared.turn.Turn.TheVariants.{Crash}
use Rattle.gw_script.specs.site.Calls.{call_turns}
use Rattle.gw_script.specs.site.Hazards.{crash_file}
use Rattle.gw_script.specs.site.Playing.{Play, begins}
use Rattle.gw_script.specs.site.ScriptLine.{PlayedLine}
use Rattle.gw_script.specs.site.StepTurns.{StepFits, place_after_step, power_turns, site_turns, turns_by, with_those_after}
use Rattle.gw_script.proofs.site.CallLemmas.{IsQuiet}
use Rattle.gw_script.proofs.site.QuietLemmas.{step-leaves-quiet}
use Rattle.gw_script.proofs.site.StepTurnLemmas.{first-has-its-turns}
use Rattle.gw_owes.specs.Calls.{OwedCall, site_call}
use Rattle.gw_owes.specs.Items.{RoundItem}
use Rattle.gw_rules.specs.Acts.{Act, ToBegin, ToTake, Look, Unopened, Unmeasured, Measured, Looked, AreDue, IsDueCall, IsMeasuring, IsOwedCall, look_after_step, taken_of}
use Rattle.gw_rules.specs.Stage.{is_looking, is_running}
use Rattle.gw_rules.specs.View.{View, Move, Begin, Make, after, at_first, view_from}

-- what is done next: so many items begin, or a step is taken
pub data Doing : Type 0 where
  ItemsBegin : ℕ → Doing
  Step : Doing

-- the call that is owed, by whether the run goes on, the calls and the items
abbrev owed_call : Bool → List OwedCall → List RoundItem → Option SiteCall
owed_call running (call ∷ calls) items = Some (site_call call)
owed_call running [] (item ∷ items) = None
owed_call running [] [] = if running then Some PollCall else None

-- the call that is owed in this view
abbrev owed_in : View → Option SiteCall
owed_in v = owed_call (is_running v.scene.stage) v.calls v.items

-- the call that is due, but for a read of the file
abbrev due_call : Setup → View → Look → Option SiteCall
due_call own v Unopened = Some (OpenCall own)
due_call own v Unmeasured = if is_looking v.scene.stage then Some LengthCall else owed_in v
due_call own v Measured = None
due_call own v Looked = owed_in v

-- the next step, with its turns
abbrev call_step : List Turn → Play → Option SiteCall → Option TakenStep
call_step past p None = None
call_step past p (Some call) = Some (record { step = Made call; turns = call_turns (outside_of past) p call })

-- so it is while the power is there; else the power is there again
abbrev next_step : Setup → View → Look → List Turn → Play → Option ImageKind → Option TakenStep
next_step own v look past p None = call_step past p (due_call own v look)
next_step own v look past p (Some kind) = Some (record { step = PowerBack; turns = Crash (crash_file kind (outside_of past)) ∷ [] })

-- the first step, and the acts after it
abbrev with_step : Option TakenStep → (TakenStep → List Act) → List Act
with_step None acts = []
with_step (Some taken) acts = ToTake taken ∷ acts taken

-- so many items begin, and then come these acts
abbrev begin_then : ℕ → View → (View → List Act) → List Act
begin_then zero v acts = acts v
begin_then (suc count) v acts = ToBegin ∷ begin_then count (after v Begin) acts

-- the acts by what is done
abbrev pub acts_by : List Doing → Setup → View → Look → List Turn → Play → List Act
acts_by [] own v look past p = []
acts_by (ItemsBegin count ∷ doing) own v look past p = begin_then count v (λ w. acts_by doing own w look past p)
acts_by (Step ∷ doing) own v look past p =
    with_step (next_step own v look past p p.off) (λ taken. acts_by doing own (view_from v (map Make taken.turns)) (look_after_step own v look taken.step) (past ++ taken.turns) (place_after_step past p taken.step))

-- ---- each is due

owed-is : (v : View) (call : SiteCall) → owed_in v ≡ Some call → IsOwedCall v call
owed-is v call e = by_calls v.calls v.items (is_running v.scene.stage) refl refl refl e
  where
    by_calls : (calls : List OwedCall) (items : List RoundItem) (running : Bool) → v.calls ≡ calls → v.items ≡ items → is_running v.scene.stage ≡ running → owed_call running calls items ≡ Some call → IsOwedCall v call
    by_calls (first ∷ calls) items running c i r e = inl (first, rw c refl, let h : Some (site_call first) ≡ Some call = e in let k : call ≡ site_call first = cc in k)
    by_calls [] (item ∷ items) running c i r e = absurd (let h : None ≡ Some call = e in cc)
    by_calls [] [] true c i r e = inr (record { running = r; calls = c; items = i }, let h : Some PollCall ≡ Some call = e in let k : call ≡ PollCall = cc in k)
    by_calls [] [] false c i r e = absurd (let h : None ≡ Some call = e in cc)

due-is : (own : Setup) (v : View) (look : Look) (call : SiteCall) → due_call own v look ≡ Some call → IsDueCall own v look call
due-is own v Unopened call e = let h : Some (OpenCall own) ≡ Some call = e in let k : call ≡ OpenCall own = cc in k
due-is own v Unmeasured call e = by_looks (is_looking v.scene.stage) e
  where
    by_looks : (looks : Bool) → (if looks then Some LengthCall else owed_in v) ≡ Some call → IsMeasuring looks v call
    by_looks true e = let h : Some LengthCall ≡ Some call = e in let k : call ≡ LengthCall = cc in k
    by_looks false e = owed-is v call e
due-is own v Measured call e = absurd (let h : None ≡ Some call = e in cc)
due-is own v Looked call e = inl (owed-is v call e)

begin-due : (own : Setup) (count : ℕ) (v : View) (look : Look) (acts : View → List Act) → ((w : View) → AreDue own w look (acts w)) → AreDue own v look (begin_then count v acts)
begin-due own zero v look acts due = due v
begin-due own (suc count) v look acts due = (tt, begin-due own count (after v Begin) look acts due)

pub due-by : (doing : List Doing) (own : Setup) (v : View) (look : Look) (past : List Turn) (p : Play) → AreDue own v look (acts_by doing own v look past p)
due-by [] own v look past p = tt
due-by (ItemsBegin count ∷ doing) own v look past p = begin-due own count v look (λ w. acts_by doing own w look past p) (λ w. due-by doing own w look past p)
due-by (Step ∷ doing) own v look past p = by_off p.off (λ taken. due-by doing own (view_from v (map Make taken.turns)) (look_after_step own v look taken.step) (past ++ taken.turns) (place_after_step past p taken.step))
  where
    acts : TakenStep → List Act
    acts taken = acts_by doing own (view_from v (map Make taken.turns)) (look_after_step own v look taken.step) (past ++ taken.turns) (place_after_step past p taken.step)

    Later : Type 0
    Later = (taken : TakenStep) → AreDue own (view_from v (map Make taken.turns)) (look_after_step own v look taken.step) (acts_by doing own (view_from v (map Make taken.turns)) (look_after_step own v look taken.step) (past ++ taken.turns) (place_after_step past p taken.step))

    by_call : Later → (call : Option SiteCall) → due_call own v look ≡ call → AreDue own v look (with_step (call_step past p call) acts)
    by_call later None e = tt
    by_call later (Some call) e = (due-is own v look call e, later (record { step = Made call; turns = call_turns (outside_of past) p call }))

    by_off : (off : Option ImageKind) → Later → AreDue own v look (with_step (next_step own v look past p off) acts)
    by_off None later = by_call later (due_call own v look) refl
    by_off (Some kind) later = (tt, later (record { step = PowerBack; turns = Crash (crash_file kind (outside_of past)) ∷ [] }))

-- ---- their turns

-- a log, and a place of the script
pub record There : Type 0 where
  pub past : List Turn
  pub place : Play

-- the view once so many items have begun
abbrev items_then : ℕ → View → View
items_then zero v = v
items_then (suc count) v = items_then count (after v Begin)

-- where the step leads; without one all is as it is
abbrev step_then : List Turn → Play → Option TakenStep → (TakenStep → There) → There
step_then past p None end = record { past = past; place = p }
step_then past p (Some taken) end = end taken

-- where what is done leads
abbrev pub end_by : List Doing → Setup → View → Look → List Turn → Play → There
end_by [] own v look past p = record { past = past; place = p }
end_by (ItemsBegin count ∷ doing) own v look past p = end_by doing own (items_then count v) look past p
end_by (Step ∷ doing) own v look past p =
    step_then past p (next_step own v look past p p.off) (λ taken. end_by doing own (view_from v (map Make taken.turns)) (look_after_step own v look taken.step) (past ++ taken.turns) (place_after_step past p taken.step))

begin-taken : (count : ℕ) (v : View) (acts : View → List Act) → taken_of (begin_then count v acts) ≡ taken_of (acts (items_then count v))
begin-taken zero v acts = refl
begin-taken (suc count) v acts = begin-taken count (after v Begin) acts

-- the steps have their turns, and more steps have theirs from there
abbrev HaveTurns : List Turn → Play → List TakenStep → There → List SiteStep → Type 0
HaveTurns past p taken end more = turns_by past p (steps_of taken ++ more) ≡ turns_of_steps taken ++ turns_by end.past end.place more

turns-by-then : (doing : List Doing) (own : Setup) (v : View) (look : Look) (past : List Turn) (p : Play) (more : List SiteStep) → IsQuiet p → HaveTurns past p (taken_of (acts_by doing own v look past p)) (end_by doing own v look past p) more
turns-by-then [] own v look past p more quiet = refl
turns-by-then (ItemsBegin count ∷ doing) own v look past p more quiet =
    subst (λ taken. HaveTurns past p taken (end_by doing own (items_then count v) look past p) more) (sym (begin-taken count v (λ w. acts_by doing own w look past p))) (turns-by-then doing own (items_then count v) look past p more quiet)
turns-by-then (Step ∷ doing) own v look past p more quiet =
    by_off p.off refl (λ taken still. turns-by-then doing own (view_from v (map Make taken.turns)) (look_after_step own v look taken.step) (past ++ taken.turns) (place_after_step past p taken.step) more still)
  where
    acts : TakenStep → List Act
    acts taken = acts_by doing own (view_from v (map Make taken.turns)) (look_after_step own v look taken.step) (past ++ taken.turns) (place_after_step past p taken.step)

    end : TakenStep → There
    end taken = end_by doing own (view_from v (map Make taken.turns)) (look_after_step own v look taken.step) (past ++ taken.turns) (place_after_step past p taken.step)

    Later : Type 0
    Later = (taken : TakenStep) → IsQuiet (place_after_step past p taken.step) → HaveTurns (past ++ taken.turns) (place_after_step past p taken.step) (taken_of (acts taken)) (end taken) more

    taken_first : Later → (taken : TakenStep) → StepFits past p taken.step taken.turns → HaveTurns past p (taken ∷ taken_of (acts taken)) (end taken) more
    taken_first later taken fits =
        first-has-its-turns.taken past p taken.step taken.turns (steps_of (taken_of (acts taken)) ++ more) fits ∙ ap (λ parts. taken.turns ∷ parts) (later taken (step-leaves-quiet past p taken.step taken.turns quiet fits))

    by_call : Later → p.off ≡ None → (call : Option SiteCall) → HaveTurns past p (taken_of (with_step (call_step past p call) acts)) (step_then past p (call_step past p call) end) more
    by_call later on None = refl
    by_call later on (Some call) = taken_first later (record { step = Made call; turns = call_turns (outside_of past) p call }) (record { no_event = quiet.no_event; no_failure = quiet.no_failure; power = on }, refl)

    by_off : (off : Option ImageKind) → p.off ≡ off → Later → HaveTurns past p (taken_of (with_step (next_step own v look past p off) acts)) (step_then past p (next_step own v look past p off) end) more
    by_off None on later = by_call later on (due_call own v look)
    by_off (Some kind) e later = taken_first later (record { step = PowerBack; turns = Crash (crash_file kind (outside_of past)) ∷ [] }) (kind, e, refl)

-- what is done from the beginning of a script on
abbrev pub acts_of : List Doing → Setup → List PlayedLine → List Act
acts_of doing own lines = acts_by doing own at_first Unopened [] (begins lines)

-- where it leads
abbrev pub end_of : List Doing → Setup → List PlayedLine → Play
end_of doing own lines = (end_by doing own at_first Unopened [] (begins lines)).place

-- the steps have the turns that the script gives
pub turns-of : (doing : List Doing) (own : Setup) (lines : List PlayedLine) → site_turns lines (steps_of (taken_of (acts_of doing own lines))) ≡ turns_of_steps (taken_of (acts_of doing own lines))
turns-of doing own lines =
    let taken = taken_of (acts_of doing own lines) in
    ap (site_turns lines) (sym (append-nil (steps_of taken))) ∙ turns-by-then doing own at_first Unopened [] (begins lines) [] (record { no_event = refl; no_failure = refl }) ∙ append-nil (turns_of_steps taken)

-- and where the power is there at the end, no power failure waits
pub power-of : (doing : List Doing) (own : Setup) (lines : List PlayedLine) → (end_of doing own lines).off ≡ None → site_turns lines (steps_of (taken_of (acts_of doing own lines)) ++ PowerBack ∷ []) ≡ turns_of_steps (taken_of (acts_of doing own lines))
power-of doing own lines on =
    let taken = taken_of (acts_of doing own lines) in
    let end = end_by doing own at_first Unopened [] (begins lines) in
    turns-by-then doing own at_first Unopened [] (begins lines) (PowerBack ∷ []) (record { no_event = refl; no_failure = refl })
    ∙ ap (λ off. turns_of_steps taken ++ with_those_after (power_turns (outside_of end.past) off) (λ turns. [])) on
    ∙ append-nil (turns_of_steps taken)

-- each step is due
pub due-of : (doing : List Doing) (own : Setup) (lines : List PlayedLine) → AreDue own at_first Unopened (acts_of doing own lines)
due-of doing own lines = due-by doing own at_first Unopened [] (begins lines)

-- the turns before the last
abbrev pub before_last : List Turn → List Turn
before_last [] = []
before_last (turn ∷ []) = []
before_last (turn ∷ next ∷ turns) = turn ∷ before_last (next ∷ turns)

-- the moves after the first
abbrev pub onward : List Move → List Move
onward [] = []
onward (move ∷ moves) = moves
