-- The turns of a site's steps, one part a step: which steps can be taken with which turns, and the function that computes the turns for as long as the steps can be taken.
use Rattle.std.specs.Prelude.{◌≡◌, Bool, not, ◌&&◌, if◌then◌else◌, List, [], ◌∷◌, ◌++◌, Option, Some, None, is_none}
use Rattle.gw_site.specs.Outside.{Outside, outside_of}
use Rattle.gw_site.specs.declared.turn.Turn.{Turn}
use Rattle.gw_site.specs.declared.turn.Turn.TheVariants.{Crash}
use Rattle.gw_site.specs.Steps.{ImageKind, SiteStep, Made, PowerBack, StopAfter, Holding}
use Rattle.pt_core.specs.Serving.{TerminalValue}
use Rattle.gw_script.specs.Decode.{is_empty}
use Rattle.gw_script.specs.site.ScriptLine.{PlayedLine}
use Rattle.gw_script.specs.site.Hazards.{crash_file}
use Rattle.gw_script.specs.site.Playing.{Play, begins, begins_with, restarted}
use Rattle.gw_script.specs.site.Calls.{CallFits, call_turns, place_after, set_to_fail}

-- ---- one step

-- after this log the step may be taken here, with these turns: a call with its own; that the power is there again is the power failure with the file that it left; that the power is set to fail is no turn; and before the first turn a file may be put on the disk, which is a power failure with it
abbrev pub StepFits : List Turn → Play → SiteStep → List Turn → Type 0
StepFits past p (Made call) turns = CallFits (outside_of past) p call turns
StepFits past p PowerBack turns = (kind : ImageKind) × (p.off ≡ Some kind) × (turns ≡ Crash (crash_file kind (outside_of past)) ∷ [])
StepFits past p (StopAfter calls kind) turns = turns ≡ []
StepFits past p (Holding file) turns = (past ≡ []) × (turns ≡ Crash file ∷ [])

-- how far the script is played after the step
abbrev pub place_after_step : List Turn → Play → SiteStep → Play
place_after_step past p (Made call) = place_after (outside_of past) p call
place_after_step past p PowerBack = restarted p
place_after_step past p (StopAfter calls kind) = set_to_fail calls kind p
place_after_step past p (Holding file) = p

-- ---- steps, one after the other

-- after this log the steps can be taken one after the other, and these are the turns of each
abbrev pub LeadsInParts : List Turn → Play → List SiteStep → List (List Turn) → Type 0
LeadsInParts past p [] parts = parts ≡ []
LeadsInParts past p (step ∷ steps) [] = ⊥
LeadsInParts past p (step ∷ steps) (turns ∷ parts) = StepFits past p step turns × LeadsInParts (past ++ turns) (place_after_step past p step) steps parts

-- a site that plays these lines can take these steps, and these are the turns of each
abbrev pub PlaysInParts : List PlayedLine → List SiteStep → List (List Turn) → Type 0
PlaysInParts lines steps parts = LeadsInParts [] (begins lines) steps parts

-- a site that plays these lines can take these steps
abbrev pub CanTake : List PlayedLine → List SiteStep → Type 0
CanTake lines steps = (parts : List (List Turn)) × PlaysInParts lines steps parts

-- ---- the function

-- no event and no failure of the disk is due, and the power is there
abbrev pub is_idle : Play → Bool
is_idle p = is_empty p.due && not p.failing && is_none p.off

-- the power failure with the file that is left, where the power has failed
abbrev pub power_turns : Outside → Option ImageKind → Option (List Turn)
power_turns o None = None
power_turns o (Some kind) = Some (Crash (crash_file kind o) ∷ [])

-- the turns of the step, where it may be taken after this log
abbrev pub step_turns : List Turn → Play → SiteStep → Option (List Turn)
step_turns past p (Made call) = if is_idle p then Some (call_turns (outside_of past) p call) else None
step_turns past p PowerBack = power_turns (outside_of past) p.off
step_turns past p (StopAfter calls kind) = Some []
step_turns past p (Holding file) = if is_empty past then Some (Crash file ∷ []) else None

-- the turns of a step, and after them those of later steps; where the step can't be taken none, nor of later steps
abbrev pub with_those_after : Option (List Turn) → (List Turn → List (List Turn)) → List (List Turn)
with_those_after None later = []
with_those_after (Some turns) later = turns ∷ later turns

-- after this log the turns of each step, for as long as the steps can be taken
abbrev pub turns_by : List Turn → Play → List SiteStep → List (List Turn)
turns_by past p [] = []
turns_by past p (step ∷ steps) = with_those_after (step_turns past p step) (λ turns. turns_by (past ++ turns) (place_after_step past p step) steps)

-- the turns of each step of a site that plays these lines, for as long as the steps can be taken
abbrev pub site_turns : List PlayedLine → List SiteStep → List (List Turn)
site_turns lines steps = turns_by [] (begins lines) steps

-- the turns of each step of a site that plays these terminals and lines, for as long as the steps can be taken
abbrev pub site_turns_with : List TerminalValue → List PlayedLine → List SiteStep → List (List Turn)
site_turns_with terminals lines steps = turns_by [] (begins_with terminals lines) steps
