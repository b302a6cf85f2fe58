-- How often the power fails: by the lines of a script, by a log, and by how far the lines are played.
use Rattle.std.specs.Prelude.{◌≡◌, ◌≤◌, ◌<◌, ℕ, ◌+◌, ◌-◌, Bool, true, ◌||◌, if◌then◌else◌, List, [], ◌∷◌, ◌++◌, Some, is_some}
use Rattle.gw_site.specs.Outside.{Outside}
use Rattle.gw_site.specs.Sorts as sorts
use Rattle.gw_site.specs.Sorts.{TurnSort, OpeningOutcome, CallOutcome, PowerFailure, sort_of}
use Rattle.gw_site.specs.declared.turn.Turn.{Turn}
use Rattle.gw_site.specs.declared.turn.Turn.TheVariants.{Crash}
use Rattle.gw_site.specs.Steps.{SiteCall, SiteStep, ImageKind}
use Rattle.gw_script.specs.site.Calls.{Reaches, are_scripted, place_after, set_to_fail}
use Rattle.gw_script.specs.site.Playing.{Play, PlaysLines, PlaysTo, restarted}
use Rattle.gw_script.specs.site.ScriptLine.{PlayedLine, At, Poll, Fail, Power, ForgetPower}

-- how many of the lines say that the power fails
abbrev pub power_lines : List PlayedLine → ℕ
power_lines [] = 0
power_lines (At now ∷ lines) = power_lines lines
power_lines (Poll event ∷ lines) = power_lines lines
power_lines (Fail failing ∷ lines) = power_lines lines
power_lines (Power calls kind ∷ lines) = 1 + power_lines lines
power_lines (ForgetPower ∷ lines) = power_lines lines

-- how many power failures a turn of this sort is: one or none
abbrev pub failures_of : TurnSort → ℕ
failures_of OpeningOutcome = 0
failures_of sorts.Poll = 0
failures_of sorts.Event = 0
failures_of CallOutcome = 0
failures_of PowerFailure = 1

-- how many of the turns are power failures
abbrev pub power_failures : List Turn → ℕ
power_failures [] = 0
power_failures (turn ∷ turns) = failures_of (sort_of turn) + power_failures turns

-- a power failure is due: the power has failed and isn't there again, or is set to fail after some more calls
abbrev pub is_failure_due : Play → Bool
is_failure_due p = is_some p.off || is_some p.hazard.power

-- how many power failures can come after this place at most: that one, and one for each power line that is left
abbrev pub power_failures_left : Play → ℕ
power_failures_left p = (if is_failure_due p then 1 else 0) + power_lines p.lines

-- the power fails at most once for each line that says so
pub record PowerFailsOncePerLine : Type 0 where
  -- whatever calls are made: the power failures of the log and those that can come after its place are no more than the power lines
  pub steps_leave : (lines : List PlayedLine) (steps : List SiteStep) (log : List Turn) (place : Play) → are_scripted steps ≡ true → Reaches lines steps log place → power_failures log + power_failures_left place ≤ power_lines lines
  -- whatever turns the log has
  pub turns_leave : (lines : List PlayedLine) (log : List Turn) (place : Play) → PlaysTo lines log place → power_failures log + power_failures_left place ≤ power_lines lines
  -- so each log that plays the lines has at most one power failure for each power line
  pub at_most : (lines : List PlayedLine) (log : List Turn) → ∥ PlaysLines lines log ∥₁ → power_failures log ≤ power_lines lines

-- each power failure leaves fewer that can come
pub record EachFailureLeavesFewer : Type 0 where
  -- exactly one fewer once the power is there again
  pub one_fewer : (place : Play) (kind : ImageKind) → place.off ≡ Some kind → power_failures_left place ≡ 1 + power_failures_left (restarted place)
  -- no more after a call
  pub no_more : (o : Outside) (place : Play) (call : SiteCall) → power_failures_left (place_after o place call) ≤ power_failures_left place
  -- one more at most where the power is set to fail beside the script
  pub one_more : (place : Play) (calls : ℕ) (kind : ImageKind) → power_failures_left (set_to_fail calls kind place) ≤ 1 + power_failures_left place
  -- by the logs: after each power failure fewer power lines are left beyond the failures
  pub by_log : (lines : List PlayedLine) (log more : List Turn) (file : List ℕ) → ∥ PlaysLines lines (log ++ (more ++ Crash file ∷ [])) ∥₁ → power_lines lines - power_failures (log ++ (more ++ Crash file ∷ [])) < power_lines lines - power_failures log

-- the power failures of a log are those of its first turns and those of the others
abbrev pub FailuresAddUp : Type 0
FailuresAddUp = (log more : List Turn) → power_failures (log ++ more) ≡ power_failures log + power_failures more
