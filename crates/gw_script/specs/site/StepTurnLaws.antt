-- The laws of the turns of a site's steps: the steps determine them, one part a step.
use Rattle.std.specs.Prelude.{◌≡◌, ◌⊎◌, ◌↔◌, Decides, List, [], ◌∷◌, ◌++◌, Some, length}
use Rattle.gw_bytes.specs.Bytes.{IsPrefix}
use Rattle.gw_site.specs.declared.turn.Turn.{Turn}
use Rattle.gw_site.specs.Steps.{SiteCall, SiteStep, Made, PowerBack, log_of_parts}
use Rattle.gw_script.specs.site.Calls.{PlaysBy, Reaches}
use Rattle.gw_script.specs.site.Playing.{Idle, Play}
use Rattle.gw_script.specs.site.ScriptLine.{PlayedLine}
use Rattle.gw_script.specs.site.StepTurns.{CanTake, PlaysInParts, StepFits, is_idle, place_after_step, site_turns, step_turns, turns_by}

-- whether a call or poll may come is decided by the test
abbrev pub IdleIsDecided : Type 0
IdleIsDecided = (p : Play) → Decides (is_idle p) (Idle p)

-- a step may be taken with these turns exactly where they are those that are computed
abbrev pub StepHasItsTurns : Type 0
StepHasItsTurns = (past : List Turn) (p : Play) (step : SiteStep) (turns : List Turn) → StepFits past p step turns ↔ (step_turns past p step ≡ Some turns)

-- the turns of steps, and their log
pub record StepsHaveTheirTurns : Type 0 where
  -- steps can be taken with these turns exactly where they are those that are computed, one part for each step
  pub in_parts : (lines : List PlayedLine) (steps : List SiteStep) (parts : List (List Turn)) → PlaysInParts lines steps parts ↔ ((site_turns lines steps ≡ parts) × (length parts ≡ length steps))
  -- a log that steps have, also beside the script, is the turns of each, one after the other
  pub log_in_parts : (lines : List PlayedLine) (steps : List SiteStep) (log : List Turn) → PlaysBy lines steps log ↔ ((parts : List (List Turn)) × PlaysInParts lines steps parts × (log ≡ log_of_parts parts))
  -- and steps have a log exactly where one part is computed for each of them, and the parts in one are the log
  pub computed : (lines : List PlayedLine) (steps : List SiteStep) (log : List Turn) → PlaysBy lines steps log ↔ ((length (site_turns lines steps) ≡ length steps) × (log ≡ log_of_parts (site_turns lines steps)))

-- the turns of steps from any place on, by the first of them: where it may be taken its turns, and then those of the others from where it leads; else none
pub record FirstHasItsTurns : Type 0 where
  pub taken : (past : List Turn) (p : Play) (step : SiteStep) (turns : List Turn) (steps : List SiteStep) → StepFits past p step turns → turns_by past p (step ∷ steps) ≡ turns ∷ turns_by (past ++ turns) (place_after_step past p step) steps
  pub not_taken : (past : List Turn) (p : Play) (step : SiteStep) (steps : List SiteStep) → ((turns : List Turn) → ¬ StepFits past p step turns) → turns_by past p (step ∷ steps) ≡ []

-- the turns of more steps, after those that have led to a log and a place, are those that they have from there
abbrev pub MoreHaveTheirTurns : Type 0
MoreHaveTheirTurns = (lines : List PlayedLine) (steps more : List SiteStep) (log : List Turn) (place : Play) → Reaches lines steps log place → site_turns lines (steps ++ more) ≡ site_turns lines steps ++ turns_by log place more

-- a call may be made or the power may be there again, and never both
pub record CallOrPower : Type 0 where
  -- where steps have led, any call may be made, or the power has failed
  pub either : (lines : List PlayedLine) (steps : List SiteStep) (log : List Turn) (place : Play) (call : SiteCall) → Reaches lines steps log place
      → ((turns : List Turn) × StepFits log place (Made call) turns) ⊎ ((turns : List Turn) × StepFits log place PowerBack turns)
  pub never_both : (past : List Turn) (p : Play) (call : SiteCall) (turns other : List Turn) → StepFits past p (Made call) turns → ¬ StepFits past p PowerBack other

-- the turns of more steps begin with those of the first of them
abbrev pub LongerTurnsBegin : Type 0
LongerTurnsBegin = (lines : List PlayedLine) (steps more : List SiteStep) → IsPrefix (site_turns lines steps) (site_turns lines (steps ++ more))

-- the steps begin with these, which a site that plays these lines can take, and with no more that it can
pub record IsLongestTaken (lines : List PlayedLine) (steps taken rest : List SiteStep) : Type 0 where
  pub steps_are : steps ≡ taken ++ rest
  pub can : CanTake lines taken
  pub no_more : (more later : List SiteStep) → rest ≡ more ++ later → CanTake lines (taken ++ more) → more ≡ []

-- steps have the turns of as many of the first of them as can be taken
abbrev pub LongestIsTaken : Type 0
LongestIsTaken = (lines : List PlayedLine) (steps : List SiteStep) → (taken : List SiteStep) × (rest : List SiteStep) × IsLongestTaken lines steps taken rest × (site_turns lines steps ≡ site_turns lines taken)
