-- Closed examples: the turns of steps among which are a write that fails, power failures, steps that can't be taken, and steps beside the script.
use Rattle.std.specs.Prelude.{◌≡◌, pos, true, List, [], ◌∷◌, ◌++◌}
use Rattle.gw_site.specs.declared.turn.Turn.{Turn}
use Rattle.gw_site.specs.declared.turn.Turn.TheVariants.{Start, Polled, Wrote, Synced, DiskFailed, Crash}
use Rattle.gw_site.specs.Steps.{Junk, OpenCall, PollCall, LengthCall, ReadCall, WriteCall, SyncCall, SiteStep, Made, PowerBack, StopAfter, Holding, log_of_parts}
use Rattle.gw_script.specs.site.ScriptLine.{Tick, FailWrite, Poll, Fail}
use Rattle.gw_script.specs.site.Playing.{Play}
use Rattle.gw_script.specs.site.Calls.{PlaysBy, Reaches, are_scripted}
use Rattle.gw_script.specs.site.CallExample.{disk_lines, disk_log, disk_steps, plain}
use Rattle.gw_script.specs.site.StepTurns.{PlaysInParts, StepFits, site_turns, turns_by}

-- the turns of each step of a site whose looks, writes and syncs fail, and then its power: a look has none unless it fails, and a write that fails has two
abbrev pub disk_parts : List (List Turn)
disk_parts =
    (Start plain ∷ []) ∷ [] ∷ (DiskFailed ∷ []) ∷ [] ∷ (Polled (pos 0) ∷ []) ∷ [] ∷ (Wrote 0 (1 ∷ 2 ∷ []) ∷ DiskFailed ∷ []) ∷ (DiskFailed ∷ []) ∷ (Wrote 1 (3 ∷ []) ∷ []) ∷ (Crash (165 ∷ 165 ∷ []) ∷ []) ∷ [] ∷ []

-- none of its steps was beside the script, and these are their turns, one part for each; in one they are its log
pub record DiskHasItsTurns : Type 0 where
  pub scripted : are_scripted disk_steps ≡ true
  pub computed : site_turns disk_lines disk_steps ≡ disk_parts
  pub in_parts : PlaysInParts disk_lines disk_steps disk_parts
  pub log_is : log_of_parts disk_parts ≡ disk_log
  pub plays : PlaysBy disk_lines disk_steps disk_log

-- the steps of that site until its power has failed
abbrev pub steps_before_failure : List SiteStep
steps_before_failure = Made (OpenCall plain) ∷ Made LengthCall ∷ Made (ReadCall 0 4) ∷ Made (ReadCall 0 4) ∷ Made PollCall ∷ Made LengthCall ∷ Made (WriteCall 0 (1 ∷ 2 ∷ [])) ∷ Made SyncCall ∷ Made (WriteCall 1 (3 ∷ [])) ∷ []

-- the log of these steps
abbrev pub log_before_failure : List Turn
log_before_failure = Start plain ∷ DiskFailed ∷ Polled (pos 0) ∷ Wrote 0 (1 ∷ 2 ∷ []) ∷ DiskFailed ∷ DiskFailed ∷ Wrote 1 (3 ∷ []) ∷ []

-- where they lead, the power may be there again, with the file that is left; a run that starts then has its turns after that
pub record PowerIsNext : Type 0 where
  pub place : Play
  pub scripted : are_scripted steps_before_failure ≡ true
  pub reached : Reaches disk_lines steps_before_failure log_before_failure place
  pub fits : StepFits log_before_failure place PowerBack (Crash (165 ∷ 165 ∷ []) ∷ [])
  pub more : turns_by log_before_failure place (PowerBack ∷ Made (OpenCall plain) ∷ []) ≡ (Crash (165 ∷ 165 ∷ []) ∷ []) ∷ (Start plain ∷ []) ∷ []
  pub all : site_turns disk_lines (steps_before_failure ++ PowerBack ∷ Made (OpenCall plain) ∷ []) ≡ site_turns disk_lines steps_before_failure ++ (Crash (165 ∷ 165 ∷ []) ∷ []) ∷ (Start plain ∷ []) ∷ []

-- a place at which a write fails: it has two turns, and they are the first of what follows
pub record WriteFailsNext : Type 0 where
  pub place : Play
  pub reached : Reaches (Fail FailWrite ∷ Poll Tick ∷ []) (Made (OpenCall plain) ∷ Made PollCall ∷ []) (Start plain ∷ Polled (pos 0) ∷ []) place
  pub fits : StepFits (Start plain ∷ Polled (pos 0) ∷ []) place (Made (WriteCall 0 (1 ∷ []))) (Wrote 0 (1 ∷ []) ∷ DiskFailed ∷ [])
  pub first : turns_by (Start plain ∷ Polled (pos 0) ∷ []) place (Made (WriteCall 0 (1 ∷ [])) ∷ Made SyncCall ∷ []) ≡ (Wrote 0 (1 ∷ []) ∷ DiskFailed ∷ []) ∷ (Synced ∷ []) ∷ []

-- where the power has failed no call can be made: it has no turns, and no step after it has
abbrev pub NoCallWithoutPower : Type 0
NoCallWithoutPower = site_turns disk_lines (steps_before_failure ++ Made SyncCall ∷ PowerBack ∷ Made (OpenCall plain) ∷ []) ≡ site_turns disk_lines steps_before_failure

-- beside the script: a file is put on the disk, and the power fails after two calls, which it is set to without a turn; after the first turn no file can be put there
abbrev pub StepsBesideHaveTurns : Type 0
StepsBesideHaveTurns =
    site_turns (Poll Tick ∷ []) (Holding (1 ∷ 2 ∷ []) ∷ StopAfter 2 (Junk 165) ∷ Made (OpenCall plain) ∷ Made LengthCall ∷ Made (WriteCall 0 (9 ∷ [])) ∷ PowerBack ∷ Made (OpenCall plain) ∷ Made PollCall ∷ Holding [] ∷ Made SyncCall ∷ [])
    ≡ (Crash (1 ∷ 2 ∷ []) ∷ []) ∷ [] ∷ (Start plain ∷ []) ∷ [] ∷ (Wrote 0 (9 ∷ []) ∷ []) ∷ (Crash (165 ∷ 2 ∷ []) ∷ []) ∷ (Start plain ∷ []) ∷ (Polled (pos 0) ∷ []) ∷ []
