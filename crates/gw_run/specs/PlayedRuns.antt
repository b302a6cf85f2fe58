-- Inner: the runs over a site in memory, one after each power failure: what they have done, how the last of them has ended, and its tally.
use Rattle.std.specs.Prelude.{◌≡◌, ◌⊎◌, ℕ, ◌-◌, ◌<◌, ◌≤◌, List, [], true, false, Option, Some, length}
use Rattle.gw_base.specs.declared.setup.Setup.{Setup}
use Rattle.gw_site.specs.Observed.{Observed}
use Rattle.gw_site.specs.Steps.{Plan, SiteStep, Takes, log_of_parts}
use Rattle.gw_site.specs.declared.turn.Turn.{Turn}
use Rattle.gw_ledger.specs.Sums.{tally_of}
use Rattle.gw_script.specs.site.Calls.{are_scripted}
use Rattle.gw_script.specs.site.Powers.{power_failures, power_lines}
use Rattle.gw_script.specs.site.ScriptLine.{PlayedLine}
use Rattle.gw_rules.specs.Acts.{Act, moves_of, taken_of}
use Rattle.gw_rules.specs.View.{View, at_first, view_from}
use Rattle.gw_dispatch.specs.declared.engine.Ended.TheVariants.{Done}
use Rattle.gw_dispatch.specs.declared.engine.TalliedEnd.{TalliedEnd}
use Rattle.gw_run.specs.RunEnds.{ending_of}
use Rattle.gw_run.specs.ScriptLog.{AreOpenings, HasDone}
use Rattle.gw_run.specs.Top.{ShowsEnd}
use Rattle.gw_run.specs.declared.ending.Ending.{Ending}
use Rattle.gw_run.specs.declared.ending.Ending.TheVariants.{Memory}

-- ---- before the first run

-- the steps of a site whose turns these are let the power fail so often at most, where nothing happens beside what is played
abbrev pub FailsAtMost : ℕ → Plan → Type 0
FailsAtMost most whole = (steps : List SiteStep) (parts : List (List Turn)) → are_scripted steps ≡ true → whole steps ≡ parts → length parts ≡ length steps → power_failures (log_of_parts parts) ≤ most

-- nothing was played of these lines, for each of which the power fails once at most if it says so
pub record IsUnbegun (lines : List PlayedLine) (observed : Observed) : Type 0 where
  pub log_is : observed.log ≡ Some []
  pub whole : Plan
  pub plan_is : observed.plan ≡ Some whole
  pub few : FailsAtMost (power_lines lines) whole

-- ---- what was done

-- what was done with a site so far, from its beginning, in a gateway whose runs start with this setup: its log is that, each run in it is opened with the setup, and where the site could keep all of its log, its steps have the turns that they have by the whole play
pub record HasPlayed (own : Setup) (whole : Plan) (plan : Option Plan) (log : List Turn) : Type 0 where
  pub acts : List Act
  pub done : HasDone own acts log
  pub openings : AreOpenings own true log
  pub taken : Takes (Some whole) plan (taken_of acts)

-- the view after acts, from the beginning
abbrev pub view_of : List Act → View
view_of acts = view_from at_first (moves_of acts)

-- what all runs so far have done, the last of which gives this end: unless the site is dark or memory was refused, or the log has as many turns as polls may be made, it ends as is said of that end
pub record HasRun (own : Setup) (whole : Plan) (ending : Ending) (observed : Observed) (log : List Turn) : Type 0 where
  pub played : HasPlayed own whole observed.plan log
  pub end : observed.dark ≡ false → length log < 18446744073709551615 → (ending ≡ Memory) ⊎ ShowsEnd ending log

-- and where the last run is done and the site isn't dark, its tally is that of the records that are kept
pub record HasTallied (own : Setup) (whole : Plan) (end : TalliedEnd) (observed : Observed) (log : List Turn) : Type 0 where
  pub run : HasRun own whole (ending_of end.ended) observed log
  pub tally : observed.dark ≡ false → end.ended ≡ Done → end.tally ≡ tally_of (view_of run.played.acts).scene.kept

-- so it is after whatever was to be played of a site
abbrev pub HasTalliedFrom : Observed → Setup → TalliedEnd → Observed → List Turn → Type 0
HasTalliedFrom old own end observed log = (whole : Plan) → old.plan ≡ Some whole → HasTallied own whole end observed log

-- one run more has done this after a log, from a power failure on: fewer power lines are left beyond the failures
pub record HasRunAgain (own : Setup) (whole : Plan) (most : ℕ) (end : TalliedEnd) (before : List Turn) (observed : Observed) (log : List Turn) : Type 0 where
  pub run : HasTallied own whole end observed log
  pub fewer : most - power_failures log < most - power_failures before
