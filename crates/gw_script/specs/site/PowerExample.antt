-- Closed examples: how often the power fails.
use Rattle.std.specs.Prelude.{◌≡◌, pos, List, [], ◌∷◌, true, Some}
use Rattle.gw_site.specs.declared.turn.Turn.{Turn}
use Rattle.gw_site.specs.declared.turn.Turn.TheVariants.{Start, Polled, Stopped, Wrote, Crash}
use Rattle.gw_site.specs.Steps.{OpenCall, PollCall, WriteCall, SiteStep, Made, PowerBack, Old, New}
use Rattle.gw_script.specs.site.CallExample.{plain}
use Rattle.gw_script.specs.site.Calls.{Reaches, are_scripted}
use Rattle.gw_script.specs.site.Playing.{Play, PlaysLines, restarted}
use Rattle.gw_script.specs.site.Powers.{power_failures, power_failures_left, power_lines}
use Rattle.gw_script.specs.site.ScriptLine.{Tick, PlayedLine, Poll, Power}

-- a script by which the power fails after one call, and in the next run at once
abbrev pub twice_lines : List PlayedLine
twice_lines = Power 1 New ∷ Poll Tick ∷ Power 0 Old ∷ Poll Tick ∷ []

-- the power has failed for the first time: two power failures are left, and one once the power is there again
pub record TwoFailuresAreLeft : Type 0 where
  pub place : Play
  pub reached : Reaches twice_lines (Made (OpenCall plain) ∷ Made PollCall ∷ Made (WriteCall 0 (1 ∷ [])) ∷ []) (Start plain ∷ Polled (pos 0) ∷ Wrote 0 (1 ∷ []) ∷ []) place
  pub off : place.off ≡ Some New
  pub left : power_failures_left place ≡ 2
  pub left_then : power_failures_left (restarted place) ≡ 1

-- what happens to its site in three runs, to the script's end
abbrev pub twice_steps : List SiteStep
twice_steps = Made (OpenCall plain) ∷ Made PollCall ∷ Made (WriteCall 0 (1 ∷ [])) ∷ PowerBack ∷ Made (OpenCall plain) ∷ Made PollCall ∷ PowerBack ∷ Made (OpenCall plain) ∷ Made PollCall ∷ Made PollCall ∷ []

-- its log
abbrev pub twice_log : List Turn
twice_log = Start plain ∷ Polled (pos 0) ∷ Wrote 0 (1 ∷ []) ∷ Crash (1 ∷ []) ∷ Start plain ∷ Crash (1 ∷ []) ∷ Start plain ∷ Polled (pos 0) ∷ Polled (pos 0) ∷ Stopped ∷ []

-- the power fails as often as the lines say, and none is left
pub record PowerFailsTwice : Type 0 where
  pub place : Play
  pub scripted : are_scripted twice_steps ≡ true
  pub reached : Reaches twice_lines twice_steps twice_log place
  pub plays : PlaysLines twice_lines twice_log
  pub twice : power_failures twice_log ≡ 2
  pub as_often : power_lines twice_lines ≡ 2
  pub left : power_failures_left place ≡ 0

-- a script in which a power line is replaced by the next before it takes effect
abbrev pub replaced_lines : List PlayedLine
replaced_lines = Power 5 New ∷ Power 1 Old ∷ Poll Tick ∷ []

-- what happens to its site
abbrev pub replaced_steps : List SiteStep
replaced_steps = Made (OpenCall plain) ∷ Made PollCall ∷ Made (WriteCall 0 (1 ∷ [])) ∷ PowerBack ∷ Made (OpenCall plain) ∷ Made PollCall ∷ []

-- its log
abbrev pub replaced_log : List Turn
replaced_log = Start plain ∷ Polled (pos 0) ∷ Wrote 0 (1 ∷ []) ∷ Crash [] ∷ Start plain ∷ Polled (pos 0) ∷ Stopped ∷ []

-- two lines say that the power fails, it fails once, and none is left
pub record PowerFailsOnceOfTwo : Type 0 where
  pub place : Play
  pub scripted : are_scripted replaced_steps ≡ true
  pub reached : Reaches replaced_lines replaced_steps replaced_log place
  pub lines : power_lines replaced_lines ≡ 2
  pub once : power_failures replaced_log ≡ 1
  pub left : power_failures_left place ≡ 0
