-- Closed examples: runs to the stop, one without failures and one in which a send fails.
use Rattle.std.specs.Prelude.{pos, List, [], ◌∷◌, true, false}
use Rattle.gw_site.specs.declared.turn.Turn.{Turn}
use Rattle.gw_site.specs.declared.turn.Turn.TheVariants.{Start, Polled, Opened, HeardTill, Stopped, SentTill, CutTill, Synced}
use Rattle.gw_script.specs.site.ByLines.{GoesByLines, HasNoFailures, IsRunToStop}
use Rattle.gw_script.specs.site.CallExample.{plain}
use Rattle.gw_script.specs.site.Events.{HasEventsOf}
use Rattle.gw_script.specs.site.Playing.{PlaysLines}
use Rattle.gw_script.specs.site.ScriptLine.{Open, Close, FromTill, Tick, FailSendTill, PlayedLine, At, Poll, Fail}

-- lines without failures, of which one is skipped; and the turns of a run after its start
abbrev pub plain_lines : List PlayedLine
plain_lines = At (pos 7) ∷ Poll (Open 1) ∷ Poll (Close 2) ∷ Poll (FromTill 1 (9 ∷ [])) ∷ []

abbrev pub plain_turns : List Turn
plain_turns = Synced ∷ Polled (pos 7) ∷ Opened 1 ∷ SentTill 1 (5 ∷ []) true ∷ Polled (pos 7) ∷ HeardTill 1 (9 ∷ []) ∷ CutTill 1 ∷ Polled (pos 7) ∷ Stopped ∷ []

-- the run comes to its stop, plays the lines and goes by them
pub record PlainRunGoes : Type 0 where
  pub lines : HasNoFailures plain_lines
  pub run : IsRunToStop plain_turns
  pub plays : PlaysLines plain_lines (Start plain ∷ plain_turns)
  pub goes : GoesByLines plain_lines (Start plain ∷ plain_turns)

-- lines by which a send fails, and the turns of a run after its start
abbrev pub failing_lines : List PlayedLine
failing_lines = Poll (Open 1) ∷ Fail (FailSendTill 1 2) ∷ Poll Tick ∷ []

abbrev pub failing_turns : List Turn
failing_turns = Polled (pos 0) ∷ Opened 1 ∷ Polled (pos 0) ∷ SentTill 1 (7 ∷ 8 ∷ []) false ∷ Polled (pos 0) ∷ Stopped ∷ []

-- the run comes to its stop, plays the lines, and has their events
pub record FailingRunHasEvents : Type 0 where
  pub run : IsRunToStop failing_turns
  pub plays : PlaysLines failing_lines (Start plain ∷ failing_turns)
  pub events : HasEventsOf failing_lines (Start plain ∷ failing_turns)
