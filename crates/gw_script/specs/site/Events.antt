-- The events and polls of a log, beside those that a script's lines give.
use Rattle.std.specs.Prelude.{◌≡◌, ◌⊎◌, ℤ, pos, List, [], ◌∷◌, ◌++◌, map}
use Rattle.std.specs.List.{flat_map}
use Rattle.gw_base.specs.declared.setup.Setup.{Setup}
use Rattle.gw_site.specs.Sorts as sorts
use Rattle.gw_site.specs.Sorts.{TurnSort, OpeningOutcome, CallOutcome, PowerFailure, sort_of}
use Rattle.gw_site.specs.declared.turn.Turn.{Turn}
use Rattle.gw_site.specs.declared.turn.Turn.TheVariants.{Start, Polled, Stopped}
use Rattle.gw_script.specs.site.ByLines.{IsRunToStop}
use Rattle.gw_script.specs.site.Playing.{PlaysLines, brings}
use Rattle.gw_script.specs.site.ScriptLine.{Event, PlayedLine, At, Poll, Fail, Power, ForgetPower}

-- a line that polls, with the moment that is set there
pub record Timed : Type 0 where
  pub moment : ℤ
  pub event : Event

-- the lines that poll, each with the moment of the last `at` line before it
abbrev pub timed : ℤ → List PlayedLine → List Timed
timed moment [] = []
timed moment (At now ∷ lines) = timed now lines
timed moment (Poll event ∷ lines) = record { moment = moment; event = event } ∷ timed moment lines
timed moment (Fail failing ∷ lines) = timed moment lines
timed moment (Power calls kind ∷ lines) = timed moment lines
timed moment (ForgetPower ∷ lines) = timed moment lines

-- the moment of the last `at` line
abbrev pub last_moment_of : ℤ → List PlayedLine → ℤ
last_moment_of moment [] = moment
last_moment_of moment (At now ∷ lines) = last_moment_of now lines
last_moment_of moment (Poll event ∷ lines) = last_moment_of moment lines
last_moment_of moment (Fail failing ∷ lines) = last_moment_of moment lines
last_moment_of moment (Power calls kind ∷ lines) = last_moment_of moment lines
last_moment_of moment (ForgetPower ∷ lines) = last_moment_of moment lines

-- these are some of those, in the same order
abbrev pub AreSomeOf : List Timed → List Timed → Type 0
AreSomeOf [] those = Unit {0}
AreSomeOf (first ∷ these) [] = ⊥
AreSomeOf (first ∷ these) (other ∷ those) = ((first ≡ other) × AreSomeOf these those) ⊎ AreSomeOf (first ∷ these) those

-- the turns where their sort is an event
abbrev pub if_event : TurnSort → List Turn → List Turn
if_event OpeningOutcome turns = []
if_event sorts.Poll turns = []
if_event sorts.Event turns = turns
if_event CallOutcome turns = []
if_event PowerFailure turns = []

-- the turn, where it is an event
abbrev pub event_of : Turn → List Turn
event_of turn = if_event (sort_of turn) (turn ∷ [])

-- the turns where their sort is a poll
abbrev pub if_poll : TurnSort → List Turn → List Turn
if_poll OpeningOutcome turns = []
if_poll sorts.Poll turns = turns
if_poll sorts.Event turns = []
if_poll CallOutcome turns = []
if_poll PowerFailure turns = []

-- the turn, where it is a poll
abbrev pub poll_of : Turn → List Turn
poll_of turn = if_poll (sort_of turn) (turn ∷ [])

-- From this moment on, the polls and events of the turns are those of some of the lines, in their order, each poll at the moment of the last `at` line before it; after them comes a poll at the moment of the last `at` line of all, which brings the stop.
pub record HasEventsFrom (moment : ℤ) (lines : List PlayedLine) (turns : List Turn) : Type 0 where
  pub played : List Timed
  pub of_lines : AreSomeOf played (timed moment lines)
  pub events : flat_map event_of turns ≡ flat_map (λ (line : Timed). brings line.event) played ++ Stopped ∷ []
  pub polls : flat_map poll_of turns ≡ map (λ (line : Timed). Polled line.moment) played ++ Polled (last_moment_of moment lines) ∷ []

-- the polls and events of the log are those of the lines, the moment of which begins at 0
abbrev pub HasEventsOf : List PlayedLine → List Turn → Type 0
HasEventsOf lines log = HasEventsFrom (pos 0) lines log

-- so it is with each log of one run that plays lines to the end, whatever calls they make fail
abbrev pub RunHasEvents : Type 0
RunHasEvents = (lines : List PlayedLine) (setup : Setup) (turns : List Turn) → IsRunToStop turns → PlaysLines lines (Start setup ∷ turns) → HasEventsOf lines (Start setup ∷ turns)
