-- A log beside a script without failing calls and power failures, line by line, in the words of the script's table.
use Rattle.std.specs.Prelude.{◌≡◌, ◌⊎◌, ◌<◌, ℤ, pos, true, false, List, [], ◌∷◌, ◌++◌}
use Rattle.std.specs.List.{AllByRecursion}
use Rattle.gw_base.specs.declared.setup.Setup.{Setup}
use Rattle.gw_site.specs.Outside.{Outside, outside_from, outside_of, is_connected}
use Rattle.gw_site.specs.declared.turn.Turn.{Turn}
use Rattle.gw_site.specs.declared.turn.Turn.TheVariants.{Start, OpenFailed, Polled, Opened, HeardTill, Closed, HeardPt, Lost, Stopped, Linked, LinkFailed, SentTill, SentPt, CutTill, CutPt, Wrote, Synced, DiskFailed, Crash}
use Rattle.gw_script.specs.site.ScriptLine.{Event, Open, Close, FromTill, FromPt, Lose, Tick, PlayedLine, At, Poll, Fail, Power, ForgetPower}
use Rattle.gw_script.specs.site.Playing.{PlaysLines, brings}

-- no line makes a call or the power fail
abbrev pub HasNoFailures : List PlayedLine → Type 0
HasNoFailures [] = Unit {0}
HasNoFailures (At now ∷ lines) = HasNoFailures lines
HasNoFailures (Poll event ∷ lines) = HasNoFailures lines
HasNoFailures (Fail failing ∷ lines) = ⊥
HasNoFailures (Power calls kind ∷ lines) = ⊥
HasNoFailures (ForgetPower ∷ lines) = ⊥

-- the turns of one run after its start, up to its stop
abbrev pub IsRunToStop : List Turn → Type 0
IsRunToStop [] = ⊥
IsRunToStop (Start setup ∷ turns) = ⊥
IsRunToStop (OpenFailed ∷ turns) = ⊥
IsRunToStop (Polled now ∷ turns) = IsRunToStop turns
IsRunToStop (Opened till ∷ turns) = IsRunToStop turns
IsRunToStop (HeardTill till bytes ∷ turns) = IsRunToStop turns
IsRunToStop (Closed till ∷ turns) = IsRunToStop turns
IsRunToStop (HeardPt pt bytes ∷ turns) = IsRunToStop turns
IsRunToStop (Lost pt ∷ turns) = IsRunToStop turns
IsRunToStop (Stopped ∷ turns) = turns ≡ []
IsRunToStop (Linked pt ∷ turns) = IsRunToStop turns
IsRunToStop (LinkFailed pt ∷ turns) = IsRunToStop turns
IsRunToStop (SentTill till bytes ok ∷ turns) = IsRunToStop turns
IsRunToStop (SentPt pt bytes ok ∷ turns) = IsRunToStop turns
IsRunToStop (CutTill till ∷ turns) = IsRunToStop turns
IsRunToStop (CutPt pt ∷ turns) = IsRunToStop turns
IsRunToStop (Wrote offset bytes ∷ turns) = IsRunToStop turns
IsRunToStop (Synced ∷ turns) = IsRunToStop turns
IsRunToStop (DiskFailed ∷ turns) = IsRunToStop turns
IsRunToStop (Crash file ∷ turns) = ⊥

-- the line is skipped: the number of the till that opens isn't above all that opened in this run, or what closes, sends or is lost isn't there
abbrev pub IsSkipped : Outside → Event → Type 0
IsSkipped o (Open till) = till < o.next_till
IsSkipped o (Close till) = is_connected o.tills till ≡ false
IsSkipped o (FromTill till bytes) = is_connected o.tills till ≡ false
IsSkipped o (FromPt pt bytes) = is_connected o.links pt ≡ false
IsSkipped o (Lose pt) = is_connected o.links pt ≡ false
IsSkipped o Tick = ⊥

-- the turn is that of a call which the gateway made and which didn't fail
abbrev pub IsCall : Turn → Type 0
IsCall (Start setup) = ⊥
IsCall OpenFailed = ⊥
IsCall (Polled now) = ⊥
IsCall (Opened till) = ⊥
IsCall (HeardTill till bytes) = ⊥
IsCall (Closed till) = ⊥
IsCall (HeardPt pt bytes) = ⊥
IsCall (Lost pt) = ⊥
IsCall Stopped = ⊥
IsCall (Linked pt) = Unit {0}
IsCall (LinkFailed pt) = ⊥
IsCall (SentTill till bytes ok) = ok ≡ true
IsCall (SentPt pt bytes ok) = ok ≡ true
IsCall (CutTill till) = Unit {0}
IsCall (CutPt pt) = Unit {0}
IsCall (Wrote offset bytes) = Unit {0}
IsCall Synced = Unit {0}
IsCall DiskFailed = ⊥
IsCall (Crash file) = ⊥

-- a line that isn't skipped gives a poll at the moment that is set, its event, and after it the calls of the gateway; from there the log goes on
pub record IsPlayed (o : Outside) (moment : ℤ) (event : Event) (turns : List Turn) (GoesOn : Outside → List Turn → Type 0) : Type 0 where
  pub calls : List Turn
  pub later : List Turn
  pub not_skipped : ¬ IsSkipped o event
  pub are_calls : AllByRecursion IsCall calls
  pub turns_are : turns ≡ Polled moment ∷ (brings event ++ (calls ++ later))
  pub goes_on : GoesOn (outside_from o (Polled moment ∷ (brings event ++ calls))) later

-- from this outside and this moment on, these lines give these turns: after the last line a poll that brings the stop; an `at` line sets the moment; any other is skipped or played
abbrev pub GoesBy : Outside → ℤ → List PlayedLine → List Turn → Type 0
GoesBy o moment [] turns = turns ≡ Polled moment ∷ Stopped ∷ []
GoesBy o moment (At now ∷ lines) turns = GoesBy o now lines turns
GoesBy o moment (Poll event ∷ lines) turns = (IsSkipped o event × GoesBy o moment lines turns) ⊎ IsPlayed o moment event turns (λ after later. GoesBy after moment lines later)
GoesBy o moment (Fail failing ∷ lines) turns = ⊥
GoesBy o moment (Power calls kind ∷ lines) turns = ⊥
GoesBy o moment (ForgetPower ∷ lines) turns = ⊥

-- the log is a start, the calls that open the journal, and what the lines give; the moment begins at 0
pub record GoesByLines (lines : List PlayedLine) (log : List Turn) : Type 0 where
  pub setup : Setup
  pub calls : List Turn
  pub later : List Turn
  pub are_calls : AllByRecursion IsCall calls
  pub log_is : log ≡ Start setup ∷ (calls ++ later)
  pub goes_on : GoesBy (outside_of (Start setup ∷ calls)) (pos 0) lines later

-- a log of one run that plays lines without failing calls and power failures to the end goes by them
abbrev pub PlainLinesGoOn : Type 0
PlainLinesGoOn = (lines : List PlayedLine) (setup : Setup) (turns : List Turn) → HasNoFailures lines → IsRunToStop turns → PlaysLines lines (Start setup ∷ turns) → GoesByLines lines (Start setup ∷ turns)

-- and a log that goes by lines plays them
abbrev pub GoingByLinesPlays : Type 0
GoingByLinesPlays = (lines : List PlayedLine) (log : List Turn) → GoesByLines lines log → PlaysLines lines log
