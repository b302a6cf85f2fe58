-- The log of a script: what a gateway whose runs start with the script's setup has done with a site that plays the script's lines, to its end.
use Rattle.std.specs.Prelude.{◌≡◌, ◌⊎◌, ℕ, Bool, true, false, List, [], ◌∷◌, ◌++◌, Ok}
use Rattle.gw_base.specs.declared.setup.Setup.{Setup}
use Rattle.gw_site.specs.Sorts.{IsQuiet, TurnSort, OpeningOutcome, Poll, Event, CallOutcome, PowerFailure, sort_of}
use Rattle.gw_site.specs.Steps.{PowerBack, turns_of_steps, steps_of}
use Rattle.gw_site.specs.declared.turn.Turn.{Turn}
use Rattle.gw_site.specs.declared.turn.Turn.TheVariants.{Start, OpenFailed, Stopped, DiskFailed}
use Rattle.gw_script.specs.site.ScriptLine.{Script, setup_of}
use Rattle.gw_script.specs.site.StepTurns.{site_turns}
use Rattle.gw_rules.specs.Acts.{Act, AreDue, Unopened, moves_of, taken_of}
use Rattle.gw_rules.specs.Lawful.{IsCourse, turns_of}
use Rattle.gw_rules.specs.View.{at_first}
use Rattle.gw_script.specs.site.Decode.{script_of}

-- this is the log's last turn
abbrev pub HasLastTurn : Turn → List Turn → Type 0
HasLastTurn turn log = (prefix : List Turn) × (log ≡ prefix ++ turn ∷ [])

-- the log ends where the script was read to its end
abbrev pub IsStopped : List Turn → Type 0
IsStopped log = HasLastTurn Stopped log

-- one run with this setup
abbrev pub IsRunWith : Setup → List Turn → Type 0
IsRunWith setup log = (run : List Turn) × (log ≡ Start setup ∷ run) × IsQuiet run

-- the turn is the outcome of an opening with this setup
abbrev pub IsOpening : Setup → Turn → Type 0
IsOpening own turn = (turn ≡ Start own) ⊎ (turn ≡ OpenFailed)

-- a turn of this sort is the outcome of an opening
abbrev pub is_opening : TurnSort → Bool
is_opening OpeningOutcome = true
is_opening Poll = false
is_opening Event = false
is_opening CallOutcome = false
is_opening PowerFailure = false

-- a turn of this sort is a power failure
abbrev pub is_power_failure : TurnSort → Bool
is_power_failure OpeningOutcome = false
is_power_failure Poll = false
is_power_failure Event = false
is_power_failure CallOutcome = false
is_power_failure PowerFailure = true

-- an opening with this setup is the first turn, where one is due, and the next after each power failure, and no other turn is one
abbrev pub AreRuns : Setup → Bool → List Turn → Type 0
AreRuns own due [] = Unit {0}
AreRuns own true (turn ∷ turns) = IsOpening own turn × AreRuns own false turns
AreRuns own false (turn ∷ turns) = (is_opening (sort_of turn) ≡ false) × AreRuns own (is_power_failure (sort_of turn)) turns

-- each opening is one with this setup, and comes right after a power failure, or where one may come first
abbrev pub AreOpenings : Setup → Bool → List Turn → Type 0
AreOpenings own first [] = Unit {0}
AreOpenings own first (turn ∷ turns) = (is_opening (sort_of turn) ≡ true → (first ≡ true) × IsOpening own turn) × AreOpenings own (is_power_failure (sort_of turn)) turns

-- a gateway whose runs start with this setup has done this, from the beginning, and this is the log: it is lawful, and each step was due
pub record HasDone (own : Setup) (acts : List Act) (log : List Turn) : Type 0 where
  pub lawful : IsCourse at_first (moves_of acts)
  pub due : AreDue own at_first Unopened acts
  pub log_is : turns_of (moves_of acts) ≡ log

-- a gateway starts no further run after this log: the script was read to its end, or the site couldn't be opened, or a call on the disk has failed
abbrev pub IsEnded : List Turn → Type 0
IsEnded log = IsStopped log ⊎ (HasLastTurn OpenFailed log ⊎ HasLastTurn DiskFailed log)

-- the log of the script of a text: its gateway has done this, its steps have the turns that the script gives them, it starts no further run, and no power failure waits to be over
pub record IsLogOf (text : List ℕ) (log : List Turn) : Type 0 where
  pub script : Script
  pub script_is : script_of text ≡ Ok script
  pub acts : List Act
  pub done : HasDone (setup_of script.given) acts log
  pub turns : site_turns script.lines (steps_of (taken_of acts)) ≡ turns_of_steps (taken_of acts)
  pub ends : IsEnded log
  pub power : site_turns script.lines (steps_of (taken_of acts) ++ PowerBack ∷ []) ≡ turns_of_steps (taken_of acts)
