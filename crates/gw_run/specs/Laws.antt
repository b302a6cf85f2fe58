-- Laws of the logs of scripts.
use Rattle.std.specs.Prelude.{◌≡◌, ◌↔◌, ℕ, List, Ok, true}
use Rattle.gw_site.specs.declared.turn.Turn.{Turn}
use Rattle.gw_script.specs.site.ByLines.{GoesByLines, HasNoFailures}
use Rattle.gw_script.specs.site.Decode.{script_of}
use Rattle.gw_script.specs.site.Events.{HasEventsOf}
use Rattle.gw_script.specs.site.Playing.{PlaysLines}
use Rattle.gw_script.specs.site.ScriptLine.{Script, setup_of}
use Rattle.gw_rules.specs.Lawful.{IsLawful}
use Rattle.gw_run.specs.Drill.{IsDrillLog}
use Rattle.gw_run.specs.ScriptLog.{AreRuns, IsLogOf, IsRunWith, IsStopped}

-- a script has one log at most
abbrev pub OneLog : Type 0
OneLog = (text : List ℕ) (log other : List Turn) → IsLogOf text log → IsLogOf text other → log ≡ other

-- a drill has one log at most, by its two numbers
abbrev pub OneDrillLog : Type 0
OneDrillLog = (from payments : ℕ) (log other : List Turn) → IsDrillLog from payments log → IsDrillLog from payments other → log ≡ other

-- where no line makes a call fail, a log is the script's where it is lawful, one run with the script's setup, and goes by the script's lines, and only there
abbrev pub LogGoesByLines : Type 0
LogGoesByLines = (text : List ℕ) (script : Script) (log : List Turn) → script_of text ≡ Ok script → HasNoFailures script.lines → IsLogOf text log ↔ (IsLawful log × IsRunWith (setup_of script.given) log × GoesByLines script.lines log)

-- whatever calls fail, the polls and events of the log of a script that is one run to the stop are those of some of the script's lines, in their order, and then the stop
abbrev pub LogHasEvents : Type 0
LogHasEvents = (text : List ℕ) (script : Script) (log : List Turn) → script_of text ≡ Ok script → IsLogOf text log → IsRunWith (setup_of script.given) log → IsStopped log → HasEventsOf script.lines log

-- the log of a script is lawful, plays the script's lines, and has a start with the script's setup, or a failed opening, after each power failure and at first, and nowhere else
pub record LogIsPlayed : Type 0 where
  pub lawful : (text : List ℕ) (log : List Turn) → IsLogOf text log → IsLawful log
  pub plays : (text : List ℕ) (script : Script) (log : List Turn) → script_of text ≡ Ok script → IsLogOf text log → PlaysLines script.lines log
  pub runs : (text : List ℕ) (script : Script) (log : List Turn) → script_of text ≡ Ok script → IsLogOf text log → AreRuns (setup_of script.given) true log

-- only a text that is a script has a log
abbrev pub LogHasScript : Type 0
LogHasScript = (text : List ℕ) (log : List Turn) → IsLogOf text log → (script : Script) × (script_of text ≡ Ok script)
