-- With which setup the runs of a log start. A log that plays a script need not start with the script's own: its site may be opened with another.
use Rattle.std.specs.Prelude.{◌≡◌, ℕ, List, Result, Ok, Err}
use Rattle.std.specs.List.{AllByRecursion}
use Rattle.gw_base.specs.declared.setup.Setup.{Setup}
use Rattle.gw_site.specs.declared.turn.Turn.{Turn}
use Rattle.gw_site.specs.declared.turn.Turn.TheVariants.{Start, OpenFailed, Polled, Opened, HeardTill, Closed, HeardPt, Lost, Stopped, Linked, LinkFailed, SentTill, SentPt, CutTill, CutPt, Wrote, Synced, DiskFailed, Crash}
use Rattle.gw_script.specs.site.ScriptLine.{Script, setup_of}
use Rattle.gw_script.specs.site.Decode.{script_of}
use Rattle.gw_script.specs.site.Playing.{PlaysLines}

-- where a run starts, it does so with this setup
abbrev pub StartsWith : Setup → Turn → Type 0
StartsWith own (Start setup) = setup ≡ own
StartsWith own OpenFailed = Unit {0}
StartsWith own (Polled now) = Unit {0}
StartsWith own (Opened till) = Unit {0}
StartsWith own (HeardTill till bytes) = Unit {0}
StartsWith own (Closed till) = Unit {0}
StartsWith own (HeardPt pt bytes) = Unit {0}
StartsWith own (Lost pt) = Unit {0}
StartsWith own Stopped = Unit {0}
StartsWith own (Linked pt) = Unit {0}
StartsWith own (LinkFailed pt) = Unit {0}
StartsWith own (SentTill till bytes ok) = Unit {0}
StartsWith own (SentPt pt bytes ok) = Unit {0}
StartsWith own (CutTill till) = Unit {0}
StartsWith own (CutPt pt) = Unit {0}
StartsWith own (Wrote offset bytes) = Unit {0}
StartsWith own Synced = Unit {0}
StartsWith own DiskFailed = Unit {0}
StartsWith own (Crash file) = Unit {0}

-- each run of the log starts with this setup
abbrev pub RunsWith : Setup → List Turn → Type 0
RunsWith setup log = AllByRecursion (StartsWith setup) log

-- the log plays the script and is one of its own: each run starts with the setup that the script gives
pub record PlaysItself (script : Script) (log : List Turn) : Type 0 where
  pub plays : PlaysLines script.lines log
  pub setup : RunsWith (setup_of script.given) log

-- the log is one of the script's own, where the text was read as a script
abbrev pub PlaysItselfRead : Result Script ℕ → List Turn → Type 0
PlaysItselfRead (Ok script) log = PlaysItself script log
PlaysItselfRead (Err number) log = ⊥

-- the log plays the script of this text, and each run starts with the setup that the script gives
abbrev pub PlaysText : List ℕ → List Turn → Type 0
PlaysText text log = PlaysItselfRead (script_of text) log
