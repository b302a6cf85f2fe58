-- Inner: how a replay and a play end, and what they print.
use Rattle.std.specs.Prelude.{◌≡◌, ◌⊎◌, ℕ, ◌≤◌, List, [], true, false, Option, Some, Result, Ok, Err, length}
use Rattle.std.specs.Global.{Vec}
use Rattle.gw_bytes.specs.Bytes.{IsPrefix}
use Rattle.gw_site.specs.Observed.{Observed}
use Rattle.gw_site.specs.declared.turn.Turn.{Turn}
use Rattle.gw_script.specs.site.ScriptLine.{Script, setup_of}
use Rattle.gw_script.specs.site.Playing.{PlaysLines}
use Rattle.gw_script.specs.site.StepTurns.{site_turns}
use Rattle.gw_rules.specs.Lawful.{IsLawful}
use Rattle.gw_run.specs.ScriptLog.{AreOpenings, IsLogOf}
use Rattle.gw_script.specs.site.Decode.{script_of}
use Rattle.gw_run.specs.Words.{AskForReplay}
use Rattle.gw_run.specs.Top.{Stream, Cause, HasLogBefore, Printed, ShowsEnd, IsInput, IsReadBeyond, IsReadWithin, IsScriptBefore, IsWrongAt, tail_of}
use Rattle.gw_run.specs.declared.ending.Ending.{Ending}
use Rattle.gw_run.specs.declared.ending.Ending.TheVariants.{Played, Words, Long, Line as AtLine, Input, NotOpened, Memory, OutputFailed, Disk, LongJournal, CutJournal, BadSlot}

-- what was printed of a replay by its end
abbrev pub ReplayPrinted : Stream → Stream → Ending → List ℕ → Type 0
ReplayPrinted input out ending text = (words : List (List ℕ)) → AskForReplay words → Printed (λ other. Cause other words input out) input.before ending text

-- the cause of a replay's end
abbrev pub ReplayCause : Ending → Stream → Stream → Type 0
ReplayCause ending input out = (words : List (List ℕ)) → AskForReplay words → Cause ending words input out

-- what a play of a script may end with
abbrev pub IsPlayEnd : Ending → Type 0
IsPlayEnd Played = Unit {0}
IsPlayEnd Words = ⊥
IsPlayEnd Long = ⊥
IsPlayEnd (AtLine line) = ⊥
IsPlayEnd Input = ⊥
IsPlayEnd NotOpened = Unit {0}
IsPlayEnd Memory = Unit {0}
IsPlayEnd OutputFailed = Unit {0}
IsPlayEnd Disk = Unit {0}
IsPlayEnd (LongJournal size) = ⊥
IsPlayEnd (CutJournal slot) = ⊥
IsPlayEnd (BadSlot slot) = ⊥

-- a play of the script of this text may end so: with the log of the script, after which it ends so; or memory was refused, or a write has failed
abbrev pub HasEnd : List ℕ → Ending → Type 0
HasEnd text ending = (ending ≡ Memory) ⊎ ((ending ≡ OutputFailed) ⊎ HasLogBefore ending text)

-- what was printed of a play of this script by its end
abbrev pub PlayPrinted : List ℕ → Ending → List ℕ → Type 0
PlayPrinted script ending text = (input : Option (List ℕ)) → IsInput input script → Printed (HasEnd script) input ending text

-- how a replay of a text within the limit ends
abbrev pub IsTextEnd : List ℕ → Ending → Type 0
IsTextEnd text Played = IsScriptBefore Played text
IsTextEnd text Words = ⊥
IsTextEnd text Long = ⊥
IsTextEnd text (AtLine line) = IsWrongAt line text
IsTextEnd text Input = ⊥
IsTextEnd text NotOpened = IsScriptBefore NotOpened text
IsTextEnd text Memory = Unit {0}
IsTextEnd text OutputFailed = Unit {0}
IsTextEnd text Disk = IsScriptBefore Disk text
IsTextEnd text (LongJournal size) = ⊥
IsTextEnd text (CutJournal slot) = ⊥
IsTextEnd text (BadSlot slot) = ⊥

-- why nothing is played of a text within the limit
abbrev pub IsTextFault : List ℕ → Ending → Type 0
IsTextFault text Played = ⊥
IsTextFault text Words = ⊥
IsTextFault text Long = ⊥
IsTextFault text (AtLine line) = IsWrongAt line text
IsTextFault text Input = ⊥
IsTextFault text NotOpened = ⊥
IsTextFault text Memory = Unit {0}
IsTextFault text OutputFailed = ⊥
IsTextFault text Disk = ⊥
IsTextFault text (LongJournal size) = ⊥
IsTextFault text (CutJournal slot) = ⊥
IsTextFault text (BadSlot slot) = ⊥

-- what was printed of a replay of this text by its end
abbrev pub TextPrinted : List ℕ → Ending → List ℕ → Type 0
TextPrinted script ending text = (input : Option (List ℕ)) → IsInput input script → Printed (IsTextEnd script) input ending text

-- nothing was played of the script of this text, and no call has failed
abbrev pub IsFresh : Observed → List ℕ → Script → Type 0
IsFresh observed text script = observed ≡ record { log = Some []; faults = 0; dark = false; origin = text; plan = Some (site_turns script.lines) }

-- a play of the script of a text that ends so has this log: a lawful one that plays the script's lines, each of whose runs is opened with the script's setup; and where memory wasn't refused, the log of the script, after which it ends so
pub record IsPlayOf (text : List ℕ) (ending : Ending) (log : List Turn) : Type 0 where
  pub script : Script
  pub script_is : script_of text ≡ Ok script
  pub lawful : IsLawful log
  pub openings : AreOpenings (setup_of script.given) true log
  pub plays : ∥ PlaysLines script.lines log ∥₁
  pub whole : (ending ≡ Memory) ⊎ (IsLogOf text log × ShowsEnd ending log)

-- an end after this log: the one that it says, or without memory
abbrev pub IsEndAfter : List Turn → Ending → Type 0
IsEndAfter log ending = ShowsEnd ending log ⊎ (ending ≡ Memory)

-- a play with this end is reported so: with it, or without memory, or as a write has failed
abbrev pub IsWrittenEnd : Ending → Ending → Type 0
IsWrittenEnd ending result = (result ≡ ending) ⊎ ((result ≡ Memory) ⊎ (result ≡ OutputFailed))

-- an end whose fault line has a number
abbrev pub HasNumber : Ending → Type 0
HasNumber Played = ⊥
HasNumber Words = ⊥
HasNumber Long = ⊥
HasNumber (AtLine line) = Unit {0}
HasNumber Input = ⊥
HasNumber NotOpened = ⊥
HasNumber Memory = ⊥
HasNumber OutputFailed = ⊥
HasNumber Disk = ⊥
HasNumber (LongJournal size) = Unit {0}
HasNumber (CutJournal slot) = Unit {0}
HasNumber (BadSlot slot) = Unit {0}

-- the lines of an end are written: all of them, or those of an end without memory where the fault line could not be made, or a prefix of either
abbrev pub WritesTail : Ending → Ending → List ℕ → Type 0
WritesTail ending result added =
    ((result ≡ ending) × (added ≡ tail_of ending))
    ⊎ (((result ≡ Memory) × HasNumber ending × (added ≡ tail_of Memory))
    ⊎ ((result ≡ OutputFailed) × ((reported : Ending) × ((reported ≡ ending) ⊎ ((reported ≡ Memory) × HasNumber ending)) × IsPrefix added (tail_of reported))))

-- what is reported in the end: the end itself, or that there was no memory for its fault line, or that a write failed
abbrev pub IsReportedEnd : Ending → Ending → Type 0
IsReportedEnd ending result = (result ≡ ending) ⊎ (((result ≡ Memory) × HasNumber ending) ⊎ (result ≡ OutputFailed))

-- what the reading of the input up to a limit gives: all of it, or its fault
abbrev pub IsInputRead : ℕ → Result (Vec ℕ) Ending → List ℕ → Option (List ℕ) → Type 0
IsInputRead limit (Ok bytes) all left = (bytes.items ≡ all) × (left ≡ Some []) × (length all ≤ limit)
IsInputRead limit (Err Long) all left = IsReadBeyond limit all left
IsInputRead limit (Err Input) all left = IsReadWithin limit all left
IsInputRead limit (Err ending) all left = Unit {0}

-- the faults that the reading of the input may meet
abbrev pub IsInputFault : Ending → Type 0
IsInputFault Played = ⊥
IsInputFault Words = ⊥
IsInputFault Long = Unit {0}
IsInputFault (AtLine line) = ⊥
IsInputFault Input = Unit {0}
IsInputFault NotOpened = ⊥
IsInputFault Memory = Unit {0}
IsInputFault OutputFailed = ⊥
IsInputFault Disk = ⊥
IsInputFault (LongJournal size) = ⊥
IsInputFault (CutJournal slot) = ⊥
IsInputFault (BadSlot slot) = ⊥
