-- Examples: scripts by which the power fails, the site can't be opened, or a call on the disk fails; with their logs and the text of these.
use Rattle.std.specs.Prelude.{◌≡◌, ℕ, pos, List, [], ◌∷◌, ◌++◌, codes}
use Rattle.gw_base.specs.declared.setup.Setup.{Setup}
use Rattle.gw_site.specs.declared.turn.Turn.{Turn}
use Rattle.gw_site.specs.declared.turn.Turn.TheVariants.{Start, OpenFailed, Polled, Opened, Stopped, Synced, DiskFailed, Crash}
use Rattle.gw_script.specs.LogText.{log_text}
use Rattle.gw_script.specs.site.Grammar.{ended_lines}
use Rattle.gw_script.specs.site.ScriptLine.{nothing_given, setup_of}
use Rattle.gw_rules.specs.Example.{began, first_file}
use Rattle.gw_run.specs.ScriptLog.{IsLogOf}

-- the setup of a script without setup lines
abbrev pub plain_setup : Setup
plain_setup = setup_of nothing_given

-- ---- a power failure

-- the script: at the first poll the power fails, and the file is left with all writes; in the next run a till opens
abbrev pub power_script : List ℕ
power_script = ended_lines (codes "power 0 junk 41" ∷ codes "open 1" ∷ [])

-- its log: the poll that reaches the power failure leaves no turn; the next run opens the journal anew, in the file that is left
abbrev pub power_log : List Turn
power_log = began plain_setup ++ Crash first_file ∷ (began plain_setup ++ Polled (pos 0) ∷ Opened 1 ∷ Polled (pos 0) ∷ Stopped ∷ [])

-- the log is that of the script
abbrev pub PowerIsOfScript : Type 0
PowerIsOfScript = IsLogOf power_script power_log

-- and has this text
abbrev pub PowerHasText : Type 0
PowerHasText = log_text power_log ≡ ended_lines (
    codes "start" ∷ codes "synced" ∷ codes "wrote 0 00" ∷ codes "synced"
    ∷ codes "power 1"
    ∷ codes "start" ∷ codes "synced" ∷ codes "wrote 0 00" ∷ codes "synced"
    ∷ codes "at 0" ∷ codes "open 1" ∷ codes "at 0" ∷ codes "stop"
    ∷ [])

-- ---- a site that can't be opened

-- the script: the first opening fails
abbrev pub unopened_script : List ℕ
unopened_script = ended_lines (codes "fail open" ∷ codes "open 1" ∷ [])

-- its log is that alone
abbrev pub UnopenedIsOfScript : Type 0
UnopenedIsOfScript = IsLogOf unopened_script (OpenFailed ∷ [])

-- ---- calls on the disk that fail

-- the script: the length of the journal's file can't be asked
abbrev pub unmeasured_script : List ℕ
unmeasured_script = ended_lines (codes "fail length" ∷ codes "open 1" ∷ [])

-- its log: the file is synced first, and nothing follows the failure
abbrev pub UnmeasuredIsOfScript : Type 0
UnmeasuredIsOfScript = IsLogOf unmeasured_script (Start plain_setup ∷ Synced ∷ DiskFailed ∷ [])

-- The script: a till opens; then the length of the next file to be opened can't be asked, and the power fails at the same poll.
abbrev pub later_script : List ℕ
later_script = ended_lines (codes "open 1" ∷ codes "fail length" ∷ codes "power 0 new" ∷ codes "open 2" ∷ [])

-- its log: in the next run the file is synced, and nothing follows the failure
abbrev pub later_log : List Turn
later_log = began plain_setup ++ Polled (pos 0) ∷ Opened 1 ∷ Crash first_file ∷ Start plain_setup ∷ Synced ∷ DiskFailed ∷ []

-- the log is that of the script
abbrev pub LaterIsOfScript : Type 0
LaterIsOfScript = IsLogOf later_script later_log
