-- Examples of a script with a terminal: its way to ready, with the log of that and the text of the log; and a lawful log that isn't the script's.
use Rattle.std.specs.Prelude.{◌≡◌, ℕ, pos, true, List, [], ◌∷◌, ◌++◌, codes}
use Rattle.gw_site.specs.declared.turn.Turn.{Turn}
use Rattle.gw_site.specs.declared.turn.Turn.TheVariants.{Polled, HeardPt, Stopped, Linked, LinkFailed, SentPt}
use Rattle.gw_script.specs.LogText.{log_text}
use Rattle.gw_script.specs.site.Grammar.{ended_lines}
use Rattle.gw_owes.specs.TerminalExample.{ack, approved_status, completion, enquiry_sent}
use Rattle.gw_owes.specs.declared.terminal.Standing.TheVariants.{Ready}
use Rattle.gw_rules.specs.Example.{began, began_moves}
use Rattle.gw_rules.specs.Lawful.{IsLawful}
use Rattle.gw_rules.specs.RowExample.{register_bytes}
use Rattle.gw_rules.specs.TerminalLogExample.{LeavesStanding, items_begin}
use Rattle.gw_rules.specs.View.{Move, Begin, Make}
use Rattle.gw_run.specs.Example.{links_setup}
use Rattle.gw_run.specs.ScriptLog.{IsLogOf, IsStopped}

-- ---- the way to ready

-- The script: the link is made at once. The terminal acknowledges its registration and says that it is done; then it acknowledges the enquiry, reports its last transaction, which has the trace number 123, and says that this is done.
abbrev pub ready_script : List ℕ
ready_script = ended_lines (codes "terminal T1 EUR 123456 186 100" ∷ codes "tick" ∷ codes "pt 0 800000060f00" ∷ codes "at 1" ∷ codes "pt 0 800000040f102700040000000010990b000123870017060f00" ∷ [])

-- its log: each of these is acknowledged but for the Acks
abbrev pub ready_script_log : List Turn
ready_script_log =
    began links_setup ++ Polled (pos 0) ∷ Linked 0 ∷ SentPt 0 register_bytes true
    ∷ Polled (pos 0) ∷ HeardPt 0 (ack ++ completion) ∷ SentPt 0 ack true ∷ SentPt 0 enquiry_sent true
    ∷ Polled (pos 1) ∷ HeardPt 0 (ack ++ approved_status ++ completion) ∷ SentPt 0 ack true ∷ SentPt 0 ack true
    ∷ Polled (pos 1) ∷ Stopped
    ∷ []

-- its course: each poll and each APDU brings its items
abbrev pub ready_script_course : List Move
ready_script_course =
    began_moves links_setup
    ++ Make (Polled (pos 0))
    ∷ (items_begin 2
    ++ Make (Linked 0) ∷ Make (SentPt 0 register_bytes true) ∷ Make (Polled (pos 0)) ∷ Make (HeardPt 0 (ack ++ completion))
    ∷ (items_begin 4
    ++ Make (SentPt 0 ack true) ∷ Begin ∷ Make (SentPt 0 enquiry_sent true)
    ∷ (items_begin 3
    ++ Make (Polled (pos 1)) ∷ Make (HeardPt 0 (ack ++ approved_status ++ completion))
    ∷ (items_begin 4
    ++ Make (SentPt 0 ack true)
    ∷ (items_begin 3 ++ Make (SentPt 0 ack true) ∷ (items_begin 4 ++ Make (Polled (pos 1)) ∷ Make Stopped ∷ []))))))

-- the log is that of the script, and at its end the terminal is ready with that number
pub record ReadyIsOfScript : Type 0 where
  pub is_log : IsLogOf ready_script ready_script_log
  pub standing : LeavesStanding ready_script_log ready_script_course (Ready 123)

-- and has this text
abbrev pub ReadyHasText : Type 0
ReadyHasText = log_text ready_script_log ≡ ended_lines (
    codes "start" ∷ codes "synced" ∷ codes "wrote 0 00" ∷ codes "synced"
    ∷ codes "at 0" ∷ codes "link 0" ∷ codes "pt 0 out 060006123456ba0978"
    ∷ codes "at 0" ∷ codes "pt 0 in 800000060f00" ∷ codes "pt 0 out 800000" ∷ codes "pt 0 out 062003123456"
    ∷ codes "at 1" ∷ codes "pt 0 in 800000040f102700040000000010990b000123870017060f00" ∷ codes "pt 0 out 800000" ∷ codes "pt 0 out 800000"
    ∷ codes "at 1" ∷ codes "stop"
    ∷ [])

-- ---- another log

-- the link can't be made, although no line of the script says so
abbrev pub failed_link_log : List Turn
failed_link_log = began links_setup ++ Polled (pos 0) ∷ LinkFailed 0 ∷ Polled (pos 1) ∷ Stopped ∷ []

-- this log is lawful and ends with the stop, and isn't that of the script
pub record FailedIsNotOfScript : Type 0 where
  pub lawful : IsLawful failed_link_log
  pub stopped : IsStopped failed_link_log
  pub other : ¬ IsLogOf ready_script failed_link_log
