-- Examples: a script in which a till asks for a status, and one in which a terminal's link is lost and calls on it fail; with their logs and the text of these.
use Rattle.std.specs.Prelude.{◌≡◌, ℕ, pos, true, false, List, [], ◌∷◌, ◌++◌, codes}
use Rattle.gw_base.specs.declared.setup.Pt.{Pt}
use Rattle.gw_base.specs.declared.setup.Setup.{Setup}
use Rattle.gw_site.specs.declared.turn.Turn.{Turn}
use Rattle.gw_site.specs.declared.turn.Turn.TheVariants.{Polled, Lost, Stopped, Linked, LinkFailed, SentPt, CutPt}
use Rattle.gw_script.specs.LogText.{log_text}
use Rattle.gw_script.specs.site.Grammar.{ended_lines}
use Rattle.gw_script.specs.site.ScriptLine.{nothing_given, setup_of}
use Rattle.gw_rules.specs.Example.{began, status_request, status_reply_bytes, status_log}
use Rattle.gw_rules.specs.RowExample.{example_pt, register_bytes}
use Rattle.gw_run.specs.ScriptLog.{IsLogOf}

-- ---- a status

-- the script: the till opens, and says the request
abbrev pub status_script : List ℕ
status_script = ended_lines (codes "open 1" ∷ (codes "say 1 " ++ status_request) ∷ [])

-- the text of its log
abbrev pub status_log_text : List ℕ
status_log_text = ended_lines (codes "start" ∷ codes "synced" ∷ codes "wrote 0 00" ∷ codes "synced" ∷ codes "at 0" ∷ codes "open 1" ∷ codes "at 0" ∷ (codes "till 1 in '" ++ status_request) ∷ (codes "till 1 out '" ++ status_reply_bytes) ∷ codes "at 0" ∷ codes "stop" ∷ [])

-- the log is that of the script
abbrev pub StatusIsOfScript : Type 0
StatusIsOfScript = IsLogOf status_script status_log

-- and has this text
abbrev pub StatusHasText : Type 0
StatusHasText = log_text status_log ≡ status_log_text

-- ---- a terminal

-- the script: the link is made at once, and lost; when it is made again the registration fails after three bytes, and later the link
abbrev pub links_script : List ℕ
links_script = ended_lines (
    codes "terminal T1 EUR 123456 186 100" ∷ codes "tick" ∷ codes "fail send-pt 0 3" ∷ codes "lost 0" ∷ codes "at 5" ∷ codes "tick" ∷ codes "fail link 0" ∷ codes "at 10" ∷ codes "tick" ∷ [])

-- the terminal of the script, which has three minutes for a command
abbrev pub links_pt : Pt
links_pt = record example_pt { command = 180 }

-- its setup
abbrev pub links_setup : Setup
links_setup = setup_of (record nothing_given { terminals = links_pt ∷ [] })

-- its log: five seconds after a link is lost, and after one is cut, it is tried again
abbrev pub links_log : List Turn
links_log =
    began links_setup ++ Polled (pos 0) ∷ Linked 0 ∷ SentPt 0 register_bytes true
    ∷ Polled (pos 0) ∷ Lost 0
    ∷ Polled (pos 5) ∷ Linked 0 ∷ SentPt 0 (6 ∷ 0 ∷ 6 ∷ []) false ∷ CutPt 0
    ∷ Polled (pos 10) ∷ LinkFailed 0
    ∷ Polled (pos 10) ∷ Stopped
    ∷ []

-- the log is that of the script
abbrev pub LinksIsOfScript : Type 0
LinksIsOfScript = IsLogOf links_script links_log

-- and has this text
abbrev pub LinksHasText : Type 0
LinksHasText = log_text links_log ≡ ended_lines (
    codes "start" ∷ codes "synced" ∷ codes "wrote 0 00" ∷ codes "synced"
    ∷ codes "at 0" ∷ codes "link 0" ∷ codes "pt 0 out 060006123456ba0978"
    ∷ codes "at 0" ∷ codes "lost 0"
    ∷ codes "at 5" ∷ codes "link 0" ∷ codes "pt 0 out 060006 failed" ∷ codes "pt 0 cut"
    ∷ codes "at 10" ∷ codes "link 0 failed"
    ∷ codes "at 10" ∷ codes "stop"
    ∷ [])
