-- Which steps have led a site to its log and its place.
use Rattle.std.specs.Prelude.{◌≡◌, Bool, true, false, List, ◌++◌}
use Rattle.gw_site.specs.declared.turn.Turn.{Turn}
use Rattle.gw_site.specs.Steps.{SiteStep}
use Rattle.pt_core.specs.Serving.{TerminalValue}
use Rattle.gw_script.specs.site.Calls.{IsReachedWith, ReachesWith, are_scripted}
use Rattle.gw_script.specs.site.Playing.{Play}
use Rattle.gw_script.specs.site.ScriptLine.{PlayedLine}

-- the log is a prefix of one that some steps have with these terminals, whether beside the script or not
abbrev pub IsReachedPart : List TerminalValue → List PlayedLine → List Turn → Type 0
IsReachedPart terminals lines log = (later : List Turn) × (place : Play) × IsReachedWith terminals lines (log ++ later) place

-- after some steps, none of which was beside the script, the lines are played with these terminals up to this place, with this log
abbrev pub IsPlayedWith : List TerminalValue → List PlayedLine → List Turn → Play → Type 0
IsPlayedWith terminals lines log place = (steps : List SiteStep) × (are_scripted steps ≡ true) × ReachesWith terminals lines steps log place

-- some steps have this log and lead to this place of the lines: where the script alone is played, none of them was beside it
abbrev pub HasSteps : Bool → List TerminalValue → List PlayedLine → List Turn → Play → Type 0
HasSteps true terminals lines log place = IsPlayedWith terminals lines log place
HasSteps false terminals lines log place = IsReachedWith terminals lines log place

-- the log is a prefix of one that such steps have
abbrev pub HasPart : Bool → List TerminalValue → List PlayedLine → List Turn → Type 0
HasPart scripted terminals lines log = (later : List Turn) × (place : Play) × HasSteps scripted terminals lines (log ++ later) place
