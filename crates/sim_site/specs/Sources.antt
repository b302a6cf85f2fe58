-- What a site plays: the script of a text, or a drill.
use Rattle.std.specs.Prelude.{ℕ, List, [], Option, Some, None, Result, Ok}
use Rattle.pt_core.specs.Serving.{TerminalValue}
use Rattle.gw_script.specs.site.Decode.{script_of}
use Rattle.gw_script.specs.site.Drill.{drill_origin, drill_payments, drill_script, drill_terminals}
use Rattle.gw_script.specs.site.ScriptLine.{Script}
use Rattle.sim_site.specs.declared.drill.Drill.{Drill}

-- what determines what is played: the text, or the two numbers of the drill
abbrev pub source_origin : Option Drill → List ℕ → List ℕ
source_origin None text = text
source_origin (Some drill) text = drill_origin drill.from drill.payments

-- Inner: the script that is played: that of the text, or that of the drill
abbrev pub source_script : Option Drill → List ℕ → Result Script ℕ
source_script None text = script_of text
source_script (Some drill) text = Ok (drill_script drill.from drill.payments)

-- the terminals that are played, before the first turn: none where a text is, or those of the drill
abbrev pub source_terminals : Option Drill → List TerminalValue
source_terminals None = []
source_terminals (Some drill) = drill_terminals (drill_payments drill.from drill.payments)
