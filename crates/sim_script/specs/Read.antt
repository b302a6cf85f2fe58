-- What the reader of scripts says of a text.
use Rattle.std.specs.Prelude.{◌≡◌, ℕ, ◌<◌, ◌≤◌, Bool, true, false, List, Option, Some, None, Err, length}
use Rattle.gw_script.specs.Decode.{WordAndRest, script_limit}
use Rattle.gw_script.specs.site.Decode.{script_of}
use Rattle.gw_script.specs.site.ScriptLine.{Entry, Blank, Setting, Playing}
use Rattle.sim_script.specs.Values.{script_line_value, setting_value}
use Rattle.sim_script.specs.declared.reader.ReadEntry.{ReadEntry}
use Rattle.sim_script.specs.declared.reader.ReadEntry.TheVariants.{Blank as ReadBlank, Setting as ReadSetting, Playing as ReadPlaying}
use Rattle.sim_script.specs.declared.fault.ScriptFault.{ScriptFault}
use Rattle.sim_script.specs.declared.fault.ScriptFault.TheVariants.{Long, Line as AtNumber, Memory}

-- what one line of the text is, as the grammar sees it
abbrev pub read_line_value : ReadEntry → Entry
read_line_value ReadBlank = Blank
read_line_value (ReadSetting line) = Setting (setting_value line)
read_line_value (ReadPlaying line) = Playing (script_line_value line)

-- Inner: where a line was added this is what has become, and where none may come there, there is none
abbrev pub IsTakenIn : {A : Type 0} → Bool → Option A → A → Type 0
IsTakenIn true next new = next ≡ Some new
IsTakenIn false next new = next ≡ None

-- what a fault says of the script; without memory it says nothing
abbrev pub IsScriptFault : List ℕ → ScriptFault → Type 0
IsScriptFault bytes Long = script_limit < length bytes
IsScriptFault bytes (AtNumber line) = (length bytes ≤ script_limit) × (script_of bytes ≡ Err line)
IsScriptFault bytes Memory = Unit {0}
