-- What is written of a log.
use Rattle.std.specs.Prelude.{◌≡◌, ℕ, List, ◌++◌, Option, Some, Result, Ok, Err}
use Rattle.gw_bytes.specs.Bytes.{IsPrefix}
use Rattle.gw_site.specs.declared.turn.Turn.{Turn}
use Rattle.gw_script.specs.LogText.{log_text}
use Rattle.gw_run.specs.declared.text.Unwritten.{Unwritten}
use Rattle.gw_run.specs.declared.text.Unwritten.TheVariants.{Memory, Sink}

-- bytes of this kind come after what was written, where that is observed
abbrev pub Adds : Option (List ℕ) → Option (List ℕ) → (List ℕ → Type 0) → Type 0
Adds old new P = (written : List ℕ) → old ≡ Some written → (added : List ℕ) × P added × (new ≡ Some (written ++ added))

-- what is written of a log: its text; without memory the text of a prefix of it; where the sink fails a prefix of its text
abbrev pub LogWritten : List Turn → Result (Unit {0}) Unwritten → List ℕ → Type 0
LogWritten log (Ok done) added = added ≡ log_text log
LogWritten log (Err Memory) added = (first : List Turn) × IsPrefix first log × (added ≡ log_text first)
LogWritten log (Err Sink) added = IsPrefix added (log_text log)
