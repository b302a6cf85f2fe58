-- The lines of a script, one after the other.
use Rattle.std.proofs.Common.{◌≡◌, ℕ, ◌+◌, List, ◌∷◌, Some, None}
use Rattle.std.specs.Prelude.{option_and_then, Err}
use Rattle.gw_script.specs.site.ScriptLine.{Script}
use Rattle.gw_script.specs.site.Decode.{entry_of, script_from, with_entry}

-- one more line is read
pub line_taken : (script more : Script) (number : ℕ) (text : List ℕ) (texts : List (List ℕ)) → option_and_then (with_entry script) (entry_of text) ≡ Some more →
    script_from script number (text ∷ texts) ≡ script_from more (number + 1) texts
line_taken script more number text texts e = rw e

-- a line is of another form
pub line_refused : (script : Script) (number : ℕ) (text : List ℕ) (texts : List (List ℕ)) → option_and_then (with_entry script) (entry_of text) ≡ None →
    script_from script number (text ∷ texts) ≡ Err number
line_refused script number text texts e = rw e
