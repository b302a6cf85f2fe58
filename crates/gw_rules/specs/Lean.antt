-- Lean courses: nothing begins unless a turn of its run follows.
use Rattle.std.specs.Prelude.{◌≡◌, Bool, true, false, not, List, [], ◌∷◌}
use Rattle.gw_site.specs.Sorts.{is_between}
use Rattle.gw_rules.specs.View.{Move, Begin, Read, Make}

-- a turn of the same run follows
abbrev pub goes_on : List Move → Bool
goes_on [] = false
goes_on (Begin ∷ moves) = goes_on moves
goes_on (Read as_read ∷ moves) = goes_on moves
goes_on (Make turn ∷ moves) = not (is_between turn)

-- a turn of its run follows each item that begins or is read
abbrev pub IsLean : List Move → Type 0
IsLean [] = Unit {0}
IsLean (Begin ∷ moves) = (goes_on moves ≡ true) × IsLean moves
IsLean (Read as_read ∷ moves) = (goes_on moves ≡ true) × IsLean moves
IsLean (Make turn ∷ moves) = IsLean moves
