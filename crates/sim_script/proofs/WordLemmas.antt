-- The words of a line, as the code tests them.
use Rattle.std.proofs.Common.{◌≡◌, ℕ, List, [], ◌∷◌, refl, ap}
use Rattle.std.specs.List.{list_all}
use Rattle.std.specs.Prelude.{Bool, true, false, ◌&&◌, ◌/◌, ◌%◌, nat_le}
use Rattle.gw_base.specs.Bcd.{is_bcd}
use Rattle.sim_script.specs.Words.{is_bcd_byte}

both_of : (a b c : Bool) → ((a && b) && c) ≡ (a && (b && c))
both_of true b c = refl
both_of false b c = refl

-- all bytes hold two digits
pub all_bcd : (bytes : List ℕ) → list_all is_bcd_byte bytes ≡ is_bcd bytes
all_bcd [] = refl
all_bcd (byte ∷ bytes) = rw (all_bcd bytes) (both_of (nat_le (byte / 16) 9) (nat_le (byte % 16) 9) (is_bcd bytes))
