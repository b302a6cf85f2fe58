-- A moment as a signed number of 64 bits.
use Rattle.std.proofs.Common.{ℤ, pos, negsuc, FitsSigned, w64, arith, ◌≡◌, to_z, of_z}
use Rattle.std.proofs.lemmas.Int.{ints, to_z-of_z}
use Rattle.gw_base.specs.Moment.{IsMoment}

pub moment_fits : (moment : ℤ) → IsMoment moment → FitsSigned w64 moment
moment_fits (pos seconds) h = omega (arith, ints)
moment_fits (negsuc seconds) h = omega (arith, ints)

-- a moment is what its 64 bits are
pub moment_back : (moment : ℤ) → IsMoment moment → to_z w64 (of_z w64 moment) ≡ moment
moment_back moment h = let fits : FitsSigned w64 moment = moment_fits moment h in simp to_z-of_z
