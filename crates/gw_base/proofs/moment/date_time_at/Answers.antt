-- Proof of the contract of `date_time_at`.
use Rattle.std.proofs.Common.{arith, ◌≡◌, pos, ◌*ℤ◌, FitsSigned, w64}
use Rattle.std.proofs.lemmas.Int.{to_z-of_z}
use Rattle.jiff_core.specs.DateTime.{civil_nanos}
use Rattle.jiff_core.proofs.SignedLemmas.{fits_between, signed_arith}
use Rattle.gw_base.specs.Moment.{civil_at, moment_of, seconds_of}
use Rattle.gw_base.proofs.MomentLemmas.{civil_at-is, moment_of_bound, date_time_parts}
use Rattle.gw_base.proofs.moment.date_time_at.Goals as goal

pub returns : goal.returns
returns c =
    let fits : FitsSigned w64 c.args.now = c.ranges.now in
    let moment : c.to_moment.result ≡ pos (moment_of c.args.now) = simp to_z-of_z at c.to_moment.ensures.value in
    let is = civil_at-is (moment_of c.args.now) (moment_of_bound c.args.now) in
    let fits_too : FitsSigned w64 c.to_moment.result = fits_between w64 c.to_moment.result (omega (arith, signed_arith, c.to_moment.ensures.moment)) in
    let nanos : c.in-Ok.timestamp.nanosecond ≡ c.to_moment.result *ℤ pos 1_000_000_000 = simp to_z-of_z at c.in-Ok.ensures.value in
    let e : civil_nanos c.to_datetime.result ≡ seconds_of (civil_at (moment_of c.args.now)) *ℤ pos 1_000_000_000 =
    omega (arith, signed_arith, c.to_datetime.ensures, nanos, moment, is.1) in
    date_time_parts (civil_at (moment_of c.args.now)) is.0 c.to_datetime.result e
