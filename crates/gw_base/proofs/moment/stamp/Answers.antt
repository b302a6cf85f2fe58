-- Proof of the contract of `stamp`.
use Rattle.std.proofs.Common.{arith, ◌≡◌, ap, ◌∙◌, FitsSigned, w64}
use Rattle.std.proofs.lemmas.Int.{to_z-of_z}
use Rattle.gw_base.specs.Moment.{civil_at, civil_text, moment_of, stamp_of}
use Rattle.gw_base.proofs.MomentLemmas.{civil_at-is, civil_bounds, civil_text-parts, moment_of_bound}
use Rattle.gw_base.proofs.moment.stamp.Goals as goal

pub returns-clause-value : goal.returns-clause-value
unfolding stamp_of
returns-clause-value c =
    let fits : FitsSigned w64 c.args.now = c.ranges.now in
    let civil : c.civil_of-civil.result ≡ civil_at (moment_of c.args.now) = simp to_z-of_z at c.civil_of-civil.ensures.value in
    civil_text-parts c.civil_of-civil.result c.two_digits.result c.two_digits-2.result c.two_digits-3.result c.two_digits-4.result
    c.two_digits-5.result c.two_digits-6.result c.two_digits-7.result c.two_digits.ensures c.two_digits-2.ensures c.two_digits-3.ensures
    c.two_digits-4.ensures c.two_digits-5.ensures c.two_digits-6.ensures c.two_digits-7.ensures
    ∙ ap civil_text civil

pub returns-clause-civil : goal.returns-clause-civil
unfolding stamp_of
returns-clause-civil c =
    let is = civil_at-is (moment_of c.args.now) (moment_of_bound c.args.now) in
    (civil_at (moment_of c.args.now), is.0, is.1, returns-clause-value c)

pub overflow_cast-civil : goal.overflow_cast-civil
overflow_cast-civil c = omega (arith, civil_bounds _ c.civil_of-civil.ensures.civil)

pub two_digits-requires : goal.two_digits-requires
two_digits-requires c = omega (arith, civil_bounds _ c.civil_of-civil.ensures.civil)

pub two_digits-requires-3 : goal.two_digits-requires-3
two_digits-requires-3 c = omega (arith, civil_bounds _ c.civil_of-civil.ensures.civil)

pub two_digits-requires-4 : goal.two_digits-requires-4
two_digits-requires-4 c = omega (arith, civil_bounds _ c.civil_of-civil.ensures.civil)
