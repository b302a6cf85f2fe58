-- Proof of the contract of `write_there`.
use Rattle.std.proofs.Common.{◌≡◌, refl, false}
use Rattle.jrn_mirror.specs.declared.turn.Half.TheVariants.{First}
use Rattle.jrn_mirror.specs.inner.Halves.{half_write}
use Rattle.jrn_mirror.proofs.PairLemmas.{pair-is, fails-gone}
use Rattle.jrn_mirror.proofs.halves.write_there.Goals as goal

pub returns-in-true-true-clause-turns : goal.returns-in-true-true-clause-turns
returns-in-true-true-clause-turns g c = rw (c.in-true-true.is-0, c.in-true-true.is-1) c.write_both.ensures.turns

pub returns-in-true-false-clause-turns : goal.returns-in-true-false-clause-turns
returns-in-true-false-clause-turns g c = rw (c.in-true-false.is-0, c.in-true-false.is-1) c.write_half.ensures.turns

pub returns-in-false-true-clause-turns : goal.returns-in-false-true-clause-turns
returns-in-false-true-clause-turns g c = rw (c.in-false-true.is-0, c.in-false-true.is-1) c.write_half-in-false-true.ensures.turns

pub returns-in-false-false-clause-turns : goal.returns-in-false-false-clause-turns
returns-in-false-false-clause-turns g c =
    let call = c.write_half-in-false-false in
    let failed : call.result ≡ false = fails-gone (g.P.Pair.observed c.args.pair.now) c.args.first c.args.second call.result c.requires c.in-false-false.is-0 call.ensures.lost call.ensures.dark in
    rw (c.in-false-false.is-0, c.in-false-false.is-1) (pair-is _ _ (half_write First c.args.offset c.args.bytes.now call.result) (half_write First c.args.offset c.args.bytes.now false) (rw failed refl) call.ensures.turns)
