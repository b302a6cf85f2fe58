-- Proof of the contract of `lengths_there`.
use Rattle.std.proofs.Common.{◌≡◌, length, refl, false}
use Rattle.std.specs.Prelude.{is_some}
use Rattle.jrn_mirror.specs.declared.turn.Half.TheVariants.{First, Second}
use Rattle.jrn_mirror.specs.inner.Halves.{loss}
use Rattle.jrn_mirror.proofs.BeforeLemmas.{second-length}
use Rattle.jrn_mirror.proofs.PairLemmas.{pair-is, pair-same, fails-gone}
use Rattle.jrn_mirror.proofs.opening.lengths_there.Goals as goal

pub returns-in-true-true-clause-turns : goal.returns-in-true-true-clause-turns
returns-in-true-true-clause-turns g c = rw (c.in-true-true.is-0, c.in-true-true.is-1) (pair-same _ _ (loss (is_some c.length_half-first_size.result) First) (loss (is_some c.length_half-second_size.result) Second) _ refl _ c.length_half-first_size.ensures.turns c.length_half-second_size.ensures.turns)

pub returns-in-true-true-clause-lengths : goal.returns-in-true-true-clause-lengths
returns-in-true-true-clause-lengths g c = λ log e. record {
  first_has = c.length_half-first_size.ensures.length log e;
  second_has = second-length (g.P.Pair.observed c.args.pair.now) (g.P.Pair.observed c.length_half-first_size.new.pair) (is_some c.length_half-first_size.result) (λ count file. count ≡ length file) c.length_half-second_size.result c.length_half-first_size.ensures.turns c.length_half-second_size.ensures.length log e;
}

pub returns-in-true-false-clause-turns : goal.returns-in-true-false-clause-turns
returns-in-true-false-clause-turns g c = rw (c.in-true-false.is-0, c.in-true-false.is-1) c.length_half.ensures.turns

pub returns-in-true-false-clause-lengths : goal.returns-in-true-false-clause-lengths
returns-in-true-false-clause-lengths g c = λ log e. record { first_has = c.length_half.ensures.length log e; second_has = tt }

pub returns-in-false-true-clause-turns : goal.returns-in-false-true-clause-turns
returns-in-false-true-clause-turns g c = rw (c.in-false-true.is-0, c.in-false-true.is-1) c.length_half-in-false-true.ensures.turns

pub returns-in-false-true-clause-lengths : goal.returns-in-false-true-clause-lengths
returns-in-false-true-clause-lengths g c = λ log e. record { first_has = tt; second_has = c.length_half-in-false-true.ensures.length log e }

pub returns-in-false-false-clause-turns : goal.returns-in-false-false-clause-turns
returns-in-false-false-clause-turns g c =
    let call = c.length_half-in-false-false in
    let failed : is_some call.result ≡ false = fails-gone (g.P.Pair.observed c.args.pair.now) c.args.first c.args.second (is_some call.result) c.requires c.in-false-false.is-0 call.ensures.lost call.ensures.dark in
    rw (c.in-false-false.is-0, c.in-false-false.is-1) (pair-is _ _ (loss (is_some call.result) First) (loss false First) (rw failed refl) call.ensures.turns)

pub returns-in-false-false-clause-lengths : goal.returns-in-false-false-clause-lengths
returns-in-false-false-clause-lengths g c = λ log e. record { first_has = tt; second_has = tt }
