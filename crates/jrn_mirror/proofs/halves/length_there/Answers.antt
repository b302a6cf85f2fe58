-- Proof of the contract of `length_there`.
use Rattle.std.proofs.Common.{◌≡◌, length, refl, false, [], ◌∷◌}
use Rattle.std.specs.Prelude.{is_some}
use Rattle.jrn_mirror.specs.declared.turn.Half.TheVariants.{First, Second}
use Rattle.jrn_mirror.specs.declared.turn.Turn2.TheVariants.{Lost}
use Rattle.jrn_mirror.specs.inner.Halves.{loss}
use Rattle.jrn_mirror.proofs.PairLemmas.{pair-is, pair-same, fails-gone, look-second, look-one}
use Rattle.jrn_mirror.proofs.halves.length_there.Goals as goal

pub returns-in-Some-clause-turns : goal.returns-in-Some-clause-turns
returns-in-Some-clause-turns g c = rw (c.in-true-true.is-0, c.in-true-true.is-1) c.in-Some.ensures.turns

pub returns-in-None-clause-turns : goal.returns-in-None-clause-turns
returns-in-None-clause-turns g c = rw (c.in-true-true.is-0, c.in-true-true.is-1, c.is_some.ensures) (pair-same _ _ (Lost First ∷ []) (loss (is_some c.length_half-count.result) Second) _ refl _ c.in-None.ensures.turns c.length_half-count.ensures.turns)

pub returns-in-None-clause-length : goal.returns-in-None-clause-length
returns-in-None-clause-length g c = look-second _ _ (λ count file. count ≡ length file) c.length_half-count.result c.in-None.ensures.turns c.length_half-count.ensures.dark c.length_half-count.ensures.length

pub returns-in-true-false-clause-turns : goal.returns-in-true-false-clause-turns
returns-in-true-false-clause-turns g c = rw (c.in-true-false.is-0, c.in-true-false.is-1, c.is_some-in-true-false.ensures) c.length_half-count-in-true-false.ensures.turns

pub returns-in-true-false-clause-length : goal.returns-in-true-false-clause-length
returns-in-true-false-clause-length g c = look-one (g.P.Pair.observed c.args.pair.now) First (λ count file. count ≡ length file) c.length_half-count-in-true-false.result c.length_half-count-in-true-false.ensures.length

pub returns-in-false-true-clause-turns : goal.returns-in-false-true-clause-turns
returns-in-false-true-clause-turns g c = rw (c.in-false-true.is-0, c.in-false-true.is-1, c.is_some-in-false-true.ensures) c.length_half-count-in-false-true.ensures.turns

pub returns-in-false-true-clause-length : goal.returns-in-false-true-clause-length
returns-in-false-true-clause-length g c = look-one (g.P.Pair.observed c.args.pair.now) Second (λ count file. count ≡ length file) c.length_half-count-in-false-true.result c.length_half-count-in-false-true.ensures.length

pub returns-in-false-false-clause-turns : goal.returns-in-false-false-clause-turns
returns-in-false-false-clause-turns g c =
    let call = c.length_half-in-false-false in
    let failed : is_some call.result ≡ false = fails-gone (g.P.Pair.observed c.args.pair.now) c.args.first c.args.second (is_some call.result) c.requires c.in-false-false.is-0 call.ensures.lost call.ensures.dark in
    rw (c.in-false-false.is-0, c.in-false-false.is-1) (pair-is _ _ (loss (is_some call.result) First) (loss false First) (rw failed refl) call.ensures.turns)
