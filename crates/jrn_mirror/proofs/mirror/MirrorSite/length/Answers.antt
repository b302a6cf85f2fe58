-- Proof of the contract of `length`.
use Rattle.std.proofs.Common.{◌≡◌, ℕ, length}
use Rattle.std.specs.Prelude.{Ok, Err, IfSome}
use Rattle.gw_site.specs.Steps.{LengthCall}
use Rattle.jrn_mirror.specs.PairObserved.{IfLogged}
use Rattle.jrn_mirror.specs.inner.Halves.{OneHas}
use Rattle.jrn_mirror.proofs.MirrorLemmas.{look-turns, look-sound, one-has, looked-lit, looked-ok, looked-err, mirror-step}
use Rattle.jrn_mirror.proofs.mirror.MirrorSite.length.Goals as goal

pub invariant_of-self : goal.invariant_of-self
invariant_of-self g c = record { sound = look-sound (g.P.Pair.observed c.args.self.now.pair) (g.P.Pair.observed c.length_there-count.new.pair) c.args.self.now.first c.args.self.now.second c.length_there-count.result.1 c.length_there-count.result.2 c.args.self.now.opened c.args.self.now.broken c.args.self.now.sound c.if-self.true c.length_there-count.ensures.stay c.length_there-count.ensures.turns c.length_there-count.ensures.gone }

pub invariant_of-self-in-None : goal.invariant_of-self-in-None
invariant_of-self-in-None g c = record { sound = look-sound (g.P.Pair.observed c.args.self.now.pair) (g.P.Pair.observed c.length_there-count.new.pair) c.args.self.now.first c.args.self.now.second c.length_there-count.result.1 c.length_there-count.result.2 c.args.self.now.opened c.args.self.now.broken c.args.self.now.sound c.if-self.true c.length_there-count.ensures.stay c.length_there-count.ensures.turns c.length_there-count.ensures.gone }

pub returns-in-Some-clause-turns : goal.returns-in-Some-clause-turns
returns-in-Some-clause-turns g c = look-turns {T = ℕ} (g.P.Pair.observed c.args.self.now.pair) (g.P.Pair.observed c.length_there-count.new.pair) c.args.self.now.faults c.args.self.now.faults c.args.self.now.first c.args.self.now.second c.length_there-count.result.1 c.length_there-count.result.2 c.args.self.now.opened c.args.self.now.broken (Ok c.in-Some.count) c.args.self.now.sound c.if-self.true c.length_there-count.ensures.stay c.length_there-count.ensures.turns (looked-ok c.length_there-count.result.0 c.in-Some.count _ c.in-Some.is c.length_there-count.ensures.some)

pub returns-in-Some-clause-length : goal.returns-in-Some-clause-length
returns-in-Some-clause-length g c =
    let has : IfLogged (g.P.Pair.observed c.args.self.now.pair) (λ log. IfSome c.length_there-count.result.0 (λ count. OneHas log (λ file. count ≡ length file))) = c.length_there-count.ensures.length in
    one-has (g.P.Pair.observed c.args.self.now.pair) c.args.self.now.faults c.args.self.now.first c.args.self.now.second c.args.self.now.opened c.args.self.now.broken (λ file. c.in-Some.count ≡ length file) c.args.self.now.sound c.if-self.true (looked-lit _ c.length_there-count.result.0 c.in-Some.count c.in-Some.is c.length_there-count.ensures.dark) (rw c.in-Some.is at has)

pub returns-in-None-clause-turns : goal.returns-in-None-clause-turns
returns-in-None-clause-turns g c = look-turns {T = ℕ} (g.P.Pair.observed c.args.self.now.pair) (g.P.Pair.observed c.length_there-count.new.pair) c.args.self.now.faults c.saturating_add-self.result c.args.self.now.first c.args.self.now.second c.length_there-count.result.1 c.length_there-count.result.2 c.args.self.now.opened c.args.self.now.broken (Err (record {})) c.args.self.now.sound c.if-self.true c.length_there-count.ensures.stay c.length_there-count.ensures.turns (looked-err c.length_there-count.result.0 _ c.in-None.is c.length_there-count.ensures.some)

pub returns-in-Some-clause-step : goal.returns-in-Some-clause-step
returns-in-Some-clause-step g c = mirror-step (g.P.Pair.observed c.args.self.now.pair) (g.P.Pair.observed c.length_there-count.new.pair) c.args.self.now.faults c.args.self.now.faults c.args.self.now.broken c.args.self.now.broken LengthCall

pub returns-in-None-clause-step : goal.returns-in-None-clause-step
returns-in-None-clause-step g c = mirror-step (g.P.Pair.observed c.args.self.now.pair) (g.P.Pair.observed c.length_there-count.new.pair) c.args.self.now.faults c.saturating_add-self.result c.args.self.now.broken c.args.self.now.broken LengthCall

pub returns-else-self-clause-step : goal.returns-else-self-clause-step
returns-else-self-clause-step g c = mirror-step (g.P.Pair.observed c.args.self.now.pair) (g.P.Pair.observed c.refuse-failed.new.self.pair) c.args.self.now.faults c.refuse-failed.new.self.faults c.args.self.now.broken c.refuse-failed.new.self.broken LengthCall
