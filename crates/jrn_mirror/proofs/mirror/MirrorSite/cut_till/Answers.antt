-- Proof of the contract of `cut_till`.
use Rattle.std.proofs.Common.{true}
use Rattle.gw_site.specs.Turns.{IsTurn}
use Rattle.gw_site.specs.declared.turn.Turn.TheVariants.{CutTill}
use Rattle.gw_site.specs.Steps.{CutTillCall}
use Rattle.jrn_mirror.proofs.MirrorLemmas.{mirror-step}
use Rattle.jrn_mirror.proofs.LineLemmas.{line-turns, line-sound}
use Rattle.jrn_mirror.proofs.mirror.MirrorSite.cut_till.Goals as goal

pub invariant_of-self : goal.invariant_of-self
invariant_of-self g c = record { sound = line-sound (g.P.Pair.observed c.args.self.now.pair) (g.P.Pair.observed c.cut_till.new.self) c.args.self.now.first c.args.self.now.second c.args.self.now.opened c.args.self.now.broken (IsTurn (CutTill c.args.till)) c.args.self.now.sound c.if-self.true c.cut_till.ensures.turns (λ turns e. rw e (tt, tt)) }

pub returns-then-self-clause-turns : goal.returns-then-self-clause-turns
returns-then-self-clause-turns g c = line-turns (g.P.Pair.observed c.args.self.now.pair) (g.P.Pair.observed c.cut_till.new.self) c.args.self.now.faults c.args.self.now.faults c.args.self.now.first c.args.self.now.second c.args.self.now.opened c.args.self.now.broken (IsTurn (CutTill c.args.till)) c.args.self.now.sound c.if-self.true c.cut_till.ensures.turns (λ turns e. rw e (tt, tt))

pub returns-then-self-clause-step : goal.returns-then-self-clause-step
returns-then-self-clause-step g c = mirror-step (g.P.Pair.observed c.args.self.now.pair) (g.P.Pair.observed c.cut_till.new.self) c.args.self.now.faults c.args.self.now.faults c.args.self.now.broken c.args.self.now.broken (CutTillCall c.args.till)

pub returns-else-self-clause-step : goal.returns-else-self-clause-step
returns-else-self-clause-step g c = mirror-step (g.P.Pair.observed c.args.self.now.pair) (g.P.Pair.observed c.args.self.now.pair) c.args.self.now.faults c.args.self.now.faults c.args.self.now.broken true (CutTillCall c.args.till)
