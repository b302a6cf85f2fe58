-- Proof of the contract of `poll`.
use Rattle.std.proofs.Common.{true}
use Rattle.gw_site.specs.Turns.{PolledTurns}
use Rattle.gw_site.specs.Steps.{PollCall}
use Rattle.jrn_mirror.proofs.MirrorLemmas.{mirror-step}
use Rattle.jrn_mirror.proofs.LineLemmas.{line-turns, line-sound, line-promise, polled_lines}
use Rattle.jrn_mirror.proofs.mirror.MirrorSite.poll.Goals as goal

pub invariant_of-self : goal.invariant_of-self
invariant_of-self g c = record { sound = line-sound (g.P.Pair.observed c.args.self.now.pair) (g.P.Pair.observed c.poll.new.self) c.args.self.now.first c.args.self.now.second c.args.self.now.opened c.args.self.now.broken (PolledTurns c.poll.result c.poll.new.buf) c.args.self.now.sound c.if-self.true c.poll.ensures.turns (polled_lines c.poll.result c.poll.new.buf) }

pub returns-then-self-clause-turns : goal.returns-then-self-clause-turns
returns-then-self-clause-turns g c = line-turns (g.P.Pair.observed c.args.self.now.pair) (g.P.Pair.observed c.poll.new.self) c.args.self.now.faults c.args.self.now.faults c.args.self.now.first c.args.self.now.second c.args.self.now.opened c.args.self.now.broken (PolledTurns c.poll.result c.poll.new.buf) c.args.self.now.sound c.if-self.true c.poll.ensures.turns (polled_lines c.poll.result c.poll.new.buf)

pub returns-then-self-clause-promise : goal.returns-then-self-clause-promise
returns-then-self-clause-promise g c = line-promise (g.P.Pair.observed c.args.self.now.pair) c.args.self.now.faults c.args.self.now.first c.args.self.now.second c.args.self.now.opened c.args.self.now.broken c.poll.result.what c.args.self.now.sound c.if-self.true c.poll.ensures.dark c.poll.ensures.promise

pub returns-then-self-clause-step : goal.returns-then-self-clause-step
returns-then-self-clause-step g c = mirror-step (g.P.Pair.observed c.args.self.now.pair) (g.P.Pair.observed c.poll.new.self) c.args.self.now.faults c.args.self.now.faults c.args.self.now.broken c.args.self.now.broken PollCall

pub returns-else-self-clause-step : goal.returns-else-self-clause-step
returns-else-self-clause-step g c = mirror-step (g.P.Pair.observed c.args.self.now.pair) (g.P.Pair.observed c.args.self.now.pair) c.args.self.now.faults c.args.self.now.faults c.args.self.now.broken true PollCall
