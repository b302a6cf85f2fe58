-- Proof of the contract of `write_at`.
use Rattle.std.proofs.Common.{false}
use Rattle.gw_bytes.proofs.ByteLemmas.{are_bytes}
use Rattle.gw_site.specs.Turns.{WroteTurns}
use Rattle.gw_site.specs.Steps.{WriteCall}
use Rattle.jrn_mirror.proofs.RunLemmas.{one_write}
use Rattle.jrn_mirror.proofs.MirrorLemmas.{write-turns, write-sound, refused-turns, failed-write, mirror-step}
use Rattle.jrn_mirror.proofs.mirror.MirrorSite.write_at.Goals as goal

pub invariant_of-self : goal.invariant_of-self
invariant_of-self g c = record { sound = write-sound (g.P.Pair.observed c.args.self.now.pair) (g.P.Pair.observed c.write_there-first.new.pair) c.args.self.now.first c.args.self.now.second c.write_there-first.result.0 c.write_there-first.result.1 c.args.self.now.opened c.args.self.now.broken c.args.offset c.args.bytes.now (are_bytes c.args.bytes.now (λ k. (c.type_inv.bytes k).fits)) c.args.self.now.sound c.if-self.true c.write_there-first.ensures.stay c.write_there-first.ensures.turns c.write_there-first.ensures.gone }

pub returns-then-self-clause-turns : goal.returns-then-self-clause-turns
returns-then-self-clause-turns g c = write-turns (g.P.Pair.observed c.args.self.now.pair) (g.P.Pair.observed c.write_there-first.new.pair) c.args.self.now.faults c.outcome.new.faults c.args.self.now.first c.args.self.now.second c.write_there-first.result.0 c.write_there-first.result.1 c.args.self.now.opened c.args.self.now.broken c.args.offset c.args.bytes.now c.outcome.result (are_bytes c.args.bytes.now (λ k. (c.type_inv.bytes k).fits)) c.args.self.now.sound c.if-self.true c.write_there-first.ensures.stay c.write_there-first.ensures.turns c.outcome.ensures.outcome

pub returns-else-self-clause-turns : goal.returns-else-self-clause-turns
returns-else-self-clause-turns g c =
    rw (c.refuse.ensures.broken, c.refuse.ensures.pair) (refused-turns (g.P.Pair.observed c.args.self.now.pair) c.args.self.now.faults c.refuse.new.self.faults c.args.self.now.broken (WroteTurns c.args.offset c.args.bytes.now c.refuse.result) (one_write c.args.offset c.args.bytes.now false) (failed-write c.args.offset c.args.bytes.now c.refuse.result c.refuse.ensures.failed))

pub returns-then-self-clause-step : goal.returns-then-self-clause-step
returns-then-self-clause-step g c = mirror-step (g.P.Pair.observed c.args.self.now.pair) (g.P.Pair.observed c.write_there-first.new.pair) c.args.self.now.faults c.outcome.new.faults c.args.self.now.broken c.args.self.now.broken (WriteCall c.args.offset c.args.bytes.now)

pub returns-else-self-clause-step : goal.returns-else-self-clause-step
returns-else-self-clause-step g c = mirror-step (g.P.Pair.observed c.args.self.now.pair) (g.P.Pair.observed c.refuse.new.self.pair) c.args.self.now.faults c.refuse.new.self.faults c.args.self.now.broken c.refuse.new.self.broken (WriteCall c.args.offset c.args.bytes.now)
