-- Proof of the contract of `sync`.
use Rattle.std.proofs.Common.{false}
use Rattle.gw_site.specs.Turns.{SyncedTurns}
use Rattle.gw_site.specs.Steps.{SyncCall}
use Rattle.jrn_mirror.proofs.RunLemmas.{one_sync}
use Rattle.jrn_mirror.proofs.MirrorLemmas.{sync-turns, sync-sound, refused-turns, failed-sync, mirror-step}
use Rattle.jrn_mirror.proofs.mirror.MirrorSite.sync.Goals as goal

pub invariant_of-self : goal.invariant_of-self
invariant_of-self g c = record { sound = sync-sound (g.P.Pair.observed c.args.self.now.pair) (g.P.Pair.observed c.sync_there-first.new.pair) c.args.self.now.first c.args.self.now.second c.sync_there-first.result.0 c.sync_there-first.result.1 c.args.self.now.opened c.args.self.now.broken c.args.self.now.sound c.if-self.true c.sync_there-first.ensures.stay c.sync_there-first.ensures.turns c.sync_there-first.ensures.gone }

pub returns-then-self-clause-turns : goal.returns-then-self-clause-turns
returns-then-self-clause-turns g c = sync-turns (g.P.Pair.observed c.args.self.now.pair) (g.P.Pair.observed c.sync_there-first.new.pair) c.args.self.now.faults c.outcome.new.faults c.args.self.now.first c.args.self.now.second c.sync_there-first.result.0 c.sync_there-first.result.1 c.args.self.now.opened c.args.self.now.broken c.outcome.result c.args.self.now.sound c.if-self.true c.sync_there-first.ensures.stay c.sync_there-first.ensures.turns c.outcome.ensures.outcome

pub returns-else-self-clause-turns : goal.returns-else-self-clause-turns
returns-else-self-clause-turns g c =
    rw (c.refuse.ensures.broken, c.refuse.ensures.pair) (refused-turns (g.P.Pair.observed c.args.self.now.pair) c.args.self.now.faults c.refuse.new.self.faults c.args.self.now.broken (SyncedTurns c.refuse.result) (one_sync false) (failed-sync c.refuse.result c.refuse.ensures.failed))

pub returns-then-self-clause-step : goal.returns-then-self-clause-step
returns-then-self-clause-step g c = mirror-step (g.P.Pair.observed c.args.self.now.pair) (g.P.Pair.observed c.sync_there-first.new.pair) c.args.self.now.faults c.outcome.new.faults c.args.self.now.broken c.args.self.now.broken SyncCall

pub returns-else-self-clause-step : goal.returns-else-self-clause-step
returns-else-self-clause-step g c = mirror-step (g.P.Pair.observed c.args.self.now.pair) (g.P.Pair.observed c.refuse.new.self.pair) c.args.self.now.faults c.refuse.new.self.faults c.args.self.now.broken c.refuse.new.self.broken SyncCall
