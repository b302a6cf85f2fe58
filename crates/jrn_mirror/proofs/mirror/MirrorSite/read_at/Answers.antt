-- Proof of the contract of `read_at`.
use Rattle.std.proofs.Common.{◌≡◌, length, false}
use Rattle.std.specs.Prelude.{◌||◌}
use Rattle.gw_site.specs.Outside.{file_part}
use Rattle.gw_site.specs.Turns.{DiskTurns}
use Rattle.gw_site.specs.Steps.{ReadCall}
use Rattle.jrn_mirror.proofs.RunLemmas.{failed_unless}
use Rattle.jrn_mirror.proofs.MirrorLemmas.{look-turns, look-sound, refused-turns, failed-look, read-has, ok_there, mirror-step}
use Rattle.jrn_mirror.proofs.mirror.MirrorSite.read_at.Goals as goal

pub invariant_of-self : goal.invariant_of-self
invariant_of-self g c = record { sound = look-sound (g.P.Pair.observed c.args.self.now.pair) (g.P.Pair.observed c.read_there-first.new.pair) c.args.self.now.first c.args.self.now.second c.read_there-first.result.0 c.read_there-first.result.1 c.args.self.now.opened c.args.self.now.broken c.args.self.now.sound c.if-self.true c.read_there-first.ensures.stay c.read_there-first.ensures.turns c.read_there-first.ensures.gone }

pub returns-then-self-clause-turns : goal.returns-then-self-clause-turns
returns-then-self-clause-turns g c = look-turns {T = Unit {0}} (g.P.Pair.observed c.args.self.now.pair) (g.P.Pair.observed c.read_there-first.new.pair) c.args.self.now.faults c.outcome.new.faults c.args.self.now.first c.args.self.now.second c.read_there-first.result.0 c.read_there-first.result.1 c.args.self.now.opened c.args.self.now.broken c.outcome.result c.args.self.now.sound c.if-self.true c.read_there-first.ensures.stay c.read_there-first.ensures.turns (ok_there (c.read_there-first.result.0 || c.read_there-first.result.1) c.outcome.result c.outcome.ensures.outcome)

pub returns-then-self-clause-bytes : goal.returns-then-self-clause-bytes
returns-then-self-clause-bytes g c = read-has (g.P.Pair.observed c.args.self.now.pair) c.args.self.now.faults c.args.self.now.first c.args.self.now.second c.args.self.now.opened c.args.self.now.broken (c.read_there-first.result.0 || c.read_there-first.result.1) (λ file. c.read_there-first.new.buf ≡ file_part file c.args.offset (length c.args.buf.now)) c.outcome.result c.args.self.now.sound c.if-self.true c.read_there-first.ensures.dark c.read_there-first.ensures.bytes c.outcome.ensures.outcome

pub returns-else-self-clause-turns : goal.returns-else-self-clause-turns
returns-else-self-clause-turns g c =
    rw (c.refuse.ensures.broken, c.refuse.ensures.pair) (refused-turns (g.P.Pair.observed c.args.self.now.pair) c.args.self.now.faults c.refuse.new.self.faults c.args.self.now.broken (DiskTurns c.refuse.result) (failed_unless false) (failed-look c.refuse.result c.refuse.ensures.failed))

pub returns-then-self-clause-step : goal.returns-then-self-clause-step
returns-then-self-clause-step g c = mirror-step (g.P.Pair.observed c.args.self.now.pair) (g.P.Pair.observed c.read_there-first.new.pair) c.args.self.now.faults c.outcome.new.faults c.args.self.now.broken c.args.self.now.broken (ReadCall c.args.offset (length c.args.buf.now))

pub returns-else-self-clause-step : goal.returns-else-self-clause-step
returns-else-self-clause-step g c = mirror-step (g.P.Pair.observed c.args.self.now.pair) (g.P.Pair.observed c.refuse.new.self.pair) c.args.self.now.faults c.refuse.new.self.faults c.args.self.now.broken c.refuse.new.self.broken (ReadCall c.args.offset (length c.args.buf.now))
