-- Proof of the contract of `send_pt`.
use Rattle.std.proofs.Common.{[], ◌∷◌, false}
use Rattle.gw_site.specs.Turns.{SentPtTurns}
use Rattle.gw_site.specs.declared.turn.Turn.TheVariants.{SentPt}
use Rattle.gw_site.specs.Steps.{SendPtCall}
use Rattle.jrn_mirror.proofs.LineLemmas.{line-turns, line-sound, sent_pt_lines, failed_pt}
use Rattle.jrn_mirror.proofs.MirrorLemmas.{refused-turns, mirror-step, passed-on, passed-unopened}
use Rattle.jrn_mirror.proofs.mirror.MirrorSite.send_pt.Goals as goal

pub invariant_of-self : goal.invariant_of-self
invariant_of-self g c = record { sound = line-sound (g.P.Pair.observed c.args.self.now.pair) (g.P.Pair.observed c.send_pt-made.new.self) c.args.self.now.first c.args.self.now.second c.args.self.now.opened c.args.self.now.broken (SentPtTurns c.args.pt c.args.bytes.now c.send_pt-made.result) c.args.self.now.sound c.if-self.true c.send_pt-made.ensures.turns (sent_pt_lines c.args.pt c.args.bytes.now c.send_pt-made.result) }

pub returns-then-self-clause-turns : goal.returns-then-self-clause-turns
returns-then-self-clause-turns g c = rw c.counted.ensures.same (line-turns (g.P.Pair.observed c.args.self.now.pair) (g.P.Pair.observed c.send_pt-made.new.self) c.args.self.now.faults c.counted.new.faults c.args.self.now.first c.args.self.now.second c.args.self.now.opened c.args.self.now.broken (SentPtTurns c.args.pt c.args.bytes.now c.send_pt-made.result) c.args.self.now.sound c.if-self.true c.send_pt-made.ensures.turns (sent_pt_lines c.args.pt c.args.bytes.now c.send_pt-made.result))

pub returns-else-self-clause-turns : goal.returns-else-self-clause-turns
returns-else-self-clause-turns g c =
    rw (c.refuse.ensures.broken, c.refuse.ensures.pair) (refused-turns (g.P.Pair.observed c.args.self.now.pair) c.args.self.now.faults c.refuse.new.self.faults c.args.self.now.broken (SentPtTurns c.args.pt c.args.bytes.now c.refuse.result) (SentPt c.args.pt [] false ∷ []) (failed_pt c.args.pt c.args.bytes.now c.refuse.result c.refuse.ensures.failed))

pub returns-then-self-clause-step : goal.returns-then-self-clause-step
returns-then-self-clause-step g c = mirror-step (g.P.Pair.observed c.args.self.now.pair) (g.P.Pair.observed c.send_pt-made.new.self) c.args.self.now.faults c.counted.new.faults c.args.self.now.broken c.args.self.now.broken (SendPtCall c.args.pt c.args.bytes.now)

pub returns-else-self-clause-step : goal.returns-else-self-clause-step
returns-else-self-clause-step g c = mirror-step (g.P.Pair.observed c.args.self.now.pair) (g.P.Pair.observed c.refuse.new.self.pair) c.args.self.now.faults c.refuse.new.self.faults c.args.self.now.broken c.refuse.new.self.broken (SendPtCall c.args.pt c.args.bytes.now)

pub returns-then-self-clause-passed : goal.returns-then-self-clause-passed
returns-then-self-clause-passed g c = passed-on (g.P.Pair.observed c.args.self.now.pair) (g.P.Pair.observed c.send_pt-made.new.self) c.args.self.now.opened c.send_pt-made.result c.counted.result c.counted.ensures.same c.send_pt-made.ensures.cause.failed

pub returns-else-self-clause-passed : goal.returns-else-self-clause-passed
returns-else-self-clause-passed g c = passed-unopened (g.P.Pair.observed c.args.self.now.pair) (g.P.Pair.observed c.refuse.new.self.pair) c.args.self.now.opened c.refuse.result c.if-self.false
