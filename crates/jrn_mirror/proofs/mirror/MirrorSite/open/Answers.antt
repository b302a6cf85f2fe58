-- Proof of the contract of `open`.
use Rattle.std.proofs.Common.{refl, false}
use Rattle.std.specs.Prelude.{◌||◌}
use Rattle.jrn_mirror.specs.MirrorObserved.{IsOpenRefused}
use Rattle.jrn_mirror.specs.inner.Opening.{Opened}
use Rattle.jrn_mirror.proofs.OpenedLemmas.{opened-by, opened-sound, refused-by, refused-sound, broken-opening, can-open}
use Rattle.jrn_mirror.proofs.mirror.MirrorSite.open.Goals as goal

pub open_there-requires-clause-can : goal.open_there-requires-clause-can
open_there-requires-clause-can g c = can-open (g.P.Pair.observed c.args.self.now.pair) c.args.self.now.first c.args.self.now.second c.args.self.now.opened c.args.self.now.broken c.args.self.now.sound c.if-self.false

pub returns-then-self-clause-turns : goal.returns-then-self-clause-turns
returns-then-self-clause-turns g c = broken-opening (g.P.Pair.observed c.args.self.now.pair) c.args.self.now.faults c.outcome.new.faults c.args.self.now.broken c.args.setup.now c.outcome.result c.if-self.true c.outcome.ensures.outcome

pub invariant_of-self-in-Ok : goal.invariant_of-self-in-Ok
invariant_of-self-in-Ok g c =
    let opened : Opened (g.P.Pair.observed c.args.self.now.pair) (g.P.Pair.observed c.open_there.new.pair) c.args.setup.now c.in-Ok.first c.in-Ok.second = c.in-Ok.ensures.opened in
    record { sound = opened-sound (g.P.Pair.observed c.args.self.now.pair) (g.P.Pair.observed c.open_there.new.pair) c.args.setup.now c.in-Ok.first c.in-Ok.second (c.in-Ok.first || c.in-Ok.second) c.args.self.now.broken c.args.self.now.sound.mirrored opened refl c.if-self.false }

pub returns-in-Ok-clause-turns : goal.returns-in-Ok-clause-turns
returns-in-Ok-clause-turns g c =
    let opened : Opened (g.P.Pair.observed c.args.self.now.pair) (g.P.Pair.observed c.open_there.new.pair) c.args.setup.now c.in-Ok.first c.in-Ok.second = c.in-Ok.ensures.opened in
    opened-by (g.P.Pair.observed c.args.self.now.pair) (g.P.Pair.observed c.open_there.new.pair) c.args.self.now.faults c.outcome-in-Ok.new.faults c.args.self.now.broken c.args.setup.now c.in-Ok.first c.in-Ok.second c.outcome-in-Ok.result c.if-self.false c.in-Ok.ensures.dark c.args.self.now.sound.mirrored opened c.outcome-in-Ok.ensures.outcome

pub invariant_of-self-in-Err : goal.invariant_of-self-in-Err
invariant_of-self-in-Err g c =
    let refused : IsOpenRefused (g.P.Pair.observed c.args.self.now.pair) (g.P.Pair.observed c.open_there.new.pair) = c.in-Err.ensures.refused in
    record { sound = refused-sound (g.P.Pair.observed c.args.self.now.pair) (g.P.Pair.observed c.open_there.new.pair) c.args.self.now.first c.args.self.now.second false c.args.self.now.broken c.args.self.now.sound.mirrored (can-open (g.P.Pair.observed c.args.self.now.pair) c.args.self.now.first c.args.self.now.second c.args.self.now.opened c.args.self.now.broken c.args.self.now.sound c.if-self.false) refused.turns refl c.if-self.false }

pub returns-in-Err-clause-turns : goal.returns-in-Err-clause-turns
returns-in-Err-clause-turns g c =
    let refused : IsOpenRefused (g.P.Pair.observed c.args.self.now.pair) (g.P.Pair.observed c.open_there.new.pair) = c.in-Err.ensures.refused in
    refused-by (g.P.Pair.observed c.args.self.now.pair) (g.P.Pair.observed c.open_there.new.pair) c.args.self.now.faults c.outcome-in-Err.new.faults c.args.self.now.broken c.args.setup.now c.outcome-in-Err.result c.if-self.false refused.turns c.outcome-in-Err.ensures.outcome
