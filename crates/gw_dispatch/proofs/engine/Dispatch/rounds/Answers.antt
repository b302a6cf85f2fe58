-- Proof of the contract of `Dispatch::rounds`.
use Rattle.std.proofs.Common.{◌∙◌, ◌+◌, refl, sym, ap, arith, inl}
use Rattle.std.specs.Prelude.{Err}
use Rattle.gw_rules.proofs.TripleLemmas.{triple-refl, triple-then, triple-after}
use Rattle.gw_dispatch.proofs.GrowthLemmas.{after-polls, breaks-after, goes-nowhere, goes-without-poll, makes-all, makes-none, makes-one-more, polls-then, polls-within, round-for-memory, stops-at-last}
use Rattle.gw_dispatch.proofs.RoundLemmas.{all-polled, idle-lacks, stop-kept, undone-kept}
use Rattle.gw_dispatch.proofs.engine.Dispatch.rounds.Goals as goal

pub loop-made-init : goal.loop-made-init
loop-made-init g c = record {
  kept = λ setup named. triple-refl _ _;
  ready = c.requires.ready;
  gateway = refl;
  buf = refl;
  made = makes-none (g.S.Site.observed c.args.site.now);
  goes_on = goes-without-poll 0 _ _ (goes-nowhere _);
}

pub loop-made-preserved : goal.loop-made-preserved
loop-made-preserved g c = record {
  kept = λ setup named. triple-then _ _ _ _ _ _ (c.loop-made.invariant.kept setup named) (rw c.in-Ok-Went.field-0-is at (c.in-Ok-Went.ensures.triple setup c.loop-made.made (named ∙ sym c.loop-made.invariant.gateway)));
  ready = c.in-Ok-Went.ensures.ready;
  gateway = c.in-Ok-Went.ensures.gateway ∙ c.loop-made.invariant.gateway;
  buf = c.in-Ok-Went.ensures.buf;
  made = let order = c.loop-made.invariant.ready.well.order in λ before e. makes-one-more c.loop-made.made before (g.S.Site.observed c.loop-made.site) (g.S.Site.observed c.turn.new.site) (c.loop-made.invariant.made before e) (rw c.in-Ok-Went.field-0-is at c.in-Ok-Went.ensures.polled) (c.in-Ok-Went.ensures.triple order.setup 0 order.gateway_is).stays;
  goes_on = polls-then c.loop-made.made 1 (c.loop-made.made + 1) _ _ _ (omega arith) c.loop-made.invariant.goes_on c.in-Ok-Went.ensures.goes_on;
}

pub returns-in-Ok-Stopped-clause-triple : goal.returns-in-Ok-Stopped-clause-triple
returns-in-Ok-Stopped-clause-triple g c = λ setup named. triple-then _ _ _ _ _ _ (c.loop-made.invariant.kept setup named)
    (triple-after _ _ _ _ _ (rw c.in-Ok-Stopped.field-0-is at (c.in-Ok-Stopped.ensures.triple setup c.loop-made.made (named ∙ sym c.loop-made.invariant.gateway))) (λ v q. stop-kept _ _ v q))

pub returns-in-Ok-Stopped-clause-goes_on : goal.returns-in-Ok-Stopped-clause-goes_on
returns-in-Ok-Stopped-clause-goes_on g c = polls-then c.loop-made.made 1 c.args.most _ _ _ (omega (arith, c.loop-made-test.true)) c.loop-made.invariant.goes_on c.in-Ok-Stopped.ensures.goes_on

pub returns-in-Ok-Stopped-clause-done : goal.returns-in-Ok-Stopped-clause-done
returns-in-Ok-Stopped-clause-done g c =
    let order = c.loop-made.invariant.ready.well.order in
    λ done before e. stops-at-last c.loop-made.made c.args.most before (g.S.Site.observed c.loop-made.site) (g.S.Site.observed c.turn.new.site) (c.loop-made.invariant.made before e) (rw c.in-Ok-Stopped.field-0-is at c.in-Ok-Stopped.ensures.polled) (c.in-Ok-Stopped.ensures.triple order.setup 0 order.gateway_is).stays

pub returns-in-Err-Disk-clause-failed : goal.returns-in-Err-Disk-clause-failed
returns-in-Err-Disk-clause-failed g c = λ e. breaks-after c.loop-made.made _ _ _ c.loop-made.invariant.goes_on (c.in-Err-Disk.ensures.failed (ap Err c.in-Err-Disk.field-0-is))

pub returns-in-Err-Disk-clause-triple : goal.returns-in-Err-Disk-clause-triple
returns-in-Err-Disk-clause-triple g c = λ setup named. triple-then _ _ _ _ _ _ (c.loop-made.invariant.kept setup named)
    (triple-after _ _ _ _ _ (rw c.in-Err-Disk.field-0-is at (c.in-Err-Disk.ensures.triple setup c.loop-made.made (named ∙ sym c.loop-made.invariant.gateway))) (λ v q. undone-kept _ _ _ v (λ e. cc) q))

pub returns-in-Err-Disk-clause-goes_on : goal.returns-in-Err-Disk-clause-goes_on
returns-in-Err-Disk-clause-goes_on g c = polls-then c.loop-made.made 1 c.args.most _ _ _ (omega (arith, c.loop-made-test.true)) c.loop-made.invariant.goes_on c.in-Err-Disk.ensures.goes_on

pub returns-in-Err-Memory-clause-triple : goal.returns-in-Err-Memory-clause-triple
returns-in-Err-Memory-clause-triple g c = λ setup named. triple-then _ _ _ _ _ _ (c.loop-made.invariant.kept setup named)
    (triple-after _ _ _ _ _ (rw c.in-Err-Memory.field-0-is at (c.in-Err-Memory.ensures.triple setup c.loop-made.made (named ∙ sym c.loop-made.invariant.gateway))) (λ v q. undone-kept _ _ _ v (λ e. cc) (idle-lacks v q)))

pub returns-in-Err-Memory-clause-goes_on : goal.returns-in-Err-Memory-clause-goes_on
returns-in-Err-Memory-clause-goes_on g c = polls-then c.loop-made.made 1 c.args.most _ _ _ (omega (arith, c.loop-made-test.true)) c.loop-made.invariant.goes_on c.in-Err-Memory.ensures.goes_on

pub returns-in-Err-Memory-clause-memory : goal.returns-in-Err-Memory-clause-memory
returns-in-Err-Memory-clause-memory g c = λ lacks before e. after-polls c.loop-made.made _ _ c.loop-made.invariant.goes_on
    (λ log is. round-for-memory log _ (c.in-Err-Memory.ensures.memory (ap Err c.in-Err-Memory.field-0-is) log is)) before e

pub returns-clause-triple : goal.returns-clause-triple
returns-clause-triple g c = λ setup named. triple-after _ _ _ _ _ (c.loop-made.invariant.kept setup named)
    (λ v q. all-polled setup _ c.loop-made.made c.args.most v (omega (arith, c.loop-made-test.false, c.loop-made.auto.made-end)) q)

pub returns-clause-done : goal.returns-clause-done
returns-clause-done g c = λ done before e. makes-all c.loop-made.made c.args.most before (g.S.Site.observed c.loop-made.site) (omega (arith, c.loop-made-test.false, c.loop-made.auto.made-end)) (c.loop-made.invariant.made before e)

pub returns-clause-goes_on : goal.returns-clause-goes_on
returns-clause-goes_on g c = polls-within c.loop-made.made c.args.most _ _ (omega (arith, c.loop-made.auto.made-end)) c.loop-made.invariant.goes_on
