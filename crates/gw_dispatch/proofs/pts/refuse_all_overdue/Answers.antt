-- Proof of the contract of `refuse_all_overdue`.
use Rattle.std.proofs.Common.{sym, ◌∙◌}
use Rattle.std.proofs.lemmas.Int.{to_z-of_z}
use Rattle.gw_rules.proofs.TripleLemmas.{triple-then}
use Rattle.gw_dispatch.proofs.GrowthLemmas.{stands-then}
use Rattle.gw_dispatch.proofs.OverdueLemmas.{Refuses, overdue-again, overdue-over}
use Rattle.gw_dispatch.proofs.ReaderLemmas.{still-then}
use Rattle.gw_dispatch.proofs.RunStateLemmas.{stays-then}
use Rattle.gw_dispatch.proofs.pts.refuse_all_overdue.Goals as goal

pub loop-preserved : goal.loop-preserved
loop-preserved g c = record {
  kept = λ setup kept polls items none. triple-then _ _ _ _ _ _ (c.loop.invariant.kept setup kept polls items none)
      (overdue-again _ _ c.loop.core c.refuse_overdue.new.core c.loop.tills.list.items c.refuse_overdue.new.tills.list.items _ c.refuse_overdue.result c.args.readers.now c.requires.ready.waits
      (c.loop.invariant.ready.count ∙ sym c.refuse_overdue.ensures.count) c.refuse_overdue.ensures.triple setup kept polls items none c.loop-test.true);
  ready = record { dialogues = c.refuse_overdue.ensures.dialogues c.loop.invariant.ready.dialogues; count = c.loop.invariant.ready.count ∙ sym c.refuse_overdue.ensures.count; waits = c.requires.ready.waits };
  count = c.refuse_overdue.ensures.count ∙ c.loop.invariant.count;
  order = stays-then c.args.core.now c.loop.core c.refuse_overdue.new.core c.loop.invariant.order c.refuse_overdue.ensures.order;
  still = still-then c.args.tills.now.list.items c.loop.tills.list.items c.refuse_overdue.new.tills.list.items c.loop.invariant.still c.refuse_overdue.ensures.still;
  goes_on = stands-then _ _ _ c.loop.invariant.goes_on c.refuse_overdue.ensures.goes_on;
}

pub returns-clause-triple : goal.returns-clause-triple
returns-clause-triple g c = λ setup kept polls items none.
    let refuses : Refuses (g.S.Site.observed c.loop.site) (g.S.Site.observed c.refuse_overdue.new.site) c.loop.core c.refuse_overdue.new.core c.loop.tills.list.items c.refuse_overdue.new.tills.list.items c.args.now c.refuse_overdue.result = simp (to_z-of_z, c.ranges.now) at c.refuse_overdue.ensures.triple in
    triple-then _ _ _ _ _ _ (simp (to_z-of_z, c.ranges.now) at (c.loop.invariant.kept setup kept polls items none))
    (overdue-over _ _ c.loop.core c.refuse_overdue.new.core c.loop.tills.list.items c.refuse_overdue.new.tills.list.items c.args.now c.refuse_overdue.result c.args.readers.now c.requires.ready.waits
    (c.loop.invariant.ready.count ∙ sym c.refuse_overdue.ensures.count) refuses setup kept polls items none c.loop-test.false)

pub returns-clause-ready : goal.returns-clause-ready
returns-clause-ready g c = record { dialogues = c.refuse_overdue.ensures.dialogues c.loop.invariant.ready.dialogues; count = c.loop.invariant.ready.count ∙ sym c.refuse_overdue.ensures.count; waits = c.requires.ready.waits }

pub returns-clause-order : goal.returns-clause-order
returns-clause-order g c = stays-then c.args.core.now c.loop.core c.refuse_overdue.new.core c.loop.invariant.order c.refuse_overdue.ensures.order

pub returns-clause-goes_on : goal.returns-clause-goes_on
returns-clause-goes_on g c = stands-then _ _ _ c.loop.invariant.goes_on c.refuse_overdue.ensures.goes_on

pub returns-clause-still : goal.returns-clause-still
returns-clause-still g c = still-then c.args.tills.now.list.items c.loop.tills.list.items c.refuse_overdue.new.tills.list.items c.loop.invariant.still c.refuse_overdue.ensures.still
