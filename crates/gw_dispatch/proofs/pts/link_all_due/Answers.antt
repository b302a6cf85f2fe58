-- Proof of the contract of `link_all_due`.
use Rattle.std.proofs.Common.{◌≡◌, ◌-◌, length, refl, ◌∙◌, arith}
use Rattle.std.proofs.lemmas.Int.{to_z-of_z}
use Rattle.gw_rules.proofs.TripleLemmas.{triple-refl, triple-then}
use Rattle.gw_owes.specs.Items.{Due}
use Rattle.gw_dispatch.proofs.GrowthLemmas.{stands-then, still-stands}
use Rattle.gw_dispatch.proofs.ReaderLemmas.{still-same, still-then}
use Rattle.gw_dispatch.proofs.RunStateLemmas.{stays-same, stays-then}
use Rattle.gw_dispatch.proofs.PtsLemmas.{each-step, each-last}
use Rattle.gw_dispatch.proofs.pts.link_all_due.Goals as goal

pub loop-pt-init : goal.loop-pt-init
loop-pt-init g c =
    let all : length c.args.core.now.terminals - 0 ≡ length c.args.core.now.terminals = omega arith in
    record { kept = λ setup kept polls items. rw all (triple-refl _ _); ready = c.requires.ready; count = refl; order = stays-same c.args.core.now; still = still-same c.args.tills.now.list.items; goes_on = still-stands _ }

pub loop-pt-preserved : goal.loop-pt-preserved
loop-pt-preserved g c = record {
  kept = λ setup kept polls items. triple-then _ _ _ _ _ _ (c.loop-pt.invariant.kept setup kept polls items)
      (each-step _ _ _ _ _ _ _ _ _ Due c.loop-pt.pt (length c.args.core.now.terminals) (omega (arith, c.loop-pt-test.true, c.count-pt-end.ensures.count)) c.link_if_due.ensures.triple setup kept polls items);
  ready = c.link_if_due.ensures.ready;
  count = c.link_if_due.ensures.count ∙ c.loop-pt.invariant.count;
  order = stays-then c.args.core.now c.loop-pt.core c.link_if_due.new.core c.loop-pt.invariant.order c.link_if_due.ensures.order;
  still = still-then c.args.tills.now.list.items c.loop-pt.tills.list.items c.link_if_due.new.tills.list.items c.loop-pt.invariant.still c.link_if_due.ensures.still;
  goes_on = stands-then _ _ _ c.loop-pt.invariant.goes_on c.link_if_due.ensures.goes_on;
}

pub returns-clause-triple : goal.returns-clause-triple
returns-clause-triple g c = λ setup kept polls items. each-last _ _ _ setup c.loop-pt.core kept c.loop-pt.tills.list.items polls c.args.now _ Due c.loop-pt.pt (length c.args.core.now.terminals) items
    (omega (arith, c.loop-pt-test.false, c.count-pt-end.ensures.count)) (simp (to_z-of_z, c.ranges.now) at (c.loop-pt.invariant.kept setup kept polls items))
