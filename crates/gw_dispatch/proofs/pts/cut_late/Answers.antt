-- Proof of the contract of `cut_late`.
use Rattle.std.proofs.Common.{◌≡◌, ◌-◌, [], length, refl, sym, ◌∙◌, arith}
use Rattle.std.proofs.lemmas.Int.{to_z-of_z}
use Rattle.gw_rules.proofs.TripleLemmas.{triple-refl, triple-then}
use Rattle.gw_owes.specs.Items.{Late}
use Rattle.gw_dispatch.proofs.GrowthLemmas.{stands-then, still-stands}
use Rattle.gw_dispatch.proofs.ReaderLemmas.{still-same, still-then}
use Rattle.gw_dispatch.proofs.RunStateLemmas.{stays-same, stays-then}
use Rattle.gw_dispatch.proofs.PtsLemmas.{each-step, each-last, over-heard}
use Rattle.gw_dispatch.proofs.pts.cut_late.Goals as goal

pub loop-pt-init : goal.loop-pt-init
loop-pt-init g c =
    let all : length c.args.core.now.terminals - 0 ≡ length c.args.core.now.terminals = omega arith in
    record { kept = λ setup kept polls items. rw all (triple-refl _ _); ready = c.requires.ready; count = refl; order = stays-same c.args.core.now; still = still-same c.args.tills.now.list.items; goes_on = still-stands _ }

pub loop-pt-preserved : goal.loop-pt-preserved
loop-pt-preserved g c = record {
  kept = λ setup kept polls items. triple-then _ _ _ _ _ _ (c.loop-pt.invariant.kept setup kept polls items)
      (each-step _ _ _ _ _ _ _ _ _ Late c.loop-pt.pt (length c.args.core.now.terminals) (omega (arith, c.loop-pt-test.true, c.count-pt-end.ensures.count)) (λ setup kept polls items. over-heard _ _ setup c.loop-pt.core c.on_late.new.core kept c.loop-pt.tills.list.items c.on_late.new.tills.list.items polls _ c.args.readers.now [] _ items c.loop-pt.invariant.ready.waits (c.loop-pt.invariant.ready.count ∙ sym c.on_late.ensures.count) (λ heard. c.on_late.ensures.triple setup kept polls heard items)) setup kept polls items);
  ready = record { dialogues = c.on_late.ensures.dialogues; count = c.loop-pt.invariant.ready.count ∙ sym c.on_late.ensures.count; waits = c.loop-pt.invariant.ready.waits };
  count = c.on_late.ensures.count ∙ c.loop-pt.invariant.count;
  order = stays-then c.args.core.now c.loop-pt.core c.on_late.new.core c.loop-pt.invariant.order c.on_late.ensures.order;
  still = still-then c.args.tills.now.list.items c.loop-pt.tills.list.items c.on_late.new.tills.list.items c.loop-pt.invariant.still c.on_late.ensures.still;
  goes_on = stands-then _ _ _ c.loop-pt.invariant.goes_on c.on_late.ensures.goes_on;
}

pub returns-clause-triple : goal.returns-clause-triple
returns-clause-triple g c = λ setup kept polls items. each-last _ _ _ setup c.loop-pt.core kept c.loop-pt.tills.list.items polls c.args.now _ Late c.loop-pt.pt (length c.args.core.now.terminals) items
    (omega (arith, c.loop-pt-test.false, c.count-pt-end.ensures.count)) (simp (to_z-of_z, c.ranges.now) at (c.loop-pt.invariant.kept setup kept polls items))
