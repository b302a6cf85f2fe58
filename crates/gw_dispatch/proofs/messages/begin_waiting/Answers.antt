-- Proof of the contract of `begin_waiting`.
use Rattle.std.proofs.Common.{◌++◌, ◌<◌, [], ap, refl, subst, sym, ◌∙◌}
use Rattle.std.specs.Prelude.{Ok, true, false}
use Rattle.std.proofs.lemmas.Int.{to_z-of_z}
use Rattle.gw_rules.proofs.TripleLemmas.{triple-refl, triple-then}
use Rattle.gw_core.specs.IsRow.{next_items}
use Rattle.gw_dispatch.specs.MidRound.{AreHeard, HeldRound}
use Rattle.gw_dispatch.proofs.GrowthLemmas.{goes-nowhere, goes-then}
use Rattle.gw_dispatch.proofs.HandleLemmas.{disk-done, disk-failed}
use Rattle.gw_dispatch.proofs.ReaderLemmas.{still-same, still-then}
use Rattle.gw_dispatch.proofs.messages.begin_waiting.Goals as goal

pub loop-init : goal.loop-init
loop-init g c = record { kept = λ setup polls heard items. triple-refl _ _; well = c.requires.well; gateway = refl; count = refl; still = still-same c.args.tills.now.list.items; goes_on = goes-nowhere _ }

pub look_at_next-requires-clause-there : goal.look_at_next-requires-clause-there
look_at_next-requires-clause-there g c = subst (λ count. c.args.pt < count) (sym c.loop.invariant.count) c.requires.there

pub loop-preserved : goal.loop-preserved
loop-preserved g c = record {
  kept = λ setup polls heard items. triple-then _ _ _ _ _ _ (c.loop.invariant.kept setup polls heard items)
      (disk-done _ _ c.look_at_next.result true _ (λ more. HeldRound setup c.look_at_next.new.state c.look_at_next.new.tills.list.items polls _ (AreHeard heard) [] (next_items c.args.pt more ++ items)) (c.in-Ok-true.is ∙ ap Ok c.in-Ok-true.field-0-test)
      (c.look_at_next.ensures.triple setup polls heard items));
  well = c.in-Ok-true.ensures.well;
  gateway = c.look_at_next.ensures.gateway ∙ c.loop.invariant.gateway;
  count = c.look_at_next.ensures.count ∙ c.loop.invariant.count;
  still = still-then c.args.tills.now.list.items c.loop.tills.list.items c.look_at_next.new.tills.list.items c.loop.invariant.still c.look_at_next.ensures.still;
  goes_on = goes-then _ _ _ c.loop.invariant.goes_on c.look_at_next.ensures.goes_on;
}

pub returns-in-Ok-false-clause-triple : goal.returns-in-Ok-false-clause-triple
returns-in-Ok-false-clause-triple g c = λ setup polls heard items.
    triple-then _ _ _ _ _ _ (simp (to_z-of_z, c.ranges.now) at (c.loop.invariant.kept setup polls heard items))
    (disk-done _ _ c.look_at_next.result false _ (λ more. HeldRound setup c.look_at_next.new.state c.look_at_next.new.tills.list.items polls c.args.now (AreHeard heard) [] (next_items c.args.pt more ++ items)) (c.in-Ok-false.is ∙ ap Ok c.in-Ok-false.field-0-test)
    (simp (to_z-of_z, c.ranges.now) at (c.look_at_next.ensures.triple setup polls heard items)))

pub returns-in-Err-clause-triple : goal.returns-in-Err-clause-triple
returns-in-Err-clause-triple g c = λ setup polls heard items.
    triple-then _ _ _ _ _ _ (simp (to_z-of_z, c.ranges.now) at (c.loop.invariant.kept setup polls heard items))
    (disk-failed _ _ c.look_at_next.result _ _ (λ more. HeldRound setup c.look_at_next.new.state c.look_at_next.new.tills.list.items polls c.args.now (AreHeard heard) [] (next_items c.args.pt more ++ items)) c.in-Err.is
    (simp (to_z-of_z, c.ranges.now) at (c.look_at_next.ensures.triple setup polls heard items)))

pub returns-in-Ok-false-clause-still : goal.returns-in-Ok-false-clause-still
returns-in-Ok-false-clause-still g c = still-then c.args.tills.now.list.items c.loop.tills.list.items c.look_at_next.new.tills.list.items c.loop.invariant.still c.look_at_next.ensures.still

pub returns-in-Err-clause-still : goal.returns-in-Err-clause-still
returns-in-Err-clause-still g c = still-then c.args.tills.now.list.items c.loop.tills.list.items c.look_at_next.new.tills.list.items c.loop.invariant.still c.look_at_next.ensures.still

pub returns-in-Ok-false-clause-goes_on : goal.returns-in-Ok-false-clause-goes_on
returns-in-Ok-false-clause-goes_on g c = goes-then _ _ _ c.loop.invariant.goes_on c.look_at_next.ensures.goes_on

pub returns-in-Err-clause-goes_on : goal.returns-in-Err-clause-goes_on
returns-in-Err-clause-goes_on g c = goes-then _ _ _ c.loop.invariant.goes_on c.look_at_next.ensures.goes_on
