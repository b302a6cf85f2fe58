-- Proof of the contract of `take_apdus`.
use Rattle.std.proofs.Common.{◌++◌, [], ap, subst, ◌∙◌}
use Rattle.std.specs.Prelude.{Ok, true, false}
use Rattle.std.proofs.lemmas.Int.{to_z-of_z}
use Rattle.gw_rules.proofs.TripleLemmas.{triple-then}
use Rattle.gw_dispatch.specs.Apdus.{IsLess, LeavesApdus, items_left}
use Rattle.gw_dispatch.specs.MidRound.{AreHeard, HeldRound}
use Rattle.gw_dispatch.proofs.GrowthLemmas.{goes-then}
use Rattle.gw_dispatch.proofs.HandleLemmas.{disk-done, disk-failed}
use Rattle.gw_dispatch.proofs.ReaderLemmas.{still-then}
use Rattle.gw_dispatch.proofs.pts.take_apdus.Goals as goal

pub loop-preserved : goal.loop-preserved
loop-preserved g c =
    let less : IsLess c.loop.reader c.take_apdu.new.reader = subst (λ more. LeavesApdus more c.take_apdu.new.state.core c.args.pt c.loop.reader c.take_apdu.new.reader) c.in-Ok-true.field-0-test c.in-Ok-true.ensures.reader in
    record {
      kept = λ setup polls heard items. triple-then _ _ _ _ _ _ (c.loop.invariant.kept setup polls heard items)
          (disk-done _ _ c.take_apdu.result true _ (λ more. HeldRound setup c.take_apdu.new.state c.take_apdu.new.tills.list.items polls _ (AreHeard heard) [] (items_left more c.args.pt c.take_apdu.new.reader ++ items)) (c.in-Ok-true.is ∙ ap Ok c.in-Ok-true.field-0-test)
          (c.take_apdu.ensures.triple setup polls heard items));
      rest = less.rest ∙ c.loop.invariant.rest;
      well = c.in-Ok-true.ensures.well;
      gateway = c.take_apdu.ensures.gateway ∙ c.loop.invariant.gateway;
      count = c.take_apdu.ensures.count ∙ c.loop.invariant.count;
      still = still-then c.args.tills.now.list.items c.loop.tills.list.items c.take_apdu.new.tills.list.items c.loop.invariant.still c.take_apdu.ensures.still;
      goes_on = goes-then _ _ _ c.loop.invariant.goes_on c.take_apdu.ensures.goes_on;
    }

pub returns-in-Ok-false-clause-triple : goal.returns-in-Ok-false-clause-triple
returns-in-Ok-false-clause-triple g c = λ setup polls heard items.
    triple-then _ _ _ _ _ _ (simp (to_z-of_z, c.ranges.now) at (c.loop.invariant.kept setup polls heard items))
    (disk-done _ _ c.take_apdu.result false _ (λ more. HeldRound setup c.take_apdu.new.state c.take_apdu.new.tills.list.items polls c.args.now (AreHeard heard) [] (items_left more c.args.pt c.take_apdu.new.reader ++ items)) (c.in-Ok-false.is ∙ ap Ok c.in-Ok-false.field-0-test)
    (simp (to_z-of_z, c.ranges.now) at (c.take_apdu.ensures.triple setup polls heard items)))

pub returns-in-Err-clause-triple : goal.returns-in-Err-clause-triple
returns-in-Err-clause-triple g c = λ setup polls heard items.
    triple-then _ _ _ _ _ _ (simp (to_z-of_z, c.ranges.now) at (c.loop.invariant.kept setup polls heard items))
    (disk-failed _ _ c.take_apdu.result _ _ (λ more. HeldRound setup c.take_apdu.new.state c.take_apdu.new.tills.list.items polls c.args.now (AreHeard heard) [] (items_left more c.args.pt c.take_apdu.new.reader ++ items)) c.in-Err.is
    (simp (to_z-of_z, c.ranges.now) at (c.take_apdu.ensures.triple setup polls heard items)))

pub returns-in-Ok-false-clause-still : goal.returns-in-Ok-false-clause-still
returns-in-Ok-false-clause-still g c = still-then c.args.tills.now.list.items c.loop.tills.list.items c.take_apdu.new.tills.list.items c.loop.invariant.still c.take_apdu.ensures.still

pub returns-in-Err-clause-still : goal.returns-in-Err-clause-still
returns-in-Err-clause-still g c = still-then c.args.tills.now.list.items c.loop.tills.list.items c.take_apdu.new.tills.list.items c.loop.invariant.still c.take_apdu.ensures.still

pub returns-in-Ok-false-clause-goes_on : goal.returns-in-Ok-false-clause-goes_on
returns-in-Ok-false-clause-goes_on g c = goes-then _ _ _ c.loop.invariant.goes_on c.take_apdu.ensures.goes_on

pub returns-in-Err-clause-goes_on : goal.returns-in-Err-clause-goes_on
returns-in-Err-clause-goes_on g c = goes-then _ _ _ c.loop.invariant.goes_on c.take_apdu.ensures.goes_on
