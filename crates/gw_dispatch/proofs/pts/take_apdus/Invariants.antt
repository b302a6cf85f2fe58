-- What the loop of `take_apdus` keeps, and why it ends.
use Rattle.std.proofs.Common.{◌≡◌, ◌++◌, ℕ, List, [], length}
use Rattle.gw_base.specs.declared.setup.Setup.{Setup}
use Rattle.zvt_apdu.specs.DecodeStream.{decode_apdus}
use Rattle.gw_owes.specs.Items.{RoundItem}
use Rattle.gw_rules.specs.Triple.{Triple}
use Rattle.gw_dispatch.specs.Apdus.{items_held}
use Rattle.gw_dispatch.specs.Growth.{HasGoneOn}
use Rattle.gw_dispatch.specs.RunState.{IsWell}
use Rattle.gw_dispatch.specs.MidRound.{AreHeard, HeldRound}
use Rattle.gw_dispatch.specs.Tills.{AllStillHold}
use Rattle.gw_dispatch.proofs.pts.take_apdus.Given as goal

abbrev pub invariant-loop : goal.invariant-loop
invariant-loop g l = record {
  kept : (setup : Setup) (polls : ℕ) (heard : ℕ → List ℕ) (items : List RoundItem) → Triple (g.S.Site.observed l.fn.site) (g.S.Site.observed l.site)
      (HeldRound setup l.fn.state l.fn.tills.list.items polls l.fn.now (AreHeard heard) [] (items_held l.fn.pt l.fn.reader ++ items))
      (HeldRound setup l.state l.tills.list.items polls l.fn.now (AreHeard heard) [] (items_held l.fn.pt l.reader ++ items));
  rest : (decode_apdus l.reader).rest ≡ (decode_apdus l.fn.reader).rest;
  well : IsWell l.state (g.S.Site.observed l.site);
  gateway : l.state.gateway ≡ l.fn.state.gateway;
  count : length l.state.core.terminals ≡ length l.fn.state.core.terminals;
  still : AllStillHold l.fn.tills.list.items l.tills.list.items;
  goes_on : HasGoneOn (g.S.Site.observed l.fn.site) (g.S.Site.observed l.site);
}

abbrev pub decreases-loop : goal.decreases-loop
decreases-loop g l = length l.reader
