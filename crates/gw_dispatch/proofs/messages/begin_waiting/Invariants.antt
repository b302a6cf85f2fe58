-- What the loop of `begin_waiting` keeps, and why it ends.
use Rattle.std.proofs.Common.{◌≡◌, ◌∷◌, ℕ, List, [], length}
use Rattle.gw_base.specs.declared.setup.Setup.{Setup}
use Rattle.gw_owes.specs.Items.{RoundItem, NextWaiting}
use Rattle.gw_rules.specs.Triple.{Triple}
use Rattle.gw_dispatch.specs.Growth.{HasGoneOn}
use Rattle.gw_dispatch.specs.RunState.{IsWell}
use Rattle.gw_dispatch.specs.MidRound.{AreHeard, HeldRound}
use Rattle.gw_dispatch.specs.Tills.{AllStillHold}
use Rattle.gw_dispatch.proofs.messages.begin_waiting.Given as goal

abbrev pub invariant-loop : goal.invariant-loop
invariant-loop g l = record {
  kept : (setup : Setup) (polls : ℕ) (heard : ℕ → List ℕ) (items : List RoundItem) → Triple (g.S.Site.observed l.fn.site) (g.S.Site.observed l.site)
      (HeldRound setup l.fn.state l.fn.tills.list.items polls l.fn.now (AreHeard heard) [] (NextWaiting l.fn.pt ∷ items))
      (HeldRound setup l.state l.tills.list.items polls l.fn.now (AreHeard heard) [] (NextWaiting l.fn.pt ∷ items));
  well : IsWell l.state (g.S.Site.observed l.site);
  gateway : l.state.gateway ≡ l.fn.state.gateway;
  count : length l.state.core.terminals ≡ length l.fn.state.core.terminals;
  still : AllStillHold l.fn.tills.list.items l.tills.list.items;
  goes_on : HasGoneOn (g.S.Site.observed l.fn.site) (g.S.Site.observed l.site);
}

abbrev pub decreases-loop : goal.decreases-loop
decreases-loop g l = length l.state.core.waits
