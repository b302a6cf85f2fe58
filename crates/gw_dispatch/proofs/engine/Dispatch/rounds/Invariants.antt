-- What the loop of `Dispatch::rounds` keeps.
use Rattle.std.proofs.Common.{◌≡◌, length}
use Rattle.gw_base.specs.declared.setup.Setup.{Setup}
use Rattle.gw_site.specs.Observed.{IfObserved}
use Rattle.gw_rules.specs.Triple.{Triple}
use Rattle.gw_dispatch.specs.Growth.{GoesOnByPolls, MakesPolls}
use Rattle.gw_dispatch.specs.RunState.{gateway_of}
use Rattle.gw_dispatch.specs.Rounds.{IsReady, IsBetweenRounds}
use Rattle.gw_dispatch.proofs.engine.Dispatch.rounds.Given as goal

abbrev pub invariant-loop-made : goal.invariant-loop-made
invariant-loop-made g l = record {
  kept : (setup : Setup) → gateway_of setup ≡ l.fn.self.state.gateway → Triple (g.S.Site.observed l.fn.site) (g.S.Site.observed l.site) (IsBetweenRounds setup l.fn.self 0) (IsBetweenRounds setup l.self l.made);
  ready : IsReady l.self (g.S.Site.observed l.site);
  gateway : l.self.state.gateway ≡ l.fn.self.state.gateway;
  buf : length l.buf ≡ 4096;
  made : IfObserved (g.S.Site.observed l.fn.site) (λ before. MakesPolls l.made before (g.S.Site.observed l.site));
  goes_on : GoesOnByPolls l.made (g.S.Site.observed l.fn.site) (g.S.Site.observed l.site);
}
