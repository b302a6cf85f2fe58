-- What the loop of `cut_late` keeps.
use Rattle.std.proofs.Common.{◌≡◌, ◌-◌, ◌++◌, ℕ, List, [], length}
use Rattle.gw_base.specs.declared.setup.Setup.{Setup}
use Rattle.jrn_record.specs.declared.records.Record.{Record}
use Rattle.gw_owes.specs.Items.{RoundItem, Late}
use Rattle.gw_rules.specs.Triple.{Triple}
use Rattle.gw_dispatch.specs.Growth.{GoesOnBesideDisk}
use Rattle.gw_dispatch.specs.RunState.{StaysInOrder}
use Rattle.gw_dispatch.specs.MidRound.{AllHear, AreReady, MidRound, each_terminal}
use Rattle.gw_dispatch.specs.Tills.{AllStillHold}
use Rattle.gw_dispatch.proofs.pts.cut_late.Given as goal

abbrev pub invariant-loop-pt : goal.invariant-loop-pt
invariant-loop-pt g l = record {
  kept : (setup : Setup) (kept : List Record) (polls : ℕ) (items : List RoundItem) → Triple (g.S.Site.observed l.fn.site) (g.S.Site.observed l.site)
      (MidRound setup l.fn.core kept l.fn.tills.list.items polls l.fn.now (AllHear l.fn.readers) [] (each_terminal 0 (length l.fn.core.terminals) Late ++ items))
      (MidRound setup l.core kept l.tills.list.items polls l.fn.now (AllHear l.fn.readers) [] (each_terminal l.pt (length l.fn.core.terminals - l.pt) Late ++ items));
  ready : AreReady l.core l.fn.readers;
  count : length l.core.terminals ≡ length l.fn.core.terminals;
  order : StaysInOrder l.fn.core l.core;
  still : AllStillHold l.fn.tills.list.items l.tills.list.items;
  goes_on : GoesOnBesideDisk (g.S.Site.observed l.fn.site) (g.S.Site.observed l.site);
}
