-- What the loop of `refuse_all_overdue` keeps, and why it ends.
use Rattle.std.proofs.Common.{◌≡◌, ℕ, List, [], length}
use Rattle.gw_base.specs.declared.setup.Setup.{Setup}
use Rattle.jrn_record.specs.declared.records.Record.{Record}
use Rattle.gw_owes.specs.Items.{RoundItem}
use Rattle.gw_rules.specs.Triple.{Triple}
use Rattle.gw_dispatch.specs.Growth.{GoesOnBesideDisk}
use Rattle.gw_dispatch.specs.RunState.{StaysInOrder}
use Rattle.gw_dispatch.specs.MidRound.{AllHear, AreReady}
use Rattle.gw_dispatch.specs.Overdue.{MayBeOverdue, overdue_keys}
use Rattle.gw_dispatch.specs.Tills.{AllStillHold}
use Rattle.gw_dispatch.proofs.pts.refuse_all_overdue.Given as goal

abbrev pub invariant-loop : goal.invariant-loop
invariant-loop g l = record {
  kept : (setup : Setup) (kept : List Record) (polls : ℕ) (items : List RoundItem) → overdue_keys items ≡ [] → Triple (g.S.Site.observed l.fn.site) (g.S.Site.observed l.site)
      (MayBeOverdue setup l.fn.core kept l.fn.tills.list.items polls l.fn.now (AllHear l.fn.readers) items)
      (MayBeOverdue setup l.core kept l.tills.list.items polls l.fn.now (AllHear l.fn.readers) items);
  ready : AreReady l.core l.fn.readers;
  count : length l.core.terminals ≡ length l.fn.core.terminals;
  order : StaysInOrder l.fn.core l.core;
  still : AllStillHold l.fn.tills.list.items l.tills.list.items;
  goes_on : GoesOnBesideDisk (g.S.Site.observed l.fn.site) (g.S.Site.observed l.site);
}

abbrev pub decreases-loop : goal.decreases-loop
decreases-loop g l = length l.core.waits
