-- Proof of the contract of `of`.
use Rattle.std.proofs.Common.{IfOk, subst}
use Rattle.gw_site.specs.Outside.{Outside, outside_after}
use Rattle.gw_site.specs.declared.turn.Turn.TheVariants.{Crash}
use Rattle.sim_site.specs.Disks.{HasDisk}
use Rattle.sim_site.proofs.disk.Disk.of.Goals as goal

pub returns : goal.returns
returns c = subst (λ file. IfOk c.holding.result (λ disk. (o : Outside) → HasDisk (outside_after o (Crash file)) disk)) c.in_ok-copy.ensures c.holding.ensures
