-- What the loop of `index_of` keeps, and why it ends.
use Rattle.std.proofs.Common.{◌≡◌, ◌-◌, drop, length}
use Rattle.gw_dispatch.specs.Tills.{rank}
use Rattle.gw_dispatch.proofs.TillLemmas.{rank_from}
use Rattle.gw_dispatch.proofs.tills.index_of.Given as goal

abbrev pub invariant-loop-index : goal.invariant-loop-index
invariant-loop-index l = (rank l.number l.tills ≡ rank_from l.number l.index (drop l.index l.tills))

abbrev pub decreases-loop-index : goal.decreases-loop-index
decreases-loop-index l = length l.tills - l.index
