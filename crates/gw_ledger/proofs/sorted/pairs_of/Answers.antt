-- Proof of the contract of `pairs_of`.
use Rattle.std.proofs.Common.{arith}
use Rattle.gw_ledger.proofs.ShortLemmas.{pairs_all, pairs_next, pairs_none}
use Rattle.gw_ledger.proofs.sorted.pairs_of.Goals as goal

pub loop-slot-init : goal.loop-slot-init
loop-slot-init c = pairs_none c.args.tables.now.records c.in_ok-pairs.pairs.items c.in_ok-pairs.ensures.table c.in_ok-pairs.ensures.values

pub loop-slot-preserved : goal.loop-slot-preserved
loop-slot-preserved c =
    pairs_next c.args.tables.now.records c.loop-slot.slot c.loop-slot.pairs.items c.add_pair.new.pairs.items c.settled_at.result c.settled_at.ensures c.loop-slot.invariant
    c.in_ok-add_pair.ensures.table c.in_ok-add_pair.ensures.kept c.in_ok-add_pair.ensures.own

pub returns : goal.returns
returns c = pairs_all c.args.tables.now.records c.loop-slot.slot c.loop-slot.pairs.items (omega (arith, c.loop-slot-test.false, c.count-slot-end.ensures)) c.loop-slot.invariant
