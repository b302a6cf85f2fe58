-- Proof of the contract of `add_pair`.
use Rattle.gw_ledger.proofs.ShortLemmas.{pair_kept, pair_own}
use Rattle.gw_ledger.proofs.sorted.add_pair.Goals as goal

pub returns-clause-kept : goal.returns-clause-kept
returns-clause-kept c sale poi has =
    pair_kept c.reserve.new.self.items c.put.new.rows.items (c.in-Some.settled.sale, c.in-Some.settled.poi) c.args.slot c.put.ensures.values sale poi (rw c.in_ok-reserve.ensures.items has)

pub returns-clause-own : goal.returns-clause-own
returns-clause-own c =
    rw c.in-Some.is (pair_own c.reserve.new.self.items c.put.new.rows.items (c.in-Some.settled.sale, c.in-Some.settled.poi) c.args.slot c.put.ensures.values)
