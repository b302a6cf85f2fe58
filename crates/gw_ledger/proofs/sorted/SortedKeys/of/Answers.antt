-- Proof of the contract of `of`.
use Rattle.std.proofs.Common.{subst}
use Rattle.gw_ledger.specs.KeyTable.{AreKeyRows}
use Rattle.gw_ledger.specs.ShortRows.{HavePairs, full_rows}
use Rattle.gw_ledger.proofs.ShortLemmas.{inside_moved, rows_sorted, short_moved}
use Rattle.gw_ledger.proofs.sorted.SortedKeys.of.Goals as goal

pub invariant_of-result : goal.invariant_of-result
invariant_of-result c =
    let inside = subst (λ pairs. HavePairs pairs c.in_ok-rows.rows.items) c.deref.ensures.value c.in_ok-rows.ensures.inside in
    record {
      table = c.in_ok-pairs.ensures.table;
      inside = inside_moved c.in_ok-pairs.pairs.items c.in_ok-rows.rows.items c.sort_unstable.new.self.items c.sort_unstable.ensures.permutation inside;
    }

pub returns-clause-rows : goal.returns-clause-rows
returns-clause-rows c =
    let rows = subst (λ pairs. AreKeyRows c.args.tables.now.records (full_rows pairs c.in_ok-rows.rows.items)) c.deref.ensures.value c.in_ok-rows.ensures.rows in
    short_moved c.args.tables.now.records c.in_ok-pairs.pairs.items c.in_ok-rows.rows.items c.sort_unstable.new.self.items c.sort_unstable.ensures.permutation rows

pub returns-clause-sorted : goal.returns-clause-sorted
returns-clause-sorted c =
    let inside = subst (λ pairs. HavePairs pairs c.in_ok-rows.rows.items) c.deref.ensures.value c.in_ok-rows.ensures.inside in
    let moved = inside_moved c.in_ok-pairs.pairs.items c.in_ok-rows.rows.items c.sort_unstable.new.self.items c.sort_unstable.ensures.permutation inside in
    rows_sorted c.in_ok-pairs.pairs.items c.in_ok-pairs.ensures.table c.sort_unstable.new.self.items moved c.sort_unstable.ensures.sorted
