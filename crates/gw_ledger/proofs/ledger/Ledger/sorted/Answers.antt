-- Proof of the contract of `sorted`.
use Rattle.gw_ledger.proofs.SortedLemmas.{folded_from_rows}
use Rattle.gw_ledger.proofs.ledger.Ledger.sorted.Goals as goal

pub invariant_of-result : goal.invariant_of-result
invariant_of-result c = (
  folded_from_rows c.args.tables.records c.args.keys.now c.requires.table c.requires.rows.rows_are c.law_folded.ensures,
  c.in_ok-slots.ensures.keys,
  c.in_ok-slots.ensures.firsts,
  c.in_ok-slots.ensures.spare,
)
