-- Proof of the contract of `reconciliation`.
use Rattle.sale_msg.specs.Table.{reconciliation_rows}
use Rattle.sale_msg.proofs.RowLemmas.{required_found, row_found}
use Rattle.sale_msg.proofs.body.reconciliation.Goals as goal

pub period-requires : goal.period-requires
period-requires c = required_found _ _ _ c.requires.0 _ c.requires.1.met.1.1.0 (row_found reconciliation_rows c.requires.0 _ 3 _ c.requires.1 c.member.ensures)
