-- Proof of the contract of `reversal`.
use Rattle.std.proofs.Common.{arith}
use Rattle.sale_msg.specs.Table.{reversal_rows}
use Rattle.sale_msg.specs.declared.table.Presence.TheVariants.{Optional}
use Rattle.sale_msg.proofs.RowLemmas.{may_be_found, required_found, row_found}
use Rattle.sale_msg.proofs.body.reversal.Goals as goal

pub ident-requires : goal.ident-requires
ident-requires c = (omega arith, required_found _ _ _ c.requires.0 _ c.requires.1.met.1.1.1.1.0 (row_found reversal_rows c.requires.0 _ 5 _ c.requires.1 c.member.ensures))

pub amount_or_none-requires : goal.amount_or_none-requires
amount_or_none-requires c =
    may_be_found _ _ Optional _ c.requires.0 _ c.requires.1.met.1.1.1.1.1.1.0 (row_found reversal_rows c.requires.0 _ 7 _ c.requires.1 c.member-2.ensures)
