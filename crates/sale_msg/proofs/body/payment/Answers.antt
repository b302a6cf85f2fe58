-- Proof of the contract of `payment`.
use Rattle.std.proofs.Common.{arith}
use Rattle.sale_msg.specs.Table.{payment_rows}
use Rattle.sale_msg.specs.declared.table.Presence.TheVariants.{Optional}
use Rattle.sale_msg.proofs.RowLemmas.{may_be_found, required_found, row_found}
use Rattle.sale_msg.proofs.body.payment.Goals as goal

pub text_or_none-requires : goal.text_or_none-requires
text_or_none-requires c =
    may_be_found _ _ Optional _ c.requires.0 _ c.requires.1.met.1.1.1.1.1.1.1.1.1.1.1.0 (row_found payment_rows c.requires.0 _ 12 _ c.requires.1 c.member.ensures)

pub ident-requires : goal.ident-requires
ident-requires c = (omega arith, required_found _ _ _ c.requires.0 _ c.requires.1.met.1.1.1.1.0 (row_found payment_rows c.requires.0 _ 5 _ c.requires.1 c.member-2.ensures))

pub ident-requires-2 : goal.ident-requires-2
ident-requires-2 c = (omega arith, required_found _ _ _ c.requires.0 _ c.requires.1.met.1.1.1.1.1.0 (row_found payment_rows c.requires.0 _ 6 _ c.requires.1 c.member-3.ensures))

pub currency-requires : goal.currency-requires
currency-requires c =
    required_found _ _ _ c.requires.0 _ c.requires.1.met.1.1.1.1.1.1.1.1.0 (row_found payment_rows c.requires.0 _ 9 _ c.requires.1 c.member-4.ensures)

pub amount-requires : goal.amount-requires
amount-requires c =
    required_found _ _ _ c.requires.0 _ c.requires.1.met.1.1.1.1.1.1.1.1.1.0 (row_found payment_rows c.requires.0 _ 10 _ c.requires.1 c.member-5.ensures)
