-- Proof of the contract of `qualifier`.
use Rattle.std.proofs.Common.{arith}
use Rattle.sale_msg.specs.Table.{print_rows}
use Rattle.sale_msg.proofs.RowLemmas.{required_found, row_found}
use Rattle.sale_msg.proofs.body.qualifier.Goals as goal

pub ident-requires : goal.ident-requires
ident-requires c = (omega arith, required_found _ _ _ c.requires.0 _ c.requires.1.met.1.1.0 (row_found print_rows c.requires.0 _ 3 _ c.requires.1 c.member.ensures))
