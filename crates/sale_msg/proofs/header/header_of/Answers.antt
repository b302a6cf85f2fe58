-- Proof of the contract of `header_of`.
use Rattle.std.proofs.Common.{arith}
use Rattle.sale_msg.specs.Table.{header_rows}
use Rattle.sale_msg.specs.declared.table.Envelope.TheVariants as envelopes
use Rattle.sale_msg.specs.declared.table.Presence.TheVariants.{Optional, ByHeader}
use Rattle.sale_msg.proofs.RowLemmas.{may_be_found, required_found, row_found}
use Rattle.sale_msg.proofs.header.header_of.Goals as goal

pub class-requires : goal.class-requires
class-requires c =
    required_found _ _ _ c.requires.0 _ c.requires.1.met.1.1.0 (row_found (header_rows envelopes.Response) c.requires.0 _ 3 _ c.requires.1 c.member.ensures)

pub letters-requires : goal.letters-requires
letters-requires c =
    required_found _ _ _ c.requires.0 _ c.requires.1.met.1.1.1.0 (row_found (header_rows envelopes.Response) c.requires.0 _ 4 _ c.requires.1 c.member-2.ensures)

pub message_type-requires : goal.message_type-requires
message_type-requires c =
    required_found _ _ _ c.requires.0 _ c.requires.1.met.1.1.1.1.0 (row_found (header_rows envelopes.Response) c.requires.0 _ 5 _ c.requires.1 c.member-3.ensures)

pub ident_or_none-requires : goal.ident_or_none-requires
ident_or_none-requires c = (
  omega arith,
  may_be_found _ _ ByHeader _ c.requires.0 _ c.requires.1.met.1.1.1.1.1.0 (row_found (header_rows envelopes.Response) c.requires.0 _ 6 _ c.requires.1 c.member-4.ensures),
)

pub ident_or_none-requires-2 : goal.ident_or_none-requires-2
ident_or_none-requires-2 c = (
  omega arith,
  may_be_found _ _ Optional _ c.requires.0 _ c.requires.1.met.1.1.1.1.1.1.0 (row_found (header_rows envelopes.Response) c.requires.0 _ 7 _ c.requires.1 c.member-5.ensures),
)

pub ident-requires : goal.ident-requires
ident-requires c = (
  omega arith,
  required_found _ _ _ c.requires.0 _ c.requires.1.met.1.1.1.1.1.1.1.0 (row_found (header_rows envelopes.Response) c.requires.0 _ 8 _ c.requires.1 c.member-6.ensures),
)

pub ident-requires-2 : goal.ident-requires-2
ident-requires-2 c = (
  omega arith,
  required_found _ _ _ c.requires.0 _ c.requires.1.met.1.1.1.1.1.1.1.1.0 (row_found (header_rows envelopes.Response) c.requires.0 _ 9 _ c.requires.1 c.member-7.ensures),
)
