-- Proof of the contract of `header_under`.
use Rattle.json_text.specs.ValueOf.{value_of}
use Rattle.sale_msg.proofs.MessageLemmas.{header_found}
use Rattle.sale_msg.proofs.header.header_under.Goals as goal

pub header_of-requires : goal.header_of-requires
header_of-requires c =
    (value_of c.args.body.now, header_found c.args.envelope (value_of c.args.body.now) _ (rw c.header_table.ensures.rows_are at c.in-Ok.ensures))

pub returns-in-Ok : goal.returns-in-Ok
returns-in-Ok c =
    let body = value_of c.args.body.now in
    let found = rw c.header_table.ensures.rows_are at c.in-Ok.ensures in
    λ message under. (under, record { members = found.met; values = c.header_of.ensures body (header_found c.args.envelope body _ found) })
