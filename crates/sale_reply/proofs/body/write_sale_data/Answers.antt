-- Proof of the contract of `write_sale_data`.
use Rattle.sale_reply.proofs.PartLemmas.{and_then, spelled}
use Rattle.sale_reply.proofs.CanonicalLemmas.{sale_data_parts}
use Rattle.sale_reply.proofs.body.write_sale_data.Goals as goal

pub returns : goal.returns
returns c =
    spelled (and_then c.raw.ensures (and_then c.first_name.ensures (and_then c.raw-2.ensures (and_then c.first_text.ensures (and_then c.next_text.ensures c.raw-3.ensures)))))
    (cc (sale_data_parts c.args.transaction.now c.args.stamp.now))
