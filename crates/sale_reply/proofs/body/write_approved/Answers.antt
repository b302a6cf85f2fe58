-- Proof of the contract of `write_approved`.
use Rattle.sale_reply.proofs.PartLemmas.{and_then, spelled}
use Rattle.sale_reply.proofs.CanonicalLemmas.{approved_parts}
use Rattle.sale_reply.proofs.body.write_approved.Goals as goal

pub returns : goal.returns
returns c =
    spelled (and_then c.raw.ensures (and_then c.first_name.ensures (and_then c.write_result.ensures (and_then c.next_name.ensures (and_then c.write_sale_data.ensures (and_then c.next_name-2.ensures (and_then c.write_poi_data.ensures (and_then c.next_name-3.ensures (and_then c.write_payment_result.ensures c.raw-2.ensures)))))))))
    (approved_parts c.args.transaction.now c.args.stamp.now c.args.mark.now c.args.outcome c.args.paid.now)
