-- Proof of the contract of `write_declined`.
use Rattle.sale_reply.proofs.PartLemmas.{and_then, spelled}
use Rattle.sale_reply.proofs.CanonicalLemmas.{declined_parts}
use Rattle.sale_reply.proofs.body.write_declined.Goals as goal

pub returns : goal.returns
returns c =
    spelled (and_then c.raw.ensures (and_then c.first_name.ensures (and_then c.write_result.ensures (and_then c.next_name.ensures (and_then c.write_sale_data.ensures (and_then c.next_name-2.ensures (and_then c.write_poi_data.ensures c.raw-2.ensures)))))))
    (declined_parts c.args.transaction.now c.args.stamp.now c.args.mark.now c.args.condition)
