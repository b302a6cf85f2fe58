-- Proof of the contract of `write_reversed`.
use Rattle.sale_reply.proofs.PartLemmas.{and_then, spelled}
use Rattle.sale_reply.proofs.CanonicalLemmas.{reversed_parts}
use Rattle.sale_reply.proofs.body.write_reversed.Goals as goal

pub returns : goal.returns
returns c =
    spelled (and_then c.raw.ensures (and_then c.first_name.ensures (and_then c.write_success.ensures (and_then c.next_name.ensures (and_then c.write_poi_data.ensures (and_then c.next_number.ensures c.raw-2.ensures))))))
    (cc (reversed_parts c.args.mark.now c.args.reversed.now))
