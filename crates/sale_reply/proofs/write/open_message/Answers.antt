-- Proof of the contract of `open_message`.
use Rattle.sale_reply.proofs.PartLemmas.{and_then, spelled}
use Rattle.sale_reply.proofs.CanonicalLemmas.{prefix_parts}
use Rattle.sale_reply.proofs.write.open_message.Goals as goal

pub returns : goal.returns
returns c =
    spelled (and_then c.raw.ensures (and_then c.first_name.ensures (and_then c.raw-2.ensures (and_then c.first_name-2.ensures (and_then c.write_header.ensures c.next_name.ensures)))))
    (cc (prefix_parts c.args.envelope.now c.args.header.now c.args.suffix.now))
