-- Proof of the contract of `write_total`.
use Rattle.sale_reply.proofs.PartLemmas.{and_then, spelled}
use Rattle.sale_reply.proofs.CanonicalLemmas.{total_parts}
use Rattle.sale_reply.proofs.body.write_total.Goals as goal

pub returns : goal.returns
returns c =
    spelled (and_then c.raw.ensures (and_then c.first_text.ensures (and_then c.next_number.ensures (and_then c.next_number-2.ensures c.raw-2.ensures))))
    (cc (total_parts c.args.transaction_type.now c.args.sum.now))
