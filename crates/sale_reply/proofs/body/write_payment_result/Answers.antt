-- Proof of the contract of `write_payment_result`.
use Rattle.sale_reply.proofs.PartLemmas.{and_then, spelled}
use Rattle.sale_reply.proofs.CanonicalLemmas.{payment_result_parts}
use Rattle.sale_reply.proofs.body.write_payment_result.Goals as goal

pub returns : goal.returns
returns c =
    spelled (and_then c.raw.ensures (and_then c.first_name.ensures (and_then c.raw-2.ensures (and_then c.first_text.ensures (and_then c.next_number.ensures c.raw-3.ensures)))))
    (cc (payment_result_parts c.args.paid.now.currency c.args.paid.now.minor))
