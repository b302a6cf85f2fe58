-- Proof of the contract of `write_totals`.
use Rattle.sale_reply.proofs.PartLemmas.{and_then, spelled}
use Rattle.sale_reply.proofs.CanonicalLemmas.{totals_parts}
use Rattle.sale_reply.proofs.body.write_totals.Goals as goal

pub returns : goal.returns
returns c =
    spelled (and_then c.raw.ensures (and_then c.first_text.ensures (and_then c.next_text.ensures (and_then c.next_name.ensures (and_then c.raw-2.ensures (and_then c.write_total.ensures (and_then c.raw-3.ensures (and_then c.write_total-2.ensures c.raw-4.ensures))))))))
    (cc (totals_parts c.args.currency c.args.debit.now c.args.reversed.now))
