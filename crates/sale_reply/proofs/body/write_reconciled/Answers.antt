-- Proof of the contract of `write_reconciled`.
use Rattle.sale_reply.proofs.PartLemmas.{and_then, spelled}
use Rattle.sale_reply.proofs.CanonicalLemmas.{reconciled_parts}
use Rattle.sale_reply.proofs.body.write_reconciled.Goals as goal

pub returns : goal.returns
returns c =
    spelled (and_then c.raw.ensures (and_then c.first_name.ensures (and_then c.write_success.ensures (and_then c.next_text.ensures (and_then c.next_name.ensures (and_then c.raw-2.ensures (and_then c.write_totals.ensures c.raw-3.ensures)))))))
    (cc (reconciled_parts c.args.period c.args.currency c.args.debit.now c.args.reversed.now))
