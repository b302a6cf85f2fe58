-- Proof of the contract of `write_output`.
use Rattle.sale_reply.proofs.PartLemmas.{and_then, spelled}
use Rattle.sale_reply.proofs.CanonicalLemmas.{output_parts}
use Rattle.sale_reply.proofs.device.write_output.Goals as goal

pub returns : goal.returns
returns c =
    spelled (and_then c.raw.ensures (and_then c.first_text.ensures (and_then c.next_text.ensures (and_then c.next_name.ensures (and_then c.write_verdict.ensures c.raw-2.ensures)))))
    (cc (output_parts c.args.shown.now))
