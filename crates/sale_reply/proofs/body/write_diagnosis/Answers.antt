-- Proof of the contract of `write_diagnosis`.
use Rattle.sale_reply.proofs.PartLemmas.{and_then, spelled}
use Rattle.sale_reply.proofs.CanonicalLemmas.{diagnosis_parts}
use Rattle.sale_reply.proofs.body.write_diagnosis.Goals as goal

pub returns : goal.returns
returns c =
    spelled (and_then c.raw.ensures (and_then c.first_name.ensures (and_then c.write_success.ensures (and_then c.next_name.ensures (and_then c.raw-2.ensures (and_then c.first_text.ensures c.raw-3.ensures))))))
    (cc (diagnosis_parts c.args.status))
