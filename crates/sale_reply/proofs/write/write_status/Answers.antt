-- Proof of the contract of `write_status`.
use Rattle.sale_reply.specs.Reply.{result_body}
use Rattle.sale_reply.proofs.PartLemmas.{and_then, spelled}
use Rattle.sale_reply.proofs.CanonicalLemmas.{status_parts}
use Rattle.sale_reply.proofs.write.write_status.Goals as goal

pub returns : goal.returns
returns c =
    spelled (and_then c.raw.ensures (and_then c.first_name.ensures (and_then c.write_success.ensures (and_then c.next_name.ensures (and_then c.raw-2.ensures (and_then c.first_name-2.ensures (and_then c.write_header.ensures (and_then c.next_name-2.ensures (and_then c.raw-3.ensures (and_then c.first_name-3.ensures (and_then c.write_result_body.ensures c.raw-4.ensures)))))))))))
    (cc (status_parts c.args.repeated.now (result_body c.args.told.now)))
