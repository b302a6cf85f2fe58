-- Proof of the contract of `write_display_request`.
use Rattle.sale_reply.proofs.PartLemmas.{and_then, spelled}
use Rattle.sale_reply.proofs.CanonicalLemmas.{show_parts}
use Rattle.sale_reply.proofs.device.write_display_request.Goals as goal

pub returns : goal.returns
returns c =
    spelled (and_then c.raw.ensures (and_then c.first_name.ensures (and_then c.raw-2.ensures (and_then c.first_name-2.ensures (and_then c.raw-3.ensures (and_then c.next_text.ensures (and_then c.next_text-2.ensures (and_then c.next_name.ensures (and_then c.open_content.ensures (and_then c.raw-4.ensures (and_then c.first_text.ensures (and_then c.raw-5.ensures c.raw-6.ensures))))))))))))
    (cc (show_parts c.args.code))
