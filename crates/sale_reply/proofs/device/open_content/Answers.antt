-- Proof of the contract of `open_content`.
use Rattle.sale_reply.proofs.PartLemmas.{and_then, spelled}
use Rattle.sale_reply.proofs.CanonicalLemmas.{content_prefix_parts}
use Rattle.sale_reply.proofs.device.open_content.Goals as goal

pub returns : goal.returns
returns c =
    spelled (and_then c.raw.ensures (and_then c.first_text.ensures (and_then c.next_name.ensures c.raw-2.ensures)))
    (content_prefix_parts)
