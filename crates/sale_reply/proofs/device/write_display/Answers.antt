-- Proof of the contract of `write_display`.
use Rattle.sale_reply.proofs.PartLemmas.{and_then, spelled}
use Rattle.sale_reply.proofs.CanonicalLemmas.{display_parts}
use Rattle.sale_reply.proofs.device.write_display.Goals as goal

pub returns : goal.returns
returns c =
    spelled (and_then c.raw.ensures (and_then c.first_name.ensures (and_then c.raw-2.ensures (and_then c.write_outputs.ensures c.raw-3.ensures))))
    (display_parts c.args.outputs.now)
