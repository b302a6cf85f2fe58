-- Proof of the contract of `write_line`.
use Rattle.sale_reply.specs.Texts.{line_text}
use Rattle.sale_reply.proofs.PartLemmas.{and_then, spelled}
use Rattle.sale_reply.proofs.CanonicalLemmas.{text_parts}
use Rattle.sale_reply.proofs.device.write_line.Goals as goal

pub returns : goal.returns
returns c =
    spelled (and_then c.raw.ensures (and_then c.first_name.ensures (and_then c.line.ensures c.raw-2.ensures)))
    (text_parts (line_text c.args.line.now))
