-- Proof of the contract of `output_parts`.
use Rattle.sale_msg.specs.Canonical.{display_output_tree}
use Rattle.sale_msg.proofs.WriterLemmas.{output_spelled}
use Rattle.sale_msg.proofs.writer.output_parts.Goals as goal

pub returns : goal.returns
unfolding display_output_tree
returns c =
    let output = c.args.output.now in
    rw (c.as_bytes.ensures.value, c.as_bytes-2.ensures.value, c.word_of.ensures)
    (output_spelled output.device output.qualify output.required output.texts)
