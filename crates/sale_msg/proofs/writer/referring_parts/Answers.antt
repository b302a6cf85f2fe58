-- Proof of the contract of `referring_parts`.
use Rattle.sale_msg.proofs.WriterLemmas.{referring_spelled}
use Rattle.sale_msg.proofs.writer.referring_parts.Goals as goal

pub returns : goal.returns
returns c =
    let reference = c.args.reference.now in
    rw (c.as_bytes.ensures.value, c.ident_bytes.ensures, c.ident_bytes-2.ensures)
    (referring_spelled reference.service reference.sale reference.poi)
