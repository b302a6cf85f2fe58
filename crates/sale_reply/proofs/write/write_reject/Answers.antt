-- Proof of the contract of `write_reject`.
use Rattle.std.proofs.Common.{codes, w64}
use Rattle.std.proofs.lemmas.Int.{to_z-of_z}
use Rattle.sale_reply.specs.Reply.{event_body, event_header}
use Rattle.sale_reply.proofs.PartLemmas.{and_then, spelled}
use Rattle.sale_reply.proofs.CanonicalLemmas.{message_parts}
use Rattle.sale_reply.proofs.write.write_reject.Goals as goal

pub returns : goal.returns
returns c =
    spelled (and_then c.open_message.ensures (and_then c.write_event.ensures c.raw.ensures))
    (cc (
      message_parts (codes "SaleToPOIRequest") (event_header c.args.sale.now c.args.poi.now) (codes "Notification") (event_body c.args.moment c.args.detail.now),
      to_z-of_z w64 c.args.moment c.ranges.moment,
    ))
