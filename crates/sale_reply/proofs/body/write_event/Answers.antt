-- Proof of the contract of `write_event`.
use Rattle.std.proofs.Common.{w64}
use Rattle.std.proofs.lemmas.Int.{to_z-of_z}
use Rattle.sale_reply.proofs.PartLemmas.{and_then, spelled}
use Rattle.sale_reply.proofs.CanonicalLemmas.{event_body_parts}
use Rattle.sale_reply.proofs.body.write_event.Goals as goal

pub returns : goal.returns
returns c =
    spelled (and_then c.raw.ensures (and_then c.first_text.ensures (and_then c.next_text.ensures (and_then c.next_text-2.ensures c.raw-2.ensures))))
    (cc (event_body_parts c.args.moment c.args.detail.now, to_z-of_z w64 c.args.moment c.ranges.moment))
