-- Proof of the contract of `write_poi_data`.
use Rattle.std.proofs.Common.{w64, rules}
use Rattle.std.proofs.lemmas.Int.{to_z-of_z}
use Rattle.sale_reply.proofs.PartLemmas.{and_then, spelled}
use Rattle.sale_reply.proofs.CanonicalLemmas.{poi_data_parts}
use Rattle.sale_reply.proofs.body.write_poi_data.Goals as goal

pub returns : goal.returns
returns c =
    spelled (and_then c.raw.ensures (and_then c.first_name.ensures (and_then c.raw-2.ensures (and_then c.first_text.ensures (and_then c.next_text.ensures c.raw-3.ensures)))))
    (cc (poi_data_parts c.args.trace c.args.receipt c.args.mark.now, to_z-of_z w64 c.args.mark.now.moment (search rules)))
