-- Proof of the contract of `write_result`.
use Rattle.sale_reply.proofs.PartLemmas.{and_then, spelled}
use Rattle.sale_reply.proofs.CanonicalLemmas.{result_parts}
use Rattle.sale_reply.proofs.body.write_result.Goals as goal

pub returns : goal.returns
returns c =
    spelled (and_then c.raw.ensures (and_then c.first_text.ensures (and_then c.write_condition.ensures (and_then c.next_id.ensures c.raw-2.ensures))))
    (cc (result_parts c.args.outcome c.args.condition c.args.path.now))
