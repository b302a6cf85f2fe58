-- Proof of the contract of `write_plain`.
use Rattle.sale_reply.specs.Reply.{verdict_tree}
use Rattle.sale_reply.proofs.PartLemmas.{and_then, spelled}
use Rattle.sale_reply.proofs.CanonicalLemmas.{plain_parts}
use Rattle.sale_reply.proofs.body.write_plain.Goals as goal

pub returns : goal.returns
returns c =
    spelled (and_then c.raw.ensures (and_then c.first_name.ensures (and_then c.write_verdict.ensures c.raw-2.ensures)))
    (plain_parts (verdict_tree c.args.verdict.now))
