-- Proof of the contract of `write_reversal`.
use Rattle.json_text.proofs.GrowthLemmas.{grows_on}
use Rattle.sale_msg.proofs.WriterLemmas.{two}
use Rattle.sale_msg.proofs.writer.write_reversal.Goals as goal

pub returns-in_err-write_parts-clause-grows : goal.returns-in_err-write_parts-clause-grows
returns-in_err-write_parts-clause-grows c = c.write_parts.ensures.grows

pub returns : goal.returns
returns c = record {
  ok = two c.write_reversed_amount.result _ _ _ _ _ _ c.in_ok-write_parts.ensures.ok c.write_reversed_amount.ensures.ok c.reversal_parts.ensures;
  grows = grows_on c.args.out.now.items c.write_parts.new.out.items _ c.write_parts.ensures.grows c.write_reversed_amount.ensures.grows;
}
