-- Proof of the contract of `write_payment`.
use Rattle.json_text.proofs.GrowthLemmas.{grows_on}
use Rattle.sale_msg.proofs.WriterLemmas.{two}
use Rattle.sale_msg.proofs.writer.write_payment.Goals as goal

pub returns-in_err-write_parts-clause-grows : goal.returns-in_err-write_parts-clause-grows
returns-in_err-write_parts-clause-grows c = c.write_parts.ensures.grows

pub returns : goal.returns
returns c = record {
  ok = two c.write_payment_data.result _ _ _ _ _ _ c.in_ok-write_parts.ensures.ok c.write_payment_data.ensures.ok c.payment_parts.ensures;
  grows = grows_on c.args.out.now.items c.write_parts.new.out.items _ c.write_parts.ensures.grows c.write_payment_data.ensures.grows;
}
