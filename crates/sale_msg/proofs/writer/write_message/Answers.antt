-- Proof of the contract of `write_message`.
use Rattle.json_text.proofs.GrowthLemmas.{grows_on}
use Rattle.sale_values.specs.CanonicalHeader.{header_members}
use Rattle.sale_msg.specs.Canonical.{body_members, body_name}
use Rattle.sale_msg.proofs.WriterLemmas.{two, message_spelled}
use Rattle.sale_msg.proofs.writer.write_message.Goals as goal

pub returns-in_err-write_header-clause-grows : goal.returns-in_err-write_header-clause-grows
returns-in_err-write_header-clause-grows c = c.write_header.ensures.grows

pub returns : goal.returns
returns c =
    let spelled = message_spelled (header_members c.args.header.now) (body_name c.args.request.now) (body_members c.args.request.now) in
    record {
      ok = two c.write_named_body.result _ _ _ _ _ _ c.in_ok-write_header.ensures.ok c.write_named_body.ensures.ok spelled;
      grows = grows_on c.args.out.now.items c.write_header.new.out.items _ c.write_header.ensures.grows c.write_named_body.ensures.grows;
    }
