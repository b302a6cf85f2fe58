-- Proof of the contract of `write_output`.
use Rattle.std.proofs.Common.{codes}
use Rattle.json_text.proofs.GrowthLemmas.{append_grows, grows_on}
use Rattle.sale_msg.proofs.WriterLemmas.{appended, three}
use Rattle.sale_msg.proofs.writer.write_output.Goals as goal

pub returns-in_err-write_parts-clause-grows : goal.returns-in_err-write_parts-clause-grows
returns-in_err-write_parts-clause-grows c = c.write_parts.ensures.grows

pub returns-in_err-write_optional_texts-clause-grows : goal.returns-in_err-write_optional_texts-clause-grows
returns-in_err-write_optional_texts-clause-grows c =
    grows_on c.args.out.now.items c.write_parts.new.out.items _ c.write_parts.ensures.grows c.write_optional_texts.ensures.grows

pub returns : goal.returns
returns c =
    let texts-grow = grows_on c.args.out.now.items c.write_parts.new.out.items _ c.write_parts.ensures.grows c.write_optional_texts.ensures.grows in
    let closed = appended c.extend_from_slice.result _ c.write_optional_texts.new.out.items (codes "}}") c.extend_from_slice.ensures.items in
    record {
      ok = three c.extend_from_slice.result _ _ _ _ _ _ _ _ c.in_ok-write_parts.ensures.ok c.in_ok-write_optional_texts.ensures.ok closed c.output_parts.ensures;
      grows = grows_on c.args.out.now.items c.write_optional_texts.new.out.items _ texts-grow
          (append_grows c.extend_from_slice.result c.write_optional_texts.new.out.items _ _ c.extend_from_slice.ensures.items);
    }
