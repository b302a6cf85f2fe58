-- Proof of the contract of `write_named_body`.
use Rattle.std.proofs.Common.{codes}
use Rattle.json_text.proofs.GrowthLemmas.{append_grows, grows_on}
use Rattle.sale_msg.specs.Canonical.{body_members, body_name}
use Rattle.sale_msg.proofs.WriterLemmas.{appended, three, body_spelled}
use Rattle.sale_msg.proofs.writer.write_named_body.Goals as goal

pub returns-in_err-write_parts-clause-grows : goal.returns-in_err-write_parts-clause-grows
returns-in_err-write_parts-clause-grows c = c.write_parts.ensures.grows

pub returns-in_err-write_body-clause-grows : goal.returns-in_err-write_body-clause-grows
returns-in_err-write_body-clause-grows c =
    grows_on c.args.out.now.items c.write_parts.new.out.items _ c.write_parts.ensures.grows c.write_body.ensures.grows

pub returns : goal.returns
returns c =
    let named = rw c.name_parts.ensures at c.in_ok-write_parts.ensures.ok in
    let closed = appended c.extend_from_slice.result _ c.write_body.new.out.items (codes "}}") c.extend_from_slice.ensures.items in
    let body = grows_on c.args.out.now.items c.write_parts.new.out.items _ c.write_parts.ensures.grows c.write_body.ensures.grows in
    record {
      ok = three c.extend_from_slice.result _ _ _ _ _ _ _ _ named c.in_ok-write_body.ensures.ok closed (body_spelled (body_name c.args.request.now) (body_members c.args.request.now));
      grows = grows_on c.args.out.now.items c.write_body.new.out.items _ body
          (append_grows c.extend_from_slice.result c.write_body.new.out.items _ _ c.extend_from_slice.ensures.items);
    }
