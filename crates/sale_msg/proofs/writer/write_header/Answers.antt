-- Proof of the contract of `write_header`.
use Rattle.std.proofs.Common.{refl}
use Rattle.json_text.proofs.GrowthLemmas.{append_grows, grows_on}
use Rattle.sale_msg.proofs.WriterLemmas.{two}
use Rattle.sale_msg.proofs.writer.write_header.Goals as goal

pub returns-in_err-extend_from_slice-clause-grows : goal.returns-in_err-extend_from_slice-clause-grows
returns-in_err-extend_from_slice-clause-grows c =
    append_grows c.extend_from_slice.result c.args.out.now.items _ _ c.extend_from_slice.ensures.items

pub returns : goal.returns
returns c =
    let opened = append_grows c.extend_from_slice.result c.args.out.now.items _ _ c.extend_from_slice.ensures.items in
    record {
      ok = two c.write_parts.result _ _ _ _ _ _ c.in_ok-extend_from_slice.ensures.items (rw c.header_parts.ensures at c.write_parts.ensures.ok) refl;
      grows = grows_on c.args.out.now.items c.extend_from_slice.new.self.items _ opened c.write_parts.ensures.grows;
    }
