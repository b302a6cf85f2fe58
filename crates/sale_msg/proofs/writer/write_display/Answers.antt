-- Proof of the contract of `write_display`.
use Rattle.std.proofs.Common.{codes, refl}
use Rattle.json_text.proofs.GrowthLemmas.{append_grows, grows_on}
use Rattle.sale_msg.proofs.WriterLemmas.{appended, three}
use Rattle.sale_msg.proofs.writer.write_display.Goals as goal

pub returns-in_err-extend_from_slice-clause-grows : goal.returns-in_err-extend_from_slice-clause-grows
returns-in_err-extend_from_slice-clause-grows c =
    append_grows c.extend_from_slice.result c.args.out.now.items _ _ c.extend_from_slice.ensures.items

pub returns-in_err-write_outputs-clause-grows : goal.returns-in_err-write_outputs-clause-grows
returns-in_err-write_outputs-clause-grows c =
    let opened = append_grows c.extend_from_slice.result c.args.out.now.items _ _ c.extend_from_slice.ensures.items in
    grows_on c.args.out.now.items c.extend_from_slice.new.self.items _ opened c.write_outputs.ensures.grows

pub returns : goal.returns
returns c =
    let opened = append_grows c.extend_from_slice.result c.args.out.now.items _ _ c.extend_from_slice.ensures.items in
    let listed = grows_on c.args.out.now.items c.extend_from_slice.new.self.items _ opened c.write_outputs.ensures.grows in
    let closed = appended c.extend_from_slice-2.result _ c.write_outputs.new.out.items (codes "}") c.extend_from_slice-2.ensures.items in
    record {
      ok = three c.extend_from_slice-2.result _ _ _ _ _ _ _ _ c.in_ok-extend_from_slice.ensures.items (rw c.as_slice.ensures at c.in_ok-write_outputs.ensures.ok) closed refl;
      grows = grows_on c.args.out.now.items c.write_outputs.new.out.items _ listed
          (append_grows c.extend_from_slice-2.result c.write_outputs.new.out.items _ _ c.extend_from_slice-2.ensures.items);
    }
