-- Proof of the contract of `write_outputs`.
use Rattle.std.proofs.Common.{ap, refl, drop, ◌+◌}
use Rattle.std.proofs.lemmas.List.{drop_all}
use Rattle.json_text.proofs.GrowthLemmas.{same_grows, grows_on, append_grows}
use Rattle.sale_msg.specs.Canonical.{display_output_tree, output_elements}
use Rattle.sale_msg.proofs.WriterLemmas.{element_next, elements_end, joined, outputs_from}
use Rattle.sale_msg.proofs.writer.write_outputs.Goals as goal

pub loop-i-init : goal.loop-i-init
loop-i-init c = record { spelled = refl; grows = same_grows c.args.out.now.items c.args.out.now.items refl }

pub loop-i-preserved : goal.loop-i-preserved
loop-i-preserved c =
    let i = c.loop-i.i in
    let outputs = c.args.outputs.now in
    let output = c.index-outputs-i.result in
    let comma = grows_on c.args.out.now.items c.loop-i.out.items _ c.loop-i.invariant.grows
    (append_grows c.extend_from_slice.result c.loop-i.out.items _ _ c.extend_from_slice.ensures.items) in
    record {
      spelled = element_next i (display_output_tree output) _ (output_elements (drop (i + 1) outputs)) c.write_output.new.out.items c.loop-i.out.items _
          (outputs_from outputs i output c.loop-i-test.true c.index-outputs-i.is)
          (joined _ _ _ _ _ (rw c.comma_before.ensures at c.in_ok-extend_from_slice.ensures.items) c.in_ok-write_output.ensures.ok) c.loop-i.invariant.spelled;
      grows = grows_on c.args.out.now.items c.extend_from_slice.new.self.items _ comma c.write_output.ensures.grows;
    }

pub returns-in_err-extend_from_slice-clause-grows : goal.returns-in_err-extend_from_slice-clause-grows
returns-in_err-extend_from_slice-clause-grows c =
    grows_on c.args.out.now.items c.loop-i.out.items _ c.loop-i.invariant.grows
    (append_grows c.extend_from_slice.result c.loop-i.out.items _ _ c.extend_from_slice.ensures.items)

pub returns-in_err-write_output-clause-grows : goal.returns-in_err-write_output-clause-grows
returns-in_err-write_output-clause-grows c =
    let comma = grows_on c.args.out.now.items c.loop-i.out.items _ c.loop-i.invariant.grows
    (append_grows c.extend_from_slice.result c.loop-i.out.items _ _ c.extend_from_slice.ensures.items) in
    grows_on c.args.out.now.items c.extend_from_slice.new.self.items _ comma c.write_output.ensures.grows

pub returns-clause-ok : goal.returns-clause-ok
returns-clause-ok c =
    elements_end c.extend_from_slice-2.result c.loop-i.i _ c.extend_from_slice-2.new.self.items c.loop-i.out.items _
    (ap output_elements (drop_all c.loop-i.i c.args.outputs.now c.loop-i-test.false)) c.extend_from_slice-2.ensures.items c.loop-i.invariant.spelled

pub returns-clause-grows : goal.returns-clause-grows
returns-clause-grows c =
    grows_on c.args.out.now.items c.loop-i.out.items _ c.loop-i.invariant.grows
    (append_grows c.extend_from_slice-2.result c.loop-i.out.items _ _ c.extend_from_slice-2.ensures.items)
