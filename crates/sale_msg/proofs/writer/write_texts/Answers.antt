-- Proof of the contract of `write_texts`.
use Rattle.std.proofs.Common.{ap, refl, codes, drop, ◌+◌}
use Rattle.std.proofs.lemmas.List.{drop_all}
use Rattle.json_text.specs.Tree.{string}
use Rattle.json_text.proofs.GrowthLemmas.{same_grows, grows_on, append_grows}
use Rattle.sale_values.specs.MemberShapes.{only}
use Rattle.sale_msg.specs.Canonical.{text_elements}
use Rattle.sale_msg.proofs.WriterLemmas.{element_next, elements_end, texts_from}
use Rattle.sale_msg.proofs.writer.write_texts.Goals as goal

pub loop-i-init : goal.loop-i-init
loop-i-init c = record { spelled = refl; grows = same_grows c.args.out.now.items c.args.out.now.items refl }

pub loop-i-preserved : goal.loop-i-preserved
loop-i-preserved c =
    let i = c.loop-i.i in
    let texts = c.args.texts.now in
    let text = c.index-texts-i.result in
    record {
      spelled = element_next i (only (codes "Text") (string text)) _ (text_elements (drop (i + 1) texts)) c.write_parts.new.out.items c.loop-i.out.items _
          (texts_from texts i text c.loop-i-test.true c.index-texts-i.is) (rw c.text_parts.ensures at c.in_ok-write_parts.ensures.ok) c.loop-i.invariant.spelled;
      grows = grows_on c.args.out.now.items c.loop-i.out.items _ c.loop-i.invariant.grows c.write_parts.ensures.grows;
    }

pub returns-in_err-write_parts-clause-grows : goal.returns-in_err-write_parts-clause-grows
returns-in_err-write_parts-clause-grows c = grows_on c.args.out.now.items c.loop-i.out.items _ c.loop-i.invariant.grows c.write_parts.ensures.grows

pub returns-clause-ok : goal.returns-clause-ok
returns-clause-ok c =
    elements_end c.extend_from_slice.result c.loop-i.i _ c.extend_from_slice.new.self.items c.loop-i.out.items _
    (ap text_elements (drop_all c.loop-i.i c.args.texts.now c.loop-i-test.false)) c.extend_from_slice.ensures.items c.loop-i.invariant.spelled

pub returns-clause-grows : goal.returns-clause-grows
returns-clause-grows c =
    grows_on c.args.out.now.items c.loop-i.out.items _ c.loop-i.invariant.grows
    (append_grows c.extend_from_slice.result c.loop-i.out.items _ _ c.extend_from_slice.ensures.items)
