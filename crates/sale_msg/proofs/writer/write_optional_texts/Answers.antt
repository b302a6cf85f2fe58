-- Proof of the contract of `write_optional_texts`.
use Rattle.std.proofs.Common.{Some, ap, sym, ◌∙◌}
use Rattle.sale_msg.proofs.WriterLemmas.{texts_appended}
use Rattle.sale_msg.proofs.writer.write_optional_texts.Goals as goal

pub returns-in_ok-extend_from_slice-in-Some-clause-ok : goal.returns-in_ok-extend_from_slice-in-Some-clause-ok
returns-in_ok-extend_from_slice-in-Some-clause-ok c =
    texts_appended c.write_texts.result c.write_texts.new.out.items c.extend_from_slice.new.self.items c.args.out.now.items
    c.as_slice.result.now c.args.texts.now (c.in-Some.is ∙ ap Some (sym c.as_slice.ensures))
    c.in_ok-extend_from_slice-in-Some.ensures.items c.write_texts.ensures.ok
