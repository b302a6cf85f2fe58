-- Proof of the contract of `read_text`.
use Rattle.std.proofs.Common.{refl, ap, ◌+◌, ◌∙◌, sym}
use Rattle.jrn_record.specs.Grammar.{text_field}
use Rattle.jrn_record.proofs.FieldLemmas.{text_none}
use Rattle.jrn_record.proofs.body_fields.read_text.Goals as goal

pub returns-in-None-of : goal.returns-in-None-of
returns-in-None-of g c =
    let spelt = ap (λ size. text_field size c.in-Some.bytes.now) (sym c.bytes_at.ensures.len) ∙ c.in-Some.ensures ∙ c.bytes_at.ensures.value in
    (refl, λ value is e. text_none (g.row.N + 1) g.row.N c.in-Some.bytes.now _ spelt (λ is. c.in-None-of.ensures is) value is e)
