-- Proof of the contract of `abort`.
use Rattle.std.proofs.Common.{◌∙◌, codes, refl, sym}
use Rattle.sale_msg.specs.Table.{abort_rows}
use Rattle.sale_msg.specs.declared.table.Form.TheVariants.{Object}
use Rattle.sale_msg.specs.declared.table.Presence.TheVariants.{Optional}
use Rattle.sale_msg.proofs.PathLemmas.{text_within}
use Rattle.sale_msg.proofs.RowLemmas.{may_be_found, required_found, required_is, row_found, text_found}
use Rattle.sale_msg.proofs.body.abort.Goals as goal

pub reference-requires-clause-service : goal.reference-requires-clause-service
reference-requires-clause-service c =
    required_found _ _ _ c.requires.0 _ c.requires.1.met.1.1.1.0 (row_found abort_rows c.requires.0 _ 4 _ c.requires.1 c.member.ensures)

pub reference-requires-clause-sale : goal.reference-requires-clause-sale
reference-requires-clause-sale c =
    may_be_found _ _ Optional _ c.requires.0 _ c.requires.1.met.1.1.1.1.0 (row_found abort_rows c.requires.0 _ 5 _ c.requires.1 c.member-2.ensures)

pub reference-requires-clause-poi : goal.reference-requires-clause-poi
reference-requires-clause-poi c =
    may_be_found _ _ Optional _ c.requires.0 _ c.requires.1.met.1.1.1.1.1.0 (row_found abort_rows c.requires.0 _ 6 _ c.requires.1 c.member-3.ensures)

pub returns : goal.returns
returns c =
    λ body found.
    let object = required_is (codes "AbortRequest.MessageReference") (codes "AbortRequest.MessageReference") Object body found.met.1.1.0 in (
      object.0,
      object.1,
      record {
        service =
            sym (text_within (codes "AbortRequest.MessageReference.ServiceID") (codes "AbortRequest.MessageReference") (codes "ServiceID") body object.0 refl object.1)
            ∙ text_found _ _ _ (row_found abort_rows body _ 4 _ found c.member.ensures) c.reference.ensures.service;
        sale =
            sym (text_within (codes "AbortRequest.MessageReference.SaleID") (codes "AbortRequest.MessageReference") (codes "SaleID") body object.0 refl object.1)
            ∙ text_found _ _ _ (row_found abort_rows body _ 5 _ found c.member-2.ensures) c.reference.ensures.sale;
        poi =
            sym (text_within (codes "AbortRequest.MessageReference.POIID") (codes "AbortRequest.MessageReference") (codes "POIID") body object.0 refl object.1)
            ∙ text_found _ _ _ (row_found abort_rows body _ 6 _ found c.member-3.ensures) c.reference.ensures.poi;
      },
    )
