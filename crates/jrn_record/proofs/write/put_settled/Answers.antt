-- Proof of the contract of `put_settled`.
use Rattle.std.proofs.Common.{[], ◌∷◌, ap, ◌∙◌, ◌++◌}
use Rattle.jrn_record.specs.Grammar.{moment_field, text_field}
use Rattle.jrn_record.proofs.MomentLemmas.{moment_back}
use Rattle.jrn_record.proofs.WriteLemmas.{from_empty, last, then, then_three}
use Rattle.jrn_record.proofs.write.put_settled.Goals as goal

pub returns : goal.returns
returns c =
    let start = c.args.draft.now.items in
    let head = c.put.new.draft.items in
    let key = c.put_key.new.draft.items in
    let currency = c.put_currency.new.draft.items in
    let moment = c.put_moment.new.draft.items in
    let end = c.put_zeros.new.draft.items in
    from_empty start end _ c.requires.empty
    (then start head end _ _ (c.put.ensures ∙ ap (λ code. start ++ (3 ∷ code ∷ [])) c.how_byte.ensures)
    (then_three head key end (text_field 41 c.args.settled.now.sale) (text_field 41 c.args.settled.now.poi)
    (text_field 11 c.args.settled.now.service) _ c.put_key.ensures
    (then key currency end _ _ c.put_currency.ensures
    (then currency moment end _ _
    (c.put_moment.ensures ∙ ap (λ moment. currency ++ moment_field moment) (moment_back c.args.settled.now.moment c.requires.within.moment)) (last moment end _ c.put_zeros.ensures)))))
