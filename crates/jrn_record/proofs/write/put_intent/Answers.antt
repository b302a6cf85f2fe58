-- Proof of the contract of `put_intent`.
use Rattle.std.proofs.Common.{[], ◌∷◌, ap, ◌∙◌, ◌++◌}
use Rattle.gw_base.specs.Bcd.{bcd_of}
use Rattle.jrn_record.specs.Grammar.{moment_field, text_field}
use Rattle.jrn_record.proofs.MomentLemmas.{moment_back}
use Rattle.jrn_record.proofs.WriteLemmas.{from_empty, last, then, then_three}
use Rattle.jrn_record.proofs.write.put_intent.Goals as goal

pub returns : goal.returns
returns c =
    let start = c.args.draft.now.items in
    let head = c.put.new.draft.items in
    let key = c.put_key.new.draft.items in
    let transaction = c.put_option.new.draft.items in
    let stamp = c.put_option-2.new.draft.items in
    let amount = c.put_bcd.new.draft.items in
    let currency = c.put_currency.new.draft.items in
    let before = c.put_bcd-2.new.draft.items in
    let original = c.put_original.new.draft.items in
    let moment = c.put_moment.new.draft.items in
    let end = c.put_zeros.new.draft.items in
    from_empty start end _ c.requires.empty
    (then start head end _ _ (c.put.ensures ∙ ap (λ code. start ++ (1 ∷ code ∷ [])) c.deal_byte.ensures)
    (then_three head key end (text_field 41 c.args.intent.now.sale) (text_field 41 c.args.intent.now.poi)
    (text_field 11 c.args.intent.now.service) _ c.put_key.ensures
    (then key transaction end _ _ c.put_option.ensures
    (then transaction stamp end _ _ c.put_option-2.ensures
    (then stamp amount end _ _ c.put_bcd.ensures
    (then amount currency end _ _ c.put_currency.ensures
    (then currency before end _ _ (c.put_bcd-2.ensures ∙ ap (λ number. currency ++ bcd_of 3 number) c.from.ensures)
    (then before original end _ _ c.put_original.ensures
    (then original moment end _ _
    (c.put_moment.ensures ∙ ap (λ moment. original ++ moment_field moment) (moment_back c.args.intent.now.moment c.requires.within.moment)) (last moment end _ c.put_zeros.ensures))))))))))
