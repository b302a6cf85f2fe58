-- Proof of the contract of `read_intent`.
use Rattle.std.proofs.Common.{arith, sym, subst, pos, ℤ}
use Rattle.std.proofs.lemmas.Result.{err_from_is_err_and}
use Rattle.gw_base.specs.declared.currency.Currency.TheVariants.{Eur}
use Rattle.jrn_record.specs.Limits.{HasOriginal, HasTillText, IsIntent}
use Rattle.jrn_record.specs.Grammar.{intent_fields}
use Rattle.jrn_record.specs.Table.{Agree, intent_table}
use Rattle.jrn_record.specs.declared.records.Intent.{Intent}
use Rattle.jrn_record.specs.declared.records.Deal.TheVariants.{Payment}
use Rattle.jrn_record.proofs.MomentLemmas.{moment_back}
use Rattle.jrn_record.proofs.ReadLemmas.{blank, blank_is, blank_option, blank_option_is, blank_original, blank_original_is, exit, intent_fault, same_deal, zero_moment}
use Rattle.jrn_record.proofs.read.read_intent.Goals as goal

pub returns-in_err-what : goal.returns-in_err-what
returns-in_err-what c =
    let draft : Intent = record { what = Payment; sale = blank; poi = blank; service = blank; transaction = blank_option Payment; stamp = blank_option Payment; amount = 1; currency = Eur; before = 0; original = blank_original Payment; moment = pos 0 } in
    let is : IsIntent draft = record { sale = blank_is 40 (omega arith); poi = blank_is 40 (omega arith); service = blank_is 10 (omega arith); transaction = blank_option_is Payment 80 (omega arith); stamp = blank_option_is Payment 35 (omega arith); amount = (omega arith, omega arith); before = omega arith; original = blank_original_is Payment; moment = zero_moment } in
    let agrees : Agree 1 (intent_fields draft) intent_table c.args.body.now = (sym c.requires, tt) in
    exit _ c.in_err-what.field-0.0 _ _ (err_from_is_err_and c.from_residual.result c.from_residual.ensures.1)
    (intent_fault c.args.body.now 1 _ draft (omega arith) c.in_err-what.ensures.0 is agrees (sym c.requires)
    (λ the_record within a. c.in_err-what.ensures.1 the_record.what tt a.1.0))

pub returns-in_err-sale : goal.returns-in_err-sale
returns-in_err-sale c =
    let draft : Intent = record { what = c.in_ok-what.what; sale = blank; poi = blank; service = blank; transaction = blank_option c.in_ok-what.what; stamp = blank_option c.in_ok-what.what; amount = 1; currency = Eur; before = 0; original = blank_original c.in_ok-what.what; moment = pos 0 } in
    let is : IsIntent draft = record { sale = blank_is 40 (omega arith); poi = blank_is 40 (omega arith); service = blank_is 10 (omega arith); transaction = blank_option_is c.in_ok-what.what 80 (omega arith); stamp = blank_option_is c.in_ok-what.what 35 (omega arith); amount = (omega arith, omega arith); before = omega arith; original = blank_original_is c.in_ok-what.what; moment = zero_moment } in
    let agrees : Agree 2 (intent_fields draft) intent_table c.args.body.now = (sym c.requires, (c.in_ok-what.ensures.1, tt)) in
    exit _ c.in_err-sale.field-0.0 _ _ (err_from_is_err_and c.from_residual-in_err-sale.result c.from_residual-in_err-sale.ensures.1)
    (intent_fault c.args.body.now 2 _ draft (omega arith) c.in_err-sale.ensures.0 is agrees (sym c.requires)
    (λ the_record within a. c.in_err-sale.ensures.1 the_record.sale within.sale a.1.1.0))

pub returns-in_err-poi : goal.returns-in_err-poi
returns-in_err-poi c =
    let draft : Intent = record { what = c.in_ok-what.what; sale = c.in_ok-sale.sale; poi = blank; service = blank; transaction = blank_option c.in_ok-what.what; stamp = blank_option c.in_ok-what.what; amount = 1; currency = Eur; before = 0; original = blank_original c.in_ok-what.what; moment = pos 0 } in
    let is : IsIntent draft = record { sale = c.in_ok-sale.ensures.0; poi = blank_is 40 (omega arith); service = blank_is 10 (omega arith); transaction = blank_option_is c.in_ok-what.what 80 (omega arith); stamp = blank_option_is c.in_ok-what.what 35 (omega arith); amount = (omega arith, omega arith); before = omega arith; original = blank_original_is c.in_ok-what.what; moment = zero_moment } in
    let agrees : Agree 3 (intent_fields draft) intent_table c.args.body.now = (sym c.requires, (c.in_ok-what.ensures.1, (c.in_ok-sale.ensures.1, tt))) in
    exit _ c.in_err-poi.field-0.0 _ _ (err_from_is_err_and c.from_residual-in_err-poi.result c.from_residual-in_err-poi.ensures.1)
    (intent_fault c.args.body.now 3 _ draft (omega arith) c.in_err-poi.ensures.0 is agrees (sym c.requires)
    (λ the_record within a. c.in_err-poi.ensures.1 the_record.poi within.poi a.1.1.1.0))

pub returns-in_err-service : goal.returns-in_err-service
returns-in_err-service c =
    let draft : Intent = record { what = c.in_ok-what.what; sale = c.in_ok-sale.sale; poi = c.in_ok-poi.poi; service = blank; transaction = blank_option c.in_ok-what.what; stamp = blank_option c.in_ok-what.what; amount = 1; currency = Eur; before = 0; original = blank_original c.in_ok-what.what; moment = pos 0 } in
    let is : IsIntent draft = record { sale = c.in_ok-sale.ensures.0; poi = c.in_ok-poi.ensures.0; service = blank_is 10 (omega arith); transaction = blank_option_is c.in_ok-what.what 80 (omega arith); stamp = blank_option_is c.in_ok-what.what 35 (omega arith); amount = (omega arith, omega arith); before = omega arith; original = blank_original_is c.in_ok-what.what; moment = zero_moment } in
    let agrees : Agree 4 (intent_fields draft) intent_table c.args.body.now = (sym c.requires, (c.in_ok-what.ensures.1, (c.in_ok-sale.ensures.1, (c.in_ok-poi.ensures.1, tt)))) in
    exit _ c.in_err-service.field-0.0 _ _ (err_from_is_err_and c.from_residual-in_err-service.result c.from_residual-in_err-service.ensures.1)
    (intent_fault c.args.body.now 4 _ draft (omega arith) c.in_err-service.ensures.0 is agrees (sym c.requires)
    (λ the_record within a. c.in_err-service.ensures.1 the_record.service within.service a.1.1.1.1.0))

pub returns-in_err-transaction : goal.returns-in_err-transaction
returns-in_err-transaction c =
    let draft : Intent = record { what = c.in_ok-what.what; sale = c.in_ok-sale.sale; poi = c.in_ok-poi.poi; service = c.in_ok-service.service; transaction = blank_option c.in_ok-what.what; stamp = blank_option c.in_ok-what.what; amount = 1; currency = Eur; before = 0; original = blank_original c.in_ok-what.what; moment = pos 0 } in
    let is : IsIntent draft = record { sale = c.in_ok-sale.ensures.0; poi = c.in_ok-poi.ensures.0; service = c.in_ok-service.ensures.0; transaction = blank_option_is c.in_ok-what.what 80 (omega arith); stamp = blank_option_is c.in_ok-what.what 35 (omega arith); amount = (omega arith, omega arith); before = omega arith; original = blank_original_is c.in_ok-what.what; moment = zero_moment } in
    let agrees : Agree 5 (intent_fields draft) intent_table c.args.body.now = (sym c.requires, (c.in_ok-what.ensures.1, (c.in_ok-sale.ensures.1, (c.in_ok-poi.ensures.1, (c.in_ok-service.ensures.1, tt))))) in
    exit _ c.in_err-transaction.field-0.0 _ _ (err_from_is_err_and c.from_residual-in_err-transaction.result c.from_residual-in_err-transaction.ensures.1)
    (intent_fault c.args.body.now 5 _ draft (omega arith) c.in_err-transaction.ensures.0 is agrees (sym c.requires)
    (λ the_record within a. c.in_err-transaction.ensures.1 the_record.transaction (subst (λ w. HasTillText w 80 the_record.transaction) (same_deal the_record.what c.in_ok-what.what _ a.1.0 c.in_ok-what.ensures.1) within.transaction) a.1.1.1.1.1.0))

pub returns-in_err-stamp : goal.returns-in_err-stamp
returns-in_err-stamp c =
    let draft : Intent = record { what = c.in_ok-what.what; sale = c.in_ok-sale.sale; poi = c.in_ok-poi.poi; service = c.in_ok-service.service; transaction = c.in_ok-transaction.transaction; stamp = blank_option c.in_ok-what.what; amount = 1; currency = Eur; before = 0; original = blank_original c.in_ok-what.what; moment = pos 0 } in
    let is : IsIntent draft = record { sale = c.in_ok-sale.ensures.0; poi = c.in_ok-poi.ensures.0; service = c.in_ok-service.ensures.0; transaction = c.in_ok-transaction.ensures.0; stamp = blank_option_is c.in_ok-what.what 35 (omega arith); amount = (omega arith, omega arith); before = omega arith; original = blank_original_is c.in_ok-what.what; moment = zero_moment } in
    let agrees : Agree 6 (intent_fields draft) intent_table c.args.body.now = (sym c.requires, (c.in_ok-what.ensures.1, (c.in_ok-sale.ensures.1, (c.in_ok-poi.ensures.1, (c.in_ok-service.ensures.1, (c.in_ok-transaction.ensures.1, tt)))))) in
    exit _ c.in_err-stamp.field-0.0 _ _ (err_from_is_err_and c.from_residual-in_err-stamp.result c.from_residual-in_err-stamp.ensures.1)
    (intent_fault c.args.body.now 6 _ draft (omega arith) c.in_err-stamp.ensures.0 is agrees (sym c.requires)
    (λ the_record within a. c.in_err-stamp.ensures.1 the_record.stamp (subst (λ w. HasTillText w 35 the_record.stamp) (same_deal the_record.what c.in_ok-what.what _ a.1.0 c.in_ok-what.ensures.1) within.stamp) a.1.1.1.1.1.1.0))

pub returns-in_err-amount : goal.returns-in_err-amount
returns-in_err-amount c =
    let draft : Intent = record { what = c.in_ok-what.what; sale = c.in_ok-sale.sale; poi = c.in_ok-poi.poi; service = c.in_ok-service.service; transaction = c.in_ok-transaction.transaction; stamp = c.in_ok-stamp.stamp; amount = 1; currency = Eur; before = 0; original = blank_original c.in_ok-what.what; moment = pos 0 } in
    let is : IsIntent draft = record { sale = c.in_ok-sale.ensures.0; poi = c.in_ok-poi.ensures.0; service = c.in_ok-service.ensures.0; transaction = c.in_ok-transaction.ensures.0; stamp = c.in_ok-stamp.ensures.0; amount = (omega arith, omega arith); before = omega arith; original = blank_original_is c.in_ok-what.what; moment = zero_moment } in
    let agrees : Agree 7 (intent_fields draft) intent_table c.args.body.now = (sym c.requires, (c.in_ok-what.ensures.1, (c.in_ok-sale.ensures.1, (c.in_ok-poi.ensures.1, (c.in_ok-service.ensures.1, (c.in_ok-transaction.ensures.1, (c.in_ok-stamp.ensures.1, tt))))))) in
    exit _ c.in_err-amount.field-0.0 _ _ (err_from_is_err_and c.from_residual-in_err-amount.result c.from_residual-in_err-amount.ensures.1)
    (intent_fault c.args.body.now 7 _ draft (omega arith) c.in_err-amount.ensures.0 is agrees (sym c.requires)
    (λ the_record within a. c.in_err-amount.ensures.1 the_record.amount within.amount a.1.1.1.1.1.1.1.0))

pub returns-in_err-currency : goal.returns-in_err-currency
returns-in_err-currency c =
    let draft : Intent = record { what = c.in_ok-what.what; sale = c.in_ok-sale.sale; poi = c.in_ok-poi.poi; service = c.in_ok-service.service; transaction = c.in_ok-transaction.transaction; stamp = c.in_ok-stamp.stamp; amount = c.in_ok-amount.amount; currency = Eur; before = 0; original = blank_original c.in_ok-what.what; moment = pos 0 } in
    let is : IsIntent draft = record { sale = c.in_ok-sale.ensures.0; poi = c.in_ok-poi.ensures.0; service = c.in_ok-service.ensures.0; transaction = c.in_ok-transaction.ensures.0; stamp = c.in_ok-stamp.ensures.0; amount = c.in_ok-amount.ensures.0; before = omega arith; original = blank_original_is c.in_ok-what.what; moment = zero_moment } in
    let agrees : Agree 8 (intent_fields draft) intent_table c.args.body.now = (sym c.requires, (c.in_ok-what.ensures.1, (c.in_ok-sale.ensures.1, (c.in_ok-poi.ensures.1, (c.in_ok-service.ensures.1, (c.in_ok-transaction.ensures.1, (c.in_ok-stamp.ensures.1, (c.in_ok-amount.ensures.1, tt)))))))) in
    exit _ c.in_err-currency.field-0.0 _ _ (err_from_is_err_and c.from_residual-in_err-currency.result c.from_residual-in_err-currency.ensures.1)
    (intent_fault c.args.body.now 8 _ draft (omega arith) c.in_err-currency.ensures.0 is agrees (sym c.requires)
    (λ the_record within a. c.in_err-currency.ensures.1 the_record.currency tt a.1.1.1.1.1.1.1.1.0))

pub returns-in_err-before : goal.returns-in_err-before
returns-in_err-before c =
    let draft : Intent = record { what = c.in_ok-what.what; sale = c.in_ok-sale.sale; poi = c.in_ok-poi.poi; service = c.in_ok-service.service; transaction = c.in_ok-transaction.transaction; stamp = c.in_ok-stamp.stamp; amount = c.in_ok-amount.amount; currency = c.in_ok-currency.currency; before = 0; original = blank_original c.in_ok-what.what; moment = pos 0 } in
    let is : IsIntent draft = record { sale = c.in_ok-sale.ensures.0; poi = c.in_ok-poi.ensures.0; service = c.in_ok-service.ensures.0; transaction = c.in_ok-transaction.ensures.0; stamp = c.in_ok-stamp.ensures.0; amount = c.in_ok-amount.ensures.0; before = omega arith; original = blank_original_is c.in_ok-what.what; moment = zero_moment } in
    let agrees : Agree 9 (intent_fields draft) intent_table c.args.body.now = (sym c.requires, (c.in_ok-what.ensures.1, (c.in_ok-sale.ensures.1, (c.in_ok-poi.ensures.1, (c.in_ok-service.ensures.1, (c.in_ok-transaction.ensures.1, (c.in_ok-stamp.ensures.1, (c.in_ok-amount.ensures.1, (c.in_ok-currency.ensures.1, tt))))))))) in
    exit _ c.in_err-before.field-0.0 _ _ (err_from_is_err_and c.from_residual-in_err-before.result c.from_residual-in_err-before.ensures.1)
    (intent_fault c.args.body.now 9 _ draft (omega arith) c.in_err-before.ensures.0 is agrees (sym c.requires)
    (λ the_record within a. c.in_err-before.ensures.1 the_record.before (omega arith, within.before) a.1.1.1.1.1.1.1.1.1.0))

pub returns-in_err-original : goal.returns-in_err-original
returns-in_err-original c =
    let draft : Intent = record { what = c.in_ok-what.what; sale = c.in_ok-sale.sale; poi = c.in_ok-poi.poi; service = c.in_ok-service.service; transaction = c.in_ok-transaction.transaction; stamp = c.in_ok-stamp.stamp; amount = c.in_ok-amount.amount; currency = c.in_ok-currency.currency; before = c.in_ok-before.before; original = blank_original c.in_ok-what.what; moment = pos 0 } in
    let is : IsIntent draft = record { sale = c.in_ok-sale.ensures.0; poi = c.in_ok-poi.ensures.0; service = c.in_ok-service.ensures.0; transaction = c.in_ok-transaction.ensures.0; stamp = c.in_ok-stamp.ensures.0; amount = c.in_ok-amount.ensures.0; before = c.in_ok-before.ensures.0.1; original = blank_original_is c.in_ok-what.what; moment = zero_moment } in
    let agrees : Agree 10 (intent_fields draft) intent_table c.args.body.now = (sym c.requires, (c.in_ok-what.ensures.1, (c.in_ok-sale.ensures.1, (c.in_ok-poi.ensures.1, (c.in_ok-service.ensures.1, (c.in_ok-transaction.ensures.1, (c.in_ok-stamp.ensures.1, (c.in_ok-amount.ensures.1, (c.in_ok-currency.ensures.1, (c.in_ok-before.ensures.1, tt)))))))))) in
    exit _ c.in_err-original.field-0.0 _ _ (err_from_is_err_and c.from_residual-in_err-original.result c.from_residual-in_err-original.ensures.1)
    (intent_fault c.args.body.now 10 _ draft (omega arith) c.in_err-original.ensures.0 is agrees (sym c.requires)
    (λ the_record within a. c.in_err-original.ensures.1 the_record.original (subst (λ w. HasOriginal w the_record.original) (same_deal the_record.what c.in_ok-what.what _ a.1.0 c.in_ok-what.ensures.1) within.original) a.1.1.1.1.1.1.1.1.1.1.0))

pub returns-in_err-moment : goal.returns-in_err-moment
returns-in_err-moment c =
    let draft : Intent = record { what = c.in_ok-what.what; sale = c.in_ok-sale.sale; poi = c.in_ok-poi.poi; service = c.in_ok-service.service; transaction = c.in_ok-transaction.transaction; stamp = c.in_ok-stamp.stamp; amount = c.in_ok-amount.amount; currency = c.in_ok-currency.currency; before = c.in_ok-before.before; original = c.in_ok-original.original; moment = pos 0 } in
    let is : IsIntent draft = record { sale = c.in_ok-sale.ensures.0; poi = c.in_ok-poi.ensures.0; service = c.in_ok-service.ensures.0; transaction = c.in_ok-transaction.ensures.0; stamp = c.in_ok-stamp.ensures.0; amount = c.in_ok-amount.ensures.0; before = c.in_ok-before.ensures.0.1; original = c.in_ok-original.ensures.0; moment = zero_moment } in
    let agrees : Agree 11 (intent_fields draft) intent_table c.args.body.now = (sym c.requires, (c.in_ok-what.ensures.1, (c.in_ok-sale.ensures.1, (c.in_ok-poi.ensures.1, (c.in_ok-service.ensures.1, (c.in_ok-transaction.ensures.1, (c.in_ok-stamp.ensures.1, (c.in_ok-amount.ensures.1, (c.in_ok-currency.ensures.1, (c.in_ok-before.ensures.1, (c.in_ok-original.ensures.1, tt))))))))))) in
    exit _ c.in_err-moment.field-0.0 _ _ (err_from_is_err_and c.from_residual-in_err-moment.result c.from_residual-in_err-moment.ensures.1)
    (intent_fault c.args.body.now 11 _ draft (omega arith) c.in_err-moment.ensures.0 is agrees (sym c.requires)
    (λ the_record within a. c.in_err-moment.ensures.1 the_record.moment within.moment a.1.1.1.1.1.1.1.1.1.1.1.0))

pub returns-in_err-read_zeros : goal.returns-in_err-read_zeros
returns-in_err-read_zeros c =
    let draft : Intent = record { what = c.in_ok-what.what; sale = c.in_ok-sale.sale; poi = c.in_ok-poi.poi; service = c.in_ok-service.service; transaction = c.in_ok-transaction.transaction; stamp = c.in_ok-stamp.stamp; amount = c.in_ok-amount.amount; currency = c.in_ok-currency.currency; before = c.in_ok-before.before; original = c.in_ok-original.original; moment = c.in_ok-moment.moment } in
    let is : IsIntent draft = record { sale = c.in_ok-sale.ensures.0; poi = c.in_ok-poi.ensures.0; service = c.in_ok-service.ensures.0; transaction = c.in_ok-transaction.ensures.0; stamp = c.in_ok-stamp.ensures.0; amount = c.in_ok-amount.ensures.0; before = c.in_ok-before.ensures.0.1; original = c.in_ok-original.ensures.0; moment = c.in_ok-moment.ensures.0 } in
    let agrees : Agree 12 (intent_fields draft) intent_table c.args.body.now = (sym c.requires, (c.in_ok-what.ensures.1, (c.in_ok-sale.ensures.1, (c.in_ok-poi.ensures.1, (c.in_ok-service.ensures.1, (c.in_ok-transaction.ensures.1, (c.in_ok-stamp.ensures.1, (c.in_ok-amount.ensures.1, (c.in_ok-currency.ensures.1, (c.in_ok-before.ensures.1, (c.in_ok-original.ensures.1, (c.in_ok-moment.ensures.1, tt)))))))))))) in
    exit _ c.in_err-read_zeros.field-0.0 _ _ (err_from_is_err_and c.from_residual-in_err-read_zeros.result c.from_residual-in_err-read_zeros.ensures.1)
    (intent_fault c.args.body.now 12 _ draft (omega arith) c.in_err-read_zeros.ensures.0 is agrees (sym c.requires)
    (λ the_record within a. c.in_err-read_zeros.ensures.1 (record {}) tt a.1.1.1.1.1.1.1.1.1.1.1.1.0))

pub returns : goal.returns
returns c =
    let intent : Intent = record { what = c.in_ok-what.what; sale = c.in_ok-sale.sale; poi = c.in_ok-poi.poi; service = c.in_ok-service.service; transaction = c.in_ok-transaction.transaction; stamp = c.in_ok-stamp.stamp; amount = c.in_ok-amount.amount; currency = c.in_ok-currency.currency; before = c.in_ok-before.before; original = c.in_ok-original.original; moment = c.in_ok-moment.moment } in
    let is : IsIntent intent = record { sale = c.in_ok-sale.ensures.0; poi = c.in_ok-poi.ensures.0; service = c.in_ok-service.ensures.0; transaction = c.in_ok-transaction.ensures.0; stamp = c.in_ok-stamp.ensures.0; amount = c.in_ok-amount.ensures.0; before = c.in_ok-before.ensures.0.1; original = c.in_ok-original.ensures.0; moment = c.in_ok-moment.ensures.0 } in
    let agrees : Agree 13 (intent_fields intent) intent_table c.args.body.now = (sym c.requires, (c.in_ok-what.ensures.1, (c.in_ok-sale.ensures.1, (c.in_ok-poi.ensures.1, (c.in_ok-service.ensures.1, (c.in_ok-transaction.ensures.1, (c.in_ok-stamp.ensures.1, (c.in_ok-amount.ensures.1, (c.in_ok-currency.ensures.1, (c.in_ok-before.ensures.1, (c.in_ok-original.ensures.1, (c.in_ok-moment.ensures.1, (c.in_ok-read_zeros.ensures.1, tt))))))))))))) in
    let P : ℤ → Type 0 = λ moment. IsIntent (record intent { moment = moment })
    × Agree 13 (intent_fields (record intent { moment = moment })) intent_table c.args.body.now in
    subst P (sym (moment_back c.in_ok-moment.moment c.in_ok-moment.ensures.0)) (is, agrees)
