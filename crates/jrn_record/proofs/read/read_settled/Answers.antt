-- Proof of the contract of `read_settled`.
use Rattle.std.proofs.Common.{arith, sym, pos}
use Rattle.std.proofs.lemmas.Result.{err_from_is_err_and}
use Rattle.gw_base.specs.declared.currency.Currency.TheVariants.{Eur}
use Rattle.jrn_record.specs.Limits.{IsSettled}
use Rattle.jrn_record.specs.Grammar.{settled_fields}
use Rattle.jrn_record.specs.Table.{Agree, settled_table}
use Rattle.jrn_record.specs.declared.records.Settled.{Settled}
use Rattle.jrn_record.specs.declared.records.How.TheVariants.{Sale}
use Rattle.jrn_record.proofs.ReadLemmas.{blank, blank_is, exit, settled_fault, zero_moment}
use Rattle.jrn_record.proofs.read.read_settled.Goals as goal

pub returns-in_err-how : goal.returns-in_err-how
returns-in_err-how c =
    let draft : Settled = record { how = Sale; sale = blank; poi = blank; service = blank; currency = Eur; moment = pos 0 } in
    let is : IsSettled draft = record { sale = blank_is 40 (omega arith); poi = blank_is 40 (omega arith); service = blank_is 10 (omega arith); moment = zero_moment } in
    let agrees : Agree 1 (settled_fields draft) settled_table c.args.body.now = (sym c.requires, tt) in
    exit _ c.in_err-how.field-0.0 _ _ (err_from_is_err_and c.from_residual.result c.from_residual.ensures.1)
    (settled_fault c.args.body.now 1 _ draft (omega arith) c.in_err-how.ensures.0 is agrees (sym c.requires)
    (λ the_record within a. c.in_err-how.ensures.1 the_record.how tt a.1.0))

pub returns-in_err-sale : goal.returns-in_err-sale
returns-in_err-sale c =
    let draft : Settled = record { how = c.in_ok-how.how; sale = blank; poi = blank; service = blank; currency = Eur; moment = pos 0 } in
    let is : IsSettled draft = record { sale = blank_is 40 (omega arith); poi = blank_is 40 (omega arith); service = blank_is 10 (omega arith); moment = zero_moment } in
    let agrees : Agree 2 (settled_fields draft) settled_table c.args.body.now = (sym c.requires, (c.in_ok-how.ensures.1, tt)) in
    exit _ c.in_err-sale.field-0.0 _ _ (err_from_is_err_and c.from_residual-in_err-sale.result c.from_residual-in_err-sale.ensures.1)
    (settled_fault c.args.body.now 2 _ draft (omega arith) c.in_err-sale.ensures.0 is agrees (sym c.requires)
    (λ the_record within a. c.in_err-sale.ensures.1 the_record.sale within.sale a.1.1.0))

pub returns-in_err-poi : goal.returns-in_err-poi
returns-in_err-poi c =
    let draft : Settled = record { how = c.in_ok-how.how; sale = c.in_ok-sale.sale; poi = blank; service = blank; currency = Eur; moment = pos 0 } in
    let is : IsSettled draft = record { sale = c.in_ok-sale.ensures.0; poi = blank_is 40 (omega arith); service = blank_is 10 (omega arith); moment = zero_moment } in
    let agrees : Agree 3 (settled_fields draft) settled_table c.args.body.now = (sym c.requires, (c.in_ok-how.ensures.1, (c.in_ok-sale.ensures.1, tt))) in
    exit _ c.in_err-poi.field-0.0 _ _ (err_from_is_err_and c.from_residual-in_err-poi.result c.from_residual-in_err-poi.ensures.1)
    (settled_fault c.args.body.now 3 _ draft (omega arith) c.in_err-poi.ensures.0 is agrees (sym c.requires)
    (λ the_record within a. c.in_err-poi.ensures.1 the_record.poi within.poi a.1.1.1.0))

pub returns-in_err-service : goal.returns-in_err-service
returns-in_err-service c =
    let draft : Settled = record { how = c.in_ok-how.how; sale = c.in_ok-sale.sale; poi = c.in_ok-poi.poi; service = blank; currency = Eur; moment = pos 0 } in
    let is : IsSettled draft = record { sale = c.in_ok-sale.ensures.0; poi = c.in_ok-poi.ensures.0; service = blank_is 10 (omega arith); moment = zero_moment } in
    let agrees : Agree 4 (settled_fields draft) settled_table c.args.body.now = (sym c.requires, (c.in_ok-how.ensures.1, (c.in_ok-sale.ensures.1, (c.in_ok-poi.ensures.1, tt)))) in
    exit _ c.in_err-service.field-0.0 _ _ (err_from_is_err_and c.from_residual-in_err-service.result c.from_residual-in_err-service.ensures.1)
    (settled_fault c.args.body.now 4 _ draft (omega arith) c.in_err-service.ensures.0 is agrees (sym c.requires)
    (λ the_record within a. c.in_err-service.ensures.1 the_record.service within.service a.1.1.1.1.0))

pub returns-in_err-currency : goal.returns-in_err-currency
returns-in_err-currency c =
    let draft : Settled = record { how = c.in_ok-how.how; sale = c.in_ok-sale.sale; poi = c.in_ok-poi.poi; service = c.in_ok-service.service; currency = Eur; moment = pos 0 } in
    let is : IsSettled draft = record { sale = c.in_ok-sale.ensures.0; poi = c.in_ok-poi.ensures.0; service = c.in_ok-service.ensures.0; moment = zero_moment } in
    let agrees : Agree 5 (settled_fields draft) settled_table c.args.body.now = (sym c.requires, (c.in_ok-how.ensures.1, (c.in_ok-sale.ensures.1, (c.in_ok-poi.ensures.1, (c.in_ok-service.ensures.1, tt))))) in
    exit _ c.in_err-currency.field-0.0 _ _ (err_from_is_err_and c.from_residual-in_err-currency.result c.from_residual-in_err-currency.ensures.1)
    (settled_fault c.args.body.now 5 _ draft (omega arith) c.in_err-currency.ensures.0 is agrees (sym c.requires)
    (λ the_record within a. c.in_err-currency.ensures.1 the_record.currency tt a.1.1.1.1.1.0))

pub returns-in_err-moment : goal.returns-in_err-moment
returns-in_err-moment c =
    let draft : Settled = record { how = c.in_ok-how.how; sale = c.in_ok-sale.sale; poi = c.in_ok-poi.poi; service = c.in_ok-service.service; currency = c.in_ok-currency.currency; moment = pos 0 } in
    let is : IsSettled draft = record { sale = c.in_ok-sale.ensures.0; poi = c.in_ok-poi.ensures.0; service = c.in_ok-service.ensures.0; moment = zero_moment } in
    let agrees : Agree 6 (settled_fields draft) settled_table c.args.body.now = (sym c.requires, (c.in_ok-how.ensures.1, (c.in_ok-sale.ensures.1, (c.in_ok-poi.ensures.1, (c.in_ok-service.ensures.1, (c.in_ok-currency.ensures.1, tt)))))) in
    exit _ c.in_err-moment.field-0.0 _ _ (err_from_is_err_and c.from_residual-in_err-moment.result c.from_residual-in_err-moment.ensures.1)
    (settled_fault c.args.body.now 6 _ draft (omega arith) c.in_err-moment.ensures.0 is agrees (sym c.requires)
    (λ the_record within a. c.in_err-moment.ensures.1 the_record.moment within.moment a.1.1.1.1.1.1.0))

pub returns-in_err-read_zeros : goal.returns-in_err-read_zeros
returns-in_err-read_zeros c =
    let draft : Settled = record { how = c.in_ok-how.how; sale = c.in_ok-sale.sale; poi = c.in_ok-poi.poi; service = c.in_ok-service.service; currency = c.in_ok-currency.currency; moment = c.in_ok-moment.moment } in
    let is : IsSettled draft = record { sale = c.in_ok-sale.ensures.0; poi = c.in_ok-poi.ensures.0; service = c.in_ok-service.ensures.0; moment = c.in_ok-moment.ensures.0 } in
    let agrees : Agree 7 (settled_fields draft) settled_table c.args.body.now = (sym c.requires, (c.in_ok-how.ensures.1, (c.in_ok-sale.ensures.1, (c.in_ok-poi.ensures.1, (c.in_ok-service.ensures.1, (c.in_ok-currency.ensures.1, (c.in_ok-moment.ensures.1, tt))))))) in
    exit _ c.in_err-read_zeros.field-0.0 _ _ (err_from_is_err_and c.from_residual-in_err-read_zeros.result c.from_residual-in_err-read_zeros.ensures.1)
    (settled_fault c.args.body.now 7 _ draft (omega arith) c.in_err-read_zeros.ensures.0 is agrees (sym c.requires)
    (λ the_record within a. c.in_err-read_zeros.ensures.1 (record {}) tt a.1.1.1.1.1.1.1.0))
