-- Proof of the contract of `read_outcome`.
use Rattle.std.proofs.Common.{arith, sym, subst, pos, true}
use Rattle.std.proofs.lemmas.Result.{err_from_is_err_and}
use Rattle.jrn_record.specs.Limits.{HasReason, IsOutcome, IsPresentWithin}
use Rattle.jrn_record.specs.Grammar.{outcome_fields}
use Rattle.jrn_record.specs.Table.{Agree, outcome_table}
use Rattle.jrn_record.specs.declared.records.Outcome.{Outcome}
use Rattle.jrn_record.proofs.ReadLemmas.{blank_reason, blank_reason_is, blank_number, blank_number_is, exit, outcome_fault, same_approval, zero_moment, zero_number_is}
use Rattle.jrn_record.proofs.read.read_outcome.Goals as goal

pub returns-in_err-approved : goal.returns-in_err-approved
returns-in_err-approved c =
    let draft : Outcome = record { approved = true; slot = 0; number = blank_number true; receipt = 0; amount = blank_number true; condition = blank_reason true; moment = pos 0 } in
    let is : IsOutcome draft = record { slot = omega arith; number = blank_number_is true 999999 (omega arith); receipt = zero_number_is true 9999; amount = blank_number_is true 999999999999 (omega arith); condition = blank_reason_is true; moment = zero_moment } in
    let agrees : Agree 1 (outcome_fields draft) outcome_table c.args.body.now = (sym c.requires, tt) in
    exit _ c.in_err-approved.field-0.0 _ _ (err_from_is_err_and c.from_residual.result c.from_residual.ensures.1)
    (outcome_fault c.args.body.now 1 _ draft (omega arith) c.in_err-approved.ensures.0 is agrees (sym c.requires)
    (λ the_record within a. c.in_err-approved.ensures.1 the_record.approved tt a.1.0))

pub returns-in_err-trace : goal.returns-in_err-trace
returns-in_err-trace c =
    let draft : Outcome = record { approved = c.in_ok-approved.approved; slot = c.slot_at-slot.result; number = blank_number c.in_ok-approved.approved; receipt = 0; amount = blank_number c.in_ok-approved.approved; condition = blank_reason c.in_ok-approved.approved; moment = pos 0 } in
    let is : IsOutcome draft = record { slot = c.slot_at-slot.ensures.fits; number = blank_number_is c.in_ok-approved.approved 999999 (omega arith); receipt = zero_number_is c.in_ok-approved.approved 9999; amount = blank_number_is c.in_ok-approved.approved 999999999999 (omega arith); condition = blank_reason_is c.in_ok-approved.approved; moment = zero_moment } in
    let agrees : Agree 3 (outcome_fields draft) outcome_table c.args.body.now = (sym c.requires, (c.in_ok-approved.ensures.1, (c.slot_at-slot.ensures.value, tt))) in
    exit _ c.in_err-trace.field-0.0 _ _ (err_from_is_err_and c.from_residual-in_err-trace.result c.from_residual-in_err-trace.ensures.1)
    (outcome_fault c.args.body.now 3 _ draft (omega arith) c.in_err-trace.ensures.0 is agrees (sym c.requires)
    (λ the_record within a. c.in_err-trace.ensures.1 the_record.number (subst (λ approved. IsPresentWithin approved 1 999999 the_record.number) (same_approval the_record.approved c.in_ok-approved.approved _ a.1.0 c.in_ok-approved.ensures.1) within.number) a.1.1.1.0))

pub returns-in_err-receipt : goal.returns-in_err-receipt
returns-in_err-receipt c =
    let draft : Outcome = record { approved = c.in_ok-approved.approved; slot = c.slot_at-slot.result; number = c.in_ok-trace.trace; receipt = 0; amount = blank_number c.in_ok-approved.approved; condition = blank_reason c.in_ok-approved.approved; moment = pos 0 } in
    let is : IsOutcome draft = record { slot = c.slot_at-slot.ensures.fits; number = c.in_ok-trace.ensures.0; receipt = zero_number_is c.in_ok-approved.approved 9999; amount = blank_number_is c.in_ok-approved.approved 999999999999 (omega arith); condition = blank_reason_is c.in_ok-approved.approved; moment = zero_moment } in
    let agrees : Agree 4 (outcome_fields draft) outcome_table c.args.body.now = (sym c.requires, (c.in_ok-approved.ensures.1, (c.slot_at-slot.ensures.value, (c.in_ok-trace.ensures.1, tt)))) in
    exit _ c.in_err-receipt.field-0.0 _ _ (err_from_is_err_and c.from_residual-in_err-receipt.result c.from_residual-in_err-receipt.ensures.1)
    (outcome_fault c.args.body.now 4 _ draft (omega arith) c.in_err-receipt.ensures.0 is agrees (sym c.requires)
    (λ the_record within a. c.in_err-receipt.ensures.1 the_record.receipt (subst (λ approved. IsPresentWithin approved 0 9999 the_record.receipt) (same_approval the_record.approved c.in_ok-approved.approved _ a.1.0 c.in_ok-approved.ensures.1) within.receipt) a.1.1.1.1.0))

pub returns-in_err-amount : goal.returns-in_err-amount
returns-in_err-amount c =
    let draft : Outcome = record { approved = c.in_ok-approved.approved; slot = c.slot_at-slot.result; number = c.in_ok-trace.trace; receipt = c.in_ok-receipt.receipt; amount = blank_number c.in_ok-approved.approved; condition = blank_reason c.in_ok-approved.approved; moment = pos 0 } in
    let is : IsOutcome draft = record { slot = c.slot_at-slot.ensures.fits; number = c.in_ok-trace.ensures.0; receipt = c.in_ok-receipt.ensures.0; amount = blank_number_is c.in_ok-approved.approved 999999999999 (omega arith); condition = blank_reason_is c.in_ok-approved.approved; moment = zero_moment } in
    let agrees : Agree 5 (outcome_fields draft) outcome_table c.args.body.now = (sym c.requires, (c.in_ok-approved.ensures.1, (c.slot_at-slot.ensures.value, (c.in_ok-trace.ensures.1, (c.in_ok-receipt.ensures.1, tt))))) in
    exit _ c.in_err-amount.field-0.0 _ _ (err_from_is_err_and c.from_residual-in_err-amount.result c.from_residual-in_err-amount.ensures.1)
    (outcome_fault c.args.body.now 5 _ draft (omega arith) c.in_err-amount.ensures.0 is agrees (sym c.requires)
    (λ the_record within a. c.in_err-amount.ensures.1 the_record.amount (subst (λ approved. IsPresentWithin approved 1 999999999999 the_record.amount) (same_approval the_record.approved c.in_ok-approved.approved _ a.1.0 c.in_ok-approved.ensures.1) within.amount) a.1.1.1.1.1.0))

pub returns-in_err-condition : goal.returns-in_err-condition
returns-in_err-condition c =
    let draft : Outcome = record { approved = c.in_ok-approved.approved; slot = c.slot_at-slot.result; number = c.in_ok-trace.trace; receipt = c.in_ok-receipt.receipt; amount = c.in_ok-amount.amount; condition = blank_reason c.in_ok-approved.approved; moment = pos 0 } in
    let is : IsOutcome draft = record { slot = c.slot_at-slot.ensures.fits; number = c.in_ok-trace.ensures.0; receipt = c.in_ok-receipt.ensures.0; amount = c.in_ok-amount.ensures.0; condition = blank_reason_is c.in_ok-approved.approved; moment = zero_moment } in
    let agrees : Agree 6 (outcome_fields draft) outcome_table c.args.body.now = (sym c.requires, (c.in_ok-approved.ensures.1, (c.slot_at-slot.ensures.value, (c.in_ok-trace.ensures.1, (c.in_ok-receipt.ensures.1, (c.in_ok-amount.ensures.1, tt)))))) in
    exit _ c.in_err-condition.field-0.0 _ _ (err_from_is_err_and c.from_residual-in_err-condition.result c.from_residual-in_err-condition.ensures.1)
    (outcome_fault c.args.body.now 6 _ draft (omega arith) c.in_err-condition.ensures.0 is agrees (sym c.requires)
    (λ the_record within a. c.in_err-condition.ensures.1 the_record.condition (subst (λ approved. HasReason approved the_record.condition) (same_approval the_record.approved c.in_ok-approved.approved _ a.1.0 c.in_ok-approved.ensures.1) within.condition) a.1.1.1.1.1.1.0))

pub returns-in_err-moment : goal.returns-in_err-moment
returns-in_err-moment c =
    let draft : Outcome = record { approved = c.in_ok-approved.approved; slot = c.slot_at-slot.result; number = c.in_ok-trace.trace; receipt = c.in_ok-receipt.receipt; amount = c.in_ok-amount.amount; condition = c.in_ok-condition.condition; moment = pos 0 } in
    let is : IsOutcome draft = record { slot = c.slot_at-slot.ensures.fits; number = c.in_ok-trace.ensures.0; receipt = c.in_ok-receipt.ensures.0; amount = c.in_ok-amount.ensures.0; condition = c.in_ok-condition.ensures.0; moment = zero_moment } in
    let agrees : Agree 7 (outcome_fields draft) outcome_table c.args.body.now = (sym c.requires, (c.in_ok-approved.ensures.1, (c.slot_at-slot.ensures.value, (c.in_ok-trace.ensures.1, (c.in_ok-receipt.ensures.1, (c.in_ok-amount.ensures.1, (c.in_ok-condition.ensures.1, tt))))))) in
    exit _ c.in_err-moment.field-0.0 _ _ (err_from_is_err_and c.from_residual-in_err-moment.result c.from_residual-in_err-moment.ensures.1)
    (outcome_fault c.args.body.now 7 _ draft (omega arith) c.in_err-moment.ensures.0 is agrees (sym c.requires)
    (λ the_record within a. c.in_err-moment.ensures.1 the_record.moment within.moment a.1.1.1.1.1.1.1.0))

pub returns-in_err-read_zeros : goal.returns-in_err-read_zeros
returns-in_err-read_zeros c =
    let draft : Outcome = record { approved = c.in_ok-approved.approved; slot = c.slot_at-slot.result; number = c.in_ok-trace.trace; receipt = c.in_ok-receipt.receipt; amount = c.in_ok-amount.amount; condition = c.in_ok-condition.condition; moment = c.in_ok-moment.moment } in
    let is : IsOutcome draft = record { slot = c.slot_at-slot.ensures.fits; number = c.in_ok-trace.ensures.0; receipt = c.in_ok-receipt.ensures.0; amount = c.in_ok-amount.ensures.0; condition = c.in_ok-condition.ensures.0; moment = c.in_ok-moment.ensures.0 } in
    let agrees : Agree 8 (outcome_fields draft) outcome_table c.args.body.now = (sym c.requires, (c.in_ok-approved.ensures.1, (c.slot_at-slot.ensures.value, (c.in_ok-trace.ensures.1, (c.in_ok-receipt.ensures.1, (c.in_ok-amount.ensures.1, (c.in_ok-condition.ensures.1, (c.in_ok-moment.ensures.1, tt)))))))) in
    exit _ c.in_err-read_zeros.field-0.0 _ _ (err_from_is_err_and c.from_residual-in_err-read_zeros.result c.from_residual-in_err-read_zeros.ensures.1)
    (outcome_fault c.args.body.now 8 _ draft (omega arith) c.in_err-read_zeros.ensures.0 is agrees (sym c.requires)
    (λ the_record within a. c.in_err-read_zeros.ensures.1 (record {}) tt a.1.1.1.1.1.1.1.1.0))
