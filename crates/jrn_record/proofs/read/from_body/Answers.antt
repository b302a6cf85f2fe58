-- Proof of the contract of `from_body`.
use Rattle.std.proofs.Common.{refl, sym, arith}
use Rattle.jrn_record.specs.Grammar.{intent_fields, outcome_fields, settled_fields}
use Rattle.jrn_record.specs.Table.{intent_table, outcome_table, settled_table}
use Rattle.jrn_record.proofs.ReadLemmas.{no_kind}
use Rattle.jrn_record.proofs.BodyLemmas.{joined-agree}
use Rattle.jrn_record.proofs.read.from_body.Goals as goal

pub returns-in_ok-read_intent-in-1 : goal.returns-in_ok-read_intent-in-1
returns-in_ok-read_intent-in-1 c = (
  c.in_ok-read_intent-in-1.ensures.0,
  sym (joined-agree (intent_fields c.in_ok-read_intent-in-1.field-0) intent_table 0 255 c.args.body.now refl
      (refl, (refl, (refl, (refl, (refl, (refl, (refl, (refl, (refl, (refl, (refl, (refl, (refl, refl))))))))))))) c.in_ok-read_intent-in-1.ensures.1 c.told-body),
)

pub returns-in_ok-read_outcome-in-2 : goal.returns-in_ok-read_outcome-in-2
returns-in_ok-read_outcome-in-2 c = (
  c.in_ok-read_outcome-in-2.ensures.0,
  sym (joined-agree (outcome_fields c.in_ok-read_outcome-in-2.field-0) outcome_table 0 255 c.args.body.now refl
      (refl, (refl, (refl, (refl, (refl, (refl, (refl, (refl, (refl, refl))))))))) c.in_ok-read_outcome-in-2.ensures.1 c.told-body),
)

pub returns-in_ok-read_settled-in-3 : goal.returns-in_ok-read_settled-in-3
returns-in_ok-read_settled-in-3 c = (
  c.in_ok-read_settled-in-3.ensures.0,
  sym (joined-agree (settled_fields c.in_ok-read_settled-in-3.field-0) settled_table 0 255 c.args.body.now refl
      (refl, (refl, (refl, (refl, (refl, (refl, (refl, (refl, refl)))))))) c.in_ok-read_settled-in-3.ensures.1 c.told-body),
)

pub returns-in_default : goal.returns-in_default
returns-in_default c = no_kind c.args.body.now c.told-body (λ e. absurd (omega (arith, e))) (λ e. absurd (omega (arith, e))) (λ e. absurd (omega (arith, e)))
