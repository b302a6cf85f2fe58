-- Proof of the contract of `check_row`.
use Rattle.std.proofs.Common.{sym, ◌∙◌, true≢false}
use Rattle.json_text.specs.ValueOf.{value_of}
use Rattle.sale_msg.specs.inner.RowValue.{row_value}
use Rattle.sale_msg.proofs.RowLemmas.{met_absent, met_there, flaw_absent, flaw_there}
use Rattle.sale_msg.proofs.check.check_row.Goals as goal

pub returns-then-may_be_absent : goal.returns-then-may_be_absent
returns-then-may_be_absent c =
    let absent = c.in-None.ensures ∙ c.requires.parent in
    (met_absent (row_value c.args.row.now) (value_of c.args.tree.now) absent (c.may_be_absent.ensures.0 c.if-may_be_absent.true), absent)

pub returns-else-may_be_absent : goal.returns-else-may_be_absent
returns-else-may_be_absent c =
    flaw_absent (row_value c.args.row.now) (value_of c.args.tree.now) c.reported_path.result (c.in-None.ensures ∙ c.requires.parent)
    (λ h. true≢false (sym (c.may_be_absent.ensures.1 h) ∙ c.if-may_be_absent.false)) c.reported_path.ensures

pub returns-then-has_form : goal.returns-then-has_form
returns-then-has_form c =
    let there = c.in-Some.ensures ∙ c.requires.parent in
    (met_there (row_value c.args.row.now) (value_of c.args.tree.now) (value_of c.in-Some.value.now) there (c.has_form.ensures.0 c.if-has_form.true), there)

pub returns-else-has_form : goal.returns-else-has_form
returns-else-has_form c =
    flaw_there (row_value c.args.row.now) (value_of c.args.tree.now) (value_of c.in-Some.value.now) c.reported_path-else-has_form.result
    (c.in-Some.ensures ∙ c.requires.parent)
    (λ h. true≢false (sym (c.has_form.ensures.1 h) ∙ c.if-has_form.false)) c.reported_path-else-has_form.ensures
