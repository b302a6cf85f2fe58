-- Proof of the contract of `check_each`.
use Rattle.std.proofs.Common.{map, add-one, ap, drop}
use Rattle.std.proofs.lemmas.List.{drop_all}
use Rattle.std.proofs.lemmas.Result.{err_from_is_err_and}
use Rattle.json_text.specs.ValueOf.{value_of}
use Rattle.sale_msg.specs.inner.RowValue.{row_value}
use Rattle.sale_msg.proofs.RowLemmas.{each_all, each_next, each_flaw, each_end}
use Rattle.sale_msg.proofs.check.check_each.Goals as goal

pub loop-part-init : goal.loop-part-init
loop-part-init c = each_all (map row_value c.args.rows.now) (map value_of c.args.parts.now)

pub loop-part-preserved : goal.loop-part-preserved
loop-part-preserved c =
    rw add-one
    (each_next (map row_value c.args.rows.now) value_of c.args.parts.now (map value_of c.args.parts.now) c.loop-part.part-index c.part-item.result c.loop-part-test.true c.part-item.is
    c.in_ok-find_members.ensures.met c.loop-part.invariant)

pub returns-in_err-find_members : goal.returns-in_err-find_members
returns-in_err-find_members c =
    let p = err_from_is_err_and c.from_residual.result c.from_residual.ensures.1 in
    rw (p.1, p.2)
    (each_flaw (map row_value c.args.rows.now) value_of c.args.parts.now (map value_of c.args.parts.now) c.loop-part.part-index c.part-item.result c.in_err-find_members.field-0.0
    c.loop-part-test.true c.part-item.is c.in_err-find_members.ensures c.loop-part.invariant)

pub returns : goal.returns
returns c =
    each_end (map row_value c.args.rows.now) (map value_of (drop c.loop-part.part-index c.args.parts.now)) (map value_of c.args.parts.now)
    (ap (map value_of) (drop_all c.loop-part.part-index c.args.parts.now c.loop-part-test.false)) c.loop-part.invariant
