-- Proof of the contract of `find_members`.
use Rattle.std.proofs.Common.{map, add-one, ap, drop, get_or, suc}
use Rattle.std.proofs.lemmas.List.{drop_all}
use Rattle.std.proofs.lemmas.Result.{err_from_is_err_and}
use Rattle.json_text.specs.ValueOf.{value_of}
use Rattle.sale_msg.specs.inner.RowValue.{member_value, row_value}
use Rattle.sale_msg.proofs.LinkLemmas.{linked_next, member_found, names_before, parent_inside, row_linked, values_end, values_next}
use Rattle.sale_msg.proofs.RowLemmas.{leads_next, leads_flaw, leads_end}
use Rattle.sale_msg.proofs.check.find_members.Goals as goal

pub check_row-requires-clause-inside : goal.check_row-requires-clause-inside
check_row-requires-clause-inside c =
    rw c.as_slice.ensures.value
    (parent_inside member_value c.loop-row.found.items (names_before c.args.rows.now c.loop-row.row-index) (get_or c.args.rows.now c.loop-row.row-index _)
    (drop (suc c.loop-row.row-index) c.args.rows.now) (value_of c.args.tree.now)
    (row_linked c.args.rows.now c.loop-row.row-index _ c.loop-row-test.true c.loop-row.invariant.linked) c.loop-row.invariant.found)

pub check_row-requires-clause-parent : goal.check_row-requires-clause-parent
check_row-requires-clause-parent c =
    rw c.as_slice.ensures.value
    (member_found (names_before c.args.rows.now c.loop-row.row-index) (get_or c.args.rows.now c.loop-row.row-index _)
    (drop (suc c.loop-row.row-index) c.args.rows.now) (value_of c.args.tree.now) (map member_value c.loop-row.found.items)
    (row_linked c.args.rows.now c.loop-row.row-index _ c.loop-row-test.true c.loop-row.invariant.linked) c.loop-row.invariant.found)

pub loop-row-preserved : goal.loop-row-preserved
loop-row-preserved c = record {
  leads =
      rw add-one
      (leads_next c.args.rows.now (map row_value c.args.rows.now) (value_of c.args.tree.now) c.loop-row.row-index _ c.loop-row-test.true
      c.in_ok-member.ensures.0 c.loop-row.invariant.leads);
  linked = linked_next c.args.rows.now c.loop-row.row-index c.loop-row-test.true c.loop-row.invariant.linked;
  found =
      rw c.push-in-loop-row.ensures.items
      (values_next member_value c.loop-row.found.items c.in_ok-member.member c.args.rows.now c.loop-row.row-index _ (value_of c.args.tree.now)
      c.loop-row-test.true c.loop-row.invariant.found c.in_ok-member.ensures.1);
}

pub returns-in_err-member : goal.returns-in_err-member
returns-in_err-member c =
    let p = err_from_is_err_and c.from_residual.result c.from_residual.ensures.1 in
    rw (p.1, p.2)
    (leads_flaw c.args.rows.now (map row_value c.args.rows.now) (value_of c.args.tree.now) c.loop-row.row-index _ c.in_err-member.field-0.0
    c.loop-row-test.true c.in_err-member.ensures c.loop-row.invariant.leads)

pub returns : goal.returns
returns c = record {
  met = leads_end (map row_value c.args.rows.now) (value_of c.args.tree.now) (map row_value (drop c.loop-row.row-index c.args.rows.now))
      (ap (map row_value) (drop_all c.loop-row.row-index c.args.rows.now c.loop-row-test.false)) c.loop-row.invariant.leads;
  are = values_end (map member_value c.loop-row.found.items) c.args.rows.now c.loop-row.row-index (value_of c.args.tree.now) c.loop-row-test.false c.loop-row.invariant.found;
}
