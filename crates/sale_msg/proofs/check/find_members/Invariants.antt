-- What the loop of `find_members` keeps.
use Rattle.std.proofs.Common.{◌≡◌, map, drop, true}
use Rattle.json_text.specs.ValueOf.{value_of}
use Rattle.sale_msg.specs.inner.RowValue.{have_parents, member_value, row_value}
use Rattle.sale_msg.proofs.LinkLemmas.{names_before, values_under}
use Rattle.sale_msg.proofs.RowLemmas.{LeadsTo}
use Rattle.sale_msg.proofs.check.find_members.Given as goal

abbrev pub invariant-loop-row : goal.invariant-loop-row
invariant-loop-row l = record {
  leads : LeadsTo (map row_value (drop l.row-index l.rows)) (map row_value l.rows) (value_of l.tree);
  linked : have_parents (names_before l.rows l.row-index) (drop l.row-index l.rows) ≡ true;
  found : map member_value l.found.items ≡ values_under (names_before l.rows l.row-index) (value_of l.tree);
}
