-- What the loop of `check_each` keeps.
use Rattle.std.proofs.Common.{map, drop}
use Rattle.json_text.specs.ValueOf.{value_of}
use Rattle.sale_msg.specs.inner.RowValue.{row_value}
use Rattle.sale_msg.proofs.RowLemmas.{LeadsToEach}
use Rattle.sale_msg.proofs.check.check_each.Given as goal

abbrev pub invariant-loop-part : goal.invariant-loop-part
invariant-loop-part l = LeadsToEach (map row_value l.rows) (map value_of (drop l.part-index l.parts)) (map value_of l.parts)
