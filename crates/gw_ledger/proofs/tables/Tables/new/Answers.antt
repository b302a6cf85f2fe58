-- Proof of the contract of `new`.
use Rattle.std.proofs.Common.{arith}
use Rattle.gw_ledger.proofs.EmptyLemmas.{tables_empty}
use Rattle.gw_ledger.proofs.tables.Tables.new.Goals as goal

pub invariant_of-result : goal.invariant_of-result
invariant_of-result c = (
  rw (c.new.ensures, c.new-2.ensures.items, c.new-3.ensures.items, c.new-4.ensures.items, c.new-5.ensures.items) tables_empty,
  record {
    for_slots = omega arith;
    for_intents = omega arith;
    for_outcomes = omega arith;
    for_reconciliations = omega arith;
    for_marks = omega (arith, c.new-2.ensures.len);
    for_lasts = omega (arith, c.new-3.ensures.len);
    for_desks = omega (arith, c.new-4.ensures.len);
    for_closings = omega (arith, c.new-5.ensures.len);
  },
)
