-- Proof of the contract of `slots`.
use Rattle.std.proofs.Common.{◌∙◌, ap, arith, map}
use Rattle.std.proofs.lemmas.List.{take_all}
use Rattle.gw_ledger.specs.declared.sorted.ShortRow.{ShortRow}
use Rattle.gw_ledger.specs.KeyTable.{slots_in}
use Rattle.gw_ledger.proofs.ShortLemmas.{short_slots}
use Rattle.gw_ledger.proofs.sorted.SortedKeys.slots.Goals as goal

pub returns : goal.returns
returns c =
    c.loop-row.invariant
    ∙ ap (map (λ (row : ShortRow). row.slot)) (take_all c.loop-row.row-index c.deref-row-items.result.now (omega (arith, c.loop-row-test.false)) ∙ c.deref-row-items.ensures.value)
    ∙ short_slots c.self.inside.pairs.items c.self.inside.rows.items ∙ ap slots_in c.self.view_is
