-- Proof of the contract of `new_terminals`.
use Rattle.gw_owes.specs.Core.{new_terminal}
use Rattle.gw_core.proofs.CoreLemmas.{mapped-more}
use Rattle.gw_core.proofs.terminals.new_terminals.Goals as goal

pub loop-pt-preserved : goal.loop-pt-preserved
loop-pt-preserved c =
    mapped-more new_terminal c.as_slice-pt-items.result.now c.loop-pt.pt-index c.pt-item.result c.in_ok-new_terminal.field-0 c.loop-pt.terminals.items c.push.new.self.items
    c.loop-pt-test.true c.pt-item.is c.loop-pt.invariant c.in_ok-new_terminal.ensures (c.in_ok-push.ensures).items
