-- Proof of the contract of `open`.
use Rattle.std.proofs.lemmas.List.{length-map}
use Rattle.gw_core.proofs.CoreLemmas.{new-have-settings, zero-least}
use Rattle.gw_core.proofs.terminals.Core.open.Goals as goal

pub invariant_of-result : goal.invariant_of-result
invariant_of-result c =
    rw c.in_ok-terminals.ensures (rw length-map c.requires.count, new-have-settings c.args.setup.now.terminals c.requires.each, zero-least)
