-- Proof of the contract of `wish_stop`.
use Rattle.std.proofs.Common.{subst}
use Rattle.gw_owes.specs.Row.{Row}
use Rattle.gw_owes.specs.Terminals.{with_terminal}
use Rattle.gw_core.specs.IsRow.{IsRow, alone, known_with}
use Rattle.gw_core.proofs.StopLemmas.{wish-kept, wish-sent}
use Rattle.gw_core.proofs.stops.wish_stop.Goals as goal

pub returns-then-wish-clause-row : goal.returns-then-wish-clause-row
returns-then-wish-clause-row c = λ setup kept core moment found.
    subst (λ (row : Row). IsRow kept row (with_terminal core c.args.pt c.stop.new.terminal) (alone c.stop.result))
    (wish-sent (known_with setup kept core moment) c.args.pt c.args.terminal.now c.args.terminal.now.talk c.wish.new.talk c.wish.result c.wish.ensures.sent c.if-wish.true c.wish.ensures.next)
    (c.stop.ensures.row setup kept core moment)

pub returns-else-wish-clause-row : goal.returns-else-wish-clause-row
returns-else-wish-clause-row c = λ setup kept core moment found.
    wish-kept (known_with setup kept core moment) c.args.pt c.args.terminal.now c.args.terminal.now.talk c.wish.new.talk c.wish.result found c.wish.ensures.sent c.if-wish.false c.wish.ensures.next
