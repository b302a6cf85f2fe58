-- What the loop of `first_later` keeps, and why it ends.
use Rattle.std.proofs.Common.{◌≡◌, length}
use Rattle.gw_links.specs.Waiting.{by_deadline, later_than}
use Rattle.gw_links.specs.inner.Table.{accepted_in}
use Rattle.gw_links.proofs.WalkLemmas.{Walk, rest_from}
use Rattle.gw_links.proofs.lines.Lines.first_later.Given as goal

abbrev pub invariant-loop-at : goal.invariant-loop-at
invariant-loop-at l =
    Walk (by_deadline (accepted_in l.self-inside.nodes l.self-inside.accepted)) l.at
    (λ passed rest. later_than l.item.deadline (by_deadline (accepted_in l.self-inside.nodes l.self-inside.accepted)) ≡ later_than l.item.deadline rest)

abbrev pub decreases-loop-at : goal.decreases-loop-at
decreases-loop-at l = length (rest_from l.at (by_deadline (accepted_in l.self-inside.nodes l.self-inside.accepted)))
