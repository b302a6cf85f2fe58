-- What the loop of `find` keeps, and why it ends.
use Rattle.std.proofs.Common.{◌≡◌, ◌≢◌, length}
use Rattle.gw_links.specs.Waiting.{by_deadline, with_key}
use Rattle.gw_links.specs.inner.Chain.{Every}
use Rattle.gw_links.specs.inner.Table.{accepted_in}
use Rattle.gw_links.proofs.WalkLemmas.{Walk, rest_from}
use Rattle.gw_links.proofs.lines.Lines.find.Given as goal

abbrev pub invariant-loop-at : goal.invariant-loop-at
invariant-loop-at l =
    Walk (by_deadline (accepted_in l.self-inside.nodes l.self-inside.accepted)) l.at
    (λ passed rest. Every (λ waiting. waiting.item.key ≢ l.key) passed
    × (with_key l.key (by_deadline (accepted_in l.self-inside.nodes l.self-inside.accepted)) ≡ with_key l.key rest))

abbrev pub decreases-loop-at : goal.decreases-loop-at
decreases-loop-at l = length (rest_from l.at (by_deadline (accepted_in l.self-inside.nodes l.self-inside.accepted)))
