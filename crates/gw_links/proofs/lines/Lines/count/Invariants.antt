-- What the loop of `count` keeps, and why it ends.
use Rattle.std.proofs.Common.{◌≡◌, length}
use Rattle.gw_links.specs.Waiting.{at_terminal}
use Rattle.gw_links.proofs.WalkLemmas.{Walk, rest_from}
use Rattle.gw_links.proofs.lines.Lines.count.Given as goal

abbrev pub invariant-loop-at : goal.invariant-loop-at
invariant-loop-at l = Walk (at_terminal l.terminal l.self) l.at (λ passed rest. l.count ≡ length passed)

abbrev pub decreases-loop-at : goal.decreases-loop-at
decreases-loop-at l = length (rest_from l.at (at_terminal l.terminal l.self))
