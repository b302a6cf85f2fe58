-- What the loop of `are_within_limits` keeps.
use Rattle.std.proofs.Common.{◌≡◌, ◌+◌, length, take}
use Rattle.std.specs.Prelude.{sum_by}
use Rattle.std.specs.Borrow.{Bor}
use Rattle.std.proofs.Common.{List, ℕ}
use Rattle.sale_reply.proofs.limits.are_within_limits.Given as goal

abbrev pub invariant-loop-line : goal.invariant-loop-line
invariant-loop-line l = l.room + sum_by (λ (line : Bor (List ℕ)). length line.now) (take l.line-index l.lines) ≡ 12000
