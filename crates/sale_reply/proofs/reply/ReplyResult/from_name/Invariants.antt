-- What the loop of `ReplyResult::from_name` keeps.
use Rattle.std.proofs.Common.{◌≡◌, ℕ, ◌<◌, get_or}
use Rattle.sale_reply.specs.declared.reply.ReplyResult.TheVariants.{Success}
use Rattle.sale_reply.specs.Names.{result_name}
use Rattle.sale_reply.proofs.reply.ReplyResult.from_name.Given as goal

-- no result before this one has the name
abbrev pub invariant-loop-outcome : goal.invariant-loop-outcome
invariant-loop-outcome l =
    (k : ℕ) → k < l.outcome-index → result_name (get_or l.outcome-items k Success) ≡ l.name → ⊥
