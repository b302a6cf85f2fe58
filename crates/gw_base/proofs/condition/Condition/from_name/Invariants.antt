-- What the loop of `Condition::from_name` keeps.
use Rattle.std.proofs.Common.{◌≡◌, ℕ, ◌<◌, get_or}
use Rattle.gw_base.specs.declared.condition.Condition.TheVariants.{Aborted}
use Rattle.gw_base.specs.Condition.{name_of}
use Rattle.gw_base.proofs.condition.Condition.from_name.Given as goal

-- no condition before this index has the name
abbrev pub invariant-loop-condition : goal.invariant-loop-condition
invariant-loop-condition l =
    (k : ℕ) → k < l.condition-index → name_of (get_or l.condition-items k Aborted) ≡ l.name → ⊥
