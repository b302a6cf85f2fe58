-- What the loop of `Period::from_name` keeps.
use Rattle.std.proofs.Common.{◌≡◌, ℕ, ◌<◌, get_or}
use Rattle.sale_values.specs.declared.names.Period.TheVariants.{SaleReconciliation}
use Rattle.sale_values.specs.Names.{period_name}
use Rattle.sale_values.proofs.names.Period.from_name.Given as goal

-- no type of reconciliation before this one has the name
abbrev pub invariant-loop-period : goal.invariant-loop-period
invariant-loop-period l =
    (k : ℕ) → k < l.period-index → period_name (get_or l.period-items k SaleReconciliation) ≡ l.name → ⊥
