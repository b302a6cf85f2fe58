-- What the loop of `Class::from_name` keeps.
use Rattle.std.proofs.Common.{◌≡◌, ℕ, ◌<◌, get_or}
use Rattle.sale_values.specs.declared.names.Class.TheVariants.{Service}
use Rattle.sale_values.specs.Names.{class_name}
use Rattle.sale_values.proofs.names.Class.from_name.Given as goal

-- no class before this one has the name
abbrev pub invariant-loop-class : goal.invariant-loop-class
invariant-loop-class l =
    (k : ℕ) → k < l.class-index → class_name (get_or l.class-items k Service) ≡ l.name → ⊥
