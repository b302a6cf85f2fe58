-- What the loop of `Kind::from_name` keeps.
use Rattle.std.proofs.Common.{◌≡◌, ℕ, ◌<◌, get_or}
use Rattle.sale_values.specs.declared.names.Kind.TheVariants.{Request}
use Rattle.sale_values.specs.Names.{kind_name}
use Rattle.sale_values.proofs.names.Kind.from_name.Given as goal

-- no message type before this one has the name
abbrev pub invariant-loop-message_type : goal.invariant-loop-message_type
invariant-loop-message_type l =
    (k : ℕ) → k < l.message_type-index → kind_name (get_or l.message_type-items k Request) ≡ l.name → ⊥
