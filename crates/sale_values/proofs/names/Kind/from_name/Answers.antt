-- Proof of the contract of `Kind::from_name`.
use Rattle.std.proofs.Common.{◌≡◌, ◌<◌, arith}
use Rattle.sale_values.specs.declared.names.Kind.TheVariants.{Request, Response, Notification}
use Rattle.sale_values.specs.Names.{kind_name}
use Rattle.sale_values.proofs.names.Kind.from_name.Goals as goal

pub returns : goal.returns
returns c =
    let passed : 2 < c.loop-message_type.message_type-index = omega arith in
    λ message_type. elim message_type as (λ named. kind_name named ≡ c.args.name.now → ⊥) [
      | Request ↦ c.loop-message_type.invariant 0 (omega (arith, passed))
      | Response ↦ c.loop-message_type.invariant 1 (omega (arith, passed))
      | Notification ↦ c.loop-message_type.invariant 2 (omega (arith, passed))
    ]
