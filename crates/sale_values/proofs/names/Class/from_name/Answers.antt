-- Proof of the contract of `Class::from_name`.
use Rattle.std.proofs.Common.{◌≡◌, ◌<◌, arith}
use Rattle.sale_values.specs.declared.names.Class.TheVariants.{Service, Device, Event}
use Rattle.sale_values.specs.Names.{class_name}
use Rattle.sale_values.proofs.names.Class.from_name.Goals as goal

pub returns : goal.returns
returns c =
    let passed : 2 < c.loop-class.class-index = omega arith in
    λ class. elim class as (λ named. class_name named ≡ c.args.name.now → ⊥) [
      | Service ↦ c.loop-class.invariant 0 (omega (arith, passed))
      | Device ↦ c.loop-class.invariant 1 (omega (arith, passed))
      | Event ↦ c.loop-class.invariant 2 (omega (arith, passed))
    ]
