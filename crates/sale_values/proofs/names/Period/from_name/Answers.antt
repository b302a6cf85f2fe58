-- Proof of the contract of `Period::from_name`.
use Rattle.std.proofs.Common.{◌≡◌, ◌<◌, arith}
use Rattle.sale_values.specs.declared.names.Period.TheVariants.{SaleReconciliation, AcquirerSynchronisation, AcquirerReconciliation, PreviousReconciliation}
use Rattle.sale_values.specs.Names.{period_name}
use Rattle.sale_values.proofs.names.Period.from_name.Goals as goal

pub returns : goal.returns
returns c =
    let passed : 3 < c.loop-period.period-index = omega arith in
    λ period. elim period as (λ named. period_name named ≡ c.args.name.now → ⊥) [
      | SaleReconciliation ↦ c.loop-period.invariant 0 (omega (arith, passed))
      | AcquirerSynchronisation ↦ c.loop-period.invariant 1 (omega (arith, passed))
      | AcquirerReconciliation ↦ c.loop-period.invariant 2 (omega (arith, passed))
      | PreviousReconciliation ↦ c.loop-period.invariant 3 (omega (arith, passed))
    ]
