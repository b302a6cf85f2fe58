-- Proof of the contract of `Category::from_name`.
use Rattle.std.proofs.Common.{◌≡◌, ◌<◌, arith}
use Rattle.sale_msg.specs.declared.category.Category.TheVariants.{Login, Logout, Payment, Reversal, Abort, TransactionStatus, Reconciliation, Display, Print, Diagnosis}
use Rattle.sale_msg.specs.Category.{category_name}
use Rattle.sale_msg.proofs.category.Category.from_name.Goals as goal

pub returns : goal.returns
returns c =
    let passed : 9 < c.loop-category.category-index = omega arith in
    λ category. elim category as (λ named. category_name named ≡ c.args.name.now → ⊥) [
      | Login ↦ c.loop-category.invariant 0 (omega (arith, passed))
      | Logout ↦ c.loop-category.invariant 1 (omega (arith, passed))
      | Payment ↦ c.loop-category.invariant 2 (omega (arith, passed))
      | Reversal ↦ c.loop-category.invariant 3 (omega (arith, passed))
      | Abort ↦ c.loop-category.invariant 4 (omega (arith, passed))
      | TransactionStatus ↦ c.loop-category.invariant 5 (omega (arith, passed))
      | Reconciliation ↦ c.loop-category.invariant 6 (omega (arith, passed))
      | Display ↦ c.loop-category.invariant 7 (omega (arith, passed))
      | Print ↦ c.loop-category.invariant 8 (omega (arith, passed))
      | Diagnosis ↦ c.loop-category.invariant 9 (omega (arith, passed))
    ]
