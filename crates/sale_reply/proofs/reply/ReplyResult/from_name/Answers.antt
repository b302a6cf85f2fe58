-- Proof of the contract of `ReplyResult::from_name`.
use Rattle.std.proofs.Common.{◌≡◌, ◌<◌, arith}
use Rattle.sale_reply.specs.declared.reply.ReplyResult.TheVariants.{Success, Partial, Failure}
use Rattle.sale_reply.specs.Names.{result_name}
use Rattle.sale_reply.proofs.reply.ReplyResult.from_name.Goals as goal

pub returns : goal.returns
returns c =
    let passed : 2 < c.loop-outcome.outcome-index = omega arith in
    λ outcome. elim outcome as (λ named. result_name named ≡ c.args.name.now → ⊥) [
      | Success ↦ c.loop-outcome.invariant 0 (omega (arith, passed))
      | Partial ↦ c.loop-outcome.invariant 1 (omega (arith, passed))
      | Failure ↦ c.loop-outcome.invariant 2 (omega (arith, passed))
    ]
