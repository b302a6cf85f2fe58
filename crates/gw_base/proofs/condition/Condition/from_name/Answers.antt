-- Proof of the contract of `Condition::from_name`.
use Rattle.std.proofs.Common.{◌≡◌, ◌<◌, arith}
use Rattle.gw_base.specs.declared.condition.Condition.TheVariants.{Aborted, Busy, Cancel, InProgress, InsertedCard, InvalidCard, LoggedOut, MessageFormat, NotAllowed, NotFound, Refusal, UnavailableDevice, UnavailableService}
use Rattle.gw_base.specs.Condition.{name_of}
use Rattle.gw_base.proofs.condition.Condition.from_name.Goals as goal

pub returns : goal.returns
returns c =
    let passed : 12 < c.loop-condition.condition-index = omega arith in
    λ condition. elim condition as (λ named. name_of named ≡ c.args.name.now → ⊥) [
      | Aborted ↦ c.loop-condition.invariant 0 (omega (arith, passed))
      | Busy ↦ c.loop-condition.invariant 1 (omega (arith, passed))
      | Cancel ↦ c.loop-condition.invariant 2 (omega (arith, passed))
      | InProgress ↦ c.loop-condition.invariant 3 (omega (arith, passed))
      | InsertedCard ↦ c.loop-condition.invariant 4 (omega (arith, passed))
      | InvalidCard ↦ c.loop-condition.invariant 5 (omega (arith, passed))
      | LoggedOut ↦ c.loop-condition.invariant 6 (omega (arith, passed))
      | MessageFormat ↦ c.loop-condition.invariant 7 (omega (arith, passed))
      | NotAllowed ↦ c.loop-condition.invariant 8 (omega (arith, passed))
      | NotFound ↦ c.loop-condition.invariant 9 (omega (arith, passed))
      | Refusal ↦ c.loop-condition.invariant 10 (omega (arith, passed))
      | UnavailableDevice ↦ c.loop-condition.invariant 11 (omega (arith, passed))
      | UnavailableService ↦ c.loop-condition.invariant 12 (omega (arith, passed))
    ]
