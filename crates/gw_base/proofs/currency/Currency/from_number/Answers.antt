-- Proof of the contract of `Currency::from_number`.
use Rattle.std.proofs.Common.{◌≡◌, ◌<◌, arith}
use Rattle.gw_base.specs.declared.currency.Currency.TheVariants.{Eur, Chf, Gbp, Usd, Dkk, Sek, Nok, Pln, Czk}
use Rattle.gw_base.specs.Currency.{currency_number}
use Rattle.gw_base.proofs.currency.Currency.from_number.Goals as goal

pub returns : goal.returns
returns c =
    let passed : 8 < c.loop-currency.currency-index = omega arith in
    λ currency. elim currency as (λ named. currency_number named ≡ c.args.number → ⊥) [
      | Eur ↦ c.loop-currency.invariant 0 (omega (arith, passed))
      | Chf ↦ c.loop-currency.invariant 1 (omega (arith, passed))
      | Gbp ↦ c.loop-currency.invariant 2 (omega (arith, passed))
      | Usd ↦ c.loop-currency.invariant 3 (omega (arith, passed))
      | Dkk ↦ c.loop-currency.invariant 4 (omega (arith, passed))
      | Sek ↦ c.loop-currency.invariant 5 (omega (arith, passed))
      | Nok ↦ c.loop-currency.invariant 6 (omega (arith, passed))
      | Pln ↦ c.loop-currency.invariant 7 (omega (arith, passed))
      | Czk ↦ c.loop-currency.invariant 8 (omega (arith, passed))
    ]
