-- What the loop of `Currency::from_number` keeps.
use Rattle.std.proofs.Common.{◌≡◌, ℕ, ◌<◌, get_or}
use Rattle.gw_base.specs.declared.currency.Currency.TheVariants.{Eur}
use Rattle.gw_base.specs.Currency.{currency_number}
use Rattle.gw_base.proofs.currency.Currency.from_number.Given as goal

-- no currency before this index has this number
abbrev pub invariant-loop-currency : goal.invariant-loop-currency
invariant-loop-currency l =
    (k : ℕ) → k < l.currency-index → currency_number (get_or l.currency-items k Eur) ≡ l.number → ⊥
