-- Money that was written is read again.
use Rattle.std.proofs.Common.{◌≡◌, ℕ, List, Option, Some, None, subst, MatchOption}
use Rattle.std.specs.Option.{option_and_then}
use Rattle.gw_base.specs.Amount.{minor_units, SpellsAmount}
use Rattle.gw_base.specs.Limits.{IsAmount}
use Rattle.gw_base.proofs.AmountLemmas.{minor_units-meaning}
use Rattle.sale_values.specs.Money.{money_text}
use Rattle.sale_values.proofs.MoneyLemmas.{money_again}

-- what is written is the text of an amount
pub money_is_amount : (n : ℕ) → IsAmount n → (m : ℕ) × SpellsAmount (money_text n) m
money_is_amount n h =
    let P : Option ℕ → Type 0 = λ o. MatchOption o ((units : ℕ) → ¬ SpellsAmount (money_text n) units) (SpellsAmount (money_text n)) in
    (n, subst P (money_again n h) (minor_units-meaning (money_text n)))

-- the minor units that are read of some text are an amount
pub read_is_amount : (numeral : Option (List ℕ)) (n : ℕ) → option_and_then minor_units numeral ≡ Some n → IsAmount n
read_is_amount None n e = let nothing : Option ℕ = None in let f : nothing ≡ Some n = e in absurd cc
read_is_amount (Some text) n e =
    let P : Option ℕ → Type 0 = λ o. MatchOption o ((units : ℕ) → ¬ SpellsAmount text units) (SpellsAmount text) in
    let is : SpellsAmount text n = subst P e (minor_units-meaning text) in is.amount
