-- Proof of the contract of `law_amounts`.
use Rattle.gw_base.proofs.AmountLemmas.{amount_text-one, minor_units-is, minor_units-text}
use Rattle.gw_base.proofs.amount.law_amounts.Goals as goal

pub returns-clause-meaning : goal.returns-clause-meaning
returns-clause-meaning c = λ text units. (minor_units-is text units, minor_units-text text units)

pub returns-clause-one : goal.returns-clause-one
returns-clause-one c = amount_text-one
