-- Proof of the contract of `law_money`.
use Rattle.sale_values.proofs.MoneyLemmas.{money_number, money_again, money_one}
use Rattle.sale_values.proofs.laws.law_money.Goals as goal

pub returns : goal.returns
returns c = record { number = money_number; amount = money_again; one = money_one }
