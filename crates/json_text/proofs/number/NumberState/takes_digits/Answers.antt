-- Proof of the contract of `NumberState::takes_digits`.
use Rattle.json_text.proofs.NumberLemmas.{digits_stay}
use Rattle.json_text.proofs.number.NumberState.takes_digits.Goals as goal

pub returns-in-Digits : goal.returns-in-Digits
returns-in-Digits c = digits_stay c.args.self c.in-Digits.is
