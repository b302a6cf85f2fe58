-- Proof of the contract of `after_zero`.
use Rattle.json_text.proofs.NumberLemmas.{zero_point}
use Rattle.json_text.proofs.number.after_zero.Goals as goal

pub returns-in-46 : goal.returns-in-46
returns-in-46 c = zero_point c.args.byte c.in-46.is
