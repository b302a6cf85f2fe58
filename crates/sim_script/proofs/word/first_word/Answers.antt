-- Proof of the contract of `first_word`.
use Rattle.sim_script.proofs.LineLemmas.{parts_split}
use Rattle.sim_script.proofs.word.first_word.Goals as goal

pub returns : goal.returns
returns c = parts_split c.args.text.now c.split_once.result c.split_once.ensures.cases
