-- Proof of the contract of `one_tree_of_a_text`.
use Rattle.json_text.proofs.UniqueLemmas.{same_tree}
use Rattle.json_text.proofs.laws.one_tree_of_a_text.Goals as goal

pub returns : goal.returns
returns c = same_tree
