-- Proof of the contract of `Block::second_half`.
use Rattle.std.proofs.Common.{◌∙◌, List, ℕ, ap, drop}
use Rattle.std.proofs.lemmas.List.{take_rest}
use Rattle.json_text.proofs.block.Block.second_half.Goals as goal

pub returns : goal.returns
returns c = c.in_ok-from_slice.ensures.items ∙ take_rest c.deref.result.now 256 ∙ ap (λ (l : List ℕ). drop 256 l) c.deref.ensures.value
