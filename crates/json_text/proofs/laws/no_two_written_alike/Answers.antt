-- Proof of the contract of `no_two_written_alike`.
use Rattle.json_text.proofs.UniqueLemmas.{canonical_apart}
use Rattle.json_text.proofs.laws.no_two_written_alike.Goals as goal

pub returns : goal.returns
returns c = canonical_apart
