-- Proof of the contract of `written_is_read_again`.
use Rattle.json_text.proofs.CanonicalLemmas.{spells_canonical}
use Rattle.json_text.proofs.writer.written_is_read_again.Goals as goal

pub returns : goal.returns
returns c = spells_canonical
