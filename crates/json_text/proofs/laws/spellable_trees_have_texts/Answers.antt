-- Proof of the contract of `spellable_trees_have_texts`.
use Rattle.json_text.proofs.CanonicalLemmas.{spellable_written, spelled_spellable}
use Rattle.json_text.proofs.laws.spellable_trees_have_texts.Goals as goal

pub returns : goal.returns
returns c = record { has = spellable_written; only = spelled_spellable }
