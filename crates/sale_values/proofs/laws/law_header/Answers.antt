-- Proof of the contract of `law_header`.
use Rattle.sale_values.proofs.HeaderLemmas.{header_spellable}
use Rattle.sale_values.proofs.laws.law_header.Goals as goal

pub returns : goal.returns
returns c = header_spellable
