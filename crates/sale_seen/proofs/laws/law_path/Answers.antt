-- Proof of the contract of `law_path`.
use Rattle.sale_seen.proofs.PathLemmas.{path_leads}
use Rattle.sale_seen.proofs.laws.law_path.Goals as goal

pub returns : goal.returns
returns c = path_leads
