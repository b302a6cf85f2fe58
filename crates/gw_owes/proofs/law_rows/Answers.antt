-- Proof of the contract of `law_rows`.
use Rattle.gw_owes.proofs.RowEndLemmas.{rows-end}
use Rattle.gw_owes.proofs.RowLemmas.{links-end}
use Rattle.gw_owes.proofs.law_rows.Goals as goal

pub returns : goal.returns
returns c = record { rows = rows-end; links = links-end }
