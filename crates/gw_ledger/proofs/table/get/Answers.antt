-- Proof of the contract of `get`.
use Rattle.std.proofs.Common.{sym}
use Rattle.gw_ledger.proofs.TableLemmas.{value_found, value_absent}
use Rattle.gw_ledger.proofs.table.get.Goals as goal

pub returns-in-Ok : goal.returns-in-Ok
returns-in-Ok g c = sym (value_found g.met.K.Ord.total _ c.requires _ _ c.in-Ok.ensures.found _)

pub returns-in-Err : goal.returns-in-Err
returns-in-Err g c = sym (value_absent g.met.K.Ord.total _ _ _ c.in-Err.ensures.absent)
