-- Proof of the contract of `law_pt_items`.
use Rattle.gw_owes.proofs.ApduLemmas.{pt-bytes-give}
use Rattle.gw_owes.proofs.law_pt_items.Goals as goal

pub returns : goal.returns
returns c = record { items = pt-bytes-give }
