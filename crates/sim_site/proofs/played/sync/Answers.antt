-- Proof of the contract of `sync`.
use Rattle.sim_site.proofs.played.sync.Goals as goal

pub returns : goal.returns
returns c = rw c.if-fails.false c.sync.ensures
