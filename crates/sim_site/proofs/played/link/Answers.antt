-- Proof of the contract of `link`.
use Rattle.sim_site.proofs.played.link.Goals as goal

pub returns : goal.returns
returns c = rw c.if-fails.false c.link.ensures
