-- Proof of the contract of `is_last`.
use Rattle.std.proofs.Common.{sym}
use Rattle.sim_site.proofs.EarlyLemmas.{some_left}
use Rattle.sim_site.proofs.place.Place.is_last.Goals as goal

pub returns-else-self : goal.returns-else-self
returns-else-self c = rw c.if-self.false (sym (some_left c.args.lines.now c.args.self.now.at c.if-self-lines.false))
