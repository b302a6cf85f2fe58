-- Proof of the contract of `registering`.
use Rattle.std.proofs.lemmas.Int.{to_z-of_z}
use Rattle.gw_core.proofs.handling.registering.Goals as goal

pub ask-requires-clause-moment : goal.ask-requires-clause-moment
ask-requires-clause-moment c = simp (to_z-of_z, c.ranges.now) c.requires.moment
