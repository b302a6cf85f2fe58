-- Proof of the contract of `begin_asking`.
use Rattle.std.proofs.lemmas.Int.{to_z-of_z}
use Rattle.gw_core.proofs.beginning.begin_asking.Goals as goal

pub ask-act-requires-clause-moment : goal.ask-act-requires-clause-moment
ask-act-requires-clause-moment c = simp (to_z-of_z, c.ranges.now) c.requires.moment
