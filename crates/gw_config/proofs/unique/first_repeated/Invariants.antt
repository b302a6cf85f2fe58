-- What the loop of `first_repeated` keeps.
use Rattle.gw_config.proofs.NameLemmas.{AreUniqueUpTo}
use Rattle.gw_config.proofs.unique.first_repeated.Given as goal

abbrev pub invariant-loop-index : goal.invariant-loop-index
invariant-loop-index l = AreUniqueUpTo l.pts l.index
