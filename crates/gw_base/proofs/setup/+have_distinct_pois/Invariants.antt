-- Why `have_distinct_pois` ends.
use Rattle.std.proofs.Common.{length}
use Rattle.gw_base.proofs.setup.+have_distinct_pois.Given as goal

abbrev pub decreases-have_distinct_pois : goal.decreases-have_distinct_pois
decreases-have_distinct_pois l = length l.terminals.now
