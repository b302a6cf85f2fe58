-- What the loop of `read_each` keeps.
use Rattle.gw_config.proofs.TableLemmas.{IsReadUpTo}
use Rattle.gw_config.proofs.terminal.read_each.Given as goal

abbrev pub invariant-loop-value : goal.invariant-loop-value
invariant-loop-value l = IsReadUpTo l.values l.value-index l.pts.items
