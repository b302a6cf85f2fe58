-- What the loop of `smallest_unknown` keeps.
use Rattle.std.specs.Option.{option_copied}
use Rattle.toml.specs.View.{table_view}
use Rattle.gw_config.proofs.NameLemmas.{LeavesSmallest}
use Rattle.gw_config.proofs.unknown.smallest_unknown.Given as goal

abbrev pub invariant-loop-key : goal.invariant-loop-key
invariant-loop-key l =
    LeavesSmallest l.fn.known (option_copied l.least) l.key-iterator (option_copied l.fn.least) (table_view l.fn.table)
