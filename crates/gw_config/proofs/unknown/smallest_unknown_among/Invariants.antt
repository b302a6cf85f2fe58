-- What the loop of `smallest_unknown_among` keeps.
use Rattle.std.proofs.Common.{◌≡◌, map, drop}
use Rattle.std.specs.Prelude.{fold}
use Rattle.std.specs.List.{flat_map}
use Rattle.std.specs.Option.{option_copied}
use Rattle.gw_config.specs.Faults.{smaller, smallest, unknown_keys}
use Rattle.gw_config.specs.inner.Decode.{tables_of}
use Rattle.gw_config.proofs.unknown.smallest_unknown_among.Given as goal

abbrev pub invariant-loop-value : goal.invariant-loop-value
invariant-loop-value l =
    fold smaller (option_copied l.least) (flat_map (unknown_keys (map (λ name. name.now) l.known)) (tables_of (drop l.value-index l.values)))
    ≡ smallest (flat_map (unknown_keys (map (λ name. name.now) l.known)) (tables_of l.values))
