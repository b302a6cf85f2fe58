-- Inner: ranges of the file that were written.
use Rattle.std.specs.Prelude.{List, map, reverse}
use Rattle.gw_site.specs.Outside.{Range}
use Rattle.sim_site.specs.declared.disk.Written.{Written}

-- a range
abbrev pub range_value : Written → Range
range_value range = record { offset = range.offset; size = range.size }

-- ranges, the last first
abbrev pub ranges_value : List Written → List Range
ranges_value ranges = map range_value (reverse ranges)
