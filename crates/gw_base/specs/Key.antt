-- The order of keys.
use Rattle.std.specs.declared.cmp.Ordering.{Ordering}
use Rattle.std.specs.Ordering.{nat_cmp, ordering_then}
use Rattle.std.specs.Cmp.Lexicographic.{slice_cmp}
use Rattle.gw_base.specs.declared.key.Key.{Key}

-- by SaleID, then POIID, then ServiceID, each by its bytes
abbrev pub key_cmp : Key → Key → Ordering
key_cmp a b =
    ordering_then (slice_cmp nat_cmp a.sale b.sale)
    (ordering_then (slice_cmp nat_cmp a.poi b.poi) (slice_cmp nat_cmp a.service b.service))
