-- What the loop of `NetSite::hear_first` keeps.
use Rattle.std.proofs.Common.{◌≡◌, length}
use Rattle.net_site.proofs.site.NetSite.hear_first.Given as goal

abbrev pub invariant-loop-index : goal.invariant-loop-index
invariant-loop-index g l = record {
  same : l.self ≡ l.fn.self;
  buf : length l.buf ≡ 4096;
}
