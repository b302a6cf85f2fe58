-- What the loop of `Links::set` keeps.
use Rattle.std.proofs.Common.{◌≡◌, length}
use Rattle.std.specs.Prelude.{All, false}
use Rattle.net_site.proofs.links.Links.set.Given as goal

abbrev pub invariant-loop-pt : goal.invariant-loop-pt
invariant-loop-pt l = record {
  down : All (λ up. up ≡ false) l.self;
  count : length l.self ≡ l.pt-index;
}
