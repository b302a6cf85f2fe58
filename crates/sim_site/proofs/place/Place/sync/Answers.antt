-- Proof of the contract of `sync`.
use Rattle.std.proofs.Common.{◌∙◌}
use Rattle.sim_site.specs.Places.{place_value}
use Rattle.sim_site.proofs.PlaceLemmas.{sync_moves}
use Rattle.sim_site.proofs.place.Place.sync.Goals as goal

pub returns-clause-moves : goal.returns-clause-moves
returns-clause-moves c = λ o lines. c.count.ensures lines ∙ sync_moves o (place_value lines c.args.self.now)
