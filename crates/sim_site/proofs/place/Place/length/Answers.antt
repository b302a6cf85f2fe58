-- Proof of the contract of `length`.
use Rattle.sim_site.specs.Places.{place_value}
use Rattle.sim_site.proofs.PlaceLemmas.{length_moves}
use Rattle.sim_site.proofs.place.Place.length.Goals as goal

pub returns-clause-moves : goal.returns-clause-moves
returns-clause-moves c = λ o lines. length_moves o (place_value lines c.args.self.now)
