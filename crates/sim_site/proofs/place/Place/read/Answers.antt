-- Proof of the contract of `read`.
use Rattle.sim_site.specs.Places.{place_value}
use Rattle.sim_site.proofs.PlaceLemmas.{read_moves}
use Rattle.sim_site.proofs.place.Place.read.Goals as goal

pub returns-clause-moves : goal.returns-clause-moves
returns-clause-moves c = λ offset size o lines. read_moves o (place_value lines c.args.self.now) offset size
