-- Proof of the contract of `open`.
use Rattle.std.proofs.Common.{◌∙◌}
use Rattle.sim_site.specs.Places.{place_value}
use Rattle.sim_site.proofs.PlaceLemmas.{open_moves}
use Rattle.sim_site.proofs.place.Place.open.Goals as goal

pub returns-clause-moves : goal.returns-clause-moves
returns-clause-moves c = λ setup o lines. c.count.ensures lines ∙ open_moves o (place_value lines c.args.self.now) setup
