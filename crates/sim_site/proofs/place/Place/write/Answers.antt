-- Proof of the contract of `write`.
use Rattle.std.proofs.Common.{◌∙◌, refl}
use Rattle.sim_site.specs.Places.{place_value}
use Rattle.sim_site.proofs.PlaceLemmas.{write_moves}
use Rattle.sim_site.proofs.place.Place.write.Goals as goal

pub returns-clause-moves : goal.returns-clause-moves
returns-clause-moves c = λ offset bytes o lines. c.count.ensures lines ∙ write_moves o (place_value lines c.args.self.now) offset bytes refl
