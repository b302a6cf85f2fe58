-- Proof of the contract of `next`.
use Rattle.sim_site.specs.Peering.{event_value}
use Rattle.sim_site.proofs.PollLemmas.{place_meets}
use Rattle.sim_site.proofs.place.Place.next.Goals as goal

pub returns-clause-met : goal.returns-clause-met
returns-clause-met c = λ o lines held. place_meets o lines c.args.self.now c.next.new.self (event_value c.next.result) c.next.ensures.terminals c.next.ensures.left (c.next.ensures.coming o held)
