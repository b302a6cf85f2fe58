-- Proof of the contract of `OpenObject::push_few`.
use Rattle.json_text.proofs.IndexLemmas.{few_pushed}
use Rattle.json_text.proofs.GapLemmas.{index_of, indexed}
use Rattle.json_text.proofs.members.OpenObject.push_few.Goals as goal

pub invariant_of-self : goal.invariant_of-self
invariant_of-self c =
    let h = few_pushed c.args.self.now.members.items c.push.new.self.items (index_of c.args.self.now) c.args.name c.args.value _ c.requires.few c.requires.new c.push.ensures.items (indexed c.args.self.now) in
    record { within = h.within; ordered = h.ordered; known = h.known; distinct = h.distinct }
