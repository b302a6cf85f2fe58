-- Proof of the contract of `join_next`.
use Rattle.std.proofs.Common.{refl, ap}
use Rattle.slab.proofs.SlabLemmas.{Updates-with_value}
use Rattle.gw_links.specs.declared.link.Link.{Link}
use Rattle.gw_links.proofs.LinkLemmas.{relinked, relinked_prev}
use Rattle.gw_links.proofs.link.join_next.Goals as goal

pub returns-in-Some-clause-prevs : goal.returns-in-Some-clause-prevs
returns-in-Some-clause-prevs c =
    relinked_prev c.args.order c.args.nodes.now _ c.in-Some.id c.index_mut.result.now _ _ c.index_mut.ensures.value (Updates-with_value c.args.nodes.now c.in-Some.id _ (rw c.in-Some.is at c.requires))
    refl refl c.set.ensures c.args.ends.now (ap (λ (l : Link). l.prev) c.of-link.ensures)

pub returns-in-Some-clause-elsewhere : goal.returns-in-Some-clause-elsewhere
returns-in-Some-clause-elsewhere c =
    relinked c.args.order c.args.nodes.now _ c.in-Some.id c.index_mut.result.now _ _ c.index_mut.ensures.value (Updates-with_value c.args.nodes.now c.in-Some.id _ (rw c.in-Some.is at c.requires))
    refl refl c.set.ensures
