-- Proof of the contract of `terminal_of`.
use Rattle.std.proofs.Common.{◌≡◌, refl}
use Rattle.gw_links.specs.Waiting.{item_of}
use Rattle.gw_links.specs.declared.item.Item.{Item}
use Rattle.gw_core.proofs.QueueLemmas.{found-under, if-found, none-under-key}
use Rattle.gw_core.proofs.queues.Queues.terminal_of.Goals as goal

pub returns-in-None : goal.returns-in-None
returns-in-None c = rw (← c.self.view_is, none-under-key c.self.inside.lines c.self.invariant c.args.key.now (λ id. c.in-None.ensures.none id refl)) refl

pub returns-in-Some : goal.returns-in-Some
returns-in-Some c =
    let same = if-found (λ (item : Item). item.key ≡ c.args.key.now) (item_of c.self.inside.lines c.in-Some.id) c.get.result.now c.in-Some.ensures.found c.get.ensures in
    rw (← c.self.view_is, found-under c.self.inside.lines c.self.invariant c.in-Some.id c.get.result.now c.args.key.now c.get.ensures same) refl
