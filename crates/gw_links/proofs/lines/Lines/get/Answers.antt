-- Proof of the contract of `get`.
use Rattle.std.proofs.Common.{sym, ap, ◌∙◌, Some}
use Rattle.gw_links.proofs.SoundLemmas.{some_value, item_some, item_is}
use Rattle.gw_links.proofs.lines.Lines.get.Goals as goal

pub index-requires-2 : goal.index-requires-2
index-requires-2 c =
    let there = some_value _ (rw (← c.self.view_is) at c.requires) in
    rw c.index.ensures (item_some c.self.inside.nodes _ c.self.invariant.requests c.args.id there.0 there.1)

pub returns : goal.returns
returns c =
    let there = some_value _ (rw (← c.self.view_is) at c.requires) in
    rw (← c.self.view_is) (there.1 ∙ ap Some (sym (item_is c.self.inside.nodes _ c.self.invariant.requests c.args.id there.0 _ there.1 (rw c.index.ensures at c.index-2.ensures))))
