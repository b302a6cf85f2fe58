-- Proof of the contract of `reject`.
use Rattle.std.proofs.Common.{◌∙◌, [], ◌∷◌, true, false}
use Rattle.std.proofs.lemmas.Int.{to_z-of_z}
use Rattle.gw_owes.specs.Calls.{CutPt}
use Rattle.gw_dispatch.proofs.FitLemmas.{linked-is}
use Rattle.gw_dispatch.proofs.GrowthLemmas.{still-stands}
use Rattle.gw_dispatch.proofs.RunStateLemmas.{stays-same}
use Rattle.gw_dispatch.proofs.PerformLemmas.{Performs, all-in-order, outside-handled, none-performed}
use Rattle.gw_dispatch.proofs.ReaderLemmas.{still-same}
use Rattle.gw_dispatch.proofs.perform.reject.Goals as goal

pub returns-then-is_linked-clause-triple : goal.returns-then-is_linked-clause-triple
returns-then-is_linked-clause-triple g c = λ item outside.
    let cuts : Performs (g.S.Site.observed c.args.site.now) (g.S.Site.observed c.cut.new.site) c.args.core.now c.cut.new.core c.args.tills.now.list.items c.cut.new.tills.list.items c.args.now (CutPt c.args.pt ∷ []) = simp (to_z-of_z, c.ranges.now) at c.cut.ensures.triple in
    outside-handled _ _ c.args.core.now c.cut.new.core c.args.tills.now.list.items c.cut.new.tills.list.items c.args.now c.args.pt item true outside (linked-is c.args.core.now.terminals c.args.pt c.is_linked.result c.requires.there c.is_linked.ensures ∙ c.if-is_linked.true) cuts

pub returns-else-is_linked-clause-triple : goal.returns-else-is_linked-clause-triple
returns-else-is_linked-clause-triple g c = λ item outside.
    outside-handled _ _ c.args.core.now c.args.core.now c.args.tills.now.list.items c.args.tills.now.list.items c.args.now c.args.pt item false outside (linked-is c.args.core.now.terminals c.args.pt c.is_linked.result c.requires.there c.is_linked.ensures ∙ c.if-is_linked.false) (none-performed _ c.args.core.now c.args.tills.now.list.items c.args.now)

pub returns-then-is_linked-clause-order : goal.returns-then-is_linked-clause-order
returns-then-is_linked-clause-order g c = all-in-order c.args.core.now c.cut.new.core c.args.pt c.cut.ensures.order

pub returns-else-is_linked-clause-order : goal.returns-else-is_linked-clause-order
returns-else-is_linked-clause-order g c = stays-same c.args.core.now

pub returns-else-is_linked-clause-goes_on : goal.returns-else-is_linked-clause-goes_on
returns-else-is_linked-clause-goes_on g c = still-stands _

pub returns-else-is_linked-clause-still : goal.returns-else-is_linked-clause-still
returns-else-is_linked-clause-still g c = still-same c.args.tills.now.list.items
