-- Proof of the contract of `send`.
use Rattle.std.proofs.lemmas.Int.{to_z-of_z}
use Rattle.gw_owes.specs.Calls.{CutPt}
use Rattle.std.proofs.Common.{[], ◌∷◌}
use Rattle.gw_dispatch.proofs.GrowthLemmas.{pt-sent, stands-then}
use Rattle.gw_dispatch.proofs.RunStateLemmas.{stays-same}
use Rattle.gw_dispatch.proofs.PerformLemmas.{Performs, all-in-order, sent-performs, unsent-performs}
use Rattle.gw_dispatch.proofs.ReaderLemmas.{still-same}
use Rattle.gw_dispatch.proofs.perform.send.Goals as goal

pub returns-else-not-sent-clause-triple : goal.returns-else-not-sent-clause-triple
returns-else-not-sent-clause-triple g c = λ sending is. sent-performs _ _ c.args.core.now c.args.tills.now.list.items c.args.now c.args.pt c.args.bytes.now sending c.send_pt.result c.is_ok-sent.result c.is_ok-sent.ensures.value c.if-not-sent.false is c.send_pt.ensures.turns c.send_pt.ensures.step

pub returns-then-not-sent-clause-triple : goal.returns-then-not-sent-clause-triple
returns-then-not-sent-clause-triple g c = λ sending is.
    let cuts : Performs (g.S.Site.observed c.send_pt.new.self) (g.S.Site.observed c.cut.new.site) c.args.core.now c.cut.new.core c.args.tills.now.list.items c.cut.new.tills.list.items c.args.now (CutPt c.args.pt ∷ []) = simp (to_z-of_z, c.ranges.now) at c.cut.ensures.triple in
    unsent-performs _ _ _ c.args.core.now c.cut.new.core c.args.tills.now.list.items c.cut.new.tills.list.items c.args.now c.args.pt c.args.bytes.now sending c.send_pt.result c.is_ok-sent.result c.is_ok-sent.ensures.value c.if-not-sent.true is c.send_pt.ensures.turns c.send_pt.ensures.step cuts

pub returns-else-not-sent-clause-order : goal.returns-else-not-sent-clause-order
returns-else-not-sent-clause-order g c = stays-same c.args.core.now

pub returns-then-not-sent-clause-order : goal.returns-then-not-sent-clause-order
returns-then-not-sent-clause-order g c = all-in-order c.args.core.now c.cut.new.core c.args.pt c.cut.ensures.order

pub returns-else-not-sent-clause-goes_on : goal.returns-else-not-sent-clause-goes_on
returns-else-not-sent-clause-goes_on g c = pt-sent _ _ c.args.pt c.args.bytes.now c.send_pt.result c.send_pt.ensures.turns c.send_pt.ensures.cause

pub returns-then-not-sent-clause-goes_on : goal.returns-then-not-sent-clause-goes_on
returns-then-not-sent-clause-goes_on g c = stands-then _ _ _ (pt-sent _ _ c.args.pt c.args.bytes.now c.send_pt.result c.send_pt.ensures.turns c.send_pt.ensures.cause) c.cut.ensures.goes_on

pub returns-else-not-sent-clause-still : goal.returns-else-not-sent-clause-still
returns-else-not-sent-clause-still g c = still-same c.args.tills.now.list.items
