-- Proof of the contract of `deliver`.
use Rattle.std.proofs.Common.{sym, subst}
use Rattle.gw_rules.proofs.TripleLemmas.{triple-then}
use Rattle.gw_dispatch.specs.Tills.{AllStillHold}
use Rattle.gw_dispatch.proofs.GrowthLemmas.{stands-then}
use Rattle.gw_dispatch.proofs.ReaderLemmas.{dropped-still, still-same}
use Rattle.gw_dispatch.proofs.tills.deliver.Goals as goal

pub returns-then-send_reply-clause-triple : goal.returns-then-send_reply-clause-triple
returns-then-send_reply-clause-triple g c = λ owed same setup kept polls now heard items.
    rw c.if-send_reply.true at (c.send_reply.ensures.triple owed same setup c.args.core.now kept c.args.tills.now.list.items polls now heard items)

pub returns-clause-triple : goal.returns-clause-triple
returns-clause-triple g c = λ owed same setup kept polls now heard items. triple-then _ _ _ _ _ _
    (rw c.if-send_reply.false at (c.send_reply.ensures.triple owed same setup c.args.core.now kept c.args.tills.now.list.items polls now heard items))
    (c.cut_till.ensures.triple setup kept polls now heard items)

pub returns-then-send_reply-clause-still : goal.returns-then-send_reply-clause-still
returns-then-send_reply-clause-still g c = still-same c.args.tills.now.list.items

pub returns-clause-still : goal.returns-clause-still
returns-clause-still g c = subst (AllStillHold c.args.tills.now.list.items) (sym c.cut_till.ensures.list) (dropped-still c.args.tills.now.list.items c.args.till)

pub returns-clause-goes_on : goal.returns-clause-goes_on
returns-clause-goes_on g c = stands-then _ _ _ c.send_reply.ensures.goes_on c.cut_till.ensures.goes_on
