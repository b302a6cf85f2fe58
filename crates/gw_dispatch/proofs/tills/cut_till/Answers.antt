-- Proof of the contract of `cut_till`.
use Rattle.gw_dispatch.proofs.GrowthLemmas.{till-was-cut}
use Rattle.gw_dispatch.proofs.SendLemmas.{till-forgotten}
use Rattle.gw_dispatch.proofs.tills.cut_till.Goals as goal

pub returns-clause-triple : goal.returns-clause-triple
returns-clause-triple g c = λ setup kept polls now heard items.
    rw (c.drop_till.ensures, c.forget.ensures) (till-forgotten _ _ setup kept polls now heard c.args.core.now c.args.tills.now.list.items items c.args.till c.cut_till.ensures.turns c.cut_till.ensures.step)

pub returns-clause-goes_on : goal.returns-clause-goes_on
returns-clause-goes_on g c = till-was-cut _ _ c.args.till c.cut_till.ensures.turns c.cut_till.ensures.cause
