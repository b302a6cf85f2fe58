-- Proof of the contract of `recorded_reply`.
use Rattle.gw_core.proofs.StepLemmas.{none-unfinished}
use Rattle.gw_core.proofs.steps.recorded_reply.Goals as goal

pub returns-in-None : goal.returns-in-None
returns-in-None c = λ known named kept there.
    let same = c.if-not-has_same_content.ensures in
    let open_is = none-unfinished c.args.found.now c.in-None.ensures in
    rw (kept, ← same, open_is) c.refused-in-None.ensures
