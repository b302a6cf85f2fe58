-- Proof of the contract of `law_outputs`.
use Rattle.sale_reply.proofs.LimitLemmas.{all_more, all_within}
use Rattle.sale_reply.proofs.limits.law_outputs.Goals as goal

pub loop-shown-preserved : goal.loop-shown-preserved
loop-shown-preserved c =
    all_more c.args.outputs.now c.loop-shown.shown-index c.shown-item.result c.loop-shown-test.true c.shown-item.is c.loop-shown.invariant c.law_shown.ensures

pub returns : goal.returns
returns c = all_within c.args.outputs.now c.loop-shown.shown-index c.loop-shown-test.false c.loop-shown.invariant
