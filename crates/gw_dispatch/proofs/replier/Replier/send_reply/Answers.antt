-- Proof of the contract of `Replier::send_reply`.
use Rattle.std.proofs.Common.{◌∙◌, ap}
use Rattle.json_text.specs.Canonical.{canonical}
use Rattle.sale_frame.specs.Grammar.{frame}
use Rattle.gw_dispatch.proofs.GrowthLemmas.{till-sent as send-stands}
use Rattle.gw_dispatch.proofs.SendLemmas.{till-sent}
use Rattle.gw_dispatch.proofs.replier.Replier.send_reply.Goals as goal

pub returns-clause-triple : goal.returns-clause-triple
returns-clause-triple g c = λ owed same setup core kept tills polls now heard items.
    till-sent _ _ c.args.till _ owed c.send_till.result c.is_ok.result (c.as_bytes.ensures ∙ c.write_reply.ensures ∙ ap (λ t. frame (canonical t)) same) c.is_ok.ensures.value c.send_till.ensures.turns c.send_till.ensures.step setup core kept tills polls now heard items

pub returns-clause-goes_on : goal.returns-clause-goes_on
returns-clause-goes_on g c = send-stands _ _ c.args.till _ c.send_till.result c.send_till.ensures.turns c.send_till.ensures.cause
