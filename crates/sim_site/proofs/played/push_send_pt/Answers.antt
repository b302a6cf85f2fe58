-- Proof of the contract of `push_send_pt`.
use Rattle.std.proofs.Common.{◌∙◌}
use Rattle.sim_site.proofs.PlayedLemmas.{pt_turn}
use Rattle.sim_site.proofs.SiteLemmas.{on_ok}
use Rattle.sim_site.proofs.played.push_send_pt.Goals as goal

pub returns-clause-ok : goal.returns-clause-ok
returns-clause-ok c = on_ok c.push.result (λ grown. grown ∙ pt_turn c.args.log.now c.args.pt c.in_ok-sent.sent c.args.bytes.now c.is_none.result c.args.most (c.in_ok-sent.ensures ∙ c.taken.ensures) c.is_none.ensures) c.push.ensures.ok
