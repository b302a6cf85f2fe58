-- Proof of the contract of `attach`.
use Rattle.std.proofs.Common.{sym, ◌∙◌, Some}
use Rattle.gw_links.proofs.LinkLemmas.{Inserts-joins}
use Rattle.gw_links.proofs.link.attach.Goals as goal

pub returns-clause-inserts : goal.returns-clause-inserts
returns-clause-inserts c =
    Inserts-joins _ _ _ _ _ _ _ _ _ _ _ _ (Some c.args.id) c.args.after c.link_at-before.ensures.prev
    (λ same. c.requires.before_apart (sym c.link_at-before.ensures.prev ∙ sym same))
    (λ same. c.requires.apart (sym same))
    c.join_prev.ensures.prevs c.join_prev.ensures.nexts c.join_next.ensures.nexts c.join_next.ensures.prevs
    c.join_next-2.ensures.nexts c.join_next-2.ensures.prevs c.join_prev-2.ensures.prevs c.join_prev-2.ensures.nexts
