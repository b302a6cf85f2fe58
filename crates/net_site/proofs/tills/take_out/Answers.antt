-- Proof of the contract of `take_out`.
use Rattle.std.proofs.Common.{◌≡◌, ◌∙◌, ap, rules, refl, arith}
use Rattle.std.specs.Prelude.{not, ◌==◌, true, false, ℕ}
use Rattle.std.proofs.lemmas.Grind.{common_steps}
use Rattle.net_site.specs.inner.Received.{connections_without}
use Rattle.net_site.specs.declared.tills.Connection.{Connection}
use Rattle.net_site.proofs.ListLemmas.{filter_removed}
use Rattle.net_site.proofs.tills.take_out.Goals as goal

pub returns-then-index-till-clause-others : goal.returns-then-index-till-clause-others
returns-then-index-till-clause-others c =
    let same : not (c.index.result.now.till == c.args.till) ≡ false = search rules in
    ap (λ connections. connections_without connections c.args.till) c.remove.ensures.items
    ∙ filter_removed (λ (connection : Connection). not (connection.till == c.args.till)) c.loop-index.connections.items c.loop-index.index c.index.result.now c.index.ensures same
    ∙ ap (λ connections. connections_without connections.items c.args.till) c.loop-index.invariant
