-- Proof of the contract of `Tills::close`.
use Rattle.std.proofs.Common.{ℕ, List, ◌∙◌, ap}
use Rattle.std.specs.Prelude.{map, not, ◌==◌}
use Rattle.net_site.specs.Holding.{TillNumbers, without_till}
use Rattle.net_site.proofs.ListLemmas.{map_filter}
use Rattle.net_site.proofs.tills.Tills.close.Goals as goal

pub returns : goal.returns
returns c =
    let build : List ℕ → TillNumbers = λ connected. record { connected = connected; last = c.self.inside.last } in
    ap (λ connections. build (map (λ connection. connection.till) connections)) (c.keep_others.ensures.others ∙ c.take_out-closed.ensures.others)
    ∙ ap build (map_filter (λ connection. connection.till) (λ other. not (other == c.args.till)) c.self.inside.connections.items)
    ∙ ap (λ tills. without_till tills c.args.till) c.self.view_is
