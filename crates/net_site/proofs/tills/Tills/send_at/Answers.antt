-- Proof of the contract of `Tills::send_at`.
use Rattle.std.proofs.Common.{ℕ, List, ◌∙◌, ap}
use Rattle.std.proofs.Math.Seq.{map-set_same}
use Rattle.net_site.specs.Holding.{TillNumbers}
use Rattle.net_site.proofs.tills.Tills.send_at.Goals as goal

pub returns : goal.returns
returns c =
    let build : List ℕ → TillNumbers = λ connected. record { connected = connected; last = c.self.inside.last } in
    ap build (map-set_same (λ connection. connection.till) c.self.inside.connections.items c.args.index c.send.new.self c.index_mut.result.now (c.send.ensures ∙ ap (λ connection. connection.till) c.index_mut.ensures.value))
    ∙ c.self.view_is
