-- Proof of the contract of `link`.
use Rattle.std.proofs.Common.{refl}
use Rattle.std.proofs.lemmas.Result.{on_ok_weaker}
use Rattle.sim_site.proofs.ConnectionLemmas.{links_made}
use Rattle.sim_site.proofs.connections.Connections.link.Goals as goal

pub returns : goal.returns
returns c = on_ok_weaker c.add_link.result (λ links o held. links_made o c.args.self.now (record c.args.self.now { links = c.add_link.new.links }) c.args.pt held links refl refl) c.add_link.ensures
