-- Proof of the contract of `cut_pt`.
use Rattle.std.proofs.Common.{refl}
use Rattle.sim_site.proofs.ConnectionLemmas.{links_cut}
use Rattle.sim_site.proofs.connections.Connections.cut_pt.Goals as goal

pub returns : goal.returns
returns c = λ o held. links_cut o c.args.self.now (record c.args.self.now { links = c.drop_link.new.links }) c.args.pt held c.drop_link.ensures refl refl
