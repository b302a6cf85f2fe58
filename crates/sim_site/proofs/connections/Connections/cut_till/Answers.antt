-- Proof of the contract of `cut_till`.
use Rattle.std.proofs.Common.{refl}
use Rattle.sim_site.proofs.ConnectionLemmas.{tills_cut}
use Rattle.sim_site.proofs.connections.Connections.cut_till.Goals as goal

pub returns : goal.returns
returns c = λ o held. tills_cut o c.args.self.now (record c.args.self.now { tills = c.drop_till.new.tills }) c.args.till held c.drop_till.ensures refl refl
