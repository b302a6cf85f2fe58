-- Proof of the contract of `open`.
use Rattle.std.proofs.Common.{refl}
use Rattle.std.specs.Prelude.{Some}
use Rattle.sim_site.proofs.ConnectionLemmas.{tills_made}
use Rattle.sim_site.proofs.connections.Connections.open.Goals as goal

pub returns : goal.returns
returns c = λ o held. tills_made o c.args.self.now (record c.args.self.now { tills = c.add_till.new.tills; opened = Some c.args.till }) c.args.till held c.in_ok-add_till.ensures refl refl
