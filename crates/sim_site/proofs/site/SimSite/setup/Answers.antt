-- Proof of the contract of `setup`.
use Rattle.sim_site.proofs.SetupLemmas.{setup_limits}
use Rattle.sim_site.proofs.SiteLemmas.{setup_drill, setup_own}
use Rattle.sim_site.proofs.site.SimSite.setup.Goals as goal

pub returns-clause-own : goal.returns-clause-own
returns-clause-own c = setup_own c.args.self.now.played c.setup.result c.setup.ensures

pub returns-clause-limits : goal.returns-clause-limits
returns-clause-limits c = setup_limits c.args.self.now.played c.setup.result c.setup.ensures

pub returns-clause-drill : goal.returns-clause-drill
returns-clause-drill c = setup_drill c.args.self.now.played c.setup.result c.setup.ensures
