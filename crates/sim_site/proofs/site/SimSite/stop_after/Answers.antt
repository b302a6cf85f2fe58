-- Proof of the contract of `stop_after`.
use Rattle.sim_script.specs.Values.{image_value}
use Rattle.sim_site.proofs.StepLemmas.{stopped_step}
use Rattle.sim_site.proofs.site.SimSite.stop_after.Goals as goal

pub returns-clause-taken : goal.returns-clause-taken
returns-clause-taken c = stopped_step c.args.self.now.played c.stop_after.new.self c.args.calls (image_value c.args.image) c.stop_after.ensures.log c.stop_after.ensures.short c.stop_after.ensures.place
