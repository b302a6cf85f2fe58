-- Proof of the contract of `after_power_failure`.
use Rattle.sim_script.specs.Values.{image_value}
use Rattle.sim_site.proofs.DiskLemmas.{disk_fallen}
use Rattle.sim_site.proofs.disk.Disk.after_power_failure.Goals as goal

pub returns : goal.returns
returns c = disk_fallen c.holding.result c.in_ok-image.image.items c.args.self.now (image_value c.args.kind) c.holding.ensures c.in_ok-image.ensures
