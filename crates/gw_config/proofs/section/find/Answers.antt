-- Proof of the contract of `find`.
use Rattle.toml.proofs.Views.{table_get}
use Rattle.gw_config.proofs.section.find.Goals as goal

pub returns : goal.returns
returns c = table_get c.get.result c.args.name.now c.args.table.now.entries c.get.ensures.value
