-- Proof of the contract of `bare_command`.
use Rattle.std.proofs.Common.{codes}
use Rattle.gw_run.proofs.WordsLemmas.{bare-settings}
use Rattle.gw_run.proofs.words.bare_command.Goals as goal

pub returns : goal.returns
returns c = bare-settings (codes "gateway") c.new.result c.no_binary_name.result c.disable_help_flag.result c.disable_version_flag.result c.new.ensures.app c.no_binary_name.ensures c.disable_help_flag.ensures c.disable_version_flag.ensures
