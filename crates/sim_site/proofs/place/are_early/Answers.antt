-- Proof of the contract of `are_early`.
use Rattle.std.proofs.Common.{◌∙◌}
use Rattle.sim_site.proofs.EarlyLemmas.{early_all}
use Rattle.sim_site.proofs.place.are_early.Goals as goal

pub returns : goal.returns
returns c = c.lines_are_early.ensures ∙ early_all c.args.lines.now
