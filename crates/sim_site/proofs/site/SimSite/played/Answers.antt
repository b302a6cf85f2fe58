-- Proof of the contract of `played`.
use Rattle.std.proofs.Common.{◌∙◌, ap}
use Rattle.sim_script.specs.Values.{whole_script_value}
use Rattle.sim_site.specs.Sources.{source_terminals}
use Rattle.sim_site.proofs.SiteLemmas.{drill_observed, drill_place}
use Rattle.sim_site.proofs.site.SimSite.played.Goals as goal

pub returns-clause-site : goal.returns-clause-site
returns-clause-site c = drill_observed c.args.from c.args.payments c.in_ok-played.played c.in_ok-played.ensures.new (ap whole_script_value c.in_ok-played.ensures.script ∙ c.in_ok-script.ensures)

pub returns-clause-place : goal.returns-clause-place
returns-clause-place c = drill_place c.args.from c.args.payments c.in_ok-played.played c.in_ok-played.ensures.new (ap whole_script_value c.in_ok-played.ensures.script ∙ c.in_ok-script.ensures)

pub returns-clause-script : goal.returns-clause-script
returns-clause-script c = ap whole_script_value c.in_ok-played.ensures.script ∙ c.in_ok-script.ensures

pub returns-clause-terminals : goal.returns-clause-terminals
returns-clause-terminals c = ap source_terminals c.in_ok-played.ensures.new.drill_is
