-- Proof of the contract of `of`.
use Rattle.std.proofs.Common.{◌∙◌, None, ap, sym}
use Rattle.std.specs.Prelude.{Ok}
use Rattle.sim_script.specs.declared.line.Script.{Script as ReadScript}
use Rattle.sim_script.specs.Values.{whole_script_value}
use Rattle.sim_site.proofs.SiteLemmas.{unplayed_observed}
use Rattle.sim_site.proofs.site.SimSite.of.Goals as goal

pub returns-clause-site : goal.returns-clause-site
returns-clause-site c = unplayed_observed c.args.text.value None c.in_ok-played.played c.in_ok-played.ensures.new

pub returns-clause-log : goal.returns-clause-log
returns-clause-log c = c.in_ok-played.ensures.new.log

pub returns-clause-script : goal.returns-clause-script
returns-clause-script c = c.requires ∙ ap (λ (script : ReadScript). Ok (whole_script_value script)) (sym c.in_ok-played.ensures.script)

pub returns-clause-place : goal.returns-clause-place
returns-clause-place c = c.in_ok-played.ensures.new.place
