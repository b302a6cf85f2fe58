-- Proof of the contract of `law_site_scripts`.
use Rattle.gw_script.proofs.site.ScriptLemmas.{reads-scripts}
use Rattle.gw_script.proofs.law_site_scripts.Goals as goal

pub returns : goal.returns
returns c = record { reads = reads-scripts }
