-- Proof of the contract of `law_lines`.
use Rattle.gw_script.proofs.site.LinesLemmas.{splits-lines}
use Rattle.gw_script.proofs.law_lines.Goals as goal

pub returns : goal.returns
returns c = record { lines = splits-lines }
