-- Proof of the contract of `law_decode_status`.
use Rattle.std.proofs.Common.{subst}
use Rattle.zvt_bmp.specs.Grammar.{SpellsStatusOrFault}
use Rattle.zvt_bmp.proofs.DecodeLemmas.{fields_report, only_reported}
use Rattle.zvt_bmp.proofs.laws.law_decode_status.Goals as goal

pub returns : goal.returns
returns c bytes reported = ((λ is. subst (SpellsStatusOrFault bytes) is (fields_report bytes)), only_reported bytes reported)
