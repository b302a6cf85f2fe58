-- Proof of the contract of `law_read_again`.
use Rattle.zvt_apdu.proofs.DecodeLemmas.{written_spells, written_again}
use Rattle.zvt_apdu.proofs.laws.law_read_again.Goals as goal

pub returns : goal.returns
returns c = record { spelled = written_spells; read = written_again }
