-- Proof of the contract of `law_read_again`.
use Rattle.zvt_bmp.proofs.CanonicalLemmas.{written_again}
use Rattle.zvt_bmp.proofs.laws.law_read_again.Goals as goal

pub returns : goal.returns
returns c = written_again c.law_bcd.ensures.read_again c.law_bcd.ensures.count
