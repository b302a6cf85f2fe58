-- Proof of the contract of `law_read_again`.
use Rattle.zvt_more.proofs.SpellingLemmas.{more_again, more_size}
use Rattle.zvt_more.proofs.laws.law_read_again.Goals as goal

pub returns : goal.returns
returns c = record { again = more_again c.law_read_again.ensures.spelled; size = more_size }
