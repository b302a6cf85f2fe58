-- Proof of the contract of `law_bcd`.
use Rattle.gw_base.proofs.BcdLemmas.{bcd_of-value, bcd_value-of, is_bcd-test, length-bcd_of}
use Rattle.gw_base.proofs.bcd.law_bcd.Goals as goal

pub returns-clause-read_again : goal.returns-clause-read_again
returns-clause-read_again c = bcd_value-of

pub returns-clause-one_spelling : goal.returns-clause-one_spelling
returns-clause-one_spelling c = bcd_of-value

pub returns-clause-count : goal.returns-clause-count
returns-clause-count c = length-bcd_of

pub returns-clause-test : goal.returns-clause-test
returns-clause-test c = is_bcd-test
