-- Proof of the contract of `law_fits`.
use Rattle.gw_ledger.proofs.FitLemmas.{outcome_fits, payment_fits, reversal_fits, settled_fits}
use Rattle.gw_ledger.proofs.laws.law_fits.Goals as goal

pub returns-clause-payment : goal.returns-clause-payment
returns-clause-payment c = payment_fits

pub returns-clause-reversal : goal.returns-clause-reversal
returns-clause-reversal c = reversal_fits

pub returns-clause-outcome : goal.returns-clause-outcome
returns-clause-outcome c = outcome_fits

pub returns-clause-settled : goal.returns-clause-settled
returns-clause-settled c = settled_fits
