-- Proof of the contract of `law_payment_logs`.
use Rattle.gw_rules.proofs.PaymentLogLemmas.{resolved-lawful}
use Rattle.rule_examples.proofs.PaymentLogLemmas.{payment-lawful, begun-served-open, paid-none-open, payment-silent}
use Rattle.gw_rules.proofs.RecoveryLogLemmas.{recovery-lawful}
use Rattle.rule_examples.proofs.RecoveryLogLemmas.{open-is-reported}
use Rattle.rule_examples.proofs.law_payment_logs.Goals as goal

pub returns : goal.returns
returns c = record { paid = payment-lawful; resolved = resolved-lawful; recovered = recovery-lawful; reported = open-is-reported; served = begun-served-open; none_open = paid-none-open; silent = payment-silent }
