-- Proof of the contract of `law_transaction_examples`.
use Rattle.std.proofs.Common.{refl, lit<, lit≤}
use Rattle.std.specs.Fmt.{digits}
use Rattle.gw_base.specs.Transaction.{transaction_text}
use Rattle.gw_base.proofs.transaction.law_transaction_examples.Goals as goal

pub returns : goal.returns
unfolding transaction_text digits
returns c = record {
  greatest_shown = record { six_digits = lit≤ tt; four_digits = lit≤ tt; slot_fits = lit< tt };
  greatest = refl;
  approved = refl;
  declined = refl;
}
