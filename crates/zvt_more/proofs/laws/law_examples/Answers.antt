-- The examples, by computing.
use Rattle.std.proofs.Common.{refl}
use Rattle.zvt_more.specs.Decode.{decode_more}
use Rattle.zvt_more.proofs.laws.law_examples.Goals as goal

pub returns-clause-written : goal.returns-clause-written
returns-clause-written c = record { refund = refl; reservation = refl; completion = refl; greatest = refl }

pub returns-clause-read : goal.returns-clause-read
unfolding decode_more
returns-clause-read c = record { apdu = refl; refund = refl; reservation = refl; completion = refl; greatest = refl }

pub returns-clause-refused : goal.returns-clause-refused
unfolding decode_more
returns-clause-refused c = record {
  other_class = refl;
  other_instruction = refl;
  authorisation = refl;
  empty = refl;
  with_password = refl;
  no_password = refl;
  no_receipt = refl;
  no_currency = refl;
  short_amount = refl;
  short_receipt = refl;
  short_currency = refl;
  exchanged = refl;
  amount_not_digits = refl;
  receipt_not_digits = refl;
  password_not_digits = refl;
  one_byte_more = refl;
}
