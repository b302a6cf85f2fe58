-- Proof of the contract of `law_fields_fit`.
use Rattle.std.proofs.Common.{refl}
use Rattle.zvt_bmp.specs.Decode.{decode_status, decode_status_within, decode_status_field, decode_field_value}
use Rattle.zvt_bmp.proofs.LimitLemmas.{decoded_digits, decoded_currency, decoded_size}
use Rattle.zvt_bmp.proofs.laws.law_fields_fit.Goals as goal

pub returns-clause-digits : goal.returns-clause-digits
returns-clause-digits c = decoded_digits

pub returns-clause-currency : goal.returns-clause-currency
returns-clause-currency c = decoded_currency

pub returns-clause-size : goal.returns-clause-size
returns-clause-size c = decoded_size

pub returns-clause-example : goal.returns-clause-example
unfolding decode_status decode_status_within decode_status_field decode_field_value
returns-clause-example c = refl

pub returns-clause-example_size : goal.returns-clause-example_size
returns-clause-example_size c = refl
