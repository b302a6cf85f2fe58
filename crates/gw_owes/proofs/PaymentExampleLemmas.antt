-- The examples of reports while a payment is open are computed.
use Rattle.std.proofs.Common.{refl}
use Rattle.gw_ledger.specs.History.{history}
use Rattle.zvt_apdu.specs.DecodeStream.{decode_apdus, decode_apdus_within}
use Rattle.zvt_bmp.specs.Decode.{decode_field_value, decode_status_field, decode_status_within, decode_status}
use Rattle.zvt_msg.specs.MessageDecode.{decode_pt_message}
use Rattle.gw_owes.specs.PaymentExample.{ExampleReportsOfOpen, ExampleReportBelowOpen, ExampleReportBelow}

pub reports-of-open : ExampleReportsOfOpen
unfolding decode_apdus decode_apdus_within decode_pt_message decode_status decode_status_within decode_status_field decode_field_value history
reports-of-open = record {
  enquired = record { calls_are = refl; standing_is = refl };
  approved = record { calls_are = refl; standing_is = refl };
  declined = record { calls_are = refl; standing_is = refl };
  unperformed = record { calls_are = refl; standing_is = refl };
  none = record { calls_are = refl; standing_is = refl };
  later_run = record { calls_are = refl; standing_is = refl };
  none_later = record { calls_are = refl; standing_is = refl };
  repeated = record { calls_are = refl; standing_is = refl };
}

pub report-below-open : ExampleReportBelowOpen
unfolding decode_apdus decode_apdus_within decode_pt_message decode_status decode_status_within decode_status_field decode_field_value history
report-below-open = record {
  below = record { calls_are = refl; standing_is = refl };
  status = record { calls_are = refl; standing_is = refl };
  second = record { calls_are = refl; standing_is = refl };
  stays = record { calls_are = refl; standing_is = refl };
  lost = record { calls_are = refl; standing_is = refl };
}

pub report-below : ExampleReportBelow
unfolding decode_apdus decode_apdus_within decode_pt_message decode_status decode_status_within decode_status_field decode_field_value history
report-below = record {
  below = record { calls_are = refl; standing_is = refl };
  equal = record { calls_are = refl; standing_is = refl };
}
