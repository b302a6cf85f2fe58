-- The examples of Aborts are computed.
use Rattle.std.proofs.Common.{refl}
use Rattle.std.specs.Fmt.{digits}
use Rattle.gw_base.specs.Transaction.{transaction_text}
use Rattle.gw_ledger.specs.History.{history}
use Rattle.zvt_apdu.specs.DecodeStream.{decode_apdus, decode_apdus_within}
use Rattle.zvt_bmp.specs.Decode.{decode_field_value, decode_status_field, decode_status_within, decode_status}
use Rattle.zvt_msg.specs.MessageDecode.{decode_pt_message}
use Rattle.owes_examples.specs.AbortExample.{ExampleAbortUnserved, ExampleStopSent, ExampleStoppedEnds, ExampleDayAborted, ExampleDisplayAborted, ExampleLateRefusal, ExampleEnquiredAfterStop, ExampleLateAcknowledgement}

pub abort-unserved : ExampleAbortUnserved
unfolding decode_apdus decode_apdus_within decode_pt_message decode_status decode_status_within decode_status_field decode_field_value history transaction_text digits
abort-unserved = record {
  unknown = record { calls_are = refl; standing_is = refl };
  finished = record { calls_are = refl; standing_is = refl };
  another = record { calls_are = refl; standing_is = refl };
  finished_beside = record { calls_are = refl; standing_is = refl };
  open_key = record { calls_are = refl; standing_is = refl };
}

pub stop-sent : ExampleStopSent
unfolding decode_apdus decode_apdus_within decode_pt_message decode_status decode_status_within decode_status_field decode_field_value history transaction_text digits
stop-sent = record {
  at_once = record { calls_are = refl; standing_is = refl };
  command = refl;
  wished = record { calls_are = refl; standing_is = refl };
  then_sent = record { calls_are = refl; standing_is = refl };
  twice = record { calls_are = refl; standing_is = refl };
  wished_twice = record { calls_are = refl; standing_is = refl };
  wished_then_again = record { calls_are = refl; standing_is = refl };
  refused = record { calls_are = refl; standing_is = refl };
  reversal = record { calls_are = refl; standing_is = refl };
}

pub stopped-ends : ExampleStoppedEnds
unfolding decode_apdus decode_apdus_within decode_pt_message decode_status decode_status_within decode_status_field decode_field_value history transaction_text digits
stopped-ends = record {
  after_stop = record { calls_are = refl; standing_is = refl };
  after_wish = record { calls_are = refl; standing_is = refl };
  before_stop = record { calls_are = refl; standing_is = refl };
  approved = record { calls_are = refl; standing_is = refl };
}

pub day-aborted : ExampleDayAborted
unfolding decode_apdus decode_apdus_within decode_pt_message decode_status decode_status_within decode_status_field decode_field_value history transaction_text digits
day-aborted = record {
  at_once = record { calls_are = refl; standing_is = refl };
  wished = record { calls_are = refl; standing_is = refl };
  then_sent = record { calls_are = refl; standing_is = refl };
  twice = record { calls_are = refl; standing_is = refl };
  refused = record { calls_are = refl; standing_is = refl };
  another = record { calls_are = refl; standing_is = refl };
  after_stop = record { calls_are = refl; standing_is = refl };
  before_stop = record { calls_are = refl; standing_is = refl };
  done = record { calls_are = refl; standing_is = refl };
  over = record { calls_are = refl; standing_is = refl };
}

pub display-aborted : ExampleDisplayAborted
unfolding decode_apdus decode_apdus_within decode_pt_message decode_status decode_status_within decode_status_field decode_field_value history transaction_text digits
display-aborted = record {
  refused = record { calls_are = refl; standing_is = refl };
  then_shown = record { calls_are = refl; standing_is = refl };
}

pub late-refusal : ExampleLateRefusal
unfolding decode_apdus decode_apdus_within decode_pt_message decode_status decode_status_within decode_status_field decode_field_value history transaction_text digits
late-refusal = record {
  cut = record { calls_are = refl; standing_is = refl };
  after_stray = record { calls_are = refl; standing_is = refl };
  as_without_stray = refl;
  in_progress = record { calls_are = refl; standing_is = refl };
}

pub enquired-after-stop : ExampleEnquiredAfterStop
unfolding decode_apdus decode_apdus_within decode_pt_message decode_status decode_status_within decode_status_field decode_field_value history transaction_text digits
enquired-after-stop = record {
  approved = record { calls_are = refl; standing_is = refl };
  unperformed = record { calls_are = refl; standing_is = refl };
}

pub late-acknowledgement : ExampleLateAcknowledgement
unfolding decode_apdus decode_apdus_within decode_pt_message decode_status decode_status_within decode_status_field decode_field_value history transaction_text digits
late-acknowledgement = record {
  goes_on = record { calls_are = refl; standing_is = refl };
  approved = record { calls_are = refl; standing_is = refl };
  refused = record { calls_are = refl; standing_is = refl };
}
