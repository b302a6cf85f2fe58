-- The closed examples of transcripts are computed.
use Rattle.std.proofs.Common.{refl}
use Rattle.std.specs.Fmt.{digits}
use Rattle.std.specs.Str.{chars}
use Rattle.gw_base.specs.Transaction.{transaction_text}
use Rattle.zvt_bmp.specs.Decode.{decode_field_value, decode_status_field, decode_status_within, decode_status}
use Rattle.zvt_msg.specs.MessageDecode.{decode_pt_message}
use Rattle.gw_ledger.specs.History.{history}
use Rattle.gw_owes.specs.TranscriptExample.{ExampleReadyTranscript, ExamplePaymentTranscript, ExampleWaitingTranscript, ExampleReversalTranscript, ExampleStopTranscript, ExampleDayTranscript, ExampleTranscript}

ready-transcript : ExampleReadyTranscript
unfolding decode_pt_message history
ready-transcript = record {
  registered = refl;
  registered_awaits = refl;
  registered_standing = refl;
  registered_follows = record { terminal = _; found = refl; talk_is = refl; awaited_is = refl; standing_is = refl };
  ready = refl;
  ready_awaits = refl;
  ready_talk = refl;
  ready_standing = refl;
  ready_follows = record { terminal = _; found = refl; talk_is = refl; awaited_is = refl; standing_is = refl };
  cut = refl;
  cut_follows = record { terminal = _; found = refl; talk_is = refl; awaited_is = refl; standing_is = refl };
}

payment-transcript : ExamplePaymentTranscript
unfolding decode_pt_message decode_status decode_status_within decode_status_field decode_field_value history
payment-transcript = record {
  serving = record { transcript_is = refl; carried_is = refl; standing_is = refl; follows = record { terminal = _; found = refl; talk_is = refl; awaited_is = refl; standing_is = refl } };
  serving_awaits = refl;
  approved = record { transcript_is = refl; carried_is = refl; standing_is = refl; follows = record { terminal = _; found = refl; talk_is = refl; awaited_is = refl; standing_is = refl } };
  approved_talk = refl;
  serving_again = record { transcript_is = refl; carried_is = refl; standing_is = refl; follows = record { terminal = _; found = refl; talk_is = refl; awaited_is = refl; standing_is = refl } };
  declined = record { transcript_is = refl; carried_is = refl; standing_is = refl; follows = record { terminal = _; found = refl; talk_is = refl; awaited_is = refl; standing_is = refl } };
  refused = record { transcript_is = refl; carried_is = refl; standing_is = refl; follows = record { terminal = _; found = refl; talk_is = refl; awaited_is = refl; standing_is = refl } };
  aside = record { transcript_is = refl; carried_is = refl; standing_is = refl; follows = record { terminal = _; found = refl; talk_is = refl; awaited_is = refl; standing_is = refl } };
  unclear = record { transcript_is = refl; carried_is = refl; standing_is = refl; follows = record { terminal = _; found = refl; talk_is = refl; awaited_is = refl; standing_is = refl } };
}

waiting-transcript : ExampleWaitingTranscript
unfolding decode_pt_message decode_status decode_status_within decode_status_field decode_field_value history
waiting-transcript = record {
  begun = record { transcript_is = refl; carried_is = refl; standing_is = refl; follows = record { terminal = _; found = refl; talk_is = refl; awaited_is = refl; standing_is = refl } };
  none_left = refl;
}

reversal-transcript : ExampleReversalTranscript
unfolding decode_pt_message decode_status decode_status_within decode_status_field decode_field_value history transaction_text digits
reversal-transcript = record {
  reversing = record { transcript_is = refl; carried_is = refl; standing_is = refl; follows = record { terminal = _; found = refl; talk_is = refl; awaited_is = refl; standing_is = refl } };
  reversed = record { transcript_is = refl; carried_is = refl; standing_is = refl; follows = record { terminal = _; found = refl; talk_is = refl; awaited_is = refl; standing_is = refl } };
}

stop-transcript : ExampleStopTranscript
unfolding decode_pt_message decode_status decode_status_within decode_status_field decode_field_value history
stop-transcript = record {
  wished = record { transcript_is = refl; carried_is = refl; standing_is = refl; follows = record { terminal = _; found = refl; talk_is = refl; awaited_is = refl; standing_is = refl } };
  wished_awaits = refl;
  unacknowledged = record { transcript_is = refl; carried_is = refl; standing_is = refl; follows = record { terminal = _; found = refl; talk_is = refl; awaited_is = refl; standing_is = refl } };
  unacknowledged_awaits = refl;
  late = record { transcript_is = refl; carried_is = refl; standing_is = refl; follows = record { terminal = _; found = refl; talk_is = refl; awaited_is = refl; standing_is = refl } };
  late_awaits = refl;
  cut = record { transcript_is = refl; carried_is = refl; standing_is = refl; follows = record { terminal = _; found = refl; talk_is = refl; awaited_is = refl; standing_is = refl } };
}

day-transcript : ExampleDayTranscript
unfolding decode_pt_message decode_status decode_status_within decode_status_field decode_field_value history chars
day-transcript = record {
  day = record { transcript_is = refl; carried_is = refl; standing_is = refl; follows = record { terminal = _; found = refl; talk_is = refl; awaited_is = refl; standing_is = refl } };
  day_awaits = refl;
  day_done = record { transcript_is = refl; carried_is = refl; standing_is = refl; follows = record { terminal = _; found = refl; talk_is = refl; awaited_is = refl; standing_is = refl } };
  day_done_awaits = refl;
  display = record { transcript_is = refl; carried_is = refl; standing_is = refl; follows = record { terminal = _; found = refl; talk_is = refl; awaited_is = refl; standing_is = refl } };
  display_awaits = refl;
  displayed = record { transcript_is = refl; carried_is = refl; standing_is = refl; follows = record { terminal = _; found = refl; talk_is = refl; awaited_is = refl; standing_is = refl } };
  displayed_awaits = refl;
  refused = record { transcript_is = refl; carried_is = refl; standing_is = refl; follows = record { terminal = _; found = refl; talk_is = refl; awaited_is = refl; standing_is = refl } };
  refused_awaits = refl;
}

pub example-transcript : ExampleTranscript
example-transcript = record { ready = ready-transcript; payments = payment-transcript; waiting = waiting-transcript; reversal = reversal-transcript; stop = stop-transcript; days = day-transcript }
