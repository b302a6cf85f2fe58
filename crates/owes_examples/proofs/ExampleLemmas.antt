-- The examples of what terminals are owed are computed.
use Rattle.std.proofs.Common.{refl}
use Rattle.std.specs.Str.{chars}
use Rattle.gw_ledger.specs.History.{history}
use Rattle.zvt_apdu.specs.DecodeStream.{decode_apdus, decode_apdus_within}
use Rattle.zvt_bmp.specs.Decode.{decode_field_value, decode_status_field, decode_status_within, decode_status}
use Rattle.zvt_msg.specs.MessageDecode.{decode_pt_message}
use Rattle.owes_examples.specs.TerminalExample.{ExampleBecomesReady, ExampleReportsLast, ExampleRegistrationFails, ExampleEnquiryFails, ExampleLinkFails, ExampleSilence, ExampleStrayMessages, ExampleForeignCommand, ExampleOutside, ExampleFailedSend, ExampleUnlinked, ExampleAside, ExampleStop, ExampleLateStop, ExampleComparedReports, ExampleManyTerminals, ExampleDiagnosis, ExampleEndOfDay, ExampleDayLost, ExampleDayStopped, ExampleDisplay, ExampleDisplayLost, ExampleOutputs, ExampleLostServing}

pub becomes-ready : ExampleBecomesReady
unfolding decode_apdus decode_apdus_within decode_pt_message history
becomes-ready = record {
  linked = record { calls_are = refl; standing_is = refl; awaited_is = refl };
  acknowledged = record { calls_are = refl; standing_is = refl; awaited_is = refl };
  registered = record { calls_are = refl; standing_is = refl; awaited_is = refl };
  enquired = record { calls_are = refl; standing_is = refl; awaited_is = refl };
  ready = record { calls_are = refl; standing_is = refl; awaited_is = refl };
}

pub reports-last : ExampleReportsLast
unfolding decode_apdus decode_apdus_within decode_pt_message decode_status decode_status_within decode_status_field decode_field_value history
reports-last = record {
  apart = record { calls_are = refl; standing_is = refl; awaited_is = refl };
  together = record { calls_are = refl; standing_is = refl; awaited_is = refl };
}

pub registration-fails : ExampleRegistrationFails
unfolding decode_apdus decode_apdus_within decode_pt_message decode_status decode_status_within decode_status_field decode_field_value history
registration-fails = record {
  declined = record { calls_are = refl; standing_is = refl; awaited_is = refl };
  not_due = record { calls_are = refl; standing_is = refl; awaited_is = refl };
  due = record { calls_are = refl; standing_is = refl; awaited_is = refl };
  refused = record { calls_are = refl; standing_is = refl; awaited_is = refl };
  by_status = record { calls_are = refl; standing_is = refl; awaited_is = refl };
  unclear = record { calls_are = refl; standing_is = refl; awaited_is = refl };
  too_early = record { calls_are = refl; standing_is = refl; awaited_is = refl };
}

pub enquiry-fails : ExampleEnquiryFails
unfolding decode_apdus decode_apdus_within decode_pt_message history
enquiry-fails = record {
  unclear = record { calls_are = refl; standing_is = refl; awaited_is = refl };
  refused = record { calls_are = refl; standing_is = refl; awaited_is = refl };
  other_code = record { calls_are = refl; standing_is = refl; awaited_is = refl };
}

pub link-fails : ExampleLinkFails
unfolding decode_apdus decode_apdus_within decode_pt_message history
link-fails = record {
  failed = record { calls_are = refl; standing_is = refl; awaited_is = refl };
  again = record { calls_are = refl; standing_is = refl; awaited_is = refl };
  lost = record { calls_are = refl; standing_is = refl; awaited_is = refl };
}

pub silence : ExampleSilence
unfolding decode_apdus decode_apdus_within decode_pt_message history
silence = record {
  asked = record { calls_are = refl; standing_is = refl; awaited_is = refl };
  asked_late = record { calls_are = refl; standing_is = refl; awaited_is = refl };
  begun = record { calls_are = refl; standing_is = refl; awaited_is = refl };
  begun_late = record { calls_are = refl; standing_is = refl; awaited_is = refl };
  put_off = record { calls_are = refl; standing_is = refl; awaited_is = refl };
  in_time = record { calls_are = refl; standing_is = refl; awaited_is = refl };
  without_dialogue = record { calls_are = refl; standing_is = refl; awaited_is = refl };
}

pub stray-messages : ExampleStrayMessages
unfolding decode_apdus decode_apdus_within decode_pt_message history
stray-messages = record {
  acknowledged = record { calls_are = refl; standing_is = refl; awaited_is = refl };
  ack_alone = record { calls_are = refl; standing_is = refl; awaited_is = refl };
}

pub foreign-command : ExampleForeignCommand
unfolding decode_apdus decode_apdus_within decode_pt_message history
foreign-command = record {
  refused = record { calls_are = refl; standing_is = refl; awaited_is = refl };
  in_dialogue = record { calls_are = refl; standing_is = refl; awaited_is = refl };
}

pub outside : ExampleOutside
unfolding decode_apdus decode_apdus_within decode_pt_message decode_status decode_status_within decode_status_field decode_field_value history
outside = record {
  status = record { calls_are = refl; standing_is = refl; awaited_is = refl };
  oversized = record { calls_are = refl; standing_is = refl; awaited_is = refl };
  then_good = record { calls_are = refl; standing_is = refl; awaited_is = refl };
}

pub failed-send : ExampleFailedSend
unfolding decode_apdus decode_apdus_within decode_pt_message decode_status decode_status_within decode_status_field decode_field_value history
failed-send = record {
  first = record { calls_are = refl; standing_is = refl; awaited_is = refl };
  second = record { calls_are = refl; standing_is = refl; awaited_is = refl };
  command = record { calls_are = refl; standing_is = refl; awaited_is = refl };
}

pub unlinked : ExampleUnlinked
unfolding decode_apdus decode_apdus_within decode_pt_message decode_status decode_status_within decode_status_field decode_field_value history
unlinked = record {
  unlinked = record { calls_are = refl; standing_is = refl; awaited_is = refl };
  absent = record { calls_are = refl; standing_is = refl; awaited_is = refl };
}

pub aside : ExampleAside
unfolding decode_apdus decode_apdus_within decode_pt_message history
aside = record {
  message = record { calls_are = refl; standing_is = refl; awaited_is = refl };
  foreign = record { calls_are = refl; standing_is = refl; awaited_is = refl };
  lost = record { calls_are = refl; standing_is = refl; awaited_is = refl };
}

pub stop : ExampleStop
unfolding decode_apdus decode_apdus_within decode_pt_message history
stop = record {
  sent = record { calls_are = refl; standing_is = refl; awaited_is = refl };
  refused = record { calls_are = refl; standing_is = refl; awaited_is = refl };
  late = record { calls_are = refl; standing_is = refl; awaited_is = refl };
}

pub late-stop : ExampleLateStop
unfolding decode_apdus decode_apdus_within decode_pt_message history
late-stop = record {
  nack = record { calls_are = refl; standing_is = refl; awaited_is = refl };
  ack_first = record { calls_are = refl; standing_is = refl; awaited_is = refl };
  nack_later = record { calls_are = refl; standing_is = refl; awaited_is = refl };
  none_below = record { calls_are = refl; standing_is = refl; awaited_is = refl };
}

pub compared-reports : ExampleComparedReports
compared-reports = record {
  same = refl;
  above = refl;
  below = refl;
}

pub many-terminals : ExampleManyTerminals
unfolding decode_apdus decode_apdus_within decode_pt_message history
many-terminals = record {
  all_linked = refl;
  last_alone = refl;
  last_is = refl;
  first_is = refl;
  before_is = refl;
}

pub diagnosis : ExampleDiagnosis
diagnosis = record {
  new = refl;
  unlinked = refl;
  registering = refl;
  enquiring = refl;
  ready = refl;
  serving = refl;
  aside = refl;
  unknown = refl;
}

pub end-of-day : ExampleEndOfDay
unfolding decode_apdus decode_apdus_within decode_pt_message decode_status decode_status_within decode_status_field decode_field_value history
end-of-day = record {
  begun = record { calls_are = refl; standing_is = refl; awaited_is = refl };
  acknowledged = record { calls_are = refl; standing_is = refl; awaited_is = refl };
  done = record { calls_are = refl; standing_is = refl; awaited_is = refl };
  declined = record { calls_are = refl; standing_is = refl; awaited_is = refl };
  refused = record { calls_are = refl; standing_is = refl; awaited_is = refl };
  by_status = record { calls_are = refl; standing_is = refl; awaited_is = refl };
}

pub day-lost : ExampleDayLost
unfolding decode_apdus decode_apdus_within decode_pt_message decode_status decode_status_within decode_status_field decode_field_value history
day-lost = record {
  unclear = record { calls_are = refl; standing_is = refl; awaited_is = refl };
  too_early = record { calls_are = refl; standing_is = refl; awaited_is = refl };
  not_acknowledged = record { calls_are = refl; standing_is = refl; awaited_is = refl };
  silent = record { calls_are = refl; standing_is = refl; awaited_is = refl };
  lost = record { calls_are = refl; standing_is = refl; awaited_is = refl };
  outside = record { calls_are = refl; standing_is = refl; awaited_is = refl };
}

pub day-stopped : ExampleDayStopped
unfolding decode_apdus decode_apdus_within decode_pt_message decode_status decode_status_within decode_status_field decode_field_value history
day-stopped = record {
  sent = record { calls_are = refl; standing_is = refl; awaited_is = refl };
  once = record { calls_are = refl; standing_is = refl; awaited_is = refl };
  wished = record { calls_are = refl; standing_is = refl; awaited_is = refl };
  sent_later = record { calls_are = refl; standing_is = refl; awaited_is = refl };
  aborted = record { calls_are = refl; standing_is = refl; awaited_is = refl };
  done = record { calls_are = refl; standing_is = refl; awaited_is = refl };
}

pub display : ExampleDisplay
unfolding decode_apdus decode_apdus_within decode_pt_message decode_status decode_status_within decode_status_field decode_field_value history chars
display = record {
  begun = record { calls_are = refl; standing_is = refl; awaited_is = refl };
  done = record { calls_are = refl; standing_is = refl; awaited_is = refl };
  refused = record { calls_are = refl; standing_is = refl; awaited_is = refl };
  not_stopped = record { calls_are = refl; standing_is = refl; awaited_is = refl };
  without_response = record { calls_are = refl; standing_is = refl; awaited_is = refl };
}

pub display-lost : ExampleDisplayLost
unfolding decode_apdus decode_apdus_within decode_pt_message decode_status decode_status_within decode_status_field decode_field_value history chars
display-lost = record {
  unclear = record { calls_are = refl; standing_is = refl; awaited_is = refl };
  code_0 = record { calls_are = refl; standing_is = refl; awaited_is = refl };
  silent = record { calls_are = refl; standing_is = refl; awaited_is = refl };
  lost = record { calls_are = refl; standing_is = refl; awaited_is = refl };
}

pub outputs : ExampleOutputs
outputs = record {
  unknown = refl;
  no_customer = refl;
  unlinked = refl;
  aside = refl;
  busy = refl;
  begins = refl;
  print = refl;
}

pub lost-serving : ExampleLostServing
lost-serving = record {
  transaction = record { comes = record { calls_are = refl; standing_is = refl; awaited_is = refl }; asker_is = refl };
  end_of_day = record { comes = record { calls_are = refl; standing_is = refl; awaited_is = refl }; asker_is = refl };
  display = record { comes = record { calls_are = refl; standing_is = refl; awaited_is = refl }; asker_is = refl };
  without_results = record { comes = record { calls_are = refl; standing_is = refl; awaited_is = refl }; asker_is = refl };
}
