-- The examples of payments are computed.
use Rattle.std.proofs.Common.{refl}
use Rattle.gw_ledger.specs.History.{history}
use Rattle.zvt_apdu.specs.DecodeStream.{decode_apdus, decode_apdus_within}
use Rattle.zvt_bmp.specs.Decode.{decode_field_value, decode_status_field, decode_status_within, decode_status}
use Rattle.zvt_msg.specs.MessageDecode.{decode_pt_message}
use Rattle.gw_owes.specs.PaymentExample.{intent_after}
use Rattle.owes_examples.specs.PaymentExample.{ExampleBesideDay, ExamplePaymentAccepted, ExamplePaymentBegins, ExampleCommandFails, ExampleApproved, ExampleNotAbove, ExampleUnclearEnd, ExampleDeclined, ExampleSecondRequest, ExampleRoom}
use Rattle.gw_owes.proofs.SetLemmas.{same-some}

pub payment-begins : ExamplePaymentBegins
unfolding decode_apdus decode_apdus_within decode_pt_message decode_status decode_status_within decode_status_field decode_field_value history
payment-begins = record {
  begins = record { calls_are = refl; standing_is = refl };
  command = refl;
  last_number = record { calls_are = refl; standing_is = refl };
  acknowledged = record { calls_are = refl; standing_is = refl };
}

pub payment-accepted : ExamplePaymentAccepted
unfolding decode_apdus decode_apdus_within decode_pt_message decode_status decode_status_within decode_status_field decode_field_value history
payment-accepted = record {
  there = refl;
  named = refl;
  found = refl;
  ready = refl;
  begins = refl;
  steps = refl;
  item = record { items_are = refl; no_reply = refl };
  served = record {
    intent = intent_after 122;
    says = record { what = refl; amount = refl; currency = refl; key = λ key own. same-some _ key own; transaction = refl; stamp = refl; before = refl; original = refl; moment_is = refl };
    goes_on = record { terminal = _; found = refl; standing_is = refl; calls_are = refl };
    for_till = refl;
    none_more = refl;
  };
}

pub command-fails : ExampleCommandFails
unfolding decode_apdus decode_apdus_within decode_pt_message decode_status decode_status_within decode_status_field decode_field_value history
command-fails = record {
  lost = record { calls_are = refl; standing_is = refl };
  status = record { calls_are = refl; standing_is = refl };
}

pub approved : ExampleApproved
unfolding decode_apdus decode_apdus_within decode_pt_message decode_status decode_status_within decode_status_field decode_field_value history
approved = record {
  approved = record { calls_are = refl; standing_is = refl };
  partially = record { calls_are = refl; standing_is = refl };
  with_tail = record { calls_are = refl; standing_is = refl };
  till_gone = record { calls_are = refl; standing_is = refl };
}

pub not-above : ExampleNotAbove
unfolding decode_apdus decode_apdus_within decode_pt_message decode_status decode_status_within decode_status_field decode_field_value history
not-above = record {
  equal = record { calls_are = refl; standing_is = refl };
  below = record { calls_are = refl; standing_is = refl };
}

pub unclear-end : ExampleUnclearEnd
unfolding decode_apdus decode_apdus_within decode_pt_message decode_status decode_status_within decode_status_field decode_field_value history
unclear-end = record {
  without_status = record { calls_are = refl; standing_is = refl };
  unknown_field = record { calls_are = refl; standing_is = refl };
  without_code = record { calls_are = refl; standing_is = refl };
  repeated = record { calls_are = refl; standing_is = refl };
}

pub declined : ExampleDeclined
unfolding decode_apdus decode_apdus_within decode_pt_message decode_status decode_status_within decode_status_field decode_field_value history
declined = record {
  refused = record { calls_are = refl; standing_is = refl };
  aborted = record { calls_are = refl; standing_is = refl };
  stopped = record { calls_are = refl; standing_is = refl };
  by_status = record { calls_are = refl; standing_is = refl };
  with_trace = record { calls_are = refl; standing_is = refl };
}

pub second-request : ExampleSecondRequest
unfolding decode_apdus decode_apdus_within decode_pt_message decode_status decode_status_within decode_status_field decode_field_value history
second-request = record {
  again = record { calls_are = refl; standing_is = refl };
  other_amount = record { calls_are = refl; standing_is = refl };
  busy = record { calls_are = refl; standing_is = refl };
  in_progress = record { calls_are = refl; standing_is = refl };
  next = record { calls_are = refl; standing_is = refl };
}

pub room : ExampleRoom
unfolding decode_apdus decode_apdus_within decode_pt_message decode_status decode_status_within decode_status_field decode_field_value history
room = record {
  enough = record { calls_are = refl; standing_is = refl };
  too_few = record { calls_are = refl; standing_is = refl };
  second = record { calls_are = refl; standing_is = refl };
}

pub beside-day : ExampleBesideDay
unfolding history
beside-day = record {
  same_key = record { fails = record { calls_are = refl; standing_is = refl } };
  other_till = record { fails = record { calls_are = refl; standing_is = refl } };
  other_key = record { fails = record { calls_are = refl; standing_is = refl } };
  no_room = record { fails = record { calls_are = refl; standing_is = refl } };
}
