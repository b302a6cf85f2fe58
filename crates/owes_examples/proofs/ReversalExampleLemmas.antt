-- The examples of reversals are computed.
use Rattle.std.proofs.Common.{refl}
use Rattle.std.specs.Fmt.{digits}
use Rattle.gw_base.specs.Transaction.{transaction_text}
use Rattle.gw_ledger.specs.History.{history}
use Rattle.zvt_apdu.specs.DecodeStream.{decode_apdus, decode_apdus_within}
use Rattle.zvt_bmp.specs.Decode.{decode_field_value, decode_status_field, decode_status_within, decode_status}
use Rattle.zvt_msg.specs.MessageDecode.{decode_pt_message}
use Rattle.owes_examples.specs.ReversalExample.{ExampleReversalBegins, ExampleReversalEnds, ExampleReversalRepeated, ExampleReversalRefused, ExampleReversalUnserved, ExampleReversalReported}

pub reversal-begins : ExampleReversalBegins
unfolding decode_apdus decode_apdus_within decode_pt_message decode_status decode_status_within decode_status_field decode_field_value history transaction_text digits
reversal-begins = record {
  begins = record { calls_are = refl; standing_is = refl };
  command = refl;
  with_amount = record { calls_are = refl; standing_is = refl };
  acknowledged = record { calls_are = refl; standing_is = refl };
}

pub reversal-ends : ExampleReversalEnds
unfolding decode_apdus decode_apdus_within decode_pt_message decode_status decode_status_within decode_status_field decode_field_value history transaction_text digits
reversal-ends = record {
  approved = record { calls_are = refl; standing_is = refl };
  less = record { calls_are = refl; standing_is = refl };
  declined = record { calls_are = refl; standing_is = refl };
  refused = record { calls_are = refl; standing_is = refl };
  unclear = record { calls_are = refl; standing_is = refl };
}

pub reversal-repeated : ExampleReversalRepeated
unfolding decode_apdus decode_apdus_within decode_pt_message decode_status decode_status_within decode_status_field decode_field_value history transaction_text digits
reversal-repeated = record {
  approved = record { calls_are = refl; standing_is = refl };
  declined = record { calls_are = refl; standing_is = refl };
  status = record { calls_are = refl; standing_is = refl };
  in_progress = record { calls_are = refl; standing_is = refl };
  open_status = record { calls_are = refl; standing_is = refl };
}

pub reversal-refused : ExampleReversalRefused
unfolding decode_apdus decode_apdus_within decode_pt_message decode_status decode_status_within decode_status_field decode_field_value history transaction_text digits
reversal-refused = record {
  unknown = record { fails = record { calls_are = refl; standing_is = refl } };
  other_terminal = record { fails = record { calls_are = refl; standing_is = refl } };
  part = record { fails = record { calls_are = refl; standing_is = refl } };
  declined = record { fails = record { calls_are = refl; standing_is = refl } };
  reversed = record { fails = record { calls_are = refl; standing_is = refl } };
  reversal = record { fails = record { calls_are = refl; standing_is = refl } };
  settled_one = record { fails = record { calls_are = refl; standing_is = refl } };
  used_up = record { fails = record { calls_are = refl; standing_is = refl } };
  original_first = record { fails = record { calls_are = refl; standing_is = refl } };
}

pub reversal-unserved : ExampleReversalUnserved
unfolding decode_apdus decode_apdus_within decode_pt_message decode_status decode_status_within decode_status_field decode_field_value history transaction_text digits
reversal-unserved = record {
  after_decline = record { calls_are = refl; standing_is = refl };
  unlinked = record { calls_are = refl; standing_is = refl };
  busy = record { calls_are = refl; standing_is = refl };
  room = record { calls_are = refl; standing_is = refl };
  enough = record { calls_are = refl; standing_is = refl };
}

pub reversal-reported : ExampleReversalReported
unfolding decode_apdus decode_apdus_within decode_pt_message decode_status decode_status_within decode_status_field decode_field_value history transaction_text digits
reversal-reported = record {
  approved = record { calls_are = refl; standing_is = refl };
  unperformed = record { calls_are = refl; standing_is = refl };
  later_run = record { calls_are = refl; standing_is = refl };
  below = record { calls_are = refl; standing_is = refl };
}
