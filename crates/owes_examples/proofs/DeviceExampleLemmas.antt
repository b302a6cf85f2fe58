-- The examples of device requests are computed.
use Rattle.gw_ledger.specs.History.{history}
use Rattle.zvt_apdu.specs.DecodeStream.{decode_apdus, decode_apdus_within}
use Rattle.zvt_msg.specs.MessageDecode.{decode_pt_message}
use Rattle.std.specs.Fmt.{digits}
use Rattle.gw_base.specs.Transaction.{transaction_text}
use Rattle.zvt_msg.specs.BlockDecode.{bytes_left, bytes_left_within, decode_values_with_tag}
use Rattle.zvt_tlv.specs.Decode.{decode_tlv_object}
use Rattle.zvt_tlv.specs.ObjectsDecode.{decode_tlv_objects, decode_tlv_objects_within}
use Rattle.std.proofs.Common.{refl, arith}
use Rattle.owes_examples.specs.DeviceExample.{ExampleAlongRun, ExampleDeviceRequests, ExampleNoRequests}

pub device-requests : ExampleDeviceRequests
unfolding decode_apdus decode_apdus_within decode_pt_message history bytes_left bytes_left_within decode_values_with_tag decode_tlv_object decode_tlv_objects decode_tlv_objects_within transaction_text digits
device-requests = record {
  payment = record { calls_are = refl; standing_is = refl };
  reversal = record { calls_are = refl; standing_is = refl };
  day = record { calls_are = refl; standing_is = refl };
  greatest = record { calls_are = refl; standing_is = refl };
  next = refl;
  premise = record { terminal = _; service = _; last = _; means = record { found = refl; standing_is = refl; message = _; decoded = refl; means = refl }; asker_is = refl; key_is = refl };
  within = omega arith;
}

pub no-requests : ExampleNoRequests
unfolding decode_apdus decode_apdus_within decode_pt_message history
no-requests = record {
  gone = record { calls_are = refl; standing_is = refl };
  ready = record { calls_are = refl; standing_is = refl };
  enquired = record { calls_are = refl; standing_is = refl };
  number = refl;
}

pub along-run : ExampleAlongRun
unfolding decode_pt_message history
along-run = record { owed = refl; number = refl; lost = refl; none = refl; around = refl }
