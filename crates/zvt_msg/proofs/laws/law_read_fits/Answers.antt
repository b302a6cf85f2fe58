-- Proof of the contract of `law_read_fits`.
use Rattle.std.proofs.Common.{refl, ap, arith}
use Rattle.zvt_tlv.specs.Decode.{decode_tlv_object}
use Rattle.zvt_tlv.specs.ObjectsDecode.{decode_tlv_objects, decode_tlv_objects_within}
use Rattle.zvt_msg.specs.BlockDecode.{bytes_left, bytes_left_within, decode_values_with_tag}
use Rattle.zvt_msg.specs.MessageDecode.{status_or_fault, decode_pt_message}
use Rattle.zvt_msg.proofs.LimitLemmas.{decoded_numbers, decoded_sizes, decoded_form, decoded_status_size}
use Rattle.zvt_msg.proofs.PrintedLinesLemmas.{decoded_printed}
use Rattle.zvt_msg.proofs.laws.law_read_fits.Goals as goal

pub returns-clause-numbers : goal.returns-clause-numbers
returns-clause-numbers c = decoded_numbers

pub returns-clause-sizes : goal.returns-clause-sizes
returns-clause-sizes c = decoded_sizes

pub returns-clause-form : goal.returns-clause-form
returns-clause-form c = decoded_form

pub returns-clause-status_size : goal.returns-clause-status_size
returns-clause-status_size c = decoded_status_size

pub returns-clause-printed : goal.returns-clause-printed
returns-clause-printed c = decoded_printed

pub returns-clause-examples : goal.returns-clause-examples
unfolding decode_pt_message bytes_left bytes_left_within decode_values_with_tag decode_tlv_object decode_tlv_objects decode_tlv_objects_within
returns-clause-examples c = record {
  status = ap status_or_fault c.law_fields_fit.ensures.example;
  block = refl;
  two_lines = refl;
  within = omega arith;
  printed = refl;
}
