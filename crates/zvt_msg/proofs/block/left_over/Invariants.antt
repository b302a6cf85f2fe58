-- What the loop of `left_over` keeps, and why it ends.
use Rattle.std.proofs.Common.{◌≡◌, ◌+◌, length}
use Rattle.zvt_tlv.specs.ObjectsDecode.{decode_tlv_objects}
use Rattle.zvt_msg.proofs.block.left_over.Given as goal

-- what is left from here on is what is left of all
abbrev pub invariant-loop : goal.invariant-loop
invariant-loop l = record {
  offset : l.tlv.offset + length l.tlv.rest ≡ length l.bytes;
  same : (decode_tlv_objects l.tlv.rest).rest ≡ (decode_tlv_objects l.bytes).rest;
}

abbrev pub decreases-loop : goal.decreases-loop
decreases-loop l = length l.tlv.rest
