-- What the loop of `next_value` keeps, and why it ends.
use Rattle.std.proofs.Common.{◌≡◌, ◌≤◌, length}
use Rattle.zvt_msg.specs.BlockDecode.{decode_values_with_tag}
use Rattle.zvt_msg.proofs.block_lines.next_value.Given as goal

-- the values from here on are all
abbrev pub invariant-loop-object : goal.invariant-loop-object
invariant-loop-object l = record {
  within : length l.tlv.rest ≤ length l.initial.tlv.rest;
  same : decode_values_with_tag l.tag l.tlv.rest ≡ decode_values_with_tag l.tag l.initial.tlv.rest;
}

abbrev pub decreases-loop-object : goal.decreases-loop-object
decreases-loop-object l = length l.tlv.rest
