-- What the loop of `left` keeps, and why it ends.
use Rattle.std.proofs.Common.{◌≡◌, ◌+◌, length}
use Rattle.zvt_msg.specs.BlockDecode.{bytes_left}
use Rattle.zvt_msg.proofs.block.left.Given as goal

-- what is left from here on is what is left of all
abbrev pub invariant-loop-object : goal.invariant-loop-object
invariant-loop-object l = record {
  offset : l.tlv.offset + length l.tlv.rest ≡ length l.bytes;
  same : bytes_left l.tlv.rest ≡ bytes_left l.bytes;
}

abbrev pub decreases-loop-object : goal.decreases-loop-object
decreases-loop-object l = length l.tlv.rest
