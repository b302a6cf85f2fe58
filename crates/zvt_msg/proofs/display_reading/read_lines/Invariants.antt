-- What the loop of `read_lines` keeps, and why it ends.
use Rattle.std.proofs.Common.{◌≡◌, ◌≤◌, length}
use Rattle.zvt_msg.specs.CommandDecode.{decode_display_lines_within}
use Rattle.zvt_msg.proofs.DisplayLemmas.{all_from}
use Rattle.zvt_msg.proofs.display_reading.read_lines.Given as goal

-- the lines so far, and those that the rest gives, are what all the bytes give
abbrev pub invariant-loop-rest : goal.invariant-loop-rest
invariant-loop-rest l = record {
  few : length l.lines.items ≤ 8;
  same : all_from l.lines.items l.rest ≡ decode_display_lines_within 8 0xF1 l.bytes;
}

abbrev pub decreases-loop-rest : goal.decreases-loop-rest
decreases-loop-rest l = length l.rest
