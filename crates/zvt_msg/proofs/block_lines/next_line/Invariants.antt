-- What the loop of `next_line` keeps, and why it ends.
use Rattle.std.proofs.Common.{◌≡◌, length}
use Rattle.zvt_msg.specs.BlockDecode.{block_lines_from}
use Rattle.zvt_msg.proofs.block_lines.next_line.Given as goal

-- the lines from here on are all
abbrev pub invariant-loop-line : goal.invariant-loop-line
invariant-loop-line l = block_lines_from l.lines.rest l.objects.rest ≡ block_lines_from l.initial.lines.rest l.initial.objects.rest

abbrev pub decreases-loop-line : goal.decreases-loop-line
decreases-loop-line l = length l.objects.rest
