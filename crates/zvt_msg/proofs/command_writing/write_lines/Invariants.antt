-- What the loop of `write_lines` keeps, and why it ends.
use Rattle.std.proofs.Common.{◌≡◌, ◌+◌, ◌*◌, ◌≤◌, ◌++◌, length, drop}
use Rattle.zvt_msg.specs.CommandCanonical.{canonical_display_lines}
use Rattle.zvt_msg.proofs.command_writing.write_lines.Given as goal

-- what is written, and the lines from here on, are all
abbrev pub invariant-loop-line : goal.invariant-loop-line
invariant-loop-line l = record {
  same : l.out.items ++ canonical_display_lines l.number (drop l.line-index l.line-items) ≡ l.initial.out.items ++ canonical_display_lines 0xF1 l.line-items;
  number : l.number ≡ 0xF1 + l.line-index;
  bound : length l.out.items ≤ 2 + 43 * l.line-index;
  few : length l.line-items ≤ 8;
}
