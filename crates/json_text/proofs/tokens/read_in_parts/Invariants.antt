-- What the loop of `read_in_parts` keeps, and why it ends.
use Rattle.std.proofs.Common.{◌≤◌, ◌-◌, [], length, string_bytes}
use Rattle.json_text.specs.inner.ReaderProgress.{StringRead}
use Rattle.json_text.proofs.tokens.read_in_parts.Given as goal

abbrev pub invariant-loop-text : goal.invariant-loop-text
invariant-loop-text l = record {
  reads : StringRead l.bytes l.fn.offset [] l.offset (string_bytes l.text);
  forward : l.fn.offset ≤ l.offset;
  fits : l.offset ≤ length l.bytes;
}

abbrev pub decreases-loop-text : goal.decreases-loop-text
decreases-loop-text l = length l.bytes - l.offset
