-- What the loop of `read_literal` keeps, and why it ends.
use Rattle.std.proofs.Common.{◌≤◌, ◌-◌, length, drop}
use Rattle.json_text.specs.inner.ReaderStates.{literal, literal_text, literal_tree}
use Rattle.json_text.specs.inner.ReaderProgress.{ReadsOn}
use Rattle.json_text.proofs.tokens.read_literal.Given as goal

abbrev pub invariant-loop-read : goal.invariant-loop-read
invariant-loop-read l = record {
  takes : ReadsOn l.bytes l.fn.offset (literal (drop 1 (literal_text l.wanted)) (literal_tree l.wanted)) l.offset (literal (drop l.read (literal_text l.wanted)) (literal_tree l.wanted));
  forward : l.fn.offset ≤ l.offset;
}

abbrev pub decreases-loop-read : goal.decreases-loop-read
decreases-loop-read l = length l.text - l.read
