-- What the loop of `number_len` keeps, and why it ends.
use Rattle.std.proofs.Common.{◌-◌, ◌≤◌, length, take}
use Rattle.json_text.specs.inner.ReaderStates.{ArePlain, NumberGrows}
use Rattle.json_text.proofs.tokens.number_len.Given as goal

abbrev pub invariant-loop-len : goal.invariant-loop-len
invariant-loop-len l = record {
  within : l.len ≤ length l.bytes;
  leads : NumberGrows l.fn.begun (take l.len l.bytes) l.last;
  plain : ArePlain (take l.len l.bytes);
}

abbrev pub decreases-loop-len : goal.decreases-loop-len
decreases-loop-len l = length l.bytes - l.len
