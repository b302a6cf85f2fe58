-- What the loops of `ascii_len` keep, and why they end.
use Rattle.std.proofs.Common.{◌-◌, ◌≤◌, length, take}
use Rattle.sale_reply.specs.inner.ShownByte.{shown_byte}
use Rattle.sale_reply.proofs.PlainLemmas.{ArePlain}
use Rattle.sale_reply.proofs.plain.ascii_len.Given as goal

abbrev pub invariant-loop-len : goal.invariant-loop-len
invariant-loop-len l = record {
  within : l.len ≤ length l.bytes;
  plain : ArePlain shown_byte (take l.len l.bytes);
}

abbrev pub decreases-loop-len : goal.decreases-loop-len
decreases-loop-len l = length l.bytes - l.len

abbrev pub invariant-loop-len-2 : goal.invariant-loop-len-2
invariant-loop-len-2 l = record {
  within : l.len ≤ length l.bytes;
  plain : ArePlain shown_byte (take l.len l.bytes);
}

abbrev pub decreases-loop-len-2 : goal.decreases-loop-len-2
decreases-loop-len-2 l = length l.bytes - l.len
