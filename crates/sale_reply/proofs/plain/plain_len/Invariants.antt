-- What the loops of `plain_len` keep, and why they end.
use Rattle.std.proofs.Common.{◌-◌, ◌≤◌, length, take}
use Rattle.json_text.specs.Canonical.{canonical_byte}
use Rattle.sale_reply.proofs.PlainLemmas.{ArePlain}
use Rattle.sale_reply.proofs.plain.plain_len.Given as goal

abbrev pub invariant-loop-len : goal.invariant-loop-len
invariant-loop-len l = record {
  within : l.len ≤ length l.bytes;
  plain : ArePlain canonical_byte (take l.len l.bytes);
}

abbrev pub decreases-loop-len : goal.decreases-loop-len
decreases-loop-len l = length l.bytes - l.len
