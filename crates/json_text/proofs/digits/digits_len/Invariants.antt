-- What the loop of `digits_len` keeps, and why it ends.
use Rattle.std.proofs.Common.{◌-◌, ◌≤◌, length, take}
use Rattle.json_text.specs.Number.{AreDigits}
use Rattle.json_text.proofs.digits.digits_len.Given as goal

abbrev pub invariant-loop-len : goal.invariant-loop-len
invariant-loop-len l = record {
  within : l.len ≤ length l.bytes;
  digits : AreDigits (take l.len l.bytes);
}

abbrev pub decreases-loop-len : goal.decreases-loop-len
decreases-loop-len l = length l.bytes - l.len
