-- What the loop of `read_all` keeps, and why it ends.
use Rattle.std.proofs.Common.{◌≡◌, ◌≤◌, length}
use Rattle.zvt_bmp.specs.Decode.{decode_status_within, decode_status}
use Rattle.zvt_bmp.specs.Canonical.{HasFieldDigits}
use Rattle.zvt_bmp.proofs.fields.read_all.Given as goal

-- reading on from here gives what reading all does
abbrev pub invariant-loop-after : goal.invariant-loop-after
invariant-loop-after l = record {
  within : length l.rest ≤ length l.bytes;
  same : decode_status_within (length l.rest) (length l.bytes) l.so_far l.rest ≡ decode_status l.bytes;
  digits : HasFieldDigits l.so_far.fields;
}

abbrev pub decreases-loop-after : goal.decreases-loop-after
decreases-loop-after l = length l.rest
