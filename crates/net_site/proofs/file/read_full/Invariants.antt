-- What the loop of `read_full` keeps.
use Rattle.std.proofs.Common.{◌≡◌, ◌≤◌, length}
use Rattle.net_site.proofs.file.read_full.Given as goal

abbrev pub invariant-loop : goal.invariant-loop
invariant-loop l = record {
  size : length l.buf ≡ length l.fn.buf;
  filled : l.filled ≤ length l.buf;
}

abbrev pub invariant-loop-byte : goal.invariant-loop-byte
invariant-loop-byte l = length l.byte-items ≡ length l.initial.byte-items
