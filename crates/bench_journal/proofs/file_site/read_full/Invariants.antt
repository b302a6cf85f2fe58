-- What the loop of `read_full` keeps.
use Rattle.std.proofs.Common.{◌≤◌, length}
use Rattle.bench_journal.proofs.file_site.read_full.Given as goal

abbrev pub invariant-loop : goal.invariant-loop
invariant-loop l = l.filled ≤ length l.buf
