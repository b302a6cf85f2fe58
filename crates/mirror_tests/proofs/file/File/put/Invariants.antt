-- Writing loses no disk.
use Rattle.std.proofs.Common.{◌≡◌}
use Rattle.mirror_tests.proofs.file.File.put.Given as goal

abbrev pub invariant-loop-byte : goal.invariant-loop-byte
invariant-loop-byte l = l.self.lost ≡ l.initial.self.lost
