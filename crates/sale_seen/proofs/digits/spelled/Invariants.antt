-- What the loop of `spelled` keeps.
use Rattle.std.proofs.Common.{◌≡◌, drop}
use Rattle.sale_seen.specs.inner.Spelled.{spelled_on}
use Rattle.sale_seen.proofs.digits.spelled.Given as goal

abbrev pub invariant-loop-byte : goal.invariant-loop-byte
invariant-loop-byte l = spelled_on l.value (drop l.byte-index l.text) ≡ spelled_on 0 l.text
