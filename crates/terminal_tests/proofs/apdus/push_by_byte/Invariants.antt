-- What the loop of `push_by_byte` keeps, and why it ends.
use Rattle.std.proofs.Common.{◌≡◌}
use Rattle.zvt_apdu.specs.Decode.{DecodedApdu, decode_apdu}
use Rattle.terminal_tests.proofs.apdus.push_by_byte.Given as goal

-- what waits is less than an APDU
abbrev pub invariant-loop-byte : goal.invariant-loop-byte
invariant-loop-byte l = decode_apdu l.reader ≡ DecodedApdu.Incomplete
