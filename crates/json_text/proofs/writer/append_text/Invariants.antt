-- What the loop of `append_text` keeps.
use Rattle.std.proofs.Common.{◌≡◌, ◌++◌, ◌∷◌, take}
use Rattle.std.specs.Prelude.{flat_map}
use Rattle.json_text.specs.Canonical.{canonical_byte}
use Rattle.json_text.proofs.writer.append_text.Given as goal

abbrev pub invariant-loop-byte : goal.invariant-loop-byte
invariant-loop-byte l = l.out.items ≡ l.fn.out.items ++ (34 ∷ flat_map canonical_byte (take l.byte-index l.text))
