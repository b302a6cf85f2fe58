-- Inner: what is written of a byte of a terminal's line.
use Rattle.std.specs.Prelude.{ℕ, List, flat_map}
use Rattle.std.specs.Char.{encode_utf8}
use Rattle.gw_base.specs.Text437.{char_of}
use Rattle.json_text.specs.Canonical.{canonical_byte}

-- its character in UTF-8, escaped where it has to be
abbrev pub shown_byte : ℕ → List ℕ
shown_byte byte = flat_map canonical_byte (encode_utf8 (char_of byte))
