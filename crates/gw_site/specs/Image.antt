-- What a power failure may leave of the file.
use Rattle.std.specs.Prelude.{◌≡◌, ℕ, ◌+◌, ◌<◌, ◌≤◌, Bool, false, ◌&&◌, nat_lt, nat_le, if◌then◌else◌, List, [], ◌∷◌, length, get_or}
use Rattle.std.specs.List.{list_any}
use Rattle.gw_site.specs.Outside.{Outside, Range}

-- the range covers this offset
abbrev pub covers : ℕ → Range → Bool
covers offset range = nat_le range.offset offset && nat_lt offset (range.offset + range.size)

-- some range covers this offset
abbrev pub is_covered : List Range → ℕ → Bool
is_covered ranges offset = list_any (covers offset) ranges

-- the file may be this one after a power failure: its length lies between those of the last sync and of now, and each byte of the last sync that no write covered since then is as it was
pub record Image (o : Outside) (file : List ℕ) : Type 0 where
  pub no_shorter : length o.stable ≤ length file
  pub no_longer : length file ≤ length o.file
  pub kept : (offset : ℕ) → offset < length o.stable → is_covered o.written offset ≡ false → get_or file offset 0 ≡ get_or o.stable offset 0

-- the bytes from this offset on, with one byte for each that a range covers
abbrev pub junked_from : ℕ → List Range → ℕ → List ℕ → List ℕ
junked_from junk ranges offset [] = []
junked_from junk ranges offset (byte ∷ bytes) = (if is_covered ranges offset then junk else byte) ∷ junked_from junk ranges (offset + 1) bytes

-- the file with all writes, where each byte written since the last sync holds this one
abbrev pub junked : ℕ → Outside → List ℕ
junked junk o = junked_from junk o.written 0 o.file
