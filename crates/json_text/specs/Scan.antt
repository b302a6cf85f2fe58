-- Where a prefix ends, as far as strings and UTF-8 go.
use Rattle.std.specs.Prelude.{ℕ, ◌-◌, ◌≤◌, List, [], ◌∷◌, nat_lt, ◌==◌, if◌then◌else◌}

-- outside of strings; in one; after a backslash; in a character of which so many bytes are owed
pub data Scan : Type 0 where
  outside : Scan
  inside : Scan
  escaped : Scan
  owes : ℕ → Scan

-- after one more byte
abbrev pub scan_step : Scan → ℕ → Scan
scan_step outside c = if c == 34 then inside else outside
scan_step inside c =
    if c == 34 then outside else
    (if c == 92 then escaped else
    (if nat_lt c 0xC0 then inside else
    (if nat_lt c 0xE0 then owes 1 else
    (if nat_lt c 0xF0 then owes 2 else owes 3))))
scan_step escaped c = inside
scan_step (owes n) c = if nat_lt 1 n then owes (n - 1) else inside

-- after some more bytes
abbrev pub scan_from : Scan → List ℕ → Scan
scan_from s [] = s
scan_from s (c ∷ b) = scan_from (scan_step s c) b

-- at the end of a prefix
abbrev pub scan : List ℕ → Scan
scan prefix = scan_from outside prefix

-- c, with which no text goes on, is no UTF-8 of a string: it is 80 or above, or it truncates a character
abbrev pub IsBadUtf8 : Scan → ℕ → Type 0
IsBadUtf8 outside c = ⊥
IsBadUtf8 inside c = 128 ≤ c
IsBadUtf8 escaped c = 128 ≤ c
IsBadUtf8 (owes n) c = Unit {0}
