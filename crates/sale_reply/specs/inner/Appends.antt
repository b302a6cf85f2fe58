-- Inner: what a call appends to a message.
use Rattle.std.specs.Prelude.{◌≡◌, ℕ, ◌+◌, ◌≤◌, List, ◌++◌, length}

-- the part was appended, if there was room for it: with the frame's length, a message has at most 65,540 bytes
pub record Appends (old new part : List ℕ) : Type 0 where
  pub grows : length old + length part ≤ 65540 → new ≡ old ++ part
