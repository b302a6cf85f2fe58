-- The slots of a journal's file: 256 bytes each, a gate and then a body of 255.
use Rattle.std.specs.Prelude.{◌≡◌, ◌↔◌, ℕ, ◌+◌, ◌*◌, ◌<◌, ◌≤◌, List, length, slice_index, slice_get, Some}
use Rattle.gw_site.specs.Outside.{file_part}

-- the gate of this slot is open: its byte is A5, in a file that has more than one byte
abbrev pub HasGate : List ℕ → ℕ → Type 0
HasGate file slot = (1 < length file) × (slice_index file (256 * slot) ≡ 165)

-- the slot is open: its gate is, and so are those of all slots below
abbrev pub IsOpenSlot : List ℕ → ℕ → Type 0
IsOpenSlot file slot = (lower : ℕ) → lower ≤ slot → HasGate file lower

-- the body of a slot
abbrev pub body_at : List ℕ → ℕ → List ℕ
body_at file slot = file_part file (256 * slot + 1) 255

-- these are the bodies of the open slots of a file, in their order
pub record AreSlots (file : List ℕ) (bodies : List (List ℕ)) : Type 0 where
  pub exactly : (slot : ℕ) → IsOpenSlot file slot ↔ (slot < length bodies)
  pub each : (slot : ℕ) → slot < length bodies → slice_get bodies slot ≡ Some (body_at file slot)

-- the slot is open, and the file ends before the gate of the next
pub record IsTruncatedSlot (file : List ℕ) (slot : ℕ) : Type 0 where
  pub opened : IsOpenSlot file slot
  pub ends : length file ≤ 256 * (slot + 1)

-- the file has more bytes than so many slots and the gate after them
abbrev pub IsFileTooLong : ℕ → List ℕ → Type 0
IsFileTooLong slots file = 256 * slots + 1 < length file
