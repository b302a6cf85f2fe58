-- Inner: the words of a line, as the grammar sees them.
use Rattle.std.specs.Borrow.{Bor}
use Rattle.std.specs.Prelude.{ℕ, ◌/◌, ◌%◌, Bool, ◌&&◌, nat_le, List}
use Rattle.gw_script.specs.Decode.{WordAndRest}
use Rattle.sim_script.specs.declared.line.Chunk.{Chunk}

-- a word and what follows the space that ends it
abbrev pub parts_value : Bor (List ℕ) × Bor (List ℕ) → WordAndRest
parts_value parts = record { word = parts.0.now; rest = parts.1.now }

-- the bytes of a chunk
abbrev pub chunk_value : Chunk → List ℕ
chunk_value chunk = chunk.bytes

-- both halves of the byte are decimal digits
abbrev pub is_bcd_byte : ℕ → Bool
is_bcd_byte byte = nat_le (byte / 16) 9 && nat_le (byte % 16) 9
