-- Inner: the sorted slots in blocks.
use Rattle.std.specs.Prelude.{◌≡◌, ℕ, ◌+◌, ◌<◌, List, map, length, take, slice_index_or}
use Rattle.std.specs.List.{All, flat_map, insert}
use Rattle.std.specs.declared.cmp.Ordering.TheVariants.{Greater}
use Rattle.gw_base.specs.Key.{key_cmp}
use Rattle.gw_base.specs.declared.key.Key.{Key}
use Rattle.jrn_record.specs.declared.records.Record.{Record}
use Rattle.gw_ledger.specs.KeyTable.{key_rows}
use Rattle.gw_ledger.specs.Table.{IsGapFor}

-- a block as contracts see it: its slots, and the key of the first
pub record BlockValue : Type 0 where
  pub key : Key
  pub slots : List ℕ

-- the slots of each block
abbrev pub slot_lists : List BlockValue → List (List ℕ)
slot_lists blocks = map (λ block. block.slots) blocks

-- the slots of all blocks
abbrev pub all_slots : List (List ℕ) → List ℕ
all_slots blocks = flat_map (λ block. block) blocks

-- how many slots the blocks before this one have
abbrev pub start_of : List (List ℕ) → ℕ → ℕ
start_of blocks at = length (all_slots (take at blocks))

-- the first slot of a block
abbrev pub first_in : List ℕ → ℕ
first_in block = slice_index_or block 0 0

-- the first slot of each block
abbrev pub firsts : List (List ℕ) → List ℕ
firsts blocks = map first_in blocks

-- the key of a block with its first slot
abbrev pub first_row : BlockValue → Key × ℕ
first_row block = (block.key, first_in block.slots)

-- the key of each block with its first slot
abbrev pub first_rows : List BlockValue → List (Key × ℕ)
first_rows blocks = map first_row blocks

-- each block has a slot, and room for one more
pub record AreBlocks (blocks : List (List ℕ)) : Type 0 where
  pub some : All (λ block. 0 < length block) blocks
  pub room : All (λ block. length block < 128) blocks

-- the slots as contracts see them, the key of each block with its first slot, and for how many more slots there is room at least
pub record BlocksValue : Type 0 where
  pub slots : List ℕ
  pub firsts : List (Key × ℕ)
  pub spare : ℕ

-- a key belongs into the block of this row: the block's key isn't above, but for the first block, and that of the next block is above
pub record IsBlockFor (rows : List (Key × ℕ)) (key : Key) (at : ℕ) : Type 0 where
  pub inside : at < length rows
  pub not_above : (d : Key × ℕ) → 0 < at → key_cmp (slice_index_or rows at d).0 key ≡ Greater → ⊥
  pub above : (d : Key × ℕ) → at + 1 < length rows → key_cmp (slice_index_or rows (at + 1) d).0 key ≡ Greater

-- the slots have one more, where its key comes
pub record IsInserted (records : List Record) (slots : List ℕ) (key : Key) (slot : ℕ) (more : List ℕ) : Type 0 where
  pub at : ℕ
  pub gap : IsGapFor key_cmp (key_rows records slots) key at
  pub inserted : more ≡ insert slots at slot
