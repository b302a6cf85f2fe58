-- Inner: a list of numbers in blocks.
use Rattle.std.specs.Prelude.{ℕ, List, length, map, take}
use Rattle.std.specs.List.{flat_map}
use Rattle.json_text.specs.declared.block.Block.{Block}

-- the numbers of each block
abbrev pub number_lists : List Block → List (List ℕ)
number_lists blocks = map (λ block. block.numbers.items) blocks

-- the numbers of all blocks
abbrev pub all_numbers : List (List ℕ) → List ℕ
all_numbers lists = flat_map (λ numbers. numbers) lists

-- how many numbers the blocks before this one have
abbrev pub numbers_before : List (List ℕ) → ℕ → ℕ
numbers_before lists block = length (all_numbers (take block lists))
