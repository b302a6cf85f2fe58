-- Inner: where the name of a next member comes in the index of an open object.
use Rattle.std.specs.Prelude.{◌≡◌, ℕ, ◌+◌, ◌<◌, ◌≤◌, Bool, List, [], length, if◌then◌else◌, slice_index_or, false}
use Rattle.std.specs.List.{insert}
use Rattle.std.specs.Ordering.{nat_cmp}
use Rattle.std.specs.Cmp.Lexicographic.{slice_cmp}
use Rattle.std.specs.declared.cmp.Ordering.TheVariants.{Greater}
use Rattle.json_text.specs.MemberNames.{has_name, pair_names}
use Rattle.json_text.specs.inner.MemberIndex.{ComesAt, ComesBefore, name_at, names_at}
use Rattle.json_text.specs.inner.NumberBlocks.{all_numbers, number_lists, numbers_before}
use Rattle.json_text.specs.declared.blocks.Gap.{Gap}
use Rattle.json_text.specs.declared.members.OpenObject.{OpenObject}

-- the name of the first number of a block
abbrev pub first_block_name : List (List ℕ) → List (List ℕ) → ℕ → List ℕ
first_block_name ns lists block = name_at ns (slice_index_or (slice_index_or lists block []) 0 0)

-- the name comes into this block: it isn't before the block's first name, unless the block is the first, and it is before that of the next block
pub record IsNameBlock (ns : List (List ℕ)) (lists : List (List ℕ)) (name : List ℕ) (block : ℕ) : Type 0 where
  pub inside : block < length lists
  pub not_after : 0 < block → slice_cmp nat_cmp (first_block_name ns lists block) name ≡ Greater → ⊥
  pub before : block + 1 < length lists → ComesBefore name (first_block_name ns lists (block + 1))

-- the gap is where the name comes among the names of the index
pub record IsNameGap (ns : List (List ℕ)) (lists : List (List ℕ)) (name : List ℕ) (gap : Gap) : Type 0 where
  pub block : gap.block ≤ length lists
  pub before : gap.before ≤ length (slice_index_or lists gap.block [])
  pub comes : ComesAt (names_at ns (all_numbers lists)) name (numbers_before lists gap.block + gap.before)

-- the numbers with one more at the gap, or as they are
abbrev pub with_number : List (List ℕ) → Gap → ℕ → Bool → List ℕ
with_number lists gap number is_inserted = if is_inserted then insert (all_numbers lists) (numbers_before lists gap.block + gap.before) number else all_numbers lists

-- the name is none of the members', and the gap is where it comes in the index
pub record IsGap (o : OpenObject) (name : List ℕ) (gap : Gap) : Type 0 where
  pub new : has_name name (pair_names o.members.items) ≡ false
  pub in_blocks : IsNameGap (pair_names o.members.items) (number_lists o.index.items) name gap
