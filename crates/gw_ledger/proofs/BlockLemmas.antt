-- The sorted slots in blocks: where each is among all slots, what a search in one block says of all, and a split.
use Rattle.std.proofs.Common.{◌≡◌, ◌∙◌, ℕ, zero, suc, ◌+◌, ◌-◌, ◌<◌, ◌≤◌, ◌==◌, false, cond, List, [], ◌∷◌, ◌++◌, length, map, get_or, set, take, drop, IsSome, Some, None, Result, Ok, Err, IfOk, IfErr, refl, sym, ap, subst, arith, inl, inr, append_assoc, length-append}
use Rattle.std.specs.List.{All, insert}
use Rattle.std.specs.Cmp.{IsTotalOrder}
use Rattle.std.specs.List.Sorted.{IsSearchInRange, IsBinarySearchResult}
use Rattle.std.specs.Ordering.{ordering_index, ordering_reverse}
use Rattle.std.specs.declared.cmp.Ordering.{Ordering}
use Rattle.std.specs.declared.cmp.Ordering.TheVariants.{Less, Equal, Greater}
use Rattle.std.proofs.lemmas.Bool.{cases_lt, eqb-false, ne_eqb}
use Rattle.std.proofs.lemmas.List.{append-nil, get_or-map, get_or-set_same, get_or_read, length-drop, length-map, length-set, length-take-le, map-append, map-set, set-set, take-append-drop, take_more}
use Rattle.std.proofs.lemmas.List.Elements.{All-push, All-set}
use Rattle.std.proofs.lemmas.List.Concat.{flat_map-append, get_or-flat_map}
use Rattle.std.proofs.lemmas.List.Edits.{insert-append_left, insert-append_right, length-insert}
use Rattle.std.proofs.lemmas.List.Folds.{length-flat_map-take}
use Rattle.gw_base.specs.Key.{key_cmp}
use Rattle.gw_base.specs.declared.key.Key.{Key}
use Rattle.jrn_record.specs.declared.records.Record.{Record}
use Rattle.gw_ledger.specs.Blocks.{AreBlocks, BlockValue, IsBlockFor, all_slots, first_in, first_row, first_rows, firsts, slot_lists, start_of}
use Rattle.gw_ledger.specs.Keys.{key_at}
use Rattle.gw_ledger.specs.KeyTable.{AreKeyed, HaveTheirKeys, key_or_empty, key_rows}
use Rattle.gw_ledger.specs.Table.{IsGapFor, IsRowOf, IsTable, value_at}
use Rattle.gw_ledger.proofs.KeyTableLemmas.{All-insert, found_slot, key_row, key_total, map-insert}
use Rattle.gw_ledger.proofs.TableLemmas.{searched}

-- ---- an order

module _ {K V : Type 0} {R : K → K → Ordering} (o : IsTotalOrder R) (rows : List (K × V)) (sorted : IsTable R rows) (k : K) where
  flip_less : (x y : K) → R x y ≡ Less → R y x ≡ Greater
  flip_less x y less = o.antisymm y x ∙ ap ordering_reverse less

  flip_greater : (x y : K) → R x y ≡ Greater → R y x ≡ Less
  flip_greater x y greater = o.antisymm y x ∙ ap ordering_reverse greater

  -- the rows after that of the key are above it
  pub above_row : (at j : ℕ) (d : K × V) → R (get_or rows at d).0 k ≡ Equal → at < j → j < length rows → R (get_or rows j d).0 k ≡ Greater
  unfolding IsTable
  above_row at j d equal lt inside = flip_less k (get_or rows j d).0 (sym (o.congr (get_or rows at d).0 k (get_or rows j d).0 equal) ∙ sorted at j d lt inside)

  -- a gap is known by the rows at both sides of it
  pub gap_between : (at : ℕ) → at ≤ length rows
      → ((i : ℕ) (d : K × V) → i + 1 ≡ at → R (get_or rows i d).0 k ≡ Less)
      → ((d : K × V) → at < length rows → R (get_or rows at d).0 k ≡ Greater)
      → IsGapFor R rows k at
  unfolding IsTable
  gap_between at inside before after = record {
    inside = inside;
    below = λ i d lt. elim (cases_lt (i + 1) at) [
      | inl more ↦ o.trans (get_or rows i d).0 (get_or rows (at - 1) d).0 k (sorted i (at - 1) d (omega arith) (omega arith)) (before (at - 1) d (omega arith))
      | inr last ↦ before i d (omega arith)
    ];
    above = λ i d ge lt. elim (cases_lt at i) [
      | inl more ↦
          let first : R k (get_or rows at d).0 ≡ Less = flip_greater (get_or rows at d).0 k (after d (omega arith)) in
          flip_less k (get_or rows i d).0 (o.trans k (get_or rows at d).0 (get_or rows i d).0 first (sorted at i d more lt))
      | inr here ↦ let same : i ≡ at = omega arith in rw same (after d (omega arith))
    ];
  }

-- ---- places

-- the blocks before the next one are those before this one and this one
pub start_next : (blocks : List (List ℕ)) (at : ℕ) → at < length blocks → start_of blocks (at + 1) ≡ start_of blocks at + length (get_or blocks at [])
start_next blocks at inside =
    ap (λ prefix. length (all_slots prefix)) (take_more blocks at [] inside)
    ∙ ap length (flat_map-append (λ (block : List ℕ). block) (take at blocks) (get_or blocks at [] ∷ []))
    ∙ length-append (all_slots (take at blocks)) (get_or blocks at [] ++ [])
    ∙ ap (λ (block : List ℕ). start_of blocks at + length block) (append-nil (get_or blocks at []))

-- a block lies within all slots
pub within_all : (blocks : List (List ℕ)) (at : ℕ) → at < length blocks → start_of blocks at + length (get_or blocks at []) ≤ length (all_slots blocks)
within_all blocks at inside = length-flat_map-take (λ (block : List ℕ). block) blocks at [] inside

-- the slots end where the last block ends
pub start_end : (blocks : List (List ℕ)) (at : ℕ) → length blocks ≤ at → start_of blocks at ≡ length (all_slots blocks)
start_end [] zero past = refl
start_end [] (suc at) past = refl
start_end (block ∷ blocks) zero past = absurd (omega arith)
start_end (block ∷ blocks) (suc at) past =
    let rest = start_end blocks at (omega arith) in
    omega (arith, rest, length-append block (all_slots (take at blocks)), length-append block (all_slots blocks))

-- the slot of a block among all slots
pub slot_at : (blocks : List (List ℕ)) (at index : ℕ) (d : ℕ) → at < length blocks → index < length (get_or blocks at [])
    → get_or (all_slots blocks) (start_of blocks at + index) d ≡ get_or (get_or blocks at []) index d
slot_at blocks at index d inside within = get_or-flat_map (λ (block : List ℕ). block) blocks at index [] d inside within

module _ (blocks : List (List ℕ)) (some : All (λ block. 0 < length block) blocks) where
  -- blocks that have slots start one after the other
  pub start_rises : (i j : ℕ) → i < j → j ≤ length blocks → start_of blocks i < start_of blocks j
  start_rises i zero lt inside = absurd (omega arith)
  start_rises i (suc j) lt inside =
      let next : start_of blocks (j + 1) ≡ start_of blocks j + length (get_or blocks j []) = start_next blocks j (omega arith) in
      let one : 0 < length (get_or blocks j []) = some j [] (omega arith) in
      let after : start_of blocks j < start_of blocks (j + 1) = omega (arith, next, one) in
      let more : j + 1 ≡ suc j = omega arith in
      let here : start_of blocks j < start_of blocks (suc j) = subst (λ n. start_of blocks j < start_of blocks n) more after in
      elim (cases_lt i j) [
        | inl less ↦ let before = start_rises i j less (omega arith) in omega (arith, before, here)
        | inr level ↦ let same : i ≡ j = omega arith in rw same here
      ]

  -- nothing is before the first block
  none_before : (at i : ℕ) → at ≤ 0 → i + 1 ≡ start_of blocks at + 0 → ⊥
  none_before at i first before =
      let same : at ≡ 0 = omega arith in
      let start : start_of blocks at ≡ 0 = ap (start_of blocks) same in omega (arith, start)

  module _ (records : List Record) where
    -- the row of a block's slot among the rows of all slots
    pub row_at : (at index : ℕ) (d e : Key × ℕ) → at < length blocks → index < length (get_or blocks at [])
        → get_or (key_rows records (all_slots blocks)) (start_of blocks at + index) d ≡ get_or (key_rows records (get_or blocks at [])) index e
    row_at at index d e inside within =
        get_or-map (key_row records) (all_slots blocks) (start_of blocks at + index) 0 d (omega (arith, within_all blocks at inside))
        ∙ ap (key_row records) (slot_at blocks at index 0 inside within)
        ∙ sym (get_or-map (key_row records) (get_or blocks at []) index 0 e within)

    row_at_start : (at : ℕ) (d e : Key × ℕ) → at < length blocks
        → get_or (key_rows records (all_slots blocks)) (start_of blocks at) d ≡ get_or (key_rows records (get_or blocks at [])) 0 e
    row_at_start at d e inside =
        let same : start_of blocks at + 0 ≡ start_of blocks at = omega arith in
        subst (λ n. get_or (key_rows records (all_slots blocks)) n d ≡ get_or (key_rows records (get_or blocks at [])) 0 e) same
        (row_at at 0 d e inside (some at [] inside))

    -- the row of a block's first slot
    pub row_of_first : (at : ℕ) (d e : Key × ℕ) → at < length blocks
        → get_or (key_rows records (firsts blocks)) at d ≡ get_or (key_rows records (all_slots blocks)) (start_of blocks at) e
    row_of_first at d e inside =
        let len : length (firsts blocks) ≡ length blocks = length-map blocks first_in in
        get_or-map (key_row records) (firsts blocks) at 0 d (omega (arith, len))
        ∙ ap (key_row records) (get_or-map first_in blocks at [] 0 inside)
        ∙ sym (get_or-map (key_row records) (get_or blocks at []) 0 0 e (some at [] inside))
        ∙ sym (row_at_start at e e inside)

    len_rows : (slots : List ℕ) → length (key_rows records slots) ≡ length slots
    len_rows slots = length-map slots (key_row records)

    module _ (sorted : IsTable key_cmp (key_rows records (all_slots blocks))) (keyed : AreKeyed records (all_slots blocks)) where
      len_firsts : length (key_rows records (firsts blocks)) ≡ length blocks
      len_firsts = len_rows (firsts blocks) ∙ length-map blocks first_in

      start_inside : (at : ℕ) → at < length blocks → start_of blocks at < length (all_slots blocks)
      start_inside at inside = omega (arith, within_all blocks at inside, some at [] inside)

      pub firsts_table : IsTable key_cmp (key_rows records (firsts blocks))
      unfolding IsTable
      firsts_table i j d lt inside =
          let there : j < length blocks = omega (arith, len_firsts) in
          rw (row_of_first i d d (omega arith), row_of_first j d d there)
          (sorted (start_of blocks i) (start_of blocks j) d (start_rises i j lt (omega arith)) (omega (arith, len_rows (all_slots blocks), start_inside j there)))

      pub firsts_keyed : AreKeyed records (firsts blocks)
      firsts_keyed i d lt =
          let len : length (firsts blocks) ≡ length blocks = length-map blocks first_in in
          let inside : i < length blocks = omega (arith, len) in
          let same : start_of blocks i + 0 ≡ start_of blocks i = omega arith in
          let slot : get_or (firsts blocks) i d ≡ get_or (all_slots blocks) (start_of blocks i) 0 =
          get_or-map first_in blocks i [] d inside ∙ sym (slot_at blocks i 0 0 inside (some i [] inside)) ∙ ap (λ n. get_or (all_slots blocks) n 0) same in
          subst (λ slot. IsSome (key_at records slot)) (sym slot) (keyed (start_of blocks i) 0 (start_inside i inside))

      module _ (at : ℕ) (inside : at < length blocks) where
        pub block_table : IsTable key_cmp (key_rows records (get_or blocks at []))
        unfolding IsTable
        block_table i j d lt within =
            let there : j < length (get_or blocks at []) = omega (arith, len_rows (get_or blocks at [])) in
            rw (sym (row_at at i d d inside (omega arith)), sym (row_at at j d d inside there))
            (sorted (start_of blocks at + i) (start_of blocks at + j) d (omega arith) (omega (arith, len_rows (all_slots blocks), within_all blocks at inside)))

        pub block_keyed : AreKeyed records (get_or blocks at [])
        block_keyed i d lt = subst (λ slot. IsSome (key_at records slot)) (slot_at blocks at i d inside lt)
            (keyed (start_of blocks at + i) d (omega (arith, within_all blocks at inside)))

      module _ (key : Key) (at : ℕ) (for : IsBlockFor (key_rows records (firsts blocks)) key at) where
        in_blocks : at < length blocks
        in_blocks = omega (arith, for.inside, len_firsts)

        -- a row that is found in the block is one of all rows
        pub row_in_all : (index : ℕ) → IsRowOf key_cmp (key_rows records (get_or blocks at [])) key index
            → IsRowOf key_cmp (key_rows records (all_slots blocks)) key (start_of blocks at + index)
        row_in_all index row =
            let within : index < length (get_or blocks at []) = omega (arith, len_rows (get_or blocks at []), row.inside) in
            record {
              inside = omega (arith, within_all blocks at in_blocks, len_rows (all_slots blocks));
              equal = λ d. rw (row_at at index d d in_blocks within) (row.equal d);
            }

        -- the row before a gap
        before_gap : (index : ℕ) → IsGapFor key_cmp (key_rows records (get_or blocks at [])) key index → index ≤ length (get_or blocks at [])
            → (i : ℕ) (d : Key × ℕ) → i + 1 ≡ start_of blocks at + index → key_cmp (get_or (key_rows records (all_slots blocks)) i d).0 key ≡ Less
        before_gap zero gap in_block i d before = elim (cases_lt 0 at) [
          | inl later ↦
              let one : 0 < length (get_or blocks at []) = some at [] in_blocks in
              let here : key_cmp (get_or (key_rows records (get_or blocks at [])) 0 d).0 key ≡ Greater = gap.above 0 d (omega arith) (omega (arith, len_rows (get_or blocks at []), one)) in
              absurd (for.not_above d later (ap (λ (row : Key × ℕ). key_cmp row.0 key) (row_of_first at d d in_blocks ∙ row_at_start at d d in_blocks) ∙ here))
          | inr first ↦ absurd (none_before at i first before)
        ]
        before_gap (suc index) gap in_block i d before =
            let place : i ≡ start_of blocks at + index = omega arith in
            rw (place, row_at at index d d in_blocks (omega arith)) (gap.below index d (omega arith))

        -- the row after a gap
        after_gap : (index : ℕ) → IsGapFor key_cmp (key_rows records (get_or blocks at [])) key index → index ≤ length (get_or blocks at [])
            → (d : Key × ℕ) → start_of blocks at + index < length (all_slots blocks)
            → key_cmp (get_or (key_rows records (all_slots blocks)) (start_of blocks at + index) d).0 key ≡ Greater
        after_gap index gap in_block d lt = elim (cases_lt index (length (get_or blocks at []))) [
          | inl within ↦ rw (row_at at index d d in_blocks within) (gap.above index d (omega arith) (omega (arith, len_rows (get_or blocks at []))))
          | inr past ↦
              let next : start_of blocks (at + 1) ≡ start_of blocks at + index = start_next blocks at in_blocks ∙ omega arith in
              elim (cases_lt (at + 1) (length blocks)) [
                | inl more ↦ rw (sym next, sym (row_of_first (at + 1) d d more)) (for.above d (omega (arith, more, len_firsts)))
                | inr last ↦ absurd (omega (arith, next, start_end blocks (at + 1) last))
              ]
        ]

        -- a gap in the block is one in all rows
        pub gap_in_all : (index : ℕ) → IsGapFor key_cmp (key_rows records (get_or blocks at [])) key index
            → IsGapFor key_cmp (key_rows records (all_slots blocks)) key (start_of blocks at + index)
        gap_in_all index gap =
            let len = len_rows (get_or blocks at []) in
            let in_block : index ≤ length (get_or blocks at []) = omega (arith, len, gap.inside) in
            gap_between key_total (key_rows records (all_slots blocks)) sorted key (start_of blocks at + index)
            (omega (arith, within_all blocks at in_blocks, len_rows (all_slots blocks)))
            (λ i d before. before_gap index gap in_block i d before)
            (λ d lt. after_gap index gap in_block d (omega (arith, len_rows (all_slots blocks))))

-- ---- one more slot

-- a slot that is inserted in a block is inserted among all slots
pub inserted_in : (blocks : List (List ℕ)) (at index slot : ℕ) → at < length blocks → index ≤ length (get_or blocks at [])
    → all_slots (set blocks at (insert (get_or blocks at []) index slot)) ≡ insert (all_slots blocks) (start_of blocks at + index) slot
inserted_in [] at index slot inside within = absurd (omega arith)
inserted_in (block ∷ blocks) zero index slot inside within =
    let same : index ≡ 0 + index = omega arith in
    sym (subst (λ n. insert (block ++ all_slots blocks) n slot ≡ insert block index slot ++ all_slots blocks) same
    (insert-append_left block (all_slots blocks) index slot within))
inserted_in (block ∷ blocks) (suc at) index slot inside within =
    let len : start_of (block ∷ blocks) (suc at) ≡ length block + start_of blocks at = length-append block (all_slots (take at blocks)) in
    let place : start_of blocks at + index ≡ start_of (block ∷ blocks) (suc at) + index - length block = omega (arith, len) in
    ap (λ rest. block ++ rest) (inserted_in blocks at index slot (omega arith) within)
    ∙ ap (λ n. block ++ insert (all_slots blocks) n slot) place
    ∙ sym (insert-append_right block (all_slots blocks) (length block) (start_of (block ∷ blocks) (suc at) + index) slot refl (omega (arith, len)))

-- a block and its two parts have the same slots
pub split_in : (blocks : List (List ℕ)) (at half : ℕ) → at < length blocks
    → all_slots (insert (set blocks at (take half (get_or blocks at []))) (suc at) (drop half (get_or blocks at []))) ≡ all_slots blocks
split_in [] at half inside = absurd (omega arith)
split_in (block ∷ blocks) zero half inside =
    sym (append_assoc (take half block) (drop half block) (all_slots blocks)) ∙ ap (λ whole. whole ++ all_slots blocks) (take-append-drop half block)
split_in (block ∷ blocks) (suc at) half inside = ap (λ rest. block ++ rest) (split_in blocks at half (omega arith))

-- a block in place of one
pub blocks_set : (blocks : List (List ℕ)) (at : ℕ) (block : List ℕ) → AreBlocks blocks → 0 < length block → length block < 128 → AreBlocks (set blocks at block)
blocks_set blocks at block are one fits = record {
  some = All-set (λ (b : List ℕ). 0 < length b) blocks at block one are.some;
  room = All-set (λ (b : List ℕ). length b < 128) blocks at block fits are.room;
}

-- one more block
pub blocks_insert : (blocks : List (List ℕ)) (at : ℕ) (block : List ℕ) → AreBlocks blocks → 0 < length block → length block < 128 → AreBlocks (insert blocks at block)
blocks_insert blocks at block are one fits = record {
  some = All-insert (λ (b : List ℕ). 0 < length b) blocks at block one are.some;
  room = All-insert (λ (b : List ℕ). length b < 128) blocks at block fits are.room;
}

-- two halves in place of a block
pub blocks_halved : (blocks : List (List ℕ)) (at : ℕ) (whole : List ℕ) → AreBlocks blocks → length whole ≡ 128
    → AreBlocks (insert (set (set blocks at whole) at (take 64 whole)) (at + 1) (drop 64 whole))
blocks_halved blocks at whole are len =
    let first : length (take 64 whole) ≡ 64 = length-take-le 64 whole (omega (arith, len)) in
    let second : length (drop 64 whole) ≡ 64 = length-drop 64 whole ∙ omega (arith, len) in
    rw (set-set blocks at whole (take 64 whole))
    (blocks_insert (set blocks at (take 64 whole)) (at + 1) (drop 64 whole)
    (blocks_set blocks at (take 64 whole) are (omega (arith, first)) (omega (arith, first))) (omega (arith, second)) (omega (arith, second)))

-- ---- the keys that are kept

-- what a default of a list of blocks is
pub no_block : BlockValue
no_block = record { key = key_or_empty None; slots = [] }

-- the slots of a block that was read
pub read_slots : (blocks : List BlockValue) (at : ℕ) (block : BlockValue) → at < length blocks → block ≡ get_or blocks at no_block
    → block.slots ≡ get_or (slot_lists blocks) at []
read_slots blocks at block inside read =
    ap (λ (b : BlockValue). b.slots) read ∙ sym (get_or-map (λ (b : BlockValue). b.slots) blocks at no_block [] inside)

-- the same of an index that a search has given
pub slots_at : (blocks : List BlockValue) (at : ℕ) (block : BlockValue) → at < length (first_rows blocks) → block ≡ get_or blocks at block
    → block.slots ≡ get_or (slot_lists blocks) at []
slots_at blocks at block inside is =
    let within : at < length blocks = omega (arith, inside, length-map blocks first_row) in
    read_slots blocks at block within (get_or_read blocks at block within is no_block)

-- the key of a block that was read
pub read_key : (records : List Record) (blocks : List BlockValue) (at : ℕ) (block : BlockValue) → at < length blocks → block ≡ get_or blocks at no_block
    → HaveTheirKeys records (first_rows blocks) → key_at records (first_in block.slots) ≡ Some block.key
read_key records blocks at block inside read keys =
    let row : get_or (first_rows blocks) at (first_row no_block) ≡ first_row block =
    get_or-map first_row blocks at no_block (first_row no_block) inside ∙ ap first_row (sym read) in
    subst (λ (r : Key × ℕ). key_at records r.1 ≡ Some r.0) row (keys at (first_row no_block) (omega (arith, inside, length-map blocks first_row)))

-- the keys are those of the records
pub rows_kept : (records : List Record) (blocks : List BlockValue) → HaveTheirKeys records (first_rows blocks)
    → key_rows records (firsts (slot_lists blocks)) ≡ first_rows blocks
rows_kept records [] keys = refl
rows_kept records (block ∷ blocks) keys =
    rw (keys 0 (first_row block) (omega arith), rows_kept records blocks (λ i d lt. keys (suc i) d (omega arith))) refl

pub keys_set : (records : List Record) (blocks : List BlockValue) (at : ℕ) (block : BlockValue) → HaveTheirKeys records (first_rows blocks)
    → key_at records (first_in block.slots) ≡ Some block.key → HaveTheirKeys records (first_rows (set blocks at block))
keys_set records blocks at block keys own =
    subst (HaveTheirKeys records) (sym (map-set first_row blocks at block))
    (All-set (λ (row : Key × ℕ). key_at records row.1 ≡ Some row.0) (first_rows blocks) at (first_row block) own keys)

pub keys_insert : (records : List Record) (blocks : List BlockValue) (at : ℕ) (block : BlockValue) → HaveTheirKeys records (first_rows blocks)
    → key_at records (first_in block.slots) ≡ Some block.key → HaveTheirKeys records (first_rows (insert blocks at block))
keys_insert records blocks at block keys own =
    subst (HaveTheirKeys records) (sym (map-insert first_row blocks at block))
    (All-insert (λ (row : Key × ℕ). key_at records row.1 ≡ Some row.0) (first_rows blocks) at (first_row block) own keys)

-- the key of a block with one more slot
pub key_with : (records : List Record) (slots : List ℕ) (at slot : ℕ) (first key : Key) → 0 < length slots → key_at records slot ≡ Some key
    → key_at records (first_in slots) ≡ Some first → key_at records (first_in (insert slots at slot)) ≡ Some (cond (at == 0) key first)
key_with records slots zero slot first key some own before = own
key_with records [] (suc at) slot first key some own before = absurd (omega arith)
key_with records (s ∷ slots) (suc at) slot first key some own before = before ∙ ap (λ zeroth. Some (cond zeroth key first)) (sym (ne_eqb (suc at) 0 (omega arith)))

-- ---- what the functions ask

-- a search by what a function gives is one among what it gives
searched_map : {X Y : Type 0} (f : X → Y) (ord : Y → Ordering) (xs : List X) (x : X) (r : Result ℕ ℕ) → IsSearchInRange r (length xs)
    → IsBinarySearchResult (λ x. ord (f x)) xs r → IsBinarySearchResult ord (map f xs) r
searched_map f ord xs x (Ok at) inside found = λ e. ap ord (get_or-map f xs at x e inside) ∙ found x
searched_map f ord xs x (Err at) inside parted = λ rise.
    let len : length (map f xs) ≡ length xs = length-map xs f in
    let parts = parted (λ i j d le lt.
    omega (
      arith,
      ap (λ y. ordering_index (ord y)) (get_or-map f xs i d (f x) (omega arith)),
      ap (λ y. ordering_index (ord y)) (get_or-map f xs j d (f x) lt),
      rise i j (f x) le (omega (arith, len)),
    )) in (
      λ k e low lt. ap ord (get_or-map f xs k x e (omega (arith, inside))) ∙ parts.0 k x low lt,
      λ k e low lt. ap ord (get_or-map f xs k x e (omega (arith, len))) ∙ parts.1 k x low (omega (arith, len)),
    )

pub searched_firsts : (blocks : List BlockValue) (key : Key) → IsTable key_cmp (first_rows blocks)
    → (r : Result ℕ ℕ) → IsSearchInRange r (length blocks) → IsBinarySearchResult (λ block. key_cmp block.key key) blocks r
    → IfOk r (IsRowOf key_cmp (first_rows blocks) key) × IfErr r (IsGapFor key_cmp (first_rows blocks) key)
searched_firsts blocks key sorted r inside found =
    searched key_total (first_rows blocks) sorted key r (subst (IsSearchInRange r) (sym (length-map blocks first_row)) inside)
    (searched_map first_row (λ (row : Key × ℕ). key_cmp row.0 key) blocks no_block r inside found)

apart : Equal ≡ Greater → ⊥
apart same = cc

-- a block whose first slot has the key
pub block_of_row : (rows : List (Key × ℕ)) (key : Key) (at : ℕ) → IsTable key_cmp rows → IsRowOf key_cmp rows key at → IsBlockFor rows key at
block_of_row rows key at sorted row = record {
  inside = row.inside;
  not_above = λ d later greater. apart (sym (row.equal d) ∙ greater);
  above = λ d more. above_row key_total rows sorted key at (at + 1) d (row.equal d) (omega arith) more;
}

module _ (records : List Record) (blocks : List BlockValue) (some : All (λ block. 0 < length block) (slot_lists blocks))
    (sorted : IsTable key_cmp (key_rows records (all_slots (slot_lists blocks)))) (keyed : AreKeyed records (all_slots (slot_lists blocks)))
    (keys : HaveTheirKeys records (first_rows blocks)) where
  pub kept_table : IsTable key_cmp (first_rows blocks)
  kept_table = subst (IsTable key_cmp) (rows_kept records blocks keys) (firsts_table (slot_lists blocks) some records sorted keyed)

  module _ (key : Key) (at : ℕ) (for : IsBlockFor (first_rows blocks) key at) (slots : List ℕ) (same : slots ≡ get_or (slot_lists blocks) at []) where
    inside : at < length (slot_lists blocks)
    inside = omega (arith, for.inside, length-map blocks first_row, length-map blocks (λ (b : BlockValue). b.slots))

    for_rows : IsBlockFor (key_rows records (firsts (slot_lists blocks))) key at
    for_rows = subst (λ rows. IsBlockFor rows key at) (sym (rows_kept records blocks keys)) for

    pub in_table : IsTable key_cmp (key_rows records slots)
    in_table = subst (λ block. IsTable key_cmp (key_rows records block)) (sym same) (block_table (slot_lists blocks) some records sorted keyed at inside)

    pub in_keyed : AreKeyed records slots
    in_keyed = subst (λ block. AreKeyed records block) (sym same) (block_keyed (slot_lists blocks) some records sorted keyed at inside)

    -- the slot that is found in the block is the value of the key
    pub in_row : (index : ℕ) → IsRowOf key_cmp (key_rows records slots) key index
        → value_at key_cmp (key_rows records (all_slots (slot_lists blocks))) key ≡ Some (get_or slots index 0)
    in_row index row =
        let here : IsRowOf key_cmp (key_rows records (get_or (slot_lists blocks) at [])) key index = subst (λ block. IsRowOf key_cmp (key_rows records block) key index) same row in
        let within : index < length (get_or (slot_lists blocks) at []) = omega (arith, here.inside, length-map (get_or (slot_lists blocks) at []) (key_row records)) in
        found_slot records (all_slots (slot_lists blocks)) key sorted (start_of (slot_lists blocks) at + index) (row_in_all (slot_lists blocks) some records sorted keyed key at for_rows index here) 0
        ∙ ap Some (slot_at (slot_lists blocks) at index 0 inside within) ∙ ap (λ block. Some (get_or block index 0)) (sym same)

    -- the gap in the block is the key's
    pub in_gap : (index : ℕ) → IsGapFor key_cmp (key_rows records slots) key index
        → IsGapFor key_cmp (key_rows records (all_slots (slot_lists blocks))) key (start_of (slot_lists blocks) at + index)
    in_gap index gap = gap_in_all (slot_lists blocks) some records sorted keyed key at for_rows index
        (subst (λ block. IsGapFor key_cmp (key_rows records block) key index) same gap)

module _ (blocks : List (List ℕ)) (are : AreBlocks blocks) (at index slot : ℕ) (inside : at < length blocks) (within : index ≤ length (get_or blocks at []))
    (whole : List ℕ) (is : whole ≡ insert (get_or blocks at []) index slot) where
  -- a block with one more slot
  pub one_more : all_slots (set blocks at whole) ≡ insert (all_slots blocks) (start_of blocks at + index) slot
  one_more = ap (λ block. all_slots (set blocks at block)) is ∙ inserted_in blocks at index slot inside within

  -- the two halves of a block
  abbrev pub Halves : List (List ℕ) → Type 0
  Halves more = more ≡ insert (set (set blocks at whole) at (take 64 (get_or (set blocks at whole) at []))) (at + 1) (drop 64 (get_or (set blocks at whole) at []))

  pub halves_are : (more : List (List ℕ)) → Halves more → length whole ≡ 128 → AreBlocks more
  halves_are more halves len = rw (halves, get_or-set_same blocks at whole [] inside) (blocks_halved blocks at whole are len)

  pub halves_slots : (more : List (List ℕ)) → Halves more → all_slots more ≡ insert (all_slots blocks) (start_of blocks at + index) slot
  halves_slots more halves =
      let next : at + 1 ≡ suc at = omega arith in
      let there : at < length (set blocks at whole) = omega (arith, length-set blocks at whole) in
      rw (halves, next) (split_in (set blocks at whole) at 64 there) ∙ one_more

-- ---- what an edit of the blocks does

-- one more block at their end
pub blocks_push : (blocks : List BlockValue) (block : BlockValue) → AreBlocks (slot_lists blocks) → 0 < length block.slots → length block.slots < 128
    → AreBlocks (slot_lists (blocks ++ block ∷ []))
blocks_push blocks block are one fits = rw (map-append (λ (b : BlockValue). b.slots) blocks (block ∷ [])) (record {
  some = All-push (λ (b : List ℕ). 0 < length b) (slot_lists blocks) block.slots are.some one;
  room = All-push (λ (b : List ℕ). length b < 128) (slot_lists blocks) block.slots are.room fits;
})

pub slots_push : (blocks : List BlockValue) (block : BlockValue) → all_slots (slot_lists (blocks ++ block ∷ [])) ≡ all_slots (slot_lists blocks) ++ block.slots
slots_push blocks block =
    ap all_slots (map-append (λ (b : BlockValue). b.slots) blocks (block ∷ []))
    ∙ flat_map-append (λ (b : List ℕ). b) (slot_lists blocks) (block.slots ∷ [])
    ∙ ap (λ last. all_slots (slot_lists blocks) ++ last) (append-nil block.slots)

pub keys_push : (records : List Record) (blocks : List BlockValue) (block : BlockValue) → HaveTheirKeys records (first_rows blocks)
    → key_at records (first_in block.slots) ≡ Some block.key → HaveTheirKeys records (first_rows (blocks ++ block ∷ []))
keys_push records blocks block keys own =
    subst (HaveTheirKeys records) (sym (map-append first_row blocks (block ∷ [])))
    (All-push (λ (row : Key × ℕ). key_at records row.1 ≡ Some row.0) (first_rows blocks) (first_row block) keys own)

-- the first of some slots is that of them all
pub first_taken : (slots : List ℕ) → first_in (take 64 slots) ≡ first_in slots
first_taken [] = refl
first_taken (slot ∷ slots) = refl

module _ (blocks : List BlockValue) (at : ℕ) (old : BlockValue) (inside : at < length blocks) (read : old ≡ get_or blocks at old) where
  there : at < length (slot_lists blocks)
  there = omega (arith, inside, length-map blocks (λ (b : BlockValue). b.slots))

  read_is : old ≡ get_or blocks at no_block
  read_is = get_or_read blocks at old inside read no_block

  was : old.slots ≡ get_or (slot_lists blocks) at []
  was = read_slots blocks at old inside read_is

  -- two blocks in place of one
  module _ (first second : BlockValue) (taken : first.slots ≡ take 64 old.slots) (dropped : second.slots ≡ drop 64 old.slots) (parts : List BlockValue)
      (inserted : parts ≡ insert (set blocks at first) (at + 1) second) where
    pub lists_split : slot_lists parts ≡ insert (set (slot_lists blocks) at (take 64 (get_or (slot_lists blocks) at []))) (at + 1) (drop 64 (get_or (slot_lists blocks) at []))
    lists_split =
        ap slot_lists inserted
        ∙ map-insert (λ (b : BlockValue). b.slots) (set blocks at first) (at + 1) second
        ∙ ap (λ all. insert all (at + 1) second.slots) (map-set (λ (b : BlockValue). b.slots) blocks at first)
        ∙ rw (taken, dropped, was) refl

    pub keys_split : (records : List Record) → first.key ≡ old.key → key_at records (first_in (drop 64 old.slots)) ≡ Some second.key
        → HaveTheirKeys records (first_rows blocks) → HaveTheirKeys records (first_rows parts)
    keys_split records same_key own keys = rw inserted
        (keys_insert records (set blocks at first) (at + 1) second
        (keys_set records blocks at first keys (rw (taken, first_taken old.slots, same_key) (read_key records blocks at old inside read_is keys)))
        (rw dropped own))

  -- a block with one more slot in place of one
  module _ (are : AreBlocks (slot_lists blocks)) (records : List Record) (index slot : ℕ) (key : Key) (more : BlockValue) (within : index ≤ length (get_or (slot_lists blocks) at []))
      (key_is : more.key ≡ cond (index == 0) key old.key) (slots_are : more.slots ≡ insert old.slots index slot) where
    is : more.slots ≡ insert (get_or (slot_lists blocks) at []) index slot
    is = slots_are ∙ ap (λ block. insert block index slot) was

    lists : slot_lists (set blocks at more) ≡ set (slot_lists blocks) at more.slots
    lists = map-set (λ (b : BlockValue). b.slots) blocks at more

    here : get_or (slot_lists (set blocks at more)) at [] ≡ more.slots
    here = ap (λ all. get_or all at []) lists ∙ get_or-set_same (slot_lists blocks) at more.slots [] there

    pub full_more : length more.slots ≡ 128 → length (get_or (slot_lists (set blocks at more)) at []) ≡ 128
    full_more full = rw here full

    pub keyed_more : key_at records slot ≡ Some key → AreKeyed records (get_or (slot_lists blocks) at []) → AreKeyed records (get_or (slot_lists (set blocks at more)) at [])
    keyed_more own keyed = subst (AreKeyed records) (sym (here ∙ is))
        (All-insert (λ s. IsSome (key_at records s)) (get_or (slot_lists blocks) at []) index slot (subst IsSome (sym own) refl) keyed)

    pub keys_more : key_at records slot ≡ Some key → HaveTheirKeys records (first_rows blocks) → HaveTheirKeys records (first_rows (set blocks at more))
    keys_more own keys = keys_set records blocks at more keys
        (rw (slots_are, key_is) (key_with records old.slots index slot old.key key (subst (λ block. 0 < length block) (sym was) (are.some at [] there)) own (read_key records blocks at old inside read_is keys)))

    pub blocks_more : (length more.slots == 128) ≡ false → AreBlocks (slot_lists (set blocks at more))
    blocks_more partial =
        let len : length more.slots ≡ length (get_or (slot_lists blocks) at []) + 1 = ap length is ∙ length-insert (get_or (slot_lists blocks) at []) index slot within in
        let room : length (get_or (slot_lists blocks) at []) < 128 = are.room at [] there in
        let fits : length more.slots < 128 = elim (cases_lt (length more.slots) 128) [
          | inl below ↦ below
          | inr whole ↦ absurd (eqb-false (length more.slots) 128 partial (omega (arith, len, room)))
        ] in
        rw lists (blocks_set (slot_lists blocks) at more.slots are (omega (arith, len)) fits)

    pub slots_more : all_slots (slot_lists (set blocks at more)) ≡ insert (all_slots (slot_lists blocks)) (start_of (slot_lists blocks) at + index) slot
    slots_more = ap all_slots lists ∙ one_more (slot_lists blocks) are at index slot there within more.slots is

    module _ (parts : List BlockValue)
        (halves : slot_lists parts ≡ insert (set (slot_lists (set blocks at more)) at (take 64 (get_or (slot_lists (set blocks at more)) at []))) (at + 1) (drop 64 (get_or (slot_lists (set blocks at more)) at []))) where
      by_lists : Halves (slot_lists blocks) are at index slot there within more.slots is (slot_lists parts)
      by_lists = subst (λ all. slot_lists parts ≡ insert (set all at (take 64 (get_or all at []))) (at + 1) (drop 64 (get_or all at []))) lists halves

      pub blocks_parts : length more.slots ≡ 128 → AreBlocks (slot_lists parts)
      blocks_parts full = halves_are (slot_lists blocks) are at index slot there within more.slots is (slot_lists parts) by_lists full

      pub slots_parts : all_slots (slot_lists parts) ≡ insert (all_slots (slot_lists blocks)) (start_of (slot_lists blocks) at + index) slot
      slots_parts = halves_slots (slot_lists blocks) are at index slot there within more.slots is (slot_lists parts) by_lists
