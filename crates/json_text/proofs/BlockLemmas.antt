-- The numbers of an index in blocks: where each is among all, what a search in one block says of all names, one more number, and a division.
use Rattle.std.proofs.Common.{◌≡◌, ◌∙◌, ℕ, zero, suc, ◌+◌, ◌-◌, ◌<◌, ◌≤◌, Bool, true, false, ◌||◌, List, [], ◌∷◌, ◌++◌, length, map, get_or, set, take, drop, bytes_eq, refl, sym, ap, subst, arith, inl, inr, append_assoc, length-append}
use Rattle.std.specs.Prelude.{if◌then◌else◌}
use Rattle.std.specs.List.{All, flat_map, insert}
use Rattle.std.specs.Cmp.Lexicographic.{slice_cmp}
use Rattle.std.specs.Ordering.{nat_cmp, ordering_reverse}
use Rattle.std.specs.declared.cmp.Ordering.TheVariants.{Greater}
use Rattle.std.proofs.lemmas.Bool.{cases_lt}
use Rattle.std.proofs.lemmas.Cmp.{nat_list_cmp_total}
use Rattle.std.proofs.lemmas.List.{append-nil, drop-map, get_or-map, length-map, map-append, map-set, set-get_or, take-append-drop, take-map, take_more}
use Rattle.std.proofs.lemmas.List.Concat.{flat_map-append, get_or-flat_map}
use Rattle.std.proofs.lemmas.List.Edits.{get_or-insert_below, insert-append_left, insert-append_right, length-insert}
use Rattle.std.proofs.lemmas.List.Folds.{length-flat_map-take}
use Rattle.json_text.specs.MemberNames.{has_name}
use Rattle.json_text.specs.inner.MemberIndex.{AreInOrder, AreMemberNumbers, ComesAt, ComesBefore, name_at, names_at}
use Rattle.json_text.specs.inner.MemberOrder.{IsNameBlock, first_block_name, with_number}
use Rattle.json_text.specs.inner.NumberBlocks.{all_numbers, number_lists, numbers_before}
use Rattle.json_text.specs.declared.block.Block.{Block}
use Rattle.json_text.proofs.IndexLemmas.{before_then, joined, or_last}

-- ---- lists one after the other

-- how many elements the lists before this one have
abbrev start : {A : Type 0} → List (List A) → ℕ → ℕ
start ls k = length (flat_map (λ l. l) (take k ls))

-- the lists before the next one are those before this one and this one
start_next : {A : Type 0} (ls : List (List A)) (k : ℕ) → k < length ls → start ls (k + 1) ≡ start ls k + length (get_or ls k [])
start_next {A = A} ls k inside =
    ap (λ (l : List (List A)). length (flat_map (λ (x : List A). x) l)) (take_more ls k [] inside)
    ∙ ap length (flat_map-append (λ (l : List A). l) (take k ls) (get_or ls k [] ∷ []))
    ∙ length-append (flat_map (λ (l : List A). l) (take k ls)) (get_or ls k [] ++ [])
    ∙ ap (λ (l : List A). start ls k + length l) (append-nil (get_or ls k []))

-- a list lies within all elements
within_all : {A : Type 0} (ls : List (List A)) (k : ℕ) → k < length ls → start ls k + length (get_or ls k []) ≤ length (flat_map (λ l. l) ls)
within_all {A = A} ls k inside = length-flat_map-take (λ (l : List A). l) ls k [] inside

-- the elements end where the last list ends
start_end : {A : Type 0} (ls : List (List A)) (k : ℕ) → length ls ≤ k → start ls k ≡ length (flat_map (λ l. l) ls)
start_end [] zero past = refl
start_end [] (suc k) past = refl
start_end (l ∷ ls) zero past = absurd (omega arith)
start_end {A = A} (l ∷ ls) (suc k) past =
    let rest = start_end ls k (omega arith) in
    omega (arith, rest, length-append l (flat_map (λ (x : List A). x) (take k ls)), length-append l (flat_map (λ (x : List A). x) ls))

-- the element of a list among all
element_at : {A : Type 0} (ls : List (List A)) (k i : ℕ) (d : A) → k < length ls → i < length (get_or ls k []) → get_or (flat_map (λ l. l) ls) (start ls k + i) d ≡ get_or (get_or ls k []) i d
element_at {A = A} ls k i d inside within = get_or-flat_map (λ (l : List A). l) ls k i [] d inside within

-- ---- the names in blocks

joined_names : (q : List ℕ) (xs ys : List (List ℕ)) → has_name q (xs ++ ys) ≡ (has_name q xs || has_name q ys)
joined_names q [] ys = refl
joined_names q (n ∷ xs) ys = ap (λ (b : Bool). bytes_eq q n || b) (joined_names q xs ys) ∙ joined (bytes_eq q n) (has_name q xs) (has_name q ys)

-- a name of a block is one of all
has_in_all : (q : List ℕ) (ls : List (List (List ℕ))) (k : ℕ) → has_name q (get_or ls k []) ≡ true → has_name q (flat_map (λ l. l) ls) ≡ true
has_in_all q [] zero has = has
has_in_all q [] (suc k) has = has
has_in_all q (l ∷ ls) zero has = joined_names q l (flat_map (λ (x : List (List ℕ)). x) ls) ∙ ap (λ (b : Bool). b || has_name q (flat_map (λ (x : List (List ℕ)). x) ls)) has
has_in_all q (l ∷ ls) (suc k) has =
    joined_names q l (flat_map (λ (x : List (List ℕ)). x) ls) ∙ ap (λ (b : Bool). has_name q l || b) (has_in_all q ls k has) ∙ or_last (has_name q l)

module _ (ls : List (List (List ℕ))) (some : All (λ l. 0 < length l) ls) (order : AreInOrder (flat_map (λ l. l) ls)) where
  abbrev all : List (List ℕ)
  all = flat_map (λ (l : List (List ℕ)). l) ls

  name_in : (k i : ℕ) → k < length ls → i < length (get_or ls k []) → name_at all (start ls k + i) ≡ name_at (get_or ls k []) i
  name_in k i inside within = element_at ls k i [] inside within

  -- the first name of a block among all
  first_in : (k : ℕ) → k < length ls → name_at all (start ls k) ≡ name_at (get_or ls k []) 0
  first_in k inside = let same : start ls k + 0 ≡ start ls k = omega arith in
      subst (λ (n : ℕ). name_at all n ≡ name_at (get_or ls k []) 0) same (name_in k 0 inside (some k [] inside))

  start_inside : (k : ℕ) → k < length ls → start ls k < length all
  start_inside k inside = omega (arith, within_all ls k inside, some k [] inside)

  -- a block is in order
  pub block_in_order : (k : ℕ) → k < length ls → AreInOrder (get_or ls k [])
  block_in_order k inside i j less within =
      let before : ComesBefore (name_at all (start ls k + i)) (name_at all (start ls k + j)) = order (start ls k + i) (start ls k + j) (omega arith) (omega (arith, within_all ls k inside)) in
      rw (sym (name_in k i inside (omega arith)), sym (name_in k j inside within)) before

  module _ (name : List ℕ) (k : ℕ) (inside : k < length ls) (not_after : 0 < k → slice_cmp nat_cmp (name_at (get_or ls k []) 0) name ≡ Greater → ⊥)
      (before : k + 1 < length ls → ComesBefore name (name_at (get_or ls (k + 1) []) 0)) (gap : ℕ) (comes : ComesAt (get_or ls k []) name gap) where
    -- where there are blocks before this one, its first name is before the name
    first_before : (g : ℕ) → ComesAt (get_or ls k []) name g → 0 < k → ComesBefore (name_at (get_or ls k []) 0) name
    first_before zero h later =
        absurd (not_after later (nat_list_cmp_total.antisymm (name_at (get_or ls k []) 0) name ∙ ap ordering_reverse (h.above 0 (omega arith) (some k [] inside))))
    first_before (suc g) h later = h.below 0 (omega arith)

    pub gap_in_all : ComesAt all name (start ls k + gap)
    gap_in_all = record {
      within = omega (arith, within_all ls k inside, comes.within);
      below = λ i lt. elim (cases_lt i (start ls k)) [
        | inl less ↦
            let later : 0 < k = elim (cases_lt 0 k) [ inl more ↦ more | inr none ↦ (let zero_k : k ≡ 0 = omega arith in let none_before : start ls k ≡ 0 = ap (start ls) zero_k in absurd (omega (arith, none_before, less))) ] in
            before_then (name_at all i) (name_at all (start ls k)) name (order i (start ls k) less (start_inside k inside)) (rw (first_in k inside) (first_before gap comes later))
        | inr ge ↦
            let split : i ≡ start ls k + (i - start ls k) = omega arith in
            let below = comes.below (i - start ls k) (omega arith) in
            rw split (rw (name_in k (i - start ls k) inside (omega (arith, comes.within))) below)
      ];
      above = λ i ge lt. elim (cases_lt i (start ls k + length (get_or ls k []))) [
        | inl less ↦
            let split : i ≡ start ls k + (i - start ls k) = omega arith in
            let above = comes.above (i - start ls k) (omega arith) (omega arith) in
            rw split (rw (name_in k (i - start ls k) inside (omega arith)) above)
        | inr past ↦
            let next : start ls (k + 1) ≡ start ls k + length (get_or ls k []) = start_next ls k inside in
            elim (cases_lt (k + 1) (length ls)) [
              | inl more ↦
                  let first : ComesBefore name (name_at all (start ls (k + 1))) = rw (first_in (k + 1) more) (before more) in
                  elim (cases_lt (start ls (k + 1)) i) [
                    | inl after ↦ before_then name (name_at all (start ls (k + 1))) (name_at all i) first (order (start ls (k + 1)) i after lt)
                    | inr not ↦ (let same : i ≡ start ls (k + 1) = omega (arith, next, past) in rw same first)
                  ]
              | inr last ↦ absurd (omega (arith, next, past, lt, start_end ls (k + 1) last))
            ]
      ];
    }

-- ---- names by numbers

name_lists : List (List ℕ) → List (List ℕ) → List (List (List ℕ))
name_lists ns lists = map (names_at ns) lists

pub all_names : (ns : List (List ℕ)) (lists : List (List ℕ)) → flat_map (λ l. l) (map (names_at ns) lists) ≡ names_at ns (all_numbers lists)
all_names ns [] = refl
all_names ns (l ∷ lists) =
    ap (λ (rest : List (List ℕ)). names_at ns l ++ rest) (all_names ns lists) ∙ sym (map-append (λ number. name_at ns number) l (all_numbers lists))

same_start : (ns : List (List ℕ)) (lists : List (List ℕ)) (k : ℕ) → start (map (names_at ns) lists) k ≡ numbers_before lists k
same_start ns lists k =
    ap (λ (l : List (List (List ℕ))). length (flat_map (λ (x : List (List ℕ)). x) l)) (take-map (names_at ns) k lists)
    ∙ ap length (all_names ns (take k lists)) ∙ length-map (all_numbers (take k lists)) (λ number. name_at ns number)

pub length-names_at : (ns : List (List ℕ)) (numbers : List ℕ) → length (names_at ns numbers) ≡ length numbers
length-names_at ns numbers = length-map numbers (λ number. name_at ns number)

same_block : (ns : List (List ℕ)) (lists : List (List ℕ)) (k : ℕ) → k < length lists → get_or (map (names_at ns) lists) k [] ≡ names_at ns (get_or lists k [])
same_block ns lists k inside = get_or-map (names_at ns) lists k [] [] inside

same_first : (ns : List (List ℕ)) (lists : List (List ℕ)) (k : ℕ) → All (λ l. 0 < length l) lists → k < length lists → name_at (get_or (map (names_at ns) lists) k []) 0 ≡ first_block_name ns lists k
same_first ns lists k some inside =
    ap (λ (l : List (List ℕ)). name_at l 0) (same_block ns lists k inside) ∙ get_or-map (λ number. name_at ns number) (get_or lists k []) 0 0 [] (some k [] inside)

named_some : (ns : List (List ℕ)) (lists : List (List ℕ)) → All (λ l. 0 < length l) lists → All (λ l. 0 < length l) (map (names_at ns) lists)
named_some ns lists some k d lt =
    let inside : k < length lists = omega (arith, length-map lists (names_at ns)) in
    let size : length (get_or (map (names_at ns) lists) k d) ≡ length (get_or lists k []) =
    ap length (get_or-map (names_at ns) lists k [] d inside) ∙ length-map (get_or lists k []) (λ number. name_at ns number) in
    omega (arith, size, some k [] inside)

-- each block has a number
pub filled : (blocks : List Block) → All (λ l. 0 < length l) (number_lists blocks)
filled [] k d lt = absurd (omega arith)
filled (b ∷ blocks) zero d lt = b.some
filled (b ∷ blocks) (suc k) d lt = filled blocks k d (omega arith)

module _ (ns : List (List ℕ)) (lists : List (List ℕ)) (some : All (λ l. 0 < length l) lists) (order : AreInOrder (names_at ns (all_numbers lists))) where
  named_order : AreInOrder (flat_map (λ l. l) (map (names_at ns) lists))
  named_order = rw (all_names ns lists) order

  -- the names of a block are in order
  pub numbers_in_order : (k : ℕ) → k < length lists → AreInOrder (names_at ns (get_or lists k []))
  numbers_in_order k inside = rw (sym (same_block ns lists k inside))
      (block_in_order (map (names_at ns) lists) (named_some ns lists some) named_order k (omega (arith, length-map lists (names_at ns))))

  -- where a name comes in its block is where it comes among all
  pub gap_among_all : (name : List ℕ) (k gap : ℕ) → IsNameBlock ns lists name k → ComesAt (names_at ns (get_or lists k [])) name gap → ComesAt (names_at ns (all_numbers lists)) name (numbers_before lists k + gap)
  gap_among_all name k gap for comes =
      let count = length-map lists (names_at ns) in
      rw (sym (all_names ns lists), sym (same_start ns lists k))
      (gap_in_all (map (names_at ns) lists) (named_some ns lists some) named_order name k (omega (arith, count, for.inside))
      (λ later after. for.not_after later (ap (λ (n : List ℕ). slice_cmp nat_cmp n name) (sym (same_first ns lists k some for.inside)) ∙ after))
      (λ more. (let next : k + 1 < length lists = omega (arith, count) in rw (same_first ns lists (k + 1) some next) (for.before next)))
      gap (rw (same_block ns lists k for.inside) comes))

-- a name of a block is one of all
pub found_in_all : (ns : List (List ℕ)) (lists : List (List ℕ)) (name : List ℕ) (k : ℕ) → k < length lists → has_name name (names_at ns (get_or lists k [])) ≡ true → has_name name (names_at ns (all_numbers lists)) ≡ true
found_in_all ns lists name k inside has =
    ap (has_name name) (sym (all_names ns lists)) ∙ has_in_all name (map (names_at ns) lists) k (ap (has_name name) (same_block ns lists k inside) ∙ has)

-- the numbers of a block are members' numbers
pub block_within : (lists : List (List ℕ)) (count k : ℕ) → AreMemberNumbers (all_numbers lists) count → k < length lists → AreMemberNumbers (get_or lists k []) count
block_within lists count k within inside i lt =
    let own : get_or (all_numbers lists) (numbers_before lists k + i) 0 ≡ get_or (get_or lists k []) i 0 = element_at lists k i 0 inside lt in
    let small = within (numbers_before lists k + i) (omega (arith, within_all lists k inside, lt)) in
    omega (arith, own, small)

-- ---- one more number

pub inserted_in : (lists : List (List ℕ)) (k index number : ℕ) → k < length lists → index ≤ length (get_or lists k [])
    → all_numbers (set lists k (insert (get_or lists k []) index number)) ≡ insert (all_numbers lists) (numbers_before lists k + index) number
inserted_in [] k index number inside within = absurd (omega arith)
inserted_in (l ∷ lists) zero index number inside within =
    let same : index ≡ 0 + index = omega arith in
    sym (subst (λ (n : ℕ). insert (l ++ all_numbers lists) n number ≡ insert l index number ++ all_numbers lists) same (insert-append_left l (all_numbers lists) index number within))
inserted_in (l ∷ lists) (suc k) index number inside within =
    let len : numbers_before (l ∷ lists) (suc k) ≡ length l + numbers_before lists k = length-append l (all_numbers (take k lists)) in
    let index_is : numbers_before lists k + index ≡ numbers_before (l ∷ lists) (suc k) + index - length l = omega (arith, len) in
    ap (λ (rest : List ℕ). l ++ rest) (inserted_in lists k index number (omega arith) within)
    ∙ ap (λ (n : ℕ). l ++ insert (all_numbers lists) n number) index_is
    ∙ sym (insert-append_right l (all_numbers lists) (length l) (numbers_before (l ∷ lists) (suc k) + index) number refl (omega (arith, len)))

-- two halves and not the block
pub divided : (lists : List (List ℕ)) (k half : ℕ) → k < length lists
    → all_numbers (set (insert lists (suc k) (drop half (get_or lists k []))) k (take half (get_or lists k []))) ≡ all_numbers lists
divided [] k half inside = absurd (omega arith)
divided (l ∷ lists) zero half inside = sym (append_assoc (take half l) (drop half l) (all_numbers lists)) ∙ ap (λ (whole : List ℕ). whole ++ all_numbers lists) (take-append-drop half l)
divided (l ∷ lists) (suc k) half inside = ap (λ (rest : List ℕ). l ++ rest) (divided lists k half (omega arith))

-- ---- what an edit of the blocks does

-- the numbers of a block that was read
pub read_numbers : (blocks : List Block) (k : ℕ) (b : Block) → k < length blocks → b ≡ get_or blocks k b → b.numbers.items ≡ get_or (number_lists blocks) k []
read_numbers blocks k b inside is = ap (λ (x : Block). x.numbers.items) is ∙ sym (get_or-map (λ (x : Block). x.numbers.items) blocks k b [] inside)

lists_set : (blocks : List Block) (k : ℕ) (b : Block) → number_lists (set blocks k b) ≡ set (number_lists blocks) k b.numbers.items
lists_set blocks k b = map-set (λ (x : Block). x.numbers.items) blocks k b

lists_insert : (blocks : List Block) (k : ℕ) (b : Block) → number_lists (insert blocks k b) ≡ insert (number_lists blocks) k b.numbers.items
lists_insert blocks k b =
    map-append (λ (x : Block). x.numbers.items) (take k blocks) (b ∷ drop k blocks)
    ∙ ap (λ (l : List (List ℕ)). l ++ b.numbers.items ∷ number_lists (drop k blocks)) (sym (take-map (λ (x : Block). x.numbers.items) k blocks))
    ∙ ap (λ (l : List (List ℕ)). take k (number_lists blocks) ++ b.numbers.items ∷ l) (sym (drop-map (λ (x : Block). x.numbers.items) k blocks))

-- one more number in a block, or none
pub edited : (blocks : List Block) (k index number : ℕ) (b new : Block) (ok : Bool) → k < length blocks → b ≡ get_or blocks k b → index ≤ length (get_or (number_lists blocks) k [])
    → new.numbers.items ≡ (if ok then insert b.numbers.items index number else b.numbers.items)
    → all_numbers (number_lists (set blocks k new)) ≡ with_number (number_lists blocks) (record { block = k; before = index }) number ok
edited blocks k index number b new true inside is within e =
    let count = length-map blocks (λ (x : Block). x.numbers.items) in
    ap all_numbers (lists_set blocks k new)
    ∙ ap (λ (l : List ℕ). all_numbers (set (number_lists blocks) k l)) (e ∙ ap (λ (l : List ℕ). insert l index number) (read_numbers blocks k b inside is))
    ∙ inserted_in (number_lists blocks) k index number (omega (arith, count)) within
edited blocks k index number b new false inside is within e =
    ap all_numbers (lists_set blocks k new)
    ∙ ap (λ (l : List ℕ). all_numbers (set (number_lists blocks) k l)) (e ∙ read_numbers blocks k b inside is)
    ∙ ap all_numbers (set-get_or (number_lists blocks) k [])

-- a block becomes its two halves
pub halved : (blocks more : List Block) (k : ℕ) (b second whole first : Block) → k < length blocks → b ≡ get_or blocks k b → second.numbers.items ≡ drop 256 b.numbers.items
    → more ≡ insert blocks (k + 1) second → whole ≡ get_or more k whole → first.numbers.items ≡ take 256 whole.numbers.items → all_numbers (number_lists (set more k first)) ≡ all_numbers (number_lists blocks)
halved blocks more k b second whole first inside is rest grown read left =
    let count = length-map blocks (λ (x : Block). x.numbers.items) in
    let next : k + 1 ≡ suc k = omega arith in
    let lists : number_lists more ≡ insert (number_lists blocks) (suc k) (drop 256 (get_or (number_lists blocks) k [])) =
    ap number_lists grown ∙ lists_insert blocks (k + 1) second ∙ ap (λ (n : ℕ). insert (number_lists blocks) n second.numbers.items) next
    ∙ ap (λ (l : List ℕ). insert (number_lists blocks) (suc k) l) (rest ∙ ap (drop 256) (read_numbers blocks k b inside is)) in
    let longer : k < length more = omega (arith, ap (λ (l : List Block). length l) grown, length-insert blocks (k + 1) second (omega arith)) in
    let own : whole.numbers.items ≡ get_or (number_lists blocks) k [] =
    read_numbers more k whole longer read ∙ ap (λ (l : List (List ℕ)). get_or l k []) lists
    ∙ get_or-insert_below (number_lists blocks) (suc k) (drop 256 (get_or (number_lists blocks) k [])) [] k (omega arith) (omega (arith, count)) in
    ap all_numbers (lists_set more k first)
    ∙ ap (λ (l : List ℕ). all_numbers (set (number_lists more) k l)) (left ∙ ap (take 256) own)
    ∙ ap (λ (l : List (List ℕ)). all_numbers (set l k (take 256 (get_or (number_lists blocks) k [])))) lists
    ∙ divided (number_lists blocks) k 256 (omega (arith, count))
