-- Inner: the names of some members in order, by the numbers of these members.
use Rattle.std.specs.Prelude.{◌≡◌, ℕ, ◌<◌, ◌≤◌, List, [], length, map, slice_index, slice_index_or}
use Rattle.std.specs.Ordering.{nat_cmp}
use Rattle.std.specs.Cmp.Lexicographic.{slice_cmp}
use Rattle.std.specs.declared.cmp.Ordering.TheVariants.{Less}

-- the first name comes before the second, byte by byte
abbrev pub ComesBefore : List ℕ → List ℕ → Type 0
ComesBefore a b = slice_cmp nat_cmp a b ≡ Less

-- the name with this number, of which the first has 0; the empty one where there is none
abbrev pub name_at : List (List ℕ) → ℕ → List ℕ
name_at ns i = slice_index_or ns i []

-- the names with these numbers
abbrev pub names_at : List (List ℕ) → List ℕ → List (List ℕ)
names_at ns numbers = map (λ number. name_at ns number) numbers

-- each is the number of one of so many members
abbrev pub AreMemberNumbers : List ℕ → ℕ → Type 0
AreMemberNumbers numbers count = (i : ℕ) → i < length numbers → slice_index numbers i < count

-- each name comes before those after it
abbrev pub AreInOrder : List (List ℕ) → Type 0
AreInOrder ns = (i j : ℕ) → i < j → j < length ns → ComesBefore (name_at ns i) (name_at ns j)

-- the first so many of the names come before this name, and it comes before the others
pub record ComesAt (ns : List (List ℕ)) (name : List ℕ) (gap : ℕ) : Type 0 where
  pub within : gap ≤ length ns
  pub below : (i : ℕ) → i < gap → ComesBefore (name_at ns i) name
  pub above : (i : ℕ) → gap ≤ i → i < length ns → ComesBefore name (name_at ns i)
