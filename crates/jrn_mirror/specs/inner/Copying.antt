-- Inner: how far the copying of an opening is.
use Rattle.std.specs.Prelude.{◌≡◌, ℕ, ◌+◌, ◌<◌, ◌≤◌, Bool, true, false, max, List, length, get_or, Option, IfSome}
use Rattle.gw_site.specs.Outside.{file_part}
use Rattle.jrn_mirror.specs.declared.turn.Half.{Half}
use Rattle.jrn_mirror.specs.declared.turn.Half.TheVariants.{First, Second}
use Rattle.jrn_mirror.specs.declared.turn.Turn2.{Turn2}
use Rattle.jrn_mirror.specs.declared.copying.Copying.{Copying}
use Rattle.jrn_mirror.specs.PairObserved.{PairObserved, IfLogged}
use Rattle.jrn_mirror.specs.inner.Halves.{HasOf}
use Rattle.jrn_mirror.specs.inner.Opening.{file_on, KeepsOpening}

-- the other disk
abbrev pub other_half : Half → Half
other_half First = Second
other_half Second = First

-- whether the first disk is there, by whether the source and the target are
abbrev pub first_left : Half → Bool → Bool → Bool
first_left First source_left target_left = source_left
first_left Second source_left target_left = target_left

-- and the second
abbrev pub second_left : Half → Bool → Bool → Bool
second_left First source_left target_left = target_left
second_left Second source_left target_left = source_left

-- before this place the copy has the original's bytes; beyond it, it ends where it ended at first
pub record Copied (original copy : List ℕ) (size shorter upto : ℕ) : Type 0 where
  pub size_is : length original ≡ size
  pub length_is : length copy ≡ max shorter upto
  pub same : (index : ℕ) → index < upto → get_or copy index 0 ≡ get_or original index 0

-- the copying has come to this place
abbrev pub AreCopiedTo : PairObserved → Copying → ℕ → Type 0
AreCopiedTo observed copying upto = observed.dark ≡ false → IfLogged observed (λ log. Copied (file_on log copying.source) (file_on log (other_half copying.source)) copying.size copying.shorter upto)

-- the copying has come to this place of a part of both files, which begins at an offset; from there on the copy is as it was read
pub record PartCopied (original copy : List ℕ) (size shorter offset : ℕ) (part read : List ℕ) (upto : ℕ) : Type 0 where
  pub copied : Copied original copy size shorter (offset + upto)
  pub part_is : part ≡ file_part original offset (length part)
  pub above : (index : ℕ) → upto ≤ index → index < length part → get_or copy (offset + index) 0 ≡ get_or read index 0

abbrev pub ArePartCopiedTo : PairObserved → Copying → ℕ → List ℕ → List ℕ → ℕ → Type 0
ArePartCopiedTo observed copying offset part read upto = observed.dark ≡ false → IfLogged observed (λ log. PartCopied (file_on log copying.source) (file_on log (other_half copying.source)) copying.size copying.shorter offset part read upto)

-- the copying goes on where both disks are there, and the source and the target are or aren't after that
abbrev pub CopyGoesOn : PairObserved → PairObserved → Half → Bool → Bool → Type 0
CopyGoesOn old new source source_left target_left = KeepsOpening old new true true (first_left source source_left target_left) (second_left source source_left target_left)

-- the files have these lengths, on disks that aren't lost
pub record AreLengths (log : List Turn2) (first second : Option ℕ) : Type 0 where
  pub first_has : IfSome first (λ count. HasOf log First (λ file. count ≡ length file))
  pub second_has : IfSome second (λ count. HasOf log Second (λ file. count ≡ length file))

-- the size of the source and that of the target are the lengths of both files
abbrev pub HasLengthsBy : Half → ℕ → ℕ → ℕ → ℕ → Type 0
HasLengthsBy First size shorter first second = (size ≡ first) × (shorter ≡ second)
HasLengthsBy Second size shorter first second = (size ≡ second) × (shorter ≡ first)

-- what is copied has the lengths of both files
abbrev pub HasLengths : Copying → ℕ → ℕ → Type 0
HasLengths copying first second = HasLengthsBy copying.source copying.size copying.shorter first second
