-- Inner: the turns of a call on both disks, by which of them are there before and after it.
use Rattle.std.specs.Prelude.{◌≡◌, ℕ, Bool, true, false, List, [], ◌∷◌, ◌++◌, Result, Ok, Err}
use Rattle.gw_site.specs.declared.site.Failed.{Failed}
use Rattle.jrn_mirror.specs.declared.turn.Half.{Half}
use Rattle.jrn_mirror.specs.declared.turn.Half.TheVariants.{First, Second}
use Rattle.jrn_mirror.specs.declared.turn.Turn2.{Turn2}
use Rattle.jrn_mirror.specs.declared.turn.Turn2.TheVariants.{Wrote, Synced, Lost}
use Rattle.jrn_mirror.specs.PairOutside.{disk_of, pair_outside_of}
use Rattle.jrn_mirror.specs.PairObserved.{PairObserved}

-- ---- the turns of a call on both disks, by whether each of them was there after it

-- the loss of a disk that isn't there
abbrev pub loss : Bool → Half → List Turn2
loss true disk = []
loss false disk = Lost disk ∷ []

-- a write on one disk
abbrev pub half_write : Half → ℕ → List ℕ → Bool → List Turn2
half_write disk offset bytes there = Wrote disk offset bytes ∷ loss there disk

-- a sync of one disk
abbrev pub half_sync : Half → Bool → List Turn2
half_sync disk true = Synced disk ∷ []
half_sync disk false = Lost disk ∷ []

-- a write on the disks that are there, by which were before and after it; where both are lost, on the first once more
abbrev pub there_write : Bool → Bool → ℕ → List ℕ → Bool → Bool → List Turn2
there_write true true offset bytes first second = half_write First offset bytes first ++ half_write Second offset bytes second
there_write true false offset bytes first second = half_write First offset bytes first
there_write false true offset bytes first second = half_write Second offset bytes second
there_write false false offset bytes first second = half_write First offset bytes false

-- a sync of the disks that are there, likewise
abbrev pub there_sync : Bool → Bool → Bool → Bool → List Turn2
there_sync true true first second = half_sync First first ++ half_sync Second second
there_sync true false first second = half_sync First first
there_sync false true first second = half_sync Second second
there_sync false false first second = half_sync First false

-- a disk that is taken to be lost is lost, unless the pair is dark
abbrev pub AreGone : PairObserved → Bool → Bool → Type 0
AreGone observed first second = (observed.dark ≡ false → first ≡ false → observed.first_lost ≡ true) × (observed.dark ≡ false → second ≡ false → observed.second_lost ≡ true)

-- a disk that was lost before is lost after
abbrev pub StayGone : Bool → Bool → Bool → Bool → Type 0
StayGone first second first_now second_now = (first ≡ false → first_now ≡ false) × (second ≡ false → second_now ≡ false)

-- Ok where a disk is there
abbrev pub ok_if : Bool → Result (Unit {0}) Failed
ok_if true = Ok tt
ok_if false = Err (record {})

-- ---- looks at the file

-- a disk that isn't lost has this of its file
abbrev pub HasOf : List Turn2 → Half → (List ℕ → Type 0) → Type 0
HasOf log disk P = ((disk_of (pair_outside_of log) disk).lost ≡ false) × P (disk_of (pair_outside_of log) disk).outside.file

-- one of the disks has
abbrev pub OneHas : List Turn2 → (List ℕ → Type 0) → Type 0
OneHas log P = (disk : Half) × HasOf log disk P

-- a look at the first disk that is there, by which were before and after it; where both are lost, at the first once more
abbrev pub there_look : Bool → Bool → Bool → Bool → List Turn2
there_look true true first second = loss first First ++ loss second Second
there_look true false first second = loss first First
there_look false true first second = loss second Second
there_look false false first second = Lost First ∷ []
