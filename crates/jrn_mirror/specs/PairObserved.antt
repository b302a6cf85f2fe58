-- What a proof may see of a pair of disks with the lines of a site, and how its calls make its log grow.
use Rattle.std.specs.Prelude.{◌≡◌, ℕ, Bool, true, false, List, [], ◌∷◌, ◌++◌, Option, Some, None, Result, Ok, Err, IsErr, OnErr}
use Rattle.gw_bytes.specs.Bytes.{IsPrefix}
use Rattle.gw_base.specs.declared.setup.Setup.{Setup}
use Rattle.gw_site.specs.declared.turn.Turn.{Turn}
use Rattle.gw_site.specs.declared.turn.Turn.TheVariants.{Start, OpenFailed}
use Rattle.jrn_mirror.specs.declared.turn.Half.{Half}
use Rattle.jrn_mirror.specs.declared.turn.Half.TheVariants.{First, Second}
use Rattle.jrn_mirror.specs.declared.turn.Turn2.{Turn2}
use Rattle.jrn_mirror.specs.declared.turn.Turn2.TheVariants.{Line, Wrote, Synced, Lost}
use Rattle.jrn_mirror.specs.PairOutside.{disk_of, pair_outside_of}

-- what a proof may see of a pair: what went in and out, oldest first, where that is observed; how often a call has failed; whether it is dark; and of each disk whether it is lost
pub record PairObserved : Type 0 where
  pub log : Option (List Turn2)
  pub faults : ℕ
  pub dark : Bool
  pub first_lost : Bool
  pub second_lost : Bool

-- the disk of this name is lost
abbrev pub is_lost : PairObserved → Half → Bool
is_lost observed First = observed.first_lost
is_lost observed Second = observed.second_lost

-- a fact of the log, where it is observed
abbrev pub IfLogged : PairObserved → (List Turn2 → Type 0) → Type 0
IfLogged observed P = (log : List Turn2) → observed.log ≡ Some log → P log

-- what a call adds to the log, by whether the pair was dark before and is dark after it: all of its turns; a prefix of them in the call in which it goes dark; nothing where it was dark
abbrev pub AddsTurns : Bool → Bool → List Turn2 → List Turn2 → Type 0
AddsTurns true true turns added = added ≡ []
AddsTurns true false turns added = ⊥
AddsTurns false true turns added = IsPrefix added turns
AddsTurns false false turns added = added ≡ turns

-- the turns that a call adds to this log
pub record Added2 (old new : PairObserved) (log : List Turn2) (Call : List Turn2 → Type 0) : Type 0 where
  pub turns : List Turn2
  pub added : List Turn2
  pub call : Call turns
  pub adds : AddsTurns old.dark new.dark turns added
  pub log_is : new.log ≡ Some (log ++ added)

-- the log goes on by turns that a call has: observed stays observed, unobserved stays unobserved, dark stays dark, and a lost disk stays lost
pub record PairGrows (old new : PairObserved) (Call : List Turn2 → Type 0) : Type 0 where
  pub logged : IfLogged old (λ log. Added2 old new log Call)
  pub unlogged : old.log ≡ None → new.log ≡ None
  pub stays : old.dark ≡ true → new.dark ≡ true
  pub first_stays : old.first_lost ≡ true → new.first_lost ≡ true
  pub second_stays : old.second_lost ≡ true → new.second_lost ≡ true

-- how a call on a disk fails: always where the pair is dark, or the disk is lost; and a failure loses the disk, unless the pair is dark then
pub record FailsSo {T E : Type 0} (old new : PairObserved) (disk : Half) (result : Result T E) : Type 0 where
  pub dark : old.dark ≡ true → IsErr result
  pub lost : is_lost old disk ≡ true → IsErr result
  pub logged_lost : IfLogged old (λ log. (disk_of (pair_outside_of log) disk).lost ≡ true → IsErr result)
  pub loses : OnErr result (new.dark ≡ false → is_lost new disk ≡ true)

-- ---- the turns of each call

-- these turns of the lines
abbrev pub lines_of : List Turn → List Turn2
lines_of [] = []
lines_of (turn ∷ turns) = Line turn ∷ lines_of turns

-- a call on the lines has the turns of a site
abbrev pub LineTurns : (List Turn → Type 0) → List Turn2 → Type 0
LineTurns Call turns = (lines : List Turn) × Call lines × (turns ≡ lines_of lines)

-- an opening: a start, or a failure
abbrev pub PairOpenTurns : {E : Type 0} → Setup → Result (Unit {0}) E → List Turn2 → Type 0
PairOpenTurns setup (Ok done) turns = turns ≡ Line (Start setup) ∷ []
PairOpenTurns setup (Err failed) turns = turns ≡ Line OpenFailed ∷ []

-- a look at a disk leaves a turn only where it failed
abbrev pub PairDiskTurns : {T E : Type 0} → Half → Result T E → List Turn2 → Type 0
PairDiskTurns disk (Ok given) turns = turns ≡ []
PairDiskTurns disk (Err failed) turns = turns ≡ Lost disk ∷ []

-- a write, which is in the log also where it failed
abbrev pub PairWroteTurns : {E : Type 0} → Half → ℕ → List ℕ → Result (Unit {0}) E → List Turn2 → Type 0
PairWroteTurns disk offset bytes (Ok done) turns = turns ≡ Wrote disk offset bytes ∷ []
PairWroteTurns disk offset bytes (Err failed) turns = turns ≡ Wrote disk offset bytes ∷ Lost disk ∷ []

-- a sync leaves its turn, or where it failed that of the disk's loss
abbrev pub PairSyncedTurns : {E : Type 0} → Half → Result (Unit {0}) E → List Turn2 → Type 0
PairSyncedTurns disk (Ok done) turns = turns ≡ Synced disk ∷ []
PairSyncedTurns disk (Err failed) turns = turns ≡ Lost disk ∷ []
