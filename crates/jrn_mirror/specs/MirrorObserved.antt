-- What a proof may see of the site that stands for a pair, and what holds of the pair in it.
use Rattle.std.specs.Prelude.{◌≡◌, ◌⊎◌, ℕ, Bool, true, false, not, ◌||◌, List, [], ◌∷◌, Option, Some, None, Result}
use Rattle.std.proofs.Props.{props}
use Rattle.gw_site.specs.Failures.{Rose, HasCause, faults_after}
use Rattle.gw_site.specs.Observed.{Observed}
use Rattle.gw_site.specs.declared.turn.Turn.{Turn}
use Rattle.gw_site.specs.declared.turn.Turn.TheVariants.{OpenFailed}
use Rattle.jrn_mirror.specs.declared.turn.Turn2.{Turn2}
use Rattle.jrn_mirror.specs.declared.turn.Turn2.TheVariants.{Line}
use Rattle.jrn_mirror.specs.One.{Joint, one, joint_of}
use Rattle.jrn_mirror.specs.Mirrored.{IsInRun, MayOpen, IsMirrored}
use Rattle.jrn_mirror.specs.PairObserved.{PairObserved, IfLogged, PairGrows}
use Rattle.jrn_mirror.specs.Unique.{mirrored-prop, in_run-prop, open-prop}

-- the log of one disk, where the log of two is observed
abbrev pub one_log : Option (List Turn2) → Option (List Turn)
one_log None = None
one_log (Some log) = Some (one log)

-- what is observed: the log of one disk, the mirror's own count, and darkness where the pair is dark or the mirror was used without being opened
abbrev pub mirror_observed : PairObserved → ℕ → Bool → Observed
mirror_observed observed faults broken = record { log = one_log observed.log; faults = faults; dark = broken || observed.dark; origin = []; plan = None }

-- a run between its calls, in which each disk is there or not
pub record IsRunOf (first second : Bool) (j : Joint) : Type 0 where
  pub run : IsInRun j
  pub first_is : j.outside.first.lost ≡ not first
  pub second_is : j.outside.second.lost ≡ not second

-- a run may begin, and a disk that is taken to be lost is lost
pub record MayOpenAs (first second : Bool) (j : Joint) : Type 0 where
  pub may : MayOpen j.stage j
  pub first_gone : first ≡ false → j.outside.first.lost ≡ true
  pub second_gone : second ≡ false → j.outside.second.lost ≡ true

-- what holds of the pair in a mirror: by which disks it takes to be there, whether it was opened, and whether it was used without
pub record MirrorSound (observed : PairObserved) (first second opened broken : Bool) : Type 0 where
  pub mirrored : IfLogged observed IsMirrored
  pub may_open : observed.dark ≡ false → opened ≡ false → broken ≡ false → IfLogged observed (λ log. MayOpenAs first second (joint_of log))
  pub in_run : observed.dark ≡ false → opened ≡ true → IfLogged observed (λ log. IsRunOf first second (joint_of log))
  pub whole : opened ≡ true → broken ≡ false
  pub first_gone : observed.dark ≡ false → first ≡ false → observed.first_lost ≡ true
  pub second_gone : observed.dark ≡ false → second ≡ false → observed.second_lost ≡ true

run-prop : (first second : Bool) (j : Joint) → IsProp (IsRunOf first second j)
run-prop first second j = hlevel (props, in_run-prop)

open_as-prop : (first second : Bool) (j : Joint) → IsProp (MayOpenAs first second j)
open_as-prop first second j = hlevel (props, open-prop)

pub sound-prop : (observed : PairObserved) (first second opened broken : Bool) → IsProp (MirrorSound observed first second opened broken)
sound-prop observed first second opened broken = hlevel (props, mirrored-prop, open_as-prop, run-prop)

-- a pair that may be handed to a mirror: its log is one of two disks that were used as one, and no opening or call is under way unless it is dark
pub record CanMirror (observed : PairObserved) : Type 0 where
  pub mirrored : IfLogged observed IsMirrored
  pub may_open : observed.dark ≡ false → IfLogged observed (λ log. MayOpen (joint_of log).stage (joint_of log))

-- a mirror may fail: unless the pair is dark, it wasn't opened or both disks are lost
abbrev pub IsBeyondUse : PairObserved → Bool → Type 0
IsBeyondUse observed opened = observed.dark ≡ false → opened ≡ true → (observed.first_lost ≡ true) × (observed.second_lost ≡ true)

-- the pair could not be opened: the log has its failure, which was counted
pub record IsOpenRefused (old new : PairObserved) : Type 0 where
  pub turns : PairGrows old new (λ turns. turns ≡ Line OpenFailed ∷ [])
  pub counted : Rose old.faults new.faults

-- an opening may fail: unless the mirror is dark, the pair could not be opened, or both disks are lost
abbrev pub IsOpeningBeyondUse : PairObserved → PairObserved → Bool → Type 0
IsOpeningBeyondUse old new broken = broken ≡ false → new.dark ≡ false → IsOpenRefused old new ⊎ ((new.first_lost ≡ true) × (new.second_lost ≡ true))

-- a call on the lines may fail: the mirror wasn't opened, or it failed in the pair
abbrev pub IsPassedOn : PairObserved → PairObserved → Bool → Type 0
IsPassedOn old new opened = opened ≡ true → Rose old.faults new.faults

-- the count of failures has its cause, and is one more exactly where the call failed
pub record IsFailureCounted {T E : Type 0} (before now : ℕ) (result : Result T E) : Type 0 where
  pub cause : HasCause before now result
  pub exact : now ≡ faults_after before result
