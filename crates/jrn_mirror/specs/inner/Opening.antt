-- Inner: an opening of two disks as one: what it has added to the log so far, and what the log of one disk has gained by that.
use Rattle.std.specs.Prelude.{◌≡◌, ◌⊎◌, ℕ, Bool, true, false, not, ◌||◌, List, [], ◌∷◌, ◌++◌, Some, None}
use Rattle.gw_base.specs.declared.setup.Setup.{Setup}
use Rattle.gw_site.specs.declared.turn.Turn.{Turn}
use Rattle.gw_site.specs.declared.turn.Turn.TheVariants.{OpenFailed}
use Rattle.jrn_mirror.specs.declared.turn.Half.{Half}
use Rattle.jrn_mirror.specs.declared.turn.Half.TheVariants.{First, Second}
use Rattle.jrn_mirror.specs.declared.turn.Turn2.{Turn2}
use Rattle.jrn_mirror.specs.declared.turn.Turn2.TheVariants.{Lost}
use Rattle.jrn_mirror.specs.PairOutside.{PairOutside, disk_of, pair_outside_of}
use Rattle.jrn_mirror.specs.One.{MirrorStage, AtFirst, Between, Opening, Running, Joint, one_from, joint_from, joint_of, opened_turns}
use Rattle.jrn_mirror.specs.Mirrored.{IsResting, MayAllCome}
use Rattle.jrn_mirror.specs.PairObserved.{PairObserved, IfLogged}
use Rattle.jrn_mirror.specs.MirrorObserved.{IsRunOf, MayOpenAs}
use Rattle.jrn_mirror.specs.inner.Halves.{AreGone, loss}

-- an opening that begins in this stage comes first in the log
abbrev pub stands_first : MirrorStage → Bool
stands_first AtFirst = true
stands_first Between = false
stands_first (Opening setup is_first) = false
stands_first Running = false

-- an opening is under way in which nothing was synced yet; each disk is there or lost
pub record IsOpeningOf (setup : Setup) (is_first first second : Bool) (j : Joint) : Type 0 where
  pub stage : j.stage ≡ Opening setup is_first
  pub resting : IsResting j
  pub first_is : j.outside.first.lost ≡ not first
  pub second_is : j.outside.second.lost ≡ not second

-- what an opening has gained, by whether a disk is there: nothing, and it goes on; or it has failed
abbrev pub OpeningGoes : Bool → Setup → Bool → Bool → Bool → List Turn → Joint → Type 0
OpeningGoes true setup is_first first second ones j = (ones ≡ []) × IsOpeningOf setup is_first first second j
OpeningGoes false setup is_first first second ones j = (ones ≡ OpenFailed ∷ []) × MayOpenAs false false j

-- what it has gained where the pair is dark: nothing, or no disk is there and it has failed
abbrev pub IsGivenUp : Bool → List Turn → Type 0
IsGivenUp there ones = (ones ≡ []) ⊎ ((there ≡ false) × (ones ≡ OpenFailed ∷ []))

-- what an opening gains at its end, by whether a disk is there
abbrev pub end_turns : Bool → Setup → Bool → PairOutside → List Turn
end_turns true setup is_first o = opened_turns setup is_first o
end_turns false setup is_first o = OpenFailed ∷ []

-- an opening has ended: a run has begun, or it has failed
abbrev pub OpeningEnds : Bool → Setup → Bool → Bool → Bool → List Turn → Joint → Type 0
OpeningEnds true setup is_first first second ones j = (ones ≡ opened_turns setup is_first j.outside) × IsRunOf first second j
OpeningEnds false setup is_first first second ones j = (ones ≡ OpenFailed ∷ []) × MayOpenAs false false j

-- what it has gained where the pair is dark: nothing, or all
abbrev pub HasEndedSo : Bool → Setup → Bool → List Turn → Joint → Type 0
HasEndedSo there setup is_first ones j = (ones ≡ []) ⊎ (ones ≡ end_turns there setup is_first j.outside)

-- what was added to this log; what the log of one disk has gained by it, and what is to be remembered, by whether the pair is dark now
pub record HasComeTo (now : PairObserved) (log : List Turn2) (Lit Dark : List Turn → Joint → Type 0) : Type 0 where
  pub added : List Turn2
  pub log_is : now.log ≡ Some (log ++ added)
  pub may : MayAllCome (joint_of log) added
  pub lit : now.dark ≡ false → Lit (one_from (joint_of log) added) (joint_from (joint_of log) added)
  pub dark : now.dark ≡ true → Dark (one_from (joint_of log) added) (joint_from (joint_of log) added)

-- an opening that began at the log of `start` has come to `now`, and goes on with the disks that are there
pub record IsUnderWay (start now : PairObserved) (setup : Setup) (first second : Bool) : Type 0 where
  pub logged : IfLogged start (λ log. HasComeTo now log (OpeningGoes (first || second) setup (stands_first (joint_of log).stage) first second) (λ ones j. IsGivenUp (first || second) ones))
  pub unlogged : start.log ≡ None → now.log ≡ None
  pub gone : AreGone now first second

-- it has ended, and these disks are there
pub record Opened (start now : PairObserved) (setup : Setup) (first second : Bool) : Type 0 where
  pub logged : IfLogged start (λ log. HasComeTo now log (OpeningEnds (first || second) setup (stands_first (joint_of log).stage) first second) (HasEndedSo (first || second) setup (stands_first (joint_of log).stage)))
  pub unlogged : start.log ≡ None → now.log ≡ None
  pub gone : AreGone now first second

-- whichever opening is under way goes on, and other disks are there
abbrev pub KeepsOpening : PairObserved → PairObserved → Bool → Bool → Bool → Bool → Type 0
KeepsOpening old new first second first_now second_now = (start : PairObserved) (setup : Setup) → IsUnderWay start old setup first second → IsUnderWay start new setup first_now second_now

-- whichever opening is under way ends
abbrev pub EndsAll : PairObserved → PairObserved → Bool → Bool → Bool → Bool → Type 0
EndsAll old new first second first_now second_now = (start : PairObserved) (setup : Setup) → IsUnderWay start old setup first second → Opened start new setup first_now second_now

-- a run may begin, and a disk that is taken to be lost is lost, unless the pair is dark
pub record CanOpen (observed : PairObserved) (first second : Bool) : Type 0 where
  pub may : observed.dark ≡ false → IfLogged observed (λ log. MayOpenAs first second (joint_of log))
  pub gone : AreGone observed first second

-- the looks at the lengths of the files: of each disk that is taken to be there, by whether it is; where none is, at the first
abbrev pub there_looks : Bool → Bool → Bool → Bool → List Turn2
there_looks true true first second = loss first First ++ loss second Second
there_looks true false first second = loss first First
there_looks false true first second = loss second Second
there_looks false false first second = Lost First ∷ []

-- the file on this disk
abbrev pub file_on : List Turn2 → Half → List ℕ
file_on log disk = (disk_of (pair_outside_of log) disk).outside.file

-- both disks hold the same file, unless the pair is dark
abbrev pub HaveSameFile : PairObserved → Type 0
HaveSameFile observed = observed.dark ≡ false → IfLogged observed (λ log. file_on log First ≡ file_on log Second)
