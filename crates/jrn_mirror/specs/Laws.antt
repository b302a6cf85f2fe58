-- Laws of the log of one disk that a log of two stands for.
use Rattle.std.specs.Prelude.{◌≡◌, ℕ, false, List, [], ◌∷◌, ◌++◌, Option}
use Rattle.gw_site.specs.Outside.{outside_of, nothing_yet}
use Rattle.gw_site.specs.Turns.{IsPromised}
use Rattle.gw_site.specs.declared.site.What.{What}
use Rattle.jrn_mirror.specs.declared.turn.Half.{Half}
use Rattle.jrn_mirror.specs.declared.turn.Turn2.{Turn2}
use Rattle.jrn_mirror.specs.PairOutside.{pair_outside_of, disk_of}
use Rattle.jrn_mirror.specs.One.{one, one_from, joint_of}
use Rattle.jrn_mirror.specs.Mirrored.{IsMirrored, IsInRun, IsLeft, MayOpen, AreImages}
use Rattle.jrn_mirror.specs.declared.turn.Turn2.TheVariants.{Crash}

-- each power failure in it leaves an image of what comes before it
abbrev pub OneHasImages : Type 0
OneHasImages = (log : List Turn2) → IsMirrored log → AreImages nothing_yet (one log)

-- it only grows
abbrev pub OneGrows : Type 0
OneGrows = (log more : List Turn2) → one (log ++ more) ≡ one log ++ one_from (joint_of log) more

-- in a run, between the calls, each disk that is there has the file of the one disk
abbrev pub DisksHoldOne : Type 0
DisksHoldOne = (log : List Turn2) → IsMirrored log → IsInRun (joint_of log) → (disk : Half) → (disk_of (joint_of log).outside disk).lost ≡ false →
    (disk_of (joint_of log).outside disk).outside.file ≡ (outside_of (one log)).file

-- in a run the lines are those of the one log, so what the pair promises of an event holds there
abbrev pub LinesAreOne : Type 0
LinesAreOne = (log : List Turn2) → IsMirrored log → IsInRun (joint_of log) → (what : What) → IsPromised (joint_of log).outside.lines what → IsPromised (outside_of (one log)) what

-- what is remembered has the outside of the log of two
abbrev pub JointHasOutside : Type 0
JointHasOutside = (log : List Turn2) → (joint_of log).outside ≡ pair_outside_of log

-- a power failure that leaves an image of each disk by itself, and after which the disks may be opened, keeps a log of two disks that were used as one such a log
abbrev pub CrashStaysMirrored : Type 0
CrashStaysMirrored = (log : List Turn2) (first second : Option (List ℕ)) → IsMirrored log → IsLeft (pair_outside_of log).first first → IsLeft (pair_outside_of log).second second →
    IsMirrored (log ++ Crash first second ∷ []) × MayOpen (joint_of (log ++ Crash first second ∷ [])).stage (joint_of (log ++ Crash first second ∷ []))
