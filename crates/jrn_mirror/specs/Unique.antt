-- That a log is one of two disks that were used as one has one proof at most.
use Rattle.std.specs.Prelude.{ℕ, ◌<◌, List, [], ◌∷◌, Option, Some, None}
use Rattle.std.specs.List.{AllByRecursion-prop}
use Rattle.std.proofs.Props.{props}
use Rattle.gw_bytes.specs.Bytes.{AreBytes}
use Rattle.gw_site.specs.Outside.{Outside}
use Rattle.gw_site.specs.Image.{Image}
use Rattle.gw_site.specs.declared.turn.Turn.{Turn}
use Rattle.gw_site.specs.declared.turn.Turn.TheVariants.{Start, OpenFailed, Polled, Opened, HeardTill, Closed, HeardPt, Lost as LostLine, Stopped, Linked, LinkFailed, SentTill, SentPt, CutTill, CutPt, Wrote as WroteOne, Synced as SyncedOne, DiskFailed, Crash as CrashOne}
use Rattle.jrn_mirror.specs.declared.turn.Half.{Half}
use Rattle.jrn_mirror.specs.declared.turn.Half.TheVariants.{First, Second}
use Rattle.jrn_mirror.specs.declared.turn.Turn2.{Turn2}
use Rattle.jrn_mirror.specs.declared.turn.Turn2.TheVariants.{Line, Wrote, Synced, Lost, Crash}
use Rattle.jrn_mirror.specs.PairOutside.{Disk}
use Rattle.jrn_mirror.specs.One.{MirrorStage, AtFirst, Between, Opening, Running, Write, Joint, gained, joint_at_first}
use Rattle.jrn_mirror.specs.Mirrored.{IsUnsynced, IsResting, IsInRun, IsCopy, IsLonger, IsCopying, IsSecondHalf, IsWriting, MayWrite, MaySync, MayLose, MayOpen, MayLine, IsLeft, MayCome, MayAllCome, IsMirrored}

pub unsynced-prop : (j : Joint) → IsProp (IsUnsynced j)
unsynced-prop j = hlevel props

pub resting-prop : (j : Joint) → IsProp (IsResting j)
resting-prop j = hlevel (props, unsynced-prop)

pub copy-prop : (original copy : Outside) (offset : ℕ) (bytes : List ℕ) → IsProp (IsCopy original copy offset bytes)
copy-prop original copy offset bytes = hlevel props

pub image-prop : (o : Outside) (file : List ℕ) → IsProp (Image o file)
image-prop o file = hlevel props

pub bytes-prop : (bytes : List ℕ) → IsProp (AreBytes bytes)
bytes-prop bytes = AllByRecursion-prop (λ byte. byte < 256) (λ byte. hlevel props) bytes

longer-prop : (disk : Half) (original copy : ℕ) → IsProp (IsLonger disk original copy)
longer-prop First original copy = hlevel props
longer-prop Second original copy = hlevel props

pub copying-prop : (j : Joint) (disk : Half) (offset : ℕ) (bytes : List ℕ) → IsProp (IsCopying j disk offset bytes)
copying-prop j disk offset bytes = hlevel (props, copy-prop, longer-prop)

pub in_run-prop : (j : Joint) → IsProp (IsInRun j)
in_run-prop j = hlevel (props, resting-prop)

half-prop : (owed : Option Write) (j : Joint) (offset : ℕ) (bytes : List ℕ) → IsProp (IsSecondHalf owed j offset bytes)
half-prop None j offset bytes = hlevel props
half-prop (Some owed) j offset bytes = hlevel props

writing-prop : (disk : Half) (j : Joint) (offset : ℕ) (bytes : List ℕ) → IsProp (IsWriting disk j offset bytes)
writing-prop First j offset bytes = resting-prop j
writing-prop Second j offset bytes = hlevel (props, unsynced-prop, half-prop)

write-prop : (stage : MirrorStage) (disk : Half) (j : Joint) (offset : ℕ) (bytes : List ℕ) → IsProp (MayWrite stage disk j offset bytes)
write-prop AtFirst disk j offset bytes = hlevel props
write-prop Between disk j offset bytes = hlevel props
write-prop (Opening setup first) disk j offset bytes = copying-prop j disk offset bytes
write-prop Running disk j offset bytes = writing-prop disk j offset bytes

sync-prop : (stage : MirrorStage) (j : Joint) → IsProp (MaySync stage j)
sync-prop AtFirst j = hlevel props
sync-prop Between j = hlevel props
sync-prop (Opening setup first) j = hlevel props
sync-prop Running j = hlevel props

lose-prop : (stage : MirrorStage) (disk : Half) (j : Joint) → IsProp (MayLose stage disk j)
lose-prop AtFirst disk j = hlevel props
lose-prop Between disk j = hlevel props
lose-prop (Opening setup first) disk j = hlevel props
lose-prop Running First j = hlevel props
lose-prop Running Second j = hlevel props

pub open-prop : (stage : MirrorStage) (j : Joint) → IsProp (MayOpen stage j)
open-prop AtFirst j = hlevel props
open-prop Between j = hlevel props
open-prop (Opening setup first) j = hlevel props
open-prop Running j = resting-prop j

line-prop : (j : Joint) (turn : Turn) → IsProp (MayLine j turn)
line-prop j (Start setup) = open-prop j.stage j
line-prop j OpenFailed = open-prop j.stage j
line-prop j (Polled now) = in_run-prop j
line-prop j (Opened till) = in_run-prop j
line-prop j (HeardTill till bytes) = in_run-prop j
line-prop j (Closed till) = in_run-prop j
line-prop j (HeardPt pt bytes) = in_run-prop j
line-prop j (LostLine pt) = in_run-prop j
line-prop j Stopped = in_run-prop j
line-prop j (Linked pt) = in_run-prop j
line-prop j (LinkFailed pt) = in_run-prop j
line-prop j (SentTill till bytes ok) = in_run-prop j
line-prop j (SentPt pt bytes ok) = in_run-prop j
line-prop j (CutTill till) = in_run-prop j
line-prop j (CutPt pt) = in_run-prop j
line-prop j (WroteOne offset bytes) = hlevel props
line-prop j SyncedOne = hlevel props
line-prop j DiskFailed = hlevel props
line-prop j (CrashOne file) = hlevel props

left-prop : (disk : Disk) (left : Option (List ℕ)) → IsProp (IsLeft disk left)
left-prop disk None = hlevel props
left-prop disk (Some file) = hlevel (props, image-prop, bytes-prop)

come-prop : (j : Joint) (turn : Turn2) → IsProp (MayCome j turn)
come-prop j (Line turn) = line-prop j turn
come-prop j (Wrote disk offset bytes) = hlevel (props, bytes-prop, write-prop)
come-prop j (Synced disk) = hlevel (props, sync-prop)
come-prop j (Lost disk) = lose-prop j.stage disk j
come-prop j (Crash first second) = hlevel (props, left-prop)

all_come-prop : (j : Joint) (turns : List Turn2) → IsProp (MayAllCome j turns)
all_come-prop j [] = hlevel props
all_come-prop j (turn ∷ turns) =
    let rest = all_come-prop (gained j turn).joint turns in
    hlevel (props, come-prop, rest)

pub mirrored-prop : (log : List Turn2) → IsProp (IsMirrored log)
mirrored-prop log = all_come-prop joint_at_first log
