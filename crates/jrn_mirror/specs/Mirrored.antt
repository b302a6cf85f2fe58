-- The logs of two disks that are used as one.
use Rattle.std.specs.Prelude.{◌≡◌, ◌≢◌, ℕ, ◌+◌, ◌<◌, ◌≤◌, true, false, List, [], ◌∷◌, length, get_or, Option, Some, None}
use Rattle.gw_bytes.specs.Bytes.{AreBytes}
use Rattle.gw_site.specs.Outside.{Outside, outside_after, file_part}
use Rattle.gw_site.specs.Image.{Image}
use Rattle.gw_site.specs.declared.turn.Turn.{Turn}
use Rattle.gw_site.specs.declared.turn.Turn.TheVariants.{Start, OpenFailed, Polled, Opened, HeardTill, Closed, HeardPt, Lost as LostLine, Stopped, Linked, LinkFailed, SentTill, SentPt, CutTill, CutPt, Wrote as WroteOne, Synced as SyncedOne, DiskFailed, Crash as CrashOne}
use Rattle.jrn_mirror.specs.declared.turn.Half.{Half}
use Rattle.jrn_mirror.specs.declared.turn.Half.TheVariants.{First, Second}
use Rattle.jrn_mirror.specs.declared.turn.Turn2.{Turn2}
use Rattle.jrn_mirror.specs.declared.turn.Turn2.TheVariants.{Line, Wrote, Synced, Lost, Crash}
use Rattle.jrn_mirror.specs.PairOutside.{Disk, PairOutside, disk_of, other_of, are_lost}
use Rattle.jrn_mirror.specs.One.{MirrorStage, AtFirst, Between, Opening, Running, Write, Joint, joint_at_first, gained, is_run_stage}

-- ---- which turn may come

-- no sync is under way
pub record IsUnsynced (j : Joint) : Type 0 where
  pub first : j.first_synced ≡ false
  pub second : j.second_synced ≡ false

-- no call is under way
pub record IsResting (j : Joint) : Type 0 where
  pub unsynced : IsUnsynced j
  pub whole : j.owed ≡ None

-- these bytes of one file, at most 4,096, are written to the other: each of them differs from what is there, or lies past its end
pub record IsCopy (original copy : Outside) (offset : ℕ) (bytes : List ℕ) : Type 0 where
  pub some : 0 < length bytes
  pub few : length bytes ≤ 4096
  pub part : bytes ≡ file_part original.file offset (length bytes)
  pub within : offset + length bytes ≤ length original.file
  pub differs : (index : ℕ) → offset ≤ index → index < offset + length bytes → index < length copy.file → get_or copy.file index 0 ≢ get_or original.file index 0

-- the file that is copied over this disk's is the longer one, or the first of two equally long ones
abbrev pub IsLonger : Half → ℕ → ℕ → Type 0
IsLonger First original copy = copy < original
IsLonger Second original copy = copy ≤ original

-- in an opening both disks are there, and the longer file is copied to the other
pub record IsCopying (j : Joint) (disk : Half) (offset : ℕ) (bytes : List ℕ) : Type 0 where
  pub there : (disk_of j.outside disk).lost ≡ false
  pub other : (other_of j.outside disk).lost ≡ false
  pub longer : IsLonger disk (length (other_of j.outside disk).outside.file) (length (disk_of j.outside disk).outside.file)
  pub copy : IsCopy (other_of j.outside disk).outside (disk_of j.outside disk).outside offset bytes

-- a write on the second disk is the one that it owes, or one of its own where the first disk is lost
abbrev pub IsSecondHalf : Option Write → Joint → ℕ → List ℕ → Type 0
IsSecondHalf None j offset bytes = j.outside.first.lost ≡ true
IsSecondHalf (Some owed) j offset bytes = (owed.offset ≡ offset) × (owed.bytes ≡ bytes)

-- in a run a write begins on the first disk, unless that is lost; a write on the second goes on with it
abbrev pub IsWriting : Half → Joint → ℕ → List ℕ → Type 0
IsWriting First j offset bytes = IsResting j
IsWriting Second j offset bytes = IsUnsynced j × IsSecondHalf j.owed j offset bytes

-- a write may come in this stage
abbrev pub MayWrite : MirrorStage → Half → Joint → ℕ → List ℕ → Type 0
MayWrite AtFirst disk j offset bytes = ⊥
MayWrite Between disk j offset bytes = ⊥
MayWrite (Opening setup first) disk j offset bytes = IsCopying j disk offset bytes
MayWrite Running disk j offset bytes = IsWriting disk j offset bytes

-- the other disk, if it is there, has the same file
abbrev pub AreCopied : PairOutside → Type 0
AreCopied o = o.first.lost ≡ false → o.second.lost ≡ false → o.first.outside.file ≡ o.second.outside.file

-- a disk may be synced in this stage: in an opening, once all is copied
abbrev pub MaySync : MirrorStage → Joint → Type 0
MaySync AtFirst j = ⊥
MaySync Between j = ⊥
MaySync (Opening setup first) j = AreCopied j.outside
MaySync Running j = j.owed ≡ None

-- a disk may be lost in this stage: the second not while it owes a write; between runs only once more, where both are lost
abbrev pub MayLose : MirrorStage → Half → Joint → Type 0
MayLose AtFirst disk j = ⊥
MayLose Between disk j = are_lost j.outside ≡ true
MayLose (Opening setup first) disk j = Unit {0}
MayLose Running First j = Unit {0}
MayLose Running Second j = j.owed ≡ None

-- a run may begin, or fail to, in this stage: not within an opening
abbrev pub MayOpen : MirrorStage → Joint → Type 0
MayOpen AtFirst j = Unit {0}
MayOpen Between j = Unit {0}
MayOpen (Opening setup first) j = ⊥
MayOpen Running j = IsResting j

-- the lines go on in a run alone, between the calls on the disks
pub record IsInRun (j : Joint) : Type 0 where
  pub stage : is_run_stage j.stage ≡ true
  pub resting : IsResting j

-- a turn of the lines may come
abbrev pub MayLine : Joint → Turn → Type 0
MayLine j (Start setup) = MayOpen j.stage j
MayLine j OpenFailed = MayOpen j.stage j
MayLine j (Polled now) = IsInRun j
MayLine j (Opened till) = IsInRun j
MayLine j (HeardTill till bytes) = IsInRun j
MayLine j (Closed till) = IsInRun j
MayLine j (HeardPt pt bytes) = IsInRun j
MayLine j (LostLine pt) = IsInRun j
MayLine j Stopped = IsInRun j
MayLine j (Linked pt) = IsInRun j
MayLine j (LinkFailed pt) = IsInRun j
MayLine j (SentTill till bytes ok) = IsInRun j
MayLine j (SentPt pt bytes ok) = IsInRun j
MayLine j (CutTill till) = IsInRun j
MayLine j (CutPt pt) = IsInRun j
MayLine j (WroteOne offset bytes) = ⊥
MayLine j SyncedOne = ⊥
MayLine j DiskFailed = ⊥
MayLine j (CrashOne file) = ⊥

-- a power failure leaves an image of the disk by itself, and nothing of a lost one, which does not come back
abbrev pub IsLeft : Disk → Option (List ℕ) → Type 0
IsLeft disk None = disk.lost ≡ true
IsLeft disk (Some file) = (disk.lost ≡ false) × Image disk.outside file × AreBytes file

-- a turn may come next
abbrev pub MayCome : Joint → Turn2 → Type 0
MayCome j (Line turn) = MayLine j turn
MayCome j (Wrote disk offset bytes) = AreBytes bytes × MayWrite j.stage disk j offset bytes
MayCome j (Synced disk) = ((disk_of j.outside disk).lost ≡ false) × MaySync j.stage j
MayCome j (Lost disk) = MayLose j.stage disk j
MayCome j (Crash first second) = IsLeft j.outside.first first × IsLeft j.outside.second second

-- these turns may come one after the other
abbrev pub MayAllCome : Joint → List Turn2 → Type 0
MayAllCome j [] = Unit {0}
MayAllCome j (turn ∷ turns) = MayCome j turn × MayAllCome (gained j turn).joint turns

-- the log is one of two disks that were used as one from the first turn on
abbrev pub IsMirrored : List Turn2 → Type 0
IsMirrored log = MayAllCome joint_at_first log

-- ---- what is said of the log of one disk

-- a power failure leaves an image of what comes before it, in bytes
abbrev pub IsImageAt : Outside → Turn → Type 0
IsImageAt o (Start setup) = Unit {0}
IsImageAt o OpenFailed = Unit {0}
IsImageAt o (Polled now) = Unit {0}
IsImageAt o (Opened till) = Unit {0}
IsImageAt o (HeardTill till bytes) = Unit {0}
IsImageAt o (Closed till) = Unit {0}
IsImageAt o (HeardPt pt bytes) = Unit {0}
IsImageAt o (LostLine pt) = Unit {0}
IsImageAt o Stopped = Unit {0}
IsImageAt o (Linked pt) = Unit {0}
IsImageAt o (LinkFailed pt) = Unit {0}
IsImageAt o (SentTill till bytes ok) = Unit {0}
IsImageAt o (SentPt pt bytes ok) = Unit {0}
IsImageAt o (CutTill till) = Unit {0}
IsImageAt o (CutPt pt) = Unit {0}
IsImageAt o (WroteOne offset bytes) = Unit {0}
IsImageAt o SyncedOne = Unit {0}
IsImageAt o DiskFailed = Unit {0}
IsImageAt o (CrashOne file) = Image o file × AreBytes file

-- each power failure does
abbrev pub AreImages : Outside → List Turn → Type 0
AreImages o [] = Unit {0}
AreImages o (turn ∷ turns) = IsImageAt o turn × AreImages (outside_after o turn) turns
