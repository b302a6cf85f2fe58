-- The log of one disk that a log of two disks stands for.
use Rattle.std.specs.Prelude.{ℕ, Bool, true, false, ◌&&◌, ◌||◌, List, [], ◌∷◌, ◌++◌, Option, Some, None}
use Rattle.gw_base.specs.declared.setup.Setup.{Setup}
use Rattle.gw_site.specs.declared.turn.Turn.{Turn}
use Rattle.gw_site.specs.declared.turn.Turn.TheVariants.{Start, OpenFailed, Polled, Opened, HeardTill, Closed, HeardPt, Lost as LostLine, Stopped, Linked, LinkFailed, SentTill, SentPt, CutTill, CutPt, Wrote as WroteOne, Synced as SyncedOne, DiskFailed, Crash as CrashOne}
use Rattle.jrn_mirror.specs.declared.turn.Half.{Half}
use Rattle.jrn_mirror.specs.declared.turn.Half.TheVariants.{First, Second}
use Rattle.jrn_mirror.specs.declared.turn.Turn2.{Turn2}
use Rattle.jrn_mirror.specs.declared.turn.Turn2.TheVariants.{Line, Wrote, Synced, Lost, Crash}
use Rattle.jrn_mirror.specs.PairOutside.{PairOutside, nothing_on_two, pair_after, are_lost}

-- how far the two disks are opened as one
pub data MirrorStage : Type 0 where
  -- the log is empty
  AtFirst : MirrorStage
  -- no run: an opening has failed, or the power
  Between : MirrorStage
  -- an opening with this setup is under way; it comes first in the log, or not
  Opening : Setup → Bool → MirrorStage
  -- an opening was finished
  Running : MirrorStage

-- a run is under way
abbrev pub is_run_stage : MirrorStage → Bool
is_run_stage AtFirst = false
is_run_stage Between = false
is_run_stage (Opening setup first) = false
is_run_stage Running = true

-- a write
pub record Write : Type 0 where
  pub offset : ℕ
  pub bytes : List ℕ

-- what must be remembered of a log of two disks to know which turns are of one call
pub record Joint : Type 0 where
  pub outside : PairOutside
  pub stage : MirrorStage
  -- each disk was synced in the opening or in the call that is under way
  pub first_synced : Bool
  pub second_synced : Bool
  -- the write that was made on the first disk, and is still to be made on the second
  pub owed : Option Write

-- before the first turn
abbrev pub joint_at_first : Joint
joint_at_first = record { outside = nothing_on_two; stage = AtFirst; first_synced = false; second_synced = false; owed = None }

-- each disk is synced or lost
abbrev pub are_settled : Joint → Bool
are_settled j = (j.first_synced || j.outside.first.lost) && (j.second_synced || j.outside.second.lost)

-- the file of the first disk, or of the second where the first is lost
abbrev pub file_unless : Bool → PairOutside → List ℕ
file_unless true o = o.second.outside.file
file_unless false o = o.first.outside.file

-- the file on the first disk that isn't lost
abbrev pub file_there : PairOutside → List ℕ
file_there o = file_unless o.first.lost o

-- what the log of one disk gains, and what is to be remembered
pub record Gained : Type 0 where
  pub turns : List Turn
  pub joint : Joint

-- nothing is gained
abbrev pub nothing_gained : Joint → Gained
nothing_gained j = record { turns = []; joint = j }

-- from here on the disks are in this stage, between calls
abbrev pub resting : MirrorStage → Joint → Joint
resting stage j = record { outside = j.outside; stage = stage; first_synced = false; second_synced = false; owed = None }

-- the turns of a finished opening: a start, and before it, unless it comes first in the log, a power failure that left the file that is there now
abbrev pub opened_turns : Setup → Bool → PairOutside → List Turn
opened_turns setup true o = Start setup ∷ []
opened_turns setup false o = CrashOne (file_there o) ∷ Start setup ∷ []

-- the opening or the call under way fails for want of disks
abbrev pub failed_at : MirrorStage → Joint → Gained
failed_at AtFirst j = nothing_gained j
failed_at Between j = nothing_gained j
failed_at (Opening setup first) j = record { turns = OpenFailed ∷ []; joint = resting Between j }
failed_at Running j = record { turns = DiskFailed ∷ []; joint = resting Running j }

-- the opening or the sync under way is finished
abbrev pub finished_at : MirrorStage → Joint → Gained
finished_at AtFirst j = nothing_gained j
finished_at Between j = nothing_gained j
finished_at (Opening setup first) j = record { turns = opened_turns setup first j.outside; joint = resting Running j }
finished_at Running j = record { turns = SyncedOne ∷ []; joint = resting Running j }

-- what that gives, by whether both disks are lost, and whether each is synced or lost
abbrev pub settle_by : Bool → Bool → Joint → Gained
settle_by true is_settled j = failed_at j.stage j
settle_by false true j = finished_at j.stage j
settle_by false false j = nothing_gained j

-- after a disk was synced or lost: where both are lost, what is under way fails; else it is finished once each disk is synced or lost
abbrev pub settle : Joint → Gained
settle j = settle_by (are_lost j.outside) (are_settled j) j

-- the stage after an opening has begun
abbrev pub opening_from : MirrorStage → Setup → MirrorStage
opening_from AtFirst setup = Opening setup true
opening_from Between setup = Opening setup false
opening_from (Opening other first) setup = Opening setup false
opening_from Running setup = Opening setup false

-- a turn of the lines: it stays, but for the start, which stands for its opening
abbrev pub lined : Joint → Turn → Gained
lined j (Start setup) = nothing_gained (resting (opening_from j.stage setup) j)
lined j OpenFailed = record { turns = OpenFailed ∷ []; joint = resting Between j }
lined j (Polled now) = record { turns = Polled now ∷ []; joint = j }
lined j (Opened till) = record { turns = Opened till ∷ []; joint = j }
lined j (HeardTill till bytes) = record { turns = HeardTill till bytes ∷ []; joint = j }
lined j (Closed till) = record { turns = Closed till ∷ []; joint = j }
lined j (HeardPt pt bytes) = record { turns = HeardPt pt bytes ∷ []; joint = j }
lined j (LostLine pt) = record { turns = LostLine pt ∷ []; joint = j }
lined j Stopped = record { turns = Stopped ∷ []; joint = j }
lined j (Linked pt) = record { turns = Linked pt ∷ []; joint = j }
lined j (LinkFailed pt) = record { turns = LinkFailed pt ∷ []; joint = j }
lined j (SentTill till bytes ok) = record { turns = SentTill till bytes ok ∷ []; joint = j }
lined j (SentPt pt bytes ok) = record { turns = SentPt pt bytes ok ∷ []; joint = j }
lined j (CutTill till) = record { turns = CutTill till ∷ []; joint = j }
lined j (CutPt pt) = record { turns = CutPt pt ∷ []; joint = j }
lined j (WroteOne offset bytes) = nothing_gained j
lined j SyncedOne = nothing_gained j
lined j DiskFailed = nothing_gained j
lined j (CrashOne file) = nothing_gained j

-- what a disk that is lost, or is there, owes of a write that was made on the other
abbrev pub owed_by : Bool → Write → Option Write
owed_by true write = None
owed_by false write = Some write

-- the write is the call's first one: the second disk owes it where it is there
abbrev pub wrote_first : Joint → Write → Gained
wrote_first j write = record { turns = WroteOne write.offset write.bytes ∷ []; joint = record j { owed = owed_by j.outside.second.lost write } }

-- a write on the second disk: the other half of one that was made on the first, or one of its own
abbrev pub wrote_second : Option Write → Joint → Write → Gained
wrote_second None j write = record { turns = WroteOne write.offset write.bytes ∷ []; joint = j }
wrote_second (Some owed) j write = nothing_gained (record j { owed = None })

-- a write in a run
abbrev pub wrote_half : Half → Joint → Write → Gained
wrote_half First j write = wrote_first j write
wrote_half Second j write = wrote_second j.owed j write

-- a write: in an opening it copies, and is nothing
abbrev pub wrote_at : MirrorStage → Half → Joint → Write → Gained
wrote_at AtFirst disk j write = nothing_gained j
wrote_at Between disk j write = nothing_gained j
wrote_at (Opening setup first) disk j write = nothing_gained j
wrote_at Running disk j write = wrote_half disk j write

-- with this disk synced in what is under way
abbrev pub with_synced : Joint → Half → Joint
with_synced j First = record j { first_synced = true }
with_synced j Second = record j { second_synced = true }

-- what a turn gives, the outside being that after it
abbrev pub gained_by : Joint → Turn2 → Gained
gained_by j (Line turn) = lined j turn
gained_by j (Wrote disk offset bytes) = wrote_at j.stage disk j (record { offset = offset; bytes = bytes })
gained_by j (Synced disk) = settle (with_synced j disk)
gained_by j (Lost disk) = settle j
gained_by j (Crash first second) = nothing_gained (resting Between j)

-- what one more turn gives
abbrev pub gained : Joint → Turn2 → Gained
gained j turn = gained_by (record j { outside = pair_after j.outside turn }) turn

-- the turns of one disk that these stand for, from here on
abbrev pub one_from : Joint → List Turn2 → List Turn
one_from j [] = []
one_from j (turn ∷ turns) = (gained j turn).turns ++ one_from (gained j turn).joint turns

-- what is to be remembered after more turns
abbrev pub joint_from : Joint → List Turn2 → Joint
joint_from j [] = j
joint_from j (turn ∷ turns) = joint_from (gained j turn).joint turns

-- the log of one disk that a log of two stands for
abbrev pub one : List Turn2 → List Turn
one log = one_from joint_at_first log

-- what is to be remembered after a log
abbrev pub joint_of : List Turn2 → Joint
joint_of log = joint_from joint_at_first log
