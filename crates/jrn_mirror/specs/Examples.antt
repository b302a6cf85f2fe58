-- Example logs of two disks, and the logs of one disk that they stand for.
use Rattle.std.specs.Prelude.{◌≡◌, pos, List, [], ◌∷◌, ◌++◌, Some, None, codes}
use Rattle.gw_base.specs.declared.setup.Setup.{Setup}
use Rattle.gw_site.specs.Image.{Image}
use Rattle.gw_site.specs.Outside.{outside_of}
use Rattle.gw_site.specs.declared.turn.Turn.{Turn}
use Rattle.gw_site.specs.declared.turn.Turn.TheVariants.{Start, OpenFailed, Polled, Wrote as WroteOne, Synced as SyncedOne, DiskFailed, Crash as CrashOne}
use Rattle.jrn_mirror.specs.declared.turn.Half.TheVariants.{First, Second}
use Rattle.jrn_mirror.specs.declared.turn.Turn2.{Turn2}
use Rattle.jrn_mirror.specs.declared.turn.Turn2.TheVariants.{Line, Wrote, Synced, Lost, Crash}
use Rattle.jrn_mirror.specs.PairOutside.{pair_outside_of}
use Rattle.jrn_mirror.specs.One.{one}
use Rattle.jrn_mirror.specs.Mirrored.{IsMirrored}

-- ---- the parts of the examples

-- a gateway without terminals
abbrev pub a_setup : Setup
a_setup = record { name = codes "GATEWAY"; listen = []; journal = []; line = 0; wait = 60; slots = 1000000; terminals = [] }

-- an opening begins
abbrev pub opening_begins : Turn2
opening_begins = Line (Start a_setup)

-- both disks are synced
abbrev pub both_synced : List Turn2
both_synced = Synced First ∷ Synced Second ∷ []

-- the first opening, of two empty files
abbrev pub both_opened : List Turn2
both_opened = opening_begins ∷ both_synced

-- 5 is written at 0 of both disks
abbrev pub both_wrote : List Turn2
both_wrote = Wrote First 0 (5 ∷ []) ∷ Wrote Second 0 (5 ∷ []) ∷ []

-- the log of two stands for this one
abbrev pub GivesOne : List Turn2 → List Turn → Type 0
GivesOne two turns = one two ≡ turns

-- a start, a write of 5 at 0, and these turns
abbrev pub five_then : List Turn → List Turn
five_then turns = Start a_setup ∷ WroteOne 0 (5 ∷ []) ∷ turns

-- a start, a write of 5 at 0 that is synced, and these turns
abbrev pub five_kept_then : List Turn → List Turn
five_kept_then turns = five_then (SyncedOne ∷ turns)

-- ---- openings that come first

-- it becomes a start alone
abbrev pub FirstOpening : Type 0
FirstOpening = GivesOne both_opened (Start a_setup ∷ [])

-- a first opening in which the power fails becomes nothing; the next one is not first
abbrev pub FirstOpeningBroken : Type 0
FirstOpeningBroken = GivesOne (opening_begins ∷ Synced First ∷ Crash (Some []) (Some []) ∷ both_opened) (CrashOne [] ∷ Start a_setup ∷ [])

-- a failed opening of the pair stays
abbrev pub PairOpenFailed : Type 0
PairOpenFailed = GivesOne (Line OpenFailed ∷ both_opened) (OpenFailed ∷ CrashOne [] ∷ Start a_setup ∷ [])

-- ---- calls on both disks

-- the two turns of one write become one, also where the next write is the same; other lines stay
abbrev pub BothWrite : Type 0
BothWrite = GivesOne (both_opened ++ both_wrote ++ both_wrote ++ Line (Polled (pos 7)) ∷ []) (five_then (WroteOne 0 (5 ∷ []) ∷ Polled (pos 7) ∷ []))

-- a sync is there once both disks were synced
abbrev pub BothSync : Type 0
BothSync = GivesOne (both_opened ++ both_wrote ++ both_synced ++ both_synced) (five_kept_then (SyncedOne ∷ []))

-- and not before
abbrev pub OneSyncs : Type 0
OneSyncs = GivesOne (both_opened ++ both_wrote ++ Synced First ∷ []) (five_then [])

-- ---- a disk is lost

-- the first one at a write; then the second is used alone
abbrev pub FirstLostAtWrite : Type 0
FirstLostAtWrite = GivesOne (both_opened ++ Wrote First 0 (5 ∷ []) ∷ Lost First ∷ Wrote Second 0 (5 ∷ []) ∷ Synced Second ∷ Wrote Second 1 (6 ∷ []) ∷ Wrote Second 1 (6 ∷ []) ∷ []) (five_kept_then (WroteOne 1 (6 ∷ []) ∷ WroteOne 1 (6 ∷ []) ∷ []))

-- the second one at a write; then the first is used alone
abbrev pub SecondLostAtWrite : Type 0
SecondLostAtWrite = GivesOne (both_opened ++ both_wrote ++ Lost Second ∷ Synced First ∷ Wrote First 1 (6 ∷ []) ∷ Wrote First 1 (6 ∷ []) ∷ []) (five_kept_then (WroteOne 1 (6 ∷ []) ∷ WroteOne 1 (6 ∷ []) ∷ []))

-- the first one at a sync
abbrev pub FirstLostAtSync : Type 0
FirstLostAtSync = GivesOne (both_opened ++ both_wrote ++ Lost First ∷ Synced Second ∷ []) (five_kept_then [])

-- the second one at a sync: this completes it
abbrev pub SecondLostAtSync : Type 0
SecondLostAtSync = GivesOne (both_opened ++ both_wrote ++ Synced First ∷ Lost Second ∷ []) (five_kept_then [])

-- one at a look at the file: nothing
abbrev pub FirstLostAtLook : Type 0
FirstLostAtLook = GivesOne (both_opened ++ both_wrote ++ Lost First ∷ []) (five_then [])

-- both in one write
abbrev pub BothLostAtWrite : Type 0
BothLostAtWrite = GivesOne (both_opened ++ Wrote First 0 (5 ∷ []) ∷ Lost First ∷ Wrote Second 0 (5 ∷ []) ∷ Lost Second ∷ []) (five_then (DiskFailed ∷ []))

-- both in one sync, or in one look; and each later call fails on the first disk once more
abbrev pub BothLostAtSync : Type 0
BothLostAtSync = GivesOne (both_opened ++ both_wrote ++ Lost First ∷ Lost Second ∷ Lost First ∷ Wrote First 1 (6 ∷ []) ∷ Lost First ∷ []) (five_then (DiskFailed ∷ DiskFailed ∷ WroteOne 1 (6 ∷ []) ∷ DiskFailed ∷ []))

-- an opening in which both are lost
abbrev pub BothLostAtOpening : Type 0
BothLostAtOpening = GivesOne (opening_begins ∷ Lost First ∷ Lost Second ∷ opening_begins ∷ Lost First ∷ []) (OpenFailed ∷ OpenFailed ∷ [])

-- and where both were lost before: a mirror that is new asks both
abbrev pub BothLostBefore : Type 0
BothLostBefore = GivesOne (both_opened ++ both_wrote ++ Lost First ∷ Lost Second ∷ opening_begins ∷ Lost First ∷ Lost Second ∷ []) (five_then (DiskFailed ∷ OpenFailed ∷ []))

-- ---- a power failure

-- between the halves of a write: what the first disk has is copied
abbrev pub CrashInWrite : Type 0
CrashInWrite = GivesOne (both_opened ++ Wrote First 0 (5 ∷ []) ∷ Crash (Some (5 ∷ [])) (Some []) ∷ opening_begins ∷ Wrote Second 0 (5 ∷ []) ∷ both_synced) (five_then (CrashOne (5 ∷ []) ∷ Start a_setup ∷ []))

-- or it has nothing of it
abbrev pub CrashLosesWrite : Type 0
CrashLosesWrite = GivesOne (both_opened ++ Wrote First 0 (5 ∷ []) ∷ Crash (Some []) (Some []) ∷ both_opened) (five_then (CrashOne [] ∷ Start a_setup ∷ []))

-- between the halves of a sync
abbrev pub CrashInSync : Type 0
CrashInSync = GivesOne (both_opened ++ both_wrote ++ Synced First ∷ Crash (Some (5 ∷ [])) (Some (9 ∷ [])) ∷ opening_begins ∷ Wrote Second 0 (5 ∷ []) ∷ both_synced) (five_then (CrashOne (5 ∷ []) ∷ Start a_setup ∷ []))

-- in the copying, which leaves junk of a byte that was not synced; the next opening takes the first of two equally long files, which is the junk
abbrev pub CrashInCopying : Type 0
CrashInCopying = GivesOne
    (both_opened ++ both_wrote ++ Crash (Some []) (Some (5 ∷ [])) ∷ opening_begins ∷ Wrote First 0 (5 ∷ []) ∷ Crash (Some (9 ∷ [])) (Some (5 ∷ [])) ∷ opening_begins ∷ Wrote Second 0 (9 ∷ []) ∷ both_synced)
    (five_then (CrashOne (9 ∷ []) ∷ Start a_setup ∷ []))

-- twice without an opening between
abbrev pub CrashTwice : Type 0
CrashTwice = GivesOne (both_opened ++ Crash (Some []) (Some []) ∷ Crash (Some []) (Some []) ∷ both_opened) (Start a_setup ∷ CrashOne [] ∷ Start a_setup ∷ [])

-- none, but a plain stop
abbrev pub PlainStop : Type 0
PlainStop = GivesOne (both_opened ++ both_wrote ++ both_opened) (five_then (CrashOne (5 ∷ []) ∷ Start a_setup ∷ []))

-- with one disk lost before: it is found lost again, and the other is synced alone
abbrev pub OpeningOfOne : Type 0
OpeningOfOne = GivesOne (both_opened ++ both_wrote ++ Lost First ∷ Crash None (Some (5 ∷ [])) ∷ opening_begins ∷ Lost First ∷ Synced Second ∷ []) (five_then (CrashOne (5 ∷ []) ∷ Start a_setup ∷ []))

-- the source is lost in the copying: the file that is half copied stays
abbrev pub SourceLostInCopying : Type 0
SourceLostInCopying = GivesOne
    (both_opened ++ Wrote First 0 (5 ∷ 6 ∷ []) ∷ Crash (Some (5 ∷ 6 ∷ [])) (Some []) ∷ opening_begins ∷ Wrote Second 0 (5 ∷ []) ∷ Lost First ∷ Synced Second ∷ [])
    (Start a_setup ∷ WroteOne 0 (5 ∷ 6 ∷ []) ∷ CrashOne (5 ∷ []) ∷ Start a_setup ∷ [])

-- the target is lost in the copying
abbrev pub TargetLostInCopying : Type 0
TargetLostInCopying = GivesOne
    (both_opened ++ Wrote First 0 (5 ∷ 6 ∷ []) ∷ Crash (Some (5 ∷ 6 ∷ [])) (Some []) ∷ opening_begins ∷ Wrote Second 0 (5 ∷ []) ∷ Lost Second ∷ Synced First ∷ [])
    (Start a_setup ∷ WroteOne 0 (5 ∷ 6 ∷ []) ∷ CrashOne (5 ∷ 6 ∷ []) ∷ Start a_setup ∷ [])

-- the last disk is lost between the syncs of an opening
abbrev pub LostBetweenSyncs : Type 0
LostBetweenSyncs = GivesOne (opening_begins ∷ Synced First ∷ Lost Second ∷ Wrote First 0 (5 ∷ []) ∷ []) (five_then [])

-- ---- where the rule needs its premises

-- after a power failure and before an opening the disks do not hold the file of the one log: no look at it may succeed
abbrev pub mirror_crashed : List Turn2
mirror_crashed = both_opened ++ both_wrote ++ Crash (Some []) (Some []) ∷ []

abbrev pub UnopenedFile : Type 0
UnopenedFile = (outside_of (one mirror_crashed)).file ≡ 5 ∷ []

abbrev pub UnopenedDisks : Type 0
UnopenedDisks = ((pair_outside_of mirror_crashed).first.outside.file ≡ []) × ((pair_outside_of mirror_crashed).second.outside.file ≡ [])

-- a pair whose disks were written apart: what the second has is no image
abbrev pub apart_log : List Turn2
apart_log = both_opened ++ Wrote First 0 (5 ∷ []) ∷ Synced First ∷ Wrote Second 0 (6 ∷ []) ∷ Synced Second ∷ []

abbrev pub ApartStandsFor : Type 0
ApartStandsFor = GivesOne (apart_log ++ opening_begins ∷ Lost First ∷ Synced Second ∷ []) (five_kept_then (CrashOne (6 ∷ []) ∷ Start a_setup ∷ []))

abbrev pub ApartIsNoImage : Type 0
ApartIsNoImage = Image (outside_of (five_kept_then [])) (6 ∷ []) → ⊥

-- an opening that copies bytes that are equal: a power failure in it leaves junk of a synced byte on the one disk, and then the other is lost
abbrev pub copies_all_log : List Turn2
copies_all_log = both_opened ++ both_wrote ++ both_synced ++ Wrote First 1 (7 ∷ []) ∷ Crash (Some (5 ∷ 7 ∷ [])) (Some (5 ∷ [])) ∷ opening_begins ∷ Wrote Second 0 (5 ∷ 7 ∷ []) ∷ Crash (Some (5 ∷ 7 ∷ [])) (Some (9 ∷ 7 ∷ [])) ∷ opening_begins ∷ Lost First ∷ Synced Second ∷ []

abbrev pub CopiesAllStandsFor : Type 0
CopiesAllStandsFor = GivesOne copies_all_log (five_kept_then (WroteOne 1 (7 ∷ []) ∷ CrashOne (9 ∷ 7 ∷ []) ∷ Start a_setup ∷ []))

abbrev pub CopiesAllIsNoImage : Type 0
CopiesAllIsNoImage = Image (outside_of (five_kept_then (WroteOne 1 (7 ∷ []) ∷ []))) (9 ∷ 7 ∷ []) → ⊥

-- a first disk that was replaced by an empty one: the power fails while it is copied to, and leaves junk as long as the source; the first of two equally long files is then the source
abbrev pub ReplacedFirst : Type 0
ReplacedFirst = GivesOne
    (both_opened ++ both_wrote ++ both_synced ++ Crash (Some []) (Some (5 ∷ [])) ∷ opening_begins ∷ Wrote First 0 (5 ∷ []) ∷ Crash (Some (9 ∷ [])) (Some (5 ∷ [])) ∷ opening_begins ∷ Wrote Second 0 (9 ∷ []) ∷ both_synced)
    (five_kept_then (CrashOne (9 ∷ []) ∷ Start a_setup ∷ []))

abbrev pub ReplacedIsNoImage : Type 0
ReplacedIsNoImage = Image (outside_of (five_kept_then [])) (9 ∷ []) → ⊥

-- a second one that was: the junk is copied over
abbrev pub ReplacedSecond : Type 0
ReplacedSecond = GivesOne
    (both_opened ++ both_wrote ++ both_synced ++ Crash (Some (5 ∷ [])) (Some []) ∷ opening_begins ∷ Wrote Second 0 (5 ∷ []) ∷ Crash (Some (5 ∷ [])) (Some (9 ∷ [])) ∷ opening_begins ∷ Wrote Second 0 (5 ∷ []) ∷ both_synced)
    (five_kept_then (CrashOne (5 ∷ []) ∷ Start a_setup ∷ []))

-- ---- a log that mirrors make

-- a write whose second half the power cut off, and the opening that copies it
abbrev pub copied_log : List Turn2
copied_log = both_opened ++ Wrote First 0 (5 ∷ []) ∷ Crash (Some (5 ∷ [])) (Some []) ∷ opening_begins ∷ Wrote Second 0 (5 ∷ []) ∷ both_synced

abbrev pub CopiedIsMirrored : Type 0
CopiedIsMirrored = IsMirrored copied_log
