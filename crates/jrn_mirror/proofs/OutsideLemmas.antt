-- What is remembered of a log of two disks has its outside.
use Rattle.std.proofs.Common.{◌≡◌, List, [], ◌∷◌, ◌++◌, refl, ◌∙◌, ap}
use Rattle.std.specs.Prelude.{Bool, true, false, Option, Some, None}
use Rattle.gw_site.specs.declared.turn.Turn.{Turn}
use Rattle.gw_site.specs.declared.turn.Turn.TheVariants.{Start, OpenFailed, Polled, Opened, HeardTill, Closed, HeardPt, Lost as LostLine, Stopped, Linked, LinkFailed, SentTill, SentPt, CutTill, CutPt, DiskFailed, Wrote as WroteOne, Synced as SyncedOne, Crash as CrashOne}
use Rattle.jrn_mirror.specs.declared.turn.Half.{Half}
use Rattle.jrn_mirror.specs.declared.turn.Half.TheVariants.{First, Second}
use Rattle.jrn_mirror.specs.declared.turn.Turn2.{Turn2}
use Rattle.jrn_mirror.specs.declared.turn.Turn2.TheVariants.{Line, Wrote, Synced, Lost, Crash}
use Rattle.jrn_mirror.specs.PairOutside.{pair_after, pair_from, are_lost}
use Rattle.jrn_mirror.specs.One.{MirrorStage, AtFirst, Between, Opening, Running, Write, Joint, gained, failed_at, finished_at, settle_by, lined, wrote_second, wrote_at, with_synced, are_settled, joint_from, joint_at_first}
use Rattle.jrn_mirror.specs.Laws.{JointHasOutside, CrashStaysMirrored}
use Rattle.jrn_mirror.specs.Mirrored.{MayCome, MayAllCome}
use Rattle.jrn_mirror.proofs.GrowLemmas.{joint_from-append}

failed : (stage : MirrorStage) (j : Joint) → (failed_at stage j).joint.outside ≡ j.outside
failed AtFirst j = refl
failed Between j = refl
failed (Opening setup first) j = refl
failed Running j = refl

finished : (stage : MirrorStage) (j : Joint) → (finished_at stage j).joint.outside ≡ j.outside
finished AtFirst j = refl
finished Between j = refl
finished (Opening setup first) j = refl
finished Running j = refl

by : (lost done : Bool) (j : Joint) → (settle_by lost done j).joint.outside ≡ j.outside
by true done j = failed j.stage j
by false true j = finished j.stage j
by false false j = refl

lines : (j : Joint) (turn : Turn) → (lined j turn).joint.outside ≡ j.outside
lines j (Start setup) = refl
lines j OpenFailed = refl
lines j (Polled now) = refl
lines j (Opened till) = refl
lines j (HeardTill till bytes) = refl
lines j (Closed till) = refl
lines j (HeardPt pt bytes) = refl
lines j (LostLine pt) = refl
lines j Stopped = refl
lines j (Linked pt) = refl
lines j (LinkFailed pt) = refl
lines j (SentTill till bytes ok) = refl
lines j (SentPt pt bytes ok) = refl
lines j (CutTill till) = refl
lines j (CutPt pt) = refl
lines j (WroteOne offset bytes) = refl
lines j SyncedOne = refl
lines j DiskFailed = refl
lines j (CrashOne file) = refl

second : (owed : Option Write) (j : Joint) (write : Write) → (wrote_second owed j write).joint.outside ≡ j.outside
second None j write = refl
second (Some other) j write = refl

wrote_in : (stage : MirrorStage) (disk : Half) (j : Joint) (write : Write) → (wrote_at stage disk j write).joint.outside ≡ j.outside
wrote_in AtFirst disk j write = refl
wrote_in Between disk j write = refl
wrote_in (Opening setup first) disk j write = refl
wrote_in Running First j write = refl
wrote_in Running Second j write = second j.owed j write

synced_keeps : (disk : Half) (j : Joint) → (with_synced j disk).outside ≡ j.outside
synced_keeps First j = refl
synced_keeps Second j = refl

outside_gained : (j : Joint) (turn : Turn2) → (gained j turn).joint.outside ≡ pair_after j.outside turn
outside_gained j (Line turn) = lines (record j { outside = pair_after j.outside (Line turn) }) turn
outside_gained j (Wrote disk offset bytes) = wrote_in j.stage disk (record j { outside = pair_after j.outside (Wrote disk offset bytes) }) (record { offset = offset; bytes = bytes })
outside_gained j (Synced disk) =
    let k = with_synced (record j { outside = pair_after j.outside (Synced disk) }) disk in
    by (are_lost k.outside) (are_settled k) k ∙ synced_keeps disk (record j { outside = pair_after j.outside (Synced disk) })
outside_gained j (Lost disk) = let k = record j { outside = pair_after j.outside (Lost disk) } in by (are_lost k.outside) (are_settled k) k
outside_gained j (Crash first second) = refl

outside_along : (j : Joint) (log : List Turn2) → (joint_from j log).outside ≡ pair_from j.outside log
outside_along j [] = refl
outside_along j (turn ∷ log) = outside_along (gained j turn).joint log ∙ ap (λ o. pair_from o log) (outside_gained j turn)

pub joint_has_outside : JointHasOutside
joint_has_outside log = outside_along joint_at_first log

crash_comes : (j : Joint) (log : List Turn2) (turn : Turn2) → MayAllCome j log → MayCome (joint_from j log) turn → MayAllCome j (log ++ turn ∷ [])
crash_comes j [] turn may come = (come, tt)
crash_comes j (first ∷ log) turn may come = (may.0, crash_comes (gained j first).joint log turn may.1 come)

pub crash_stays : CrashStaysMirrored
crash_stays log first second mirrored f s =
    let e = joint_has_outside log in
    (crash_comes joint_at_first log (Crash first second) mirrored (rw e (f, s)), rw (joint_from-append joint_at_first log (Crash first second ∷ [])) tt)
