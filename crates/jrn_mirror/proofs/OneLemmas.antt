-- What holds of each log of two disks that were used as one.
use Rattle.std.proofs.Common.{◌≡◌, List, [], ◌∷◌, ◌++◌, refl, sym, arith}
use Rattle.std.specs.Prelude.{true, false, Option, Some, None}
use Rattle.gw_site.specs.Outside.{Outside, outside_after, outside_from, outside_of, nothing_yet}
use Rattle.gw_site.specs.declared.turn.Turn.{Turn}
use Rattle.gw_site.proofs.OutsideLemmas.{outside_from-append}
use Rattle.jrn_mirror.specs.declared.turn.Half.{Half}
use Rattle.jrn_mirror.specs.declared.turn.Half.TheVariants.{First, Second}
use Rattle.jrn_mirror.specs.declared.turn.Turn2.{Turn2}
use Rattle.jrn_mirror.specs.PairOutside.{Disk, disk_of}
use Rattle.jrn_mirror.specs.One.{MirrorStage, AtFirst, Between, Opening, Running, is_run_stage, Write, Joint, gained, one, one_from, joint_at_first, joint_from, joint_of}
use Rattle.jrn_mirror.specs.Mirrored.{IsInRun, MayAllCome, IsMirrored, AreImages}
use Rattle.gw_site.specs.Turns.{IsPromised}
use Rattle.gw_site.specs.declared.site.What.{What}
use Rattle.gw_site.specs.declared.site.What.TheVariants.{TillOpened, TillBytes, TillClosed, PtBytes, PtClosed, Nothing, Stopped}
use Rattle.jrn_mirror.specs.Laws.{OneHasImages, DisksHoldOne, LinesAreOne}
use Rattle.jrn_mirror.proofs.HoldsLemmas.{FromLog, DiskHolds, RunHolds, StageHolds, Follows, SameLines, Holds, no_some, no_true}
use Rattle.jrn_mirror.proofs.StepLemmas.{goes_turn}

images-append : (o : Outside) (xs ys : List Turn) → AreImages o xs → AreImages (outside_from o xs) ys → AreImages o (xs ++ ys)
images-append o [] ys a b = b
images-append o (x ∷ xs) ys a b = (a.0, images-append (outside_after o x) xs ys a.1 b)

all_images : (o : Outside) (j : Joint) (log : List Turn2) → Holds o j → MayAllCome j log → AreImages o (one_from j log)
all_images o j [] h may = tt
all_images o j (turn ∷ log) h may =
    let g = goes_turn o j turn h may.0 in
    images-append o (gained j turn).turns (one_from (gained j turn).joint log) g.images (all_images (outside_from o (gained j turn).turns) (gained j turn).joint log g.holds may.1)

pub all_hold : (o : Outside) (j : Joint) (log : List Turn2) → Holds o j → MayAllCome j log → Holds (outside_from o (one_from j log)) (joint_from j log)
all_hold o j [] h may = h
all_hold o j (turn ∷ log) h may =
    let g = goes_turn o j turn h may.0 in
    let r = all_hold (outside_from o (gained j turn).turns) (gained j turn).joint log g.holds may.1 in
    rw (outside_from-append o (gained j turn).turns (one_from (gained j turn).joint log)) r

nothing_from_log : FromLog nothing_yet
nothing_from_log = record { log = []; is = refl }

at_first_within : (disk : Disk) → disk.outside ≡ nothing_yet → DiskHolds nothing_yet disk
at_first_within disk e = record {
  from_log = record { log = []; is = e };
  within = λ l. rw e (record { no_shorter = omega arith; no_longer = omega arith; clean = λ index lt un. un; same = λ index lt un. refl });
  bytes = rw e tt;
}

pub holds_at_first : Holds nothing_yet joint_at_first
holds_at_first = record {
  from_log = nothing_from_log;
  first = at_first_within joint_at_first.outside.first refl;
  second = at_first_within joint_at_first.outside.second refl;
  stage = refl;
}

pub one_has_images : OneHasImages
one_has_images log mirrored = all_images nothing_yet joint_at_first log holds_at_first mirrored

pub holds_of : (log : List Turn2) → IsMirrored log → Holds (outside_of (one log)) (joint_of log)
holds_of log mirrored = all_hold nothing_yet joint_at_first log holds_at_first mirrored

-- in a run between the calls
pub running : (o : Outside) (j : Joint) (stage : MirrorStage) → is_run_stage stage ≡ true → StageHolds stage o j → RunHolds o j
running o j AtFirst e s = no_true e
running o j Between e s = no_true e
running o j (Opening setup first) e s = no_true e
running o j Running e s = s

whole : (o d : Outside) (owed : Option Write) → owed ≡ None → Follows o d owed → d.file ≡ o.file
whole o d None e f = f
whole o d (Some write) e f = no_some write (sym e)

disks_of : (o : Outside) (j : Joint) (disk : Half) → Holds o j → IsInRun j → (disk_of j.outside disk).lost ≡ false → (disk_of j.outside disk).outside.file ≡ o.file
disks_of o j First h r l = (running o j j.stage r.stage h.stage).first_file l
disks_of o j Second h r l = whole o j.outside.second.outside j.owed r.resting.whole ((running o j j.stage r.stage h.stage).second_file l)

pub disks_hold_one : DisksHoldOne
disks_hold_one log mirrored r disk l = disks_of (outside_of (one log)) (joint_of log) disk (holds_of log mirrored) r l

promised : (o lines : Outside) (what : What) → SameLines o lines → IsPromised lines what → IsPromised o what
promised o lines (TillOpened till) s p = rw s.next_till p
promised o lines (TillBytes till count) s p = rw s.tills p
promised o lines (TillClosed till) s p = rw s.tills p
promised o lines (PtBytes pt count) s p = rw s.links p
promised o lines (PtClosed pt) s p = rw s.links p
promised o lines Nothing s p = tt
promised o lines Stopped s p = tt

pub lines_are_one : LinesAreOne
lines_are_one log mirrored r what p = promised (outside_of (one log)) (joint_of log).outside.lines what (running (outside_of (one log)) (joint_of log) (joint_of log).stage r.stage (holds_of log mirrored).stage).lines p
