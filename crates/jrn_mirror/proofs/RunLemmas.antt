-- The calls of a run on the disks that are there: what they are for the one disk.
use Rattle.std.proofs.Common.{◌≡◌, ℕ, List, [], ◌∷◌, refl, sym, subst}
use Rattle.std.specs.Prelude.{Bool, true, false, not, ◌||◌, Option, None}
use Rattle.gw_bytes.specs.Bytes.{AreBytes}
use Rattle.gw_site.specs.Outside.{Outside}
use Rattle.gw_site.specs.declared.turn.Turn.{Turn}
use Rattle.gw_site.specs.declared.turn.Turn.TheVariants.{Wrote as WroteOne, Synced as SyncedOne, DiskFailed}
use Rattle.jrn_mirror.specs.declared.turn.Turn2.{Turn2}
use Rattle.jrn_mirror.specs.PairOutside.{PairOutside}
use Rattle.jrn_mirror.specs.One.{MirrorStage, AtFirst, Between, Opening, Running, is_run_stage, Write, Joint, one_from, joint_from}
use Rattle.jrn_mirror.specs.Mirrored.{IsUnsynced, IsResting, MayAllCome}
use Rattle.jrn_mirror.specs.MirrorObserved.{IsRunOf}
use Rattle.jrn_mirror.specs.inner.Halves.{there_write, there_sync, there_look}
use Rattle.jrn_mirror.proofs.HoldsLemmas.{no_true}

-- a run between its calls
abbrev pub run_joint : Outside → Outside → Bool → Outside → Bool → Joint
run_joint lines a a_lost b b_lost = record { outside = record { lines = lines; first = record { outside = a; lost = a_lost }; second = record { outside = b; lost = b_lost } }; stage = Running; first_synced = false; second_synced = false; owed = None }

-- these turns may come, and are these turns of the one disk; a run between its calls is left
pub record Makes (j : Joint) (turns : List Turn2) (ones : List Turn) (first second : Bool) : Type 0 where
  pub may : MayAllCome j turns
  pub ones_are : one_from j turns ≡ ones
  pub left : IsRunOf first second (joint_from j turns)

running_is : (stage : MirrorStage) → is_run_stage stage ≡ true → stage ≡ Running
running_is AtFirst e = no_true e
running_is Between e = no_true e
running_is (Opening setup first) e = no_true e
running_is Running e = refl

same_joint : (o : PairOutside) (stage : MirrorStage) (a b : Bool) (owed : Option Write) (x y : Bool) → stage ≡ Running → a ≡ false → b ≡ false → owed ≡ None → o.first.lost ≡ x → o.second.lost ≡ y →
    record { outside = o; stage = stage; first_synced = a; second_synced = b; owed = owed } ≡ run_joint o.lines o.first.outside x o.second.outside y
same_joint o stage a b owed x y e f g h l m = rw (e, f, g, h, sym l, sym m) refl

pub run_is : (first second : Bool) (j : Joint) → IsRunOf first second j → j ≡ run_joint j.outside.lines j.outside.first.outside (not first) j.outside.second.outside (not second)
run_is first second j r = same_joint j.outside j.stage j.first_synced j.second_synced j.owed (not first) (not second) (running_is j.stage r.run.stage) r.run.resting.unsynced.first r.run.resting.unsynced.second r.run.resting.whole r.first_is r.second_is

calm : (j : Joint) → j.first_synced ≡ false → j.second_synced ≡ false → IsUnsynced j
calm j a b = record { first = a; second = b }

rests : (j : Joint) → j.first_synced ≡ false → j.second_synced ≡ false → j.owed ≡ None → IsResting j
rests j a b w = record { unsynced = record { first = a; second = b }; whole = w }

left_run : (lines a b : Outside) (first second : Bool) → IsRunOf first second (run_joint lines a (not first) b (not second))
left_run lines a b first second = record { run = record { stage = refl; resting = record { unsynced = record { first = refl; second = refl }; whole = refl } }; first_is = refl; second_is = refl }

-- a failure of the disk where neither is there
abbrev pub failed_unless : Bool → List Turn
failed_unless true = []
failed_unless false = DiskFailed ∷ []

-- the one write
abbrev pub one_write : ℕ → List ℕ → Bool → List Turn
one_write offset bytes there = WroteOne offset bytes ∷ failed_unless there

-- the one sync
abbrev pub one_sync : Bool → List Turn
one_sync true = SyncedOne ∷ []
one_sync false = DiskFailed ∷ []

resting : (o : PairOutside) → IsResting (record { outside = o; stage = Running; first_synced = false; second_synced = false; owed = None })
resting o = record { unsynced = record { first = refl; second = refl }; whole = refl }

unsynced : (o : PairOutside) (owed : Option Write) → IsUnsynced (record { outside = o; stage = Running; first_synced = false; second_synced = false; owed = owed })
unsynced o owed = record { first = refl; second = refl }

write_makes : (lines a b : Outside) (offset : ℕ) (bytes : List ℕ) → AreBytes bytes → (first second first_now second_now : Bool) → (first ≡ false → first_now ≡ false) → (second ≡ false → second_now ≡ false) →
    Makes (run_joint lines a (not first) b (not second)) (there_write first second offset bytes first_now second_now) (one_write offset bytes (first_now || second_now)) first_now second_now
write_makes lines a b offset bytes k true true true true f s = record { may = ((k, resting _), ((k, (unsynced _ _, (refl, refl))), tt)); ones_are = refl; left = left_run _ _ _ true true }
write_makes lines a b offset bytes k true true true false f s = record { may = ((k, resting _), ((k, (unsynced _ _, (refl, refl))), (refl, tt))); ones_are = refl; left = left_run _ _ _ true false }
write_makes lines a b offset bytes k true true false true f s = record { may = ((k, resting _), (tt, ((k, (unsynced _ _, (refl, refl))), tt))); ones_are = refl; left = left_run _ _ _ false true }
write_makes lines a b offset bytes k true true false false f s = record { may = ((k, resting _), (tt, ((k, (unsynced _ _, (refl, refl))), (refl, tt)))); ones_are = refl; left = left_run _ _ _ false false }
write_makes lines a b offset bytes k true false true true f s = no_true (sym (s refl))
write_makes lines a b offset bytes k true false true false f s = record { may = ((k, resting _), tt); ones_are = refl; left = left_run _ _ _ true false }
write_makes lines a b offset bytes k true false false true f s = no_true (sym (s refl))
write_makes lines a b offset bytes k true false false false f s = record { may = ((k, resting _), (tt, tt)); ones_are = refl; left = left_run _ _ _ false false }
write_makes lines a b offset bytes k false true true n f s = no_true (sym (f refl))
write_makes lines a b offset bytes k false true false true f s = record { may = ((k, (unsynced _ _, refl)), tt); ones_are = refl; left = left_run _ _ _ false true }
write_makes lines a b offset bytes k false true false false f s = record { may = ((k, (unsynced _ _, refl)), (refl, tt)); ones_are = refl; left = left_run _ _ _ false false }
write_makes lines a b offset bytes k false false true n f s = no_true (sym (f refl))
write_makes lines a b offset bytes k false false false true f s = no_true (sym (s refl))
write_makes lines a b offset bytes k false false false false f s = record { may = ((k, resting _), (tt, tt)); ones_are = refl; left = left_run _ _ _ false false }

sync_makes : (lines a b : Outside) (first second first_now second_now : Bool) → (first ≡ false → first_now ≡ false) → (second ≡ false → second_now ≡ false) →
    Makes (run_joint lines a (not first) b (not second)) (there_sync first second first_now second_now) (one_sync (first_now || second_now)) first_now second_now
sync_makes lines a b true true true true f s = record { may = ((refl, refl), ((refl, refl), tt)); ones_are = refl; left = left_run _ _ _ true true }
sync_makes lines a b true true true false f s = record { may = ((refl, refl), (refl, tt)); ones_are = refl; left = left_run _ _ _ true false }
sync_makes lines a b true true false true f s = record { may = (tt, ((refl, refl), tt)); ones_are = refl; left = left_run _ _ _ false true }
sync_makes lines a b true true false false f s = record { may = (tt, (refl, tt)); ones_are = refl; left = left_run _ _ _ false false }
sync_makes lines a b true false true true f s = no_true (sym (s refl))
sync_makes lines a b true false true false f s = record { may = ((refl, refl), tt); ones_are = refl; left = left_run _ _ _ true false }
sync_makes lines a b true false false true f s = no_true (sym (s refl))
sync_makes lines a b true false false false f s = record { may = (tt, tt); ones_are = refl; left = left_run _ _ _ false false }
sync_makes lines a b false true true n f s = no_true (sym (f refl))
sync_makes lines a b false true false true f s = record { may = ((refl, refl), tt); ones_are = refl; left = left_run _ _ _ false true }
sync_makes lines a b false true false false f s = record { may = (refl, tt); ones_are = refl; left = left_run _ _ _ false false }
sync_makes lines a b false false true n f s = no_true (sym (f refl))
sync_makes lines a b false false false true f s = no_true (sym (s refl))
sync_makes lines a b false false false false f s = record { may = (tt, tt); ones_are = refl; left = left_run _ _ _ false false }

pub run_writes : (j : Joint) (offset : ℕ) (bytes : List ℕ) → AreBytes bytes → (first second first_now second_now : Bool) → IsRunOf first second j → (first ≡ false → first_now ≡ false) → (second ≡ false → second_now ≡ false) →
    Makes j (there_write first second offset bytes first_now second_now) (one_write offset bytes (first_now || second_now)) first_now second_now
run_writes j offset bytes k first second first_now second_now r f s =
    subst (λ x. Makes x (there_write first second offset bytes first_now second_now) (one_write offset bytes (first_now || second_now)) first_now second_now) (sym (run_is first second j r))
    (write_makes j.outside.lines j.outside.first.outside j.outside.second.outside offset bytes k first second first_now second_now f s)

pub run_syncs : (j : Joint) (first second first_now second_now : Bool) → IsRunOf first second j → (first ≡ false → first_now ≡ false) → (second ≡ false → second_now ≡ false) →
    Makes j (there_sync first second first_now second_now) (one_sync (first_now || second_now)) first_now second_now
run_syncs j first second first_now second_now r f s =
    subst (λ x. Makes x (there_sync first second first_now second_now) (one_sync (first_now || second_now)) first_now second_now) (sym (run_is first second j r))
    (sync_makes j.outside.lines j.outside.first.outside j.outside.second.outside first second first_now second_now f s)

look_makes : (lines a b : Outside) (first second first_now second_now : Bool) → (first ≡ false → first_now ≡ false) → (second ≡ false → second_now ≡ false) →
    Makes (run_joint lines a (not first) b (not second)) (there_look first second first_now second_now) (failed_unless (first_now || second_now)) first_now second_now
look_makes lines a b true true true true f s = record { may = tt; ones_are = refl; left = left_run _ _ _ true true }
look_makes lines a b true true true false f s = record { may = (refl, tt); ones_are = refl; left = left_run _ _ _ true false }
look_makes lines a b true true false true f s = record { may = (tt, tt); ones_are = refl; left = left_run _ _ _ false true }
look_makes lines a b true true false false f s = record { may = (tt, (refl, tt)); ones_are = refl; left = left_run _ _ _ false false }
look_makes lines a b true false true true f s = no_true (sym (s refl))
look_makes lines a b true false true false f s = record { may = tt; ones_are = refl; left = left_run _ _ _ true false }
look_makes lines a b true false false true f s = no_true (sym (s refl))
look_makes lines a b true false false false f s = record { may = (tt, tt); ones_are = refl; left = left_run _ _ _ false false }
look_makes lines a b false true true n f s = no_true (sym (f refl))
look_makes lines a b false true false true f s = record { may = tt; ones_are = refl; left = left_run _ _ _ false true }
look_makes lines a b false true false false f s = record { may = (refl, tt); ones_are = refl; left = left_run _ _ _ false false }
look_makes lines a b false false true n f s = no_true (sym (f refl))
look_makes lines a b false false false true f s = no_true (sym (s refl))
look_makes lines a b false false false false f s = record { may = (tt, tt); ones_are = refl; left = left_run _ _ _ false false }

pub run_looks : (j : Joint) (first second first_now second_now : Bool) → IsRunOf first second j → (first ≡ false → first_now ≡ false) → (second ≡ false → second_now ≡ false) →
    Makes j (there_look first second first_now second_now) (failed_unless (first_now || second_now)) first_now second_now
run_looks j first second first_now second_now r f s =
    subst (λ x. Makes x (there_look first second first_now second_now) (failed_unless (first_now || second_now)) first_now second_now) (sym (run_is first second j r))
    (look_makes j.outside.lines j.outside.first.outside j.outside.second.outside first second first_now second_now f s)
