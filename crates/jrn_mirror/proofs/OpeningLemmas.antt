-- The calls of an opening: what each of them is for the one disk.
use Rattle.std.proofs.Common.{◌≡◌, ℕ, List, refl, sym, inl, inr}
use Rattle.std.specs.Prelude.{Bool, true, false, not, ◌||◌, Option, None}
use Rattle.gw_base.specs.declared.setup.Setup.{Setup}
use Rattle.gw_bytes.specs.Bytes.{AreBytes}
use Rattle.gw_site.specs.Outside.{Outside, outside_after, no_run}
use Rattle.gw_site.specs.declared.turn.Turn.TheVariants.{Start, Wrote as WroteOne}
use Rattle.jrn_mirror.specs.declared.turn.Half.{Half}
use Rattle.jrn_mirror.specs.declared.turn.Half.TheVariants.{First, Second}
use Rattle.jrn_mirror.specs.declared.turn.Turn2.{Turn2}
use Rattle.jrn_mirror.specs.declared.turn.Turn2.TheVariants.{Line}
use Rattle.jrn_mirror.specs.PairOutside.{PairOutside}
use Rattle.jrn_mirror.specs.One.{MirrorStage, AtFirst, Between, Opening, Running, Write, Joint, gained, opening_from}
use Rattle.jrn_mirror.specs.Mirrored.{IsCopying}
use Rattle.jrn_mirror.specs.MirrorObserved.{IsRunOf, MayOpenAs}
use Rattle.jrn_mirror.specs.inner.Copying.{other_half, first_left, second_left}
use Rattle.jrn_mirror.specs.inner.Halves.{loss, half_write, there_sync}
use Rattle.jrn_mirror.specs.inner.Opening.{stands_first, IsOpeningOf, OpeningGoes, IsGivenUp, OpeningEnds, HasEndedSo, there_looks}
use Rattle.jrn_mirror.proofs.HoldsLemmas.{no_true}
use Rattle.jrn_mirror.proofs.ReachLemmas.{Steps}

-- an opening in which no disk was synced yet
abbrev pub open_joint : Outside → Outside → Bool → Outside → Bool → Setup → Bool → Joint
open_joint lines a a_lost b b_lost setup is_first = record { outside = record { lines = lines; first = record { outside = a; lost = a_lost }; second = record { outside = b; lost = b_lost } }; stage = Opening setup is_first; first_synced = false; second_synced = false; owed = None }

-- where it is under way and goes on, and where it is and ends
abbrev pub GoesBy : Joint → List Turn2 → Setup → Bool → Bool → Bool → Type 0
GoesBy j turns setup is_first first second = Steps j turns (OpeningGoes (first || second) setup is_first first second) (λ ones k. IsGivenUp (first || second) ones)

abbrev pub EndsBy : Joint → List Turn2 → Setup → Bool → Bool → Bool → Type 0
EndsBy j turns setup is_first first second = Steps j turns (OpeningEnds (first || second) setup is_first first second) (HasEndedSo (first || second) setup is_first)

same_joint : (o : PairOutside) (stage : MirrorStage) (a b : Bool) (owed : Option Write) (x y : Bool) (setup : Setup) (is_first : Bool) → stage ≡ Opening setup is_first → a ≡ false → b ≡ false → owed ≡ None → o.first.lost ≡ x → o.second.lost ≡ y →
    record { outside = o; stage = stage; first_synced = a; second_synced = b; owed = owed } ≡ open_joint o.lines o.first.outside x o.second.outside y setup is_first
same_joint o stage a b owed x y setup is_first e f g h l m = rw (e, f, g, h, sym l, sym m) refl

pub opening_is : (j : Joint) (setup : Setup) (is_first first second : Bool) → IsOpeningOf setup is_first first second j → j ≡ open_joint j.outside.lines j.outside.first.outside (not first) j.outside.second.outside (not second) setup is_first
opening_is j setup is_first first second r = same_joint j.outside j.stage j.first_synced j.second_synced j.owed (not first) (not second) setup is_first r.stage r.resting.unsynced.first r.resting.unsynced.second r.resting.whole r.first_is r.second_is

goes : (lines a b : Outside) (setup : Setup) (is_first first second : Bool) → IsOpeningOf setup is_first first second (open_joint lines a (not first) b (not second) setup is_first)
goes lines a b setup is_first first second = record { stage = refl; resting = record { unsynced = record { first = refl; second = refl }; whole = refl }; first_is = refl; second_is = refl }

runs : (lines a b : Outside) (first second : Bool) → IsRunOf first second (record { outside = record { lines = lines; first = record { outside = a; lost = not first }; second = record { outside = b; lost = not second } }; stage = Running; first_synced = false; second_synced = false; owed = None })
runs lines a b first second = record { run = record { stage = refl; resting = record { unsynced = record { first = refl; second = refl }; whole = refl } }; first_is = refl; second_is = refl }

-- no run, and both disks are lost
neither : (lines a b : Outside) → MayOpenAs false false (record { outside = record { lines = lines; first = record { outside = a; lost = true }; second = record { outside = b; lost = true } }; stage = Between; first_synced = false; second_synced = false; owed = None })
neither lines a b = record { may = tt; first_gone = λ e. refl; second_gone = λ e. refl }

-- ---- the beginning

opens_from : (stage : MirrorStage) (setup : Setup) → opening_from stage setup ≡ Opening setup (stands_first stage)
opens_from AtFirst setup = refl
opens_from Between setup = refl
opens_from (Opening other is_first) setup = refl
opens_from Running setup = refl

pub begun_is : (j : Joint) (setup : Setup) → (gained j (Line (Start setup))).joint ≡ open_joint (no_run j.outside.lines) j.outside.first.outside j.outside.first.lost j.outside.second.outside j.outside.second.lost setup (stands_first j.stage)
begun_is j setup = rw (opens_from j.stage setup) refl

-- the looks at both lengths, by which disks are taken to be there, which succeed, and which are lost
pub looks_go : (lines a b : Outside) (a_lost b_lost : Bool) (setup : Setup) (is_first first second first_now second_now : Bool) → (first ≡ false → a_lost ≡ true) → (second ≡ false → b_lost ≡ true) → (first_now ≡ true → a_lost ≡ false) → (second_now ≡ true → b_lost ≡ false) →
    (first ≡ false → first_now ≡ false) → (second ≡ false → second_now ≡ false) → GoesBy (open_joint lines a a_lost b b_lost setup is_first) (there_looks first second first_now second_now) setup is_first first_now second_now
looks_go lines a b true b_lost setup f first second true s p q r t u v = no_true (sym (r refl))
looks_go lines a b a_lost true setup f first second l true p q r t u v = no_true (sym (t refl))
looks_go lines a b false false setup f true true true true p q r t u v = record { may = tt; whole = (refl, goes lines a b setup f true true); parts = inl refl }
looks_go lines a b false false setup f true true true false p q r t u v = record { may = (tt, tt); whole = (refl, goes lines a b setup f true false); parts = (inl refl, inl refl) }
looks_go lines a b false true setup f true true true false p q r t u v = record { may = (tt, tt); whole = (refl, goes lines a b setup f true false); parts = (inl refl, inl refl) }
looks_go lines a b false false setup f true true false true p q r t u v = record { may = (tt, tt); whole = (refl, goes lines a b setup f false true); parts = (inl refl, inl refl) }
looks_go lines a b true false setup f true true false true p q r t u v = record { may = (tt, tt); whole = (refl, goes lines a b setup f false true); parts = (inl refl, inl refl) }
looks_go lines a b false false setup f true true false false p q r t u v = record { may = (tt, (tt, tt)); whole = (refl, neither lines a b); parts = (inl refl, (inl refl, inr (refl, refl))) }
looks_go lines a b true false setup f true true false false p q r t u v = record { may = (tt, (tt, tt)); whole = (refl, neither lines a b); parts = (inl refl, (inl refl, inr (refl, refl))) }
looks_go lines a b false true setup f true true false false p q r t u v = record { may = (tt, (refl, tt)); whole = (refl, neither lines a b); parts = (inl refl, (inr (refl, refl), inr (refl, refl))) }
looks_go lines a b true true setup f true true false false p q r t u v = record { may = (tt, (refl, tt)); whole = (refl, neither lines a b); parts = (inl refl, (inr (refl, refl), inr (refl, refl))) }
looks_go lines a b a_lost b_lost setup f true false l true p q r t u v = no_true (sym (v refl))
looks_go lines a b a_lost false setup f true false l false p q r t u v = no_true (q refl)
looks_go lines a b false true setup f true false true false p q r t u v = record { may = tt; whole = (refl, goes lines a b setup f true false); parts = inl refl }
looks_go lines a b false true setup f true false false false p q r t u v = record { may = (tt, tt); whole = (refl, neither lines a b); parts = (inl refl, inr (refl, refl)) }
looks_go lines a b true true setup f true false false false p q r t u v = record { may = (tt, tt); whole = (refl, neither lines a b); parts = (inl refl, inr (refl, refl)) }
looks_go lines a b a_lost b_lost setup f false second true s p q r t u v = no_true (sym (u refl))
looks_go lines a b false b_lost setup f false second false s p q r t u v = no_true (p refl)
looks_go lines a b true false setup f false true false true p q r t u v = record { may = tt; whole = (refl, goes lines a b setup f false true); parts = inl refl }
looks_go lines a b true false setup f false true false false p q r t u v = record { may = (tt, tt); whole = (refl, neither lines a b); parts = (inl refl, inr (refl, refl)) }
looks_go lines a b true true setup f false true false false p q r t u v = record { may = (tt, tt); whole = (refl, neither lines a b); parts = (inl refl, inr (refl, refl)) }
looks_go lines a b a_lost b_lost setup f false false false true p q r t u v = no_true (sym (v refl))
looks_go lines a b a_lost false setup f false false false false p q r t u v = no_true (q refl)
looks_go lines a b true true setup f false false false false p q r t u v = record { may = (tt, tt); whole = (refl, neither lines a b); parts = (inl refl, inr (refl, refl)) }

-- ---- the copying, where both disks are there

-- a look at the source
pub source_goes : (source : Half) (lines a b : Outside) (setup : Setup) (is_first there : Bool) → GoesBy (open_joint lines a false b false setup is_first) (loss there source) setup is_first (first_left source there true) (second_left source there true)
source_goes First lines a b setup f true = record { may = tt; whole = (refl, goes lines a b setup f true true); parts = inl refl }
source_goes First lines a b setup f false = record { may = (tt, tt); whole = (refl, goes lines a b setup f false true); parts = (inl refl, inl refl) }
source_goes Second lines a b setup f true = record { may = tt; whole = (refl, goes lines a b setup f true true); parts = inl refl }
source_goes Second lines a b setup f false = record { may = (tt, tt); whole = (refl, goes lines a b setup f true false); parts = (inl refl, inl refl) }

-- a look at the target
pub target_goes : (source : Half) (lines a b : Outside) (setup : Setup) (is_first there : Bool) → GoesBy (open_joint lines a false b false setup is_first) (loss there (other_half source)) setup is_first (first_left source true there) (second_left source true there)
target_goes First lines a b setup f there = source_goes Second lines a b setup f there
target_goes Second lines a b setup f there = source_goes First lines a b setup f there

-- a write on the target
pub write_goes : (source : Half) (lines a b : Outside) (setup : Setup) (is_first there : Bool) (offset : ℕ) (bytes : List ℕ) → AreBytes bytes → IsCopying (open_joint lines a false b false setup is_first) (other_half source) offset bytes →
    GoesBy (open_joint lines a false b false setup is_first) (half_write (other_half source) offset bytes there) setup is_first (first_left source true there) (second_left source true there)
write_goes First lines a b setup f true offset bytes k c = record { may = ((k, c), tt); whole = (refl, goes lines a (outside_after b (WroteOne offset bytes)) setup f true true); parts = (inl refl, inl refl) }
write_goes First lines a b setup f false offset bytes k c = record { may = ((k, c), (tt, tt)); whole = (refl, goes lines a (outside_after b (WroteOne offset bytes)) setup f true false); parts = (inl refl, (inl refl, inl refl)) }
write_goes Second lines a b setup f true offset bytes k c = record { may = ((k, c), tt); whole = (refl, goes lines (outside_after a (WroteOne offset bytes)) b setup f true true); parts = (inl refl, inl refl) }
write_goes Second lines a b setup f false offset bytes k c = record { may = ((k, c), (tt, tt)); whole = (refl, goes lines (outside_after a (WroteOne offset bytes)) b setup f false true); parts = (inl refl, (inl refl, inl refl)) }

-- ---- the end

-- both disks are there, and hold the same file
pub both_end : (lines a b : Outside) (setup : Setup) (is_first first second : Bool) → a.file ≡ b.file → EndsBy (open_joint lines a false b false setup is_first) (there_sync true true first second) setup is_first first second
both_end lines a b setup true true true e = record { may = ((refl, λ x y. e), ((refl, λ x y. e), tt)); whole = (refl, runs _ _ _ true true); parts = (inl refl, (inl refl, inr refl)) }
both_end lines a b setup false true true e = record { may = ((refl, λ x y. e), ((refl, λ x y. e), tt)); whole = (refl, runs _ _ _ true true); parts = (inl refl, (inl refl, inr refl)) }
both_end lines a b setup true true false e = record { may = ((refl, λ x y. e), (tt, tt)); whole = (refl, runs _ _ _ true false); parts = (inl refl, (inl refl, inr refl)) }
both_end lines a b setup false true false e = record { may = ((refl, λ x y. e), (tt, tt)); whole = (refl, runs _ _ _ true false); parts = (inl refl, (inl refl, inr refl)) }
both_end lines a b setup true false true e = record { may = (tt, ((refl, λ x y. no_true (sym x)), tt)); whole = (refl, runs _ _ _ false true); parts = (inl refl, (inl refl, inr refl)) }
both_end lines a b setup false false true e = record { may = (tt, ((refl, λ x y. no_true (sym x)), tt)); whole = (refl, runs _ _ _ false true); parts = (inl refl, (inl refl, inr refl)) }
both_end lines a b setup f false false e = record { may = (tt, (tt, tt)); whole = (refl, neither _ _ _); parts = (inl refl, (inl refl, inr refl)) }

-- the second alone is there
pub second_ends : (lines a b : Outside) (setup : Setup) (is_first second : Bool) → EndsBy (open_joint lines a true b false setup is_first) (there_sync false true false second) setup is_first false second
second_ends lines a b setup true true = record { may = ((refl, λ x y. no_true (sym x)), tt); whole = (refl, runs _ _ _ false true); parts = (inl refl, inr refl) }
second_ends lines a b setup false true = record { may = ((refl, λ x y. no_true (sym x)), tt); whole = (refl, runs _ _ _ false true); parts = (inl refl, inr refl) }
second_ends lines a b setup f false = record { may = (tt, tt); whole = (refl, neither _ _ _); parts = (inl refl, inr refl) }

-- the first alone is there
pub first_ends : (lines a b : Outside) (setup : Setup) (is_first first : Bool) → EndsBy (open_joint lines a false b true setup is_first) (there_sync true false first false) setup is_first first false
first_ends lines a b setup true true = record { may = ((refl, λ x y. no_true (sym y)), tt); whole = (refl, runs _ _ _ true false); parts = (inl refl, inr refl) }
first_ends lines a b setup false true = record { may = ((refl, λ x y. no_true (sym y)), tt); whole = (refl, runs _ _ _ true false); parts = (inl refl, inr refl) }
first_ends lines a b setup f false = record { may = (tt, tt); whole = (refl, neither _ _ _); parts = (inl refl, inr refl) }
