-- What holds of the two disks and of the one that they stand for, turn by turn.
use Rattle.std.proofs.Common.{◌≡◌, ℕ, ◌+◌, ◌-◌, ◌<◌, ◌≤◌, List, [], ◌∷◌, ◌++◌, length, get_or, refl, sym, ◌∙◌, ap, arith, inl, inr}
use Rattle.std.proofs.lemmas.Bool.{and_parts, both_ways, cases_Bool, cases_lt}
use Rattle.std.specs.Prelude.{Bool, true, false, ◌&&◌, ◌||◌, Option, Some, None}
use Rattle.gw_base.specs.declared.setup.Setup.{Setup}
use Rattle.gw_bytes.specs.Bytes.{AreBytes}
use Rattle.gw_bytes.proofs.ByteLemmas.{are_bytes, each_byte}
use Rattle.gw_site.specs.Outside.{Outside, Range, overwrite, outside_after, outside_from, outside_of, no_run, nothing_yet}
use Rattle.gw_site.specs.Image.{Image, covers, is_covered}
use Rattle.gw_site.specs.declared.turn.Turn.{Turn}
use Rattle.gw_site.specs.declared.turn.Turn.TheVariants.{Start, OpenFailed, Synced as SyncedOne, Crash as CrashOne}
use Rattle.gw_site.proofs.ImageLemmas.{Sound, sound_of}
use Rattle.gw_site.proofs.OutsideLemmas.{outside_of_more}
use Rattle.gw_site.proofs.OverwriteLemmas.{over_below, over_inside, over_above}
use Rattle.jrn_mirror.specs.PairOutside.{Disk, PairOutside, are_lost}
use Rattle.jrn_mirror.specs.One.{MirrorStage, AtFirst, Between, Opening, Running, Write, Joint, Gained, are_settled, file_there, nothing_gained, failed_at, finished_at, settle_by, settle}
use Rattle.jrn_mirror.specs.Mirrored.{IsUnsynced, AreCopied, AreImages}
use Rattle.jrn_mirror.proofs.WithinLemmas.{Within, file_image, within_flushed, within_opened}

-- ---- what holds

-- this outside is that after some log
pub record FromLog (o : Outside) : Type 0 where
  pub log : List Turn
  pub is : o ≡ outside_of log

pub from_more : (o : Outside) (turn : Turn) → FromLog o → FromLog (outside_after o turn)
from_more o turn f = record { log = f.log ++ turn ∷ []; is = ap (λ x. outside_after x turn) f.is ∙ sym (outside_of_more f.log turn) }

pub sound_from : (o : Outside) → FromLog o → Sound o
sound_from o f = rw f.is (sound_of f.log)

-- of a disk: each image of it is one of the one disk's, unless it is lost
pub record DiskHolds (o : Outside) (disk : Disk) : Type 0 where
  pub from_log : FromLog disk.outside
  pub within : disk.lost ≡ false → Within o disk.outside
  pub bytes : AreBytes disk.outside.file

-- nothing was written since the last sync
pub record Flushed (d : Outside) : Type 0 where
  pub stable : d.stable ≡ d.file
  pub written : d.written ≡ []

-- the range of a write
abbrev pub range_of : Write → Range
range_of write = record { offset = write.offset; size = length write.bytes }

-- a write is still to be made here
pub record Owes (o d : Outside) (write : Write) : Type 0 where
  pub file : overwrite d.file write.offset write.bytes ≡ o.file
  pub covered : (index : ℕ) → is_covered o.written index ≡ false → covers index (range_of write) ≡ false

-- the second disk's file is the one, but for a write that it owes
abbrev pub Follows : Outside → Outside → Option Write → Type 0
Follows o d None = d.file ≡ o.file
Follows o d (Some write) = Owes o d write

-- the lines are the same
pub record SameLines (o lines : Outside) : Type 0 where
  pub tills : o.tills ≡ lines.tills
  pub links : o.links ≡ lines.links
  pub next_till : o.next_till ≡ lines.next_till

-- no connection is open
abbrev pub AreFresh : Outside → Type 0
AreFresh lines = SameLines nothing_yet lines

pub record OpeningHolds (first : Bool) (o : Outside) (j : Joint) : Type 0 where
  pub first_flushed : j.first_synced ≡ true → Flushed j.outside.first.outside
  pub second_flushed : j.second_synced ≡ true → Flushed j.outside.second.outside
  pub first_copied : j.first_synced ≡ true → AreCopied j.outside
  pub second_copied : j.second_synced ≡ true → AreCopied j.outside
  pub empty : first ≡ true → o.file ≡ []
  pub fresh : AreFresh j.outside.lines

pub record RunHolds (o : Outside) (j : Joint) : Type 0 where
  pub first_file : j.outside.first.lost ≡ false → j.outside.first.outside.file ≡ o.file
  pub second_file : j.outside.second.lost ≡ false → Follows o j.outside.second.outside j.owed
  pub first_flushed : j.first_synced ≡ true → Flushed j.outside.first.outside
  pub second_flushed : j.second_synced ≡ true → Flushed j.outside.second.outside
  pub calm : (write : Write) → j.owed ≡ Some write → IsUnsynced j
  pub lines : SameLines o j.outside.lines

abbrev pub StageHolds : MirrorStage → Outside → Joint → Type 0
StageHolds AtFirst o j = o.file ≡ []
StageHolds Between o j = Unit {0}
StageHolds (Opening setup first) o j = OpeningHolds first o j
StageHolds Running o j = RunHolds o j

pub record Holds (o : Outside) (j : Joint) : Type 0 where
  pub from_log : FromLog o
  pub first : DiskHolds o j.outside.first
  pub second : DiskHolds o j.outside.second
  pub stage : StageHolds j.stage o j

-- what was gained goes on from this outside
pub record Goes (o : Outside) (g : Gained) : Type 0 where
  pub images : AreImages o g.turns
  pub holds : Holds (outside_from o g.turns) g.joint

pub goes_nothing : (o : Outside) (j : Joint) → Holds o j → Goes o (nothing_gained j)
goes_nothing o j h = record { images = tt; holds = h }

-- ---- small lemmas

pub is_empty : (xs : List ℕ) → length xs ≤ 0 → xs ≡ []
is_empty [] le = refl
is_empty (x ∷ xs) le = absurd (omega (arith, le))

pub no_true : {X : Type 0} → false ≡ true → X
no_true e = absurd (let h : false ≡ true = e in cc)

pub no_false : {X : Type 0} → true ≡ false → X
no_false e = absurd (let h : true ≡ false = e in cc)

pub no_some : {X : Type 0} {A : Type 0} (x : A) → None ≡ Some x → X
no_some x e = absurd (let h : None ≡ Some x = e in cc)

pub or_is_left : (x y : Bool) → (x || y) ≡ true → y ≡ false → x ≡ true
or_is_left true y h e = refl
or_is_left false y h e = absurd (both_ways y e h)

pub and_is_right : (x y : Bool) → (x && y) ≡ false → x ≡ true → y ≡ false
and_is_right true y h e = h
and_is_right false y h e = no_true e

pub over_bytes : (file : List ℕ) (offset : ℕ) (bytes : List ℕ) → AreBytes file → AreBytes bytes → AreBytes (overwrite file offset bytes)
over_bytes file offset bytes f b = are_bytes (overwrite file offset bytes) (λ i. each i)
  where
    each : (i : ℕ) → get_or (overwrite file offset bytes) i 0 < 256
    each i = elim (cases_lt i offset) [
      | inl below ↦ rw (over_below file offset bytes i below) (each_byte file f i)
      | inr le ↦ elim (cases_lt i (offset + length bytes)) [ inl inside ↦ rw (over_inside file offset bytes i le inside) (each_byte bytes b (i - offset)) | inr above ↦ rw (over_above file offset bytes i above) (each_byte file f i) ]
    ]

pub within_no_run : (o d : Outside) → Within o d → Within (no_run o) d
within_no_run o d w = record { no_shorter = w.no_shorter; no_longer = w.no_longer; clean = w.clean; same = w.same }

pub disk_no_run : (o : Outside) (disk : Disk) → DiskHolds o disk → DiskHolds (no_run o) disk
disk_no_run o disk h = record { from_log = h.from_log; within = λ e. within_no_run o disk.outside (h.within e); bytes = h.bytes }

pub disk_lost : (o : Outside) (disk : Disk) (lost : disk.lost ≡ true) → (p : Outside) → DiskHolds o disk → DiskHolds p disk
disk_lost o disk lost p h = record { from_log = h.from_log; within = λ e. absurd (both_ways disk.lost e lost); bytes = h.bytes }

-- the file of a disk that is there is an image, in bytes
pub disk_image : (o : Outside) (disk : Disk) → DiskHolds o disk → disk.lost ≡ false → Image o disk.outside.file
disk_image o disk h e = file_image o disk.outside (h.within e) (sound_from disk.outside h.from_log)

-- ---- both disks are lost

pub goes_failed : (stage : MirrorStage) (o : Outside) (j : Joint) → are_lost j.outside ≡ true → Holds o j → StageHolds stage o j → j.stage ≡ stage → Goes o (failed_at stage j)
goes_failed AtFirst o j lost h s e = goes_nothing o j h
goes_failed Between o j lost h s e = goes_nothing o j h
goes_failed (Opening setup first) o j lost h s e =
    let p = and_parts j.outside.first.lost j.outside.second.lost lost in
    record {
      images = (tt, tt);
      holds = record { from_log = from_more o OpenFailed h.from_log; first = disk_lost o j.outside.first p.0 (no_run o) h.first; second = disk_lost o j.outside.second p.1 (no_run o) h.second; stage = tt };
    }
goes_failed Running o j lost h s e =
    let p = and_parts j.outside.first.lost j.outside.second.lost lost in
    record {
      images = (tt, tt);
      holds = record {
        from_log = h.from_log;
        first = h.first;
        second = h.second;
        stage = record {
          first_file = λ e. absurd (both_ways j.outside.first.lost e p.0);
          second_file = λ e. absurd (both_ways j.outside.second.lost e p.1);
          first_flushed = λ e. no_true e;
          second_flushed = λ e. no_true e;
          calm = λ write e. no_some write e;
          lines = s.lines;
        };
      };
    }

-- ---- each disk is synced or lost

-- a disk that is there was synced
first_synced : (j : Joint) → are_settled j ≡ true → j.outside.first.lost ≡ false → j.first_synced ≡ true
first_synced j done there = or_is_left j.first_synced j.outside.first.lost (and_parts (j.first_synced || j.outside.first.lost) (j.second_synced || j.outside.second.lost) done).0 there

second_synced : (j : Joint) → are_settled j ≡ true → j.outside.second.lost ≡ false → j.second_synced ≡ true
second_synced j done there = or_is_left j.second_synced j.outside.second.lost (and_parts (j.first_synced || j.outside.first.lost) (j.second_synced || j.outside.second.lost) done).1 there

-- the file that is there is that of each disk that is there
first_there : (o : PairOutside) → o.first.lost ≡ false → o.first.outside.file ≡ file_there o
first_there o e = rw e refl

second_there : (o : PairOutside) → AreCopied o → o.second.lost ≡ false → o.second.outside.file ≡ file_there o
second_there o copied e = elim (cases_Bool o.first.lost) [ inl gone ↦ rw gone refl | inr here ↦ rw here (sym (copied here e)) ]

there_image : (o : Outside) (p : PairOutside) → are_lost p ≡ false → DiskHolds o p.first → DiskHolds o p.second → Image o (file_there p) × AreBytes (file_there p)
there_image o p some f s = elim (cases_Bool p.first.lost) [
  | inl gone ↦ rw gone (disk_image o p.second s (and_is_right p.first.lost p.second.lost some gone), s.bytes)
  | inr here ↦ rw here (disk_image o p.first f here, f.bytes)
]

copied_of : (first : Bool) (o : Outside) (j : Joint) → are_settled j ≡ true → OpeningHolds first o j → AreCopied j.outside
copied_of first o j done s = λ a b. s.first_copied (first_synced j done a) a b

-- after a power failure that left the file that is there
disk_opened : (o : Outside) (disk : Disk) (file : List ℕ) → DiskHolds o disk → (disk.lost ≡ false → disk.outside.file ≡ file) → (disk.lost ≡ false → Flushed disk.outside) → DiskHolds (no_run (outside_after o (CrashOne file))) disk
disk_opened o disk file h same flushed = record {
  from_log = h.from_log;
  within = λ e. within_no_run (outside_after o (CrashOne file)) disk.outside (within_opened o disk.outside file (same e) (flushed e).stable (flushed e).written);
  bytes = h.bytes;
}

goes_opened : (first : Bool) (setup : Setup) (o : Outside) (j : Joint) → are_lost j.outside ≡ false → are_settled j ≡ true → Holds o j → OpeningHolds first o j → Goes o (finished_at (Opening setup first) j)
goes_opened true setup o j some done h s = record {
  images = (tt, tt);
  holds = record {
    from_log = from_more o (Start setup) h.from_log;
    first = disk_no_run o j.outside.first h.first;
    second = disk_no_run o j.outside.second h.second;
    stage = record {
      first_file = λ e. is_empty j.outside.first.outside.file (let w = (h.first.within e).no_longer in let z : length o.file ≡ 0 = ap length (s.empty refl) in omega (arith, w, z)) ∙ sym (s.empty refl);
      second_file = λ e. is_empty j.outside.second.outside.file (let w = (h.second.within e).no_longer in let z : length o.file ≡ 0 = ap length (s.empty refl) in omega (arith, w, z)) ∙ sym (s.empty refl);
      first_flushed = λ e. no_true e;
      second_flushed = λ e. no_true e;
      calm = λ write e. no_some write e;
      lines = record { tills = s.fresh.tills; links = s.fresh.links; next_till = s.fresh.next_till };
    };
  };
}
goes_opened false setup o j some done h s =
    let f = file_there j.outside in
    let c = copied_of false o j done s in
    record {
      images = (there_image o j.outside some h.first h.second, (tt, tt));
      holds = record {
        from_log = from_more (outside_after o (CrashOne f)) (Start setup) (from_more o (CrashOne f) h.from_log);
        first = disk_opened o j.outside.first f h.first (first_there j.outside) (λ e. s.first_flushed (first_synced j done e));
        second = disk_opened o j.outside.second f h.second (second_there j.outside c) (λ e. s.second_flushed (second_synced j done e));
        stage = record {
          first_file = first_there j.outside;
          second_file = second_there j.outside c;
          first_flushed = λ e. no_true e;
          second_flushed = λ e. no_true e;
          calm = λ write e. no_some write e;
          lines = record { tills = s.fresh.tills; links = s.fresh.links; next_till = s.fresh.next_till };
        };
      };
    }

-- the second disk has the whole file where it was synced
caught_up : (o : Outside) (j : Joint) (owed : Option Write) → j.owed ≡ owed → RunHolds o j → j.second_synced ≡ true → Follows o j.outside.second.outside owed → j.outside.second.outside.file ≡ o.file
caught_up o j None e s synced f = f
caught_up o j (Some write) e s synced f = absurd (both_ways j.second_synced (s.calm write e).second synced)

disk_flushed : (o : Outside) (disk : Disk) → DiskHolds o disk → (disk.lost ≡ false → disk.outside.file ≡ o.file) → (disk.lost ≡ false → Flushed disk.outside) → DiskHolds (outside_after o SyncedOne) disk
disk_flushed o disk h same flushed = record { from_log = h.from_log; within = λ e. within_flushed o disk.outside (same e) (flushed e).stable (flushed e).written; bytes = h.bytes }

goes_synced : (o : Outside) (j : Joint) → are_settled j ≡ true → Holds o j → RunHolds o j → Goes o (finished_at Running j)
goes_synced o j done h s = record {
  images = (tt, tt);
  holds = record {
    from_log = from_more o SyncedOne h.from_log;
    first = disk_flushed o j.outside.first h.first s.first_file (λ e. s.first_flushed (first_synced j done e));
    second = disk_flushed o j.outside.second h.second same (λ e. s.second_flushed (second_synced j done e));
    stage = record {
      first_file = s.first_file;
      second_file = same;
      first_flushed = λ e. no_true e;
      second_flushed = λ e. no_true e;
      calm = λ write e. no_some write e;
      lines = record { tills = s.lines.tills; links = s.lines.links; next_till = s.lines.next_till };
    };
  };
}
  where
    same : j.outside.second.lost ≡ false → j.outside.second.outside.file ≡ o.file
    same e = caught_up o j j.owed refl s (second_synced j done e) (s.second_file e)

goes_finished : (stage : MirrorStage) (o : Outside) (j : Joint) → are_lost j.outside ≡ false → are_settled j ≡ true → Holds o j → StageHolds stage o j → Goes o (finished_at stage j)
goes_finished AtFirst o j some done h s = goes_nothing o j h
goes_finished Between o j some done h s = goes_nothing o j h
goes_finished (Opening setup first) o j some done h s = goes_opened first setup o j some done h s
goes_finished Running o j some done h s = goes_synced o j done h s

goes_by : (lost done : Bool) (o : Outside) (j : Joint) → are_lost j.outside ≡ lost → are_settled j ≡ done → Holds o j → Goes o (settle_by lost done j)
goes_by true done o j l d h = goes_failed j.stage o j l h h.stage refl
goes_by false true o j l d h = goes_finished j.stage o j l d h h.stage
goes_by false false o j l d h = goes_nothing o j h

-- what is under way fails, is finished or goes on
pub goes_settled : (o : Outside) (j : Joint) → Holds o j → Goes o (settle j)
goes_settled o j h = goes_by (are_lost j.outside) (are_settled j) o j refl refl h
