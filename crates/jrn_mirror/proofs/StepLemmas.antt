-- Each turn that may come keeps what holds of the two disks and of the one.
use Rattle.std.proofs.Common.{◌≡◌, ℕ, List, [], ◌∷◌, length, get_or, refl, sym, ◌∙◌, ap, arith, inl, inr}
use Rattle.std.proofs.lemmas.Bool.{or_parts, both_ways, cases_Bool}
use Rattle.std.specs.Prelude.{◌⊎◌, Bool, true, false, Option, Some, None}
use Rattle.gw_base.specs.declared.setup.Setup.{Setup}
use Rattle.gw_bytes.specs.Bytes.{AreBytes}
use Rattle.gw_site.specs.Outside.{Outside, overwrite, outside_after}
use Rattle.gw_site.specs.Image.{covers, is_covered}
use Rattle.gw_site.specs.declared.turn.Turn.{Turn}
use Rattle.gw_site.specs.declared.turn.Turn.TheVariants.{Start, OpenFailed, Polled, Opened, HeardTill, Closed, HeardPt, Lost as LostLine, Stopped, Linked, LinkFailed, SentTill, SentPt, CutTill, CutPt, DiskFailed, Wrote as WroteOne, Synced as SyncedOne, Crash as CrashOne}
use Rattle.jrn_mirror.specs.declared.turn.Half.{Half}
use Rattle.jrn_mirror.specs.declared.turn.Half.TheVariants.{First, Second}
use Rattle.jrn_mirror.specs.declared.turn.Turn2.{Turn2}
use Rattle.jrn_mirror.specs.declared.turn.Turn2.TheVariants.{Line, Wrote, Synced, Lost, Crash}
use Rattle.jrn_mirror.specs.PairOutside.{Disk, PairOutside, disk_after, disk_left, pair_after}
use Rattle.jrn_mirror.specs.One.{MirrorStage, AtFirst, Between, Opening, Running, is_run_stage, Write, Joint, nothing_gained, resting, opening_from, lined, owed_by, wrote_first, wrote_second, wrote_at, with_synced, gained}
use Rattle.jrn_mirror.specs.Mirrored.{IsUnsynced, IsResting, IsInRun, IsCopy, IsCopying, IsSecondHalf, MayWrite, MaySync, MayLose, MayOpen, MayLine, MayCome, IsLeft, AreCopied}
use Rattle.jrn_mirror.proofs.WithinLemmas.{Within, within_image, within_left, within_both, within_older, within_caught_up, within_synced, within_copied}
use Rattle.jrn_mirror.proofs.HoldsLemmas.{from_more, sound_from, DiskHolds, Owes, Follows, OpeningHolds, RunHolds, StageHolds, SameLines, Holds, Goes, goes_nothing, goes_settled, no_true, no_false, no_some, over_bytes, disk_no_run}

-- ---- the lines

-- with other lines
abbrev pub with_lines : Joint → Outside → Joint
with_lines j lines = record j { outside = record { lines = lines; first = j.outside.first; second = j.outside.second } }

within_moved : (o p d : Outside) → p.file ≡ o.file → p.stable ≡ o.stable → p.written ≡ o.written → Within o d → Within p d
within_moved o p d f s w h = record {
  no_shorter = rw s h.no_shorter;
  no_longer = rw f h.no_longer;
  clean = λ index lt un. h.clean index (rw (sym s) lt) (rw (sym w) un);
  same = λ index lt un. h.same index (rw (sym s) lt) (rw (sym w) un) ∙ ap (λ bytes. get_or bytes index 0) (sym s);
}

follows_moved : (o p d : Outside) (owed : Option Write) → p.file ≡ o.file → p.written ≡ o.written → Follows o d owed → Follows p d owed
follows_moved o p d None f w h = h ∙ sym f
follows_moved o p d (Some write) f w h = record { file = h.file ∙ sym f; covered = λ index un. h.covered index (rw (sym w) un) }

run_moved : (o p lines : Outside) (j : Joint) → p.file ≡ o.file → p.written ≡ o.written → SameLines p lines → RunHolds o j → RunHolds p (with_lines j lines)
run_moved o p lines j f w l h = record {
  first_file = λ e. h.first_file e ∙ sym f;
  second_file = λ e. follows_moved o p j.outside.second.outside j.owed f w (h.second_file e);
  first_flushed = h.first_flushed;
  second_flushed = h.second_flushed;
  calm = λ write e. record { first = (h.calm write e).first; second = (h.calm write e).second };
  lines = l;
}

disk_moved : (o p : Outside) (disk : Disk) → p.file ≡ o.file → p.stable ≡ o.stable → p.written ≡ o.written → DiskHolds o disk → DiskHolds p disk
disk_moved o p disk f s w h = record { from_log = h.from_log; within = λ e. within_moved o p disk.outside f s w (h.within e); bytes = h.bytes }

-- a line leaves the same lines where they were the same
line_same : (o lines : Outside) (turn : Turn) → SameLines o lines → SameLines (outside_after o turn) (outside_after lines turn)
line_same o lines (Start setup) s = record { tills = refl; links = refl; next_till = refl }
line_same o lines OpenFailed s = record { tills = refl; links = refl; next_till = refl }
line_same o lines (Polled now) s = record { tills = s.tills; links = s.links; next_till = s.next_till }
line_same o lines (Opened till) s = record { tills = rw s.tills refl; links = s.links; next_till = refl }
line_same o lines (HeardTill till bytes) s = record { tills = rw s.tills refl; links = s.links; next_till = s.next_till }
line_same o lines (Closed till) s = record { tills = rw s.tills refl; links = s.links; next_till = s.next_till }
line_same o lines (HeardPt pt bytes) s = record { tills = s.tills; links = rw s.links refl; next_till = s.next_till }
line_same o lines (LostLine pt) s = record { tills = s.tills; links = rw s.links refl; next_till = s.next_till }
line_same o lines Stopped s = s
line_same o lines (Linked pt) s = record { tills = s.tills; links = rw s.links refl; next_till = s.next_till }
line_same o lines (LinkFailed pt) s = s
line_same o lines (SentTill till bytes ok) s = s
line_same o lines (SentPt pt bytes ok) s = s
line_same o lines (CutTill till) s = record { tills = rw s.tills refl; links = s.links; next_till = s.next_till }
line_same o lines (CutPt pt) s = record { tills = s.tills; links = rw s.links refl; next_till = s.next_till }
line_same o lines (WroteOne offset bytes) s = record { tills = s.tills; links = s.links; next_till = s.next_till }
line_same o lines SyncedOne s = record { tills = s.tills; links = s.links; next_till = s.next_till }
line_same o lines DiskFailed s = s
line_same o lines (CrashOne file) s = record { tills = refl; links = refl; next_till = refl }

-- a turn that changes nothing of the file
stays : (o : Outside) (turn : Turn) (j : Joint) → IsInRun j → (outside_after o turn).file ≡ o.file → (outside_after o turn).stable ≡ o.stable → (outside_after o turn).written ≡ o.written → Holds o j → Holds (outside_after o turn) (with_lines j (outside_after j.outside.lines turn))
stays o turn j r f s w h = record {
  from_log = from_more o turn h.from_log;
  first = disk_moved o (outside_after o turn) j.outside.first f s w h.first;
  second = disk_moved o (outside_after o turn) j.outside.second f s w h.second;
  stage = by_stage j.stage r.stage h.stage;
}
  where
    by_stage : (stage : MirrorStage) → is_run_stage stage ≡ true → StageHolds stage o j → StageHolds stage (outside_after o turn) (with_lines j (outside_after j.outside.lines turn))
    by_stage AtFirst e h = no_true e
    by_stage Between e h = no_true e
    by_stage (Opening setup first) e h = no_true e
    by_stage Running e h = run_moved o (outside_after o turn) (outside_after j.outside.lines turn) j f w (line_same o j.outside.lines turn h.lines) h

opening_holds : (first : Bool) (o lines : Outside) (outside : PairOutside) (setup : Setup) → (first ≡ true → o.file ≡ []) → OpeningHolds first o (record { outside = record { lines = outside_after lines (Start setup); first = outside.first; second = outside.second }; stage = Opening setup first; first_synced = false; second_synced = false; owed = None })
opening_holds first o lines outside setup e = record { first_flushed = λ f. no_true f; second_flushed = λ f. no_true f; first_copied = λ f. no_true f; second_copied = λ f. no_true f; empty = e; fresh = record { tills = refl; links = refl; next_till = refl } }

started : (stage : MirrorStage) (o : Outside) (setup : Setup) (j : Joint) → MayOpen stage j → StageHolds stage o j → Holds o j → Holds o (resting (opening_from stage setup) (with_lines j (outside_after j.outside.lines (Start setup))))
started AtFirst o setup j may s h = record { from_log = h.from_log; first = h.first; second = h.second; stage = opening_holds true o j.outside.lines j.outside setup (λ f. s) }
started Between o setup j may s h = record { from_log = h.from_log; first = h.first; second = h.second; stage = opening_holds false o j.outside.lines j.outside setup (λ f. no_true f) }
started (Opening other first) o setup j may s h = absurd may
started Running o setup j may s h = record { from_log = h.from_log; first = h.first; second = h.second; stage = opening_holds false o j.outside.lines j.outside setup (λ f. no_true f) }

failed_open : (o lines : Outside) (j : Joint) → Holds o j → Holds (outside_after o OpenFailed) (resting Between (with_lines j lines))
failed_open o lines j h = record { from_log = from_more o OpenFailed h.from_log; first = disk_no_run o j.outside.first h.first; second = disk_no_run o j.outside.second h.second; stage = tt }

goes_line : (o : Outside) (j : Joint) (turn : Turn) → Holds o j → MayLine j turn → Goes o (lined (with_lines j (outside_after j.outside.lines turn)) turn)
goes_line o j (Start setup) h may = goes_nothing o (resting (opening_from j.stage setup) (with_lines j (outside_after j.outside.lines (Start setup)))) (started j.stage o setup j may h.stage h)
goes_line o j OpenFailed h may = record { images = (tt, tt); holds = failed_open o (outside_after j.outside.lines OpenFailed) j h }
goes_line o j (Polled now) h may = record { images = (tt, tt); holds = stays o (Polled now) j may refl refl refl h }
goes_line o j (Opened till) h may = record { images = (tt, tt); holds = stays o (Opened till) j may refl refl refl h }
goes_line o j (HeardTill till bytes) h may = record { images = (tt, tt); holds = stays o (HeardTill till bytes) j may refl refl refl h }
goes_line o j (Closed till) h may = record { images = (tt, tt); holds = stays o (Closed till) j may refl refl refl h }
goes_line o j (HeardPt pt bytes) h may = record { images = (tt, tt); holds = stays o (HeardPt pt bytes) j may refl refl refl h }
goes_line o j (LostLine pt) h may = record { images = (tt, tt); holds = stays o (LostLine pt) j may refl refl refl h }
goes_line o j Stopped h may = record { images = (tt, tt); holds = stays o Stopped j may refl refl refl h }
goes_line o j (Linked pt) h may = record { images = (tt, tt); holds = stays o (Linked pt) j may refl refl refl h }
goes_line o j (LinkFailed pt) h may = record { images = (tt, tt); holds = stays o (LinkFailed pt) j may refl refl refl h }
goes_line o j (SentTill till bytes ok) h may = record { images = (tt, tt); holds = stays o (SentTill till bytes ok) j may refl refl refl h }
goes_line o j (SentPt pt bytes ok) h may = record { images = (tt, tt); holds = stays o (SentPt pt bytes ok) j may refl refl refl h }
goes_line o j (CutTill till) h may = record { images = (tt, tt); holds = stays o (CutTill till) j may refl refl refl h }
goes_line o j (CutPt pt) h may = record { images = (tt, tt); holds = stays o (CutPt pt) j may refl refl refl h }
goes_line o j (WroteOne offset bytes) h may = absurd may
goes_line o j SyncedOne h may = absurd may
goes_line o j DiskFailed h may = absurd may
goes_line o j (CrashOne file) h may = absurd may

-- ---- a power failure

disk_left_holds : (o : Outside) (disk : Disk) (left : Option (List ℕ)) → DiskHolds o disk → IsLeft disk left → DiskHolds o (disk_left disk left)
disk_left_holds o disk None h l = record { from_log = h.from_log; within = λ e. no_false e; bytes = h.bytes }
disk_left_holds o disk (Some file) h l = record {
  from_log = from_more disk.outside (CrashOne file) h.from_log;
  within = λ e. within_left o disk.outside file (within_image o disk.outside file (h.within l.0) l.1);
  bytes = l.2;
}

goes_crash : (o : Outside) (j : Joint) (first second : Option (List ℕ)) → Holds o j → MayCome j (Crash first second) → Goes o (gained j (Crash first second))
goes_crash o j first second h may = record {
  images = tt;
  holds = record { from_log = h.from_log; first = disk_left_holds o j.outside.first first h.first may.0; second = disk_left_holds o j.outside.second second h.second may.1; stage = tt };
}

-- ---- writes

disk_wrote : (o p : Outside) (disk : Disk) (offset : ℕ) (bytes : List ℕ) → AreBytes bytes → (disk.lost ≡ false → Within p (outside_after disk.outside (WroteOne offset bytes))) → DiskHolds o disk → DiskHolds p (disk_after disk (WroteOne offset bytes))
disk_wrote o p disk offset bytes b w h = record { from_log = from_more disk.outside (WroteOne offset bytes) h.from_log; within = w; bytes = over_bytes disk.outside.file offset bytes h.bytes b }

-- what is copied differs
no_copy : (source to : Outside) (offset : ℕ) (bytes : List ℕ) → IsCopy source to offset bytes → to.file ≡ source.file → ⊥
no_copy source to offset bytes c e =
    let l : length to.file ≡ length source.file = ap length e in
    c.differs offset (omega arith) (omega (arith, c.some)) (omega (arith, l, c.within, c.some)) (ap (λ file. get_or file offset 0) e)

copy_opening : (disk : Half) (setup : Setup) (first : Bool) (o : Outside) (j : Joint) (offset : ℕ) (bytes : List ℕ) → Holds o j → j.stage ≡ Opening setup first → OpeningHolds first o j → AreBytes bytes → IsCopying j disk offset bytes →
    Holds o (record j { outside = pair_after j.outside (Wrote disk offset bytes); stage = Opening setup first })
copy_opening First setup first o j offset bytes h e s b c = record {
  from_log = h.from_log;
  first = disk_wrote o o j.outside.first offset bytes b (λ l. within_copied o j.outside.second.outside j.outside.first.outside offset bytes (h.second.within c.other) (h.first.within c.there) (sound_from j.outside.second.outside h.second.from_log) (sound_from j.outside.first.outside h.first.from_log) c.copy) h.first;
  second = h.second;
  stage = record { first_flushed = λ f. absurd (never (s.first_copied f)); second_flushed = λ f. absurd (never (s.second_copied f)); first_copied = λ f. absurd (never (s.first_copied f)); second_copied = λ f. absurd (never (s.second_copied f)); empty = s.empty; fresh = s.fresh };
}
  where
    never : AreCopied j.outside → ⊥
    never copied = no_copy j.outside.second.outside j.outside.first.outside offset bytes c.copy (copied c.there c.other)
copy_opening Second setup first o j offset bytes h e s b c = record {
  from_log = h.from_log;
  first = h.first;
  second = disk_wrote o o j.outside.second offset bytes b (λ l. within_copied o j.outside.first.outside j.outside.second.outside offset bytes (h.first.within c.other) (h.second.within c.there) (sound_from j.outside.first.outside h.first.from_log) (sound_from j.outside.second.outside h.second.from_log) c.copy) h.second;
  stage = record { first_flushed = λ f. absurd (never (s.first_copied f)); second_flushed = λ f. absurd (never (s.second_copied f)); first_copied = λ f. absurd (never (s.first_copied f)); second_copied = λ f. absurd (never (s.second_copied f)); empty = s.empty; fresh = s.fresh };
}
  where
    never : AreCopied j.outside → ⊥
    never copied = no_copy j.outside.first.outside j.outside.second.outside offset bytes c.copy (sym (copied c.other c.there))

-- what the second disk owes after a write on the first
owes_by : (lost : Bool) (o d : Outside) (write : Write) → lost ≡ false → d.file ≡ o.file → Follows (outside_after o (WroteOne write.offset write.bytes)) d (owed_by lost write)
owes_by true o d write l e = no_false l
owes_by false o d write l e = record {
  file = ap (λ file. overwrite file write.offset write.bytes) e;
  covered = λ index un. (or_parts (covers index (record { offset = write.offset; size = length write.bytes })) (is_covered o.written index) un).0;
}

follows_none : (o d : Outside) (owed : Option Write) → owed ≡ None → Follows o d owed → d.file ≡ o.file
follows_none o d None e f = f
follows_none o d (Some write) e f = no_some write (sym e)

write_first : (o : Outside) (j : Joint) (offset : ℕ) (bytes : List ℕ) → Holds o j → j.stage ≡ Running → RunHolds o j → AreBytes bytes → IsResting j →
    Goes o (wrote_first (record j { outside = pair_after j.outside (Wrote First offset bytes); stage = Running }) (record { offset = offset; bytes = bytes }))
write_first o j offset bytes h e s b r = record {
  images = (tt, tt);
  holds = record {
    from_log = from_more o (WroteOne offset bytes) h.from_log;
    first = disk_wrote o (outside_after o (WroteOne offset bytes)) j.outside.first offset bytes b (λ l. within_both o j.outside.first.outside offset bytes (h.first.within l) (s.first_file l)) h.first;
    second = record { from_log = h.second.from_log; within = λ l. within_older o j.outside.second.outside offset bytes (h.second.within l); bytes = h.second.bytes };
    stage = record {
      first_file = λ l. ap (λ file. overwrite file offset bytes) (s.first_file l);
      second_file = λ l. owes_by j.outside.second.lost o j.outside.second.outside (record { offset = offset; bytes = bytes }) l (follows_none o j.outside.second.outside j.owed r.whole (s.second_file l));
      first_flushed = λ f. absurd (both_ways j.first_synced r.unsynced.first f);
      second_flushed = λ f. absurd (both_ways j.second_synced r.unsynced.second f);
      calm = λ write e. record { first = r.unsynced.first; second = r.unsynced.second };
      lines = record { tills = s.lines.tills; links = s.lines.links; next_till = s.lines.next_till };
    };
  };
}

-- the other half of a write
write_owed : (o : Outside) (j : Joint) (offset : ℕ) (bytes : List ℕ) → Holds o j → RunHolds o j → AreBytes bytes → IsUnsynced j → Follows o j.outside.second.outside (Some (record { offset = offset; bytes = bytes })) ⊎ (j.outside.second.lost ≡ true) →
    Goes o (nothing_gained (record { outside = pair_after j.outside (Wrote Second offset bytes); stage = Running; first_synced = j.first_synced; second_synced = j.second_synced; owed = None }))
write_owed o j offset bytes h s b u owes = record {
  images = tt;
  holds = record {
    from_log = h.from_log;
    first = h.first;
    second = disk_wrote o o j.outside.second offset bytes b (λ l. let w = owed l in within_caught_up o j.outside.second.outside offset bytes (h.second.within l) w.file w.covered) h.second;
    stage = record {
      first_file = s.first_file;
      second_file = λ l. (owed l).file;
      first_flushed = λ f. absurd (both_ways j.first_synced u.first f);
      second_flushed = λ f. absurd (both_ways j.second_synced u.second f);
      calm = λ write e. no_some write e;
      lines = record { tills = s.lines.tills; links = s.lines.links; next_till = s.lines.next_till };
    };
  };
}
  where
    owed : j.outside.second.lost ≡ false → Owes o j.outside.second.outside (record { offset = offset; bytes = bytes })
    owed l = elim owes [ inl f ↦ f | inr gone ↦ absurd (both_ways j.outside.second.lost l gone) ]

-- a write on the second disk alone
write_alone : (o : Outside) (j : Joint) (offset : ℕ) (bytes : List ℕ) → Holds o j → RunHolds o j → AreBytes bytes → j.outside.first.lost ≡ true → IsResting j →
    Goes o (record { turns = WroteOne offset bytes ∷ []; joint = record { outside = pair_after j.outside (Wrote Second offset bytes); stage = Running; first_synced = j.first_synced; second_synced = j.second_synced; owed = None } })
write_alone o j offset bytes h s b gone r = record {
  images = (tt, tt);
  holds = record {
    from_log = from_more o (WroteOne offset bytes) h.from_log;
    first = record { from_log = h.first.from_log; within = λ l. absurd (both_ways j.outside.first.lost l gone); bytes = h.first.bytes };
    second = disk_wrote o (outside_after o (WroteOne offset bytes)) j.outside.second offset bytes b (λ l. within_both o j.outside.second.outside offset bytes (h.second.within l) (same l)) h.second;
    stage = record {
      first_file = λ l. absurd (both_ways j.outside.first.lost l gone);
      second_file = λ l. ap (λ file. overwrite file offset bytes) (same l);
      first_flushed = λ f. absurd (both_ways j.first_synced r.unsynced.first f);
      second_flushed = λ f. absurd (both_ways j.second_synced r.unsynced.second f);
      calm = λ write e. no_some write e;
      lines = record { tills = s.lines.tills; links = s.lines.links; next_till = s.lines.next_till };
    };
  };
}
  where
    same : j.outside.second.lost ≡ false → j.outside.second.outside.file ≡ o.file
    same l = follows_none o j.outside.second.outside j.owed r.whole (s.second_file l)

write_second : (owed : Option Write) (o : Outside) (j : Joint) (offset : ℕ) (bytes : List ℕ) → j.owed ≡ owed → Holds o j → RunHolds o j → AreBytes bytes → IsUnsynced j → IsSecondHalf owed j offset bytes →
    Goes o (wrote_second owed (record { outside = pair_after j.outside (Wrote Second offset bytes); stage = Running; first_synced = j.first_synced; second_synced = j.second_synced; owed = owed }) (record { offset = offset; bytes = bytes }))
write_second None o j offset bytes e h s b u may = write_alone o j offset bytes h s b may (record { unsynced = u; whole = e })
write_second (Some write) o j offset bytes e h s b u may = write_owed o j offset bytes h s b u owing
  where
    whole : (l : j.outside.second.lost ≡ false) → Owes o j.outside.second.outside write
    whole l = rw e at (s.second_file l)

    owing : Follows o j.outside.second.outside (Some (record { offset = offset; bytes = bytes })) ⊎ (j.outside.second.lost ≡ true)
    owing = elim (cases_Bool j.outside.second.lost) [ inl gone ↦ inr gone | inr here ↦ inl (record { file = rw (sym may.0, sym may.1) (whole here).file; covered = λ index un. rw (sym may.0, sym may.1) ((whole here).covered index un) }) ]

goes_wrote : (stage : MirrorStage) (disk : Half) (o : Outside) (j : Joint) (offset : ℕ) (bytes : List ℕ) → j.stage ≡ stage → Holds o j → StageHolds stage o j → AreBytes bytes → MayWrite stage disk j offset bytes →
    Goes o (wrote_at stage disk (record j { outside = pair_after j.outside (Wrote disk offset bytes); stage = stage }) (record { offset = offset; bytes = bytes }))
goes_wrote AtFirst disk o j offset bytes e h s b may = absurd may
goes_wrote Between disk o j offset bytes e h s b may = absurd may
goes_wrote (Opening setup first) disk o j offset bytes e h s b may = goes_nothing o (record j { outside = pair_after j.outside (Wrote disk offset bytes); stage = Opening setup first }) (copy_opening disk setup first o j offset bytes h e s b may)
goes_wrote Running First o j offset bytes e h s b may = write_first o j offset bytes h e s b may
goes_wrote Running Second o j offset bytes e h s b may = write_second j.owed o j offset bytes refl h s b may.0 may.1

-- ---- syncs and losses

disk_synced : (o : Outside) (disk : Disk) → DiskHolds o disk → DiskHolds o (disk_after disk SyncedOne)
disk_synced o disk h = record { from_log = from_more disk.outside SyncedOne h.from_log; within = λ l. within_synced o disk.outside (h.within l) (sound_from disk.outside h.from_log); bytes = h.bytes }

sync_stage : (stage : MirrorStage) (disk : Half) (o : Outside) (j : Joint) → StageHolds stage o j → MaySync stage j → StageHolds stage o (with_synced (record j { outside = pair_after j.outside (Synced disk) }) disk)
sync_stage AtFirst disk o j s may = absurd may
sync_stage Between disk o j s may = absurd may
sync_stage (Opening setup first) First o j s may = record { first_flushed = λ e. record { stable = refl; written = refl }; second_flushed = s.second_flushed; first_copied = λ e. may; second_copied = s.second_copied; empty = s.empty; fresh = s.fresh }
sync_stage (Opening setup first) Second o j s may = record { first_flushed = s.first_flushed; second_flushed = λ e. record { stable = refl; written = refl }; first_copied = s.first_copied; second_copied = λ e. may; empty = s.empty; fresh = s.fresh }
sync_stage Running First o j s may = record {
  first_file = s.first_file;
  second_file = s.second_file;
  first_flushed = λ e. record { stable = refl; written = refl };
  second_flushed = s.second_flushed;
  calm = λ write e. no_some write (sym may ∙ e);
  lines = s.lines;
}
sync_stage Running Second o j s may = record {
  first_file = s.first_file;
  second_file = λ l. synced_follows j.owed may (s.second_file l);
  first_flushed = s.first_flushed;
  second_flushed = λ e. record { stable = refl; written = refl };
  calm = λ write e. no_some write (sym may ∙ e);
  lines = s.lines;
}
  where
    synced_follows : (owed : Option Write) → owed ≡ None → Follows o j.outside.second.outside owed → Follows o (outside_after j.outside.second.outside SyncedOne) owed
    synced_follows None e f = f
    synced_follows (Some write) e f = no_some write (sym e)

goes_sync : (disk : Half) (o : Outside) (j : Joint) → Holds o j → MaySync j.stage j → Goes o (gained j (Synced disk))
goes_sync First o j h may = goes_settled o (with_synced (record j { outside = pair_after j.outside (Synced First) }) First)
    (record { from_log = h.from_log; first = disk_synced o j.outside.first h.first; second = h.second; stage = sync_stage j.stage First o j h.stage may })
goes_sync Second o j h may = goes_settled o (with_synced (record j { outside = pair_after j.outside (Synced Second) }) Second)
    (record { from_log = h.from_log; first = h.first; second = disk_synced o j.outside.second h.second; stage = sync_stage j.stage Second o j h.stage may })

disk_gone : (o : Outside) (disk : Disk) → DiskHolds o disk → DiskHolds o (record { outside = disk.outside; lost = true })
disk_gone o disk h = record { from_log = h.from_log; within = λ l. no_false l; bytes = h.bytes }

lose_stage : (stage : MirrorStage) (disk : Half) (o : Outside) (j : Joint) → StageHolds stage o j → MayLose stage disk j → StageHolds stage o (record j { outside = pair_after j.outside (Lost disk) })
lose_stage AtFirst disk o j s may = absurd may
lose_stage Between disk o j s may = tt
lose_stage (Opening setup first) First o j s may = record { first_flushed = s.first_flushed; second_flushed = s.second_flushed; first_copied = λ e l m. no_false l; second_copied = λ e l m. no_false l; empty = s.empty; fresh = s.fresh }
lose_stage (Opening setup first) Second o j s may = record { first_flushed = s.first_flushed; second_flushed = s.second_flushed; first_copied = λ e l m. no_false m; second_copied = λ e l m. no_false m; empty = s.empty; fresh = s.fresh }
lose_stage Running First o j s may = record { first_file = λ l. no_false l; second_file = s.second_file; first_flushed = s.first_flushed; second_flushed = s.second_flushed; calm = λ write e. record { first = (s.calm write e).first; second = (s.calm write e).second }; lines = s.lines }
lose_stage Running Second o j s may = record { first_file = s.first_file; second_file = λ l. no_false l; first_flushed = s.first_flushed; second_flushed = s.second_flushed; calm = λ write e. record { first = (s.calm write e).first; second = (s.calm write e).second }; lines = s.lines }

goes_lost : (disk : Half) (o : Outside) (j : Joint) → Holds o j → MayLose j.stage disk j → Goes o (gained j (Lost disk))
goes_lost First o j h may = goes_settled o (record j { outside = pair_after j.outside (Lost First) })
    (record { from_log = h.from_log; first = disk_gone o j.outside.first h.first; second = h.second; stage = lose_stage j.stage First o j h.stage may })
goes_lost Second o j h may = goes_settled o (record j { outside = pair_after j.outside (Lost Second) })
    (record { from_log = h.from_log; first = h.first; second = disk_gone o j.outside.second h.second; stage = lose_stage j.stage Second o j h.stage may })

-- ---- each turn, and all

pub goes_turn : (o : Outside) (j : Joint) (turn : Turn2) → Holds o j → MayCome j turn → Goes o (gained j turn)
goes_turn o j (Line turn) h may = goes_line o j turn h may
goes_turn o j (Wrote disk offset bytes) h may = goes_wrote j.stage disk o j offset bytes refl h h.stage may.0 may.1
goes_turn o j (Synced disk) h may = goes_sync disk o j h may.1
goes_turn o j (Lost disk) h may = goes_lost disk o j h may
goes_turn o j (Crash first second) h may = goes_crash o j first second h may
