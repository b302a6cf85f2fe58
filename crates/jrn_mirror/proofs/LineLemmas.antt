-- The calls of a run on the lines.
use Rattle.std.proofs.Common.{◌≡◌, ℕ, List, [], ◌∷◌, refl, sym, ap, subst, inl, inr}
use Rattle.std.proofs.lemmas.Bool.{cases_Bool, both_ways}
use Rattle.std.specs.Prelude.{Bool, true, false, not, Some, Result, Ok, Err, IsErr}
use Rattle.gw_site.specs.Outside.{Outside, outside_of, outside_after}
use Rattle.gw_site.specs.Observed.{Grows, IfObserved}
use Rattle.gw_site.specs.Turns.{PolledTurns, IsPromised, SentTillTurns, SentPtTurns, LinkTurns, event_turns}
use Rattle.gw_site.specs.declared.site.Polled.{Polled as PollResult}
use Rattle.gw_site.specs.declared.site.Failed.{Failed}
use Rattle.gw_site.specs.declared.site.What.{What}
use Rattle.gw_site.specs.declared.site.What.TheVariants.{TillOpened, TillBytes, TillClosed, PtBytes, PtClosed, Nothing, Stopped as StoppedEvent}
use Rattle.gw_site.specs.declared.turn.Turn.{Turn}
use Rattle.gw_site.specs.declared.turn.Turn.TheVariants.{Start, OpenFailed, Polled, Opened, HeardTill, Closed, HeardPt, Lost as LostLine, Stopped, Linked, LinkFailed, SentTill, SentPt, CutTill, CutPt, Wrote as WroteOne, Synced as SyncedOne, DiskFailed, Crash as CrashOne}
use Rattle.jrn_mirror.specs.declared.turn.Turn2.{Turn2}
use Rattle.jrn_mirror.specs.declared.turn.Turn2.TheVariants.{Line}
use Rattle.jrn_mirror.specs.PairOutside.{pair_outside_of}
use Rattle.jrn_mirror.specs.One.{Joint, one, joint_of}
use Rattle.jrn_mirror.specs.PairObserved.{PairObserved, IfLogged, PairGrows, LineTurns, lines_of}
use Rattle.jrn_mirror.specs.MirrorObserved.{mirror_observed, IsRunOf, MirrorSound}
use Rattle.jrn_mirror.proofs.RunLemmas.{Makes, run_joint, run_is}
use Rattle.jrn_mirror.proofs.OneLemmas.{lines_are_one}
use Rattle.jrn_mirror.proofs.OutsideLemmas.{joint_has_outside}
use Rattle.jrn_mirror.proofs.MirrorLemmas.{logged-one, grows-made, leaves-made}

-- the turn is one of the lines within a run
abbrev pub IsLine : Turn → Type 0
IsLine (Start setup) = ⊥
IsLine OpenFailed = ⊥
IsLine (Polled now) = Unit {0}
IsLine (Opened till) = Unit {0}
IsLine (HeardTill till bytes) = Unit {0}
IsLine (Closed till) = Unit {0}
IsLine (HeardPt pt bytes) = Unit {0}
IsLine (LostLine pt) = Unit {0}
IsLine Stopped = Unit {0}
IsLine (Linked pt) = Unit {0}
IsLine (LinkFailed pt) = Unit {0}
IsLine (SentTill till bytes ok) = Unit {0}
IsLine (SentPt pt bytes ok) = Unit {0}
IsLine (CutTill till) = Unit {0}
IsLine (CutPt pt) = Unit {0}
IsLine (WroteOne offset bytes) = ⊥
IsLine SyncedOne = ⊥
IsLine DiskFailed = ⊥
IsLine (CrashOne file) = ⊥

abbrev pub AreLines : List Turn → Type 0
AreLines [] = Unit {0}
AreLines (turn ∷ turns) = IsLine turn × AreLines turns

left : (lines a b : Outside) (first second : Bool) → IsRunOf first second (run_joint lines a (not first) b (not second))
left lines a b first second = record { run = record { stage = refl; resting = record { unsynced = record { first = refl; second = refl }; whole = refl } }; first_is = refl; second_is = refl }

-- one more line
one_line : (lines a b : Outside) (first second : Bool) (turn : Turn) (rest : List Turn2) (ones : List Turn) → IsLine turn → ((after : Outside) → Makes (run_joint after a (not first) b (not second)) rest ones first second) → Makes (run_joint lines a (not first) b (not second)) (Line turn ∷ rest) (turn ∷ ones) first second
one_line lines a b first second (Start setup) rest ones l m = absurd l
one_line lines a b first second OpenFailed rest ones l m = absurd l
one_line lines a b first second (Polled now) rest ones l m = let n = m (outside_after lines (Polled now)) in record { may = ((left lines a b first second).run, n.may); ones_are = ap (λ xs. Polled now ∷ xs) n.ones_are; left = n.left }
one_line lines a b first second (Opened till) rest ones l m = let n = m (outside_after lines (Opened till)) in record { may = ((left lines a b first second).run, n.may); ones_are = ap (λ xs. Opened till ∷ xs) n.ones_are; left = n.left }
one_line lines a b first second (HeardTill till bytes) rest ones l m = let n = m (outside_after lines (HeardTill till bytes)) in record { may = ((left lines a b first second).run, n.may); ones_are = ap (λ xs. HeardTill till bytes ∷ xs) n.ones_are; left = n.left }
one_line lines a b first second (Closed till) rest ones l m = let n = m (outside_after lines (Closed till)) in record { may = ((left lines a b first second).run, n.may); ones_are = ap (λ xs. Closed till ∷ xs) n.ones_are; left = n.left }
one_line lines a b first second (HeardPt pt bytes) rest ones l m = let n = m (outside_after lines (HeardPt pt bytes)) in record { may = ((left lines a b first second).run, n.may); ones_are = ap (λ xs. HeardPt pt bytes ∷ xs) n.ones_are; left = n.left }
one_line lines a b first second (LostLine pt) rest ones l m = let n = m (outside_after lines (LostLine pt)) in record { may = ((left lines a b first second).run, n.may); ones_are = ap (λ xs. LostLine pt ∷ xs) n.ones_are; left = n.left }
one_line lines a b first second Stopped rest ones l m = let n = m (outside_after lines Stopped) in record { may = ((left lines a b first second).run, n.may); ones_are = ap (λ xs. Stopped ∷ xs) n.ones_are; left = n.left }
one_line lines a b first second (Linked pt) rest ones l m = let n = m (outside_after lines (Linked pt)) in record { may = ((left lines a b first second).run, n.may); ones_are = ap (λ xs. Linked pt ∷ xs) n.ones_are; left = n.left }
one_line lines a b first second (LinkFailed pt) rest ones l m = let n = m (outside_after lines (LinkFailed pt)) in record { may = ((left lines a b first second).run, n.may); ones_are = ap (λ xs. LinkFailed pt ∷ xs) n.ones_are; left = n.left }
one_line lines a b first second (SentTill till bytes ok) rest ones l m = let n = m (outside_after lines (SentTill till bytes ok)) in record { may = ((left lines a b first second).run, n.may); ones_are = ap (λ xs. SentTill till bytes ok ∷ xs) n.ones_are; left = n.left }
one_line lines a b first second (SentPt pt bytes ok) rest ones l m = let n = m (outside_after lines (SentPt pt bytes ok)) in record { may = ((left lines a b first second).run, n.may); ones_are = ap (λ xs. SentPt pt bytes ok ∷ xs) n.ones_are; left = n.left }
one_line lines a b first second (CutTill till) rest ones l m = let n = m (outside_after lines (CutTill till)) in record { may = ((left lines a b first second).run, n.may); ones_are = ap (λ xs. CutTill till ∷ xs) n.ones_are; left = n.left }
one_line lines a b first second (CutPt pt) rest ones l m = let n = m (outside_after lines (CutPt pt)) in record { may = ((left lines a b first second).run, n.may); ones_are = ap (λ xs. CutPt pt ∷ xs) n.ones_are; left = n.left }
one_line lines a b first second (WroteOne offset bytes) rest ones l m = absurd l
one_line lines a b first second SyncedOne rest ones l m = absurd l
one_line lines a b first second DiskFailed rest ones l m = absurd l
one_line lines a b first second (CrashOne file) rest ones l m = absurd l

lines_make : (turns : List Turn) (lines a b : Outside) (first second : Bool) → AreLines turns → Makes (run_joint lines a (not first) b (not second)) (lines_of turns) turns first second
lines_make [] lines a b first second l = record { may = tt; ones_are = refl; left = left lines a b first second }
lines_make (turn ∷ turns) lines a b first second l = one_line lines a b first second turn (lines_of turns) turns l.0 (λ after. lines_make turns after a b first second l.1)

pub run_lines : (j : Joint) (turns : List Turn) (first second : Bool) → AreLines turns → IsRunOf first second j → Makes j (lines_of turns) turns first second
run_lines j turns first second l r = subst (λ x. Makes x (lines_of turns) turns first second) (sym (run_is first second j r)) (lines_make turns j.outside.lines j.outside.first.outside j.outside.second.outside first second l)

-- ---- each call's turns are lines

pub event_lines : (what : What) (buf : List ℕ) → AreLines (event_turns what buf)
event_lines (TillOpened till) buf = (tt, tt)
event_lines (TillBytes till count) buf = (tt, tt)
event_lines (TillClosed till) buf = (tt, tt)
event_lines (PtBytes pt count) buf = (tt, tt)
event_lines (PtClosed pt) buf = (tt, tt)
event_lines Nothing buf = tt
event_lines StoppedEvent buf = (tt, tt)

pub polled_lines : (result : PollResult) (buf : List ℕ) (turns : List Turn) → PolledTurns result buf turns → AreLines turns
polled_lines result buf turns e = rw e (tt, event_lines result.what buf)

pub sent_till_lines : {E : Type 0} (till : ℕ) (bytes : List ℕ) (result : Result (Unit {0}) E) (turns : List Turn) → SentTillTurns till bytes result turns → AreLines turns
sent_till_lines till bytes (Ok done) turns e = rw e (tt, tt)
sent_till_lines till bytes (Err failed) turns e = rw e.2 (tt, tt)

pub sent_pt_lines : {E : Type 0} (pt : ℕ) (bytes : List ℕ) (result : Result (Unit {0}) E) (turns : List Turn) → SentPtTurns pt bytes result turns → AreLines turns
sent_pt_lines pt bytes (Ok done) turns e = rw e (tt, tt)
sent_pt_lines pt bytes (Err failed) turns e = rw e.2 (tt, tt)

pub link_lines : {E : Type 0} (pt : ℕ) (result : Result (Unit {0}) E) (turns : List Turn) → LinkTurns pt result turns → AreLines turns
link_lines pt (Ok done) turns e = rw e (tt, tt)
link_lines pt (Err failed) turns e = rw e (tt, tt)

-- ---- a call on the lines

pub line-turns : (old new : PairObserved) (faults later : ℕ) (first second opened broken : Bool) (Call : List Turn → Type 0) → MirrorSound old first second opened broken → opened ≡ true → PairGrows old new (LineTurns Call) → ((turns : List Turn) → Call turns → AreLines turns) →
    Grows (mirror_observed old faults broken) (mirror_observed new later broken) Call
line-turns old new faults later first second opened broken Call sound o grows are =
    rw (sound.whole o) (grows-made old new faults later (LineTurns Call) Call grows (λ turns l. (l.0, l.1))
    (λ d log e turns l. rw (l.2, (run_lines (joint_of log) l.0 first second (are l.0 l.1) (sound.in_run d o log e)).ones_are) l.1))

pub line-sound : (old new : PairObserved) (first second opened broken : Bool) (Call : List Turn → Type 0) → MirrorSound old first second opened broken → opened ≡ true → PairGrows old new (LineTurns Call) → ((turns : List Turn) → Call turns → AreLines turns) →
    MirrorSound new first second opened broken
line-sound old new first second opened broken Call sound o grows are =
    let l = leaves-made old new (LineTurns Call) first second grows sound.mirrored (λ d log e turns l. rw l.2 (let m = run_lines (joint_of log) l.0 first second (are l.0 l.1) (sound.in_run d o log e) in (m.may, m.left))) in
    record {
      mirrored = l.mirrored;
      may_open = λ d n b. absurd (both_ways opened n o);
      in_run = λ d p. l.in_run d;
      whole = sound.whole;
      first_gone = λ d f. grows.first_stays (sound.first_gone (lit d) f);
      second_gone = λ d f. grows.second_stays (sound.second_gone (lit d) f);
    }
  where
    lit : new.dark ≡ false → old.dark ≡ false
    lit d = elim (cases_Bool old.dark) [ inl off ↦ absurd (both_ways new.dark d (grows.stays off)) | inr on ↦ on ]

-- what the pair promises of an event holds of the one log
pub line-promise : (old : PairObserved) (faults : ℕ) (first second opened broken : Bool) (what : What) → MirrorSound old first second opened broken → opened ≡ true → (old.dark ≡ true → what ≡ StoppedEvent) → IfLogged old (λ log. IsPromised (pair_outside_of log).lines what) →
    IfObserved (mirror_observed old faults broken) (λ log. IsPromised (outside_of log) what)
line-promise old faults first second opened broken what sound o stopped promise = λ before e. logged before (logged-one old.log before e)
  where
    logged : (before : List Turn) → (two : List Turn2) × (old.log ≡ Some two) × (one two ≡ before) → IsPromised (outside_of before) what
    logged before t = elim (cases_Bool old.dark) [
      | inl off ↦ rw (stopped off) tt
      | inr on ↦
          (let p : IsPromised (joint_of t.0).outside.lines what = rw (joint_has_outside t.0) (promise t.0 t.1) in
          rw (sym t.2) (lines_are_one t.0 (sound.mirrored t.0 t.1) (sound.in_run on o t.0 t.1).run what p))
    ]

-- a call fails so, which takes nothing
pub failed_till : (till : ℕ) (bytes : List ℕ) (result : Result (Unit {0}) Failed) → IsErr result → SentTillTurns till bytes result (SentTill till [] false ∷ [])
failed_till till bytes (Ok done) e = absurd (let h : false ≡ true = e in cc)
failed_till till bytes (Err failed) e = ([], (bytes, refl), refl)

pub failed_pt : (pt : ℕ) (bytes : List ℕ) (result : Result (Unit {0}) Failed) → IsErr result → SentPtTurns pt bytes result (SentPt pt [] false ∷ [])
failed_pt pt bytes (Ok done) e = absurd (let h : false ≡ true = e in cc)
failed_pt pt bytes (Err failed) e = ([], (bytes, refl), refl)

pub failed_link : (pt : ℕ) (result : Result (Unit {0}) Failed) → IsErr result → LinkTurns pt result (LinkFailed pt ∷ [])
failed_link pt (Ok done) e = absurd (let h : false ≡ true = e in cc)
failed_link pt (Err failed) e = refl
