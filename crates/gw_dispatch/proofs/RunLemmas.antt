-- How a run ends, by the opening of its site, that of its records, and its rounds.
use Rattle.std.proofs.Common.{◌≡◌, ◌≤◌, ◌∙◌, ℕ, Bool, true, false, List, [], ◌∷◌, ◌++◌, Some, refl, ap, subst, sym, inl, inr, append-nil, append_assoc, arith, length}
use Rattle.std.specs.Prelude.{Result, Ok, Err}
use Rattle.gw_base.specs.declared.setup.Setup.{Setup}
use Rattle.gw_site.specs.Observed.{AddedWhole, GrowsBy, GrowsWhole, IfObserved, Observed}
use Rattle.gw_site.specs.Outside.{Outside, outside_of}
use Rattle.gw_site.specs.Turns.{OpenTurns}
use Rattle.gw_site.specs.declared.turn.Turn.{Turn}
use Rattle.gw_site.specs.declared.turn.Turn.TheVariants.{OpenFailed, Start, Crash}
use Rattle.gw_site.proofs.OutsideLemmas.{outside_of-append}
use Rattle.jrn_record.specs.declared.records.Record.{Record}
use Rattle.gw_ledger.specs.Sums.{tally_of}
use Rattle.gw_ledger.specs.declared.totals.Tally.{Tally}
use Rattle.gw_rules.specs.Acts.{Unmeasured, Looked}
use Rattle.gw_rules.specs.Triple.{IsOwedBy, JustBegun, RunTriple, Triple, TripleBy}
use Rattle.gw_rules.specs.View.{View}
use Rattle.gw_rules.proofs.ActLemmas.{join-due, owed-due}
use Rattle.gw_rules.proofs.TripleLemmas.{triple-after, triple-due, triples-then}
use Rattle.gw_dispatch.specs.RecordsOpening.{HasOpened, HoldsFile, IsExactlyBad, IsExactlyCut, IsExactlyRefused, OpenedBy, OpensBy, UnopenedBy}
use Rattle.gw_dispatch.specs.Growth.{AddsPolls, EndsForMemory, EndsForMemorySince, GoesOnByCalls, PollsToEnd, polls_in}
use Rattle.gw_dispatch.specs.RunEnd.{EndedBy, EndsByFound, HasBegun, EndsRounds, IsDueFrom, IsEndByFile, KeptBy, NoneBegan, TalliedBy, end_by}
use Rattle.gw_dispatch.specs.declared.engine.Ended.{Ended}
use Rattle.gw_dispatch.specs.declared.engine.TalliedEnd.{TalliedEnd}
use Rattle.gw_dispatch.specs.declared.engine.Ended.TheVariants.{Done, NotOpened, Disk, TooLong, Cut, BadRecord, NoMemory}
use Rattle.gw_dispatch.specs.declared.records.Records.{Records}
use Rattle.gw_dispatch.specs.declared.records.Unopened.{Unopened}
use Rattle.gw_dispatch.specs.declared.records.Unopened.TheVariants.{Disk as DiskCause, TooLong as TooLongCause, Cut as CutCause, BadRecord as BadRecordCause, Memory as MemoryCause}
use Rattle.gw_dispatch.proofs.GrowthLemmas.{adds-then, calls-for-memory, unpolled-then-end}

-- ---- the ends

-- where the records are opened, no cause of theirs ends the run
pub run-by-file : (slots : ℕ) (file : List ℕ) (records : Records) (ended : Ended) → EndsRounds ended → HoldsFile slots file records → IsExactlyRefused {T = Records} slots file (Ok records) → IsEndByFile slots file ended
run-by-file slots file records Done h holds refused = record { records = records.ledger.records; has = holds.has; fits = λ r. absurd (let e : Ok records ≡ Err (TooLongCause (length file)) = (refused tt (length file)).1 (refl, r) in cc) }
run-by-file slots file records NotOpened h holds refused = tt
run-by-file slots file records Disk h holds refused = tt
run-by-file slots file records (TooLong count) h holds refused = absurd h
run-by-file slots file records (Cut slot) h holds refused = absurd h
run-by-file slots file records (BadRecord slot) h holds refused = absurd h
run-by-file slots file records NoMemory h holds refused = tt

pub run-has-begun : (ended : Ended) → EndsRounds ended → HasBegun ended
run-has-begun Done h = h
run-has-begun NotOpened h = h
run-has-begun Disk h = tt
run-has-begun (TooLong count) h = tt
run-has-begun (Cut slot) h = tt
run-has-begun (BadRecord slot) h = tt
run-has-begun NoMemory h = h

pub cause-has-begun : (cause : Unopened) → HasBegun (end_by cause)
cause-has-begun DiskCause = tt
cause-has-begun (TooLongCause count) = tt
cause-has-begun (CutCause slot) = tt
cause-has-begun (BadRecordCause slot) = tt
cause-has-begun MemoryCause = tt

pub begun-opened : (ended : Ended) → HasBegun ended → ended ≡ NotOpened → ⊥
begun-opened ended h e = subst HasBegun e h

pub disk-cause : (cause : Unopened) → end_by cause ≡ Disk → cause ≡ DiskCause
disk-cause DiskCause e = refl
disk-cause (TooLongCause count) e = absurd (cc)
disk-cause (CutCause slot) e = absurd (cc)
disk-cause (BadRecordCause slot) e = absurd (cc)
disk-cause MemoryCause e = absurd (cc)

pub cause-undone : (cause : Unopened) → end_by cause ≡ Done → ⊥
cause-undone DiskCause e = cc
cause-undone (TooLongCause count) e = cc
cause-undone (CutCause slot) e = cc
cause-undone (BadRecordCause slot) e = cc
cause-undone MemoryCause e = cc

-- what the cause says of the file, the end says
pub cause-by-file : (slots : ℕ) (file : List ℕ) (cause : Unopened) → IsExactlyRefused {T = Records} slots file (Err cause) → IsExactlyCut {T = Records} slots file (Err cause) → IsExactlyBad {T = Records} slots file (Err cause)
    → IsEndByFile slots file (end_by cause)
cause-by-file slots file DiskCause refused cut bad = tt
cause-by-file slots file (TooLongCause count) refused cut bad = (refused (λ e. e) count).0 refl
cause-by-file slots file (CutCause slot) refused cut bad = (cut (λ e. e) slot).0 refl
cause-by-file slots file (BadRecordCause slot) refused cut bad = (bad (λ e. e) slot).0 refl
cause-by-file slots file MemoryCause refused cut bad = tt

-- ---- the records and the rounds

-- nothing is said of the tally where a run isn't done
pub undone-tallied : (end : TalliedEnd) (most : ℕ) (v : View) → (end.ended ≡ Done → ⊥) → EndedBy end.ended most v → TalliedBy end most v
undone-tallied end most v undone by = record { ended_by = by; tally = λ done. absurd (undone done) }

-- the tally is that of the ledger, whose records are kept
pub kept-tallied : (ended : Ended) (tally : Tally) (records : List Record) (most : ℕ) (v : View) → tally ≡ tally_of records → KeptBy ended records most v → TalliedBy (record { ended = ended; tally = tally }) most v
kept-tallied ended tally records most v is k = record { ended_by = k.ended_by; tally = λ done. is ∙ ap tally_of (sym (k.kept done)) }

-- after one run at most something weaker is so
pub run-weaker : (own : Setup) (old new : Observed) (Shape : List Turn → Type 0) (Q R : View → Type 0) → ((v : View) → Q v → R v) → RunTriple own old new Shape Q → RunTriple own old new Shape R
run-weaker own old new Shape Q R weaker runs = record {
  observed = λ before v e s clear.
      let r = runs.observed before v e s clear in
      record { moves = r.moves; log_is = r.log_is; lawful = r.lawful; shape = r.shape; done = r.done; none = r.none; owed = λ lit. weaker _ (r.owed lit) };
  unobserved = runs.unobserved;
  origin = runs.origin;
}

-- what is left where no records were opened is how the run ends
unopened-ends : (cause : Unopened) (most : ℕ) (v : View) → UnopenedBy cause v → EndedBy (end_by cause) most v
unopened-ends DiskCause most v h = h
unopened-ends (TooLongCause count) most v h = h
unopened-ends (CutCause slot) most v h = h
unopened-ends (BadRecordCause slot) most v h = h
unopened-ends MemoryCause most v h = h

pub unopened-run : (own : Setup) (old new : Observed) (cause : Unopened) (end : TalliedEnd) (most : ℕ) → end.ended ≡ end_by cause → TripleBy (OpensBy {T = Records} own (Err cause)) old new (JustBegun own) (OpenedBy own (Err cause)) → TripleBy (IsDueFrom own Unmeasured) old new (JustBegun own) (TalliedBy end most)
unopened-run own old new cause end most e x = triple-after _ _ _ _ _ x (λ v q. undone-tallied end most v (λ done. cause-undone cause (sym e ∙ done)) (subst (λ ended. EndedBy ended most v) (sym e) (unopened-ends cause most v q)))

-- what is owed is due where no more need be looked at
owed-from : (own : Setup) (mid new : Observed) (P Q : View → Type 0) → Triple mid new P Q → TripleBy (IsDueFrom own Looked) mid new P Q
owed-from own mid new P Q k = triple-due IsOwedBy (IsDueFrom own Looked) mid new P Q (λ dark v acts h. owed-due own v acts h) k

-- the records are opened, and then come the rounds
pub opened-run : (own : Setup) (old mid new : Observed) (records : Records) (most : ℕ) (end : TalliedEnd) → TripleBy (OpensBy {E = Unopened} own (Ok records)) old mid (JustBegun own) (OpenedBy own (Ok records)) → Triple mid new (HasOpened own records) (TalliedBy end most)
    → TripleBy (IsDueFrom own Unmeasured) old new (JustBegun own) (TalliedBy end most)
opened-run own old mid new records most end x k =
    triples-then old mid new (JustBegun own) (HasOpened own records) (TalliedBy end most) (join-due own Unmeasured Looked) x (owed-from own mid new (HasOpened own records) (TalliedBy end most) k)

-- ---- the site

-- the site was not opened
pub none-began : {E : Type 0} (fault : E) (own : Setup) (old new : Observed) → GrowsWhole old new (OpenTurns own (Err fault)) → IfObserved old (λ before. NoneBegan before new)
none-began fault own old new grows before e =
    let x = grows.observed before e in
    by_dark old.dark new.dark x.0 x.1 refl x.2 x.3 x.4
  where
    by_dark : (d n : Bool) (turns added : List Turn) → new.dark ≡ n → turns ≡ OpenFailed ∷ [] → AddedWhole d n turns added → new.log ≡ Some (before ++ added) → NoneBegan before new
    by_dark true true turns added dark t a log = inr (dark, log ∙ ap (λ more. Some (before ++ more)) a ∙ ap Some (append-nil before))
    by_dark true false turns added dark t a log = absurd a
    by_dark false true turns added dark t (inl a) log = inr (dark, log ∙ ap (λ more. Some (before ++ more)) a ∙ ap Some (append-nil before))
    by_dark false true turns added dark t (inr a) log = inl (log ∙ ap (λ more. Some (before ++ more)) (a ∙ t))
    by_dark false false turns added dark t a log = inl (log ∙ ap (λ more. Some (before ++ more)) (a ∙ t))

-- its log is observed then
pub opened-observed : {Add : Bool → Bool → List Turn → List Turn → Type 0} {Call : List Turn → List Turn → Type 0} {P : Type 0} (old mid : Observed) → GrowsBy Add old mid Call → IfObserved mid (λ log. P) → IfObserved old (λ log. P)
opened-observed old mid grows holds before e = let x = grows.observed before e in holds (before ++ x.1) x.4

-- the file that is found once it was opened
pub found : (E : Type 0) (slots most : ℕ) (own : Setup) (old mid new : Observed) (ended : Ended) → GrowsWhole old mid (OpenTurns {E = E} own (Ok tt)) → IfObserved mid (λ log. IsEndByFile slots (outside_of log).file ended)
    → IfObserved mid (λ log. AddsPolls most log new) → IfObserved old (λ before. EndsByFound slots before new ended)
found E slots most own old mid new ended grows ends adds before e =
    let x = grows.observed before e in
    by_dark old.dark mid.dark x.0 x.1 x.2 x.3 x.4
  where
    still : mid.log ≡ Some (before ++ []) → EndsByFound slots before new ended
    still log = record { file = (outside_of before).file; found = inl refl; ends = subst (λ l. IsEndByFile slots (outside_of l).file ended) (append-nil before) (ends (before ++ []) log); began = inl refl }

    begun : (turns : List Turn) → OpenTurns {E = E} own (Ok tt) before turns → mid.log ≡ Some (before ++ turns) → EndsByFound slots before new ended
    begun turns (inl t) log = record {
      file = (outside_of before).file;
      found = inl refl;
      ends = subst (λ (o : Outside). IsEndByFile slots o.file ended) (ap (λ l. outside_of (before ++ l)) t ∙ outside_of-append before (Start own ∷ [])) (ends (before ++ turns) log);
      began = inl refl;
    }
    begun turns (inr t) log = record {
      file = t.0;
      found = inr t.1;
      ends = subst (λ (o : Outside). IsEndByFile slots o.file ended) (ap (λ l. outside_of (before ++ l)) t.3 ∙ outside_of-append before (Crash t.0 ∷ Start own ∷ [])) (ends (before ++ turns) log);
      began = let a = adds (before ++ turns) log in inr (Start own ∷ a.0, a.1 ∙ ap Some (append_assoc before turns a.0 ∙ ap (λ l. before ++ (l ++ a.0)) t.3));
    }

    by_dark : (d n : Bool) (turns added : List Turn) → OpenTurns {E = E} own (Ok tt) before turns → AddedWhole d n turns added → mid.log ≡ Some (before ++ added) → EndsByFound slots before new ended
    by_dark true true turns added t a log = still (rw a at log)
    by_dark true false turns added t a log = absurd a
    by_dark false true turns added t (inl a) log = still (rw a at log)
    by_dark false true turns added t (inr a) log = begun turns t (rw a at log)
    by_dark false false turns added t a log = begun turns t (rw a at log)

-- an opening is no poll
opened-none : (E : Type 0) (own : Setup) (result : Result (Unit {0}) E) (before turns : List Turn) → OpenTurns own result before turns → polls_in turns ≡ 0
opened-none E own (Ok done) before turns (inl t) = ap polls_in t
opened-none E own (Ok done) before turns (inr t) = ap polls_in t.3
opened-none E own (Err failed) before turns t = ap polls_in t

whole-none : (d n : Bool) (turns added : List Turn) → AddedWhole d n turns added → polls_in turns ≡ 0 → polls_in added ≤ 0
whole-none true true turns added a none = let e = ap polls_in a in omega (arith, e)
whole-none true false turns added a none = absurd a
whole-none false true turns added (inl a) none = let e = ap polls_in a in omega (arith, e)
whole-none false true turns added (inr a) none = let e = ap polls_in a in omega (arith, e, none)
whole-none false false turns added a none = let e = ap polls_in a in omega (arith, e, none)

pub opened-polls : (E : Type 0) (own : Setup) (result : Result (Unit {0}) E) (most : ℕ) (old new : Observed) → GrowsWhole old new (OpenTurns own result) → IfObserved old (λ before. AddsPolls most before new)
opened-polls E own result most old new grows before e =
    let x = grows.observed before e in
    let none = whole-none old.dark new.dark x.0 x.1 x.3 (opened-none E own result before x.0 x.2) in
    (x.1, x.4, omega (arith, none))

-- and then come so many
pub run-polls : (E : Type 0) (own : Setup) (most : ℕ) (old mid new : Observed) → GrowsWhole old mid (OpenTurns {E = E} own (Ok tt)) → IfObserved mid (λ log. AddsPolls most log new) → IfObserved old (λ before. AddsPolls most before new)
run-polls E own most old mid new grows polls before e = adds-then 0 most most before mid new (omega arith) (opened-polls E own (Ok tt) 0 old mid grows before e) polls

-- until all are made
pub run-done : (E : Type 0) (own : Setup) (most : ℕ) (old mid new : Observed) → GrowsWhole old mid (OpenTurns {E = E} own (Ok tt)) → IfObserved mid (λ log. PollsToEnd most log new) → IfObserved old (λ before. PollsToEnd most before new)
run-done E own most old mid new grows ends before e =
    let x = grows.observed before e in
    let none = whole-none old.dark mid.dark x.0 x.1 x.3 (opened-none E own (Ok tt) before x.0 x.2) in
    unpolled-then-end most before x.1 mid new x.4 (omega (arith, none)) ends

-- a run has begun, after which memory may be refused
pub opened-for-memory : (E : Type 0) (own : Setup) (old mid new : Observed) → GrowsWhole old mid (OpenTurns {E = E} own (Ok tt)) → (mid.dark ≡ true → new.dark ≡ true) → IfObserved mid (λ log. EndsForMemorySince log new) → IfObserved old (λ before. EndsForMemory new)
opened-for-memory E own old mid new grows stays ends before e =
    let x = grows.observed before e in
    by_dark old.dark mid.dark x.0 x.1 refl x.2 x.3 x.4
  where
    begun : (turns : List Turn) → OpenTurns {E = E} own (Ok tt) before turns → GoesOnByCalls (before ++ turns) new → EndsForMemory new
    begun turns (inl t) goes = calls-for-memory before [] (Start own) new refl (subst (λ more. GoesOnByCalls (before ++ more) new) t goes)
    begun turns (inr t) goes = calls-for-memory before (Crash t.0 ∷ []) (Start own) new refl (subst (λ more. GoesOnByCalls (before ++ more) new) t.3 goes)

    by_ends : (turns : List Turn) → OpenTurns {E = E} own (Ok tt) before turns → EndsForMemorySince (before ++ turns) new → EndsForMemory new
    by_ends turns t (inl now) = now
    by_ends turns t (inr goes) = begun turns t goes

    by_dark : (d n : Bool) (turns added : List Turn) → mid.dark ≡ n → OpenTurns {E = E} own (Ok tt) before turns → AddedWhole d n turns added → mid.log ≡ Some (before ++ added) → EndsForMemory new
    by_dark true true turns added dark t a log = inl (stays dark)
    by_dark true false turns added dark t a log = absurd a
    by_dark false true turns added dark t a log = inl (stays dark)
    by_dark false false turns added dark t a log = by_ends turns t (ends (before ++ turns) (rw a at log))

-- where it wasn't, the end says nothing of a file
pub not-found : (slots : ℕ) (before : List Turn) (new : Observed) → EndsByFound slots before new NotOpened
not-found slots before new = record { file = (outside_of before).file; found = inl refl; ends = tt; began = inl refl }
