-- What the mode `serve` adds to the log of the site, how it ends, and what it prints.
use Rattle.std.proofs.Common.{◌≡◌, ℕ, ◌<◌, List, [], ◌∷◌, ◌++◌, length, refl, sym, ◌∙◌, ap, subst, arith, inl, inr, true, false, append-nil, lt-ltb}
use Rattle.std.specs.Prelude.{◌⊎◌, Option, Some, None, Err, if◌then◌else◌}
use Rattle.gw_base.specs.Setup.{IsSetup}
use Rattle.gw_base.specs.declared.setup.Setup.{Setup}
use Rattle.gw_bytes.specs.Bytes.{IsPrefix}
use Rattle.gw_site.specs.Observed.{IfObserved, Observed}
use Rattle.gw_site.specs.declared.turn.Turn.{Turn}
use Rattle.gw_site.specs.declared.turn.Turn.TheVariants.{OpenFailed}
use Rattle.gw_books.specs.PastLaws.{EachLogAgrees}
use Rattle.gw_config.specs.Faults.{document_limit, document_fault, fault_in, without_offset, IsInsideOf}
use Rattle.gw_config.specs.Grammar.{document_of}
use Rattle.gw_config.specs.declared.fault.ConfigFault.{ConfigFault}
use Rattle.gw_config.specs.declared.fault.ConfigFault.TheVariants.{Long as ConfigLong, NotToml, Missing, Wrong, Twice, Memory as ConfigMemory}
use Rattle.gw_dispatch.specs.Growth.{EndsInFailure}
use Rattle.gw_dispatch.specs.RunEnd.{EndedBy, EndsByFound, MayLackMemory, NoneBegan}
use Rattle.gw_dispatch.specs.declared.engine.Ended.{Ended}
use Rattle.gw_dispatch.specs.declared.engine.Ended.TheVariants.{Done, NotOpened as RunNotOpened, NoMemory, Disk as RunDisk, TooLong, Cut, BadRecord}
use Rattle.gw_rules.specs.Lawful.{IsClear, IsCourse, Stands, turns_of}
use Rattle.gw_rules.specs.Stage.{Stage, Resting, Over, is_round, is_running}
use Rattle.gw_rules.specs.Triple.{IsRun, IsStarted, RunTriple}
use Rattle.gw_rules.specs.View.{View, Move, Begin, Read, Make, after, after_turn, view_from}
use Rattle.gw_rules.proofs.CourseLemmas.{stands-more}
use Rattle.gw_run.specs.Replay.{IsInputFault, IsInputRead, IsReportedEnd, WritesTail}
use Rattle.gw_run.specs.RunEnds.{EndsRun, ending_of}
use Rattle.gw_run.specs.ScriptLog.{IsStopped}
use Rattle.gw_run.specs.Serve.{EndsByFile, EndsWithoutMemory, HasMadePolls, IsReadSetup, IsServable, IsSetupOfInput, IsUntouched, OtherCause, RunCause, ServeCause, ServePrinted, Serves, SiteCalls, SiteRose, TakesFile, serve_tail}
use Rattle.gw_run.specs.Serving.{IsConfigEnd, IsDocumentEnd, IsInputEnd, IsReportedServe, IsRunEnding, MayReportMemory, RunPrinted, WritesServe, config_ending, input_ending}
use Rattle.gw_run.specs.Top.{HasRisen, IfBytesObserved, Stream, tail_of}
use Rattle.gw_run.specs.declared.ending.Ending.{Ending}
use Rattle.gw_run.specs.declared.ending.Ending.TheVariants.{Played, Words, Long, Line as AtLine, Input, NotOpened, Memory, OutputFailed, Disk, LongJournal, CutJournal, BadSlot}
use Rattle.gw_run.specs.declared.serving.ServeEnding.{ServeEnding}
use Rattle.gw_run.specs.declared.serving.ServeEnding.TheVariants.{Config, Other}
use Rattle.gw_run.proofs.EndLemmas.{over-ends}

-- ---- the cause of the end of a run

-- an end that a run may have
abbrev IsAfterRun : Ending → Type 0
IsAfterRun Played = Unit {0}
IsAfterRun Words = ⊥
IsAfterRun Long = ⊥
IsAfterRun (AtLine line) = ⊥
IsAfterRun Input = ⊥
IsAfterRun NotOpened = Unit {0}
IsAfterRun Memory = Unit {0}
IsAfterRun OutputFailed = ⊥
IsAfterRun Disk = Unit {0}
IsAfterRun (LongJournal size) = Unit {0}
IsAfterRun (CutJournal slot) = Unit {0}
IsAfterRun (BadSlot slot) = Unit {0}

run-end : (ended : Ended) → IsAfterRun (ending_of ended)
run-end Done = tt
run-end RunNotOpened = tt
run-end NoMemory = tt
run-end RunDisk = tt
run-end (TooLong size) = tt
run-end (Cut slot) = tt
run-end (BadRecord slot) = tt

after-run : (ending : Ending) → IsRunEnding ending → IsAfterRun ending
after-run ending (ended, e) = subst IsAfterRun (sym e) (run-end ended)

-- a run doesn't end with a write that has failed
pub run-not-failed : (ending : Ending) → IsRunEnding ending → ending ≡ OutputFailed → ⊥
run-not-failed ending is e = subst IsAfterRun e (after-run ending is)

-- of an end after a run it may be reported that memory was refused only where it may have been
by-ended : (ended : Ended) → MayReportMemory (ending_of ended) → MayLackMemory ended
by-ended Done (inl e) = let h : Played ≡ Memory = e in cc
by-ended Done (inr numbered) = numbered
by-ended RunNotOpened (inl e) = let h : NotOpened ≡ Memory = e in cc
by-ended RunNotOpened (inr numbered) = numbered
by-ended RunDisk (inl e) = let h : Disk ≡ Memory = e in cc
by-ended RunDisk (inr numbered) = numbered
by-ended NoMemory reports = tt
by-ended (TooLong size) reports = tt
by-ended (Cut slot) reports = tt
by-ended (BadRecord slot) reports = tt

pub run-lacks : (ended : Ended) (ending : Ending) → ending ≡ ending_of ended → MayReportMemory ending → MayLackMemory ended
run-lacks ended ending e reports = by-ended ended (subst MayReportMemory e reports)

by-cause : (ending : Ending) (setup : Setup) (out : Stream) (site : SiteCalls) → IsAfterRun ending → EndsByFile ending setup site →
    (ending ≡ NotOpened → SiteRose site) → (ending ≡ NotOpened → IfObserved site.before (λ before. NoneBegan before site.after)) → (ending ≡ Disk → SiteRose site) → (ending ≡ Disk → IfObserved site.before (λ before. EndsInFailure site.after)) → (MayReportMemory ending → EndsWithoutMemory site) → RunCause ending setup out site
by-cause Played setup out site is file opened none disk failed memory = file
by-cause NotOpened setup out site is file opened none disk failed memory = (opened refl, none refl)
by-cause Memory setup out site is file opened none disk failed memory = memory (inl refl)
by-cause Disk setup out site is file opened none disk failed memory = (disk refl, failed refl)
by-cause (LongJournal size) setup out site is file opened none disk failed memory = file
by-cause (CutJournal slot) setup out site is file opened none disk failed memory = file
by-cause (BadSlot slot) setup out site is file opened none disk failed memory = file
by-cause Words setup out site is file opened none disk failed memory = absurd is
by-cause Long setup out site is file opened none disk failed memory = absurd is
by-cause (AtLine line) setup out site is file opened none disk failed memory = absurd is
by-cause Input setup out site is file opened none disk failed memory = absurd is
by-cause OutputFailed setup out site is file opened none disk failed memory = absurd is

-- the cause of the end of a run, by what it gives
pub run-cause : (ending : Ending) (setup : Setup) (out : Stream) (site : SiteCalls) → IsRunEnding ending → EndsByFile ending setup site →
    (ending ≡ NotOpened → SiteRose site) → (ending ≡ NotOpened → IfObserved site.before (λ before. NoneBegan before site.after)) → (ending ≡ Disk → SiteRose site) → (ending ≡ Disk → IfObserved site.before (λ before. EndsInFailure site.after)) → (MayReportMemory ending → EndsWithoutMemory site) → RunCause ending setup out site
run-cause ending setup out site is file opened none disk failed memory = by-cause ending setup out site (after-run ending is) file opened none disk failed memory

-- and of the end that is reported
pub reported-cause : (ending result : Ending) (setup : Setup) (out : Stream) (site : SiteCalls) → RunCause ending setup out site → (MayReportMemory ending → EndsWithoutMemory site) → (result ≡ OutputFailed → HasRisen out) → IsReportedEnd ending result → RunCause result setup out site
reported-cause ending result setup out site cause lacks rose (inl same) = subst (λ e. RunCause e setup out site) (sym same) cause
reported-cause ending result setup out site cause lacks rose (inr (inl memory)) = subst (λ e. RunCause e setup out site) (sym memory.0) (lacks (inr memory.1))
reported-cause ending result setup out site cause lacks rose (inr (inr failed)) = subst (λ e. RunCause e setup out site) (sym failed) (rose failed)

-- an end that is reported as that of a run that is done is such
pub reported-played : (ending result : Ending) → IsReportedEnd ending result → result ≡ Played → ending ≡ Played
reported-played ending result (inl same) e = sym same ∙ e
reported-played ending result (inr (inl memory)) e = absurd (let h : Memory ≡ Played = sym memory.0 ∙ e in cc)
reported-played ending result (inr (inr failed)) e = absurd (let h : OutputFailed ≡ Played = sym failed ∙ e in cc)

-- what is printed of it
pub run-printed : (ending result : Ending) (setup : Setup) (out : Stream) (site : SiteCalls) (added : List ℕ) → RunCause ending setup out site → (MayReportMemory ending → EndsWithoutMemory site) → WritesTail ending result added → RunPrinted setup out site result added
run-printed ending result setup out site added cause lacks (inl (same, all)) = inl (all ∙ ap tail_of (sym same))
run-printed ending result setup out site added cause lacks (inr (inl (memory, names, all))) = inl (all ∙ ap tail_of (sym memory))
run-printed ending result setup out site added cause lacks (inr (inr (failed, (reported, inl same, prefix)))) = inr (failed, (ending, cause, subst (λ e. IsPrefix added (tail_of e)) same prefix))
run-printed ending result setup out site added cause lacks (inr (inr (failed, (reported, inr other, prefix)))) = inr (failed, (Memory, lacks (inr other.1), subst (λ e. IsPrefix added (tail_of e)) other.0 prefix))

-- ---- what a run adds

resting : (s : Stage) → s ≡ Resting → is_round s ≡ true → ⊥
resting s e round = let h : false ≡ true = sym (ap is_round e) ∙ round in cc

stays-resting : (v : View) (moves : List Move) → IsCourse v moves → turns_of moves ≡ [] → v.scene.stage ≡ Resting → (view_from v moves).scene.stage ≡ Resting
stays-resting v [] course none e = e
stays-resting v (Begin ∷ moves) course none e = absurd (resting v.scene.stage e course.0.idle.round)
stays-resting v (Read as_read ∷ moves) course none e = absurd (resting v.scene.stage e course.0.idle.round)
stays-resting v (Make turn ∷ moves) course none e = absurd (let h : turn ∷ turns_of moves ≡ [] = none in cc)

-- after an opening that has failed no run goes on
opening-rests : (v : View) (moves : List Move) → IsCourse v moves → turns_of moves ≡ OpenFailed ∷ [] → (view_from v moves).scene.stage ≡ Resting
opening-rests v [] course e = absurd (let h : [] ≡ OpenFailed ∷ [] = e in cc)
opening-rests v (Begin ∷ moves) course e = opening-rests (after v Begin) moves course.1 e
opening-rests v (Read as_read ∷ moves) course e = opening-rests (after v (Read as_read)) moves course.1 e
opening-rests v (Make turn ∷ moves) course e =
    let is : turn ≡ OpenFailed = (let h : turn ∷ turns_of moves ≡ OpenFailed ∷ [] = e in cc) in
    let rest : turns_of moves ≡ [] = (let h : turn ∷ turns_of moves ≡ OpenFailed ∷ [] = e in cc) in
    stays-resting (after_turn v turn) moves course.1 rest (subst (λ t. (after_turn v t).scene.stage ≡ Resting) (sym is) refl)

-- a run that has ended well has gone on
goes-on : (most : ℕ) (v : View) → EndedBy Done most v → v.scene.stage ≡ Resting → ⊥
goes-on most v (inl over) e = let h : Over ≡ Resting = sym over ∙ e in cc
goes-on most v (inr polled) e = let h : false ≡ true = sym (ap is_running e) ∙ polled.running in cc

ended-well : (ended : Ended) (most : ℕ) (v : View) → Played ≡ ending_of ended → EndedBy ended most v → EndedBy Done most v
ended-well Done most v e by = by
ended-well RunNotOpened most v e by = absurd (let h : Played ≡ NotOpened = e in cc)
ended-well NoMemory most v e by = absurd (let h : Played ≡ Memory = e in cc)
ended-well RunDisk most v e by = absurd (let h : Played ≡ Disk = e in cc)
ended-well (TooLong size) most v e by = absurd (let h : Played ≡ LongJournal size = e in cc)
ended-well (Cut slot) most v e by = absurd by
ended-well (BadRecord slot) most v e by = absurd by

-- a run that is reported as ended well has ended so
played-as : (ending result : Ending) → IsReportedEnd ending result → result ≡ Played → Played ≡ ending
played-as ending result (inl same) e = sym e ∙ same
played-as ending result (inr (inl memory)) e = absurd (let h : Memory ≡ Played = sym memory.0 ∙ e in cc)
played-as ending result (inr (inr failed)) e = absurd (let h : OutputFailed ≡ Played = sym failed ∙ e in cc)

lit-or-dark : {A : Type 0} (new : Observed) → new.dark ≡ true → new.dark ≡ false → A
lit-or-dark new dark lit = absurd (let h : true ≡ false = sym dark ∙ lit in cc)

started-by : (own : Setup) (most : ℕ) (v : View) (moves : List Move) (new : Observed) → IsCourse v moves → (turns_of moves ≡ [] → new.dark ≡ true) → new.dark ≡ false → EndedBy Done most (view_from v moves) → IsRun own (turns_of moves) → IsStarted own (turns_of moves)
started-by own most v moves new course none lit by (inl empty) = lit-or-dark new (none empty) lit
started-by own most v moves new course none lit by (inr (inl failed)) = absurd (goes-on most (view_from v moves) by (opening-rests v moves course failed))
started-by own most v moves new course none lit by (inr (inr started)) = started

ends-by : (most : ℕ) (log : List Turn) (v : View) → Stands log v → EndedBy Done most v → IsStopped log ⊎ HasMadePolls most log
ends-by most log v stands (inl over) = inl (over-ends log v stands over)
ends-by most log v stands (inr polled) = inr (v, stands, polled)

-- one run at most goes on from a lawful and clear log, and the headline holds of what the log then is
pub run-serves : EachLogAgrees → (own : Setup) (old new : Observed) (ending result : Ending) (most : ℕ) → RunTriple own old new (IsRun own) (EndsRun ending most) → IsReportedEnd ending result →
    IfObserved old (λ before. (v : View) → Stands before v → IsClear v → Serves (λ setup. setup ≡ own) most (result ≡ Played) before new)
run-serves headline own old new ending result most runs reported before e v stands clear =
    let r = runs.observed before v e stands clear in
    let later = view_from v r.moves in
    let more = stands-more before v r.moves stands r.lawful in
    record {
      added = turns_of r.moves;
      log_is = r.log_is;
      lawful = (later, more);
      agrees = headline (before ++ turns_of r.moves) (later, more);
      adds = inr (own, refl, r.shape);
      whole = λ well lit.
          let gives = r.owed lit in
          let by = ended-well gives.0 most later (played-as ending result reported well ∙ gives.1) gives.2 in
          record { setup = own; own = refl; started = started-by own most v r.moves new r.lawful r.none lit by r.shape; ends = ends-by most (before ++ turns_of r.moves) later more by };
    }

-- the log stays as it is
pub nothing-served : EachLogAgrees → (IsOwn : Setup → Type 0) (most : ℕ) (EndedWell : Type 0) (before : List Turn) (v : View) (new : Observed) → (EndedWell → ⊥) → new.log ≡ Some before → Stands before v → Serves IsOwn most EndedWell before new
nothing-served headline IsOwn most EndedWell before v new not_well e stands =
    let same : before ≡ before ++ [] = sym (append-nil before) in
    record {
      added = [];
      log_is = e ∙ ap Some same;
      lawful = subst (λ log. (w : View) × Stands log w) same (v, stands);
      agrees = headline (before ++ []) (subst (λ log. (w : View) × Stands log w) same (v, stands));
      adds = inl refl;
      whole = λ well. absurd (not_well well);
    }

-- ---- completeness of a run

by-file : (ended : Ended) (ending : Ending) (site : SiteCalls) (slots : ℕ) (before : List Turn) → ending ≡ ending_of ended → EndsByFound slots before site.after ended → TakesFile slots before →
    (ending ≡ NotOpened → SiteRose site) → (ending ≡ Disk → SiteRose site) → (SiteRose site → ⊥) → (ending ≡ Played) ⊎ (ending ≡ Memory)
by-file Done ending site slots before e found takes opened disk calm = inl e
by-file NoMemory ending site slots before e found takes opened disk calm = inr e
by-file RunNotOpened ending site slots before e found takes opened disk calm = absurd (calm (opened e))
by-file RunDisk ending site slots before e found takes opened disk calm = absurd (calm (disk e))
by-file (TooLong size) ending site slots before e found takes opened disk calm = absurd (takes found.file (TooLong size) found.found tt found.ends)
by-file (Cut slot) ending site slots before e found takes opened disk calm = absurd (takes found.file (Cut slot) found.found tt found.ends)
by-file (BadRecord slot) ending site slots before e found takes opened disk calm = absurd (takes found.file (BadRecord slot) found.found tt found.ends)

reported-well : (ending result : Ending) (out_rose : Type 0) → IsReportedEnd ending result → (result ≡ OutputFailed → out_rose) → (out_rose → ⊥) → (ending ≡ Played) ⊎ (ending ≡ Memory) → (result ≡ Played) ⊎ (result ≡ Memory)
reported-well ending result out_rose (inl same) failed written (inl played) = inl (same ∙ played)
reported-well ending result out_rose (inl same) failed written (inr memory) = inr (same ∙ memory)
reported-well ending result out_rose (inr (inl memory)) failed written well = inr memory.0
reported-well ending result out_rose (inr (inr out)) failed written well = absurd (written (failed out))

-- where nothing fails and the file is taken a run ends well, or without memory
pub run-complete : (ending result : Ending) (setup : Setup) (site : SiteCalls) (out_rose : Type 0) → EndsByFile ending setup site → (ending ≡ NotOpened → SiteRose site) → (ending ≡ Disk → SiteRose site) → IsReportedEnd ending result → (result ≡ OutputFailed → out_rose) →
    IfObserved site.before (λ before. TakesFile setup.slots before → (SiteRose site → ⊥) → (out_rose → ⊥) → (result ≡ Played) ⊎ (result ≡ Memory))
run-complete ending result setup site out_rose file opened disk reported failed before e takes calm written =
    let gives = file before e in
    reported-well ending result out_rose reported failed written (by-file gives.0 ending site setup.slots before gives.1 gives.2 takes opened disk calm)

-- ---- the configuration

-- why a text that was read to its end gives no setup
pub text-config : (ending : ServeEnding) (input : Stream) (text : List ℕ) → IfBytesObserved input.before (λ all. (text ≡ all) × (input.after ≡ Some [])) → IsDocumentEnd text ending → IsConfigEnd ending input
text-config (Config fault) input text read end = λ all e. record { first = subst (λ t. fault_in t ≡ Some (without_offset fault)) (read all e).0 end.0; inside = subst (λ t. IsInsideOf t fault) (read all e).0 end.1; read = inl (read all e).1 }
text-config (Other ending) input text read end = subst (λ other. IsInputEnd other input) (sym end) tt

-- why a text gives no setup, by its fault
pub document-end : (text : List ℕ) (fault : ConfigFault) (ending : ServeEnding) → ending ≡ config_ending fault → ((fault ≡ ConfigMemory → ⊥) → fault_in text ≡ Some (without_offset fault)) → IsInsideOf text fault → IsDocumentEnd text ending
document-end text ConfigLong ending e first inside = subst (IsDocumentEnd text) (sym e) (first (λ f. cc), inside)
document-end text (NotToml offset) ending e first inside = subst (IsDocumentEnd text) (sym e) (first (λ f. cc), inside)
document-end text (Missing key) ending e first inside = subst (IsDocumentEnd text) (sym e) (first (λ f. cc), inside)
document-end text (Wrong key) ending e first inside = subst (IsDocumentEnd text) (sym e) (first (λ f. cc), inside)
document-end text (Twice poi) ending e first inside = subst (IsDocumentEnd text) (sym e) (first (λ f. cc), inside)
document-end text ConfigMemory ending e first inside = subst (IsDocumentEnd text) (sym e) refl

too-long : (text : List ℕ) → document_limit < length text → fault_in text ≡ Some ConfigLong
too-long text lt = ap (λ test. if test then Some ConfigLong else document_fault (document_of text)) (lt-ltb document_limit (length text) lt)

-- why the input gives no text
pub input-config : (ending : Ending) (input : Stream) → IsInputFault ending → (ending ≡ Input → HasRisen input) → IfBytesObserved input.before (λ all. IsInputRead document_limit (Err ending) all input.after) → IsConfigEnd (input_ending ending) input
input-config Long input is rose read = λ all e. let beyond = read all e in record { first = too-long all (let a = beyond.long in omega arith); inside = tt; read = inr beyond }
input-config Input input is rose read = (rose refl, read)
input-config Memory input is rose read = tt
input-config Played input is rose read = absurd is
input-config Words input is rose read = absurd is
input-config (AtLine line) input is rose read = absurd is
input-config NotOpened input is rose read = absurd is
input-config OutputFailed input is rose read = absurd is
input-config Disk input is rose read = absurd is
input-config (LongJournal size) input is rose read = absurd is
input-config (CutJournal slot) input is rose read = absurd is
input-config (BadSlot slot) input is rose read = absurd is

-- ---- what is written

-- the lines of an end are written as those of it
pub other-lines : (ending result : Ending) (added : List ℕ) → WritesTail ending result added → WritesServe (Other ending) (Other result) added
other-lines ending result added (inl (same, all)) = inl (ap Other same, all)
other-lines ending result added (inr (inl (memory, names, all))) = inr (inl (ap Other memory, all))
other-lines ending result added (inr (inr (failed, (reported, inl same, prefix)))) = inr (inr (ap Other failed, (Other ending, inl refl, subst (λ e. IsPrefix added (tail_of e)) same prefix)))
other-lines ending result added (inr (inr (failed, (reported, inr memory, prefix)))) = inr (inr (ap Other failed, (Other Memory, inr refl, subst (λ e. IsPrefix added (tail_of e)) memory.0 prefix)))

-- those of an end without memory come for any end
pub memory-lines : (ending : ServeEnding) (result : Ending) (added : List ℕ) → WritesTail Memory result added → WritesServe ending (Other result) added
memory-lines ending result added (inl (same, all)) = inr (inl (ap Other same, all))
memory-lines ending result added (inr (inl (memory, names, all))) = absurd names
memory-lines ending result added (inr (inr (failed, (reported, inl same, prefix)))) = inr (inr (ap Other failed, (Other Memory, inr refl, subst (λ e. IsPrefix added (tail_of e)) same prefix)))
memory-lines ending result added (inr (inr (failed, (reported, inr memory, prefix)))) = absurd memory.1

-- ---- the mode

input-end-cause : (ending : Ending) (input out : Stream) (site : SiteCalls) → IsUntouched site → IsInputEnd ending input → OtherCause ending input out site
input-end-cause Input input out site untouched end = record { rose = end.0; within = end.1; untouched = untouched }
input-end-cause Memory input out site untouched end = inl untouched
input-end-cause Played input out site untouched end = absurd end
input-end-cause Words input out site untouched end = absurd end
input-end-cause Long input out site untouched end = absurd end
input-end-cause (AtLine line) input out site untouched end = absurd end
input-end-cause NotOpened input out site untouched end = absurd end
input-end-cause OutputFailed input out site untouched end = absurd end
input-end-cause Disk input out site untouched end = absurd end
input-end-cause (LongJournal size) input out site untouched end = absurd end
input-end-cause (CutJournal slot) input out site untouched end = absurd end
input-end-cause (BadSlot slot) input out site untouched end = absurd end

config-end-cause : (ending : ServeEnding) (input out : Stream) (site : SiteCalls) → IsUntouched site → IsConfigEnd ending input → ServeCause ending input out site
config-end-cause (Config fault) input out site untouched end = (end, untouched)
config-end-cause (Other ending) input out site untouched end = input-end-cause ending input out site untouched end

-- the cause of an end without a run
pub config-cause : (ending result : ServeEnding) (input out : Stream) (site : SiteCalls) → IsUntouched site → IsConfigEnd ending input → (result ≡ Other OutputFailed → HasRisen out) → IsReportedServe ending result → ServeCause result input out site
config-cause ending result input out site untouched end rose (inl same) = subst (λ e. ServeCause e input out site) (sym same) (config-end-cause ending input out site untouched end)
config-cause ending result input out site untouched end rose (inr (inl memory)) = subst (λ e. ServeCause e input out site) (sym memory) (inl untouched)
config-cause ending result input out site untouched end rose (inr (inr failed)) = subst (λ e. ServeCause e input out site) (sym failed) (rose failed)

-- and what is printed of it
pub config-printed : (ending result : ServeEnding) (input out : Stream) (site : SiteCalls) (added : List ℕ) → IsUntouched site → IsConfigEnd ending input → WritesServe ending result added → ServePrinted (λ other. ServeCause other input out site) result added
config-printed ending result input out site added untouched end (inl (same, all)) = inl (all ∙ ap serve_tail (sym same))
config-printed ending result input out site added untouched end (inr (inl (memory, all))) = inl (all ∙ ap serve_tail (sym memory))
config-printed ending result input out site added untouched end (inr (inr (failed, (reported, inl same, prefix)))) =
    inr (failed, record { ending = ending; could = config-end-cause ending input out site untouched end; prefix = subst (λ e. IsPrefix added (serve_tail e)) same prefix })
config-printed ending result input out site added untouched end (inr (inr (failed, (reported, inr memory, prefix)))) =
    inr (failed, record { ending = Other Memory; could = inl untouched; prefix = subst (λ e. IsPrefix added (serve_tail e)) memory prefix })

-- it isn't one that a run ends well with
config-not-played : (ending : ServeEnding) (input : Stream) → IsConfigEnd ending input → ending ≡ Other Played → ⊥
config-not-played ending input end e = subst (λ other. IsConfigEnd other input) e end

-- nor that a write has failed
pub config-writable : (ending : ServeEnding) (input : Stream) → IsConfigEnd ending input → ending ≡ Other OutputFailed → ⊥
config-writable ending input end e = subst (λ other. IsConfigEnd other input) e end

pub other-same : (a b : Ending) → Other a ≡ Other b → a ≡ b
other-same a b e = cc

-- nothing was run that could have ended well
pub config-unplayed : (ending result : ServeEnding) (input : Stream) → IsConfigEnd ending input → IsReportedServe ending result → result ≡ Other Played → ⊥
config-unplayed ending result input end (inl same) e = config-not-played ending input end (sym same ∙ e)
config-unplayed ending result input end (inr (inl memory)) e = let h : Memory ≡ Played = other-same Memory Played (sym memory ∙ e) in cc
config-unplayed ending result input end (inr (inr failed)) e = let h : OutputFailed ≡ Played = other-same OutputFailed Played (sym failed ∙ e) in cc

-- the cause of the end of a run with the setup of the input
pub serve-cause : (ending : Ending) (setup : Setup) (input out : Stream) (site : SiteCalls) → IsReadSetup input.before input.after setup → RunCause ending setup out site → ServeCause (Other ending) input out site
serve-cause Played setup input out site read cause = (setup, read, cause)
serve-cause NotOpened setup input out site read cause = (setup, read, cause)
serve-cause Disk setup input out site read cause = (setup, read, cause)
serve-cause (LongJournal size) setup input out site read cause = (setup, read, cause)
serve-cause (CutJournal slot) setup input out site read cause = (setup, read, cause)
serve-cause (BadSlot slot) setup input out site read cause = (setup, read, cause)
serve-cause Memory setup input out site read cause = inr (setup, read, cause)
serve-cause OutputFailed setup input out site read cause = cause
serve-cause Words setup input out site read cause = absurd cause
serve-cause Long setup input out site read cause = absurd cause
serve-cause (AtLine line) setup input out site read cause = absurd cause
serve-cause Input setup input out site read cause = absurd cause

-- and what is printed of it
pub serve-printed : (ending : Ending) (setup : Setup) (input out : Stream) (site : SiteCalls) (added : List ℕ) → IsReadSetup input.before input.after setup → RunPrinted setup out site ending added → ServePrinted (λ other. ServeCause other input out site) (Other ending) added
serve-printed ending setup input out site added read (inl all) = inl all
serve-printed ending setup input out site added read (inr (failed, (other, cause, prefix))) = inr (ap Other failed, record { ending = Other other; could = serve-cause other setup input out site read cause; prefix = prefix })

-- where this is so of a setup, the headline holds of it
pub serves-own : (own : Setup) (IsOwn : Setup → Type 0) (most : ℕ) (EndedWell Well : Type 0) (before : List Turn) (new : Observed) → IsOwn own → (Well → EndedWell) → Serves (λ setup. setup ≡ own) most EndedWell before new → Serves IsOwn most Well before new
serves-own own IsOwn most EndedWell Well before new is well s = record {
  added = s.added;
  log_is = s.log_is;
  lawful = s.lawful;
  agrees = s.agrees;
  adds = elim s.adds [
    | inl none ↦ inl none
    | inr run ↦ inr (run.0, subst IsOwn (sym run.1) is, run.2)
  ];
  whole = λ ended lit. let run = s.whole (well ended) lit in record { setup = run.setup; own = subst IsOwn (sym run.own) is; started = run.started; ends = run.ends };
}

-- the setup of the input is one of it
pub input-setup : (setup : Setup) (before after : Option (List ℕ)) → IsSetup setup → IsReadSetup before after setup → IsSetupOfInput before setup
input-setup setup before after limits read = (limits, λ text e. (read text e).1)

-- a run with the setup of the input is complete
pub serve-complete : (ending : Ending) (setup : Setup) (input : Stream) (site : SiteCalls) (out_rose : Type 0) → IsReadSetup input.before input.after setup →
    IfObserved site.before (λ before. TakesFile setup.slots before → (SiteRose site → ⊥) → (out_rose → ⊥) → (ending ≡ Played) ⊎ (ending ≡ Memory)) →
    IfObserved site.before (λ before. (text : List ℕ) → input.before ≡ Some text → IsServable text before → (HasRisen input → ⊥) → (SiteRose site → ⊥) → (out_rose → ⊥) → (Other ending ≡ Other Played) ⊎ (Other ending ≡ Other Memory))
serve-complete ending setup input site out_rose read complete before e text is servable calm still written =
    elim (complete before e (servable.takes setup (read text is).1) still written) [ inl well ↦ inl (ap Other well) | inr memory ↦ inr (ap Other memory) ]

sound-fault : {A : Type 0} (text : List ℕ) (fault : ConfigFault) → fault_in text ≡ None → fault_in text ≡ Some fault → A
sound-fault text fault none some = absurd (let h : ◌≡◌ {A = Option ConfigFault} None (Some fault) = sym none ∙ some in cc)

memory-alone : (ending : Ending) (input : Stream) → IsInputEnd ending input → (HasRisen input → ⊥) → ending ≡ Memory
memory-alone Memory input end calm = refl
memory-alone Input input end calm = absurd (calm end.0)
memory-alone Played input end calm = absurd end
memory-alone Words input end calm = absurd end
memory-alone Long input end calm = absurd end
memory-alone (AtLine line) input end calm = absurd end
memory-alone NotOpened input end calm = absurd end
memory-alone OutputFailed input end calm = absurd end
memory-alone Disk input end calm = absurd end
memory-alone (LongJournal size) input end calm = absurd end
memory-alone (CutJournal slot) input end calm = absurd end
memory-alone (BadSlot slot) input end calm = absurd end

sound-end : (ending : ServeEnding) (input : Stream) (text : List ℕ) → IsConfigEnd ending input → input.before ≡ Some text → fault_in text ≡ None → (HasRisen input → ⊥) → ending ≡ Other Memory
sound-end (Config fault) input text end is sound calm = sound-fault text _ sound (end text is).first
sound-end (Other ending) input text end is sound calm = ap Other (memory-alone ending input end calm)

-- a document without a fault gives its setup, or there was no memory
pub config-complete : (ending result : ServeEnding) (input : Stream) (site : SiteCalls) (out_rose : Type 0) → IsConfigEnd ending input → IsReportedServe ending result → (result ≡ Other OutputFailed → out_rose) →
    IfObserved site.before (λ before. (text : List ℕ) → input.before ≡ Some text → IsServable text before → (HasRisen input → ⊥) → (SiteRose site → ⊥) → (out_rose → ⊥) → (result ≡ Other Played) ⊎ (result ≡ Other Memory))
config-complete ending result input site out_rose end (inl same) failed before e text is servable calm still written = inr (same ∙ sound-end ending input text end is servable.sound calm)
config-complete ending result input site out_rose end (inr (inl memory)) failed before e text is servable calm still written = inr memory
config-complete ending result input site out_rose end (inr (inr out)) failed before e text is servable calm still written = absurd (written (failed out))
