-- What a replay has printed, and why it ended so.
use Rattle.std.proofs.Common.{◌≡◌, ℕ, List, refl, sym, ◌∙◌, ap, subst, arith, inl, inr}
use Rattle.std.specs.Prelude.{Option, Some, None, Ok, Err}
use Rattle.gw_bytes.specs.Bytes.{IsPrefix}
use Rattle.gw_site.specs.declared.turn.Turn.{Turn}
use Rattle.gw_script.specs.Decode.{script_limit}
use Rattle.gw_script.specs.site.Decode.{script_of}
use Rattle.gw_run.specs.Words.{AskForReplay}
use Rattle.gw_run.specs.Top.{Stream, Cause, HasLogBefore, HasRisen, IfBytesObserved, ShowsEnd, IsLogWithin, IsPlayStatus, IsReadWhole, IsScript, IsScriptBefore, IsScriptLeft, IsStatusAfter, IsWrongAt, Prints, PrintsPrefix, Printed, status_of, tail_of}
use Rattle.gw_run.specs.Replay.{HasEnd, IsEndAfter, IsInputFault, IsInputRead, IsPlayEnd, IsReportedEnd, IsTextEnd, IsTextFault, PlayPrinted, TextPrinted, WritesTail}
use Rattle.gw_run.specs.declared.ending.Ending.{Ending}
use Rattle.gw_run.specs.declared.ending.Ending.TheVariants.{Played, Words, Long, Line as AtLine, Input, NotOpened, Memory, OutputFailed, Disk, LongJournal, CutJournal, BadSlot}
use Rattle.gw_run.proofs.OneLogLemmas.{one-log}

-- an end in which nothing but its lines is written
abbrev pub IsFault : Ending → Type 0
IsFault Played = ⊥
IsFault Words = Unit {0}
IsFault Long = Unit {0}
IsFault (AtLine line) = Unit {0}
IsFault Input = Unit {0}
IsFault NotOpened = ⊥
IsFault Memory = Unit {0}
IsFault OutputFailed = ⊥
IsFault Disk = ⊥
IsFault (LongJournal size) = ⊥
IsFault (CutJournal slot) = ⊥
IsFault (BadSlot slot) = ⊥

-- the lines of a fault are what the table says of it
fault-lines : (ending : Ending) (input : Option (List ℕ)) → IsFault ending → Prints ending input (tail_of ending)
fault-lines Words input h = refl
fault-lines Long input h = refl
fault-lines (AtLine line) input h = refl
fault-lines Input input h = refl
fault-lines Memory input h = inl refl
fault-lines Played input h = absurd h
fault-lines OutputFailed input h = absurd h
fault-lines NotOpened input h = absurd h
fault-lines Disk input h = absurd h
fault-lines (LongJournal size) input h = absurd h
fault-lines (CutJournal slot) input h = absurd h
fault-lines (BadSlot slot) input h = absurd h

fault-prefix : (Could : Ending → Type 0) (ending : Ending) (input : Option (List ℕ)) (added : List ℕ)
    → IsFault ending → Could ending → IsPrefix added (tail_of ending) → PrintsPrefix Could input added
fault-prefix Could ending input added h could prefix = record { ending = ending; whole = tail_of ending; could = could; prints = fault-lines ending input h; prefix = prefix }

-- the lines of a fault, in full or in part
pub fault-printed : (Could : Ending → Type 0) (ending result : Ending) (input : Option (List ℕ)) (added : List ℕ)
    → IsFault ending → Could Memory → Could ending → WritesTail ending result added → Printed Could input result added
fault-printed Could ending result input added h memory could (inl (same, all)) = rw (same, all) (inl (fault-lines ending input h))
fault-printed Could ending result input added h memory could (inr (inl (m, names, a))) = rw m (inl (inl a))
fault-printed Could ending result input added h memory could (inr (inr (failed, (observed, inl same, prefix)))) = inr (failed, fault-prefix Could ending input added h could (rw same at prefix))
fault-printed Could ending result input added h memory could (inr (inr (failed, (observed, inr other, prefix)))) = inr (failed, fault-prefix Could Memory input added tt memory (rw other.0 at prefix))

-- the cause of the end that is reported is that of the end, or no memory, or a failed write
pub observed-cause : (ending result : Ending) (words : List (List ℕ)) (input out : Stream)
    → Cause ending words input out → (result ≡ OutputFailed → HasRisen out) → IsReportedEnd ending result → Cause result words input out
observed-cause ending result words input out cause failed (inl same) = rw same cause
observed-cause ending result words input out cause failed (inr (inl (memory, names))) = rw memory tt
observed-cause ending result words input out cause failed (inr (inr e)) = rw e (failed e)

-- what was printed by ends that could have come, where others could then
printed-as : (Could Other : Ending → Type 0) (result : Ending) (input : Option (List ℕ)) (text : List ℕ)
    → ((ending : Ending) (whole : List ℕ) → Could ending → Prints ending input whole → Other ending) → Printed Could input result text → Printed Other input result text
printed-as Could Other result input text could (inl all) = inl all
printed-as Could Other result input text could (inr (failed, w)) =
    inr (failed, record { ending = w.ending; whole = w.whole; could = could w.ending w.whole w.could w.prints; prints = w.prints; prefix = w.prefix })

-- ---- a text within the limit

-- an end other than these has the script's log before it
log-before : (text : List ℕ) (ending : Ending) → (ending ≡ Memory → ⊥) → (ending ≡ OutputFailed → ⊥) → HasEnd text ending → HasLogBefore ending text
log-before text ending memory failed (inl e) = absurd (memory e)
log-before text ending memory failed (inr (inl e)) = absurd (failed e)
log-before text ending memory failed (inr (inr h)) = h

-- the end of a play is one of its text, which is a script
pub play-end : (text : List ℕ) (result : Ending) → IsScript text → HasEnd text result → IsTextEnd text result
play-end text Played script end = (script, log-before text Played (λ e. cc) (λ e. cc) end)
play-end text NotOpened script end = (script, log-before text NotOpened (λ e. cc) (λ e. cc) end)
play-end text Disk script end = (script, log-before text Disk (λ e. cc) (λ e. cc) end)
play-end text Memory script end = tt
play-end text OutputFailed script end = tt
play-end text Words script end = absurd (log-before text Words (λ e. cc) (λ e. cc) end).2
play-end text Long script end = absurd (log-before text Long (λ e. cc) (λ e. cc) end).2
play-end text (AtLine line) script end = absurd (log-before text (AtLine line) (λ e. cc) (λ e. cc) end).2
play-end text Input script end = absurd (log-before text Input (λ e. cc) (λ e. cc) end).2
play-end text (LongJournal size) script end = absurd (log-before text (LongJournal size) (λ e. cc) (λ e. cc) end).2
play-end text (CutJournal slot) script end = absurd (log-before text (CutJournal slot) (λ e. cc) (λ e. cc) end).2
play-end text (BadSlot slot) script end = absurd (log-before text (BadSlot slot) (λ e. cc) (λ e. cc) end).2

-- and what it prints is printed of the text
pub play-printed : (text : List ℕ) (result : Ending) (added : List ℕ) → IsScript text → PlayPrinted text result added → TextPrinted text result added
play-printed text result added script printed = λ input i. printed-as (HasEnd text) (IsTextEnd text) result input added (λ ending whole end w. play-end text ending script end) (printed input i)

-- a fault of a text has its lines alone
text-fault : (text : List ℕ) (fault : Ending) → IsTextFault text fault → IsFault fault
text-fault text (AtLine line) h = tt
text-fault text Memory h = tt
text-fault text Played h = absurd h
text-fault text Words h = absurd h
text-fault text Long h = absurd h
text-fault text Input h = absurd h
text-fault text OutputFailed h = absurd h
text-fault text NotOpened h = absurd h
text-fault text Disk h = absurd h
text-fault text (LongJournal size) h = absurd h
text-fault text (CutJournal slot) h = absurd h
text-fault text (BadSlot slot) h = absurd h

fault-end : (text : List ℕ) (fault : Ending) → IsTextFault text fault → IsTextEnd text fault
fault-end text (AtLine line) h = h
fault-end text Memory h = tt
fault-end text Played h = absurd h
fault-end text Words h = absurd h
fault-end text Long h = absurd h
fault-end text Input h = absurd h
fault-end text OutputFailed h = absurd h
fault-end text NotOpened h = absurd h
fault-end text Disk h = absurd h
fault-end text (LongJournal size) h = absurd h
fault-end text (CutJournal slot) h = absurd h
fault-end text (BadSlot slot) h = absurd h

-- what is reported of a text that isn't played
pub text-fault-end : (text : List ℕ) (fault result : Ending) → IsTextFault text fault → IsReportedEnd fault result → IsTextEnd text result
text-fault-end text fault result h (inl same) = rw same (fault-end text fault h)
text-fault-end text fault result h (inr (inl (memory, names))) = rw memory tt
text-fault-end text fault result h (inr (inr e)) = rw e tt

-- and printed
pub text-fault-printed : (text : List ℕ) (fault result : Ending) (added : List ℕ) → IsTextFault text fault → WritesTail fault result added → TextPrinted text result added
text-fault-printed text fault result added h w = λ input i. fault-printed (IsTextEnd text) fault result input added (text-fault text fault h) tt (fault-end text fault h) w

-- ---- a replay

-- the cause of the end of a text's replay
pub text-cause : (result : Ending) (words : List (List ℕ)) (input out : Stream) (text : List ℕ)
    → AskForReplay words → IsReadWhole input (λ all. text ≡ all) → (result ≡ OutputFailed → HasRisen out) → IsTextEnd text result → Cause result words input out
text-cause Played words input out text acc read failed end = (acc, λ all e. let x = read all e in (x.0, subst (IsScriptBefore Played) x.1 end))
text-cause NotOpened words input out text acc read failed end = (acc, λ all e. let x = read all e in (x.0, subst (IsScriptBefore NotOpened) x.1 end))
text-cause Disk words input out text acc read failed end = (acc, λ all e. let x = read all e in (x.0, subst (IsScriptBefore Disk) x.1 end))
text-cause (AtLine line) words input out text acc read failed end = (acc, λ all e. let x = read all e in (x.0, subst (IsWrongAt line) x.1 end))
text-cause Memory words input out text acc read failed end = tt
text-cause OutputFailed words input out text acc read failed end = failed refl
text-cause Words words input out text acc read failed end = absurd end
text-cause Long words input out text acc read failed end = absurd end
text-cause Input words input out text acc read failed end = absurd end
text-cause (LongJournal size) words input out text acc read failed end = absurd end
text-cause (CutJournal slot) words input out text acc read failed end = absurd end
text-cause (BadSlot slot) words input out text acc read failed end = absurd end

-- what a replay prints of a text
pub text-printed : (result : Ending) (words : List (List ℕ)) (input out : Stream) (text added : List ℕ)
    → AskForReplay words → IsReadWhole input (λ all. text ≡ all) → TextPrinted text result added → Printed (λ other. Cause other words input out) input.before result added
text-printed result words input out text added acc read printed =
    printed-as (IsTextEnd text) (λ other. Cause other words input out) result input.before added
    (λ ending whole end w. text-cause ending words input out text acc read (λ e. absurd (subst (λ other. Prints other input.before whole) e w)) end)
    (printed input.before (λ all e. (read all e).1))

-- where the text is a script its replay ends as a play
pub text-complete : (result : Ending) (input : Option (List ℕ)) (text : List ℕ) → IsScriptLeft input → IfBytesObserved input (λ all. text ≡ all) → IsTextEnd text result → IsPlayEnd result
text-complete Played input text script read end = tt
text-complete NotOpened input text script read end = tt
text-complete Disk input text script read end = tt
text-complete Memory input text script read end = tt
text-complete OutputFailed input text script read end = tt
text-complete (AtLine line) None text script read end = absurd script
text-complete (AtLine line) (Some bytes) text script read end = absurd (let n : Ok script.1.0 ≡ Err line = sym script.1.1 ∙ sym (ap script_of (read bytes refl)) ∙ end.1 in cc)
text-complete Words input text script read end = absurd end
text-complete Long input text script read end = absurd end
text-complete Input input text script read end = absurd end
text-complete (LongJournal size) input text script read end = absurd end
text-complete (CutJournal slot) input text script read end = absurd end
text-complete (BadSlot slot) input text script read end = absurd end

-- a fault of the reading has its lines alone
pub input-fault : (fault : Ending) → IsInputFault fault → IsFault fault
input-fault Long h = tt
input-fault Input h = tt
input-fault Memory h = tt
input-fault Played h = absurd h
input-fault Words h = absurd h
input-fault (AtLine line) h = absurd h
input-fault OutputFailed h = absurd h
input-fault NotOpened h = absurd h
input-fault Disk h = absurd h
input-fault (LongJournal size) h = absurd h
input-fault (CutJournal slot) h = absurd h
input-fault (BadSlot slot) h = absurd h

-- the cause of a fault of the reading
pub input-cause : (fault : Ending) (words : List (List ℕ)) (input out : Stream)
    → AskForReplay words → IsInputFault fault → (fault ≡ Input → HasRisen input) → IfBytesObserved input.before (λ all. IsInputRead script_limit (Err fault) all input.after) → Cause fault words input out
input-cause Long words input out acc h rose long = (acc, long)
input-cause Input words input out acc h rose long = (acc, rose refl, long)
input-cause Memory words input out acc h rose long = tt
input-cause Played words input out acc h rose long = absurd h
input-cause Words words input out acc h rose long = absurd h
input-cause (AtLine line) words input out acc h rose long = absurd h
input-cause OutputFailed words input out acc h rose long = absurd h
input-cause NotOpened words input out acc h rose long = absurd h
input-cause Disk words input out acc h rose long = absurd h
input-cause (LongJournal size) words input out acc h rose long = absurd h
input-cause (CutJournal slot) words input out acc h rose long = absurd h
input-cause (BadSlot slot) words input out acc h rose long = absurd h

reported-end : (ending result : Ending) → IsPlayEnd ending → IsReportedEnd ending result → IsPlayEnd result
reported-end ending result h (inl same) = rw same h
reported-end ending result h (inr (inl (memory, names))) = rw memory tt
reported-end ending result h (inr (inr e)) = rw e tt

-- where the input is a script and no reading failed, the reading can only want memory
pub input-complete : (fault result : Ending) (input left : Option (List ℕ)) (input_rose : Type 0)
    → IsInputFault fault → (fault ≡ Input → input_rose) → IfBytesObserved input (λ all. IsInputRead script_limit (Err fault) all left) → IsScriptLeft input → (input_rose → ⊥) → IsReportedEnd fault result → IsPlayEnd result
input-complete Long result None left input_rose h rose long script calm observed = absurd script
input-complete Long result (Some bytes) left input_rose h rose long script calm observed = absurd (let a = (long bytes refl).long in let b = script.0 in omega arith)
input-complete Input result input left input_rose h rose long script calm observed = absurd (calm (rose refl))
input-complete Memory result input left input_rose h rose long script calm observed = reported-end Memory result tt observed
input-complete Played result input left input_rose h rose long script calm observed = absurd h
input-complete Words result input left input_rose h rose long script calm observed = absurd h
input-complete (AtLine line) result input left input_rose h rose long script calm observed = absurd h
input-complete OutputFailed result input left input_rose h rose long script calm observed = absurd h
input-complete NotOpened result input left input_rose h rose long script calm observed = absurd h
input-complete Disk result input left input_rose h rose long script calm observed = absurd h
input-complete (LongJournal size) result input left input_rose h rose long script calm observed = absurd h
input-complete (CutJournal slot) result input left input_rose h rose long script calm observed = absurd h
input-complete (BadSlot slot) result input left input_rose h rose long script calm observed = absurd h

-- a play's end in which no write has failed
pub status-end : (ending : Ending) (out_rose : Type 0) (status : ℕ) → status ≡ status_of ending → IsPlayEnd ending → (ending ≡ OutputFailed → out_rose) → (out_rose → ⊥) → IsPlayStatus status
status-end Played out_rose status s h failed calm = inl s
status-end NotOpened out_rose status s h failed calm = inr (inl s)
status-end Memory out_rose status s h failed calm = inr (inr (inl s))
status-end Disk out_rose status s h failed calm = inr (inr (inr s))
status-end OutputFailed out_rose status s h failed calm = absurd (calm (failed refl))
status-end Words out_rose status s h failed calm = absurd h
status-end Long out_rose status s h failed calm = absurd h
status-end (AtLine line) out_rose status s h failed calm = absurd h
status-end Input out_rose status s h failed calm = absurd h
status-end (LongJournal size) out_rose status s h failed calm = absurd h
status-end (CutJournal slot) out_rose status s h failed calm = absurd h
status-end (BadSlot slot) out_rose status s h failed calm = absurd h

-- ---- the log of the script

-- a text that has a log is a script
log-script : (text : List ℕ) (log : List Turn) → IsLogWithin text log → IsScript text
log-script text log is = (is.0, (is.1.script, is.1.script_is))

-- what is left is a script where it has a log
pub left-script : (left : Option (List ℕ)) (text : List ℕ) (log : List Turn) → left ≡ Some text → IsLogWithin text log → IsScriptLeft left
left-script left text log e is = subst IsScriptLeft (sym e) (log-script text log is)

-- the end is after the one log of the script
same-log : (ending : Ending) (text : List ℕ) (log : List Turn) → IsLogWithin text log → HasLogBefore ending text → IsEndAfter log ending
same-log ending text log is h = inl (subst (ShowsEnd ending) (one-log text h.0 log h.1 is.1) h.2)

text-after : (result : Ending) (text : List ℕ) (log : List Turn) (out_rose : Type 0) → IsLogWithin text log → (result ≡ OutputFailed → out_rose) → (out_rose → ⊥) → IsTextEnd text result → IsEndAfter log result
text-after Played text log out_rose is failed calm end = same-log Played text log is end.1
text-after NotOpened text log out_rose is failed calm end = same-log NotOpened text log is end.1
text-after Disk text log out_rose is failed calm end = same-log Disk text log is end.1
text-after Memory text log out_rose is failed calm end = inr refl
text-after OutputFailed text log out_rose is failed calm end = absurd (calm (failed refl))
text-after (AtLine line) text log out_rose is failed calm end = absurd (let n : Ok is.1.script ≡ Err line = sym is.1.script_is ∙ end.1 in cc)
text-after Words text log out_rose is failed calm end = absurd end
text-after Long text log out_rose is failed calm end = absurd end
text-after Input text log out_rose is failed calm end = absurd end
text-after (LongJournal size) text log out_rose is failed calm end = absurd end
text-after (CutJournal slot) text log out_rose is failed calm end = absurd end
text-after (BadSlot slot) text log out_rose is failed calm end = absurd end

-- the end of the replay of a text that has this log
pub replay-after : (result : Ending) (text other : List ℕ) (log : List Turn) (out_rose : Type 0) → other ≡ text → IsLogWithin text log → (result ≡ OutputFailed → out_rose) → (out_rose → ⊥) → IsTextEnd other result → IsEndAfter log result
replay-after result text other log out_rose same is failed calm end = text-after result text log out_rose is failed calm (subst (λ one. IsTextEnd one result) same end)

-- a fault of the reading, of which only that there was no memory may come
pub fault-after : (fault result : Ending) (left : Option (List ℕ)) (text : List ℕ) (log : List Turn) (input_rose out_rose : Type 0) (after : Option (List ℕ))
    → IsInputFault fault → (fault ≡ Input → input_rose) → IfBytesObserved left (λ all. IsInputRead script_limit (Err fault) all after) → left ≡ Some text → IsLogWithin text log → (input_rose → ⊥) → IsReportedEnd fault result → (result ≡ OutputFailed → out_rose) → (out_rose → ⊥) → IsEndAfter log result
fault-after Memory result left text log input_rose out_rose after h rose long e is calm reported failed written = elim reported [
  | inl same ↦ inr same
  | inr (inl other) ↦ inr other.0
  | inr (inr out) ↦ absurd (written (failed out))
]
fault-after Long result left text log input_rose out_rose after h rose long e is calm reported failed written = absurd (let a = (long text e).long in let b = is.0 in omega arith)
fault-after Input result left text log input_rose out_rose after h rose long e is calm reported failed written = absurd (calm (rose refl))
fault-after Played result left text log input_rose out_rose after h rose long e is calm reported failed written = absurd h
fault-after Words result left text log input_rose out_rose after h rose long e is calm reported failed written = absurd h
fault-after (AtLine line) result left text log input_rose out_rose after h rose long e is calm reported failed written = absurd h
fault-after NotOpened result left text log input_rose out_rose after h rose long e is calm reported failed written = absurd h
fault-after OutputFailed result left text log input_rose out_rose after h rose long e is calm reported failed written = absurd h
fault-after Disk result left text log input_rose out_rose after h rose long e is calm reported failed written = absurd h
fault-after (LongJournal size) result left text log input_rose out_rose after h rose long e is calm reported failed written = absurd h
fault-after (CutJournal slot) result left text log input_rose out_rose after h rose long e is calm reported failed written = absurd h
fault-after (BadSlot slot) result left text log input_rose out_rose after h rose long e is calm reported failed written = absurd h

-- and its status
pub status-after : (ending : Ending) (status : ℕ) (log : List Turn) → status ≡ status_of ending → IsEndAfter log ending → IsStatusAfter log status
status-after ending status log s (inl end) = inl (ending, end, s)
status-after ending status log s (inr memory) = inr (s ∙ ap status_of memory)
