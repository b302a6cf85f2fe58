-- The log of a script plays the script's lines, and has the outcome of an opening at first, after each power failure, and nowhere else.
use Rattle.std.proofs.Common.{◌≡◌, ℕ, suc, List, [], ◌∷◌, ◌++◌, length, refl, sym, ◌∙◌, ap, subst, inl, inr, true, false}
use Rattle.std.specs.List.{AllByRecursion}
use Rattle.std.specs.Prelude.{◌⊎◌, ◌==◌, Bool, Option, Some, None, if◌then◌else◌, map, Ok}
use Rattle.gw_base.specs.declared.setup.Setup.{Setup}
use Rattle.gw_site.specs.Outside.{Outside, outside_of}
use Rattle.gw_site.specs.Sorts.{sort_of}
use Rattle.gw_site.specs.Steps.{ImageKind, SiteCall, OpenCall, PollCall, SendTillCall, SendPtCall, LinkCall, CutTillCall, CutPtCall, LengthCall, ReadCall, WriteCall, SyncCall, SiteStep, Made, PowerBack, StopAfter, Holding, TakenStep, turns_of_steps, steps_of}
use Rattle.gw_site.specs.declared.turn.Turn.{Turn}
use Rattle.gw_site.specs.declared.turn.Turn.TheVariants.{Start, OpenFailed, Linked, LinkFailed, Wrote, Synced, DiskFailed, Crash}
use Rattle.gw_script.specs.site.Calls.{CallFits, are_scripted, call_turns, polled_turns}
use Rattle.gw_script.specs.site.Hazards.{armed, crash_file, is_failing, is_reached}
use Rattle.gw_script.specs.site.Playing.{Play, after_poll, applies, begins, brings, fails_next, is_off, met, met_coming, power_forgotten, powered, then_coming, PlaysLines}
use Rattle.gw_script.specs.site.ScriptLine.{Event, Open, Close, FromTill, FromPt, Lose, Tick, PlayedLine, At, Poll, Fail, Power, ForgetPower, Script, setup_of}
use Rattle.gw_script.specs.site.StepTurns.{place_after_step}
use Rattle.gw_script.proofs.site.CallLemmas.{calls-play}
use Rattle.gw_script.proofs.site.QuietLemmas.{on_or_off}
use Rattle.gw_script.proofs.site.StepTurnLemmas.{steps-have-their-turns}
use Rattle.gw_owes.specs.Calls.{OwedCall, SendTill, SendPt, LinkPt, CutTill, CutPt, WriteBody, WriteGate, WriteFirstGate, Sync, site_call}
use Rattle.gw_rules.specs.Acts.{Act, ToBegin, ToRead, ToTake, Look, Unopened, Unmeasured, Measured, Looked, AreDue, IsDueCall, IsDueStep, IsMeasuring, IsOwedCall, look_after_step, moves_of, taken_of}
use Rattle.gw_rules.specs.Lawful.{IsLawful, turns_of}
use Rattle.gw_rules.specs.Stage.{is_looking}
use Rattle.gw_rules.specs.View.{View, Begin, Read, Make, after, at_first, view_from}
use Rattle.gw_rules.proofs.ActLemmas.{turns-of-acts}
use Rattle.gw_rules.proofs.PrefixLemmas.{lawful-along}
use Rattle.gw_run.specs.Laws.{LogIsPlayed}
use Rattle.gw_script.specs.site.Decode.{script_of}
use Rattle.gw_run.specs.ScriptLog.{AreRuns, IsLogOf, is_opening, is_power_failure}
use Rattle.gw_run.proofs.OneLogLemmas.{one-script}
use Rattle.gw_run.proofs.OneLogStepLemmas.{Goes, IsCallStep, IsPastOpening, IsPowerStep, first-step, goes-begin, goes-on, goes-read, opened-after, turns-before}

-- ---- the lines are played

scripted-step : (own : Setup) (v : View) (look : Look) (step : SiteStep) (steps : List SiteStep) → IsDueStep own v look step → are_scripted steps ≡ true → are_scripted (step ∷ steps) ≡ true
scripted-step own v look (Made call) steps due e = e
scripted-step own v look PowerBack steps due e = e
scripted-step own v look (StopAfter calls kind) steps due e = absurd due
scripted-step own v look (Holding file) steps due e = absurd due

scripted : (own : Setup) (acts : List Act) (v : View) (look : Look) → AreDue own v look acts → are_scripted (steps_of (taken_of acts)) ≡ true
scripted own [] v look due = refl
scripted own (ToBegin ∷ acts) v look due = scripted own acts (after v Begin) look due.1
scripted own (ToRead as_read ∷ acts) v look due = scripted own acts (after v (Read as_read)) look due.1
scripted own (ToTake taken ∷ acts) v look due = scripted-step own v look taken.step (steps_of (taken_of acts)) due.0 (scripted own acts (view_from v (map Make taken.turns)) (look_after_step own v look taken.step) due.1)

same-size : (taken : List TakenStep) → length (turns_of_steps taken) ≡ length (steps_of taken)
same-size [] = refl
same-size (one ∷ taken) = ap suc (same-size taken)

-- ---- openings

-- the turn is neither the outcome of an opening nor a power failure
abbrev IsPlain : Turn → Type 0
IsPlain turn = (is_opening (sort_of turn) ≡ false) × (is_power_failure (sort_of turn) ≡ false)

-- each of the turns is so
abbrev ArePlain : List Turn → Type 0
ArePlain turns = AllByRecursion IsPlain turns

runs-after : (own : Setup) (turns later : List Turn) → ArePlain turns → AreRuns own false later → AreRuns own false (turns ++ later)
runs-after own [] later plain runs = runs
runs-after own (turn ∷ turns) later plain runs = (plain.0.0, subst (λ due. AreRuns own due (turns ++ later)) (sym plain.0.1) (runs-after own turns later plain.1 runs))

event-plain : (event : Event) → ArePlain (brings event)
event-plain (Open till) = ((refl, refl), tt)
event-plain (Close till) = ((refl, refl), tt)
event-plain (FromTill till bytes) = ((refl, refl), tt)
event-plain (FromPt pt bytes) = ((refl, refl), tt)
event-plain (Lose pt) = ((refl, refl), tt)
event-plain Tick = tt

met-plain : (o : Outside) (p : Play) (lines : List PlayedLine) → ArePlain p.due → ArePlain (met o p lines).due
met-plain o p [] plain = ((refl, refl), tt)
met-plain o p (At now ∷ lines) plain = met-plain o (record p { moment = now }) lines plain
met-plain o p (Poll event ∷ lines) plain = by_test (applies o event) (met-plain o p lines plain)
  where
    by_test : (test : Bool) → ArePlain (met o p lines).due → ArePlain (if test then record p { lines = lines; due = brings event } else met o p lines).due
    by_test true later = event-plain event
    by_test false later = later
met-plain o p (Fail failing ∷ lines) plain = met-plain o (fails_next o failing p) lines (by_test (is_reached o failing))
  where
    by_test : (test : Bool) → ArePlain (if test then record p { hazard = armed failing p.hazard } else p).due
    by_test true = plain
    by_test false = plain
met-plain o p (Power calls kind ∷ lines) plain = by_test (calls == 0) (met-plain o (powered calls kind p) lines plain)
  where
    by_test : (test : Bool) → ArePlain (met o (powered calls kind p) lines).due → ArePlain (if test then is_off kind (record p { lines = lines }) else met o (powered calls kind p) lines).due
    by_test true later = plain
    by_test false later = later
met-plain o p (ForgetPower ∷ lines) plain = met-plain o (power_forgotten p) lines plain

coming-plain : (o : Outside) (p : Play) (events : List Event) → ArePlain p.due → ArePlain (met_coming o events p).due
coming-plain o p [] plain = met-plain o (then_coming [] p) p.lines plain
coming-plain o p (event ∷ events) plain = by_test (applies o event) (coming-plain o p events plain)
  where
    by_test : (test : Bool) → ArePlain (met_coming o events p).due → ArePlain (if test then record (then_coming events p) { due = brings event } else met_coming o events p).due
    by_test true later = event-plain event
    by_test false later = later

polled-plain : (m : Play) (off : Option ImageKind) → ArePlain m.due → ArePlain (polled_turns m off)
polled-plain m None plain = ((refl, refl), plain)
polled-plain m (Some kind) plain = tt

if-plain : (test : Bool) (turns others : List Turn) → ArePlain turns → ArePlain others → ArePlain (if test then turns else others)
if-plain true turns others a b = a
if-plain false turns others a b = b

-- the turns of a call that opens no site are plain
turns-plain : (o : Outside) (p : Play) (call : SiteCall) → p.due ≡ [] → ((setup : Setup) → call ≡ OpenCall setup → ⊥) → ArePlain (call_turns o p call)
turns-plain o p (OpenCall setup) none other = absurd (other setup refl)
turns-plain o p PollCall none other = polled-plain (after_poll o p) (after_poll o p).off (coming-plain o p p.peers.coming (subst ArePlain (sym none) tt))
turns-plain o p (SendTillCall till bytes) none other = ((refl, refl), tt)
turns-plain o p (SendPtCall pt bytes) none other = ((refl, refl), tt)
turns-plain o p (LinkCall pt) none other = if-plain (is_failing p.hazard.fail_links pt) (LinkFailed pt ∷ []) (Linked pt ∷ []) ((refl, refl), tt) ((refl, refl), tt)
turns-plain o p (CutTillCall till) none other = ((refl, refl), tt)
turns-plain o p (CutPtCall pt) none other = ((refl, refl), tt)
turns-plain o p LengthCall none other = if-plain p.hazard.fail_length (DiskFailed ∷ []) [] ((refl, refl), tt) tt
turns-plain o p (ReadCall offset size) none other = if-plain p.hazard.fail_read (DiskFailed ∷ []) [] ((refl, refl), tt) tt
turns-plain o p (WriteCall offset bytes) none other = if-plain p.hazard.fail_write (Wrote offset bytes ∷ DiskFailed ∷ []) (Wrote offset bytes ∷ []) ((refl, refl), ((refl, refl), tt)) ((refl, refl), tt)
turns-plain o p SyncCall none other = if-plain p.hazard.fail_sync (DiskFailed ∷ []) (Synced ∷ []) ((refl, refl), tt) ((refl, refl), tt)

not-open : (owed : OwedCall) (setup : Setup) → site_call owed ≡ OpenCall setup → ⊥
not-open (SendTill till reply) setup e = cc
not-open (SendPt pt sending) setup e = cc
not-open (CutTill till) setup e = cc
not-open (CutPt pt) setup e = cc
not-open (LinkPt pt) setup e = cc
not-open (WriteBody slot the_record) setup e = cc
not-open (WriteGate slot the_record) setup e = cc
not-open WriteFirstGate setup e = cc
not-open Sync setup e = cc

owed-not-open : (v : View) (call : SiteCall) → IsOwedCall v call → (setup : Setup) → call ≡ OpenCall setup → ⊥
owed-not-open v call (inl (owed, next, is)) setup e = not-open owed setup (sym is ∙ e)
owed-not-open v call (inr (may, is)) setup e = let h : PollCall ≡ OpenCall setup = sym is ∙ e in cc

measuring-not-open : (v : View) (call : SiteCall) (looks : Bool) → IsMeasuring looks v call → (setup : Setup) → call ≡ OpenCall setup → ⊥
measuring-not-open v call true is setup e = let h : LengthCall ≡ OpenCall setup = sym is ∙ e in cc
measuring-not-open v call false owed setup e = owed-not-open v call owed setup e

-- once the site was opened no opening is due
due-not-open : (own : Setup) (v : View) (look : Look) (call : SiteCall) → IsPastOpening look → IsDueCall own v look call → (setup : Setup) → call ≡ OpenCall setup → ⊥
due-not-open own v Unopened call opened due setup e = opened
due-not-open own v Unmeasured call opened due setup e = measuring-not-open v call (is_looking v.scene.stage) due setup e
due-not-open own v Measured call opened due setup e = let h : ReadCall due.offset due.size ≡ OpenCall setup = sym due.call_is ∙ e in cc
due-not-open own v Looked call opened (inl due) setup e = owed-not-open v call due setup e
due-not-open own v Looked call opened (inr due) setup e = let h : ReadCall due.offset due.size ≡ OpenCall setup = sym due.call_is ∙ e in cc

-- the site is to be opened
abbrev is_unopened : Look → Bool
is_unopened Unopened = true
is_unopened Unmeasured = false
is_unopened Measured = false
is_unopened Looked = false

-- while it is, the power is there
abbrev HasPower : Look → Play → Type 0
HasPower look p = look ≡ Unopened → p.off ≡ None

opened-flag : (look : Look) → IsPastOpening look → is_unopened look ≡ false
opened-flag Unopened opened = absurd opened
opened-flag Unmeasured opened = refl
opened-flag Measured opened = refl
opened-flag Looked opened = refl

opened-power : (look : Look) (p : Play) → IsPastOpening look → HasPower look p
opened-power Unopened p opened = absurd opened
opened-power Unmeasured p opened = λ e. absurd (let h : Unmeasured ≡ Unopened = e in cc)
opened-power Measured p opened = λ e. absurd (let h : Measured ≡ Unopened = e in cc)
opened-power Looked p opened = λ e. absurd (let h : Looked ≡ Unopened = e in cc)

opening-runs : (own : Setup) (fails : Bool) (later : List Turn) → AreRuns own false later → AreRuns own true ((if fails then OpenFailed ∷ [] else Start own ∷ []) ++ later)
opening-runs own true later runs = (inr refl, runs)
opening-runs own false later runs = (inl refl, runs)

call-runs : (own : Setup) (v : View) (look : Look) (o : Outside) (p : Play) (call : SiteCall) (turns later : List Turn) → IsDueCall own v look call → CallFits o p call turns → AreRuns own false later → AreRuns own (is_unopened look) (turns ++ later)
call-runs own v Unopened o p call turns later due fits runs = subst (λ t. AreRuns own true (t ++ later)) (sym (fits.1 ∙ ap (call_turns o p) due)) (opening-runs own p.hazard.fail_open later runs)
call-runs own v Unmeasured o p call turns later due fits runs = runs-after own turns later (subst ArePlain (sym fits.1) (turns-plain o p call fits.0.no_event (due-not-open own v Unmeasured call tt due))) runs
call-runs own v Measured o p call turns later due fits runs = runs-after own turns later (subst ArePlain (sym fits.1) (turns-plain o p call fits.0.no_event (due-not-open own v Measured call tt due))) runs
call-runs own v Looked o p call turns later due fits runs = runs-after own turns later (subst ArePlain (sym fits.1) (turns-plain o p call fits.0.no_event (due-not-open own v Looked call tt due))) runs

back-runs : (own : Setup) (look : Look) (p : Play) (kind : ImageKind) (file : List ℕ) (later : List Turn) → HasPower look p → p.off ≡ Some kind → AreRuns own true later → AreRuns own (is_unopened look) (Crash file ∷ later)
back-runs own Unopened p kind file later power off runs = on_or_off p kind (power refl) off
back-runs own Unmeasured p kind file later power off runs = (refl, runs)
back-runs own Measured p kind file later power off runs = (refl, runs)
back-runs own Looked p kind file later power off runs = (refl, runs)

are-runs : (own : Setup) (acts : List Act) (v : View) (look : Look) (past : List Turn) (p : Play) → HasPower look p → Goes own v look past p acts → AreRuns own (is_unopened look) (turns_of (moves_of acts))
are-runs own [] v look past p power g = none-runs look
  where
    none-runs : (look : Look) → AreRuns own (is_unopened look) []
    none-runs Unopened = tt
    none-runs Unmeasured = tt
    none-runs Measured = tt
    none-runs Looked = tt
are-runs own (ToBegin ∷ acts) v look past p power g = are-runs own acts (after v Begin) look past p power (goes-begin own v look past p acts g)
are-runs own (ToRead as_read ∷ acts) v look past p power g = are-runs own acts (after v (Read as_read)) look past p power (goes-read own v look past p as_read acts g)
are-runs own (ToTake taken ∷ acts) v look past p power g =
    subst (AreRuns own (is_unopened look)) (sym (turns-before taken.turns (moves_of acts))) (by_step (first-step own v look past p taken acts g) (λ has. are-runs own acts _ (look_after_step own v look taken.step) (past ++ taken.turns) (place_after_step past p taken.step) has (goes-on own v look past p taken acts g)))
  where
    by_step : IsCallStep own v look past p taken.step taken.turns ⊎ IsPowerStep past p taken.step taken.turns → (HasPower (look_after_step own v look taken.step) (place_after_step past p taken.step) → AreRuns own (is_unopened (look_after_step own v look taken.step)) (turns_of (moves_of acts))) →
        AreRuns own (is_unopened look) (taken.turns ++ turns_of (moves_of acts))
    by_step (inl s) later =
        let opened : IsPastOpening (look_after_step own v look taken.step) = subst (λ step. IsPastOpening (look_after_step own v look step)) (sym s.step_is) (opened-after own v look s.call s.due) in
        call-runs own v look (outside_of past) p s.call taken.turns (turns_of (moves_of acts)) s.due s.fits
        (subst (λ flag. AreRuns own flag (turns_of (moves_of acts))) (opened-flag (look_after_step own v look taken.step) opened) (later (opened-power (look_after_step own v look taken.step) (place_after_step past p taken.step) opened)))
    by_step (inr s) later =
        let has : HasPower (look_after_step own v look taken.step) (place_after_step past p taken.step) = subst (λ step. HasPower (look_after_step own v look step) (place_after_step past p step)) (sym s.step_is) (λ e. refl) in
        let runs : AreRuns own true (turns_of (moves_of acts)) = subst (λ step. AreRuns own (is_unopened (look_after_step own v look step)) (turns_of (moves_of acts))) s.step_is (later has) in
        subst (λ t. AreRuns own (is_unopened look) (t ++ turns_of (moves_of acts))) (sym s.turns_are) (back-runs own look p s.kind (crash_file s.kind (outside_of past)) (turns_of (moves_of acts)) power s.off runs)

-- ---- the law

log-lawful : (text : List ℕ) (log : List Turn) → IsLogOf text log → IsLawful log
log-lawful text log x = lawful-along log (moves_of x.acts) x.done.log_is x.done.lawful

own-plays : (text : List ℕ) (log : List Turn) (x : IsLogOf text log) → PlaysLines x.script.lines log
own-plays text log x =
    let taken = taken_of x.acts in
    let parts = (steps-have-their-turns.in_parts x.script.lines (steps_of taken) (turns_of_steps taken)).1 (x.turns, same-size taken) in
    let played = (steps-have-their-turns.log_in_parts x.script.lines (steps_of taken) log).1 (turns_of_steps taken, parts, sym x.done.log_is ∙ turns-of-acts x.acts) in
    calls-play x.script.lines (steps_of taken) log (scripted (setup_of x.script.given) x.acts at_first Unopened x.done.due) played

own-runs : (text : List ℕ) (log : List Turn) (x : IsLogOf text log) → AreRuns (setup_of x.script.given) true log
own-runs text log x =
    subst (AreRuns (setup_of x.script.given) true) x.done.log_is
    (are-runs (setup_of x.script.given) x.acts at_first Unopened [] (begins x.script.lines) (λ e. refl) (record { lawful = x.done.lawful; due = x.done.due; turns = x.power }))

pub log-plays : (text : List ℕ) (script : Script) (log : List Turn) → script_of text ≡ Ok script → IsLogOf text log → PlaysLines script.lines log
log-plays text script log e x = subst (λ (s : Script). PlaysLines s.lines log) (one-script text x.script script x.script_is e) (own-plays text log x)

pub log-is-played : LogIsPlayed
log-is-played = record {
  lawful = log-lawful;
  plays = log-plays;
  runs = λ text script log e x. subst (λ (s : Script). AreRuns (setup_of s.given) true log) (one-script text x.script script x.script_is e) (own-runs text log x);
}
