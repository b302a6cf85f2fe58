-- Lines without failures: along a log that plays them no opening and no call on the disk fails, and the power is there.
use Rattle.std.proofs.Common.{◌≡◌, ℕ, List, [], ◌∷◌, ◌++◌, refl, sym, ◌∙◌, ap, subst, inl, inr, true, false}
use Rattle.std.specs.List.{AllByRecursion}
use Rattle.std.specs.Prelude.{Bool, if◌then◌else◌, Some, None}
use Rattle.gw_base.specs.declared.setup.Setup.{Setup}
use Rattle.gw_site.specs.Outside.{Outside, outside_after, nothing_yet}
use Rattle.gw_site.specs.Sorts.{IsQuiet, is_between, sort_of}
use Rattle.gw_site.specs.declared.turn.Turn.{Turn}
use Rattle.gw_site.specs.declared.turn.Turn.TheVariants.{Start, OpenFailed, Polled, Opened, HeardTill, Closed, HeardPt, Lost, Stopped, Linked, LinkFailed, SentTill, SentPt, CutTill, CutPt, Wrote, Synced, DiskFailed, Crash}
use Rattle.gw_script.specs.site.ByLines.{HasNoFailures}
use Rattle.gw_script.specs.site.Hazards.{Hazard, links_without, sends_without}
use Rattle.gw_script.specs.site.Playing.{Play, DiskCall, Write, Sync, Length, Read, DiskFails, Falls, Fits, Leads, PlaysLines, after_poll, applies, begins, brings, counted, fallen, linked_to_pt, met, met_coming, one_call_less, play_after, send_failed_pt, send_failed_till, sent_to_pt, then_coming}
use Rattle.gw_script.specs.site.ScriptLine.{Event, PlayedLine, At, Poll, Fail, Power, ForgetPower}
use Rattle.gw_run.specs.ScriptLog.{AreRuns, IsEnded, IsRunWith, IsStopped, is_opening, is_power_failure}
use Rattle.gw_run.proofs.ByLinesActLemmas.{begins-calm}

-- no opening, no call on the disk and no power is to fail
abbrev IsSafe : Hazard → Type 0
IsSafe h = (h.fail_open ≡ false) × (h.fail_write ≡ false) × (h.fail_sync ≡ false) × (h.fail_length ≡ false) × (h.fail_read ≡ false) × (h.power ≡ None)

-- none of these fails, nor will by the lines that are left
abbrev IsCalm : Play → Type 0
IsCalm p = (HasNoFailures p.lines) × IsSafe p.hazard × (p.failing ≡ false) × (p.off ≡ None)

-- the turn is none by which an opening, a call on the disk or the power has failed
abbrev pub IsGoodTurn : Turn → Type 0
IsGoodTurn (Start setup) = Unit {0}
IsGoodTurn OpenFailed = ⊥
IsGoodTurn (Polled now) = Unit {0}
IsGoodTurn (Opened till) = Unit {0}
IsGoodTurn (HeardTill till bytes) = Unit {0}
IsGoodTurn (Closed till) = Unit {0}
IsGoodTurn (HeardPt pt bytes) = Unit {0}
IsGoodTurn (Lost pt) = Unit {0}
IsGoodTurn Stopped = Unit {0}
IsGoodTurn (Linked pt) = Unit {0}
IsGoodTurn (LinkFailed pt) = Unit {0}
IsGoodTurn (SentTill till bytes ok) = Unit {0}
IsGoodTurn (SentPt pt bytes ok) = Unit {0}
IsGoodTurn (CutTill till) = Unit {0}
IsGoodTurn (CutPt pt) = Unit {0}
IsGoodTurn (Wrote offset bytes) = Unit {0}
IsGoodTurn Synced = Unit {0}
IsGoodTurn DiskFailed = ⊥
IsGoodTurn (Crash file) = ⊥

-- ---- polls

-- all but the lines that are left
abbrev IsAtRest : Play → Type 0
IsAtRest p = IsSafe p.hazard × (p.failing ≡ false) × (p.off ≡ None)

-- a poll that meets an event, or goes on
met-event : (test : Bool) (p other : Play) (event : Event) (lines : List PlayedLine) → HasNoFailures lines → IsAtRest p → IsCalm other → IsCalm (if test then record p { lines = lines; due = brings event } else other)
met-event true p other event lines e rest calm = (e, rest.0, rest.1, rest.2)
met-event false p other event lines e rest calm = calm

met-calm : (o : Outside) (p : Play) (lines : List PlayedLine) → HasNoFailures lines → IsAtRest p → IsCalm (met o p lines)
met-calm o p [] e rest = (tt, rest.0, rest.1, rest.2)
met-calm o p (At now ∷ lines) e rest = met-calm o (record p { moment = now }) lines e rest
met-calm o p (Poll event ∷ lines) e rest = met-event (applies o event) p (met o p lines) event lines e rest (met-calm o p lines e rest)
met-calm o p (Fail failing ∷ lines) e rest = absurd e
met-calm o p (Power calls kind ∷ lines) e rest = absurd e
met-calm o p (ForgetPower ∷ lines) e rest = absurd e

coming-calm : (o : Outside) (p : Play) (events : List Event) → HasNoFailures p.lines → IsAtRest p → IsCalm (met_coming o events p)
coming-calm o p [] e rest = met-calm o (then_coming [] p) p.lines e rest
coming-calm o p (event ∷ events) e rest = by_test (applies o event) (coming-calm o p events e rest)
  where
    by_test : (test : Bool) → IsCalm (met_coming o events p) → IsCalm (if test then record (then_coming events p) { due = brings event } else met_coming o events p)
    by_test true calm = (e, rest.0, rest.1, rest.2)
    by_test false calm = calm

poll-calm : (o : Outside) (p : Play) → IsCalm p → IsCalm (after_poll o p)
poll-calm o p calm = coming-calm o p p.peers.coming calm.0 (calm.1, calm.2, calm.3)

-- ---- turns

counted-calm : (p : Play) → IsCalm p → IsCalm (counted p)
counted-calm p calm = subst (λ power. IsCalm (one_call_less power p)) (sym calm.1.5) calm

sent-till-calm : (till : ℕ) (ok : Bool) (p : Play) → IsCalm p → IsCalm (send_failed_till till ok p)
sent-till-calm till true p calm = counted-calm p calm
sent-till-calm till false p calm = counted-calm (record p { hazard = record p.hazard { fail_tills = sends_without p.hazard.fail_tills till } }) calm

sent-pt-calm : (pt : ℕ) (ok : Bool) (p : Play) → IsCalm p → IsCalm (send_failed_pt pt ok p)
sent-pt-calm pt true p calm = counted-calm p calm
sent-pt-calm pt false p calm = counted-calm (record p { hazard = record p.hazard { fail_pts = sends_without p.hazard.fail_pts pt } }) calm

-- a failure of the disk doesn't fit
disk-calm : (call : DiskCall) (p : Play) → IsCalm p → DiskFails call p → ⊥
disk-calm Write p calm fails = let n : false ≡ true = sym calm.2 ∙ fails.1 in cc
disk-calm Sync p calm fails = let n : false ≡ true = sym calm.1.2 ∙ fails.1 in cc
disk-calm Length p calm fails = let n : false ≡ true = sym calm.1.3 ∙ fails.1 in cc
disk-calm Read p calm fails = let n : false ≡ true = sym calm.1.4 ∙ fails.1 in cc

-- nor does a power failure
crash-calm : (o : Outside) (p : Play) (file : List ℕ) → IsCalm p → Falls o p file → ⊥
crash-calm o p file calm falls = let n : None ≡ Some falls.kind = sym (poll-calm o p calm).3 ∙ subst (λ off. (fallen o off p).off ≡ Some falls.kind) calm.3 falls.off in cc

-- where all is calm, no opening, no call on the disk and no power has failed with a turn that fits
good-turn : (o : Outside) (call : DiskCall) (p : Play) (turn : Turn) → IsCalm p → Fits o call p turn → IsGoodTurn turn
good-turn o call p (Start setup) calm fits = tt
good-turn o call p OpenFailed calm fits = let n : false ≡ true = sym calm.1.0 ∙ fits.1 in cc
good-turn o call p (Polled now) calm fits = tt
good-turn o call p (Opened till) calm fits = tt
good-turn o call p (HeardTill till bytes) calm fits = tt
good-turn o call p (Closed till) calm fits = tt
good-turn o call p (HeardPt pt bytes) calm fits = tt
good-turn o call p (Lost pt) calm fits = tt
good-turn o call p Stopped calm fits = tt
good-turn o call p (Linked pt) calm fits = tt
good-turn o call p (LinkFailed pt) calm fits = tt
good-turn o call p (SentTill till bytes ok) calm fits = tt
good-turn o call p (SentPt pt bytes ok) calm fits = tt
good-turn o call p (CutTill till) calm fits = tt
good-turn o call p (CutPt pt) calm fits = tt
good-turn o call p (Wrote offset bytes) calm fits = tt
good-turn o call p Synced calm fits = tt
good-turn o call p DiskFailed calm fits = disk-calm call p calm fits
good-turn o call p (Crash file) calm fits = crash-calm o p file calm fits

-- and all is calm after it
calm-after : (o : Outside) (call : DiskCall) (p : Play) (turn : Turn) → IsCalm p → IsGoodTurn turn → IsCalm (play_after o call p turn)
calm-after o call p (Start setup) calm served = counted-calm p calm
calm-after o call p (Polled now) calm served = poll-calm o p calm
calm-after o call p (Opened till) calm served = calm
calm-after o call p (HeardTill till bytes) calm served = calm
calm-after o call p (Closed till) calm served = calm
calm-after o call p (HeardPt pt bytes) calm served = calm
calm-after o call p (Lost pt) calm served = calm
calm-after o call p Stopped calm served = calm
calm-after o call p (Linked pt) calm served = counted-calm (linked_to_pt pt p) calm
calm-after o call p (LinkFailed pt) calm served = counted-calm (record p { hazard = record p.hazard { fail_links = links_without p.hazard.fail_links pt } }) calm
calm-after o call p (SentTill till bytes ok) calm served = sent-till-calm till ok p calm
calm-after o call p (SentPt pt bytes ok) calm served = sent-pt-calm pt ok (sent_to_pt pt bytes p) calm
calm-after o call p (CutTill till) calm served = counted-calm p calm
calm-after o call p (CutPt pt) calm served = counted-calm p calm
calm-after o call p (Wrote offset bytes) calm served =
    let safe = calm.1 in
    counted-calm (record p { failing = p.hazard.fail_write; hazard = record p.hazard { fail_write = false } }) (calm.0, (safe.0, refl, safe.2, safe.3, safe.4, safe.5), safe.1, calm.3)
calm-after o call p Synced calm served = counted-calm p calm
calm-after o call p OpenFailed calm served = absurd served
calm-after o call p DiskFailed calm served = absurd served
calm-after o call p (Crash file) calm served = absurd served

-- ---- logs

-- all is calm before the first turn
calm-begins : (lines : List PlayedLine) → HasNoFailures lines → IsCalm (begins lines)
calm-begins lines plain = subst IsCalm (sym (begins-calm lines plain)) (plain, (refl, refl, refl, refl, refl, refl), refl, refl)

good-turns : (o : Outside) (p : Play) (turns : List Turn) (q : Play) → IsCalm p → Leads o p turns q → AllByRecursion IsGoodTurn turns
good-turns o p [] q calm leads = tt
good-turns o p (turn ∷ turns) q calm (call, fits, leads) =
    let good = good-turn o call p turn calm fits in
    (good, good-turns (outside_after o turn) (play_after o call p turn) turns q (calm-after o call p turn calm good) leads)

-- nothing of these has failed in a log that plays lines without failures
good-log : (lines : List PlayedLine) (log : List Turn) → HasNoFailures lines → PlaysLines lines log → AllByRecursion IsGoodTurn log
good-log lines log plain (q, leads) = good-turns nothing_yet (begins lines) log q (calm-begins lines plain) leads

-- a turn that isn't an opening is of a run
quiet-turn : (turn : Turn) → IsGoodTurn turn → is_opening (sort_of turn) ≡ false → (is_between turn ≡ false) × (is_power_failure (sort_of turn) ≡ false)
quiet-turn (Start setup) good e = absurd (let h : true ≡ false = e in cc)
quiet-turn OpenFailed good e = absurd good
quiet-turn (Polled now) good e = (refl, refl)
quiet-turn (Opened till) good e = (refl, refl)
quiet-turn (HeardTill till bytes) good e = (refl, refl)
quiet-turn (Closed till) good e = (refl, refl)
quiet-turn (HeardPt pt bytes) good e = (refl, refl)
quiet-turn (Lost pt) good e = (refl, refl)
quiet-turn Stopped good e = (refl, refl)
quiet-turn (Linked pt) good e = (refl, refl)
quiet-turn (LinkFailed pt) good e = (refl, refl)
quiet-turn (SentTill till bytes ok) good e = (refl, refl)
quiet-turn (SentPt pt bytes ok) good e = (refl, refl)
quiet-turn (CutTill till) good e = (refl, refl)
quiet-turn (CutPt pt) good e = (refl, refl)
quiet-turn (Wrote at bytes) good e = (refl, refl)
quiet-turn Synced good e = (refl, refl)
quiet-turn DiskFailed good e = absurd good
quiet-turn (Crash file) good e = absurd good

quiet-run : (own : Setup) (turns : List Turn) → AllByRecursion IsGoodTurn turns → AreRuns own false turns → IsQuiet turns
quiet-run own [] good runs = tt
quiet-run own (turn ∷ turns) good runs =
    let q = quiet-turn turn good.0 runs.0 in
    (q.0, quiet-run own turns good.1 (subst (λ due. AreRuns own due turns) q.1 runs.1))

last-good : (turn : Turn) (log prefix : List Turn) → AllByRecursion IsGoodTurn log → log ≡ prefix ++ turn ∷ [] → IsGoodTurn turn
last-good turn log [] good e = (subst (AllByRecursion IsGoodTurn) e good).0
last-good turn [] (first ∷ prefix) good e = absurd (let h : [] ≡ first ∷ (prefix ++ turn ∷ []) = e in cc)
last-good turn (other ∷ log) (first ∷ prefix) good e = last-good turn log prefix good.1 (let h : other ∷ log ≡ first ∷ (prefix ++ turn ∷ []) = e in let k : log ≡ prefix ++ turn ∷ [] = cc in k)

good-stops : (log : List Turn) → AllByRecursion IsGoodTurn log → IsEnded log → IsStopped log
good-stops log good (inl stops) = stops
good-stops log good (inr (inl (prefix, e))) = absurd (last-good OpenFailed log prefix good e)
good-stops log good (inr (inr (prefix, e))) = absurd (last-good DiskFailed log prefix good e)

one-run : (own : Setup) (log : List Turn) → AllByRecursion IsGoodTurn log → IsStopped log → AreRuns own true log → IsRunWith own log
one-run own [] good (prefix, e) runs = absurd (none-stops prefix e)
  where
    none-stops : (prefix : List Turn) → [] ≡ prefix ++ Stopped ∷ [] → ⊥
    none-stops [] e = cc
    none-stops (turn ∷ prefix) e = cc
one-run own (turn ∷ turns) good stops (inl is, runs) = (turns, ap (λ t. t ∷ turns) is, quiet-run own turns good.1 runs)
one-run own (turn ∷ turns) good stops (inr is, runs) = absurd (subst IsGoodTurn is good.0)

-- it is one run, to the stop
pub plain-runs : (own : Setup) (lines : List PlayedLine) (log : List Turn) → HasNoFailures lines → PlaysLines lines log → IsEnded log → AreRuns own true log → IsRunWith own log × IsStopped log
plain-runs own lines log plain plays ends runs =
    let good = good-log lines log plain plays in
    let stops = good-stops log good ends in
    (one-run own log good stops runs, stops)
