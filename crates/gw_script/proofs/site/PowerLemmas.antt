-- The power fails at most once for each line that says so, and each power failure leaves fewer that can come.
use Rattle.std.proofs.Common.{◌≡◌, ℕ, ◌+◌, ◌≤◌, List, [], ◌∷◌, ◌++◌, refl, ◌∙◌, ap, arith, true, false}
use Rattle.std.proofs.Math.Logic.{∥∥₁_elim}
use Rattle.std.proofs.Props.{props}
use Rattle.std.specs.Prelude.{Bool, ◌||◌, ◌-◌, nat_le, ◌==◌, if◌then◌else◌, Option, Some, None, is_some}
use Rattle.gw_site.specs.Outside.{Outside, outside_after, outside_of, nothing_yet}
use Rattle.gw_site.specs.Sorts.{sort_of}
use Rattle.gw_site.specs.declared.turn.Turn.{Turn}
use Rattle.gw_site.specs.declared.turn.Turn.TheVariants.{Start, OpenFailed, Polled, Opened, HeardTill, Closed, HeardPt, Lost, Stopped, Linked, LinkFailed, SentTill, SentPt, CutTill, CutPt, Wrote, Synced, DiskFailed, Crash}
use Rattle.gw_site.specs.Steps.{ImageKind, SiteCall, OpenCall, PollCall, SendTillCall, SendPtCall, LinkCall, CutTillCall, CutPtCall, LengthCall, ReadCall, WriteCall, SyncCall, SiteStep, Made, PowerBack, StopAfter, Holding}
use Rattle.gw_script.specs.site.ScriptLine.{Failing, FailOpen, FailLink, FailSendTill, FailSendPt, FailWrite, FailSync, FailLength, FailRead, Event, Open, Close, FromTill, FromPt, Lose, Tick, PlayedLine, At, Poll, Fail, Power, ForgetPower}
use Rattle.gw_script.specs.site.Hazards.{Armed, Hazard, armed, crash_file, is_failing, is_reached, links_without, no_hazard, sends_without}
use Rattle.gw_script.specs.site.Playing.{DiskCall, Write, Sync, Length, Read, Fits, Leads, Play, PlaysLines, after_poll, applies, begins, brings, counted, disk_failed, early_hazard, early_lines, fails_next, fallen, is_early, is_off, linked_to_pt, met, met_coming, one_call_less, play_after, power_forgotten, powered, restarted, send_failed_pt, send_failed_till, sent_to_pt, then_coming}
use Rattle.gw_script.specs.site.Calls.{LeadsBy, are_scripted, call_turns, place_after, play_from, polled_place, polled_turns, set_to_fail}
use Rattle.gw_script.specs.site.Powers.{EachFailureLeavesFewer, FailuresAddUp, PowerFailsOncePerLine, failures_of, is_failure_due, power_failures, power_failures_left, power_lines}

pub failures-add-up : FailuresAddUp
failures-add-up [] more = omega arith
failures-add-up (turn ∷ log) more = let later = failures-add-up log more in omega arith

-- ---- what is due

abbrev one_if : Bool → ℕ
one_if test = if test then 1 else 0

-- 1 where a power failure is due, else 0
abbrev pending : Play → ℕ
pending p = one_if (is_failure_due p)

at_most_one : (test : Bool) → one_if test ≤ 1
at_most_one true = omega arith
at_most_one false = omega arith

-- where it fails after some more calls, one is due
armed_due : (p : Play) (countdown : Armed) → p.hazard.power ≡ Some countdown → pending p ≡ 1
armed_due p countdown e = by_off (is_some p.off)
  where
    by_off : (off : Bool) → one_if (off || is_some p.hazard.power) ≡ 1
    by_off true = refl
    by_off false = ap (λ (power : Option Armed). one_if (is_some power)) e

-- where it has failed, one is due
off_due : (p : Play) (kind : ImageKind) → p.off ≡ Some kind → pending p ≡ 1
off_due p kind e = ap (λ (off : Option ImageKind). one_if (is_some off || is_some p.hazard.power)) e

-- ---- calls and turns

less_leaves : (power : Option Armed) (p : Play) → p.hazard.power ≡ power → power_failures_left (one_call_less power p) ≤ power_failures_left p
less_leaves None p e = omega arith
less_leaves (Some countdown) p e = by_last (nat_le countdown.calls 1)
  where
    by_last : (last : Bool) → power_failures_left (if last then is_off countdown.kind p else powered (countdown.calls - 1) countdown.kind p) ≤ power_failures_left p
    by_last true = omega (arith, armed_due p countdown e)
    by_last false = omega (arith, armed_due p countdown e, at_most_one (is_failure_due (powered (countdown.calls - 1) countdown.kind p)))

counted_leaves : (p : Play) → power_failures_left (counted p) ≤ power_failures_left p
counted_leaves p = less_leaves p.hazard.power p refl

till_leaves : (p : Play) (till : ℕ) (ok : Bool) → power_failures_left (send_failed_till till ok p) ≤ power_failures_left p
till_leaves p till true = counted_leaves p
till_leaves p till false = counted_leaves (record p { hazard = record p.hazard { fail_tills = sends_without p.hazard.fail_tills till } })

pt_leaves : (p : Play) (pt : ℕ) (ok : Bool) → power_failures_left (send_failed_pt pt ok p) ≤ power_failures_left p
pt_leaves p pt true = counted_leaves p
pt_leaves p pt false = counted_leaves (record p { hazard = record p.hazard { fail_pts = sends_without p.hazard.fail_pts pt } })

disk_leaves : (p : Play) (call : DiskCall) → power_failures_left (disk_failed call p) ≤ power_failures_left p
disk_leaves p Write = omega arith
disk_leaves p Sync = counted_leaves (record p { hazard = record p.hazard { fail_sync = false } })
disk_leaves p Length = omega arith
disk_leaves p Read = omega arith

-- a fail line arms no power failure
armed_power : (failing : Failing) (h : Hazard) → (armed failing h).power ≡ h.power
armed_power FailOpen h = refl
armed_power (FailLink pt) h = refl
armed_power (FailSendTill till most) h = refl
armed_power (FailSendPt pt most) h = refl
armed_power FailWrite h = refl
armed_power FailSync h = refl
armed_power FailLength h = refl
armed_power FailRead h = refl

-- what is left where a fail line was passed: no event more is due, and no power failure
record IsPassed (p q : Play) : Type 0 where
  event : q.due ≡ p.due
  power : pending q ≡ pending p

passed : (o : Outside) (failing : Failing) (p : Play) → IsPassed p (fails_next o failing p)
passed o failing p = by_test (is_reached o failing)
  where
    by_test : (test : Bool) → IsPassed p (if test then record p { hazard = armed failing p.hazard } else p)
    by_test true = record { event = refl; power = ap (λ (power : Option Armed). one_if (is_some p.off || is_some power)) (armed_power failing p.hazard) }
    by_test false = record { event = refl; power = refl }

-- where it is forgotten, no more are due
forgotten_pending : (p : Play) → pending (power_forgotten p) ≤ pending p
forgotten_pending p = by_test (is_some p.off) (is_some p.hazard.power)
  where
    by_test : (off power : Bool) → one_if (off || false) ≤ one_if (off || power)
    by_test true power = omega arith
    by_test false power = omega arith

met_leaves : (o : Outside) (p : Play) (lines : List PlayedLine) → power_failures_left (met o p lines) ≤ pending p + power_lines lines
met_leaves o p [] = omega arith
met_leaves o p (At now ∷ lines) = met_leaves o (record p { moment = now }) lines
met_leaves o p (Poll event ∷ lines) = by_test (applies o event) (met_leaves o p lines)
  where
    by_test : (test : Bool) → power_failures_left (met o p lines) ≤ pending p + power_lines lines → power_failures_left (if test then record p { lines = lines; due = brings event } else met o p lines) ≤ pending p + power_lines lines
    by_test true later = omega arith
    by_test false later = later
met_leaves o p (Fail failing ∷ lines) =
    let later = met_leaves o (fails_next o failing p) lines in
    let same = (passed o failing p).power in
    omega arith
met_leaves o p (Power calls kind ∷ lines) = by_test (calls == 0) (met_leaves o (powered calls kind p) lines)
  where
    by_test : (test : Bool) → power_failures_left (met o (powered calls kind p) lines) ≤ pending (powered calls kind p) + power_lines lines → power_failures_left (if test then is_off kind (record p { lines = lines }) else met o (powered calls kind p) lines) ≤ pending p + (1 + power_lines lines)
    by_test true later = omega arith
    by_test false later = omega (arith, at_most_one (is_failure_due (powered calls kind p)))
met_leaves o p (ForgetPower ∷ lines) = omega (arith, met_leaves o (power_forgotten p) lines, forgotten_pending p)

-- so it is with what is still to come of played terminals
coming_leaves : (o : Outside) (p : Play) (events : List Event) → power_failures_left (met_coming o events p) ≤ pending p + power_lines p.lines
coming_leaves o p [] = met_leaves o (then_coming [] p) p.lines
coming_leaves o p (event ∷ events) = by_test (applies o event) (coming_leaves o p events)
  where
    by_test : (test : Bool) → power_failures_left (met_coming o events p) ≤ pending p + power_lines p.lines
        → power_failures_left (if test then record (then_coming events p) { due = brings event } else met_coming o events p) ≤ pending p + power_lines p.lines
    by_test true later = omega arith
    by_test false later = later

poll_leaves : (o : Outside) (p : Play) → power_failures_left (after_poll o p) ≤ power_failures_left p
poll_leaves o p = coming_leaves o p p.peers.coming

fallen_leaves : (o : Outside) (off : Option ImageKind) (p : Play) → power_failures_left (fallen o off p) ≤ power_failures_left p
fallen_leaves o None p = poll_leaves o p
fallen_leaves o (Some kind) p = omega arith

restarted_leaves : (p : Play) → power_failures_left (restarted p) ≤ power_failures_left p
restarted_leaves p = omega arith

restarted_one : (p : Play) (kind : ImageKind) → p.off ≡ Some kind → power_failures_left p ≡ 1 + power_failures_left (restarted p)
restarted_one p kind e = omega (arith, off_due p kind e)

turn_leaves : (o : Outside) (call : DiskCall) (p : Play) (turn : Turn) → power_failures_left (play_after o call p turn) ≤ power_failures_left p
turn_leaves o call p (Start setup) = counted_leaves p
turn_leaves o call p OpenFailed = counted_leaves (record p { hazard = record p.hazard { fail_open = false } })
turn_leaves o call p (Polled now) = poll_leaves o p
turn_leaves o call p (Opened till) = omega arith
turn_leaves o call p (HeardTill till bytes) = omega arith
turn_leaves o call p (Closed till) = omega arith
turn_leaves o call p (HeardPt pt bytes) = omega arith
turn_leaves o call p (Lost pt) = omega arith
turn_leaves o call p Stopped = omega arith
turn_leaves o call p (Linked pt) = counted_leaves (linked_to_pt pt p)
turn_leaves o call p (LinkFailed pt) = counted_leaves (record p { hazard = record p.hazard { fail_links = links_without p.hazard.fail_links pt } })
turn_leaves o call p (SentTill till bytes ok) = till_leaves p till ok
turn_leaves o call p (SentPt pt bytes ok) = pt_leaves (sent_to_pt pt bytes p) pt ok
turn_leaves o call p (CutTill till) = counted_leaves p
turn_leaves o call p (CutPt pt) = counted_leaves p
turn_leaves o call p (Wrote offset bytes) = counted_leaves (record p { failing = p.hazard.fail_write; hazard = record p.hazard { fail_write = false } })
turn_leaves o call p Synced = counted_leaves p
turn_leaves o call p DiskFailed = disk_leaves p call
turn_leaves o call p (Crash file) = omega (arith, fallen_leaves o p.off p, restarted_leaves (fallen o p.off p))

-- ---- logs

not_counted : (m n : ℕ) → m ≤ n → 0 + m ≤ n
not_counted m n le = omega arith

turn_counts : (o : Outside) (call : DiskCall) (p : Play) (turn : Turn) → Fits o call p turn → failures_of (sort_of turn) + power_failures_left (play_after o call p turn) ≤ power_failures_left p
turn_counts o call p (Start setup) fits = not_counted _ _ (turn_leaves o call p (Start setup))
turn_counts o call p OpenFailed fits = not_counted _ _ (turn_leaves o call p OpenFailed)
turn_counts o call p (Polled now) fits = not_counted _ _ (turn_leaves o call p (Polled now))
turn_counts o call p (Opened till) fits = not_counted _ _ (turn_leaves o call p (Opened till))
turn_counts o call p (HeardTill till bytes) fits = not_counted _ _ (turn_leaves o call p (HeardTill till bytes))
turn_counts o call p (Closed till) fits = not_counted _ _ (turn_leaves o call p (Closed till))
turn_counts o call p (HeardPt pt bytes) fits = not_counted _ _ (turn_leaves o call p (HeardPt pt bytes))
turn_counts o call p (Lost pt) fits = not_counted _ _ (turn_leaves o call p (Lost pt))
turn_counts o call p Stopped fits = not_counted _ _ (turn_leaves o call p Stopped)
turn_counts o call p (Linked pt) fits = not_counted _ _ (turn_leaves o call p (Linked pt))
turn_counts o call p (LinkFailed pt) fits = not_counted _ _ (turn_leaves o call p (LinkFailed pt))
turn_counts o call p (SentTill till bytes ok) fits = not_counted _ _ (turn_leaves o call p (SentTill till bytes ok))
turn_counts o call p (SentPt pt bytes ok) fits = not_counted _ _ (turn_leaves o call p (SentPt pt bytes ok))
turn_counts o call p (CutTill till) fits = not_counted _ _ (turn_leaves o call p (CutTill till))
turn_counts o call p (CutPt pt) fits = not_counted _ _ (turn_leaves o call p (CutPt pt))
turn_counts o call p (Wrote offset bytes) fits = not_counted _ _ (turn_leaves o call p (Wrote offset bytes))
turn_counts o call p Synced fits = not_counted _ _ (turn_leaves o call p Synced)
turn_counts o call p DiskFailed fits = not_counted _ _ (turn_leaves o call p DiskFailed)
turn_counts o call p (Crash file) fits = omega (arith, fallen_leaves o p.off p, restarted_one (fallen o p.off p) fits.kind fits.off)

-- of these numbers the first two are within the third, which is within the last
then_within : (first more left most : ℕ) → first + left ≤ most → (later : ℕ) → more + later ≤ left → first + more + later ≤ most
then_within first more left most a later b = omega arith

leads_counts : (o : Outside) (p : Play) (turns : List Turn) (after : Play) → Leads o p turns after → power_failures turns + power_failures_left after ≤ power_failures_left p
leads_counts o p [] after same = omega (arith, ap power_failures_left same)
leads_counts o p (turn ∷ turns) after (call, fits, rest) =
    then_within (failures_of (sort_of turn)) (power_failures turns) (power_failures_left (play_after o call p turn)) (power_failures_left p) (turn_counts o call p turn fits)
    (power_failures_left after) (leads_counts (outside_after o turn) (play_after o call p turn) turns after rest)

-- ---- the first place

early_power : (lines : List PlayedLine) (h : Hazard) → (early_hazard h lines).power ≡ h.power
early_power [] h = refl
early_power (At now ∷ lines) h = early_power lines h
early_power (Poll event ∷ lines) h = refl
early_power (Fail failing ∷ lines) h = early_power lines (if is_early failing then armed failing h else h) ∙ by_test (is_early failing)
  where
    by_test : (test : Bool) → (if test then armed failing h else h).power ≡ h.power
    by_test true = armed_power failing h
    by_test false = refl
early_power (Power calls kind ∷ lines) h = early_power lines h
early_power (ForgetPower ∷ lines) h = early_power lines h

early_count : (lines : List PlayedLine) → power_lines (early_lines lines) ≡ power_lines lines
early_count [] = refl
early_count (At now ∷ lines) = early_count lines
early_count (Poll event ∷ lines) = refl
early_count (Fail failing ∷ lines) = by_test (is_early failing) (early_count lines)
  where
    by_test : (test : Bool) → power_lines (early_lines lines) ≡ power_lines lines → power_lines (if test then early_lines lines else Fail failing ∷ early_lines lines) ≡ power_lines lines
    by_test true e = e
    by_test false e = e
early_count (Power calls kind ∷ lines) = ap (λ n. 1 + n) (early_count lines)
early_count (ForgetPower ∷ lines) = early_count lines

begins_left : (lines : List PlayedLine) → power_failures_left (begins lines) ≡ power_lines lines
begins_left lines = omega (arith, early_count lines, ap (λ (power : Option Armed). one_if (is_some power)) (early_power lines no_hazard))

-- ---- steps

from_leaves : (o : Outside) (call : DiskCall) (p : Play) (turns : List Turn) → power_failures_left (play_from o call p turns) ≤ power_failures_left p
from_leaves o call p [] = omega arith
from_leaves o call p (turn ∷ turns) =
    let first = turn_leaves o call p turn in
    let later = from_leaves (outside_after o turn) call (play_after o call p turn) turns in
    omega arith

polled_leaves : (p : Play) (off : Option ImageKind) → power_failures_left (polled_place p off) ≤ power_failures_left p
polled_leaves p None = omega arith
polled_leaves p (Some kind) = omega arith

call_leaves : (o : Outside) (p : Play) (call : SiteCall) → power_failures_left (place_after o p call) ≤ power_failures_left p
call_leaves o p (OpenCall setup) = from_leaves o Sync p (call_turns o p (OpenCall setup))
call_leaves o p PollCall = omega (arith, polled_leaves (after_poll o p) (after_poll o p).off, poll_leaves o p)
call_leaves o p (SendTillCall till bytes) = from_leaves o Sync p (call_turns o p (SendTillCall till bytes))
call_leaves o p (SendPtCall pt bytes) = from_leaves o Sync p (call_turns o p (SendPtCall pt bytes))
call_leaves o p (LinkCall pt) = from_leaves o Sync p (call_turns o p (LinkCall pt))
call_leaves o p (CutTillCall till) = from_leaves o Sync p (call_turns o p (CutTillCall till))
call_leaves o p (CutPtCall pt) = from_leaves o Sync p (call_turns o p (CutPtCall pt))
call_leaves o p LengthCall = from_leaves o Length p (call_turns o p LengthCall)
call_leaves o p (ReadCall offset size) = from_leaves o Read p (call_turns o p (ReadCall offset size))
call_leaves o p (WriteCall offset bytes) = from_leaves o Write p (call_turns o p (WriteCall offset bytes))
call_leaves o p SyncCall = from_leaves o Sync p (call_turns o p SyncCall)

stop_leaves : (p : Play) (calls : ℕ) (kind : ImageKind) → power_failures_left (set_to_fail calls kind p) ≤ 1 + power_failures_left p
stop_leaves p calls kind = by_off (is_some p.off)
  where
    by_none : (none : Bool) → power_failures_left (if none then is_off kind p else powered calls kind p) ≤ 1 + power_failures_left p
    by_none true = omega arith
    by_none false = omega (arith, at_most_one (is_failure_due (powered calls kind p)))

    by_off : (off : Bool) → power_failures_left (if off then p else if calls == 0 then is_off kind p else powered calls kind p) ≤ 1 + power_failures_left p
    by_off true = omega arith
    by_off false = by_none (calls == 0)

-- events are no power failures
brings_none : (event : Event) → power_failures (brings event) ≡ 0
brings_none (Open till) = refl
brings_none (Close till) = refl
brings_none (FromTill till bytes) = refl
brings_none (FromPt pt bytes) = refl
brings_none (Lose pt) = refl
brings_none Tick = refl

met_none : (o : Outside) (p : Play) (lines : List PlayedLine) → p.due ≡ [] → power_failures (met o p lines).due ≡ 0
met_none o p [] none = refl
met_none o p (At now ∷ lines) none = met_none o (record p { moment = now }) lines none
met_none o p (Poll event ∷ lines) none = by_test (applies o event) (met_none o p lines none)
  where
    by_test : (test : Bool) → power_failures (met o p lines).due ≡ 0 → power_failures (if test then record p { lines = lines; due = brings event } else met o p lines).due ≡ 0
    by_test true later = brings_none event
    by_test false later = later
met_none o p (Fail failing ∷ lines) none = met_none o (fails_next o failing p) lines ((passed o failing p).event ∙ none)
met_none o p (Power calls kind ∷ lines) none = by_test (calls == 0) (met_none o (powered calls kind p) lines none)
  where
    by_test : (test : Bool) → power_failures (met o (powered calls kind p) lines).due ≡ 0 → power_failures (if test then is_off kind (record p { lines = lines }) else met o (powered calls kind p) lines).due ≡ 0
    by_test true later = ap power_failures none
    by_test false later = later
met_none o p (ForgetPower ∷ lines) none = met_none o (power_forgotten p) lines none

coming_none : (o : Outside) (p : Play) (events : List Event) → p.due ≡ [] → power_failures (met_coming o events p).due ≡ 0
coming_none o p [] none = met_none o (then_coming [] p) p.lines none
coming_none o p (event ∷ events) none = by_test (applies o event) (coming_none o p events none)
  where
    by_test : (test : Bool) → power_failures (met_coming o events p).due ≡ 0 → power_failures (if test then record (then_coming events p) { due = brings event } else met_coming o events p).due ≡ 0
    by_test true later = brings_none event
    by_test false later = later

polled_none : (p : Play) (off : Option ImageKind) → power_failures p.due ≡ 0 → power_failures (polled_turns p off) ≡ 0
polled_none p None none = ap (λ n. 0 + n) none
polled_none p (Some kind) none = refl

either_none : (test : Bool) (turns others : List Turn) → power_failures turns ≡ 0 → power_failures others ≡ 0 → power_failures (if test then turns else others) ≡ 0
either_none true turns others e f = e
either_none false turns others e f = f

-- nor are the turns of a call
call_none : (o : Outside) (p : Play) (call : SiteCall) → p.due ≡ [] → power_failures (call_turns o p call) ≡ 0
call_none o p (OpenCall setup) none = either_none p.hazard.fail_open (OpenFailed ∷ []) (Start setup ∷ []) refl refl
call_none o p PollCall none = polled_none (after_poll o p) (after_poll o p).off (coming_none o p p.peers.coming none)
call_none o p (SendTillCall till bytes) none = refl
call_none o p (SendPtCall pt bytes) none = refl
call_none o p (LinkCall pt) none = either_none (is_failing p.hazard.fail_links pt) (LinkFailed pt ∷ []) (Linked pt ∷ []) refl refl
call_none o p (CutTillCall till) none = refl
call_none o p (CutPtCall pt) none = refl
call_none o p LengthCall none = either_none p.hazard.fail_length (DiskFailed ∷ []) [] refl refl
call_none o p (ReadCall offset size) none = either_none p.hazard.fail_read (DiskFailed ∷ []) [] refl refl
call_none o p (WriteCall offset bytes) none = either_none p.hazard.fail_write (Wrote offset bytes ∷ DiskFailed ∷ []) (Wrote offset bytes ∷ []) refl refl
call_none o p SyncCall none = either_none p.hazard.fail_sync (DiskFailed ∷ []) (Synced ∷ []) refl refl

-- of these numbers the first two are the whole
sum_within : (whole first more left most : ℕ) → whole ≡ first + more → first ≡ 0 → left ≤ most → (later : ℕ) → more + later ≤ left → whole + later ≤ most
sum_within whole first more left most sum none a later b = omega arith

pub steps_count : (steps : List SiteStep) → are_scripted steps ≡ true → (past : List Turn) (p : Play) (turns : List Turn) (after : Play) → LeadsBy past p steps turns after → power_failures turns + power_failures_left after ≤ power_failures_left p
steps_count [] own past p turns after (none, same) = omega (arith, ap power_failures none, ap power_failures_left same)
steps_count (Made call ∷ steps) own past p turns after (made, later, (idle, made_is), is, rest) =
    sum_within (power_failures turns) (power_failures made) (power_failures later) (power_failures_left (place_after (outside_of past) p call)) (power_failures_left p)
    (ap power_failures is ∙ failures-add-up made later) (ap power_failures made_is ∙ call_none (outside_of past) p call idle.no_event) (call_leaves (outside_of past) p call)
    (power_failures_left after) (steps_count steps own (past ++ made) (place_after (outside_of past) p call) later after rest)
steps_count (PowerBack ∷ steps) own past p turns after (kind, later, off, is, rest) =
    let sum : power_failures turns ≡ 1 + power_failures later = ap power_failures is in
    let one = restarted_one p kind off in
    let more = steps_count steps own (past ++ Crash (crash_file kind (outside_of past)) ∷ []) (restarted p) later after rest in
    omega arith
steps_count (StopAfter calls kind ∷ steps) own past p turns after leads = absurd (let h : false ≡ true = own in cc)
steps_count (Holding file ∷ steps) own past p turns after leads = absurd (let h : false ≡ true = own in cc)

-- ---- the laws

played_most : (lines : List PlayedLine) (log : List Turn) → PlaysLines lines log → power_failures log ≤ power_lines lines
played_most lines log (place, leads) =
    let counts = leads_counts nothing_yet (begins lines) log place leads in
    omega (arith, begins_left lines)

pub failures-within-lines : (lines : List PlayedLine) (log : List Turn) → ∥ PlaysLines lines log ∥₁ → power_failures log ≤ power_lines lines
failures-within-lines lines log plays = ∥∥₁_elim plays (hlevel props) (λ p. played_most lines log p)

pub power-fails-once-per-line : PowerFailsOncePerLine
power-fails-once-per-line = record {
  steps_leave = λ lines steps log place own leads.
      let counts = steps_count steps own [] (begins lines) log place leads in
      omega (arith, begins_left lines);
  turns_leave = λ lines log place leads.
      let counts = leads_counts nothing_yet (begins lines) log place leads in
      omega (arith, begins_left lines);
  at_most = failures-within-lines;
}

pub each-failure-leaves-fewer : EachFailureLeavesFewer
each-failure-leaves-fewer = record {
  one_fewer = restarted_one;
  no_more = call_leaves;
  one_more = stop_leaves;
  by_log = λ lines log more file plays.
      let most = failures-within-lines lines (log ++ (more ++ Crash file ∷ [])) plays in
      let sum = failures-add-up log (more ++ Crash file ∷ []) in
      let last : power_failures (more ++ Crash file ∷ []) ≡ power_failures more + 1 = failures-add-up more (Crash file ∷ []) in
      omega arith;
}
