-- Where no line makes a call fail, none fails.
use Rattle.std.proofs.Common.{◌≡◌, ℕ, List, [], ◌∷◌, ◌++◌, refl, sym, ◌∙◌, ap, subst, true, false}
use Rattle.std.specs.Prelude.{Bool, ◌-◌, ◌==◌, nat_le, not, if◌then◌else◌, Option, Some, None, is_some}
use Rattle.gw_base.specs.declared.setup.Setup.{Setup}
use Rattle.gw_site.specs.Outside.{Outside, outside_of}
use Rattle.gw_site.specs.declared.turn.Turn.{Turn}
use Rattle.gw_site.specs.declared.turn.Turn.TheVariants.{Start, OpenFailed, Linked, LinkFailed, SentPt, SentTill, Synced, DiskFailed, Wrote, Crash}
use Rattle.gw_site.specs.Steps.{ImageKind, SiteCall, OpenCall, PollCall, SendTillCall, SendPtCall, LinkCall, CutTillCall, CutPtCall, LengthCall, ReadCall, WriteCall, SyncCall, SiteStep, Made, PowerBack, StopAfter, Holding}
use Rattle.gw_script.specs.site.Calls.{LeadsBy, call_turns, place_after, play_from, polled_place, polled_turns, set_to_fail}
use Rattle.gw_script.specs.site.Drill.{DrillPayment, drill_lines, payment_lines, power_set, power_unset}
use Rattle.gw_script.specs.site.Hazards.{Armed, Hazard, crash_file, is_failing, no_hazard, sent_of, takes_most}
use Rattle.gw_script.specs.site.NoFailures.{DrillFailsNoCall, HasNoFailedCall, HaveNoFailingCall, NoCallFails}
use Rattle.gw_script.specs.site.Playing.{DiskCall, Length, Play, Read, Sync, Write, after_poll, applies, begins_with, brings, counted, early_hazard, early_lines, is_off, linked_to_pt, met, met_coming, one_call_less, power_forgotten, powered, restarted, send_failed_pt, send_failed_till, sent_to_pt, then_coming}
use Rattle.gw_script.specs.site.ScriptLine.{Event, Open, Close, FromTill, FromPt, Lose, Tick, PlayedLine, At, Poll, Fail, Power, ForgetPower}

-- no call is to fail, and none by the lines that are left
record IsSafe (p : Play) : Type 0 where
  lines : HaveNoFailingCall p.lines
  hazard : p.hazard ≡ record no_hazard { power = p.hazard.power }

-- the power alone was set, or its failure was
set_power : (h : Hazard) (power : Option Armed) → h ≡ record no_hazard { power = h.power } → record h { power = power } ≡ record no_hazard { power = power }
set_power h power is = ap (λ (other : Hazard). record other { power = power }) is

less_safe : (armed : Option Armed) (p : Play) → IsSafe p → IsSafe (one_call_less armed p)
less_safe None p s = s
less_safe (Some armed) p s = by_test (nat_le armed.calls 1)
  where
    by_test : (test : Bool) → IsSafe (if test then is_off armed.kind p else powered (armed.calls - 1) armed.kind p)
    by_test true = record { lines = s.lines; hazard = set_power p.hazard None s.hazard }
    by_test false = record { lines = s.lines; hazard = set_power p.hazard (Some (record { calls = armed.calls - 1; kind = armed.kind })) s.hazard }

counted_safe : (p : Play) → IsSafe p → IsSafe (counted p)
counted_safe p s = less_safe p.hazard.power p s

-- ---- polls

met_safe : (o : Outside) (p : Play) (lines : List PlayedLine) → HaveNoFailingCall lines → IsSafe p → IsSafe (met o p lines)
met_safe o p [] none s = record { lines = tt; hazard = s.hazard }
met_safe o p (At now ∷ lines) none s = met_safe o (record p { moment = now }) lines none (record { lines = s.lines; hazard = s.hazard })
met_safe o p (Poll event ∷ lines) none s = by_test (applies o event) (met_safe o p lines none s)
  where
    by_test : (test : Bool) → IsSafe (met o p lines) → IsSafe (if test then record p { lines = lines; due = brings event } else met o p lines)
    by_test true later = record { lines = none; hazard = s.hazard }
    by_test false later = later
met_safe o p (Fail failing ∷ lines) none s = absurd none
met_safe o p (Power calls kind ∷ lines) none s = by_test (calls == 0) (met_safe o (powered calls kind p) lines none (record { lines = s.lines; hazard = set_power p.hazard (Some (record { calls = calls; kind = kind })) s.hazard }))
  where
    by_test : (test : Bool) → IsSafe (met o (powered calls kind p) lines) → IsSafe (if test then is_off kind (record p { lines = lines }) else met o (powered calls kind p) lines)
    by_test true later = record { lines = none; hazard = set_power p.hazard None s.hazard }
    by_test false later = later
met_safe o p (ForgetPower ∷ lines) none s = met_safe o (power_forgotten p) lines none (record { lines = s.lines; hazard = set_power p.hazard None s.hazard })

coming_safe : (o : Outside) (events : List Event) (p : Play) → IsSafe p → IsSafe (met_coming o events p)
coming_safe o [] p s = met_safe o (then_coming [] p) p.lines s.lines (record { lines = s.lines; hazard = s.hazard })
coming_safe o (event ∷ events) p s = by_test (applies o event) (coming_safe o events p s)
  where
    by_test : (test : Bool) → IsSafe (met_coming o events p) → IsSafe (if test then record (then_coming events p) { due = brings event } else met_coming o events p)
    by_test true later = record { lines = s.lines; hazard = s.hazard }
    by_test false later = later

brings_none : (event : Event) → HasNoFailedCall (brings event)
brings_none (Open till) = (refl, tt)
brings_none (Close till) = (refl, tt)
brings_none (FromTill till bytes) = (refl, tt)
brings_none (FromPt pt bytes) = (refl, tt)
brings_none (Lose pt) = (refl, tt)
brings_none Tick = tt

met_none : (o : Outside) (p : Play) (lines : List PlayedLine) → HaveNoFailingCall lines → HasNoFailedCall p.due → HasNoFailedCall (met o p lines).due
met_none o p [] none due = (refl, tt)
met_none o p (At now ∷ lines) none due = met_none o (record p { moment = now }) lines none due
met_none o p (Poll event ∷ lines) none due = by_test (applies o event) (met_none o p lines none due)
  where
    by_test : (test : Bool) → HasNoFailedCall (met o p lines).due → HasNoFailedCall (if test then record p { lines = lines; due = brings event } else met o p lines).due
    by_test true later = brings_none event
    by_test false later = later
met_none o p (Fail failing ∷ lines) none due = absurd none
met_none o p (Power calls kind ∷ lines) none due = by_test (calls == 0) (met_none o (powered calls kind p) lines none due)
  where
    by_test : (test : Bool) → HasNoFailedCall (met o (powered calls kind p) lines).due → HasNoFailedCall (if test then is_off kind (record p { lines = lines }) else met o (powered calls kind p) lines).due
    by_test true later = due
    by_test false later = later
met_none o p (ForgetPower ∷ lines) none due = met_none o (power_forgotten p) lines none due

coming_none : (o : Outside) (events : List Event) (p : Play) → HaveNoFailingCall p.lines → HasNoFailedCall p.due → HasNoFailedCall (met_coming o events p).due
coming_none o [] p none due = met_none o (then_coming [] p) p.lines none due
coming_none o (event ∷ events) p none due = by_test (applies o event) (coming_none o events p none due)
  where
    by_test : (test : Bool) → HasNoFailedCall (met_coming o events p).due → HasNoFailedCall (if test then record (then_coming events p) { due = brings event } else met_coming o events p).due
    by_test true later = brings_none event
    by_test false later = later

polled_none : (m : Play) (off : Option ImageKind) → HasNoFailedCall m.due → HasNoFailedCall (polled_turns m off)
polled_none m None due = (refl, due)
polled_none m (Some kind) due = tt

polled_safe : (m : Play) (off : Option ImageKind) → IsSafe m → IsSafe (polled_place m off)
polled_safe m None s = record { lines = s.lines; hazard = s.hazard }
polled_safe m (Some kind) s = s

-- ---- calls

-- a call has these turns and leads to this place: no call has failed, and none is to fail
record Goes (turns : List Turn) (after : Play) : Type 0 where
  none : HasNoFailedCall turns
  safe : IsSafe after

never : {A : Type 0} (b : Bool) → b ≡ false → b ≡ true → A
never b off on = absurd (let h : false ≡ true = sym off ∙ on in cc)

open_goes : (o : Outside) (p : Play) (setup : Setup) (test : Bool) → p.hazard.fail_open ≡ test → p.hazard.fail_open ≡ false → IsSafe p → Goes (if test then OpenFailed ∷ [] else Start setup ∷ []) (play_from o Sync p (if test then OpenFailed ∷ [] else Start setup ∷ []))
open_goes o p setup true e none s = never p.hazard.fail_open none e
open_goes o p setup false e none s = record { none = (refl, tt); safe = counted_safe p s }

link_goes : (o : Outside) (p : Play) (pt : ℕ) (test : Bool) → is_failing p.hazard.fail_links pt ≡ test → is_failing p.hazard.fail_links pt ≡ false → IsSafe p → Goes (if test then LinkFailed pt ∷ [] else Linked pt ∷ []) (play_from o Sync p (if test then LinkFailed pt ∷ [] else Linked pt ∷ []))
link_goes o p pt true e none s = never (is_failing p.hazard.fail_links pt) none e
link_goes o p pt false e none s = record { none = (refl, tt); safe = counted_safe (linked_to_pt pt p) (record { lines = s.lines; hazard = s.hazard }) }

till_goes : (p : Play) (till : ℕ) (bytes : List ℕ) (most : Option ℕ) → most ≡ None → IsSafe p → Goes (SentTill till (sent_of most bytes) (not (is_some most)) ∷ []) (send_failed_till till (not (is_some most)) p)
till_goes p till bytes None e s = record { none = (refl, tt); safe = counted_safe p s }
till_goes p till bytes (Some most) e s = absurd (let h : Some most ≡ None = e in cc)

pt_goes : (p q : Play) (pt : ℕ) (bytes : List ℕ) (most : Option ℕ) → most ≡ None → IsSafe q → Goes (SentPt pt (sent_of most bytes) (not (is_some most)) ∷ []) (send_failed_pt pt (not (is_some most)) q)
pt_goes p q pt bytes None e s = record { none = (refl, tt); safe = counted_safe q s }
pt_goes p q pt bytes (Some most) e s = absurd (let h : Some most ≡ None = e in cc)

look_goes : (o : Outside) (p : Play) (call : DiskCall) (fails test : Bool) → fails ≡ test → fails ≡ false → IsSafe p → Goes (if test then DiskFailed ∷ [] else []) (play_from o call p (if test then DiskFailed ∷ [] else []))
look_goes o p call fails true e none s = never fails none e
look_goes o p call fails false e none s = record { none = tt; safe = s }

write_goes : (o : Outside) (p : Play) (offset : ℕ) (bytes : List ℕ) (test : Bool) → p.hazard.fail_write ≡ test → p.hazard.fail_write ≡ false → IsSafe p →
    Goes (if test then Wrote offset bytes ∷ DiskFailed ∷ [] else Wrote offset bytes ∷ []) (play_from o Write p (if test then Wrote offset bytes ∷ DiskFailed ∷ [] else Wrote offset bytes ∷ []))
write_goes o p offset bytes true e none s = never p.hazard.fail_write none e
write_goes o p offset bytes false e none s =
    record { none = (refl, tt); safe = counted_safe (record p { failing = p.hazard.fail_write; hazard = record p.hazard { fail_write = false } }) (record { lines = s.lines; hazard = ap (λ (h : Hazard). record h { fail_write = false }) s.hazard }) }

sync_goes : (o : Outside) (p : Play) (test : Bool) → p.hazard.fail_sync ≡ test → p.hazard.fail_sync ≡ false → IsSafe p → Goes (if test then DiskFailed ∷ [] else Synced ∷ []) (play_from o Sync p (if test then DiskFailed ∷ [] else Synced ∷ []))
sync_goes o p true e none s = never p.hazard.fail_sync none e
sync_goes o p false e none s = record { none = (refl, tt); safe = counted_safe p s }

call_goes : (o : Outside) (p : Play) (call : SiteCall) → p.due ≡ [] → IsSafe p → Goes (call_turns o p call) (place_after o p call)
call_goes o p (OpenCall setup) due s = open_goes o p setup p.hazard.fail_open refl (ap (λ (h : Hazard). h.fail_open) s.hazard) s
call_goes o p PollCall due s =
    let m = after_poll o p in
    record {
      none = polled_none m m.off (coming_none o p.peers.coming p s.lines (subst HasNoFailedCall (sym due) tt));
      safe = polled_safe m m.off (coming_safe o p.peers.coming p s);
    }
call_goes o p (SendTillCall till bytes) due s = till_goes p till bytes (takes_most p.hazard.fail_tills till) (ap (λ (h : Hazard). takes_most h.fail_tills till) s.hazard) s
call_goes o p (SendPtCall pt bytes) due s =
    let most = takes_most p.hazard.fail_pts pt in
    pt_goes p (sent_to_pt pt (sent_of most bytes) p) pt bytes most (ap (λ (h : Hazard). takes_most h.fail_pts pt) s.hazard) (record { lines = s.lines; hazard = s.hazard })
call_goes o p (LinkCall pt) due s = link_goes o p pt (is_failing p.hazard.fail_links pt) refl (ap (λ (h : Hazard). is_failing h.fail_links pt) s.hazard) s
call_goes o p (CutTillCall till) due s = record { none = (refl, tt); safe = counted_safe p s }
call_goes o p (CutPtCall pt) due s = record { none = (refl, tt); safe = counted_safe p s }
call_goes o p LengthCall due s = look_goes o p Length p.hazard.fail_length p.hazard.fail_length refl (ap (λ (h : Hazard). h.fail_length) s.hazard) s
call_goes o p (ReadCall offset size) due s = look_goes o p Read p.hazard.fail_read p.hazard.fail_read refl (ap (λ (h : Hazard). h.fail_read) s.hazard) s
call_goes o p (WriteCall offset bytes) due s = write_goes o p offset bytes p.hazard.fail_write refl (ap (λ (h : Hazard). h.fail_write) s.hazard) s
call_goes o p SyncCall due s = sync_goes o p p.hazard.fail_sync refl (ap (λ (h : Hazard). h.fail_sync) s.hazard) s

-- ---- steps

both_none : (first later : List Turn) → HasNoFailedCall first → HasNoFailedCall later → HasNoFailedCall (first ++ later)
both_none [] later a b = b
both_none (turn ∷ first) later a b = (a.0, both_none first later a.1 b)

stop_safe : (calls : ℕ) (kind : ImageKind) (p : Play) → IsSafe p → IsSafe (set_to_fail calls kind p)
stop_safe calls kind p s = by_test (is_some p.off) (calls == 0)
  where
    by_test : (off none : Bool) → IsSafe (if off then p else if none then is_off kind p else powered calls kind p)
    by_test true none = s
    by_test false true = record { lines = s.lines; hazard = set_power p.hazard None s.hazard }
    by_test false false = record { lines = s.lines; hazard = set_power p.hazard (Some (record { calls = calls; kind = kind })) s.hazard }

restarted_safe : (p : Play) → IsSafe p → IsSafe (restarted p)
restarted_safe p s = record {
  lines = s.lines;
  hazard = ap (λ (h : Hazard). record no_hazard { fail_open = h.fail_open; fail_length = h.fail_length; fail_read = h.fail_read }) s.hazard;
}

steps_fail_none : (steps : List SiteStep) (past : List Turn) (p : Play) (turns : List Turn) (after : Play) → IsSafe p → LeadsBy past p steps turns after → HasNoFailedCall turns
steps_fail_none [] past p turns after s (none, same) = subst HasNoFailedCall (sym none) tt
steps_fail_none (Made call ∷ steps) past p turns after s (made, later, (idle, made_is), is, rest) =
    let goes = call_goes (outside_of past) p call idle.no_event s in
    subst HasNoFailedCall (sym is) (both_none made later (subst HasNoFailedCall (sym made_is) goes.none) (steps_fail_none steps (past ++ made) (place_after (outside_of past) p call) later after goes.safe rest))
steps_fail_none (PowerBack ∷ steps) past p turns after s (kind, later, off, is, rest) =
    subst HasNoFailedCall (sym is) (refl, steps_fail_none steps (past ++ Crash (crash_file kind (outside_of past)) ∷ []) (restarted p) later after (restarted_safe p s) rest)
steps_fail_none (StopAfter calls kind ∷ steps) past p turns after s leads = steps_fail_none steps past (set_to_fail calls kind p) turns after (stop_safe calls kind p s) leads
steps_fail_none (Holding file ∷ steps) past p turns after s (later, none, is, rest) =
    subst HasNoFailedCall (sym is) (refl, steps_fail_none steps (past ++ Crash file ∷ []) p later after s rest)

-- ---- the laws

early_none : (lines : List PlayedLine) → HaveNoFailingCall lines → HaveNoFailingCall (early_lines lines)
early_none [] none = tt
early_none (At now ∷ lines) none = early_none lines none
early_none (Poll event ∷ lines) none = none
early_none (Fail failing ∷ lines) none = absurd none
early_none (Power calls kind ∷ lines) none = early_none lines none
early_none (ForgetPower ∷ lines) none = early_none lines none

early_safe : (h : Hazard) (lines : List PlayedLine) → HaveNoFailingCall lines → early_hazard h lines ≡ h
early_safe h [] none = refl
early_safe h (At now ∷ lines) none = early_safe h lines none
early_safe h (Poll event ∷ lines) none = refl
early_safe h (Fail failing ∷ lines) none = absurd none
early_safe h (Power calls kind ∷ lines) none = early_safe h lines none
early_safe h (ForgetPower ∷ lines) none = early_safe h lines none

pub no-call-fails : NoCallFails
no-call-fails terminals lines steps log place none leads =
    let h = early_hazard no_hazard lines in
    let same : h ≡ no_hazard = early_safe no_hazard lines none in
    steps_fail_none steps [] (begins_with terminals lines) log place
    (record { lines = early_none lines none; hazard = same ∙ ap (λ (other : Hazard). record no_hazard { power = other.power }) (sym same) }) leads

lines_none : (first later : List PlayedLine) → HaveNoFailingCall first → HaveNoFailingCall later → HaveNoFailingCall (first ++ later)
lines_none [] later a b = b
lines_none (At now ∷ first) later a b = lines_none first later a b
lines_none (Poll event ∷ first) later a b = lines_none first later a b
lines_none (Fail failing ∷ first) later a b = absurd a
lines_none (Power calls kind ∷ first) later a b = lines_none first later a b
lines_none (ForgetPower ∷ first) later a b = lines_none first later a b

set_none : (power : Option Armed) → HaveNoFailingCall (power_set power)
set_none None = tt
set_none (Some power) = tt

unset_none : (power : Option Armed) → HaveNoFailingCall (power_unset power)
unset_none None = tt
unset_none (Some power) = tt

payment_none : (payment : DrillPayment) (later : List PlayedLine) → HaveNoFailingCall later → HaveNoFailingCall (payment_lines payment ++ later)
payment_none payment later none =
    lines_none (payment_lines payment) later (lines_none (power_set payment.power) _ (set_none payment.power) (lines_none (power_unset payment.power) _ (unset_none payment.power) tt)) none

pub drill-fails-no-call : DrillFailsNoCall
drill-fails-no-call [] = tt
drill-fails-no-call (payment ∷ payments) = payment_none payment (drill_lines payments) (drill-fails-no-call payments)
