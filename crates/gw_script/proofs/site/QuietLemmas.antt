-- A step that can be taken leaves nothing due.
use Rattle.std.proofs.Common.{◌≡◌, ℕ, List, [], ◌∷◌, refl, sym, ◌∙◌, true, false}
use Rattle.std.specs.Prelude.{Bool, ◌==◌, if◌then◌else◌, not, Option, Some, None, is_some}
use Rattle.gw_site.specs.Outside.{Outside, outside_of}
use Rattle.gw_site.specs.declared.turn.Turn.{Turn}
use Rattle.gw_site.specs.Steps.{ImageKind, SiteCall, OpenCall, PollCall, SendTillCall, SendPtCall, LinkCall, CutTillCall, CutPtCall, LengthCall, ReadCall, WriteCall, SyncCall, SiteStep, Made, PowerBack, StopAfter, Holding}
use Rattle.gw_script.specs.site.ScriptLine.{Failing, Event, PlayedLine, At, Poll, Fail, Power, ForgetPower}
use Rattle.gw_script.specs.site.Hazards.{armed, is_failing, is_reached, sent_of, takes_most}
use Rattle.gw_script.specs.site.Playing.{Idle, Play, after_poll, applies, brings, fails_next, is_off, met, met_coming, power_forgotten, powered, then_coming}
use Rattle.gw_script.specs.site.Calls.{place_after, polled_place, set_to_fail}
use Rattle.gw_script.specs.site.StepTurns.{StepFits, place_after_step}
use Rattle.gw_script.proofs.site.CallLemmas.{IsQuiet, coming_failing, counted_quiet, idle_quiet, length_goes, link_goes, open_goes, passed_due, poll_goes, pt_quiet, read_goes, sync_goes, till_quiet, write_goes}

-- ---- polls

-- the power is there or has failed
pub on_or_off : {A : Type 0} (p : Play) (kind : ImageKind) → p.off ≡ None → p.off ≡ Some kind → A
on_or_off p kind on off = absurd (let h : None ≡ Some kind = sym on ∙ off in cc)

passed_off : (o : Outside) (failing : Failing) (p : Play) → (fails_next o failing p).off ≡ p.off
passed_off o failing p = by_test (is_reached o failing)
  where
    by_test : (test : Bool) → (if test then record p { hazard = armed failing p.hazard } else p).off ≡ p.off
    by_test true = refl
    by_test false = refl

-- a poll that reaches a power failure meets no event
met_power : (o : Outside) (p : Play) (lines : List PlayedLine) (kind : ImageKind) → p.due ≡ [] → p.off ≡ None → (met o p lines).off ≡ Some kind → (met o p lines).due ≡ []
met_power o p [] kind none on off = on_or_off p kind on off
met_power o p (At now ∷ lines) kind none on off = met_power o (record p { moment = now }) lines kind none on off
met_power o p (Poll event ∷ lines) kind none on off = by_test (applies o event) off (met_power o p lines kind none on)
  where
    by_test : (test : Bool) → (if test then record p { lines = lines; due = brings event } else met o p lines).off ≡ Some kind → ((met o p lines).off ≡ Some kind → (met o p lines).due ≡ []) →
        (if test then record p { lines = lines; due = brings event } else met o p lines).due ≡ []
    by_test true here later = on_or_off p kind on here
    by_test false here later = later here
met_power o p (Fail failing ∷ lines) kind none on off = met_power o (fails_next o failing p) lines kind (passed_due o failing p ∙ none) (passed_off o failing p ∙ on) off
met_power o p (Power calls other ∷ lines) kind none on off = by_test (calls == 0) off (met_power o (powered calls other p) lines kind none on)
  where
    by_test : (test : Bool) → (if test then is_off other (record p { lines = lines }) else met o (powered calls other p) lines).off ≡ Some kind
        → ((met o (powered calls other p) lines).off ≡ Some kind → (met o (powered calls other p) lines).due ≡ []) → (if test then is_off other (record p { lines = lines }) else met o (powered calls other p) lines).due ≡ []
    by_test true here later = none
    by_test false here later = later here
met_power o p (ForgetPower ∷ lines) kind none on off = met_power o (power_forgotten p) lines kind none on off

-- so it is with what is still to come of played terminals
coming_power : (o : Outside) (p : Play) (events : List Event) (kind : ImageKind) → p.due ≡ [] → p.off ≡ None → (met_coming o events p).off ≡ Some kind → (met_coming o events p).due ≡ []
coming_power o p [] kind none on off = met_power o (then_coming [] p) p.lines kind none on off
coming_power o p (event ∷ events) kind none on off = by_test (applies o event) off (coming_power o p events kind none on)
  where
    by_test : (test : Bool) → (if test then record (then_coming events p) { due = brings event } else met_coming o events p).off ≡ Some kind → ((met_coming o events p).off ≡ Some kind → (met_coming o events p).due ≡ []) →
        (if test then record (then_coming events p) { due = brings event } else met_coming o events p).due ≡ []
    by_test true here later = on_or_off p kind on here
    by_test false here later = later here

poll_quiet : (o : Outside) (p : Play) → Idle p → (off : Option ImageKind) → (after_poll o p).off ≡ off → IsQuiet (polled_place (after_poll o p) off)
poll_quiet o p idle None e = (poll_goes o p idle e).quiet
poll_quiet o p idle (Some kind) e = record { no_event = coming_power o p p.peers.coming kind idle.no_event idle.power e; no_failure = coming_failing o p p.peers.coming ∙ idle.no_failure }

-- ---- calls

call_quiet : (o : Outside) (p : Play) (call : SiteCall) → Idle p → IsQuiet (place_after o p call)
call_quiet o p (OpenCall setup) idle = (open_goes o p setup p.hazard.fail_open refl idle).quiet
call_quiet o p PollCall idle = poll_quiet o p idle (after_poll o p).off refl
call_quiet o p (SendTillCall till bytes) idle = till_quiet p till (sent_of (takes_most p.hazard.fail_tills till) bytes) (not (is_some (takes_most p.hazard.fail_tills till))) o idle
call_quiet o p (SendPtCall pt bytes) idle = pt_quiet p pt (sent_of (takes_most p.hazard.fail_pts pt) bytes) (not (is_some (takes_most p.hazard.fail_pts pt))) o idle
call_quiet o p (LinkCall pt) idle = (link_goes o p pt (is_failing p.hazard.fail_links pt) refl idle).quiet
call_quiet o p (CutTillCall till) idle = counted_quiet p (idle_quiet p idle)
call_quiet o p (CutPtCall pt) idle = counted_quiet p (idle_quiet p idle)
call_quiet o p LengthCall idle = (length_goes o p p.hazard.fail_length refl idle).quiet
call_quiet o p (ReadCall offset size) idle = (read_goes o p p.hazard.fail_read refl idle).quiet
call_quiet o p (WriteCall offset bytes) idle = (write_goes o p offset bytes p.hazard.fail_write refl idle).quiet
call_quiet o p SyncCall idle = (sync_goes o p p.hazard.fail_sync refl idle).quiet

-- ---- steps

stop_quiet : (calls : ℕ) (kind : ImageKind) (p : Play) → IsQuiet p → IsQuiet (set_to_fail calls kind p)
stop_quiet calls kind p quiet = by_test (is_some p.off) (calls == 0)
  where
    by_test : (off none : Bool) → IsQuiet (if off then p else if none then is_off kind p else powered calls kind p)
    by_test true none = quiet
    by_test false true = record { no_event = quiet.no_event; no_failure = quiet.no_failure }
    by_test false false = record { no_event = quiet.no_event; no_failure = quiet.no_failure }

pub step-leaves-quiet : (past : List Turn) (p : Play) (step : SiteStep) (turns : List Turn) → IsQuiet p → StepFits past p step turns → IsQuiet (place_after_step past p step)
step-leaves-quiet past p (Made call) turns quiet (idle, is) = call_quiet (outside_of past) p call idle
step-leaves-quiet past p PowerBack turns quiet fit = record { no_event = refl; no_failure = refl }
step-leaves-quiet past p (StopAfter calls kind) turns quiet fit = stop_quiet calls kind p quiet
step-leaves-quiet past p (Holding file) turns quiet fit = quiet
