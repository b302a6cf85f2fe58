-- Logs in which no call fails: no line makes one fail.
use Rattle.std.specs.Prelude.{◌≡◌, Bool, true, false, not, List, [], ◌∷◌}
use Rattle.std.specs.List.{AllByRecursion}
use Rattle.pt_core.specs.Serving.{TerminalValue}
use Rattle.gw_site.specs.declared.turn.Turn.{Turn}
use Rattle.gw_site.specs.declared.turn.Turn.TheVariants.{Start, OpenFailed, Polled, Opened, HeardTill, Closed, HeardPt, Lost, Stopped, Linked, LinkFailed, SentTill, SentPt, CutTill, CutPt, Wrote, Synced, DiskFailed, Crash}
use Rattle.gw_site.specs.Steps.{SiteStep}
use Rattle.gw_script.specs.site.Calls.{ReachesWith}
use Rattle.gw_script.specs.site.Drill.{DrillPayment, drill_lines}
use Rattle.gw_script.specs.site.Playing.{Play}
use Rattle.gw_script.specs.site.ScriptLine.{PlayedLine, At, Poll, Fail, Power, ForgetPower}

-- no line makes a call fail
abbrev pub HaveNoFailingCall : List PlayedLine → Type 0
HaveNoFailingCall [] = Unit {0}
HaveNoFailingCall (At now ∷ lines) = HaveNoFailingCall lines
HaveNoFailingCall (Poll event ∷ lines) = HaveNoFailingCall lines
HaveNoFailingCall (Fail failing ∷ lines) = ⊥
HaveNoFailingCall (Power calls kind ∷ lines) = HaveNoFailingCall lines
HaveNoFailingCall (ForgetPower ∷ lines) = HaveNoFailingCall lines

-- the turn is that of a call that has failed
abbrev pub is_failed_call : Turn → Bool
is_failed_call (Start setup) = false
is_failed_call OpenFailed = true
is_failed_call (Polled now) = false
is_failed_call (Opened till) = false
is_failed_call (HeardTill till bytes) = false
is_failed_call (Closed till) = false
is_failed_call (HeardPt pt bytes) = false
is_failed_call (Lost pt) = false
is_failed_call Stopped = false
is_failed_call (Linked pt) = false
is_failed_call (LinkFailed pt) = true
is_failed_call (SentTill till bytes ok) = not ok
is_failed_call (SentPt pt bytes ok) = not ok
is_failed_call (CutTill till) = false
is_failed_call (CutPt pt) = false
is_failed_call (Wrote offset bytes) = false
is_failed_call Synced = false
is_failed_call DiskFailed = true
is_failed_call (Crash file) = false

-- no call has failed in these turns
abbrev pub HasNoFailedCall : List Turn → Type 0
HasNoFailedCall turns = AllByRecursion (λ turn. is_failed_call turn ≡ false) turns

-- where no line makes a call fail, none has failed in a log, whatever terminals are played
abbrev pub NoCallFails : Type 0
NoCallFails = (terminals : List TerminalValue) (lines : List PlayedLine) (steps : List SiteStep) (log : List Turn) (place : Play) → HaveNoFailingCall lines → ReachesWith terminals lines steps log place → HasNoFailedCall log

-- no line of a drill does
abbrev pub DrillFailsNoCall : Type 0
DrillFailsNoCall = (payments : List DrillPayment) → HaveNoFailingCall (drill_lines payments)
