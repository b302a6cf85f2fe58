-- The turns of each call of the gateway, by what is handed to it and by how far the script is played. A log alone shows neither what was to be sent nor a look that succeeds; `Playing` says which turns fit by the log alone.
use Rattle.std.specs.Prelude.{◌≡◌, ℕ, Bool, true, false, not, ◌==◌, if◌then◌else◌, List, [], ◌∷◌, ◌++◌, Option, Some, None, is_some}
use Rattle.gw_site.specs.Outside.{Outside, outside_after, outside_of}
use Rattle.gw_site.specs.declared.turn.Turn.{Turn}
use Rattle.gw_site.specs.declared.turn.Turn.TheVariants.{Start, OpenFailed, Polled, Linked, LinkFailed, SentTill, SentPt, CutTill, CutPt, Wrote, Synced, DiskFailed, Crash}
use Rattle.gw_site.specs.Steps.{ImageKind, SiteCall, OpenCall, PollCall, SendTillCall, SendPtCall, LinkCall, CutTillCall, CutPtCall, LengthCall, ReadCall, WriteCall, SyncCall, SiteStep, Made, PowerBack, StopAfter, Holding}
use Rattle.pt_core.specs.Serving.{TerminalValue}
use Rattle.gw_script.specs.site.ScriptLine.{PlayedLine}
use Rattle.gw_script.specs.site.Hazards.{crash_file, is_failing, sent_of, takes_most}
use Rattle.gw_script.specs.site.Playing.{DiskCall, Write, Sync, Length, Read, Idle, Play, after_poll, begins, begins_with, brought, is_off, play_after, powered, restarted}

-- the turns of a poll: the moment and the event that it has met, or none where it has reached a power failure
abbrev pub polled_turns : Play → Option ImageKind → List Turn
polled_turns met None = Polled met.moment ∷ met.due
polled_turns met (Some kind) = []

-- the turns of the call: a send takes exactly the lesser of all its bytes and the least number of the fail lines for it, a write that fails has all its bytes, and a look leaves a turn only where it fails
abbrev pub call_turns : Outside → Play → SiteCall → List Turn
call_turns o p (OpenCall setup) = if p.hazard.fail_open then OpenFailed ∷ [] else Start setup ∷ []
call_turns o p PollCall = polled_turns (after_poll o p) (after_poll o p).off
call_turns o p (SendTillCall till bytes) = SentTill till (sent_of (takes_most p.hazard.fail_tills till) bytes) (not (is_some (takes_most p.hazard.fail_tills till))) ∷ []
call_turns o p (SendPtCall pt bytes) = SentPt pt (sent_of (takes_most p.hazard.fail_pts pt) bytes) (not (is_some (takes_most p.hazard.fail_pts pt))) ∷ []
call_turns o p (LinkCall pt) = if is_failing p.hazard.fail_links pt then LinkFailed pt ∷ [] else Linked pt ∷ []
call_turns o p (CutTillCall till) = CutTill till ∷ []
call_turns o p (CutPtCall pt) = CutPt pt ∷ []
call_turns o p LengthCall = if p.hazard.fail_length then DiskFailed ∷ [] else []
call_turns o p (ReadCall offset size) = if p.hazard.fail_read then DiskFailed ∷ [] else []
call_turns o p (WriteCall offset bytes) = if p.hazard.fail_write then Wrote offset bytes ∷ DiskFailed ∷ [] else Wrote offset bytes ∷ []
call_turns o p SyncCall = if p.hazard.fail_sync then DiskFailed ∷ [] else Synced ∷ []

-- how far the script is played after turns of one call; a failure of the disk is that of this call
abbrev pub play_from : Outside → DiskCall → Play → List Turn → Play
play_from o call p [] = p
play_from o call p (turn ∷ turns) = play_from (outside_after o turn) call (play_after o call p turn) turns

-- how far the script is played after a poll that has met this: its event was brought, or the power has failed
abbrev pub polled_place : Play → Option ImageKind → Play
polled_place met None = brought met
polled_place met (Some kind) = met

-- how far the script is played after the call
abbrev pub place_after : Outside → Play → SiteCall → Play
place_after o p (OpenCall setup) = play_from o Sync p (call_turns o p (OpenCall setup))
place_after o p PollCall = polled_place (after_poll o p) (after_poll o p).off
place_after o p (SendTillCall till bytes) = play_from o Sync p (call_turns o p (SendTillCall till bytes))
place_after o p (SendPtCall pt bytes) = play_from o Sync p (call_turns o p (SendPtCall pt bytes))
place_after o p (LinkCall pt) = play_from o Sync p (call_turns o p (LinkCall pt))
place_after o p (CutTillCall till) = play_from o Sync p (call_turns o p (CutTillCall till))
place_after o p (CutPtCall pt) = play_from o Sync p (call_turns o p (CutPtCall pt))
place_after o p LengthCall = play_from o Length p (call_turns o p LengthCall)
place_after o p (ReadCall offset size) = play_from o Read p (call_turns o p (ReadCall offset size))
place_after o p (WriteCall offset bytes) = play_from o Write p (call_turns o p (WriteCall offset bytes))
place_after o p SyncCall = play_from o Sync p (call_turns o p SyncCall)

-- the call may be made here and has these turns: no event is due, and the power is there
abbrev pub CallFits : Outside → Play → SiteCall → List Turn → Type 0
CallFits o p call turns = Idle p × (turns ≡ call_turns o p call)

-- the place once the power is set to fail after so many more calls: at once for none; where it has failed already all is as before
abbrev pub set_to_fail : ℕ → ImageKind → Play → Play
set_to_fail calls kind p = if is_some p.off then p else if calls == 0 then is_off kind p else powered calls kind p

-- nothing happens beside the script: the gateway makes calls, and the power is there again where the script has let it fail
abbrev pub are_scripted : List SiteStep → Bool
are_scripted [] = true
are_scripted (Made call ∷ steps) = are_scripted steps
are_scripted (PowerBack ∷ steps) = are_scripted steps
are_scripted (StopAfter calls kind ∷ steps) = false
are_scripted (Holding file ∷ steps) = false

-- after this log the steps lead from one place of the script to another, with these turns
abbrev pub LeadsBy : List Turn → Play → List SiteStep → List Turn → Play → Type 0
LeadsBy past p [] turns after = (turns ≡ []) × (p ≡ after)
LeadsBy past p (Made call ∷ steps) turns after =
    (made : List Turn) × (later : List Turn) × CallFits (outside_of past) p call made × (turns ≡ made ++ later) × LeadsBy (past ++ made) (place_after (outside_of past) p call) steps later after
LeadsBy past p (PowerBack ∷ steps) turns after =
    (kind : ImageKind) × (later : List Turn) × (p.off ≡ Some kind) × (turns ≡ Crash (crash_file kind (outside_of past)) ∷ later) × LeadsBy (past ++ Crash (crash_file kind (outside_of past)) ∷ []) (restarted p) steps later after
LeadsBy past p (StopAfter calls kind ∷ steps) turns after = LeadsBy past (set_to_fail calls kind p) steps turns after
LeadsBy past p (Holding file ∷ steps) turns after = (later : List Turn) × (past ≡ []) × (turns ≡ Crash file ∷ later) × LeadsBy (past ++ Crash file ∷ []) p steps later after

-- a site that plays these lines is at this place after these steps, with this log
abbrev pub Reaches : List PlayedLine → List SiteStep → List Turn → Play → Type 0
Reaches lines steps log place = LeadsBy [] (begins lines) steps log place

-- a site that plays these terminals and lines is at this place after these steps, with this log
abbrev pub ReachesWith : List TerminalValue → List PlayedLine → List SiteStep → List Turn → Play → Type 0
ReachesWith terminals lines steps log place = LeadsBy [] (begins_with terminals lines) steps log place

-- after some steps, whether beside the script or not, the lines are played with these terminals up to this place, with this log
abbrev pub IsReachedWith : List TerminalValue → List PlayedLine → List Turn → Play → Type 0
IsReachedWith terminals lines log place = (steps : List SiteStep) × ReachesWith terminals lines steps log place

-- a site that plays these lines has this log after these steps
abbrev pub PlaysBy : List PlayedLine → List SiteStep → List Turn → Type 0
PlaysBy lines steps log = (after : Play) × Reaches lines steps log after

-- after some steps, whether beside the script or not, the lines are played up to this place, with this log
abbrev pub IsReached : List PlayedLine → List Turn → Play → Type 0
IsReached lines log place = (steps : List SiteStep) × Reaches lines steps log place

-- after some steps, none of which was beside the script, the lines are played up to this place, with this log
abbrev pub IsPlayedTo : List PlayedLine → List Turn → Play → Type 0
IsPlayedTo lines log place = (steps : List SiteStep) × (are_scripted steps ≡ true) × Reaches lines steps log place
