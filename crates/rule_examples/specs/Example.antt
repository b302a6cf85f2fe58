-- Example logs, lawful and unlawful.
use Rattle.std.specs.Prelude.{◌≡◌, ℕ, suc, zero, ◌+◌, pos, true, false, List, [], ◌∷◌, ◌++◌, replicate, take, codes}
use Rattle.sale_frame.specs.Grammar.{frame}
use Rattle.gw_base.specs.declared.setup.Setup.{Setup}
use Rattle.gw_site.specs.Outside.{nothing_yet}
use Rattle.gw_site.specs.declared.turn.Turn.{Turn}
use Rattle.gw_site.specs.declared.turn.Turn.TheVariants.{Start, OpenFailed, Polled, Opened, SentTill, CutTill, Stopped, Synced, DiskFailed, Crash}
use Rattle.jrn_log.specs.JournalTurns.{first_gate_write}
use Rattle.gw_owes.specs.Calls.{Sync}
use Rattle.gw_rules.specs.Lawful.{AllowedTurn, IsCourse, IsLawful}
use Rattle.gw_rules.specs.Stage.{Handling}
use Rattle.gw_rules.specs.View.{View, Make, after_turn, started, at_first}
use Rattle.gw_rules.specs.Example.{example_setup, status_request, status_reply_bytes, first_file, began, IsUnlawfulAfter, heard_log, asked_log, opening_view}

-- ---- the setup and the messages

-- a till confirms a device request, which gets no reply
unfoldable pub silent_message : List ℕ
silent_message = codes "{\"SaleToPOIResponse\":{\"MessageHeader\":{\"ProtocolVersion\":\"3.0\",\"MessageClass\":\"Device\",\"MessageCategory\":\"Display\",\"MessageType\":\"Response\",\"ServiceID\":\"1\",\"DeviceID\":\"1\",\"SaleID\":\"S1\",\"POIID\":\"T1\"}}}"

-- ---- a request and its reply

-- a till has opened, and said nothing
abbrev pub opened_log : List Turn
opened_log = began example_setup ++ Polled (pos 0) ∷ Opened 1 ∷ []

-- no reply is sent where none is owed
abbrev pub UnaskedReply : Type 0
UnaskedReply = IsUnlawfulAfter opened_log (SentTill 1 (frame status_reply_bytes) true)

-- no poll comes where a reply is owed
abbrev pub PollBeforeReply : Type 0
PollBeforeReply = IsUnlawfulAfter asked_log (Polled (pos 0))

-- where the send of the reply fails, the till is cut
abbrev pub failed_send_log : List Turn
failed_send_log = asked_log ++ SentTill 1 (take 5 (frame status_reply_bytes)) false ∷ CutTill 1 ∷ Polled (pos 0) ∷ Stopped ∷ []

-- it is lawful
abbrev pub FailedSendIsLawful : Type 0
FailedSendIsLawful = IsLawful failed_send_log

-- no poll comes before that cut
abbrev pub PollBeforeCut : Type 0
PollBeforeCut = IsUnlawfulAfter (asked_log ++ SentTill 1 (take 5 (frame status_reply_bytes)) false ∷ []) (Polled (pos 0))

-- a message that gets no reply: the next poll comes at once
abbrev pub silent_log : List Turn
silent_log = heard_log (frame silent_message) ++ Polled (pos 0) ∷ Stopped ∷ []

-- it is lawful
abbrev pub SilentIsLawful : Type 0
SilentIsLawful = IsLawful silent_log

-- a frame of no bytes after a good one: the request gets its reply, and then the till is cut
abbrev pub bad_frame_log : List Turn
bad_frame_log = heard_log (frame status_request ++ 0 ∷ 0 ∷ 0 ∷ 0 ∷ []) ++ SentTill 1 (frame status_reply_bytes) true ∷ CutTill 1 ∷ Polled (pos 0) ∷ Stopped ∷ []

-- it is lawful
abbrev pub BadFrameIsLawful : Type 0
BadFrameIsLawful = IsLawful bad_frame_log

-- ---- too many tills

-- so many tills open, one after the other, from this number on
abbrev pub tills_open : ℕ → ℕ → List Turn
tills_open first zero = []
tills_open first (suc count) = Polled (pos 0) ∷ Opened first ∷ tills_open (first + 1) count

-- the 65th till is cut
abbrev pub crowded_log : List Turn
crowded_log = began example_setup ++ (tills_open 1 65 ++ CutTill 65 ∷ Polled (pos 0) ∷ Stopped ∷ [])

-- it is lawful
abbrev pub CrowdedIsLawful : Type 0
CrowdedIsLawful = IsLawful crowded_log

-- no poll comes before that cut
abbrev pub PollWhileCrowded : Type 0
PollWhileCrowded = IsUnlawfulAfter (began example_setup ++ tills_open 1 65) (Polled (pos 0))

-- ---- runs and power failures

-- a run begins in the middle of another: nobody is there, and numbers begin anew
abbrev pub restarted_log : List Turn
restarted_log = asked_log ++ began example_setup ++ Polled (pos 0) ∷ Opened 1 ∷ Polled (pos 0) ∷ Stopped ∷ []

-- it is lawful
abbrev pub RestartedIsLawful : Type 0
RestartedIsLawful = IsLawful restarted_log

-- the power fails, and leaves the file as it was: no record was ever written
abbrev pub crashed_log : List Turn
crashed_log = asked_log ++ Crash first_file ∷ (began example_setup ++ Polled (pos 0) ∷ Stopped ∷ [])

-- it is lawful
abbrev pub CrashedIsLawful : Type 0
CrashedIsLawful = IsLawful crashed_log

-- it leaves no byte that was never written
abbrev pub CrashLeavesNoOther : Type 0
CrashLeavesNoOther = IsUnlawfulAfter asked_log (Crash (first_file ++ 165 ∷ []))

-- ---- the disk

-- after the turns by which a run begins no call on the disk fails
abbrev pub NothingToLookAt : Type 0
NothingToLookAt = IsUnlawfulAfter (began example_setup) DiskFailed

-- nor where its event has come
abbrev pub NothingToLookAtLater : Type 0
NothingToLookAtLater = IsUnlawfulAfter opened_log DiskFailed

-- a gateway with two slots
abbrev pub few_setup : Setup
few_setup = record example_setup { slots = 2 }

-- A file that is too long for two slots. Another program has written it: after a lawful log, along which no record is kept yet, the file has one byte at most.
abbrev pub foreign_view : View
foreign_view = record at_first { scene = record at_first.scene { outside = record nothing_yet { file = replicate 514 0; stable = replicate 514 0 } } }

-- a run opens a journal, whose file is refused
abbrev pub refused_view : View
refused_view = after_turn foreign_view (Start few_setup)

-- while the file is looked at, after the first sync, a look may fail, and it may before the sync in its place
pub record LookMayFail (v : View) : Type 0 where
  pub synced : AllowedTurn v Synced
  pub at_sync : AllowedTurn v DiskFailed
  pub looking : AllowedTurn (after_turn v Synced) DiskFailed

-- refused or not
abbrev pub LooksMayFail : Type 0
LooksMayFail = LookMayFail opening_view × LookMayFail refused_view

-- a run whose file is refused syncs it and makes no poll
pub record RefusedIsNotPolled : Type 0 where
  pub lawful : IsCourse foreign_view (Make (Start few_setup) ∷ Make Synced ∷ [])
  pub no_poll : ¬ AllowedTurn (after_turn refused_view Synced) (Polled (pos 0))

-- a run opens a journal, whose file has its first gate
abbrev pub gated_view : View
gated_view = started at_first.scene example_setup (record { calls = Sync ∷ []; refused = false })

-- a poll ends the looking: it may come after the first sync, and no look may fail after it
pub record PollEndsLooking : Type 0 where
  pub polled : AllowedTurn (after_turn gated_view Synced) (Polled (pos 0))
  pub no_look : ¬ AllowedTurn (after_turn (after_turn gated_view Synced) (Polled (pos 0))) DiskFailed

-- so does the write of the first gate: then a look fails no more, though the sync of the gate may, and once that was made no call on the disk fails
pub record GateEndsLooking : Type 0 where
  pub wrote : AllowedTurn (after_turn opening_view Synced) first_gate_write
  pub stage_is : (after_turn (after_turn opening_view Synced) first_gate_write).scene.stage ≡ Handling
  pub no_look : ¬ AllowedTurn (after_turn (after_turn (after_turn opening_view Synced) first_gate_write) Synced) DiskFailed

-- after a failed call on the disk nothing comes before a power failure
pub record DiskFailureEnds : Type 0 where
  pub start : ¬ AllowedTurn (after_turn opening_view DiskFailed) (Start example_setup)
  pub open_failed : ¬ AllowedTurn (after_turn opening_view DiskFailed) OpenFailed
  pub poll : ¬ AllowedTurn (after_turn opening_view DiskFailed) (Polled (pos 0))

-- where the site can't be opened there is no run
abbrev pub NoRunWhereNotOpened : Type 0
NoRunWhereNotOpened = ¬ AllowedTurn (after_turn at_first OpenFailed) (Polled (pos 0))
