-- Example logs of a till that closes in the middle of its device requests, and of an end of day that can't be sent. Each is along a course that the checker computes.
use Rattle.std.specs.Prelude.{◌≡◌, pos, true, false, List, [], ◌∷◌, ◌++◌, Some, None, option_map, slice_get, codes}
use Rattle.gw_base.specs.declared.condition.Condition.TheVariants.{UnavailableDevice}
use Rattle.gw_base.specs.declared.key.Key.{Key}
use Rattle.sale_frame.specs.Grammar.{frame}
use Rattle.gw_site.specs.declared.turn.Turn.{Turn}
use Rattle.gw_site.specs.declared.turn.Turn.TheVariants.{Polled, HeardTill, Closed, HeardPt, SentTill, SentPt, CutPt, Stopped}
use Rattle.jrn_record.specs.declared.records.Record.TheVariants.{Intent, Outcome}
use Rattle.gw_owes.specs.DeviceRequests.{device_header}
use Rattle.gw_owes.specs.Replies.{failure_reply}
use Rattle.gw_owes.specs.Reply.{ReplyValue, DisplayRequest, reply_value_bytes}
use Rattle.gw_owes.specs.TerminalExample.{ack, completion, approved_status}
use Rattle.gw_owes.specs.declared.terminal.Standing.TheVariants.{Unlinked, Ready}
use Rattle.gw_owes.specs.declared.terminal.Terminal.{Terminal}
use Rattle.gw_rules.specs.DayLogExample.{day_request, day_header, asked_day, intermediate}
use Rattle.gw_rules.specs.PaymentLogExample.{logged_intent, logged_outcome, keep_turns, keep_moves, ready_none_log, ready_none_course, begun_log, begun_course}
use Rattle.rule_examples.specs.PaymentLogExample.{replied_log, replied_course}
use Rattle.gw_rules.specs.TerminalLogExample.{items_begin, LeavesStanding}
use Rattle.gw_rules.specs.View.{Move, Begin, Read, Make, view_from, at_first}

-- ---- a till that closes in the middle of its device requests

-- the key of its payment
abbrev pub key_paid : Key
key_paid = record { sale = codes "S1"; poi = codes "T1"; service = codes "1" }

-- the first intermediate status of the payment is shown at the till
abbrev pub shown_first : ReplyValue
shown_first = DisplayRequest (device_header (codes "Display") key_paid 0) 0x0A

-- the terminal acknowledges the payment and says an intermediate status, which the till is asked to show
abbrev pub shown_log : List Turn
shown_log = Polled (pos 4) ∷ HeardPt 0 (ack ++ intermediate) ∷ SentPt 0 ack true ∷ SentTill 1 (reply_value_bytes shown_first) true ∷ []

-- its course
abbrev pub shown_course : List Move
shown_course = Make (Polled (pos 4)) ∷ Make (HeardPt 0 (ack ++ intermediate)) ∷ (items_begin 4 ++ Make (SentPt 0 ack true) ∷ Begin ∷ Make (SentTill 1 (reply_value_bytes shown_first) true) ∷ items_begin 3)

-- The till closes. The terminal says another intermediate status, of which nothing is sent to a till; then it approves the payment and completes it: the Outcome is kept, and no till gets a reply.
abbrev pub closed_log : List Turn
closed_log =
    Polled (pos 5) ∷ Closed 1 ∷ Polled (pos 6) ∷ HeardPt 0 (intermediate ++ approved_status ++ completion) ∷ SentPt 0 ack true ∷ SentPt 0 ack true ∷ SentPt 0 ack true ∷ (keep_turns 1 (Outcome (logged_outcome 6)) ++ Polled (pos 7) ∷ Stopped ∷ [])

-- the till closes, and is forgotten
abbrev pub gone_course : List Move
gone_course = Make (Polled (pos 5)) ∷ Make (Closed 1) ∷ items_begin 3

-- what the terminal says, up to where the Completion is handled
abbrev pub closed_said_course : List Move
closed_said_course =
    Make (Polled (pos 6)) ∷ Make (HeardPt 0 (intermediate ++ approved_status ++ completion)) ∷ Begin ∷ Make (SentPt 0 ack true) ∷ (items_begin 3 ++ Make (SentPt 0 ack true) ∷ (items_begin 3 ++ Make (SentPt 0 ack true) ∷ []))

-- and from there on
abbrev pub closed_kept_course : List Move
closed_kept_course = Begin ∷ (keep_moves 1 (Outcome (logged_outcome 6)) ++ items_begin 3 ++ Make (Polled (pos 7)) ∷ Make Stopped ∷ [])

-- the whole course
abbrev pub closed_till_course : List Move
closed_till_course = ready_none_course ++ begun_course ++ shown_course ++ gone_course ++ closed_said_course ++ closed_kept_course

-- The log is lawful; the terminal is ready with the payment's trace number and is no till's, and both records are kept. One device request was owed.
pub record ClosedTillIsLawful : Type 0 where
  pub leaves : LeavesStanding (ready_none_log ++ begun_log ++ shown_log ++ closed_log) closed_till_course (Ready 123)
  pub kept_is : (view_from at_first closed_till_course).scene.kept ≡ Intent logged_intent ∷ Outcome (logged_outcome 6) ∷ []
  pub asker_is : option_map (λ (terminal : Terminal). terminal.asker) (slice_get (view_from at_first closed_till_course).scene.core.terminals 0) ≡ Some None
  pub owed_one : (view_from at_first closed_till_course).scene.core.device_requests ≡ 1

-- ---- an end of day that can't be sent

-- once its payment is approved, the till asks for the end of day; its command can't be sent whole: the terminal is cut, and then the till gets a Failure
abbrev pub day_unsent_log : List Turn
day_unsent_log =
    Polled (pos 5) ∷ HeardTill 1 (frame day_request) ∷ SentPt 0 (0x06 ∷ 0x50 ∷ []) false ∷ CutPt 0 ∷ SentTill 1 (reply_value_bytes (failure_reply day_header UnavailableDevice)) true ∷ Polled (pos 6) ∷ Stopped ∷ []

-- its course: what is left of the payment begins, and then the message is read and begins, and the item with which the terminal begins to serve it
abbrev pub day_unsent_course : List Move
day_unsent_course =
    items_begin 3 ++ Make (Polled (pos 5)) ∷ Make (HeardTill 1 (frame day_request)) ∷ Read asked_day ∷ Begin ∷ Begin ∷ Make (SentPt 0 (0x06 ∷ 0x50 ∷ []) false) ∷ Make (CutPt 0) ∷ Make (SentTill 1 (reply_value_bytes (failure_reply day_header UnavailableDevice)) true) ∷ (items_begin 2 ++ Make (Polled (pos 6)) ∷ Make Stopped ∷ [])

-- the whole course
abbrev pub unsent_day_course : List Move
unsent_day_course = ready_none_course ++ begun_course ++ replied_course ++ day_unsent_course

-- the log is lawful; the terminal is due five seconds later, and no Settled is kept
pub record UnsentDayIsLawful : Type 0 where
  pub leaves : LeavesStanding (ready_none_log ++ begun_log ++ replied_log ++ day_unsent_log) unsent_day_course (Unlinked (Some 10))
  pub kept_is : (view_from at_first unsent_day_course).scene.kept ≡ Intent logged_intent ∷ Outcome (logged_outcome 4) ∷ []
