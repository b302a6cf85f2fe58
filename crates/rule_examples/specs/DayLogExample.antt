-- Example logs of an end of day: from the till's bytes to its totals, and one that isn't finished, as the terminal's link is lost. Beside them a course of a display. Each is along a course that the checker computes.
use Rattle.std.specs.Prelude.{◌≡◌, pos, true, List, [], ◌∷◌, ◌++◌, Some}
use Rattle.gw_base.specs.declared.condition.Condition.TheVariants.{UnavailableDevice}
use Rattle.sale_frame.specs.Grammar.{frame}
use Rattle.gw_site.specs.declared.turn.Turn.{Turn}
use Rattle.gw_site.specs.declared.turn.Turn.TheVariants.{Polled, HeardTill, HeardPt, Lost, SentTill, SentPt, Stopped}
use Rattle.sale_values.specs.declared.request.SaleRequest.TheVariants as requests
use Rattle.jrn_record.specs.declared.records.Record.TheVariants.{Intent, Outcome, Settled}
use Rattle.gw_owes.specs.Items.{Serve}
use Rattle.gw_owes.specs.Replies.{failure_reply}
use Rattle.gw_owes.specs.Reply.{reply_value_bytes}
use Rattle.gw_owes.specs.TerminalExample.{ack, completion}
use Rattle.gw_owes.specs.declared.terminal.Standing.TheVariants.{Unlinked, Ready}
use Rattle.gw_rules.specs.DayLogExample.{day_request, day_header, asked_day, day_sent, intermediate, shown_status, logged_settled, totals_reply, hello, hello_cashier, display_header, hello_sent, hello_reply}
use Rattle.gw_rules.specs.PaymentLogExample.{logged_intent, logged_outcome, keep_turns, keep_moves, ready_none_log, ready_none_course, begun_log, begun_course}
use Rattle.rule_examples.specs.PaymentLogExample.{replied_log, replied_course, replied_view}
use Rattle.rule_examples.specs.RowExample.{LeadsToStanding}
use Rattle.gw_rules.specs.TerminalLogExample.{items_begin, LeavesStanding}
use Rattle.gw_rules.specs.View.{View, Move, Begin, Read, Make, view_from, at_first}

-- ---- an end of day begins

-- once its payment is approved, the till asks for the end of day: nothing is kept, and the terminal is asked
abbrev pub day_begun_log : List Turn
day_begun_log = Polled (pos 5) ∷ HeardTill 1 (frame day_request) ∷ SentPt 0 day_sent true ∷ []

-- its course: what is left of the payment begins, and then the message is read and begins, and the item with which the terminal begins to serve it
abbrev pub day_begun_course : List Move
day_begun_course = items_begin 3 ++ Make (Polled (pos 5)) ∷ Make (HeardTill 1 (frame day_request)) ∷ Read asked_day ∷ Begin ∷ Begin ∷ Make (SentPt 0 day_sent true) ∷ items_begin 2

-- ---- it is done

-- The terminal acknowledges the end of day and says an intermediate status, which the till is asked to show; then it completes it: the Settled is kept, and then the till gets the totals.
abbrev pub day_done_log : List Turn
day_done_log =
    Polled (pos 6) ∷ HeardPt 0 (ack ++ intermediate ++ completion) ∷ SentPt 0 ack true ∷ SentTill 1 (reply_value_bytes shown_status) true ∷ SentPt 0 ack true
    ∷ (keep_turns 2 (Settled logged_settled) ++ SentTill 1 (reply_value_bytes totals_reply) true ∷ Polled (pos 7) ∷ Stopped ∷ [])

-- what the terminal says, up to where the Completion is handled
abbrev pub day_said_course : List Move
day_said_course =
    Make (Polled (pos 6)) ∷ Make (HeardPt 0 (ack ++ intermediate ++ completion)) ∷ (items_begin 4 ++ Make (SentPt 0 ack true) ∷ Begin ∷ Make (SentTill 1 (reply_value_bytes shown_status) true) ∷ Begin ∷ Begin ∷ Make (SentPt 0 ack true) ∷ [])

-- and from there on
abbrev pub day_kept_course : List Move
day_kept_course = Begin ∷ (keep_moves 2 (Settled logged_settled) ++ Make (SentTill 1 (reply_value_bytes totals_reply) true) ∷ (items_begin 3 ++ Make (Polled (pos 7)) ∷ Make Stopped ∷ []))

-- the whole course
abbrev pub day_course : List Move
day_course = ready_none_course ++ begun_course ++ replied_course ++ day_begun_course ++ day_said_course ++ day_kept_course

-- the log is lawful; the terminal is ready as before, and the Settled is kept after the payment
pub record DayIsLawful : Type 0 where
  pub leaves : LeavesStanding (ready_none_log ++ begun_log ++ replied_log ++ day_begun_log ++ day_done_log) day_course (Ready 123)
  pub kept_is : (view_from at_first day_course).scene.kept ≡ Intent logged_intent ∷ Outcome (logged_outcome 4) ∷ Settled logged_settled ∷ []

-- ---- the terminal's link is lost

-- the terminal's link is lost as it serves the end of day: the till gets a Failure, and nothing is kept
abbrev pub day_lost_log : List Turn
day_lost_log = Polled (pos 6) ∷ Lost 0 ∷ SentTill 1 (reply_value_bytes (failure_reply day_header UnavailableDevice)) true ∷ Polled (pos 7) ∷ Stopped ∷ []

-- its course
abbrev pub day_lost_course : List Move
day_lost_course =
    Make (Polled (pos 6)) ∷ Make (Lost 0) ∷ Begin ∷ Make (SentTill 1 (reply_value_bytes (failure_reply day_header UnavailableDevice)) true) ∷ (items_begin 2 ++ Make (Polled (pos 7)) ∷ Make Stopped ∷ [])

-- the whole course
abbrev pub lost_day_course : List Move
lost_day_course = ready_none_course ++ begun_course ++ replied_course ++ day_begun_course ++ day_lost_course

-- the log is lawful; the terminal is due five seconds later, and no Settled is kept
pub record LostDayIsLawful : Type 0 where
  pub leaves : LeavesStanding (ready_none_log ++ begun_log ++ replied_log ++ day_begun_log ++ day_lost_log) lost_day_course (Unlinked (Some 11))
  pub kept_is : (view_from at_first lost_day_course).scene.kept ≡ Intent logged_intent ∷ Outcome (logged_outcome 4) ∷ []

-- ---- a display

-- the terminal is ready, and the till's Display is to begin there
abbrev pub display_view : View
display_view = record replied_view { items = Serve 0 1 display_header (requests.Display (hello_cashier ∷ hello ∷ [])) ∷ [] }

-- the terminal is asked to show it, and acknowledges that: the till gets the results
abbrev pub display_moves : List Move
display_moves = Begin ∷ Make (SentPt 0 hello_sent true) ∷ Make (Polled (pos 6)) ∷ Make (HeardPt 0 ack) ∷ (items_begin 2 ++ Make (SentTill 1 (reply_value_bytes hello_reply) true) ∷ [])

-- it is ready again then
abbrev pub DisplayIsLawful : Type 0
DisplayIsLawful = LeadsToStanding display_view display_moves (Ready 123)
