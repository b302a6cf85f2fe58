-- Example logs of a payment, from the start on: from the till's bytes to its reply, and what is silent and open on the way. Each is along a course that the checker computes.
use Rattle.std.specs.Prelude.{◌≡◌, pos, true, List, [], ◌∷◌, ◌++◌, slice_get, Some}
use Rattle.gw_site.specs.declared.turn.Turn.{Turn}
use Rattle.gw_site.specs.declared.turn.Turn.TheVariants.{Polled, HeardPt, CutPt, SentTill, SentPt, Stopped}
use Rattle.jrn_record.specs.declared.records.Record.TheVariants.{Intent, Outcome}
use Rattle.gw_owes.specs.Reply.{reply_value_bytes}
use Rattle.gw_owes.specs.TerminalExample.{ack, completion, approved_status}
use Rattle.gw_owes.specs.declared.terminal.Standing.TheVariants.{Ready, Serving}
use Rattle.gw_owes.specs.declared.terminal.Service.TheVariants.{Transaction}
use Rattle.gw_owes.specs.declared.terminal.Terminal.{Terminal}
use Rattle.gw_owes.specs.RecordLaws.{HasNoneOpen, IsServedOpen}
use Rattle.gw_rules.specs.Lawful.{Stands}
use Rattle.gw_rules.specs.RecordOrder.{IsBetweenItems}
use Rattle.gw_rules.specs.SilenceLaws.{IsSilentAlong}
use Rattle.gw_rules.specs.TerminalLogExample.{items_begin, LeavesStanding}
use Rattle.gw_rules.specs.View.{View, Move, Begin, Make, view_from, at_first}
use Rattle.gw_rules.specs.PaymentLogExample.{logged_intent, logged_outcome, logged_reply, keep_turns, keep_moves, ready_none_log, ready_none_course, begun_log, begun_course}

-- ---- it is approved

-- the terminal acknowledges the payment, reports it as approved, and completes it: the Outcome is kept, and then the till gets its reply
abbrev pub approved_log : List Turn
approved_log =
    Polled (pos 4) ∷ HeardPt 0 (ack ++ approved_status ++ completion) ∷ SentPt 0 ack true ∷ SentPt 0 ack true ∷ (keep_turns 1 (Outcome (logged_outcome 4)) ++ SentTill 1 (reply_value_bytes (logged_reply 4)) true ∷ Polled (pos 5) ∷ Stopped ∷ [])

-- its course
abbrev pub approved_course : List Move
approved_course =
    Make (Polled (pos 4)) ∷ Make (HeardPt 0 (ack ++ approved_status ++ completion)) ∷ (items_begin 4 ++ Make (SentPt 0 ack true) ∷ (items_begin 3 ++ Make (SentPt 0 ack true) ∷ Begin ∷ (keep_moves 1 (Outcome (logged_outcome 4)) ++ Make (SentTill 1 (reply_value_bytes (logged_reply 4)) true) ∷ (items_begin 3 ++ Make (Polled (pos 5)) ∷ Make Stopped ∷ []))))

-- the log is lawful; the terminal is ready with the payment's trace number, and both records are kept
pub record PaymentIsLawful : Type 0 where
  pub leaves : LeavesStanding (ready_none_log ++ begun_log ++ approved_log) (ready_none_course ++ begun_course ++ approved_course) (Ready 123)
  pub kept_is : (view_from at_first (ready_none_course ++ begun_course ++ approved_course)).scene.kept ≡ Intent logged_intent ∷ Outcome (logged_outcome 4) ∷ []

-- ---- what other laws say of them

-- the view once the payment is begun
abbrev pub serving_view : View
serving_view = view_from at_first (ready_none_course ++ begun_course)

-- the log is lawful up to there, and ends between items; the terminal serves the payment of slot 0, which is its open key
pub record BegunIsServedOpen : Type 0 where
  pub stands : Stands (ready_none_log ++ begun_log) serving_view
  pub between : IsBetweenItems serving_view
  pub terminal : Terminal
  pub found : slice_get serving_view.scene.core.terminals 0 ≡ Some terminal
  pub standing_is : terminal.standing ≡ Serving (Transaction 0) 0
  pub served : IsServedOpen serving_view.scene.kept terminal.pt.poi 0 0

-- the terminal's messages until the till has its reply
abbrev pub replied_log : List Turn
replied_log = Polled (pos 4) ∷ HeardPt 0 (ack ++ approved_status ++ completion) ∷ SentPt 0 ack true ∷ SentPt 0 ack true ∷ (keep_turns 1 (Outcome (logged_outcome 4)) ++ SentTill 1 (reply_value_bytes (logged_reply 4)) true ∷ [])

-- their course
abbrev pub replied_course : List Move
replied_course =
    Make (Polled (pos 4)) ∷ Make (HeardPt 0 (ack ++ approved_status ++ completion)) ∷ (items_begin 4 ++ Make (SentPt 0 ack true) ∷ (items_begin 3 ++ Make (SentPt 0 ack true) ∷ Begin ∷ (keep_moves 1 (Outcome (logged_outcome 4)) ++ Make (SentTill 1 (reply_value_bytes (logged_reply 4)) true) ∷ [])))

-- the view then
abbrev pub replied_view : View
replied_view = view_from at_first (ready_none_course ++ begun_course ++ replied_course)

-- the log is lawful up to there, and ends between items; the terminal is ready with 123, and none of its keys is open
pub record PaidHasNoneOpen : Type 0 where
  pub stands : Stands (ready_none_log ++ begun_log ++ replied_log) replied_view
  pub between : IsBetweenItems replied_view
  pub terminal : Terminal
  pub found : slice_get replied_view.scene.core.terminals 0 ≡ Some terminal
  pub standing_is : terminal.standing ≡ Ready 123
  pub none_open : HasNoneOpen replied_view.scene.kept terminal.pt.poi 123

-- five seconds after the payment was sent, a poll brings nothing: the terminal is cut
abbrev pub late_moves : List Move
late_moves = Begin ∷ Make (CutPt 0) ∷ Begin ∷ []

-- the terminal that serves the payment was silent
abbrev pub PaymentIsSilent : Type 0
PaymentIsSilent = IsSilentAlong (ready_none_log ++ begun_log) serving_view [] late_moves (pos 8) 0
