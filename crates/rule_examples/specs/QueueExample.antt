-- An example log of a request that waits, from the start on: an end of day joins the queue of a terminal that serves a payment, and is refused at its deadline. It is along a course that the checker computes.
use Rattle.std.specs.Prelude.{◌≡◌, ℕ, pos, true, List, [], ◌∷◌, ◌++◌, drop, map, codes}
use Rattle.sale_frame.specs.Grammar.{frame}
use Rattle.gw_base.specs.declared.condition.Condition.TheVariants.{Aborted}
use Rattle.gw_base.specs.declared.setup.Setup.{Setup}
use Rattle.gw_site.specs.declared.turn.Turn.{Turn}
use Rattle.gw_site.specs.declared.turn.Turn.TheVariants.{Start, Polled, HeardTill, SentTill, Stopped}
use Rattle.gw_owes.specs.Core.{Wait}
use Rattle.gw_owes.specs.Replies.{failure_reply}
use Rattle.gw_owes.specs.Reply.{reply_value_bytes}
use Rattle.gw_rules.specs.DayLogExample.{asked_day, day_header, day_request}
use Rattle.gw_rules.specs.Example.{IsCourseAlong}
use Rattle.gw_rules.specs.PaymentLogExample.{begun_course, begun_log, ready_none_course, ready_none_log}
use Rattle.gw_rules.specs.QueueLaws.{joined_in, queue_in}
use Rattle.gw_rules.specs.RowExample.{terminal_setup}
use Rattle.gw_rules.specs.TerminalLogExample.{items_begin}
use Rattle.gw_rules.specs.View.{View, Move, Begin, Read, Make, view_from, at_first}

-- ---- one waits

-- a gateway with one terminal, for which two requests may wait, for two seconds
abbrev pub queue_setup : Setup
queue_setup = record terminal_setup { line = 2; wait = 2 }

-- the terminal is ready, and a payment is begun at the moment 3
abbrev pub serving_log : List Turn
serving_log = Start queue_setup ∷ (drop 1 ready_none_log ++ begun_log)

-- its course
abbrev pub serving_course : List Move
serving_course = Make (Start queue_setup) ∷ (drop 1 ready_none_course ++ begun_course)

-- the same till asks for an end of day then: it gets no reply yet
abbrev pub joining_log : List Turn
joining_log = Polled (pos 3) ∷ HeardTill 1 (frame day_request) ∷ []

-- its course: the message is read and begins, and then the item with which the request joins those that wait, before those that may be due
abbrev pub joining_course : List Move
joining_course = Make (Polled (pos 3)) ∷ Make (HeardTill 1 (frame day_request)) ∷ Read asked_day ∷ Begin ∷ Begin ∷ items_begin 2

-- ---- its deadline

-- one second later it isn't refused yet, and two seconds later it is
abbrev pub overdue_log : List Turn
overdue_log = Polled (pos 4) ∷ Polled (pos 5) ∷ SentTill 1 (reply_value_bytes (failure_reply day_header Aborted)) true ∷ Polled (pos 6) ∷ Stopped ∷ []

-- its course up to the poll at the deadline: three items may be due
abbrev pub early_course : List Move
early_course = Make (Polled (pos 4)) ∷ (items_begin 3 ++ Make (Polled (pos 5)) ∷ [])

-- and from there on
abbrev pub overdue_course : List Move
overdue_course = Begin ∷ Begin ∷ Make (SentTill 1 (reply_value_bytes (failure_reply day_header Aborted)) true) ∷ Begin ∷ Make (Polled (pos 6)) ∷ Make Stopped ∷ []

-- the ServiceIDs of those that wait for the terminal
abbrev pub services_in : View → List (List ℕ)
services_in v = map (λ (wait : Wait). wait.key.service) (queue_in v 0)

-- the log is lawful; the end of day joins the queue, is there at its deadline, and then isn't
pub record ExampleQueues : Type 0 where
  pub along : IsCourseAlong (serving_log ++ joining_log ++ overdue_log) (serving_course ++ joining_course ++ early_course ++ overdue_course)
  pub empty : services_in (view_from at_first serving_course) ≡ []
  pub waits : services_in (view_from at_first (serving_course ++ joining_course)) ≡ codes "2" ∷ []
  pub joined : map (λ (wait : Wait). wait.key.service) (joined_in 0 (view_from at_first serving_course) joining_course) ≡ codes "2" ∷ []
  pub still : services_in (view_from at_first (serving_course ++ joining_course ++ early_course)) ≡ codes "2" ∷ []
  pub refused : services_in (view_from at_first (serving_course ++ joining_course ++ early_course ++ overdue_course)) ≡ []
