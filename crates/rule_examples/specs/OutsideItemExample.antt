-- Example logs in which an item of bytes outside the grammars changes no books, at a place where an Intent is kept and two tills wait: each has the whole premise of the law, and what would be wrong to conclude.
use Rattle.std.specs.Prelude.{◌≡◌, ℕ, pos, true, false, List, [], ◌∷◌, ◌++◌, map, codes, Some}
use Rattle.gw_base.specs.declared.key.Key.{Key}
use Rattle.sale_frame.specs.Grammar.{frame}
use Rattle.gw_site.specs.Outside.{is_connected}
use Rattle.gw_site.specs.declared.turn.Turn.{Turn}
use Rattle.gw_site.specs.declared.turn.Turn.TheVariants.{Polled, Opened, HeardTill, HeardPt, SentTill, CutTill, CutPt}
use Rattle.sale_reply.specs.declared.reply.Detail.TheVariants as details
use Rattle.sale_values.specs.declared.header.Header.{Header}
use Rattle.sale_values.specs.declared.names.Period.TheVariants.{AcquirerReconciliation}
use Rattle.sale_values.specs.declared.request.SaleRequest.TheVariants as requests
use Rattle.jrn_record.specs.declared.records.Record.TheVariants.{Intent}
use Rattle.gw_owes.specs.Core.{Wait}
use Rattle.gw_owes.specs.Items.{RoundItem, Crowded, Message, Asked, Unframed, Greet, Handle, NextWaiting, Oversized, Late, Overdue, Due}
use Rattle.gw_owes.specs.PaymentExample.{till_header}
use Rattle.gw_owes.specs.ReadAs.{ReadAs, Request}
use Rattle.gw_owes.specs.Replies.{reject_event}
use Rattle.gw_owes.specs.Reply.{ReplyValue, reply_value_bytes}
use Rattle.gw_owes.specs.TerminalExample.{outside_status}
use Rattle.gw_owes.specs.declared.terminal.Standing.TheVariants.{Unlinked}
use Rattle.gw_rules.specs.CauseExample.{outside_apdu}
use Rattle.gw_rules.specs.DayLogExample.{day_key}
use Rattle.gw_rules.specs.Example.{began, example_setup}
use Rattle.gw_rules.specs.MalformedLaws.{IsCutAlone, IsItemCourse, IsOfTillBytes, ItemLeavesOthers, TerminalOutcome, TillOutcome}
use Rattle.gw_rules.specs.OutsideLaws.{IsOfBytes, till_gone}
use Rattle.gw_rules.specs.PaymentLogExample.{logged_intent}
use Rattle.gw_rules.specs.QueueLaws.{IsOfOutside, not_of_till}
use Rattle.gw_rules.specs.RowExample.{first_standing}
use Rattle.gw_rules.specs.TerminalLogExample.{items_begin}
use Rattle.gw_rules.specs.View.{View, Move, Begin, Read, Make, after, at_item, view_from, at_first}
use Rattle.rule_examples.specs.Example.{tills_open}
use Rattle.rule_examples.specs.MalformedExample.{empty_message, headless, no_frame, too_long_rest}
use Rattle.rule_examples.specs.QueueExample.{joining_course, joining_log, services_in, serving_course, serving_log}

-- ---- two tills wait

-- an end of day with ServiceID 3, in bytes
unfoldable pub next_day_request : List ℕ
next_day_request = codes "{\"SaleToPOIRequest\":{\"MessageHeader\":{\"ProtocolVersion\":\"3.0\",\"MessageClass\":\"Service\",\"MessageCategory\":\"Reconciliation\",\"MessageType\":\"Request\",\"ServiceID\":\"3\",\"SaleID\":\"S1\",\"POIID\":\"T1\"},\"ReconciliationRequest\":{\"ReconciliationType\":\"AcquirerReconciliation\"}}}"

-- its header
abbrev pub next_day_header : Header
next_day_header = till_header (codes "Reconciliation") (codes "3")

-- its key
abbrev pub next_day_key : Key
next_day_key = record day_key { service = codes "3" }

-- as it is read
abbrev pub asked_next_day : ReadAs
asked_next_day = Request next_day_header (requests.Reconciliation AcquirerReconciliation)

-- a payment of till 1 is served, and an end of day of it waits; till 2 opens, and its own joins that
abbrev pub waiting_log : List Turn
waiting_log = serving_log ++ joining_log ++ Polled (pos 3) ∷ Opened 2 ∷ Polled (pos 3) ∷ HeardTill 2 (frame next_day_request) ∷ []

-- the course in which till 2 joins
abbrev pub next_joining_course : List Move
next_joining_course =
    Make (Polled (pos 3)) ∷ Make (Opened 2) ∷ (items_begin 3 ++ Make (Polled (pos 3)) ∷ Make (HeardTill 2 (frame next_day_request)) ∷ Read asked_next_day ∷ Begin ∷ Begin ∷ items_begin 3)

-- its course
abbrev pub waiting_course : List Move
waiting_course = serving_course ++ joining_course ++ next_joining_course

-- the items that may be due there
abbrev pub items_waiting : List RoundItem
items_waiting = Late 0 ∷ Overdue day_key ∷ Overdue next_day_key ∷ Due 0 ∷ []

-- what is kept there, and who waits
pub record IsScene (v : View) : Type 0 where
  pub kept : v.scene.kept ≡ Intent logged_intent ∷ []
  pub services : services_in v ≡ codes "2" ∷ codes "3" ∷ []
  pub tills : map (λ (wait : Wait). wait.till) v.scene.core.waits ≡ 1 ∷ 2 ∷ []

-- ---- what is said of an item there

-- after this log the item begins in the view to which this course leads, and these moves are made of it; before them the Intent is kept and both wait, and after them it is kept and these wait
pub record HasItem (log : List Turn) (course : List Move) (item : RoundItem) (items : List RoundItem) (moves : List Move) (services : List (List ℕ)) : Type 0 where
  pub premise : IsItemCourse log (view_from at_first course) item items moves
  pub outside : IsOfOutside item
  pub scene : IsScene (view_from at_first course)
  pub kept : (view_from (after (view_from at_first course) Begin) moves).scene.kept ≡ Intent logged_intent ∷ []
  pub waits : services_in (view_from (after (view_from at_first course) Begin) moves) ≡ services

-- the view once these moves are made of the item that begins after this course
abbrev pub item_view : List Move → List Move → View
item_view course moves = view_from (after (view_from at_first course) Begin) moves

-- ---- a message without a header

-- the moves after which its item begins
abbrev pub message_course : List Move
message_course = waiting_course ++ Make (Polled (pos 3)) ∷ Make (HeardTill 2 (frame empty_message)) ∷ Read headless ∷ []

-- its reply, of the moment 3
abbrev pub late_reject : ReplyValue
late_reject = reject_event (codes "GATEWAY") 3 (details.Header (codes "SaleToPOIRequest"))

-- its till gets that
abbrev pub message_moves : List Move
message_moves = Make (SentTill 2 (reply_value_bytes late_reject) true) ∷ []

-- the Intent and both requests stay
pub record MessageLeavesAll : Type 0 where
  pub item : HasItem (waiting_log ++ Polled (pos 3) ∷ HeardTill 2 (frame empty_message) ∷ []) message_course (Asked 2 headless) items_waiting message_moves (codes "2" ∷ codes "3" ∷ [])
  pub of_till : IsOfTillBytes 2 (Asked 2 headless)
  pub leaves : ItemLeavesOthers (view_from at_first message_course) items_waiting message_moves (TillOutcome 2 (Asked 2 headless))
  -- it would be wrong that its till's requests leave without a cut
  pub none_leaves : (item_view message_course message_moves).scene.core.waits ≡ not_of_till 2 (view_from at_first message_course).scene.core.waits → ⊥

-- ---- a message after the till is gone

-- the message comes twice, and the reply to the first can't be sent, so that the till is cut
abbrev pub gone_till_course : List Move
gone_till_course =
    waiting_course ++ Make (Polled (pos 3)) ∷ Make (HeardTill 2 (frame empty_message ++ frame empty_message)) ∷ Read headless ∷ Begin ∷ Make (SentTill 2 [] false) ∷ Make (CutTill 2) ∷ []

-- with that cut its own request leaves; then the second begins unread, and nothing more changes
pub record GoneTillLeavesAll : Type 0 where
  pub premise : IsItemCourse (waiting_log ++ Polled (pos 3) ∷ HeardTill 2 (frame empty_message ++ frame empty_message) ∷ SentTill 2 [] false ∷ CutTill 2 ∷ []) (view_from at_first gone_till_course) (Message 2 empty_message) items_waiting []
  pub waits : services_in (view_from at_first gone_till_course) ≡ codes "2" ∷ []
  pub leaves : ItemLeavesOthers (view_from at_first gone_till_course) items_waiting [] (TillOutcome 2 (Message 2 empty_message))
  pub kept : (item_view gone_till_course []).scene.kept ≡ Intent logged_intent ∷ []
  pub still : services_in (item_view gone_till_course []) ≡ codes "2" ∷ []

-- ---- bytes that begin no frame

-- the moves after which their item begins
abbrev pub frame_course : List Move
frame_course = waiting_course ++ Make (Polled (pos 3)) ∷ Make (HeardTill 2 no_frame) ∷ []

-- their till is cut
abbrev pub frame_moves : List Move
frame_moves = Make (CutTill 2) ∷ []

-- the Intent stays, and of both requests that of the other till
pub record FrameLeavesOther : Type 0 where
  pub item : HasItem (waiting_log ++ Polled (pos 3) ∷ HeardTill 2 no_frame ∷ []) frame_course (Unframed 2) items_waiting frame_moves (codes "2" ∷ [])
  pub of_till : IsOfTillBytes 2 (Unframed 2)
  pub leaves : ItemLeavesOthers (view_from at_first frame_course) items_waiting frame_moves (TillOutcome 2 (Unframed 2))
  -- it would be wrong that all wait still, or that the other till's request leaves
  pub own_leaves : (item_view frame_course frame_moves).scene.core.waits ≡ (view_from at_first frame_course).scene.core.waits → ⊥
  pub other_stays : (item_view frame_course frame_moves).scene.core.waits ≡ not_of_till 1 (view_from at_first frame_course).scene.core.waits → ⊥

-- ---- an APDU outside the grammar

-- the moves after which its item begins
abbrev pub apdu_course : List Move
apdu_course = waiting_course ++ Make (Polled (pos 3)) ∷ Make (HeardPt 0 outside_status) ∷ []

-- the items after its first
abbrev pub items_after_greeting : List RoundItem
items_after_greeting = Handle 0 outside_apdu ∷ NextWaiting 0 ∷ items_waiting

-- its terminal is cut
abbrev pub terminal_moves : List Move
terminal_moves = Make (CutPt 0) ∷ []

-- the Intent and both requests stay, and the terminal is due five seconds later
pub record ApduLeavesOthers : Type 0 where
  pub item : HasItem (waiting_log ++ Polled (pos 3) ∷ HeardPt 0 outside_status ∷ []) apdu_course (Greet 0 outside_apdu) items_after_greeting terminal_moves (codes "2" ∷ codes "3" ∷ [])
  pub of_terminal : IsOfBytes 0 (Greet 0 outside_apdu)
  pub leaves : ItemLeavesOthers (view_from at_first apdu_course) items_after_greeting terminal_moves (TerminalOutcome 0)
  pub due : first_standing (item_view apdu_course terminal_moves) ≡ Some (Unlinked (Some 8))
  -- it would be wrong that nothing changes, or that a till is gone
  pub link_ends : (item_view apdu_course terminal_moves).scene ≡ at_item (view_from at_first apdu_course).scene → ⊥
  pub tills_stay : (item_view apdu_course terminal_moves).scene ≡ till_gone (item_view apdu_course terminal_moves).scene 1 → ⊥

-- ---- an APDU above the limit

-- the moves after which its item begins
abbrev pub too_long_item_course : List Move
too_long_item_course = waiting_course ++ Make (Polled (pos 3)) ∷ Make (HeardPt 0 too_long_rest) ∷ []

-- the Intent and both requests stay, and the terminal is due five seconds later
pub record TooLongLeavesOthers : Type 0 where
  pub item : HasItem (waiting_log ++ Polled (pos 3) ∷ HeardPt 0 too_long_rest ∷ []) too_long_item_course (Oversized 0) items_waiting terminal_moves (codes "2" ∷ codes "3" ∷ [])
  pub of_terminal : IsOfBytes 0 (Oversized 0)
  pub leaves : ItemLeavesOthers (view_from at_first too_long_item_course) items_waiting terminal_moves (TerminalOutcome 0)
  pub due : first_standing (item_view too_long_item_course terminal_moves) ≡ Some (Unlinked (Some 8))
  -- it would be wrong that its link stays
  pub link_ends : is_connected (item_view too_long_item_course terminal_moves).scene.outside.links 0 ≡ true → ⊥

-- ---- a till more than may be there

-- the moves after which its item begins: 64 others are there
abbrev pub crowded_course : List Move
crowded_course = map Make (began example_setup ++ tills_open 1 65)

-- it is cut
abbrev pub crowded_moves : List Move
crowded_moves = Make (CutTill 65) ∷ []

-- and no other is
pub record CrowdedIsCut : Type 0 where
  pub premise : IsItemCourse (began example_setup ++ tills_open 1 65) (view_from at_first crowded_course) (Crowded 65) [] crowded_moves
  pub leaves : ItemLeavesOthers (view_from at_first crowded_course) [] crowded_moves (IsCutAlone 65)
  pub others_stay : is_connected (item_view crowded_course crowded_moves).scene.outside.tills 64 ≡ false → ⊥
