-- The example logs of an item of bytes outside the grammars.
use Rattle.std.proofs.Common.{◌≡◌, List, [], ◌∷◌, ◌++◌, true, false, refl, ap, arith}
use Rattle.std.specs.Prelude.{Bool, ◌==◌, length, pos}
use Rattle.sale_frame.specs.Grammar.{frame}
use Rattle.gw_site.specs.Outside.{is_connected}
use Rattle.gw_site.specs.declared.turn.Turn.TheVariants.{Polled, HeardTill, HeardPt, SentTill, CutTill}
use Rattle.zvt_apdu.specs.DecodeStream.{decode_apdus, decode_apdus_within}
use Rattle.zvt_bmp.specs.Decode.{decode_field_value, decode_status_field, decode_status_within, decode_status}
use Rattle.zvt_msg.specs.MessageDecode.{decode_pt_message}
use Rattle.gw_ledger.specs.History.{history}
use Rattle.gw_owes.specs.Core.{Wait}
use Rattle.gw_owes.specs.Items.{Asked, Crowded, Greet, Message, Oversized, Unframed}
use Rattle.gw_owes.specs.Reply.{reply_value_bytes}
use Rattle.gw_owes.specs.TerminalExample.{outside_status}
use Rattle.gw_rules.specs.CauseExample.{outside_apdu}
use Rattle.gw_rules.specs.DayLogExample.{day_request}
use Rattle.gw_rules.specs.Example.{began, example_setup}
use Rattle.gw_rules.specs.Lawful.{IsChunk, IsCourse}
use Rattle.gw_rules.specs.MalformedLaws.{IsItemCourse}
use Rattle.gw_rules.specs.PaymentLogExample.{payment_request}
use Rattle.gw_rules.specs.Scene.{Scene}
use Rattle.gw_rules.specs.View.{View, Begin, Read, Make, after, view_from, at_first}
use Rattle.gw_rules.proofs.CauseExampleLemmas.{outside-cause}
use Rattle.gw_rules.proofs.CourseLemmas.{course-append}
use Rattle.gw_rules.proofs.MalformedLemmas.{each-crowded-leaves-others, each-of-gone-till-leaves-others, each-terminal-item-leaves-others, each-till-item-leaves-others}
use Rattle.gw_rules.proofs.TextLemmas.{bytes-tested}
use Rattle.rule_examples.specs.Example.{tills_open}
use Rattle.rule_examples.specs.MalformedExample.{empty_message, headless, no_frame, too_long_rest}
use Rattle.rule_examples.specs.OutsideItemExample.{ApduLeavesOthers, CrowdedIsCut, FrameLeavesOther, GoneTillLeavesAll, IsScene, MessageLeavesAll, TooLongLeavesOthers, apdu_course, crowded_course, crowded_moves, frame_course, frame_moves, gone_till_course, items_after_greeting, items_waiting, late_reject, message_course, message_moves, next_day_request, next_joining_course, terminal_moves, too_long_item_course, waiting_course, waiting_log}
use Rattle.rule_examples.specs.QueueExample.{joining_course, serving_course}
use Rattle.rule_examples.proofs.ExampleLemmas.{full-course}
use Rattle.rule_examples.proofs.MalformedExampleLemmas.{empty-chunk, empty-read, no-frame-chunk}
use Rattle.rule_examples.proofs.NextDayTextLemmas.{next-day-chunk, next-day-read}
use Rattle.rule_examples.proofs.QueueExampleLemmas.{joined_view, joining-lawful, serving-lawful}

-- ---- two tills wait

next-joining-lawful : IsCourse joined_view next_joining_course
unfolding decode_apdus decode_apdus_within decode_pt_message history payment_request day_request next_day_request
next-joining-lawful = (record { running = refl; calls = refl; items = refl }, ((refl, omega arith), (record { idle = record { round = refl; calls = refl }; first = refl }, (record { idle = record { round = refl; calls = refl }; first = refl }, (record { idle = record { round = refl; calls = refl }; first = refl }, (record { running = refl; calls = refl; items = refl }, ((record { polled = refl; connected_is = refl }, next-day-chunk), (record { idle = record { round = refl; calls = refl }; waits = refl; bytes = next_day_request; message = refl; reads = next-day-read }, (record { idle = record { round = refl; calls = refl }; first = refl }, (record { idle = record { round = refl; calls = refl }; first = refl }, (record { idle = record { round = refl; calls = refl }; first = refl }, (record { idle = record { round = refl; calls = refl }; first = refl }, (record { idle = record { round = refl; calls = refl }; first = refl }, tt)))))))))))))

waiting-lawful : IsCourse at_first waiting_course
unfolding decode_apdus decode_apdus_within decode_pt_message history payment_request day_request next_day_request
waiting-lawful = course-append at_first (serving_course ++ joining_course) next_joining_course (course-append at_first serving_course joining_course serving-lawful joining-lawful) next-joining-lawful

abbrev waiting_view : View
waiting_view = view_from joined_view next_joining_course

-- ---- a message without a header

message-lawful : IsCourse waiting_view (Make (Polled (pos 3)) ∷ Make (HeardTill 2 (frame empty_message)) ∷ Read headless ∷ [])
unfolding decode_apdus decode_apdus_within decode_pt_message history payment_request day_request next_day_request
message-lawful = (record { running = refl; calls = refl; items = refl }, ((record { polled = refl; connected_is = refl }, empty-chunk), (record { idle = record { round = refl; calls = refl }; waits = refl; bytes = empty_message; message = refl; reads = empty-read }, tt)))

message-premise : IsItemCourse (waiting_log ++ Polled (pos 3) ∷ HeardTill 2 (frame empty_message) ∷ []) (view_from at_first message_course) (Asked 2 headless) items_waiting message_moves
unfolding decode_apdus decode_apdus_within decode_pt_message history payment_request day_request next_day_request
message-premise = record {
  along = record { course = message_course; log_is = refl; lawful = course-append at_first waiting_course (Make (Polled (pos 3)) ∷ Make (HeardTill 2 (frame empty_message)) ∷ Read headless ∷ []) waiting-lawful message-lawful; view_is = refl };
  begins = record { idle = record { round = refl; calls = refl }; first = refl };
  items_are = refl;
  lawful = ((late_reject, refl, refl), tt);
  of_item = (refl, tt);
}

message-scene : IsScene (view_from at_first message_course)
unfolding decode_apdus decode_apdus_within decode_pt_message history payment_request day_request next_day_request
message-scene = record { kept = refl; services = refl; tills = refl }

pub message-leaves-all : MessageLeavesAll
unfolding decode_apdus decode_apdus_within decode_pt_message history payment_request day_request next_day_request
message-leaves-all = record {
  item = record { premise = message-premise; outside = tt; scene = message-scene; kept = refl; waits = refl };
  of_till = refl;
  leaves = each-till-item-leaves-others (waiting_log ++ Polled (pos 3) ∷ HeardTill 2 (frame empty_message) ∷ []) (view_from at_first message_course) 2 (Asked 2 headless) items_waiting message_moves message-premise refl tt;
  none_leaves = λ e. absurd (let n : true ≡ false = ap (λ (waits : List Wait). length waits == 2) e in cc);
}

-- ---- a message after the till is gone

twice-chunk : IsChunk (frame empty_message ++ frame empty_message)
twice-chunk = record { count = (omega arith, omega arith); bytes = bytes-tested (frame empty_message ++ frame empty_message) refl }

gone-till-lawful : IsCourse waiting_view (Make (Polled (pos 3)) ∷ Make (HeardTill 2 (frame empty_message ++ frame empty_message)) ∷ Read headless ∷ Begin ∷ Make (SentTill 2 [] false) ∷ Make (CutTill 2) ∷ [])
unfolding decode_apdus decode_apdus_within decode_pt_message history payment_request day_request next_day_request
gone-till-lawful = (
  record { running = refl; calls = refl; items = refl },
  (
    (record { polled = refl; connected_is = refl }, twice-chunk),
    (
      record { idle = record { round = refl; calls = refl }; waits = refl; bytes = empty_message; message = refl; reads = empty-read },
      (record { idle = record { round = refl; calls = refl }; first = refl }, ((late_reject, refl, (reply_value_bytes late_reject, refl)), (refl, tt))),
    ),
  ),
)

gone-till-premise : IsItemCourse (waiting_log ++ Polled (pos 3) ∷ HeardTill 2 (frame empty_message ++ frame empty_message) ∷ SentTill 2 [] false ∷ CutTill 2 ∷ []) (view_from at_first gone_till_course) (Message 2 empty_message) items_waiting []
unfolding decode_apdus decode_apdus_within decode_pt_message history payment_request day_request next_day_request
gone-till-premise = record {
  along = record {
    course = gone_till_course;
    log_is = refl;
    lawful = course-append at_first waiting_course (Make (Polled (pos 3)) ∷ Make (HeardTill 2 (frame empty_message ++ frame empty_message)) ∷ Read headless ∷ Begin ∷ Make (SentTill 2 [] false) ∷ Make (CutTill 2) ∷ []) waiting-lawful gone-till-lawful;
    view_is = refl;
  };
  begins = record { idle = record { round = refl; calls = refl }; first = refl };
  items_are = refl;
  lawful = tt;
  of_item = tt;
}

pub gone-till-leaves-all : GoneTillLeavesAll
unfolding decode_apdus decode_apdus_within decode_pt_message history payment_request day_request next_day_request
gone-till-leaves-all = record {
  premise = gone-till-premise;
  waits = refl;
  leaves =
      each-of-gone-till-leaves-others (waiting_log ++ Polled (pos 3) ∷ HeardTill 2 (frame empty_message ++ frame empty_message) ∷ SentTill 2 [] false ∷ CutTill 2 ∷ []) (view_from at_first gone_till_course) 2 empty_message items_waiting [] gone-till-premise;
  kept = refl;
  still = refl;
}

-- ---- bytes that begin no frame

frame-lawful : IsCourse waiting_view (Make (Polled (pos 3)) ∷ Make (HeardTill 2 no_frame) ∷ [])
unfolding decode_apdus decode_apdus_within decode_pt_message history payment_request day_request next_day_request
frame-lawful = (record { running = refl; calls = refl; items = refl }, ((record { polled = refl; connected_is = refl }, no-frame-chunk), tt))

frame-premise : IsItemCourse (waiting_log ++ Polled (pos 3) ∷ HeardTill 2 no_frame ∷ []) (view_from at_first frame_course) (Unframed 2) items_waiting frame_moves
unfolding decode_apdus decode_apdus_within decode_pt_message history payment_request day_request next_day_request
frame-premise = record {
  along = record { course = frame_course; log_is = refl; lawful = course-append at_first waiting_course (Make (Polled (pos 3)) ∷ Make (HeardTill 2 no_frame) ∷ []) waiting-lawful frame-lawful; view_is = refl };
  begins = record { idle = record { round = refl; calls = refl }; first = refl };
  items_are = refl;
  lawful = (refl, tt);
  of_item = (refl, tt);
}

-- the first that waits is of till 1
abbrev is_first_of_one : List Wait → Bool
is_first_of_one [] = false
is_first_of_one (wait ∷ waits) = wait.till == 1

frame-scene : IsScene (view_from at_first frame_course)
unfolding decode_apdus decode_apdus_within decode_pt_message history payment_request day_request next_day_request
frame-scene = record { kept = refl; services = refl; tills = refl }

pub frame-leaves-other : FrameLeavesOther
unfolding decode_apdus decode_apdus_within decode_pt_message history payment_request day_request next_day_request
frame-leaves-other = record {
  item = record { premise = frame-premise; outside = tt; scene = frame-scene; kept = refl; waits = refl };
  of_till = refl;
  leaves = each-till-item-leaves-others (waiting_log ++ Polled (pos 3) ∷ HeardTill 2 no_frame ∷ []) (view_from at_first frame_course) 2 (Unframed 2) items_waiting frame_moves frame-premise refl tt;
  own_leaves = λ e. absurd (let n : false ≡ true = ap (λ (waits : List Wait). length waits == 2) e in cc);
  other_stays = λ e. absurd (let n : true ≡ false = ap is_first_of_one e in cc);
}

-- ---- an APDU outside the grammar

apdu-chunk : IsChunk outside_status
apdu-chunk = record { count = (omega arith, omega arith); bytes = bytes-tested outside_status refl }

apdu-lawful : IsCourse waiting_view (Make (Polled (pos 3)) ∷ Make (HeardPt 0 outside_status) ∷ [])
unfolding decode_apdus decode_apdus_within decode_pt_message history payment_request day_request next_day_request
apdu-lawful = (record { running = refl; calls = refl; items = refl }, ((record { polled = refl; connected_is = refl }, apdu-chunk), tt))

apdu-items : (view_from at_first apdu_course).items ≡ Greet 0 outside_apdu ∷ items_after_greeting
unfolding decode_apdus decode_apdus_within decode_pt_message history payment_request day_request next_day_request
apdu-items = refl

apdu-cut : IsCourse (after (view_from at_first apdu_course) Begin) terminal_moves
unfolding decode_apdus decode_apdus_within decode_pt_message decode_status decode_status_within decode_status_field decode_field_value history payment_request day_request next_day_request
apdu-cut = (refl, tt)

apdu-premise : IsItemCourse (waiting_log ++ Polled (pos 3) ∷ HeardPt 0 outside_status ∷ []) (view_from at_first apdu_course) (Greet 0 outside_apdu) items_after_greeting terminal_moves
unfolding decode_apdus decode_apdus_within decode_pt_message history payment_request day_request next_day_request
apdu-premise = record {
  along = record { course = apdu_course; log_is = refl; lawful = course-append at_first waiting_course (Make (Polled (pos 3)) ∷ Make (HeardPt 0 outside_status) ∷ []) waiting-lawful apdu-lawful; view_is = refl };
  begins = record { idle = record { round = refl; calls = refl }; first = refl };
  items_are = apdu-items;
  lawful = apdu-cut;
  of_item = (refl, tt);
}

apdu-scene : IsScene (view_from at_first apdu_course)
unfolding decode_apdus decode_apdus_within decode_pt_message history payment_request day_request next_day_request
apdu-scene = record { kept = refl; services = refl; tills = refl }

pub apdu-leaves-others : ApduLeavesOthers
unfolding decode_apdus decode_apdus_within decode_pt_message decode_status decode_status_within decode_status_field decode_field_value history payment_request day_request next_day_request
apdu-leaves-others = record {
  item = record { premise = apdu-premise; outside = outside-cause.1; scene = apdu-scene; kept = refl; waits = refl };
  of_terminal = refl;
  leaves = each-terminal-item-leaves-others (waiting_log ++ Polled (pos 3) ∷ HeardPt 0 outside_status ∷ []) (view_from at_first apdu_course) 0 (Greet 0 outside_apdu) items_after_greeting terminal_moves apdu-premise refl outside-cause.1;
  due = refl;
  link_ends = λ e. absurd (let n : false ≡ true = ap (λ (s : Scene). is_connected s.outside.links 0) e in cc);
  tills_stay = λ e. absurd (let n : true ≡ false = ap (λ (s : Scene). is_connected s.outside.tills 1) e in cc);
}

-- ---- an APDU above the limit

too-long-chunk : IsChunk too_long_rest
too-long-chunk = record { count = (omega arith, omega arith); bytes = bytes-tested too_long_rest refl }

too-long-lawful : IsCourse waiting_view (Make (Polled (pos 3)) ∷ Make (HeardPt 0 too_long_rest) ∷ [])
unfolding decode_apdus decode_apdus_within decode_pt_message history payment_request day_request next_day_request
too-long-lawful = (record { running = refl; calls = refl; items = refl }, ((record { polled = refl; connected_is = refl }, too-long-chunk), tt))

too-long-premise : IsItemCourse (waiting_log ++ Polled (pos 3) ∷ HeardPt 0 too_long_rest ∷ []) (view_from at_first too_long_item_course) (Oversized 0) items_waiting terminal_moves
unfolding decode_apdus decode_apdus_within decode_pt_message history payment_request day_request next_day_request
too-long-premise = record {
  along = record { course = too_long_item_course; log_is = refl; lawful = course-append at_first waiting_course (Make (Polled (pos 3)) ∷ Make (HeardPt 0 too_long_rest) ∷ []) waiting-lawful too-long-lawful; view_is = refl };
  begins = record { idle = record { round = refl; calls = refl }; first = refl };
  items_are = refl;
  lawful = (refl, tt);
  of_item = (refl, tt);
}

too-long-scene : IsScene (view_from at_first too_long_item_course)
unfolding decode_apdus decode_apdus_within decode_pt_message history payment_request day_request next_day_request
too-long-scene = record { kept = refl; services = refl; tills = refl }

pub too-long-leaves-others : TooLongLeavesOthers
unfolding decode_apdus decode_apdus_within decode_pt_message history payment_request day_request next_day_request
too-long-leaves-others = record {
  item = record { premise = too-long-premise; outside = tt; scene = too-long-scene; kept = refl; waits = refl };
  of_terminal = refl;
  leaves = each-terminal-item-leaves-others (waiting_log ++ Polled (pos 3) ∷ HeardPt 0 too_long_rest ∷ []) (view_from at_first too_long_item_course) 0 (Oversized 0) items_waiting terminal_moves too-long-premise refl tt;
  due = refl;
  link_ends = λ e. absurd (let n : false ≡ true = e in cc);
}

-- ---- a till more than may be there

crowded-premise : IsItemCourse (began example_setup ++ tills_open 1 65) (view_from at_first crowded_course) (Crowded 65) [] crowded_moves
crowded-premise = record {
  along = record { course = crowded_course; log_is = refl; lawful = full-course; view_is = refl };
  begins = record { idle = record { round = refl; calls = refl }; first = refl };
  items_are = refl;
  lawful = (refl, tt);
  of_item = (refl, tt);
}

pub crowded-is-cut : CrowdedIsCut
crowded-is-cut = record {
  premise = crowded-premise;
  leaves = each-crowded-leaves-others (began example_setup ++ tills_open 1 65) (view_from at_first crowded_course) 65 [] crowded_moves crowded-premise;
  others_stay = λ e. absurd (let n : true ≡ false = e in cc);
}
