-- Example logs of malformed bytes, which change no books: of a till a message without a header, and bytes that begin no frame; of a terminal an APDU outside the grammar, and one above the limit.
use Rattle.std.specs.Prelude.{◌≡◌, pos, true, Err, List, ℕ, [], ◌∷◌, ◌++◌, map, codes}
use Rattle.sale_frame.specs.Grammar.{BeginsWithBadLength, frame}
use Rattle.gw_site.specs.Outside.{outside_of}
use Rattle.gw_site.specs.Sorts.{AreOfRound}
use Rattle.gw_site.specs.declared.turn.Turn.{Turn}
use Rattle.gw_site.specs.declared.turn.Turn.TheVariants.{Polled, Opened, HeardPt, SentTill, CutTill, CutPt, Stopped}
use Rattle.sale_reply.specs.declared.reply.Detail.TheVariants as details
use Rattle.sale_values.specs.declared.fault.SaleFault.TheVariants.{NoHeader}
use Rattle.zvt_apdu.specs.Grammar.{BeginsTooLongApdu}
use Rattle.zvt_msg.specs.MessageDecode.{decode_pt_message}
use Rattle.zvt_msg.specs.declared.fault.PtFault.{PtFault}
use Rattle.gw_owes.specs.Items.{Greet, Oversized}
use Rattle.gw_owes.specs.ReadAs.{ReadAs, IsReadAs, NoMessage}
use Rattle.gw_owes.specs.Replies.{reject_event}
use Rattle.gw_owes.specs.Reply.{ReplyValue, reply_value_bytes}
use Rattle.gw_owes.specs.TerminalExample.{ack, outside_status}
use Rattle.gw_rules.specs.CauseExample.{outside_apdu, too_long_log}
use Rattle.gw_rules.specs.Example.{IsCourseAlong, began, example_setup, heard_log}
use Rattle.gw_rules.specs.Lawful.{IsLawful}
use Rattle.gw_rules.specs.LinkLaws.{HasSaid}
use Rattle.gw_rules.specs.MalformedLaws.{FrameChangesNoBooks, HasFramed, MessageChangesNoBooks, TerminalChangesNoBooks}
use Rattle.gw_rules.specs.OutsideLaws.{after_greeting}
use Rattle.gw_rules.specs.QueueLaws.{IsReadOutside}
use Rattle.gw_rules.specs.TerminalLogExample.{linked_log}
use Rattle.gw_rules.specs.View.{Move, Begin, Read, Make}

-- ---- a till

-- a till has opened, and the site was polled again
abbrev pub polled_log : List Turn
polled_log = began example_setup ++ Polled (pos 0) ∷ Opened 1 ∷ Polled (pos 0) ∷ []

-- a message that is an object without members
abbrev pub empty_message : List ℕ
empty_message = codes "{}"

-- as it is read
abbrev pub headless : ReadAs
headless = NoMessage (NoHeader (codes "SaleToPOIRequest"))

-- its reply
abbrev pub headless_reply : ReplyValue
headless_reply = reject_event (codes "GATEWAY") 0 (details.Header (codes "SaleToPOIRequest"))

-- it gets its reply, and the run goes on
abbrev pub reject_turns : List Turn
reject_turns = SentTill 1 (reply_value_bytes headless_reply) true ∷ []

-- the course of that
abbrev pub reject_course : List Move
reject_course = map Make (heard_log (frame empty_message)) ++ Read headless ∷ Begin ∷ (map Make reject_turns ++ map Make (Polled (pos 0) ∷ Stopped ∷ []))

-- the whole premise of the law, by which the message changes no books
pub record MessageIsHarmless : Type 0 where
  pub along : IsCourseAlong (heard_log (frame empty_message) ++ reject_turns ++ Polled (pos 0) ∷ Stopped ∷ []) reject_course
  pub round : AreOfRound reject_turns
  pub said : HasFramed (outside_of polled_log) 1 (frame empty_message) (empty_message ∷ []) []
  pub reads : IsReadAs empty_message headless
  pub outside : IsReadOutside headless
  pub alone : MessageChangesNoBooks (heard_log (frame empty_message)) reject_turns (Polled (pos 0) ∷ Stopped ∷ []) 1 empty_message headless []

-- bytes that begin no frame
abbrev pub no_frame : List ℕ
no_frame = 0 ∷ 0 ∷ 0 ∷ 0 ∷ []

-- the course in which the till is cut for them
abbrev pub unframed_course : List Move
unframed_course = map Make (heard_log no_frame) ++ Begin ∷ map Make (CutTill 1 ∷ Polled (pos 0) ∷ Stopped ∷ [])

-- the whole premise, by which they change no books
pub record FrameIsHarmless : Type 0 where
  pub along : IsCourseAlong (heard_log no_frame ++ CutTill 1 ∷ Polled (pos 0) ∷ Stopped ∷ []) unframed_course
  pub round : AreOfRound (CutTill 1 ∷ [])
  pub said : HasFramed (outside_of polled_log) 1 no_frame [] no_frame
  pub bad : BeginsWithBadLength no_frame
  pub alone : FrameChangesNoBooks (heard_log no_frame) (CutTill 1 ∷ []) (Polled (pos 0) ∷ Stopped ∷ []) 1

-- ---- a terminal

-- the whole premise, by which an APDU outside the grammar changes no books
pub record ApduIsHarmless : Type 0 where
  pub lawful : IsLawful ((linked_log ++ Polled (pos 1) ∷ []) ++ HeardPt 0 outside_status ∷ CutPt 0 ∷ Polled (pos 2) ∷ Stopped ∷ [])
  pub round : AreOfRound (CutPt 0 ∷ [])
  pub said : HasSaid (outside_of (linked_log ++ Polled (pos 1) ∷ [])) 0 outside_status (outside_apdu ∷ []) []
  pub fault : PtFault
  pub outside : decode_pt_message outside_apdu ≡ Err fault
  pub alone : TerminalChangesNoBooks (linked_log ++ Polled (pos 1) ∷ HeardPt 0 outside_status ∷ []) (CutPt 0 ∷ []) (Polled (pos 2) ∷ Stopped ∷ []) 0 (Greet 0 outside_apdu) (after_greeting 0 outside_apdu [])

-- the five bytes that begin an APDU of 12,001 bytes
abbrev pub too_long_rest : List ℕ
too_long_rest = 0x06 ∷ 0xD1 ∷ 0xFF ∷ 0xE1 ∷ 0x2E ∷ []

-- the whole premise, by which bytes that begin one above the limit don't either
pub record TooLongIsHarmless : Type 0 where
  pub lawful : IsLawful ((linked_log ++ Polled (pos 1) ∷ []) ++ HeardPt 0 (ack ++ too_long_rest) ∷ CutPt 0 ∷ Polled (pos 2) ∷ Stopped ∷ [])
  pub round : AreOfRound (CutPt 0 ∷ [])
  pub said : HasSaid (outside_of (linked_log ++ Polled (pos 1) ∷ [])) 0 (ack ++ too_long_rest) (record { class = 0x80; instr = 0x00; body = [] } ∷ []) too_long_rest
  pub long : BeginsTooLongApdu too_long_rest 12001
  pub alone : TerminalChangesNoBooks too_long_log (CutPt 0 ∷ []) (Polled (pos 2) ∷ Stopped ∷ []) 0 (Oversized 0) []
