-- Closed examples: the payments that the drill draws, their lines and messages, and what comes of played terminals.
use Rattle.std.specs.Prelude.{◌≡◌, ℕ, pos, false, true, List, [], ◌∷◌, Some, None, codes}
use Rattle.gw_site.specs.declared.turn.Turn.TheVariants.{Crash, CutPt, HeardPt, Linked, Lost, Polled, SentPt, Start, Stopped}
use Rattle.gw_site.specs.Steps.{CutPtCall, Junk, LinkCall, Made, New, Old, OpenCall, PollCall, PowerBack, SendPtCall, StopAfter}
use Rattle.sale_frame.specs.Grammar.{frame}
use Rattle.pt_core.specs.declared.book.BookEntry.{BookEntry}
use Rattle.pt_core.specs.declared.play.Play.TheVariants.{Approve, CutAfterBook}
use Rattle.pt_core.specs.Serving.{TerminalValue}
use Rattle.pt_core.specs.History.{terminal_after}
use Rattle.gw_script.specs.site.Calls.{ReachesWith}
use Rattle.gw_script.specs.site.CallExample.{plain}
use Rattle.gw_script.specs.site.Drill.{DrillPayment, draw_at, drill_lines, drill_payment_frame, drill_payments, drill_plays, drill_status_frame, payment_drawn}
use Rattle.gw_script.specs.site.Peers.{book_of_peer}
use Rattle.gw_script.specs.site.Playing.{Play}
use Rattle.gw_script.specs.site.ScriptLine.{Open, Close, FromTill, Tick, At, Poll, Power, ForgetPower}

-- the draws after 1, and the payment that they give
pub record DrawsOfOne : Type 0 where
  pub first : draw_at 1 1 ≡ 1817669548
  pub second : draw_at 2 1 ≡ 2187888307
  pub third : draw_at 3 1 ≡ 2784682393
  pub payment : drill_payments 1 1 ≡ record { number = 1; amount = 69549; pt = 1; play = CutAfterBook; power = None } ∷ []
  pub none : drill_payments 1 0 ≡ []

-- the payments after 6: at the first of them the power fails after six calls
pub record DrawsOfSix : Type 0 where
  pub first : payment_drawn 1 6 ≡ record { number = 1; amount = 64623; pt = 1; play = Approve; power = Some (record { calls = 6; kind = Old }) }
  -- the fourth draw is the first payment's, too
  pub both : drill_payments 6 2 ≡ payment_drawn 1 6 ∷ record { number = 2; amount = 96569; pt = 1; play = Approve; power = None } ∷ []
  pub plays : drill_plays 1 (drill_payments 6 1) ≡ Approve ∷ []
  pub others : drill_plays 0 (drill_payments 6 1) ≡ []

-- what a power failure leaves, by the fourth draw: all writes, or junk
pub record DrawnImages : Type 0 where
  pub new : payment_drawn 1 29 ≡ record { number = 1; amount = 42721; pt = 1; play = Approve; power = Some (record { calls = 9; kind = New }) }
  pub junk : payment_drawn 1 14 ≡ record { number = 1; amount = 57498; pt = 1; play = Approve; power = Some (record { calls = 11; kind = Junk 0xA5 }) }

-- a payment of 10.99 euros, at which the power fails at once
abbrev pub small_payment : DrillPayment
small_payment = record { number = 3; amount = 1099; pt = 0; play = Approve; power = Some (record { calls = 0; kind = Old }) }

-- the message in which it is asked
abbrev pub small_payment_message : List ℕ
small_payment_message = codes "{\"SaleToPOIRequest\":{\"MessageHeader\":{\"ProtocolVersion\":\"3.0\",\"MessageClass\":\"Service\",\"MessageCategory\":\"Payment\",\"MessageType\":\"Request\",\"ServiceID\":\"3\",\"SaleID\":\"S1\",\"POIID\":\"T0\"},\"PaymentRequest\":{\"SaleData\":{\"SaleTransactionID\":{\"TransactionID\":\"3\",\"TimeStamp\":\"T\"}},\"PaymentTransaction\":{\"AmountsReq\":{\"Currency\":\"EUR\",\"RequestedAmount\":10.99}}}}}"

-- the message in which its status is asked
abbrev pub small_status_message : List ℕ
small_status_message = codes "{\"SaleToPOIRequest\":{\"MessageHeader\":{\"ProtocolVersion\":\"3.0\",\"MessageClass\":\"Service\",\"MessageCategory\":\"TransactionStatus\",\"MessageType\":\"Request\",\"ServiceID\":\"3\",\"SaleID\":\"S1\",\"POIID\":\"T0\"},\"TransactionStatusRequest\":{\"MessageReference\":{\"ServiceID\":\"3\"}}}}"

-- its lines and their messages
pub record LinesOfPayment : Type 0 where
  pub payment : drill_payment_frame small_payment ≡ frame small_payment_message
  pub status : drill_status_frame small_payment ≡ frame small_status_message
  pub lines : drill_lines (small_payment ∷ [])
      ≡ At (pos 60) ∷ Poll (Open 5) ∷ Poll Tick ∷ Power 0 Old ∷ Poll (FromTill 5 (drill_payment_frame small_payment))
      ∷ At (pos 66) ∷ Poll Tick ∷ At (pos 72) ∷ Poll Tick ∷ ForgetPower
      ∷ Poll (Open 6) ∷ Poll (FromTill 6 (drill_status_frame small_payment)) ∷ Poll (Close 6) ∷ Poll (Close 5) ∷ []

-- a terminal that books one payment and then cuts
abbrev pub cutting_terminal : TerminalValue
cutting_terminal = terminal_after (record { none = 131; plays = CutAfterBook ∷ [] }) []

-- a payment of 10.99 euros, as a terminal is sent it
abbrev pub sent_payment : List ℕ
sent_payment = 0x06 ∷ 0x01 ∷ 0x0A ∷ 0x04 ∷ 0x00 ∷ 0x00 ∷ 0x00 ∷ 0x00 ∷ 0x10 ∷ 0x99 ∷ 0x49 ∷ 0x09 ∷ 0x78 ∷ []

-- the entry that the terminal books for it
abbrev pub sent_entry : BookEntry
sent_entry = record { number = 1; receipt = 1; amount = 1099; reversal = false; approved = true }

-- what comes of the terminal is polled before the script goes on, at the moment before: its acknowledgement, then its cut; its book has the entry
pub record PlayedTerminalComes : Type 0 where
  pub place : Play
  pub reached : ReachesWith (cutting_terminal ∷ []) (At (pos 9) ∷ Poll Tick ∷ []) (Made (OpenCall plain) ∷ Made (LinkCall 0) ∷ Made (SendPtCall 0 sent_payment) ∷ Made PollCall ∷ Made PollCall ∷ Made PollCall ∷ Made PollCall ∷ [])
      (Start plain ∷ Linked 0 ∷ SentPt 0 sent_payment true ∷ Polled (pos 0) ∷ HeardPt 0 (0x80 ∷ 0x00 ∷ 0x00 ∷ []) ∷ Polled (pos 0) ∷ Lost 0 ∷ Polled (pos 9) ∷ Polled (pos 9) ∷ Stopped ∷ []) place
  pub booked : book_of_peer place.peers 0 ≡ Some (sent_entry ∷ [])

-- what was to come on an earlier link is lost with it
pub record EarlierLinkIsSilent : Type 0 where
  pub place : Play
  pub reached : ReachesWith (cutting_terminal ∷ []) [] (Made (OpenCall plain) ∷ Made (LinkCall 0) ∷ Made (SendPtCall 0 sent_payment) ∷ Made (LinkCall 0) ∷ Made PollCall ∷ [])
      (Start plain ∷ Linked 0 ∷ SentPt 0 sent_payment true ∷ Linked 0 ∷ Polled (pos 0) ∷ Stopped ∷ []) place

-- and so on a link that was cut
pub record CutLinkIsSilent : Type 0 where
  pub place : Play
  pub reached : ReachesWith (cutting_terminal ∷ []) [] (Made (OpenCall plain) ∷ Made (LinkCall 0) ∷ Made (SendPtCall 0 sent_payment) ∷ Made (CutPtCall 0) ∷ Made PollCall ∷ [])
      (Start plain ∷ Linked 0 ∷ SentPt 0 sent_payment true ∷ CutPt 0 ∷ Polled (pos 0) ∷ Stopped ∷ []) place

-- a power failure drops what was to come, and no entry of a book
pub record PowerFailureIsSilent : Type 0 where
  pub place : Play
  pub reached : ReachesWith (cutting_terminal ∷ []) [] (Made (OpenCall plain) ∷ Made (LinkCall 0) ∷ StopAfter 1 Old ∷ Made (SendPtCall 0 sent_payment) ∷ PowerBack ∷ [])
      (Start plain ∷ Linked 0 ∷ SentPt 0 sent_payment true ∷ Crash [] ∷ []) place
  pub coming : place.peers.coming ≡ []
  pub booked : book_of_peer place.peers 0 ≡ Some (sent_entry ∷ [])
