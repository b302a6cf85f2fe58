-- The limits of what a dialogue reports.
use Rattle.std.specs.Prelude.{◌≡◌, ◌^◌, ◌<◌, ◌≤◌, List, [], ◌∷◌, Ok}
use Rattle.gw_base.specs.Limits.{IsAmount, IsReceipt, IsTrace}
use Rattle.gw_base.specs.declared.figures.Figures.{Figures}
use Rattle.zvt_apdu.specs.Grammar.{ApduValue}
use Rattle.zvt_msg.specs.Message.{MessageValue}
use Rattle.zvt_msg.specs.MessageDecode.{decode_pt_message}
use Rattle.zvt_msg.specs.Numbers.{NumbersFitFields}

-- each of the messages has numbers within their fields, as every message that was read
abbrev pub AllNumbersFitFields : List MessageValue → Type 0
AllNumbersFitFields [] = Unit {0}
AllNumbersFitFields (message ∷ messages) = NumbersFitFields message × AllNumbersFitFields messages

-- the message was read: an APDU spells it
abbrev pub WasRead : MessageValue → Type 0
WasRead message = (apdu : ApduValue) × (decode_pt_message apdu ≡ Ok message)

-- each of the messages was read
abbrev pub WereRead : List MessageValue → Type 0
WereRead [] = Unit {0}
WereRead (message ∷ messages) = WasRead message × WereRead messages

-- the figures fit their fields: six, four and twelve digits
pub record FiguresFitFields (figures : Figures) : Type 0 where
  pub trace : figures.number < 100 ^ 3
  pub receipt : figures.receipt < 100 ^ 2
  pub amount : figures.amount < 100 ^ 6

-- the figures can be kept in a record and reported to a till
pub record FiguresFitRecord (figures : Figures) : Type 0 where
  pub first_trace : 1 ≤ figures.number
  pub trace : IsTrace figures.number
  pub receipt : IsReceipt figures.receipt
  pub amount : IsAmount figures.amount

-- the lower limits of figures: a trace number and an amount that aren't 0
pub record AreAtLeastOne (figures : Figures) : Type 0 where
  pub trace : 1 ≤ figures.number
  pub amount : 1 ≤ figures.amount
