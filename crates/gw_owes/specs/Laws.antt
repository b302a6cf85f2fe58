-- Laws of what is owed.
use Rattle.std.specs.Prelude.{◌≡◌, ◌↔◌, ℕ, Bool, true, false, List, [], ◌∷◌, ◌++◌, map}
use Rattle.std.specs.List.{flat_map}
use Rattle.gw_bytes.specs.Bytes.{AreBytes}
use Rattle.gw_site.specs.Outside.{Connection}
use Rattle.sale_frame.specs.Grammar.{IsIncompleteFrame, BeginsWithBadLength, Frames}
use Rattle.zvt_apdu.specs.Grammar.{ApduValue, IsProperApduPrefix, BeginsTooLongApdu}
use Rattle.zvt_apdu.specs.Stream.{SpellsApdus}
use Rattle.gw_owes.specs.ReadAs.{ReadAs, IsReadAs}
use Rattle.gw_owes.specs.Calls.{OwedCall, SendTill, SendPt, CutTill, CutPt, LinkPt, WriteBody, WriteGate, WriteFirstGate, Sync}
use Rattle.gw_owes.specs.Items.{RoundItem, Message, Unframed, Oversized}
use Rattle.gw_owes.specs.Row.{Known, Row}
use Rattle.gw_owes.specs.Terminals.{link_made, link_lost}
use Rattle.gw_owes.specs.Rows.{row_of}
use Rattle.gw_owes.specs.Events.{has_bad_length, till_bytes_items, apdu_items, pt_bytes_items}

-- ---- one reading

-- a till's bytes are read one way
abbrev pub ReadsOneWay : Type 0
ReadsOneWay = (bytes : List ℕ) (one other : ReadAs) → IsReadAs bytes one → IsReadAs bytes other → one ≡ other

-- ---- the calls of a row

-- no call is owed
abbrev pub owes_none : List OwedCall → Bool
owes_none [] = true
owes_none (call ∷ calls) = false

-- calls on the disk, and then one other at most
abbrev pub ends_in_one : List OwedCall → Bool
ends_in_one [] = true
ends_in_one (SendTill till reply ∷ calls) = owes_none calls
ends_in_one (SendPt pt sending ∷ calls) = owes_none calls
ends_in_one (CutTill till ∷ calls) = owes_none calls
ends_in_one (CutPt pt ∷ calls) = owes_none calls
ends_in_one (LinkPt pt ∷ calls) = owes_none calls
ends_in_one (WriteBody slot the_record ∷ calls) = ends_in_one calls
ends_in_one (WriteGate slot the_record ∷ calls) = ends_in_one calls
ends_in_one (WriteFirstGate ∷ calls) = ends_in_one calls
ends_in_one (Sync ∷ calls) = ends_in_one calls

-- the row owes calls on the disk, and then one other at most
abbrev pub EndsInOne : Row → Type 0
EndsInOne row = ends_in_one row.calls ≡ true

-- so does the row of each item
abbrev pub EachRowEndsInOne : Type 0
EachRowEndsInOne = (tills : List Connection) (known : Known) (item : RoundItem) → EndsInOne (row_of tills known item)

-- so does a link
pub record LinkEndsInOne (known : Known) (number : ℕ) : Type 0 where
  pub made : EndsInOne (link_made known number)
  pub lost : EndsInOne (link_lost known number)

-- whatever the terminal
abbrev pub LinksEndInOne : Type 0
LinksEndInOne = (known : Known) (number : ℕ) → LinkEndsInOne known number

-- ---- the items of newly heard bytes

-- the test of a rest finds exactly the bad ones
abbrev pub FindsBadLengths : Type 0
FindsBadLengths = (rest : List ℕ) → AreBytes rest → has_bad_length rest ≡ true ↔ BeginsWithBadLength rest

-- The items of a till's newly heard bytes: one for each message that they newly complete, in order, and then one more exactly where what is left is bad. After a bad rest no message is completed.
pub record BringsFrames (till : ℕ) (before all : List (List ℕ)) (rest left : List ℕ) (items : List RoundItem) : Type 0 where
  pub new : List (List ℕ)
  pub last : List RoundItem
  pub completed : all ≡ before ++ new
  pub items_are : items ≡ map (Message till) new ++ last
  pub bad : BeginsWithBadLength left → last ≡ Unframed till ∷ []
  pub incomplete : IsIncompleteFrame left → last ≡ []
  pub after_bad : BeginsWithBadLength rest → new ≡ []

-- what bytes bring is said by the frames of all bytes heard before them and of all bytes heard with them
abbrev pub TillBytesGiveItems : Type 0
TillBytesGiveItems = (till : ℕ) (heard chunk : List ℕ) (before all : List (List ℕ)) (rest left : List ℕ) → AreBytes (heard ++ chunk) → Frames heard before rest → Frames (heard ++ chunk) all left → BringsFrames till before all rest left (till_bytes_items till heard chunk)

-- The items of a terminal's newly heard bytes: three for each APDU that they newly complete, in order, and then one more exactly where what is left begins one above the limit. After such a rest no APDU is completed.
pub record BringsApdus (number : ℕ) (before all : List ApduValue) (rest left : List ℕ) (items : List RoundItem) : Type 0 where
  pub new : List ApduValue
  pub last : List RoundItem
  pub completed : all ≡ before ++ new
  pub items_are : items ≡ flat_map (apdu_items number) new ++ last
  pub too_long : (length : ℕ) → BeginsTooLongApdu left length → last ≡ Oversized number ∷ []
  pub incomplete : IsProperApduPrefix left → last ≡ []
  pub after_bad : (length : ℕ) → BeginsTooLongApdu rest length → new ≡ []

-- what bytes bring is said by the APDUs of all bytes heard before them and of all bytes heard with them
abbrev pub PtBytesGiveItems : Type 0
PtBytesGiveItems = (number : ℕ) (heard chunk : List ℕ) (before all : List ApduValue) (rest left : List ℕ) → AreBytes (heard ++ chunk) → SpellsApdus heard before rest → SpellsApdus (heard ++ chunk) all left → BringsApdus number before all rest left (pt_bytes_items number heard chunk)
