-- Why a terminal is cut in a lawful log.
use Rattle.std.specs.Prelude.{◌≡◌, ℕ, false, List, [], ◌∷◌, ◌++◌, Some, Err}
use Rattle.gw_base.specs.declared.setup.Setup.{Setup}
use Rattle.gw_site.specs.Outside.{outside_of}
use Rattle.gw_site.specs.Sorts.{AreOfRound, is_between}
use Rattle.gw_site.specs.declared.turn.Turn.{Turn}
use Rattle.gw_site.specs.declared.turn.Turn.TheVariants.{HeardPt, SentPt, CutPt}
use Rattle.zvt_apdu.specs.Grammar.{ApduValue, BeginsTooLongApdu}
use Rattle.zvt_msg.specs.MessageDecode.{decode_pt_message}
use Rattle.zvt_msg.specs.declared.fault.PtFault.{PtFault}
use Rattle.gw_owes.specs.Calls.{CutPt as OwedCutPt}
use Rattle.gw_owes.specs.Items.{RoundItem, Greet, Handle, Oversized, Late}
use Rattle.gw_owes.specs.Row.{Known}
use Rattle.gw_owes.specs.TerminalLaws.{BreaksDialogue, IsLateAt}
use Rattle.gw_rules.specs.Lawful.{Begins, Stands, IsLawful}
use Rattle.gw_rules.specs.LinkLaws.{HasSaid}
use Rattle.gw_rules.specs.Scene.{known_in}
use Rattle.gw_rules.specs.View.{View, Begin, after}

-- ---- what the terminal has said in the round

-- the log ends in a round that bytes of the terminal began, with which it newly said these APDUs, and then this rest
pub record HasSaidInRound (log : List Turn) (pt : ℕ) (new : List ApduValue) (left : List ℕ) : Type 0 where
  pub before : List Turn
  pub chunk : List ℕ
  pub inside : List Turn
  pub log_is : log ≡ before ++ HeardPt pt chunk ∷ inside
  pub round : AreOfRound inside
  pub said : HasSaid (outside_of before) pt chunk new left

-- among those it newly said is this APDU
pub record HasSaidApdu (log : List Turn) (pt : ℕ) (apdu : ApduValue) : Type 0 where
  pub earlier : List ApduValue
  pub later : List ApduValue
  pub left : List ℕ
  pub said : HasSaidInRound log pt (earlier ++ apdu ∷ later) left

-- it newly said bytes that begin an APDU above the limit
pub record HasBegunTooLong (log : List Turn) (pt : ℕ) : Type 0 where
  pub new : List ApduValue
  pub left : List ℕ
  pub length : ℕ
  pub said : HasSaidInRound log pt new left
  pub too_long : BeginsTooLongApdu left length

-- ---- the item that cuts

-- Along a course to the end of the log this item begins there, while this is known, and with that nothing is owed but the cut of the terminal.
pub record BeginsCut (log : List Turn) (pt : ℕ) (item : RoundItem) (known : Known) : Type 0 where
  pub view : View
  pub along : Stands log view
  pub begins : Begins view
  pub rest : List RoundItem
  pub items_are : view.items ≡ item ∷ rest
  pub setup : Setup
  pub setup_is : view.scene.setup ≡ Some setup
  pub known_is : known_in view.scene setup ≡ known
  pub owed : (after view Begin).calls ≡ OwedCutPt pt ∷ []

-- ---- causes

-- why the terminal is cut after this log
pub data CutCause (log : List Turn) (pt : ℕ) : Type 0 where
  -- the last turn is a send to it that has failed
  SendFailed : (before : List Turn) (taken : List ℕ) → log ≡ before ++ SentPt pt taken false ∷ [] → CutCause log pt
  -- it has said an APDU outside the grammar
  SaidOutside : (apdu : ApduValue) (fault : PtFault) (known : Known) → HasSaidApdu log pt apdu → BeginsCut log pt (Greet pt apdu) known → decode_pt_message apdu ≡ Err fault → CutCause log pt
  -- it has begun an APDU above the limit
  BegunTooLong : (known : Known) → HasBegunTooLong log pt → BeginsCut log pt (Oversized pt) known → CutCause log pt
  -- it has said a message that leaves its dialogue unclear, or declines a registration or an enquiry
  BrokeDialogue : (apdu : ApduValue) (known : Known) → HasSaidApdu log pt apdu → BeginsCut log pt (Handle pt apdu) known → BreaksDialogue known pt apdu → CutCause log pt
  -- the deadline of its dialogue has come
  DeadlineCame : (known : Known) → BeginsCut log pt (Late pt) known → IsLateAt known pt → CutCause log pt

-- in a lawful log a terminal is cut for one of these causes
abbrev pub EachPtCutHasCause : Type 0
EachPtCutHasCause = (before rest : List Turn) (pt : ℕ) → IsLawful (before ++ CutPt pt ∷ rest) → CutCause before pt

-- and after a send to it that has failed, the next turn cuts it, unless the run ends there
abbrev pub FailedSendCuts : Type 0
FailedSendCuts = (before rest : List Turn) (pt : ℕ) (taken : List ℕ) (turn : Turn) → IsLawful (before ++ SentPt pt taken false ∷ turn ∷ rest) → is_between turn ≡ false → turn ≡ CutPt pt
