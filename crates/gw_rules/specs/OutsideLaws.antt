-- The laws of lawful logs that an APDU outside the grammar, and bytes that begin one above the limit, change nothing but the link of the terminal that says them; where it serves an end of day or a display, the till of that gets its reply.
use Rattle.std.specs.Prelude.{◌≡◌, ◌⊎◌, ℕ, ℤ, true, false, List, [], ◌∷◌, ◌++◌, slice_get, Some, Err}
use Rattle.std.specs.List.{flat_map}
use Rattle.gw_bytes.specs.Bytes.{IsPrefix}
use Rattle.gw_site.specs.Outside.{is_connected, without, outside_of}
use Rattle.gw_site.specs.Sorts.{AreOfRound}
use Rattle.gw_site.specs.declared.turn.Turn.{Turn}
use Rattle.gw_site.specs.declared.turn.Turn.TheVariants.{Polled, HeardPt, SentTill, CutTill, CutPt}
use Rattle.zvt_apdu.specs.Grammar.{ApduValue, BeginsTooLongApdu}
use Rattle.zvt_msg.specs.MessageDecode.{decode_pt_message}
use Rattle.zvt_msg.specs.declared.fault.PtFault.{PtFault}
use Rattle.gw_owes.specs.Calls.{OwedCall, SendTill}
use Rattle.gw_owes.specs.Core.{Core}
use Rattle.gw_owes.specs.Events.{apdu_items, items_due}
use Rattle.gw_owes.specs.Items.{RoundItem, Crowded, Message, Asked, Unframed, Gone, Greet, Handle, Serve, Queue, NextWaiting, Oversized, LinkLost, Late, Overdue, Due}
use Rattle.gw_owes.specs.Reply.{ReplyValue, reply_value_bytes}
use Rattle.gw_owes.specs.TerminalLaws.{ChangesTerminalAlone}
use Rattle.gw_owes.specs.Terminals.{with_terminal, unlinked_terminal, core_without, reply_calls_to, reply_to_lost}
use Rattle.gw_owes.specs.declared.terminal.Terminal.{Terminal}
use Rattle.gw_rules.specs.Lawful.{Begins, IsCourse, turns_of, Stands, IsLawful}
use Rattle.gw_rules.specs.LinkLaws.{HasSaid}
use Rattle.gw_rules.specs.Scene.{Scene}
use Rattle.gw_rules.specs.View.{View, Move, view_from}

-- ---- items and views

-- bytes of the terminal have brought the item
abbrev pub IsOfBytes : ℕ → RoundItem → Type 0
IsOfBytes pt (Crowded till) = ⊥
IsOfBytes pt (Message till bytes) = ⊥
IsOfBytes pt (Asked till as_read) = ⊥
IsOfBytes pt (Unframed till) = ⊥
IsOfBytes pt (Gone till) = ⊥
IsOfBytes pt (Greet number apdu) = number ≡ pt
IsOfBytes pt (Handle number apdu) = number ≡ pt
IsOfBytes pt (Serve number till header request) = ⊥
IsOfBytes pt (Queue number till header request) = ⊥
IsOfBytes pt (NextWaiting number) = number ≡ pt
IsOfBytes pt (Oversized number) = number ≡ pt
IsOfBytes pt (LinkLost number) = ⊥
IsOfBytes pt (Late number) = ⊥
IsOfBytes pt (Overdue key) = ⊥
IsOfBytes pt (Due number) = ⊥

-- and each of these
abbrev pub AreOfBytes : ℕ → List RoundItem → Type 0
AreOfBytes pt [] = Unit {0}
AreOfBytes pt (item ∷ items) = IsOfBytes pt item × AreOfBytes pt items

-- no call is owed, and these items are left
abbrev pub idle_with : Scene → List RoundItem → View
idle_with scene items = record { scene = scene; calls = []; items = items }

-- a lawful course leads from one view to the other, and makes these turns
pub record HasCourseTo (v : View) (turns : List Turn) (w : View) : Type 0 where
  pub moves : List Move
  pub turns_are : turns_of moves ≡ turns
  pub lawful : IsCourse v moves
  pub ends : view_from v moves ≡ w

-- a lawful course makes these turns from the view on
abbrev pub HasCourse : View → List Turn → Type 0
HasCourse v turns = (w : View) × HasCourseTo v turns w

-- ---- what changes

-- the scene once the terminal was cut: its connection is gone, it is due in five seconds, and all else is as it was
abbrev pub link_cut : Scene → ℕ → Terminal → Scene
link_cut scene pt terminal =
    record scene {
      outside = record scene.outside { links = without scene.outside.links pt };
      core = with_terminal scene.core pt (unlinked_terminal terminal scene.outside.moment);
    }

-- what the loss of its link owes the till of what the terminal serves, where that is there: the reply to an end of day or a display, which isn't finished
abbrev pub calls_of_loss : Terminal → List OwedCall
calls_of_loss terminal = reply_calls_to terminal.asker (reply_to_lost terminal.standing)

-- the scene once this till was cut: it is gone, its requests wait no longer, and all else is as it was
abbrev pub till_gone : Scene → ℕ → Scene
till_gone scene till = record scene {
  outside = record scene.outside { tills = without scene.outside.tills till };
  core = core_without scene.core till;
}

-- no call is owed: no turn is made of it, and nothing changes
pub record OwesNone (calls : List OwedCall) (turns : List Turn) (before after : Scene) : Type 0 where
  pub calls_are : calls ≡ []
  pub turns_are : turns ≡ []
  pub after_is : after ≡ before

-- one reply is owed, and its till is sent it: nothing else changes
pub record RepliesWhole (calls : List OwedCall) (turns : List Turn) (before after : Scene) : Type 0 where
  pub till : ℕ
  pub reply : ReplyValue
  pub calls_are : calls ≡ SendTill till reply ∷ []
  pub turns_are : turns ≡ SentTill till (reply_value_bytes reply) true ∷ []
  pub after_is : after ≡ before

-- one reply is owed, its send fails, and its till is cut
pub record ReplyFails (calls : List OwedCall) (turns : List Turn) (before after : Scene) : Type 0 where
  pub till : ℕ
  pub reply : ReplyValue
  pub calls_are : calls ≡ SendTill till reply ∷ []
  pub bytes : List ℕ
  pub sent : IsPrefix bytes (reply_value_bytes reply)
  pub turns_are : turns ≡ SentTill till bytes false ∷ CutTill till ∷ []
  pub after_is : after ≡ till_gone before till

-- these calls, of which there is one reply at most, are made in these turns
abbrev pub ArePaid : List OwedCall → List Turn → Scene → Scene → Type 0
ArePaid calls turns before after = OwesNone calls turns before after ⊎ RepliesWhole calls turns before after ⊎ ReplyFails calls turns before after

-- what a terminal's bytes have brought was handled, with the cut of the terminal, which was linked: nothing has changed but its link, no other call was owed but the reply to an end of day or a display that it served, and only what may be due is left
pub record CutsLink (turns rest : List Turn) (pt : ℕ) (v : View) (due : List RoundItem) : Type 0 where
  pub linked : is_connected v.scene.outside.links pt ≡ true
  pub terminal : Terminal
  pub found : slice_get v.scene.core.terminals pt ≡ Some terminal
  -- of what is remembered only the terminal differs then
  pub alone : ChangesTerminalAlone pt v.scene.core (link_cut v.scene pt terminal).core
  -- the next turn is the cut, and then its till gets the reply, where it is there
  pub reply_turns : List Turn
  pub later : List Turn
  pub turns_are : turns ≡ CutPt pt ∷ (reply_turns ++ later)
  -- the scene then
  pub scene : Scene
  pub paid : ArePaid (calls_of_loss terminal) reply_turns (link_cut v.scene pt terminal) scene
  pub leads : HasCourseTo v (CutPt pt ∷ reply_turns) (idle_with scene due)
  pub goes_on : HasCourse (idle_with scene due) (later ++ rest)

-- it was handled without a turn, since the terminal was cut before: nothing has changed, no call was owed, and only what may be due is left
pub record ChangesNothing (turns rest : List Turn) (pt : ℕ) (v : View) (due : List RoundItem) : Type 0 where
  pub unlinked : is_connected v.scene.outside.links pt ≡ false
  pub leads : HasCourseTo v [] (idle_with v.scene due)
  pub goes_on : HasCourse (idle_with v.scene due) (turns ++ rest)

-- in these turns of a round, after a log that ends with bytes of the terminal and before the rest of it, this item of the bytes begins, after which they have brought these, and changes nothing but the terminal's link
pub record IsAlone (log inside rest : List Turn) (pt : ℕ) (item : RoundItem) (next : List RoundItem) : Type 0 where
  -- the turns before it begins, and those after that
  pub first : List Turn
  pub second : List Turn
  pub inside_is : inside ≡ first ++ second
  pub view : View
  pub along : Stands (log ++ first) view
  pub begins : Begins view
  -- what the bytes bring last, and then what may be due
  pub last : List RoundItem
  pub last_are : AreOfBytes pt last
  pub core : Core
  pub items_are : view.items ≡ item ∷ ((next ++ last) ++ items_due core)
  pub changes : CutsLink second rest pt view (items_due core) ⊎ ChangesNothing second rest pt view (items_due core)

-- ---- the laws

-- the items after the first of this APDU, and those of the APDUs after it
abbrev pub after_greeting : ℕ → ApduValue → List ApduValue → List RoundItem
after_greeting pt apdu later = Handle pt apdu ∷ NextWaiting pt ∷ flat_map (apdu_items pt) later

-- in a lawful log, an APDU outside the grammar that a terminal says with the bytes of a round changes nothing but the terminal's link before the next poll
abbrev pub OutsideIsAlone : Type 0
OutsideIsAlone =
    (before inside rest : List Turn) (pt : ℕ) (chunk : List ℕ) (now : ℤ) (earlier later : List ApduValue) (apdu : ApduValue) (left : List ℕ) (fault : PtFault) → IsLawful (before ++ HeardPt pt chunk ∷ (inside ++ Polled now ∷ rest)) → AreOfRound inside
    → HasSaid (outside_of before) pt chunk (earlier ++ apdu ∷ later) left → decode_pt_message apdu ≡ Err fault → IsAlone (before ++ HeardPt pt chunk ∷ []) inside (Polled now ∷ rest) pt (Greet pt apdu) (after_greeting pt apdu later)

-- nor do bytes with which it begins an APDU above the limit
abbrev pub TooLongIsAlone : Type 0
TooLongIsAlone =
    (before inside rest : List Turn) (pt : ℕ) (chunk : List ℕ) (now : ℤ) (new : List ApduValue) (left : List ℕ) (length : ℕ) → IsLawful (before ++ HeardPt pt chunk ∷ (inside ++ Polled now ∷ rest)) → AreOfRound inside
    → HasSaid (outside_of before) pt chunk new left → BeginsTooLongApdu left length → IsAlone (before ++ HeardPt pt chunk ∷ []) inside (Polled now ∷ rest) pt (Oversized pt) []
