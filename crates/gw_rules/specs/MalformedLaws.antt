-- The laws of lawful logs that bytes outside the grammars change no books, at each place of a log: of a till a message that is no JSON or no message of a till, and bytes that begin no frame; of a terminal an APDU outside the grammar, and bytes that begin one above the limit.
use Rattle.std.specs.Prelude.{◌≡◌, ◌⊎◌, ℕ, ℤ, true, false, List, [], ◌∷◌, ◌++◌, map, slice_get, Some, Err}
use Rattle.gw_base.specs.declared.key.Key.{Key}
use Rattle.gw_bytes.specs.Bytes.{IsPrefix}
use Rattle.gw_site.specs.Outside.{Outside, heard_on, is_connected, outside_of}
use Rattle.gw_site.specs.Sorts.{AreOfRound, is_sort_of_round, sort_of}
use Rattle.gw_site.specs.declared.turn.Turn.{Turn}
use Rattle.gw_site.specs.declared.turn.Turn.TheVariants.{Polled, HeardTill, HeardPt, SentTill, CutTill, CutPt}
use Rattle.gw_ledger.specs.Accounts.{last_number_of}
use Rattle.gw_ledger.specs.Fold.{found_of}
use Rattle.sale_frame.specs.Grammar.{BeginsWithBadLength, Frames}
use Rattle.zvt_apdu.specs.Grammar.{ApduValue, BeginsTooLongApdu}
use Rattle.zvt_msg.specs.MessageDecode.{decode_pt_message}
use Rattle.zvt_msg.specs.declared.fault.PtFault.{PtFault}
use Rattle.gw_owes.specs.Calls.{SendTill, CutTill as OwedCutTill}
use Rattle.gw_owes.specs.Core.{Core, Wait}
use Rattle.gw_owes.specs.Events.{items_due}
use Rattle.gw_owes.specs.Items.{RoundItem, Crowded, Message, Asked, Unframed, Gone, Greet, Handle, Serve, Queue, NextWaiting, Oversized, LinkLost, Late, Overdue, Due}
use Rattle.gw_owes.specs.ReadAs.{ReadAs, IsReadAs}
use Rattle.gw_owes.specs.Reply.{ReplyValue, reply_value_bytes}
use Rattle.gw_owes.specs.declared.terminal.Terminal.{Terminal}
use Rattle.gw_rules.specs.Laws.{IsCutIn}
use Rattle.gw_rules.specs.Lawful.{Begins, IsCourse, IsLawful, Stands, turns_of}
use Rattle.gw_rules.specs.LinkLaws.{HasSaid}
use Rattle.gw_rules.specs.OutsideLaws.{AreOfBytes, ArePaid, HasCourse, HasCourseTo, IsOfBytes, after_greeting, calls_of_loss, idle_with, link_cut, till_gone}
use Rattle.gw_rules.specs.QueueLaws.{IsOfOutside, IsReadOutside, not_of_till}
use Rattle.gw_rules.specs.Scene.{Scene, row_at}
use Rattle.gw_rules.specs.View.{View, Move, Begin, Read, Make, after, at_item, view_from}

-- ---- the books

-- the records that are kept are as they were, with the one in flight; so is the ledger, which gives each key what it has and each POIID its last number; and so are the journal's file and what a power failure may leave of it
pub record LeavesBooks (before after : Scene) : Type 0 where
  pub kept : after.kept ≡ before.kept
  pub flight : after.flight ≡ before.flight
  pub keys : (key : Key) → found_of after.kept key ≡ found_of before.kept key
  pub numbers : (poi : List ℕ) → last_number_of after.kept poi ≡ last_number_of before.kept poi
  pub file : after.outside.file ≡ before.outside.file
  pub stable : after.outside.stable ≡ before.outside.stable
  pub ranges : after.outside.written ≡ before.outside.written

-- how what waits for the terminals changes in these turns
pub data LeavesQueues (turns : List Turn) (before after : List Wait) : Type 0 where
  -- each queue stays
  AllWait : after ≡ before → LeavesQueues turns before after
  -- a till is cut in them: its own requests leave, and no other
  OwnLeave : (till : ℕ) → IsCutIn till turns → after ≡ not_of_till till before → LeavesQueues turns before after

-- ---- what comes of malformed bytes

-- what becomes of their till, as this item of them is handled in these turns
pub data TillOutcome (till : ℕ) (item : RoundItem) (turns : List Turn) (before after : Scene) : Type 0 where
  -- it was gone before: nothing is owed, and nothing changes
  WasGone : is_connected before.outside.tills till ≡ false → (row_at before item).calls ≡ [] → turns ≡ [] → after ≡ before → TillOutcome till item turns before after
  -- it is sent the reply that is owed, and nothing changes
  Replied : (reply : ReplyValue) → is_connected before.outside.tills till ≡ true → (row_at before item).calls ≡ SendTill till reply ∷ [] → turns ≡ SentTill till (reply_value_bytes reply) true ∷ [] → after ≡ before → TillOutcome till item turns before after
  -- the reply's send fails, and it is cut: it is gone, its own requests wait no longer, and nothing else changes
  Unreplied : (reply : ReplyValue) (bytes : List ℕ) → is_connected before.outside.tills till ≡ true → (row_at before item).calls ≡ SendTill till reply ∷ [] → IsPrefix bytes (reply_value_bytes reply) → turns ≡ SentTill till bytes false ∷ CutTill till ∷ [] → after ≡ till_gone before till → TillOutcome till item turns before after
  -- it is cut, which alone is owed
  Disconnected : is_connected before.outside.tills till ≡ true → (row_at before item).calls ≡ OwedCutTill till ∷ [] → turns ≡ CutTill till ∷ [] → after ≡ till_gone before till → TillOutcome till item turns before after

-- what becomes of their terminal
pub data TerminalOutcome (pt : ℕ) (turns : List Turn) (before after : Scene) : Type 0 where
  -- its link was cut before: nothing changes
  WasCut : is_connected before.outside.links pt ≡ false → turns ≡ [] → after ≡ before → TerminalOutcome pt turns before after
  -- its link is cut, and what the loss of it owes is done: the till of an end of day or a display gets its reply
  LinkEnds : (terminal : Terminal) (reply_turns : List Turn) → is_connected before.outside.links pt ≡ true → slice_get before.core.terminals pt ≡ Some terminal → turns ≡ CutPt pt ∷ reply_turns → ArePaid (calls_of_loss terminal) reply_turns (link_cut before pt terminal) after → TerminalOutcome pt turns before after

-- ---- one item, at any place of a lawful log

-- bytes of the till have brought the item
abbrev pub IsOfTillBytes : ℕ → RoundItem → Type 0
IsOfTillBytes till (Crowded number) = ⊥
IsOfTillBytes till (Message number bytes) = number ≡ till
IsOfTillBytes till (Asked number as_read) = number ≡ till
IsOfTillBytes till (Unframed number) = number ≡ till
IsOfTillBytes till (Gone number) = ⊥
IsOfTillBytes till (Greet pt apdu) = ⊥
IsOfTillBytes till (Handle pt apdu) = ⊥
IsOfTillBytes till (Serve pt number header request) = ⊥
IsOfTillBytes till (Queue pt number header request) = ⊥
IsOfTillBytes till (NextWaiting pt) = ⊥
IsOfTillBytes till (Oversized pt) = ⊥
IsOfTillBytes till (LinkLost pt) = ⊥
IsOfTillBytes till (Late pt) = ⊥
IsOfTillBytes till (Overdue key) = ⊥
IsOfTillBytes till (Due pt) = ⊥

-- calls are made in these moves: no other item begins or is read, no poll comes, no run begins, and no power fails
abbrev pub AreOfItem : List Move → Type 0
AreOfItem [] = Unit {0}
AreOfItem (Begin ∷ moves) = ⊥
AreOfItem (Read as_read ∷ moves) = ⊥
AreOfItem (Make turn ∷ moves) = (is_sort_of_round (sort_of turn) ≡ true) × AreOfItem moves

-- after a lawful log this item begins, before these, and these moves are made of it
pub record IsItemCourse (log : List Turn) (v : View) (item : RoundItem) (items : List RoundItem) (moves : List Move) : Type 0 where
  pub along : Stands log v
  pub begins : Begins v
  pub items_are : v.items ≡ item ∷ items
  pub lawful : IsCourse (after v Begin) moves
  pub of_item : AreOfItem moves

-- From the scene in which an item begins, before these items, these turns have led here: they have changed no books, and left each queue but for the requests of a till that is cut in them, and the items. Once no call is owed the item has this outcome.
pub record LeavesOthers (scene : Scene) (items : List RoundItem) (turns : List Turn) (v : View) (Comes : List Turn → Scene → Scene → Type 0) : Type 0 where
  pub books : LeavesBooks scene v.scene
  pub queues : LeavesQueues turns scene.core.waits v.scene.core.waits
  pub items_are : v.items ≡ items
  pub comes : v.calls ≡ [] → Comes turns scene v.scene

-- what these moves of an item lead to
abbrev pub ItemLeavesOthers : View → List RoundItem → List Move → (List Turn → Scene → Scene → Type 0) → Type 0
ItemLeavesOthers v items moves Comes = LeavesOthers (at_item v.scene) items (turns_of moves) (view_from (after v Begin) moves) Comes

-- at each place of a lawful log, an item of a till's bytes that are outside changes no books, whatever comes next
abbrev pub EachTillItemLeavesOthers : Type 0
EachTillItemLeavesOthers =
    (log : List Turn) (v : View) (till : ℕ) (item : RoundItem) (items : List RoundItem) (moves : List Move) → IsItemCourse log v item items moves → IsOfTillBytes till item → IsOfOutside item → ItemLeavesOthers v items moves (TillOutcome till item)

-- nor does one of a message that isn't read, since its till is gone
abbrev pub EachOfGoneTillLeavesOthers : Type 0
EachOfGoneTillLeavesOthers =
    (log : List Turn) (v : View) (till : ℕ) (bytes : List ℕ) (items : List RoundItem) (moves : List Move) → IsItemCourse log v (Message till bytes) items moves → ItemLeavesOthers v items moves (TillOutcome till (Message till bytes))

-- a till is cut, and nothing else changes
pub record IsCutAlone (till : ℕ) (turns : List Turn) (before after : Scene) : Type 0 where
  pub turns_are : turns ≡ CutTill till ∷ []
  pub after_is : after ≡ till_gone before till

-- so is a till more than may be there
abbrev pub EachCrowdedLeavesOthers : Type 0
EachCrowdedLeavesOthers = (log : List Turn) (v : View) (till : ℕ) (items : List RoundItem) (moves : List Move) → IsItemCourse log v (Crowded till) items moves → ItemLeavesOthers v items moves (IsCutAlone till)

-- and an item of a terminal's bytes that are outside
abbrev pub EachTerminalItemLeavesOthers : Type 0
EachTerminalItemLeavesOthers =
    (log : List Turn) (v : View) (pt : ℕ) (item : RoundItem) (items : List RoundItem) (moves : List Move) → IsItemCourse log v item items moves → IsOfBytes pt item → IsOfOutside item → ItemLeavesOthers v items moves (TerminalOutcome pt)

-- ---- in a round that ends with a poll

-- In these turns of a round, after a log that ends with the bytes and before the rest of it, this item of the bytes begins, before these items, and is handled in turns of its own. They have this outcome, change no books, and leave these of the items.
pub record ChangesNoBooks (log inside rest : List Turn) (item : RoundItem) (items left : List RoundItem) (Comes : List Turn → Scene → Scene → Type 0) : Type 0 where
  -- the turns before it begins, its own, and those after them
  pub first : List Turn
  pub own : List Turn
  pub later : List Turn
  pub inside_is : inside ≡ first ++ (own ++ later)
  -- as it begins
  pub view : View
  pub along : Stands (log ++ first) view
  pub begins : Begins view
  pub items_are : view.items ≡ item ∷ items
  -- once it is handled
  pub scene : Scene
  pub comes : Comes own view.scene scene
  pub books : LeavesBooks view.scene scene
  pub queues : LeavesQueues own view.scene.core.waits scene.core.waits
  pub leads : HasCourseTo view own (idle_with scene left)
  pub goes_on : HasCourse (idle_with scene left) (later ++ rest)

-- ---- tills

-- the till has newly said these payloads with this chunk, and then this rest
pub record HasFramed (o : Outside) (till : ℕ) (chunk : List ℕ) (new : List (List ℕ)) (left : List ℕ) : Type 0 where
  pub before : List (List ℕ)
  pub rest : List ℕ
  pub spelled : Frames (heard_on o.tills till) before rest
  pub all : Frames (heard_on o.tills till ++ chunk) (before ++ new) left

-- what the messages after it bring, and the bytes after them where they begin no frame
pub record AreAfterMessage (till : ℕ) (later : List (List ℕ)) (items : List RoundItem) : Type 0 where
  pub last : List RoundItem
  pub last_are : (last ≡ []) ⊎ (last ≡ Unframed till ∷ [])
  pub core : Core
  pub items_are : items ≡ (map (Message till) later ++ last) ++ items_due core

-- a message of the till, which is there, or was cut before, so that it isn't read
pub record MessageChangesNoBooks (log inside rest : List Turn) (till : ℕ) (payload : List ℕ) (as_read : ReadAs) (later : List (List ℕ)) : Type 0 where
  pub item : RoundItem
  pub item_is : (item ≡ Asked till as_read) ⊎ (item ≡ Message till payload)
  pub items : List RoundItem
  pub after : AreAfterMessage till later items
  pub handled : ChangesNoBooks log inside rest item items items (TillOutcome till item)

-- bytes of the till that begin no frame, after which nothing is left but what may be due
pub record FrameChangesNoBooks (log inside rest : List Turn) (till : ℕ) : Type 0 where
  pub core : Core
  pub handled : ChangesNoBooks log inside rest (Unframed till) (items_due core) (items_due core) (TillOutcome till (Unframed till))

-- in a lawful log, a message of a till that is no JSON, or no message, changes no books before the next poll
abbrev pub EachMessageChangesNoBooks : Type 0
EachMessageChangesNoBooks =
    (before inside rest : List Turn) (till : ℕ) (chunk : List ℕ) (now : ℤ) (earlier later : List (List ℕ)) (payload left : List ℕ) (as_read : ReadAs) → IsLawful (before ++ HeardTill till chunk ∷ (inside ++ Polled now ∷ rest)) → AreOfRound inside
    → HasFramed (outside_of before) till chunk (earlier ++ payload ∷ later) left → IsReadAs payload as_read → IsReadOutside as_read → MessageChangesNoBooks (before ++ HeardTill till chunk ∷ []) inside (Polled now ∷ rest) till payload as_read later

-- nor do bytes of a till that begin no frame
abbrev pub EachFrameChangesNoBooks : Type 0
EachFrameChangesNoBooks =
    (before inside rest : List Turn) (till : ℕ) (chunk : List ℕ) (now : ℤ) (new : List (List ℕ)) (left : List ℕ) → IsLawful (before ++ HeardTill till chunk ∷ (inside ++ Polled now ∷ rest)) → AreOfRound inside
    → HasFramed (outside_of before) till chunk new left → BeginsWithBadLength left → FrameChangesNoBooks (before ++ HeardTill till chunk ∷ []) inside (Polled now ∷ rest) till

-- ---- terminals

-- an item of a terminal's bytes, after which nothing of them is left
pub record TerminalChangesNoBooks (log inside rest : List Turn) (pt : ℕ) (item : RoundItem) (next : List RoundItem) : Type 0 where
  pub last : List RoundItem
  pub last_are : AreOfBytes pt last
  pub core : Core
  pub handled : ChangesNoBooks log inside rest item ((next ++ last) ++ items_due core) (items_due core) (TerminalOutcome pt)

-- in a lawful log, an APDU of a terminal outside the grammar changes no books before the next poll
abbrev pub EachApduChangesNoBooks : Type 0
EachApduChangesNoBooks =
    (before inside rest : List Turn) (pt : ℕ) (chunk : List ℕ) (now : ℤ) (earlier later : List ApduValue) (apdu : ApduValue) (left : List ℕ) (fault : PtFault) → IsLawful (before ++ HeardPt pt chunk ∷ (inside ++ Polled now ∷ rest)) → AreOfRound inside
    → HasSaid (outside_of before) pt chunk (earlier ++ apdu ∷ later) left → decode_pt_message apdu ≡ Err fault → TerminalChangesNoBooks (before ++ HeardPt pt chunk ∷ []) inside (Polled now ∷ rest) pt (Greet pt apdu) (after_greeting pt apdu later)

-- nor do bytes with which it begins an APDU above the limit
abbrev pub EachTooLongChangesNoBooks : Type 0
EachTooLongChangesNoBooks =
    (before inside rest : List Turn) (pt : ℕ) (chunk : List ℕ) (now : ℤ) (new : List ApduValue) (left : List ℕ) (length : ℕ) → IsLawful (before ++ HeardPt pt chunk ∷ (inside ++ Polled now ∷ rest)) → AreOfRound inside
    → HasSaid (outside_of before) pt chunk new left → BeginsTooLongApdu left length → TerminalChangesNoBooks (before ++ HeardPt pt chunk ∷ []) inside (Polled now ∷ rest) pt (Oversized pt) []
