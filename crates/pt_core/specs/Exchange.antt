-- What the gateway does on the connection of a played terminal, what it hears there, and the book with its places.
use Rattle.std.specs.Prelude.{◌≡◌, ℕ, ◌+◌, ◌≤◌, List, [], ◌≢◌, ◌∷◌, ◌++◌, length, drop, map, slice_get, Option, None, Some, Result, Ok, Err, All, IsTrue}
use Rattle.std.specs.List.{filter_map}
use Rattle.gw_bytes.specs.Bytes.{IsPrefix}
use Rattle.zvt_apdu.specs.Grammar.{ApduValue}
use Rattle.zvt_apdu.specs.DecodeStream.{decode_apdus}
use Rattle.zvt_msg.specs.Message.{MessageValue}
use Rattle.zvt_msg.specs.MessageDecode.{decode_pt_message}
use Rattle.zvt_msg.specs.CommandDecode.{decode_command}
use Rattle.zvt_msg.specs.declared.command.Command.{Command}
use Rattle.zvt_msg.specs.declared.fault.PtFault.{PtFault}
use Rattle.zvt_talk.specs.declared.meaning.Heard.{Heard}
use Rattle.zvt_talk.specs.Dialogue.{Dialogue, dialogue_kind_of}
use Rattle.zvt_talk.specs.Came.{Came, messages}
use Rattle.zvt_talk.specs.Talk.{end_of}
use Rattle.pt_core.specs.declared.book.BookEntry.{BookEntry}
use Rattle.pt_core.specs.Book.{all_fit, last_trace}
use Rattle.pt_core.specs.Table.{entries_of}
use Rattle.pt_core.specs.Ends.{IsTrueEnd}
use Rattle.pt_core.specs.History.{Setting, Met, NewLink, Chunk, all_handled, sent_on_link, sent_for, book_after, book_of, earlier, handled, reaction_after, requests}
use Rattle.pt_core.specs.Honest.{AreEntriesNumbered, FollowsEntry, IsCausedBy}

-- what the gateway does on the connection
pub data Exchange : Type 0 where
  -- it makes a new link
  Links : Exchange
  -- it sends bytes, which the terminal hears: a command, a part of one, or several
  Sends : (bytes : List ℕ) → Exchange
  -- it hears bytes of the terminal
  Hears : (bytes : List ℕ) → Exchange

-- ---- all exchanges, the newest first

-- what the terminal meets of them
abbrev pub met_of : List Exchange → List Met
met_of [] = []
met_of (Links ∷ exchanges) = NewLink ∷ met_of exchanges
met_of (Sends bytes ∷ exchanges) = Chunk bytes ∷ met_of exchanges
met_of (Hears bytes ∷ exchanges) = met_of exchanges

-- what the gateway has heard on the present link
abbrev pub heard_on_link : List Exchange → List ℕ
heard_on_link [] = []
heard_on_link (Links ∷ exchanges) = []
heard_on_link (Sends bytes ∷ exchanges) = heard_on_link exchanges
heard_on_link (Hears bytes ∷ exchanges) = heard_on_link exchanges ++ bytes

-- at each hearing, what was heard on the link is a prefix of what the terminal had sent on it
abbrev pub HearsSent : Setting → List Exchange → Type 0
HearsSent setting [] = Unit {0}
HearsSent setting (Links ∷ exchanges) = HearsSent setting exchanges
HearsSent setting (Sends bytes ∷ exchanges) = HearsSent setting exchanges
HearsSent setting (Hears bytes ∷ exchanges) =
    IsPrefix (heard_on_link exchanges ++ bytes) (sent_on_link setting (met_of exchanges)) × HearsSent setting exchanges

-- there is no new link among them
abbrev pub AreOnOneLink : List Exchange → Type 0
AreOnOneLink [] = Unit {0}
AreOnOneLink (Links ∷ exchanges) = ⊥
AreOnOneLink (Sends bytes ∷ exchanges) = AreOnOneLink exchanges
AreOnOneLink (Hears bytes ∷ exchanges) = AreOnOneLink exchanges

-- ---- the book with its places

-- an entry with its cause and its place: the position of the sending that causes it, and how many exchanges are before it
pub record PlacedEntry : Type 0 where
  pub cause : ℕ
  pub place : ℕ
  pub entry : BookEntry

-- entries that the sending at this position causes: each has its place right after it
abbrev pub placed_at : ℕ → List BookEntry → List PlacedEntry
placed_at position entries = map (λ entry. record { cause = position; place = position + 1; entry = entry }) entries

-- the book with its places: what a sending adds to it is caused by that
abbrev pub placed_book : Setting → List Exchange → List PlacedEntry
placed_book setting [] = []
placed_book setting (Links ∷ exchanges) = placed_book setting exchanges
placed_book setting (Sends bytes ∷ exchanges) = placed_book setting exchanges
    ++ placed_at (length exchanges) (drop (length (book_after setting (met_of exchanges))) (book_after setting (Chunk bytes ∷ met_of exchanges)))
placed_book setting (Hears bytes ∷ exchanges) = placed_book setting exchanges

-- The sending at its cause completes a request that was not whole before it, and that request, with these handled before
-- it, books this entry and causes it.
pub record HasTrueCause (setting : Setting) (exchanges : List Exchange) (placed : PlacedEntry) : Type 0 where
  -- the exchanges after the sending, its bytes, and those before it
  pub after : List Exchange
  pub bytes : List ℕ
  pub before : List Exchange
  pub parts : exchanges ≡ after ++ Sends bytes ∷ before
  pub cause : placed.cause ≡ length before
  pub place : placed.place ≡ placed.cause + 1
  -- the requests handled then: those before the request, itself, and those after it
  pub first : List ApduValue
  pub apdu : ApduValue
  pub later : List ApduValue
  pub completed : all_handled setting (Chunk bytes ∷ met_of before) ≡ later ++ apdu ∷ first
  pub not_before : length (all_handled setting (met_of before)) ≤ length first
  pub booked : entries_of (reaction_after setting first apdu) ≡ placed.entry ∷ []
  pub caused : IsCausedBy (book_of setting first) (decode_command apdu) placed.entry
  pub follows : FollowsEntry (book_of setting first) placed.entry

-- the sending at this position completes at least two requests
pub record CompletesTwo (setting : Setting) (exchanges : List Exchange) (cause : ℕ) : Type 0 where
  -- the exchanges after the sending, its bytes, and those before it
  pub after : List Exchange
  pub bytes : List ℕ
  pub before : List Exchange
  pub parts : exchanges ≡ after ++ Sends bytes ∷ before
  pub position : cause ≡ length before
  pub two : length (all_handled setting (met_of before)) + 2 ≤ length (all_handled setting (Chunk bytes ∷ met_of before))

-- two entries of different numbers have one cause only where that sending completes at least two requests
abbrev pub HasOwnCauses : Setting → List Exchange → List PlacedEntry → Type 0
HasOwnCauses setting exchanges book = (one other : ℕ) (entry another : PlacedEntry) → slice_get book one ≡ Some entry → slice_get book other ≡ Some another
    → entry.entry.number ≢ another.entry.number → entry.cause ≡ another.cause → CompletesTwo setting exchanges entry.cause

-- ---- what is heard of one command

-- the message that an APDU is, where it is one
abbrev pub message_in : Result MessageValue PtFault → Option MessageValue
message_in (Ok message) = Some message
message_in (Err fault) = None

-- the messages that bytes begin with
abbrev pub messages_in : List ℕ → List MessageValue
messages_in bytes = filter_map (λ apdu. message_in (decode_pt_message apdu)) (decode_apdus bytes).apdus

-- the bytes that are sent for these first requests of the present link
abbrev pub sent_first : Setting → List Exchange → List ApduValue → List ℕ
sent_first setting exchanges first = sent_for setting (earlier setting (met_of exchanges)) first

-- all the requests that are handled before the one that follows these on the present link
abbrev pub handled_first : Setting → List Exchange → List ApduValue → List ApduValue
handled_first setting exchanges first = handled setting (earlier setting (met_of exchanges)) first

-- On the present link, a hearing brings the end of the dialogue of a command: the request that follows these first ones is
-- the command, and what was heard by then after what was sent for the first ones are the messages of its dialogue.
pub record BringsEnd (setting : Setting) (exchanges : List Exchange) (first : List ApduValue) (apdu : ApduValue) (end : Heard) (before : List Exchange) : Type 0 where
  -- the exchanges after the hearing, and its bytes
  pub after : List Exchange
  pub bytes : List ℕ
  pub parts : exchanges ≡ after ++ Hears bytes ∷ before
  pub one_link : AreOnOneLink after
  -- the command
  pub later : List ApduValue
  pub sent : requests (met_of exchanges) ≡ first ++ apdu ∷ later
  pub command : Command
  pub spells : decode_command apdu ≡ Some command
  -- its dialogue
  pub dialogue : Dialogue
  pub begins : dialogue_kind_of command ≡ Some dialogue.dialogue_kind
  pub came : List Came
  pub heard : messages came ≡ messages_in (drop (length (sent_first setting exchanges first)) (heard_on_link (Hears bytes ∷ before)))
  pub ends : end_of dialogue came ≡ Some end

-- The end is true of the book, and each entry that the command books was in the book before the hearing.
pub record IsTrueHearing (setting : Setting) (before : List Exchange) (first : List ApduValue) (apdu : ApduValue) (end : Heard) : Type 0 where
  pub true_end : IsTrueEnd (book_of setting first) (entries_of (reaction_after setting first apdu)) end
  -- the requests handled before the hearing: those before the command, itself, and those after it
  pub later : List ApduValue
  pub handled_then : all_handled setting (met_of before) ≡ later ++ apdu ∷ first
  -- the book before the hearing has the entries before the command, its own, and those after it
  pub more : List BookEntry
  pub book_then : book_after setting (met_of before) ≡ (book_of setting first ++ entries_of (reaction_after setting first apdu)) ++ more

-- ---- honest

-- A book with its places is honest for its connection: no entry without a command of the gateway, none after a new link, one
-- entry a command, numbers that rise, and ends that are true. Where it says more or less than is asked of any terminal:
-- - A cause is the sending that completes the command, since parts of a command may be sent apart; whoever sends a command whole
--   has its own sending for a cause. A sending that completes several commands causes an entry for each that books one, and
--   two entries have one cause only there (`own_causes`).
-- - A played terminal begins with an empty book, so that no entry is without a cause.
-- - The place is right after the cause, which leaves no room for a new link between them, and each entry of a command is in the
--   book before a hearing that brings the command's end (`book_then`).
-- - Numbers rise by one and begin at 1.
-- - Ends are true of the book before the command and of what the command books. Declined: it books nothing, also later,
--   and no trace number is reported, so that there is none to be an entry's. Reported: the last entry, and each entry is approved.
pub record IsHonestForConnection (setting : Setting) (exchanges : List Exchange) : Type 0 where
  -- it is the book of the terminal
  pub book : map (λ placed. placed.entry) (placed_book setting exchanges) ≡ book_after setting (met_of exchanges)
  -- each entry has its cause, with no new link between that and its place
  pub causes : All (HasTrueCause setting exchanges) (placed_book setting exchanges)
  -- two entries have one cause only where a sending completes several requests
  pub own_causes : HasOwnCauses setting exchanges (placed_book setting exchanges)
  -- the trace numbers rise from 1 to at most 999,999
  pub numbers : AreEntriesNumbered 1 (book_after setting (met_of exchanges))
  pub few : length (book_after setting (met_of exchanges)) ≤ last_trace
  -- each entry fits a status
  pub fit : IsTrue (all_fit (book_after setting (met_of exchanges)))
  -- each end of a dialogue is true of the entries before the hearing that brings it
  pub ends : (first : List ApduValue) (apdu : ApduValue) (end : Heard) (before : List Exchange)
      → BringsEnd setting exchanges first apdu end before → IsTrueHearing setting before (handled_first setting exchanges first) apdu end
