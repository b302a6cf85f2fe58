-- What holds along a lawful course whose terminals are played ones: how far each dialogue is, by what the played terminal has sent, and that its book is honest so far.
use Rattle.std.specs.Prelude.{◌≡◌, ◌⊎◌, ◌≤◌, ◌<◌, ◌↔◌, ℕ, ◌+◌, ◌==◌, Bool, true, false, ◌||◌, bytes_eq, ◌&&◌, nat_le, not, is_some, if◌then◌else◌, List, [], ◌∷◌, ◌++◌, find, slice_get, Option, Some, None, Ok}
use Rattle.std.specs.List.{list_any}
use Rattle.gw_site.specs.declared.turn.Turn.{Turn}
use Rattle.gw_site.specs.Outside.{is_connected, heard_on}
use Rattle.zvt_apdu.specs.DecodeStream.{decode_apdus}
use Rattle.zvt_apdu.specs.Grammar.{ApduValue, BeginsWithApdu}
use Rattle.zvt_msg.specs.declared.command.Command.{Command}
use Rattle.zvt_msg.specs.declared.command.Command.TheVariants as commands
use Rattle.zvt_msg.specs.CommandCanonical.{canonical_command, command_apdu}
use Rattle.zvt_msg.specs.CommandDecode.{decode_command}
use Rattle.zvt_msg.specs.CommandGrammar.{HasCommandDigits, HasCommandSizes, SpellsCommand}
use Rattle.zvt_msg.specs.Message.{MessageValue}
use Rattle.zvt_msg.specs.MessageDecode.{decode_pt_message}
use Rattle.zvt_talk.specs.declared.dialogue_kind.DialogueKind.{DialogueKind}
use Rattle.zvt_talk.specs.declared.dialogue_kind.DialogueKind.TheVariants.{EndOfDay as EndOfDayDialogue, Display as DisplayDialogue}
use Rattle.zvt_talk.specs.Came.{Came, messages}
use Rattle.zvt_talk.specs.Dialogue.{Dialogue, dialogue_kind_of}
use Rattle.zvt_talk.specs.Laws.{MeansForTalkAsAfterAll, NextTalkIsAfterAll, StopWishedEndsNothing, TalkAfterStopWishedIsAfterAll}
use Rattle.zvt_talk.specs.Talk.{TalkFacts, talk_after, end_of}
use Rattle.pt_core.specs.declared.book.BookEntry.{BookEntry}
use Rattle.pt_core.specs.Exchange.{HearsSent, heard_on_link, met_of}
use Rattle.pt_core.specs.History.{Setting, Met, link_bytes, book_after, book_of, has_cut, reaction_after, sent_on_link}
use Rattle.pt_core.specs.Table.{cuts, entries_of}
use Rattle.pt_core.proofs.EndLemmas.{read_messages}
use Rattle.pt_core.proofs.HearingLemmas.{AllLaws}
use Rattle.xlate.specs.Ask.{CommandsHaveDigits}
use Rattle.gw_owes.specs.declared.terminal.Service.TheVariants.{Transaction, EndOfDay, Display}
use Rattle.gw_owes.specs.declared.terminal.Standing.{Standing}
use Rattle.gw_owes.specs.declared.terminal.Standing.TheVariants.{Unlinked, Registering, Enquiring, Ready, Serving, Aside}
use Rattle.gw_owes.specs.declared.terminal.Terminal.{Terminal}
use Rattle.gw_owes.specs.Calls.{Ask, Acknowledge, Refuse, OwedCall, SendTill, SendPt, LinkPt, WriteBody, WriteGate, WriteFirstGate, Sync, CutTill, CutPt}
use Rattle.gw_owes.specs.Deadlines.{is_due_by}
use Rattle.gw_owes.specs.Items.{RoundItem, Crowded, Message as MessageItem, Asked, Unframed, Gone, Greet, Handle, Serve, Queue, NextWaiting, Oversized, LinkLost, Late, Overdue, Due}
use Rattle.gw_owes.specs.Links.{is_linked}
use Rattle.gw_owes.proofs.RecordLemmas.{LedgerLaws}
use Rattle.gw_rules.specs.Lawful.{AllowedTurn, Begins}
use Rattle.gw_rules.specs.Stage.{is_broken}
use Rattle.gw_rules.specs.TranscriptLaws.{cut_owed}
use Rattle.gw_rules.specs.View.{View, Begin, Make, after}
use Rattle.gw_rules.proofs.RecordOrderLemmas.{Ordered}
use Rattle.gw_books.specs.Past.{SentCommand, MadeLink, Ending, Approved, Declined, Reported, HeardEnd, Past, past_after}
use Rattle.gw_books.specs.Books.{BookedEntry, is_caused, is_of_its_link, is_ordered, is_true}
use Rattle.gw_books.proofs.Holding.{AreFalling, charges, charge_owed, is_handle}
use Rattle.gw_books.proofs.ListLemmas.{In}
use Rattle.gw_played.specs.Played.{PlacedExchange, exchanges_in, exchanges_after, placed_entry, book_along}

-- ---- a played terminal, and what of it is still to be handled

abbrev pub met_in : List PlacedExchange → List Met
met_in exchanges = met_of (exchanges_in exchanges)

-- the APDUs of this terminal that the items to come handle, in their order
abbrev pub pending : ℕ → List RoundItem → List ApduValue
pending number [] = []
pending number (Crowded till ∷ items) = pending number items
pending number (MessageItem till bytes ∷ items) = pending number items
pending number (Asked till as_read ∷ items) = pending number items
pending number (Unframed till ∷ items) = pending number items
pending number (Gone till ∷ items) = pending number items
pending number (Greet pt apdu ∷ items) = pending number items
pending number (Handle pt apdu ∷ items) = if pt == number then apdu ∷ pending number items else pending number items
pending number (Serve pt till header request ∷ items) = pending number items
pending number (Queue pt till header request ∷ items) = pending number items
pending number (NextWaiting pt ∷ items) = pending number items
pending number (Oversized pt ∷ items) = pending number items
pending number (LinkLost pt ∷ items) = pending number items
pending number (Late pt ∷ items) = pending number items
pending number (Overdue key ∷ items) = pending number items
pending number (Due pt ∷ items) = pending number items

-- the APDUs are these messages, one after another
abbrev pub AreMessages : List ApduValue → List MessageValue → Type 0
AreMessages [] [] = Unit {0}
AreMessages [] (message ∷ messages) = ⊥
AreMessages (apdu ∷ apdus) [] = ⊥
AreMessages (apdu ∷ apdus) (message ∷ messages) = (decode_pt_message apdu ≡ Ok message) × AreMessages apdus messages

-- these messages, which the terminal has sent on its link, are still to be handled: those of items, and those that aren't whole or weren't heard yet
pub record IsLeft (setting : Setting) (exchanges : List PlacedExchange) (number : ℕ) (items : List RoundItem) (left : List MessageValue) : Type 0 where
  pub unheard : List ℕ
  pub stream : sent_on_link setting (met_in exchanges) ≡ heard_on_link (exchanges_in exchanges) ++ unheard
  pub are : AreMessages (pending number items ++ (decode_apdus ((decode_apdus (heard_on_link (exchanges_in exchanges))).rest ++ unheard)).apdus) left

-- the terminal waits for no further bytes of a command
abbrev pub WaitsForNone : List PlacedExchange → Type 0
WaitsForNone exchanges = (decode_apdus (link_bytes (met_in exchanges))).rest ≡ []

-- all that the terminal has sent on its link was handled
pub record IsQuiet (setting : Setting) (exchanges : List PlacedExchange) (number : ℕ) (items : List RoundItem) : Type 0 where
  pub none_left : IsLeft setting exchanges number items []
  pub uncut : has_cut setting (met_in exchanges) ≡ false
  pub waits : WaitsForNone exchanges

-- the terminal has handled this command, and what it has sent for it was handled so far that the dialogue goes on
pub record IsTalking (setting : Setting) (exchanges : List PlacedExchange) (number : ℕ) (items : List RoundItem) (talk : Option TalkFacts) (command : Command) : Type 0 where
  pub apdu : ApduValue
  -- the requests handled before it
  pub before : List ApduValue
  pub spells : decode_command apdu ≡ Some command
  pub book_is : book_after setting (met_in exchanges) ≡ book_of setting before ++ entries_of (reaction_after setting before apdu)
  pub dialogue : Dialogue
  pub begins : dialogue_kind_of command ≡ Some dialogue.dialogue_kind
  pub came : List Came
  pub talk_is : talk ≡ Some (talk_after dialogue came)
  pub goes_on : end_of dialogue came ≡ None
  pub left : List MessageValue
  pub is_left : IsLeft setting exchanges number items left
  -- what came and what is left is all that is sent for the command
  pub whole : messages came ++ left ≡ read_messages 16 (reaction_after setting before apdu)
  pub uncut : cuts (reaction_after setting before apdu) ≡ false → has_cut setting (met_in exchanges) ≡ false
  pub waits : WaitsForNone exchanges

-- the last command to the POIID was sent at a place of past commands, and the book has of it just these entries
pub record IsLastServed (setting : Setting) (poi : List ℕ) (exchanges : List PlacedExchange) (sent : List SentCommand) (entries : List BookEntry) : Type 0 where
  pub command : SentCommand
  pub last : find (λ (one : SentCommand). bytes_eq one.numbering.poi poi) sent ≡ Some command
  pub booked : (entry : BookEntry) → In entry entries → In (placed_entry poi command.place entry) (book_along setting poi exchanges)
  pub only : (entry : BookedEntry) → In entry (book_along setting poi exchanges) → entry.cause ≡ Some command.place → (one : BookEntry) × In one entries × (entry ≡ placed_entry poi command.place one)

-- the terminal has handled the command of the payment or the reversal that it serves
pub record IsTransacting (setting : Setting) (poi : List ℕ) (exchanges : List PlacedExchange) (number : ℕ) (items : List RoundItem) (sent : List SentCommand) (talk : Option TalkFacts) : Type 0 where
  pub command : Command
  pub charging : charges command ≡ true
  pub talking : IsTalking setting exchanges number items talk command
  pub last : IsLastServed setting poi exchanges sent (entries_of (reaction_after setting talking.before talking.apdu))

-- the terminal has handled the command of the end of day or the display that it serves
pub record IsServing (setting : Setting) (exchanges : List PlacedExchange) (number : ℕ) (items : List RoundItem) (talk : Option TalkFacts) (dialogue_kind : DialogueKind) : Type 0 where
  pub command : Command
  pub kind_is : dialogue_kind_of command ≡ Some dialogue_kind
  pub talking : IsTalking setting exchanges number items talk command

-- how far the dialogue of a linked terminal is, by its standing
abbrev pub IsPeerIn : Setting → List ℕ → List PlacedExchange → ℕ → List RoundItem → List SentCommand → Option TalkFacts → Standing → Type 0
IsPeerIn setting poi exchanges number items sent talk (Unlinked due) = Unit {0}
IsPeerIn setting poi exchanges number items sent talk Registering = (password : List ℕ) × (config : ℕ) × (currency : ℕ) × IsTalking setting exchanges number items talk (commands.Register password config currency)
IsPeerIn setting poi exchanges number items sent talk Enquiring = (password : List ℕ) × IsTalking setting exchanges number items talk (commands.Enquire password)
IsPeerIn setting poi exchanges number items sent talk (Ready last) = IsQuiet setting exchanges number items
IsPeerIn setting poi exchanges number items sent talk (Serving (Transaction slot) last) = IsTransacting setting poi exchanges number items sent talk
IsPeerIn setting poi exchanges number items sent talk (Serving (EndOfDay header period) last) = IsServing setting exchanges number items talk EndOfDayDialogue
IsPeerIn setting poi exchanges number items sent talk (Serving (Display header results) last) = IsServing setting exchanges number items talk DisplayDialogue
IsPeerIn setting poi exchanges number items sent talk (Aside before reported) = IsQuiet setting exchanges number items

-- ---- commands that are owed

-- the command with which a dialogue of this standing begins
abbrev pub BeginsStanding : Standing → Command → Type 0
BeginsStanding (Unlinked due) command = ⊥
BeginsStanding Registering command = (password : List ℕ) × (config : ℕ) × (currency : ℕ) × (command ≡ commands.Register password config currency)
BeginsStanding Enquiring command = (password : List ℕ) × (command ≡ commands.Enquire password)
BeginsStanding (Ready last) command = ⊥
BeginsStanding (Serving (Transaction slot) last) command = charges command ≡ true
BeginsStanding (Serving (EndOfDay header period) last) command = dialogue_kind_of command ≡ Some EndOfDayDialogue
BeginsStanding (Serving (Display header results) last) command = dialogue_kind_of command ≡ Some DisplayDialogue
BeginsStanding (Aside before reported) command = ⊥

-- the command begins a dialogue: each does but a stop
abbrev pub begins_dialogue : Command → Bool
begins_dialogue command = is_some (dialogue_kind_of command)

-- the call sends the terminal of this number a command with which a dialogue begins
abbrev pub asks_terminal : ℕ → OwedCall → Bool
asks_terminal number (SendTill till reply) = false
asks_terminal number (SendPt pt (Ask command)) = (pt == number) && begins_dialogue command
asks_terminal number (SendPt pt Acknowledge) = false
asks_terminal number (SendPt pt Refuse) = false
asks_terminal number (LinkPt pt) = false
asks_terminal number (WriteBody slot the_record) = false
asks_terminal number (WriteGate slot the_record) = false
asks_terminal number WriteFirstGate = false
asks_terminal number Sync = false
asks_terminal number (CutTill till) = false
asks_terminal number (CutPt pt) = false

-- such a call is owed
abbrev pub ask_owed : ℕ → List OwedCall → Bool
ask_owed number [] = false
ask_owed number (call ∷ calls) = asks_terminal number call || ask_owed number calls

-- the call links the terminal of this number
abbrev pub links_terminal : ℕ → OwedCall → Bool
links_terminal number (SendTill till reply) = false
links_terminal number (SendPt pt sending) = false
links_terminal number (LinkPt pt) = pt == number
links_terminal number (WriteBody slot the_record) = false
links_terminal number (WriteGate slot the_record) = false
links_terminal number WriteFirstGate = false
links_terminal number Sync = false
links_terminal number (CutTill till) = false
links_terminal number (CutPt pt) = false

-- its link is owed
abbrev pub link_owed : ℕ → List OwedCall → Bool
link_owed number [] = false
link_owed number (call ∷ calls) = links_terminal number call || link_owed number calls

-- the command of the terminal's standing is owed, and its dialogue is about to begin
pub record IsToBeAsked (setting : Setting) (exchanges : List PlacedExchange) (number : ℕ) (items : List RoundItem) (calls : List OwedCall) (terminal : Terminal) : Type 0 where
  pub quiet : IsQuiet setting exchanges number items
  pub command : Command
  pub owed : In (SendPt number (Ask command)) calls
  pub digits : HasCommandDigits command
  pub sizes : HasCommandSizes command
  pub of_standing : BeginsStanding terminal.standing command
  pub dialogue : Dialogue
  pub begins : dialogue_kind_of command ≡ Some dialogue.dialogue_kind
  pub talk_is : terminal.talk ≡ Some (talk_after dialogue [])

-- a linked terminal: where its command is owed it is about to be asked, and else its dialogue is as far as its standing says
abbrev pub IsPeer : Bool → Setting → List PlacedExchange → ℕ → List RoundItem → List SentCommand → List OwedCall → Terminal → Type 0
IsPeer true setting exchanges number items sent calls terminal = IsToBeAsked setting exchanges number items calls terminal
IsPeer false setting exchanges number items sent calls terminal = IsPeerIn setting terminal.pt.poi exchanges number items sent terminal.talk terminal.standing

-- ---- the book of one terminal

-- trace numbers are from 1 to 999,999, and receipt numbers have at most four digits
abbrev pub is_numbered : BookedEntry → Bool
is_numbered entry = nat_le 1 entry.number && (nat_le entry.number 999999 && nat_le entry.receipt 9999)

-- the entry is that of a command that was sent to the POIID
pub record HasCommand (past : Past) (poi : List ℕ) (entry : BookedEntry) : Type 0 where
  pub poi_is : entry.numbering.poi ≡ poi
  pub command : SentCommand
  pub sent : In command past.commands
  pub command_poi : command.numbering.poi ≡ poi
  pub cause_is : entry.cause ≡ Some command.place
  pub place_is : entry.place ≡ command.place + 1

-- the book of the terminal of this POIID is honest for what has happened
pub record IsHonestFor (past : Past) (poi : List ℕ) (book : List BookedEntry) : Type 0 where
  pub commanded : (entry : BookedEntry) → In entry book → HasCommand past poi entry
  pub caused : (entry : BookedEntry) → In entry book → is_caused past entry entry.cause ≡ true
  pub linked : (entry : BookedEntry) → In entry book → is_of_its_link past entry ≡ true
  pub ordered : is_ordered book ≡ true
  pub numbered : (entry : BookedEntry) → In entry book → is_numbered entry ≡ true
  pub true_ends : (end : HeardEnd) → In end past.ends → end.numbering.poi ≡ poi → is_true book end end.ending ≡ true

-- the command of an end is one that was sent to its POIID
abbrev pub IsOfCommand : List SentCommand → List ℕ → Ending → Type 0
IsOfCommand sent poi (Approved place figures) = (command : SentCommand) × In command sent × (command.place ≡ place) × (command.numbering.poi ≡ poi)
IsOfCommand sent poi (Declined place trace) = (command : SentCommand) × In command sent × (command.place ≡ place) × (command.numbering.poi ≡ poi)
IsOfCommand sent poi (Reported trace figures) = Unit {0}

-- a terminal of this POIID was linked
abbrev pub WasLinked : List MadeLink → List ℕ → Type 0
WasLinked links poi = (link : MadeLink) × In link links × (link.numbering.poi ≡ poi)

-- ---- items

-- while what the terminal of this number has said is still to be handled, the item may lead to a command that charges; what a terminal next serves that waits for it does so only where nothing is left that it has said
abbrev pub brings_charge : ℕ → RoundItem → Bool
brings_charge one (Crowded till) = false
brings_charge one (MessageItem till bytes) = true
brings_charge one (Asked till as_read) = true
brings_charge one (Unframed till) = false
brings_charge one (Gone till) = false
brings_charge one (Greet pt apdu) = false
brings_charge one (Handle pt apdu) = not (pt == one)
brings_charge one (Serve pt till header request) = true
brings_charge one (Queue pt till header request) = false
brings_charge one (NextWaiting pt) = not (pt == one)
brings_charge one (Oversized pt) = false
brings_charge one (LinkLost pt) = false
brings_charge one (Late pt) = false
brings_charge one (Overdue key) = false
brings_charge one (Due pt) = false

-- these items handle what one terminal has said, and lead to no command that charges before it was handled
abbrev pub ChargeNone : List RoundItem → Type 0
ChargeNone items = (one : ℕ) × (list_any (brings_charge one) items ≡ false)

-- ---- along a course

-- what holds after moves of a lawful course whose terminals are played ones; `exchanges`: what was done on the connection of the terminal of each POIID
pub record Plays (settings : List ℕ → Setting) (v : View) (past : Past) (exchanges : List ℕ → List PlacedExchange) : Type 0 where
  pub peers : is_broken v.scene.stage ≡ false → (number : ℕ) (terminal : Terminal) → slice_get v.scene.core.terminals number ≡ Some terminal → is_linked terminal.standing ≡ true → cut_owed number v.calls ≡ false
      → IsPeer (ask_owed number v.calls) (settings terminal.pt.poi) (exchanges terminal.pt.poi) number v.items past.commands v.calls terminal
  -- a terminal that isn't linked has no dialogue, and items that still handle what it has said only before it is due
  pub unlinked : (number : ℕ) (terminal : Terminal) (due : Option ℕ) → slice_get v.scene.core.terminals number ≡ Some terminal → terminal.standing ≡ Unlinked due
      → (terminal.talk ≡ None) × ((pending number v.items ≡ []) ⊎ (is_due_by v.scene.outside.moment due ≡ false))
  pub linking : (number : ℕ) → link_owed number v.calls ≡ true → pending number v.items ≡ []
  pub heard : (number : ℕ) (terminal : Terminal) → slice_get v.scene.core.terminals number ≡ Some terminal → is_connected v.scene.outside.links number ≡ true
      → heard_on_link (exchanges_in (exchanges terminal.pt.poi)) ≡ heard_on v.scene.outside.links number
  -- while items handle what a terminal has said, no command that may charge a card was sent since it was heard, and none is owed
  pub calm : list_any is_handle v.items ≡ true → (command : SentCommand) → In command past.commands → command.place < past.heard
  pub uncharged : list_any is_handle v.items ≡ true → (number : ℕ) → charge_owed number v.calls ≡ false
  pub served : list_any is_handle v.items ≡ true → ChargeNone v.items
  pub heard_before : past.heard ≤ past.place
  pub falling : AreFalling past.place past.commands
  pub linked_before : (link : MadeLink) → In link past.links → link.place < past.place
  pub ends : (end : HeardEnd) → In end past.ends → IsOfCommand past.commands end.numbering.poi end.ending × WasLinked past.links end.numbering.poi × (end.place ≤ past.heard)
  pub made : (number : ℕ) (terminal : Terminal) → slice_get v.scene.core.terminals number ≡ Some terminal → is_linked terminal.standing ≡ true → WasLinked past.links terminal.pt.poi
  pub places : (poi : List ℕ) (one : PlacedExchange) → In one (exchanges poi) → one.place < past.place
  pub honest : (poi : List ℕ) → IsHonestFor past poi (book_along (settings poi) poi (exchanges poi))

-- ---- the steps

-- what the crates below say of commands, messages and dialogues
pub record PeerLaws : Type 0 where
  pub all : AllLaws
  pub written : (command : Command) (rest : List ℕ) → HasCommandDigits command → HasCommandSizes command → BeginsWithApdu (canonical_command command ++ rest) (command_apdu command) rest × SpellsCommand (command_apdu command) command
  pub decoded : (apdu : ApduValue) (command : Command) → (decode_command apdu ≡ Some command) ↔ SpellsCommand apdu command
  pub asked : CommandsHaveDigits
  pub means : MeansForTalkAsAfterAll
  pub next : NextTalkIsAfterAll
  pub stop_wished : TalkAfterStopWishedIsAfterAll
  pub ends_nothing : StopWishedEndsNothing
  pub ledger : LedgerLaws

-- as this item begins
abbrev pub PlaysItem : RoundItem → Type 0
PlaysItem item =
    (settings : List ℕ → Setting) (log : List Turn) (v : View) (past : Past) (exchanges : List ℕ → List PlacedExchange) (rest : List RoundItem)
    → Ordered log v → Ordered log (after v Begin) → Begins v → v.items ≡ item ∷ rest → Plays settings v past exchanges → Plays settings (after v Begin) (past_after v past Begin) exchanges

-- as this turn is made
abbrev pub PlaysTurn : Turn → Type 0
PlaysTurn turn =
    (settings : List ℕ → Setting) (log : List Turn) (v : View) (past : Past) (exchanges : List ℕ → List PlacedExchange)
    → Ordered log v → AllowedTurn v turn → ((poi : List ℕ) → HearsSent (settings poi) (exchanges_in (exchanges_after poi v past.place (exchanges poi) (Make turn)))) → Plays settings v past exchanges
    → Plays settings (after v (Make turn)) (past_after v past (Make turn)) (λ poi. exchanges_after poi v past.place (exchanges poi) (Make turn))
