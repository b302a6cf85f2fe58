-- What holds along a lawful course of what has happened, and of a book that is honest for it.
use Rattle.std.specs.Prelude.{◌≡◌, ◌⊎◌, ◌≤◌, ◌<◌, ℕ, ◌^◌, ◌==◌, nat_lt, Bool, true, false, ◌&&◌, ◌||◌, not, bytes_eq, codes, IfSome, List, [], ◌∷◌, ◌++◌, length, find, slice_get, Some}
use Rattle.std.specs.List.{list_any, list_all}
use Rattle.gw_base.specs.Transaction.{transaction_text}
use Rattle.gw_base.specs.declared.key.Key.{Key}
use Rattle.gw_site.specs.declared.turn.Turn.{Turn}
use Rattle.json_text.specs.Canonical.{canonical}
use Rattle.json_text.specs.Spellable.{IsSpellable}
use Rattle.json_text.specs.Tree.{Tree}
use Rattle.sale_values.specs.Money.{money_text}
use Rattle.sale_values.specs.declared.header.Header.{Header}
use Rattle.sale_reply.specs.Limits.{IsHeaderWithinLimits}
use Rattle.zvt_msg.specs.declared.command.Command.{Command}
use Rattle.zvt_msg.specs.declared.command.Command.TheVariants as command
use Rattle.jrn_record.specs.declared.records.Deal.{Deal}
use Rattle.jrn_record.specs.declared.records.Deal.TheVariants as deals
use Rattle.jrn_record.specs.declared.records.Intent.{Intent as TheIntent}
use Rattle.jrn_record.specs.declared.records.Outcome.{Outcome as TheOutcome}
use Rattle.jrn_record.specs.declared.records.Record.{Record}
use Rattle.jrn_record.specs.declared.records.Record.TheVariants.{Outcome}
use Rattle.gw_ledger.specs.Accounts.{open_slot}
use Rattle.gw_ledger.specs.Fold.{AreFolded}
use Rattle.gw_ledger.specs.Keys.{intent_key, slot_of}
use Rattle.gw_ledger.specs.Slots.{intent_at}
use Rattle.xlate.specs.Reply.{deal_category}
use Rattle.gw_owes.specs.declared.terminal.Service.{Service}
use Rattle.gw_owes.specs.declared.terminal.Service.TheVariants.{Transaction, EndOfDay, Display}
use Rattle.gw_owes.specs.declared.terminal.Standing.{Standing}
use Rattle.gw_owes.specs.declared.terminal.Standing.TheVariants.{Unlinked, Registering, Enquiring, Ready, Serving, Aside}
use Rattle.gw_owes.specs.declared.terminal.Terminal.{Terminal}
use Rattle.gw_owes.specs.Calls.{Sending, Ask, Acknowledge, Refuse, OwedCall, SendTill, SendPt, LinkPt, WriteBody, WriteGate, WriteFirstGate, Sync, CutTill, CutPt, records_kept}
use Rattle.gw_owes.specs.Core.{Core}
use Rattle.gw_owes.specs.Dialogues.{AllHaveDialogues, HasItsDialogue}
use Rattle.gw_owes.specs.Items.{RoundItem, Crowded, Message, Asked, Unframed, Gone, Greet, Handle, Serve, Queue, NextWaiting, Oversized, LinkLost, Late, Overdue, Due}
use Rattle.gw_owes.specs.RecordLaws.{AreResultsWithinLimits, IsInOrder}
use Rattle.gw_owes.specs.WaitingLaws.{AreWaitsInOrder}
use Rattle.gw_owes.specs.Reply.{ReplyValue, reply_value_tree}
use Rattle.gw_owes.specs.Row.{Known, Row}
use Rattle.gw_rules.specs.Lawful.{AllowedTurn, IsRead}
use Rattle.gw_owes.specs.ReadAs.{ReadAs}
use Rattle.gw_rules.specs.RecordOrder.{records_coming}
use Rattle.gw_rules.specs.Scene.{Scene}
use Rattle.gw_rules.specs.Stage.{is_round, is_broken}
use Rattle.gw_rules.specs.TranscriptLaws.{cut_owed}
use Rattle.gw_rules.specs.View.{View, Move, Read, Make, after}
use Rattle.gw_rules.proofs.RecordOrderLemmas.{Ordered}
use Rattle.gw_books.specs.Kinds.{BookedKind, booked_kind_of}
use Rattle.gw_books.specs.Past.{Occasion, SentCommand, MadeLink, HeardEnd, SentReply, MadePoll, Past, no_past, occasion_of, ends_of, past_after, waiting_keys}
use Rattle.gw_books.specs.Books.{BookedEntry, Honest}
use Rattle.gw_books.specs.Said.{Said, all_said, IsFramed}
use Rattle.gw_books.specs.SaidLaws.{said_by_reply}
use Rattle.gw_books.specs.Agrees.{Agrees, is_transaction, is_success, is_accepted, is_report, is_inside, report_resolves, unaccepted_agrees, not_found_agrees, in_progress_agrees}
use Rattle.gw_books.proofs.ListLemmas.{In}

-- ---- the book

-- by this place the book has an approved entry of the command with the Outcome's numbers and amount
pub record HasApprovedEntry (book : List BookedEntry) (place : ℕ) (command : SentCommand) (outcome : TheOutcome) : Type 0 where
  pub entry : BookedEntry
  pub within : In entry book
  pub caused : entry.cause ≡ Some command.place
  pub placed : entry.place ≤ place
  pub approved : entry.approved ≡ true
  pub number : entry.number ≡ outcome.number
  pub receipt : entry.receipt ≡ outcome.receipt
  pub amount : entry.amount ≡ outcome.amount

-- no entry of the command is approved in the whole book
abbrev pub HasNoApproval : List BookedEntry → SentCommand → Type 0
HasNoApproval book command = (entry : BookedEntry) → In entry book → entry.cause ≡ Some command.place → entry.approved ≡ false

-- the approval of a key is that of a command which was sent for it, and has its entry
pub record IsApprovalTrue (commands : List SentCommand) (book : List BookedEntry) (place : ℕ) (key : Key) (outcome : TheOutcome) : Type 0 where
  pub command : SentCommand
  pub sent : In command commands
  pub key_is : command.key ≡ Some key
  pub booked : HasApprovedEntry book place command outcome

-- a key is declined: no command that was sent for it has an approved entry; there may be none
abbrev pub IsDeclineTrue : List SentCommand → List BookedEntry → Key → Type 0
IsDeclineTrue commands book key = (command : SentCommand) → In command commands → command.key ≡ Some key → HasNoApproval book command

-- the book bears out an Outcome of this key, by whether it approves
abbrev pub BearsOut : Bool → List SentCommand → List BookedEntry → ℕ → Key → TheOutcome → Type 0
BearsOut true commands book place key outcome = IsApprovalTrue commands book place key outcome
BearsOut false commands book place key outcome = IsDeclineTrue commands book key

abbrev pub IsOutcomeTrue : List SentCommand → List BookedEntry → ℕ → Key → TheOutcome → Type 0
IsOutcomeTrue commands book place key outcome = BearsOut outcome.approved commands book place key outcome

-- so is each Outcome of the records
abbrev pub AreOutcomesTrue : List SentCommand → List BookedEntry → ℕ → List Record → Type 0
AreOutcomesTrue commands book place records =
    (at : ℕ) (outcome : TheOutcome) (intent : TheIntent) → slice_get records at ≡ Some (Outcome outcome) → intent_at records outcome.slot ≡ Some intent
    → IsOutcomeTrue commands book place (intent_key intent) outcome

-- ---- commands

-- the places of the commands fall, the newest first, from below this one on
abbrev pub AreFalling : ℕ → List SentCommand → Type 0
AreFalling place [] = Unit {0}
AreFalling place (command ∷ commands) = (command.place < place) × AreFalling command.place commands

-- the Intent of this key asks for what is of this kind
pub record IsAskedAs (kept : List Record) (key : Key) (kind : BookedKind) : Type 0 where
  pub slot : ℕ
  pub intent : TheIntent
  pub intent_is : intent_at kept slot ≡ Some intent
  pub own : intent_key intent ≡ key
  pub kind_is : kind ≡ booked_kind_of intent.what

-- the command has a key whose Intent is kept, and is of the kind that it asks for
pub record HasAcceptedKey (kept : List Record) (command : SentCommand) : Type 0 where
  pub key : Key
  pub key_is : command.key ≡ Some key
  pub accepted : is_accepted kept key ≡ true
  pub asked : IsAskedAs kept key command.kind

-- each command has such a key, and no two have the same one
pub record AreKeyed (kept : List Record) (place : ℕ) (commands : List SentCommand) : Type 0 where
  pub falling : AreFalling place commands
  pub accepted : (command : SentCommand) → In command commands → HasAcceptedKey kept command
  pub once : (one other : SentCommand) (key : Key) → In one commands → In other commands → one.key ≡ Some key → other.key ≡ Some key → one ≡ other

-- no command was sent for the key
abbrev pub IsUnsent : List SentCommand → Key → Type 0
IsUnsent commands key = (command : SentCommand) → In command commands → command.key ≡ Some key → ⊥

-- the last command to the POIID was sent for the key
pub record IsLastSentFor (commands : List SentCommand) (poi : List ℕ) (key : Key) : Type 0 where
  pub command : SentCommand
  pub last : find (λ (one : SentCommand). bytes_eq one.numbering.poi poi) commands ≡ Some command
  pub key_is : command.key ≡ Some key

-- ---- replies

-- what is said is the Outcome of its key in the records, approved or not
pub record SaysOutcome (records : List Record) (said : Said) (approved : Bool) : Type 0 where
  pub at : ℕ
  pub outcome : TheOutcome
  pub intent : TheIntent
  pub found : slice_get records at ≡ Some (Outcome outcome)
  pub intent_is : intent_at records outcome.slot ≡ Some intent
  pub approved_is : outcome.approved ≡ approved
  pub key_is : said.key ≡ intent_key intent
  pub category_is : said.category ≡ deal_category intent.what

-- a success has the numbers and the amount of its key's approved Outcome
pub record SaysSuccess (records : List Record) (said : Said) : Type 0 where
  pub says : SaysOutcome records said true
  pub slot_is : slot_of records said.key ≡ Some says.outcome.slot
  pub transaction_is : said.transaction ≡ transaction_text says.outcome.number says.outcome.receipt says.outcome.slot
  pub amount_is : said.amount ≡ money_text says.outcome.amount

-- a reply that is sent with these records, while these keys wait, for this
abbrev pub sent_with : List Record → List Key → Occasion → SentReply
sent_with records waiting occasion = record { place = 0; bytes = []; occasion = occasion; kept = records; waiting = waiting }

-- what is said is true of the records and of the keys that wait, by what it is said for
pub record IsSaidTrue (records : List Record) (waiting : List Key) (occasion : Occasion) (said : Said) : Type 0 where
  pub success : (is_transaction said && is_success said) ≡ true → SaysSuccess records said
  pub refusal : (is_transaction said && (not (is_success said) && said.has_poi_data)) ≡ true → SaysOutcome records said false
  pub unaccepted : unaccepted_agrees no_past [] (sent_with records waiting occasion) said ≡ true
  pub not_found : not_found_agrees no_past [] (sent_with records waiting occasion) said ≡ true
  pub in_progress : in_progress_agrees no_past [] (sent_with records waiting occasion) said ≡ true

-- the message of the reply can be spelled, and its length fits its frame
pub record IsReplyWithin (reply : ReplyValue) : Type 0 where
  pub spellable : IsSpellable (reply_value_tree reply)
  pub small : length (canonical (reply_value_tree reply)) < 2 ^ 32

-- all that the reply says is true of the records and of the keys that wait
abbrev pub IsReplyTrue : List Record → List Key → Occasion → ReplyValue → Type 0
IsReplyTrue records waiting occasion reply = (said : Said) → In said (said_by_reply reply) → IsSaidTrue records waiting occasion said

-- the first records of these
abbrev pub IsFirstOf : List Record → List Record → Type 0
IsFirstOf first records = (more : List Record) × (records ≡ first ++ more)

-- the reply that was sent is true of the records with which it was sent, and so are their Outcomes
pub record IsSentTrue (commands : List SentCommand) (book : List BookedEntry) (reply : SentReply) : Type 0 where
  pub outcomes : AreOutcomesTrue commands book reply.place reply.kept
  pub says : (message : Tree) → IsFramed reply.bytes message → (said : Said) → In said (all_said message) → IsSaidTrue reply.kept reply.waiting reply.occasion said

-- ---- what is owed

-- the terminal of this number serves an Intent of the records for whose key no command was sent yet
pub record IsToBeAsked (records : List Record) (core : Core) (commands : List SentCommand) (number : ℕ) : Type 0 where
  pub terminal : Terminal
  pub found : slice_get core.terminals number ≡ Some terminal
  pub slot : ℕ
  pub last : ℕ
  pub standing_is : terminal.standing ≡ Serving (Transaction slot) last
  pub intent : TheIntent
  pub intent_is : intent_at records slot ≡ Some intent
  pub unsent : IsUnsent commands (intent_key intent)

-- and the Intent asks for this
abbrev pub IsToBeAskedFor : Deal → List Record → Core → List SentCommand → ℕ → Type 0
IsToBeAskedFor what records core commands number = (asked : IsToBeAsked records core commands number) × (asked.intent.what ≡ what)

-- a command that may charge a card is sent for the Intent of a payment, and one that reverses a charge for that of a reversal
abbrev pub IsCommandSound : List Record → Core → List SentCommand → ℕ → Command → Type 0
IsCommandSound records core commands number (command.Register password config_byte currency) = Unit {0}
IsCommandSound records core commands number (command.Authorise amount currency) = IsToBeAskedFor deals.Payment records core commands number
IsCommandSound records core commands number (command.Reverse password receipt) = IsToBeAskedFor deals.Reversal records core commands number
IsCommandSound records core commands number (command.EndOfDay password) = Unit {0}
IsCommandSound records core commands number (command.Enquire password) = Unit {0}
IsCommandSound records core commands number command.Stop = Unit {0}
IsCommandSound records core commands number (command.Show lines) = Unit {0}

abbrev pub IsSendingSound : List Record → Core → List SentCommand → ℕ → Sending → Type 0
IsSendingSound records core commands number (Ask asked) = IsCommandSound records core commands number asked
IsSendingSound records core commands number Acknowledge = Unit {0}
IsSendingSound records core commands number Refuse = Unit {0}

-- a reply that is owed can be spelled, and is true of the records, once they have what is owed before it, and of the keys that wait
pub record IsReplySound (records : List Record) (waiting : List Key) (occasion : Occasion) (reply : ReplyValue) : Type 0 where
  pub within : IsReplyWithin reply
  pub says : IsReplyTrue records waiting occasion reply

abbrev pub IsCallSound : List Record → Core → List SentCommand → Occasion → OwedCall → Type 0
IsCallSound records core commands occasion (SendTill till reply) = IsReplySound records (waiting_keys core) occasion reply
IsCallSound records core commands occasion (SendPt number sending) = IsSendingSound records core commands number sending
IsCallSound records core commands occasion (LinkPt number) = Unit {0}
IsCallSound records core commands occasion (WriteBody slot the_record) = Unit {0}
IsCallSound records core commands occasion (WriteGate slot the_record) = Unit {0}
IsCallSound records core commands occasion WriteFirstGate = Unit {0}
IsCallSound records core commands occasion Sync = Unit {0}
IsCallSound records core commands occasion (CutTill till) = Unit {0}
IsCallSound records core commands occasion (CutPt number) = Unit {0}

-- so is each call
abbrev pub AreCallsSound : List Record → Core → List SentCommand → Occasion → List OwedCall → Type 0
AreCallsSound records core commands occasion [] = Unit {0}
AreCallsSound records core commands occasion (call ∷ calls) = IsCallSound records core commands occasion call × AreCallsSound records core commands occasion calls

-- the command may charge a card
abbrev pub charges : Command → Bool
charges (command.Register password config_byte currency) = false
charges (command.Authorise amount currency) = true
charges (command.Reverse password receipt) = true
charges (command.EndOfDay password) = false
charges (command.Enquire password) = false
charges command.Stop = false
charges (command.Show lines) = false

abbrev pub sending_charges : Sending → Bool
sending_charges (Ask asked) = charges asked
sending_charges Acknowledge = false
sending_charges Refuse = false

-- the call sends the terminal of this number such a command
abbrev pub charges_terminal : ℕ → OwedCall → Bool
charges_terminal number (SendTill till reply) = false
charges_terminal number (SendPt pt sending) = (pt == number) && sending_charges sending
charges_terminal number (LinkPt pt) = false
charges_terminal number (WriteBody slot the_record) = false
charges_terminal number (WriteGate slot the_record) = false
charges_terminal number WriteFirstGate = false
charges_terminal number Sync = false
charges_terminal number (CutTill till) = false
charges_terminal number (CutPt pt) = false

-- such a call is owed
abbrev pub charge_owed : ℕ → List OwedCall → Bool
charge_owed number [] = false
charge_owed number (call ∷ calls) = charges_terminal number call || charge_owed number calls

-- the call writes the file, or sends a command that may charge a card
abbrev pub is_deed : OwedCall → Bool
is_deed (SendTill till reply) = false
is_deed (SendPt pt sending) = sending_charges sending
is_deed (LinkPt pt) = false
is_deed (WriteBody slot the_record) = true
is_deed (WriteGate slot the_record) = true
is_deed WriteFirstGate = true
is_deed Sync = false
is_deed (CutTill till) = false
is_deed (CutPt pt) = false

-- such a call is owed
abbrev pub deed_owed : List OwedCall → Bool
deed_owed [] = false
deed_owed (call ∷ calls) = is_deed call || deed_owed calls

-- ---- terminals

-- the last command to a terminal that serves an Intent was sent for its key
abbrev pub IsServingSound : List Record → List SentCommand → List ℕ → Standing → Type 0
IsServingSound records commands poi (Unlinked due) = Unit {0}
IsServingSound records commands poi Registering = Unit {0}
IsServingSound records commands poi Enquiring = Unit {0}
IsServingSound records commands poi (Ready last) = Unit {0}
IsServingSound records commands poi (Serving (Transaction slot) last) = (intent : TheIntent) → intent_at records slot ≡ Some intent → IsLastSentFor commands poi (intent_key intent)
IsServingSound records commands poi (Serving (EndOfDay header period) last) = Unit {0}
IsServingSound records commands poi (Serving (Display header outputs) last) = Unit {0}
IsServingSound records commands poi (Aside before reported) = Unit {0}

-- it is no header of a payment or a reversal
abbrev pub IsNoTransaction : Header → Type 0
IsNoTransaction header = (bytes_eq header.category (codes "Payment") || bytes_eq header.category (codes "Reversal")) ≡ false

-- the header of what is served beside payments and reversals lies within the limits of a reply, and is no other's
pub record IsHeaderBeside (header : Header) : Type 0 where
  pub within : IsHeaderWithinLimits header
  pub apart : IsNoTransaction header

-- what a reply to an end of day or a display has of it can be said
abbrev pub IsServiceRepliable : Service → Type 0
IsServiceRepliable (Transaction slot) = Unit {0}
IsServiceRepliable (EndOfDay header period) = IsHeaderBeside header
IsServiceRepliable (Display header results) = IsHeaderBeside header × IfSome results AreResultsWithinLimits

-- so it is of what a terminal of this standing serves
abbrev pub IsRepliable : Standing → Type 0
IsRepliable (Unlinked due) = Unit {0}
IsRepliable Registering = Unit {0}
IsRepliable Enquiring = Unit {0}
IsRepliable (Ready last) = Unit {0}
IsRepliable (Serving service last) = IsServiceRepliable service
IsRepliable (Aside before reported) = Unit {0}

-- so it is of each
abbrev pub AreRepliable : Core → Type 0
AreRepliable core = (number : ℕ) (terminal : Terminal) → slice_get core.terminals number ≡ Some terminal → IsRepliable terminal.standing

-- ---- links

-- the end is the report of an enquiry on this link
abbrev pub is_report_after : MadeLink → HeardEnd → Bool
is_report_after link end = is_report end.ending && (bytes_eq end.numbering.poi link.numbering.poi && nat_lt link.place end.place)

-- what was open as the link was made is resolved
abbrev pub IsResolvedOn : List Record → MadeLink → Type 0
IsResolvedOn records link = (slot : ℕ) → open_slot records link.numbering.poi ≡ Some slot → link.records ≤ slot

-- the link is that of a terminal
pub record IsOfTerminal (core : Core) (link : MadeLink) : Type 0 where
  pub number : ℕ
  pub terminal : Terminal
  pub found : slice_get core.terminals number ≡ Some terminal
  pub poi_is : terminal.pt.poi ≡ link.numbering.poi

-- the link is a terminal's, and after a report on it what was open as it was made is resolved, or its cut is owed
pub record IsLinkSound (records : List Record) (core : Core) (calls : List OwedCall) (past : Past) (link : MadeLink) : Type 0 where
  pub of_terminal : IsOfTerminal core link
  pub before : link.place < past.place
  pub records_before : link.records ≤ length records
  pub resolved : list_any (is_report_after link) past.ends ≡ true → (cut_owed of_terminal.number calls ≡ true) ⊎ IsResolvedOn records link

-- ---- items

-- the dialogue of a terminal takes an APDU
abbrev pub is_handle : RoundItem → Bool
is_handle (Crowded till) = false
is_handle (Message till bytes) = false
is_handle (Asked till as_read) = false
is_handle (Unframed till) = false
is_handle (Gone till) = false
is_handle (Greet number apdu) = false
is_handle (Handle number apdu) = true
is_handle (Serve number till header request) = false
is_handle (Queue number till header request) = false
is_handle (NextWaiting number) = false
is_handle (Oversized number) = false
is_handle (LinkLost number) = false
is_handle (Late number) = false
is_handle (Overdue key) = false
is_handle (Due number) = false

-- ---- along a course

-- what holds after moves of a lawful course
pub record Holds (v : View) (past : Past) (book : List BookedEntry) : Type 0 where
  pub heard : past.heard ≤ past.place
  pub ended : (end : HeardEnd) → In end past.ends → end.place ≤ past.heard
  pub commands : AreKeyed v.scene.kept past.place past.commands
  pub outcomes : AreOutcomesTrue past.commands book past.place (records_coming v)
  pub calls : AreCallsSound (records_coming v) v.scene.core past.commands past.occasion v.calls
  -- but of a terminal whose command is still owed, or its cut
  pub serving : is_broken v.scene.stage ≡ false → (number : ℕ) (terminal : Terminal) → slice_get v.scene.core.terminals number ≡ Some terminal
      → charge_owed number v.calls ≡ false → cut_owed number v.calls ≡ false → IsServingSound (records_coming v) past.commands terminal.pt.poi terminal.standing
  pub repliable : AreRepliable v.scene.core
  pub dialogues : is_broken v.scene.stage ≡ false → (number : ℕ) (terminal : Terminal) → slice_get v.scene.core.terminals number ≡ Some terminal → cut_owed number v.calls ≡ false → HasItsDialogue terminal
  pub inside : is_round v.scene.stage ≡ true → deed_owed v.calls ≡ true → is_inside past.occasion ≡ true
  pub deeds : list_all is_inside past.deeds ≡ true
  pub polled : (poll : MadePoll) → In poll past.polls → poll.place < past.place
  pub handled : list_any is_handle v.items ≡ true → (poll : MadePoll) → In poll past.polls → poll.place < past.heard
  pub links : is_broken v.scene.stage ≡ false → (link : MadeLink) → In link past.lasting → IsLinkSound (records_coming v) v.scene.core v.calls past link
  pub polls : list_all (λ (poll : MadePoll). list_all (report_resolves past poll) poll.links) past.polls ≡ true
  pub replies : (reply : SentReply) → In reply past.replies → IsSentTrue past.commands book reply
  -- what was kept then is kept still
  pub replied : (reply : SentReply) → In reply past.replies → IsFirstOf reply.kept v.scene.kept
  pub kept_polled : (poll : MadePoll) → In poll past.polls → IsFirstOf poll.kept v.scene.kept

-- ---- between items

-- the link is a terminal's, and after a report on it what was open as it was made is resolved
pub record IsLinkAtRest (records : List Record) (core : Core) (past : Past) (link : MadeLink) : Type 0 where
  pub of_terminal : IsOfTerminal core link
  pub before : link.place < past.place
  pub records_before : link.records ≤ length records
  pub resolved : list_any (is_report_after link) past.ends ≡ true → IsResolvedOn records link

-- what holds where no call is owed: what an item begins with
pub record HoldsBetween (known : Known) (past : Past) (book : List BookedEntry) : Type 0 where
  pub in_order : IsInOrder known
  pub heard : past.heard ≤ past.place
  pub ended : (end : HeardEnd) → In end past.ends → end.place ≤ past.heard
  pub commands : AreKeyed known.kept past.place past.commands
  pub outcomes : AreOutcomesTrue past.commands book past.place known.kept
  pub serving : (number : ℕ) (terminal : Terminal) → slice_get known.core.terminals number ≡ Some terminal → IsServingSound known.kept past.commands terminal.pt.poi terminal.standing
  pub repliable : AreRepliable known.core
  pub dialogues : AllHaveDialogues known.core
  pub links : (link : MadeLink) → In link past.lasting → IsLinkAtRest known.kept known.core past link
  pub waits : AreWaitsInOrder known

-- the records once the row's calls are made
abbrev pub records_after : Known → Row → List Record
records_after known row = known.kept ++ records_kept row.calls

-- what a row leaves, with the past as its item has begun
pub record HoldsAfterRow (known : Known) (past : Past) (book : List BookedEntry) (row : Row) : Type 0 where
  pub outcomes : AreOutcomesTrue past.commands book past.place (records_after known row)
  pub calls : AreCallsSound (records_after known row) row.core past.commands past.occasion row.calls
  pub serving : (number : ℕ) (terminal : Terminal) → slice_get row.core.terminals number ≡ Some terminal
      → charge_owed number row.calls ≡ false → cut_owed number row.calls ≡ false → IsServingSound (records_after known row) past.commands terminal.pt.poi terminal.standing
  pub repliable : AreRepliable row.core
  pub inside : deed_owed row.calls ≡ true → is_inside past.occasion ≡ true
  pub handles_none : list_any is_handle row.items ≡ false
  pub links : (link : MadeLink) → In link past.lasting → IsLinkSound (records_after known row) row.core row.calls past link

-- the past once an item has begun
abbrev pub begun_past : Scene → Past → RoundItem → Past
begun_past scene past item = record past { occasion = occasion_of scene.core item; ends = ends_of scene past (occasion_of scene.core item) ++ past.ends }

-- ---- the steps

-- each move keeps what holds
abbrev pub ReadHolds : Type 0
ReadHolds = (log : List Turn) (v : View) (past : Past) (book : List BookedEntry) (as_read : ReadAs) → Ordered log v → IsRead v as_read → Holds v past book → Holds (after v (Read as_read)) (past_after v past (Read as_read)) book

abbrev pub TurnHolds : Turn → Type 0
TurnHolds turn = (log : List Turn) (v : View) (past : Past) (book : List BookedEntry) → Ordered log v → AllowedTurn v turn → Holds v past book → Holds (after v (Make turn)) (past_after v past (Make turn)) book

-- a book that is honest for a past is honest for the past before the last move
abbrev pub HonestBefore : Type 0
HonestBefore = (v : View) (past : Past) (move : Move) (book : List BookedEntry) → Honest (past_after v past move) book → Honest past book

-- what holds gives agreement
abbrev pub HoldsAgrees : Type 0
HoldsAgrees = (v : View) (past : Past) (book : List BookedEntry) → AreFolded v.scene.kept → Holds v past book → Honest past book → Agrees past book
