-- The table of a played terminal: what it does at one whole request, by its play and by its book before.
use Rattle.std.specs.Prelude.{ℕ, List, [], ◌∷◌, ◌++◌, Option, None, Some, Bool, true, false, ◌||◌, ◌==◌, if◌then◌else◌}
use Rattle.zvt_apdu.specs.Grammar.{ApduValue}
use Rattle.zvt_bmp.specs.declared.fields.Fields.{Fields}
use Rattle.zvt_msg.specs.declared.command.Command.{Command}
use Rattle.zvt_msg.specs.declared.command.Command.TheVariants as command
use Rattle.zvt_msg.specs.CommandDecode.{decode_command}
use Rattle.zvt_msg.specs.Message.{MessageValue}
use Rattle.zvt_msg.specs.MessageCanonical.{canonical_pt_message}
use Rattle.pt_core.specs.declared.book.BookEntry.{BookEntry}
use Rattle.pt_core.specs.declared.play.Play.{Play}
use Rattle.pt_core.specs.declared.play.Play.TheVariants as play
use Rattle.pt_core.specs.declared.reaction.Reaction.{Reaction}
use Rattle.pt_core.specs.declared.reaction.Reaction.TheVariants as reaction
use Rattle.pt_core.specs.Book.{fits_status, is_full, next_entry, last_book_entry, last_payment}

-- ---- what a terminal does at a request

-- a payment, by the play that is used up at it
abbrev pub payment : Play → List BookEntry → ℕ → Reaction
payment play.Approve book amount = reaction.Approved (next_entry book amount false)
payment (play.Decline result_code) book amount = reaction.Aborted result_code
payment play.CutAfterBook book amount = reaction.Booked (next_entry book amount false)
payment play.DropAtOnce book amount = reaction.Dropped

-- a reversal, by the payment that has its receipt number
abbrev pub reversal : Option BookEntry → List BookEntry → Reaction
reversal None book = reaction.Aborted 0xB4
reversal (Some paid) book = reaction.Approved (next_entry book paid.amount true)

-- the last entry is reported, or that there is none
abbrev pub enquiry : ℕ → Option BookEntry → Reaction
enquiry none None = reaction.Aborted none
enquiry none (Some entry) = reaction.Reported entry

-- a command
abbrev pub at_command : ℕ → Play → List BookEntry → Command → Reaction
at_command none play book (command.Register password config currency) = reaction.Completed
at_command none play book (command.Authorise amount currency) = if is_full book then reaction.Aborted 0x83 else payment play book amount
at_command none play book (command.Enquire password) = enquiry none (last_book_entry book)
at_command none play book (command.Reverse password receipt) = if is_full book then reaction.Aborted 0x83 else reversal (last_payment receipt book) book
at_command none play book (command.EndOfDay password) = reaction.Completed
at_command none play book command.Stop = reaction.Silent
at_command none play book (command.Show display_lines) = reaction.Acknowledged

-- an APDU that spells no command: an acknowledgement or a refusal by the till, or a command that isn't known
abbrev pub at_other : ℕ → Reaction
at_other class = if (class == 0x80) || (class == 0x84) then reaction.Silent else reaction.Refused

-- by the command that an APDU of this class spells, if it spells one
abbrev pub by_command : ℕ → Play → List BookEntry → ℕ → Option Command → Reaction
by_command none play book class None = at_other class
by_command none play book class (Some command) = at_command none play book command

-- what a terminal does at an APDU: `none` is the result code by which it says that it has no transaction
abbrev pub reaction_at : ℕ → Play → List BookEntry → ApduValue → Reaction
reaction_at none play book apdu = by_command none play book apdu.class (decode_command apdu)

-- ---- what that means

-- the status of an entry
abbrev pub status_of_entry : BookEntry → Fields
status_of_entry entry = record {
  result = Some 0;
  amount = Some entry.amount;
  trace = Some entry.number;
  receipt = Some entry.receipt;
  currency = None;
  tail = 0;
}

-- the messages that are sent, in order
abbrev pub messages_of : Reaction → List MessageValue
messages_of reaction.Silent = []
messages_of reaction.Acknowledged = MessageValue.Ack ∷ []
messages_of reaction.Refused = MessageValue.Nack 0x83 ∷ []
messages_of reaction.Completed = MessageValue.Ack ∷ MessageValue.Completion ∷ []
messages_of (reaction.Approved entry) = MessageValue.Ack ∷ MessageValue.Status (status_of_entry entry) ∷ MessageValue.Completion ∷ []
messages_of (reaction.Reported entry) = MessageValue.Ack ∷ MessageValue.Status (status_of_entry entry) ∷ MessageValue.Completion ∷ []
messages_of (reaction.Aborted result_code) = MessageValue.Ack ∷ MessageValue.Abort (Some result_code) ∷ []
messages_of (reaction.Booked entry) = MessageValue.Ack ∷ []
messages_of reaction.Dropped = []

-- the bytes of messages, one after another
abbrev pub all_canonical : List MessageValue → List ℕ
all_canonical [] = []
all_canonical (message ∷ messages) = canonical_pt_message message ++ all_canonical messages

-- the bytes that are sent
abbrev pub bytes_of : Reaction → List ℕ
bytes_of reaction = all_canonical (messages_of reaction)

-- the entries that are booked: one or none
abbrev pub entries_of : Reaction → List BookEntry
entries_of reaction.Silent = []
entries_of reaction.Acknowledged = []
entries_of reaction.Refused = []
entries_of reaction.Completed = []
entries_of (reaction.Approved entry) = entry ∷ []
entries_of (reaction.Reported entry) = []
entries_of (reaction.Aborted result_code) = []
entries_of (reaction.Booked entry) = entry ∷ []
entries_of reaction.Dropped = []

-- Inner: an entry that is reported fits a status
abbrev pub reported_fits : Reaction → Bool
reported_fits reaction.Silent = true
reported_fits reaction.Acknowledged = true
reported_fits reaction.Refused = true
reported_fits reaction.Completed = true
reported_fits (reaction.Approved entry) = fits_status entry
reported_fits (reaction.Reported entry) = fits_status entry
reported_fits (reaction.Aborted result_code) = true
reported_fits (reaction.Booked entry) = true
reported_fits reaction.Dropped = true

-- the connection is cut after them
abbrev pub cuts : Reaction → Bool
cuts reaction.Silent = false
cuts reaction.Acknowledged = false
cuts reaction.Refused = false
cuts reaction.Completed = false
cuts (reaction.Approved entry) = false
cuts (reaction.Reported entry) = false
cuts (reaction.Aborted result_code) = false
cuts (reaction.Booked entry) = true
cuts reaction.Dropped = true

-- ---- plays

-- a command that uses up a play
abbrev pub is_authorisation : Option Command → Bool
is_authorisation None = false
is_authorisation (Some (command.Register password config currency)) = false
is_authorisation (Some (command.Authorise amount currency)) = true
is_authorisation (Some (command.Enquire password)) = false
is_authorisation (Some (command.Reverse password receipt)) = false
is_authorisation (Some (command.EndOfDay password)) = false
is_authorisation (Some command.Stop) = false
is_authorisation (Some (command.Show display_lines)) = false
