-- Examples of a played terminal: what it keeps and sends, what the gateway hears of it, and its last trace number.
use Rattle.std.specs.Prelude.{◌≡◌, ℕ, pos, List, [], ◌∷◌, ◌++◌, length, drop, replicate, None, Some, true, false}
use Rattle.gw_base.specs.declared.figures.Figures.{Figures}
use Rattle.gw_bytes.specs.Bytes.{IsPrefix}
use Rattle.zvt_apdu.specs.Grammar.{ApduValue}
use Rattle.zvt_bmp.specs.declared.fields.Fields.{Fields}
use Rattle.zvt_msg.specs.declared.command.Command.TheVariants as command
use Rattle.zvt_msg.specs.CommandDecode.{decode_command}
use Rattle.zvt_msg.specs.Message.{MessageValue, Ack, Status, Completion, Abort}
use Rattle.zvt_talk.specs.declared.dialogue_kind.DialogueKind.TheVariants.{Payment}
use Rattle.zvt_talk.specs.declared.meaning.Heard.{Heard}
use Rattle.zvt_talk.specs.declared.meaning.Heard.TheVariants as heard
use Rattle.zvt_talk.specs.Dialogue.{Dialogue, dialogue_kind_of}
use Rattle.zvt_talk.specs.Came.{Came, Message, messages}
use Rattle.zvt_talk.specs.Talk.{end_of}
use Rattle.pt_core.specs.declared.book.BookEntry.{BookEntry}
use Rattle.pt_core.specs.declared.play.Play.TheVariants as play
use Rattle.pt_core.specs.declared.reaction.Reaction.TheVariants as reaction
use Rattle.pt_core.specs.Book.{last_trace}
use Rattle.pt_core.specs.Table.{at_command, entries_of, messages_of}
use Rattle.pt_core.specs.Ends.{IsTrueEnd}
use Rattle.pt_core.specs.History.{Setting, Met, NewLink, Chunk, sent_on_link, book_after, book_of, has_cut, reaction_after, requests, terminal_after}
use Rattle.pt_core.specs.Honest.{AreEntriesNumbered}
use Rattle.pt_core.specs.Exchange.{Exchange, Links, Sends, Hears, AreOnOneLink, BringsEnd, CompletesTwo, HearsSent, heard_on_link, met_of, placed_book, sent_first}

-- a terminal that approves one payment, declines one, and cuts the connection at one after it has booked it
abbrev pub played_setting : Setting
played_setting = record { none = 0x83; plays = play.Approve ∷ play.Decline 0x6C ∷ play.CutAfterBook ∷ [] }

-- a payment of 10.99 euros, in two parts
abbrev pub payment_begin : List ℕ
payment_begin = 0x06 ∷ 0x01 ∷ 0x0A ∷ 0x04 ∷ 0x00 ∷ 0x00 ∷ 0x00 ∷ 0x00 ∷ 0x10 ∷ 0x99 ∷ []

abbrev pub payment_rest : List ℕ
payment_rest = 0x49 ∷ 0x09 ∷ 0x78 ∷ []

-- the whole payment
abbrev pub payment_bytes : List ℕ
payment_bytes = payment_begin ++ payment_rest

-- the payment as an APDU
abbrev pub payment_apdu : ApduValue
payment_apdu = record { class = 0x06; instr = 0x01; body = 0x04 ∷ 0x00 ∷ 0x00 ∷ 0x00 ∷ 0x00 ∷ 0x10 ∷ 0x99 ∷ 0x49 ∷ 0x09 ∷ 0x78 ∷ [] }

-- a reversal of receipt number 1, and one of 9999, which no payment has
abbrev pub known_reversal : List ℕ
known_reversal = 0x06 ∷ 0x30 ∷ 0x06 ∷ 0x00 ∷ 0x00 ∷ 0x00 ∷ 0x87 ∷ 0x00 ∷ 0x01 ∷ []

abbrev pub unknown_reversal : List ℕ
unknown_reversal = 0x06 ∷ 0x30 ∷ 0x06 ∷ 0x00 ∷ 0x00 ∷ 0x00 ∷ 0x87 ∷ 0x99 ∷ 0x99 ∷ []

-- what is sent for the payment: an acknowledgement, and then its status and a completion
abbrev pub acknowledgement : List ℕ
acknowledgement = 0x80 ∷ 0x00 ∷ 0x00 ∷ []

abbrev pub approval : List ℕ
approval = 0x04 ∷ 0x0F ∷ 0x10 ∷ 0x27 ∷ 0x00 ∷ 0x04 ∷ 0x00 ∷ 0x00 ∷ 0x00 ∷ 0x00 ∷ 0x10 ∷ 0x99 ∷ 0x0B ∷ 0x00 ∷ 0x00 ∷ 0x01 ∷ 0x87 ∷ 0x00 ∷ 0x01 ∷ 0x06 ∷ 0x0F ∷ 0x00 ∷ []

-- what is sent for a payment that is declined: an acknowledgement and an abort
abbrev pub refusal : List ℕ
refusal = acknowledgement ++ 0x06 ∷ 0x1E ∷ 0x01 ∷ 0x6C ∷ []

-- the entry of the payment, which has this trace number
abbrev pub payment_entry : ℕ → BookEntry
payment_entry trace = record { number = trace; receipt = trace; amount = 1099; reversal = false; approved = true }

-- ---- what a terminal keeps

-- A part of a payment waits, and books nothing; the whole payment is booked and reported; the second one is declined, and
-- at the third the connection is cut, with its entry in the book. A part that waits is dropped at a new link.
pub record ExampleMet : Type 0 where
  pub part : terminal_after played_setting (Chunk payment_begin ∷ [])
      ≡ record { account = record { none = 0x83; plays = play.Approve ∷ play.Decline 0x6C ∷ play.CutAfterBook ∷ []; book = [] }; connection = Some payment_begin }
  pub whole : terminal_after played_setting (Chunk payment_rest ∷ Chunk payment_begin ∷ [])
      ≡ record { account = record { none = 0x83; plays = play.Decline 0x6C ∷ play.CutAfterBook ∷ []; book = payment_entry 1 ∷ [] }; connection = Some [] }
  pub sent_bytes : sent_on_link played_setting (Chunk payment_rest ∷ Chunk payment_begin ∷ []) ≡ acknowledgement ++ approval
  pub three : terminal_after played_setting (Chunk payment_bytes ∷ Chunk payment_bytes ∷ Chunk payment_bytes ∷ [])
      ≡ record { account = record { none = 0x83; plays = []; book = payment_entry 1 ∷ payment_entry 2 ∷ [] }; connection = None }
  pub cut : has_cut played_setting (Chunk payment_bytes ∷ Chunk payment_bytes ∷ Chunk payment_bytes ∷ []) ≡ true
  pub new_link : terminal_after played_setting (Chunk payment_rest ∷ NewLink ∷ Chunk payment_begin ∷ [])
      ≡ record { account = record { none = 0x83; plays = play.Approve ∷ play.Decline 0x6C ∷ play.CutAfterBook ∷ []; book = [] }; connection = Some payment_rest }

-- ---- the book

-- A payment is reversed by its receipt number; a reversal of an unknown receipt number books nothing, and is refused.
pub record ExampleBook : Type 0 where
  pub reversed : book_after played_setting (Chunk known_reversal ∷ Chunk payment_bytes ∷ []) ≡ payment_entry 1 ∷ record (payment_entry 2) { reversal = true } ∷ []
  pub numbers : AreEntriesNumbered 1 (book_after played_setting (Chunk known_reversal ∷ Chunk payment_bytes ∷ []))
  pub unknown : book_after played_setting (Chunk unknown_reversal ∷ []) ≡ []
  pub refused : sent_on_link played_setting (Chunk unknown_reversal ∷ []) ≡ acknowledgement ++ 0x06 ∷ 0x1E ∷ 0x01 ∷ 0xB4 ∷ []

-- a book of so many entries
unfoldable pub long_book : ℕ → List BookEntry
long_book count = replicate count (payment_entry 1)

-- The entry after 999,998 others has the last trace number; after 999,999 a payment and a reversal are refused.
pub record ExampleLastTrace : Type 0 where
  pub many : length (long_book 999998) ≡ 999998
  pub last : at_command 0x83 play.Approve (long_book 999998) (command.Authorise 1099 978)
      ≡ reaction.Approved (record { number = 999999; receipt = 9999; amount = 1099; reversal = false; approved = true })
  pub full : length (long_book 999999) ≡ last_trace
  pub payment : at_command 0x83 play.Approve (long_book 999999) (command.Authorise 1099 978) ≡ reaction.Aborted 0x83
  pub reversal : at_command 0x83 play.Approve (long_book 999999) (command.Reverse (0 ∷ 0 ∷ 0 ∷ []) 1) ≡ reaction.Aborted 0x83

-- ---- what is heard

-- the dialogue of a payment
abbrev pub played_dialogue : Dialogue
played_dialogue = record { dialogue_kind = Payment; none = 0x83; acknowledge_time = 5; command_time = 180; sent = pos 0 }

-- what came in it where it is approved, and where it is declined
abbrev pub approved_came : List Came
approved_came = Message Ack (pos 1) ∷ Message (Status (record { result = Some 0; amount = Some 1099; trace = Some 1; receipt = Some 1; currency = None; tail = 16 })) (pos 2) ∷ Message Completion (pos 2) ∷ []

abbrev pub declined_payment_came : List Came
declined_payment_came = Message Ack (pos 1) ∷ Message (Abort (Some 0x6C)) (pos 2) ∷ []

-- A second payment is declined, which is true of the book: it books nothing.
pub record ExampleEnd : Type 0 where
  pub spells : decode_command payment_apdu ≡ Some (command.Authorise 1099 978)
  pub begins : dialogue_kind_of (command.Authorise 1099 978) ≡ Some played_dialogue.dialogue_kind
  pub sent_first : IsPrefix (messages declined_payment_came) (messages_of (reaction_after played_setting (payment_apdu ∷ []) payment_apdu))
  pub ends : end_of played_dialogue declined_payment_came ≡ Some (heard.Declined 0x6C None)
  pub true_end : IsTrueEnd (book_of played_setting (payment_apdu ∷ [])) (entries_of (reaction_after played_setting (payment_apdu ∷ []) payment_apdu)) (heard.Declined 0x6C None)

-- the gateway links, sends a payment in two parts, and hears the acknowledgement
abbrev pub acknowledged_exchanges : List Exchange
acknowledged_exchanges = Hears acknowledgement ∷ Sends payment_rest ∷ Sends payment_begin ∷ Links ∷ []

-- and then the approval
abbrev pub approved_exchanges : List Exchange
approved_exchanges = Hears approval ∷ acknowledged_exchanges

-- What was heard is a prefix of what was sent, and at the end the whole of it; the entry has its place right after the
-- sending of the second part; and the last hearing brings the end of the payment, with the figures of its entry.
pub record ExampleHearing : Type 0 where
  pub hears : HearsSent played_setting approved_exchanges
  pub all_heard : heard_on_link approved_exchanges ≡ sent_on_link played_setting (met_of approved_exchanges)
  pub places : placed_book played_setting approved_exchanges ≡ record { cause = 2; place = 3; entry = payment_entry 1 } ∷ []
  pub brings : BringsEnd played_setting approved_exchanges [] payment_apdu (heard.Approved (record { number = 1; receipt = 1; amount = 1099 })) acknowledged_exchanges

-- then the gateway sends the second payment at once, and hears that it is declined
abbrev pub later_exchanges : List Exchange
later_exchanges = Hears refusal ∷ Sends payment_bytes ∷ []

-- All that was sent had been heard before the second payment was sent: what is heard after what was sent for the first
-- one is what is heard since.
pub record ExampleSince : Type 0 where
  pub one_link : AreOnOneLink later_exchanges
  pub all_heard : heard_on_link approved_exchanges ≡ sent_on_link played_setting (met_of approved_exchanges)
  pub since : drop (length (sent_first played_setting (later_exchanges ++ approved_exchanges) (requests (met_of approved_exchanges))))
      (heard_on_link (later_exchanges ++ approved_exchanges)) ≡ refusal

-- the gateway links, and sends two commands at once, a payment and its reversal
abbrev pub double_exchanges : List Exchange
double_exchanges = Sends (payment_bytes ++ known_reversal) ∷ Links ∷ []

-- One sending completes both, and is the cause of both entries.
pub record ExampleSharedCause : Type 0 where
  pub places : placed_book played_setting double_exchanges
      ≡ record { cause = 1; place = 2; entry = payment_entry 1 } ∷ record { cause = 1; place = 2; entry = record (payment_entry 2) { reversal = true } } ∷ []
  pub completes : CompletesTwo played_setting double_exchanges 1
