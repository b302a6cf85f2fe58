-- Closed examples of what doesn't agree with an honest book, and of books that aren't honest.
use Rattle.std.specs.List.{list_all}
use Rattle.std.specs.Prelude.{◌≡◌, pos, true, false, take, List, [], ◌∷◌, ◌++◌, map, Some, None, codes}
use Rattle.gw_base.specs.declared.key.Key.{Key}
use Rattle.gw_base.specs.declared.condition.Condition.TheVariants.{InProgress, NotAllowed, NotFound, UnavailableDevice}
use Rattle.gw_base.specs.declared.currency.Currency.TheVariants.{Eur}
use Rattle.gw_site.specs.declared.turn.Turn.TheVariants.{Start, Polled, HeardTill, HeardPt, Lost, Linked, SentPt, SentTill, CutPt, Wrote, Crash}
use Rattle.json_text.specs.declared.fault.FaultKind.TheVariants.{NotJson}
use Rattle.sale_frame.specs.Grammar.{frame}
use Rattle.sale_values.specs.declared.header.Header.{Header}
use Rattle.sale_values.specs.declared.request.SaleRequest.{SaleRequest}
use Rattle.sale_values.specs.declared.request.SaleRequest.TheVariants as requests
use Rattle.sale_reply.specs.declared.reply.Told.TheVariants.{PaymentApproved}
use Rattle.gw_owes.specs.ReadAs.{Request, NoJson}
use Rattle.gw_owes.specs.Reply.{ReplyValue, Repeated, reply_value_bytes}
use Rattle.gw_owes.specs.Replies.{header_of_reply, failure_reply}
use Rattle.gw_owes.specs.TerminalExample.{ack, abort, completion, enquiry_sent}
use Rattle.gw_rules.specs.RowExample.{register_bytes, terminal_setup}
use Rattle.gw_rules.specs.TerminalLogExample.{items_begin}
use Rattle.gw_rules.specs.View.{Move, Begin, Read, Make}
use Rattle.gw_books.specs.Kinds.{BookedRefund, BookedReversal}
use Rattle.gw_books.specs.Agrees.{are_distinct_keys, entry_key, EachSaid, success_agrees, unaccepted_agrees, in_progress_agrees, report_resolves}
use Rattle.gw_books.specs.Books.{BookedEntry, Honest}
use Rattle.gw_books.specs.BrokenLaws.{BreaksAgreement}
use Rattle.gw_books.specs.Example.{opened_moves, payment_key, payment_occasion, refused_past, asked_past, paying_header, payment_ask, authorise, asked_course, first_numbering, first_link, approved_mark, paid_result_body, paid_course, paid_reply, refusal_reply, paid_past, paid_entry, entry_in_time, older_entry, paid_figures}
use Rattle.gw_books.specs.Past.{Numbering, Ending, Declined, Reported, SentReply, MadePoll, Past, past_of}
use Rattle.gw_books.specs.ReversalExample.{misasked_course}
use Rattle.gw_books.specs.SaidLaws.{said_by_reply}
use Rattle.book_examples.specs.Example.{progress_reply, later_entry}

-- ---- commands and entries

-- the command is sent twice
abbrev pub twice_course : List Move
twice_course = asked_course ++ Make (SentPt 0 authorise true) ∷ []

-- that breaks agreement before anything is booked
abbrev pub TwiceDisagrees : Type 0
TwiceDisagrees = BreaksAgreement twice_course []

-- the entries of both commands
abbrev pub twice_booked : List BookedEntry
twice_booked = paid_entry ∷ record paid_entry { place = 25; cause = Some 23; number = 124 } ∷ []

-- they have one key
pub record EntriesOfOneKey : Type 0 where
  pub breaks : BreaksAgreement twice_course twice_booked
  pub one_key : are_distinct_keys (map (entry_key (past_of twice_course)) twice_booked) ≡ false

-- a command is sent while no Intent of its POIID is open
abbrev pub KeylessDisagrees : Type 0
KeylessDisagrees = BreaksAgreement (opened_moves ++ Make (SentPt 0 authorise true) ∷ []) []

-- after the command the till is sent this reply, at place 23
abbrev pub course_sent : ReplyValue → List Move
course_sent reply = asked_course ++ Make (SentTill 1 (reply_value_bytes reply) true) ∷ []

-- the numbering of another terminal
abbrev pub other_numbering : Numbering
other_numbering = record { poi = codes "T2" }

-- a success has no entry, one of another terminal that is older than the log, one that comes after the reply, one that is declined, one of another amount, or one with another receipt number
pub record UnbookedDisagrees : Type 0 where
  pub none : BreaksAgreement (course_sent paid_reply) []
  pub older : BreaksAgreement (course_sent paid_reply) (record paid_entry { numbering = other_numbering; place = 0; cause = None } ∷ [])
  pub later : BreaksAgreement (course_sent paid_reply) (paid_entry ∷ [])
  pub declined : BreaksAgreement (course_sent paid_reply) (record entry_in_time { approved = false } ∷ [])
  pub amount : BreaksAgreement (course_sent paid_reply) (record entry_in_time { amount = 1000 } ∷ [])
  pub receipt : BreaksAgreement (course_sent paid_reply) (record entry_in_time { receipt = 18 } ∷ [])

-- the command of a refusal is approved after the log's end
abbrev pub LaterEntryDisagrees : Type 0
LaterEntryDisagrees = BreaksAgreement (course_sent refusal_reply) (later_entry ∷ [])

-- ---- replies

-- after the payment a till asks this, and gets this reply
abbrev pub course_replied : Header → SaleRequest → ReplyValue → List Move
course_replied header request reply = paid_course ++ Make (HeardTill 1 (frame (0 ∷ []))) ∷ Read (Request header request) ∷ Begin ∷ Make (SentTill 1 (reply_value_bytes reply) true) ∷ []

-- a key that has its Outcome is in progress
abbrev pub ProgressDisagrees : Type 0
ProgressDisagrees = BreaksAgreement (course_replied paying_header (requests.Payment payment_ask) (failure_reply paying_header InProgress)) (paid_entry ∷ [])

-- a key that was accepted is not accepted
abbrev pub UnacceptedDisagrees : Type 0
UnacceptedDisagrees = BreaksAgreement (course_replied paying_header (requests.Payment payment_ask) (failure_reply paying_header UnavailableDevice)) (paid_entry ∷ [])

-- it isn't allowed with the content that was accepted
abbrev pub SameContentDisagrees : Type 0
SameContentDisagrees = BreaksAgreement (course_replied paying_header (requests.Payment payment_ask) (failure_reply paying_header NotAllowed)) (paid_entry ∷ [])

-- with another amount it may be
abbrev pub OtherContentAgrees : Type 0
OtherContentAgrees = EachSaid unaccepted_agrees (past_of (course_replied paying_header (requests.Payment (record payment_ask { amount = 500 })) (failure_reply paying_header NotAllowed))) (paid_entry ∷ [])

-- the header of another payment of the same till at the same terminal
abbrev pub other_paying_header : Header
other_paying_header = record paying_header { service = Some (codes "8") }

-- the header of a status of the same till at the same terminal
abbrev pub status_asking_header : Header
status_asking_header = record paying_header { category = codes "TransactionStatus"; service = Some (codes "8") }

-- the header of a status that has the key of the payment
abbrev pub own_status_header : Header
own_status_header = record paying_header { category = codes "TransactionStatus" }

-- a payment that was accepted is not found, where it is named, and where the last one is asked for
pub record NotFoundDisagrees : Type 0 where
  pub named : BreaksAgreement (course_replied status_asking_header (requests.Status (Some (record { service = codes "7"; sale = None; poi = None }))) (failure_reply status_asking_header NotFound)) (paid_entry ∷ [])
  pub last : BreaksAgreement (course_replied status_asking_header (requests.Status None) (failure_reply status_asking_header NotFound)) (paid_entry ∷ [])

-- the key of a payment isn't allowed as another payment has another amount, and isn't found as a status asks for another key
pub record OtherKeyDisagrees : Type 0 where
  pub not_allowed : BreaksAgreement (course_replied other_paying_header (requests.Payment (record payment_ask { amount = 500 })) (failure_reply paying_header NotAllowed)) (paid_entry ∷ [])
  pub not_found : BreaksAgreement (course_replied status_asking_header (requests.Status (Some (record { service = codes "9"; sale = None; poi = None }))) (failure_reply own_status_header NotFound)) (paid_entry ∷ [])

-- a status repeats the reply of the payment
abbrev pub RepeatAgrees : Type 0
RepeatAgrees = EachSaid success_agrees (past_of (course_replied status_asking_header (requests.Status None) (Repeated (header_of_reply status_asking_header) (header_of_reply paying_header) paid_result_body))) (paid_entry ∷ [])

-- it repeats one with another receipt number
abbrev pub OtherRepeatDisagrees : Type 0
OtherRepeatDisagrees = BreaksAgreement (course_replied status_asking_header (requests.Status None) (Repeated (header_of_reply status_asking_header) (header_of_reply paying_header) (PaymentApproved (codes "X1") (codes "2026-11-27T12:00:00Z") (record approved_mark { receipt = 18 }) 1099 (record { minor = 1099; currency = Eur })))) (paid_entry ∷ [])

-- a reply that says of the key of the payment, with nothing kept, that it is in progress
abbrev pub waiting_reply : List Key → SentReply
waiting_reply waiting = record { place = 20; bytes = reply_value_bytes progress_reply; occasion = payment_occasion; kept = []; waiting = waiting }

-- it may where the key waits, or is that of an end of day that is served, and not where it doesn't
pub record WaitingIsInProgress : Type 0 where
  pub waits : list_all (in_progress_agrees asked_past [] (waiting_reply (payment_key ∷ []))) (said_by_reply progress_reply) ≡ true
  pub waits_not : list_all (in_progress_agrees asked_past [] (waiting_reply [])) (said_by_reply progress_reply) ≡ false

-- ---- outside input, and enquiries

-- the file is written for bytes that are no JSON
abbrev pub OutsideDisagrees : Type 0
OutsideDisagrees = BreaksAgreement (paid_course ++ Make (HeardTill 1 (frame (0 ∷ []))) ∷ Read (NoJson (record { at = 0; kind = NotJson })) ∷ Begin ∷ Make (Wrote 513 (0 ∷ [])) ∷ []) (paid_entry ∷ [])

-- the link is lost and made again
abbrev pub relinked_moves : List Move
relinked_moves = Make (Polled (pos 5)) ∷ Make (Lost 0) ∷ (items_begin 3 ++ Make (Polled (pos 10)) ∷ (items_begin 2 ++ Make (Linked 0) ∷ Make (SentPt 0 register_bytes true) ∷ []))

-- its enquiry reports that there is no last transaction; the Outcome that is owed then isn't kept, and the key is open at the next poll
abbrev pub unresolved_course : List Move
unresolved_course = asked_course ++ relinked_moves ++ Make (Polled (pos 11)) ∷ Make (HeardPt 0 (ack ++ completion)) ∷ (items_begin 4 ++ Make (SentPt 0 ack true) ∷ Begin ∷ Make (SentPt 0 enquiry_sent true) ∷ (items_begin 3
    ++ Make (Polled (pos 12)) ∷ Make (HeardPt 0 (ack ++ abort 0x64)) ∷ (items_begin 4 ++ Make (SentPt 0 ack true) ∷ Begin ∷ Make (Polled (pos 13)) ∷ [])))

-- that doesn't agree
abbrev pub UnresolvedDisagrees : Type 0
UnresolvedDisagrees = BreaksAgreement unresolved_course []

-- at each poll along the course, what was open before a link with a report is resolved
abbrev pub AllResolved : List Move → Type 0
AllResolved course = list_all (λ (poll : MadePoll). list_all (report_resolves (past_of course) poll) poll.links) (past_of course).polls ≡ true

-- before the enquiry of the new link has reported, the key may be open, whatever was reported on the link before
abbrev pub UnreportedMayBeOpen : Type 0
UnreportedMayBeOpen = AllResolved (asked_course ++ relinked_moves ++ Make (Polled (pos 11)) ∷ [])

-- no link lasts after a cut, a start or a power failure
pub record LinksEnd : Type 0 where
  pub cut : (past_of (asked_course ++ Make (CutPt 0) ∷ [])).lasting ≡ []
  pub start : (past_of (asked_course ++ Make (Start terminal_setup) ∷ [])).lasting ≡ []
  pub crash : (past_of (asked_course ++ Make (Crash []) ∷ [])).lasting ≡ []

-- ---- books that aren't honest

-- what isn't honest for commands and links
pub record UncausedBooks : Type 0 where
  -- an entry whose command was not sent, or was sent to another terminal
  pub unsent : ¬ Honest asked_past (record paid_entry { cause = Some 21 } ∷ [])
  pub elsewhere : ¬ Honest asked_past (record paid_entry { numbering = other_numbering } ∷ [])
  -- one of another kind than its command: a reversal or a refund for a payment's command, and a payment for a reversal's
  pub reversal : ¬ Honest asked_past (record paid_entry { kind = BookedReversal } ∷ [])
  pub refund : ¬ Honest asked_past (record paid_entry { kind = BookedRefund } ∷ [])
  pub payment : ¬ Honest (past_of misasked_course) (paid_entry ∷ [])
  -- one whose command was sent in part
  pub in_part : ¬ Honest (past_of (opened_moves ++ Make (SentPt 0 (take 5 authorise) false) ∷ [])) (record paid_entry { cause = Some 16 } ∷ [])
  -- one that is at its command or before it, or without a command and not older than the log
  pub before : ¬ Honest asked_past (record paid_entry { place = 22 } ∷ [])
  pub without : ¬ Honest asked_past (record paid_entry { cause = None } ∷ [])
  -- one whose command was sent before its link was replaced
  pub replaced : ¬ Honest (past_of (asked_course ++ Make (Linked 0) ∷ [])) (later_entry ∷ [])

-- what isn't honest for its order and its numbers
pub record DisorderedBooks : Type 0 where
  -- a trace number that falls or stays within one numbering, and a place that falls, of a terminal that has reported nothing
  pub falling : ¬ Honest (record asked_past { ends = [] }) (older_entry 200 ∷ paid_entry ∷ [])
  pub same : ¬ Honest (record asked_past { ends = [] }) (older_entry 123 ∷ paid_entry ∷ [])
  pub unplaced : ¬ Honest (record asked_past { ends = [] }) (paid_entry ∷ older_entry 200 ∷ [])
  -- two entries of one command
  pub double : ¬ Honest asked_past (paid_entry ∷ record paid_entry { number = 124 } ∷ [])
  -- a trace number of seven digits, and a receipt number of five
  pub number : ¬ Honest asked_past (record paid_entry { number = 1000000 } ∷ [])
  pub receipt : ¬ Honest asked_past (record paid_entry { receipt = 10000 } ∷ [])

-- the past of the command in which this end alone was heard, at place 24
abbrev pub past_with_end : Ending → Past
past_with_end ending = record asked_past { ends = record { place = 24; numbering = first_numbering; ending = ending } ∷ [] }

-- what isn't honest for the ends that were heard
pub record UntrueBooks : Type 0 where
  -- an approval that isn't in the book, is in it with another amount, or only after it was heard
  pub unbooked : ¬ Honest paid_past []
  pub amount : ¬ Honest paid_past (record paid_entry { amount = 1000 } ∷ [])
  pub late : ¬ Honest paid_past (record paid_entry { place = 30 } ∷ [])
  -- an approved entry of a declined command, whenever it comes, and a declined one after the decline was heard
  pub declined : ¬ Honest refused_past (paid_entry ∷ [])
  pub declined_later : ¬ Honest refused_past (later_entry ∷ [])
  pub declined_late : ¬ Honest refused_past (record paid_entry { place = 25; approved = false } ∷ [])
  -- a declined command whose status had a trace number that no entry has
  pub unknown : ¬ Honest (past_with_end (Declined 22 (Some 7))) []
  -- an entry from before an enquiry that has reported none; none, or another, before one that has reported this
  pub unreported : ¬ Honest asked_past (older_entry 5 ∷ paid_entry ∷ [])
  pub none : ¬ Honest (past_with_end (Reported 123 (Some paid_figures))) []
  pub other : ¬ Honest (past_with_end (Reported 123 (Some paid_figures))) (record paid_entry { amount = 1000 } ∷ [])
  -- one that is approved, before an enquiry that has reported it as declined, and the other way round
  pub approved : ¬ Honest (past_with_end (Reported 123 None)) (paid_entry ∷ [])
  pub not_approved : ¬ Honest (past_with_end (Reported 123 (Some paid_figures))) (record paid_entry { approved = false } ∷ [])

-- what is reported truly is honest: the last entry, approved or declined, and a declined entry of a declined command
pub record ReportedBooks : Type 0 where
  pub approved : Honest (past_with_end (Reported 123 (Some paid_figures))) (paid_entry ∷ [])
  pub declined : Honest (past_with_end (Reported 123 None)) (record paid_entry { approved = false } ∷ [])
  pub refused : Honest refused_past (record paid_entry { approved = false } ∷ [])

-- what is honest whatever else is done: another terminal's entry with a greater number comes first, another terminal is linked between a command and its entry, or this one has booked a refund from before the log
pub record OtherTerminalBooks : Type 0 where
  pub entry : Honest asked_past (record paid_entry { numbering = other_numbering; place = 0; cause = None; number = 200 } ∷ paid_entry ∷ [])
  pub link : Honest (record asked_past { links = record first_link { place = 23; numbering = other_numbering } ∷ asked_past.links }) (paid_entry ∷ [])
  pub refund : Honest (record asked_past { ends = [] }) (record (older_entry 5) { kind = BookedRefund } ∷ paid_entry ∷ [])
