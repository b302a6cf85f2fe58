-- Closed examples of recovery: a payment that is open as the power fails, and what its terminal reports of it in a later run; a report of a payment whose till is still there; and a terminal that is set aside, along a course for which a book isn't honest.
use Rattle.std.specs.Prelude.{◌≡◌, ◌≤◌, ℕ, pos, true, false, List, [], ◌∷◌, ◌++◌, Some, None, codes}
use Rattle.gw_base.specs.declared.condition.Condition.TheVariants.{Aborted}
use Rattle.gw_base.specs.declared.key.Key.{Key}
use Rattle.gw_site.specs.declared.turn.Turn.{Turn}
use Rattle.gw_site.specs.declared.turn.Turn.TheVariants.{Polled, Opened, HeardTill, HeardPt, SentTill, SentPt}
use Rattle.sale_frame.specs.Grammar.{frame}
use Rattle.sale_values.specs.declared.request.SaleRequest.TheVariants as requests
use Rattle.zvt_msg.specs.Message.{Abort, Completion}
use Rattle.jrn_record.specs.declared.records.Intent.{Intent as TheIntent}
use Rattle.jrn_record.specs.declared.records.Outcome.{Outcome as TheOutcome}
use Rattle.jrn_record.specs.declared.records.Record.{Record}
use Rattle.jrn_record.specs.declared.records.Record.TheVariants.{Intent, Outcome}
use Rattle.gw_ledger.specs.declared.entry.Entry.{Entry as TheEntry}
use Rattle.gw_ledger.specs.Keys.{intent_key}
use Rattle.gw_owes.specs.declared.terminal.Terminal.{Terminal}
use Rattle.gw_owes.specs.Items.{Handle}
use Rattle.gw_owes.specs.PaymentExample.{till_header, ask_of}
use Rattle.gw_owes.specs.PaymentLaws.{ReportsOfOpen}
use Rattle.gw_owes.specs.Reply.{reply_value_bytes}
use Rattle.gw_owes.specs.Reports.{Report, outcome_reported}
use Rattle.gw_owes.specs.TerminalExample.{ack, abort}
use Rattle.gw_rules.specs.CutCauseExample.{completion_apdu}
use Rattle.gw_rules.specs.Lawful.{turns_of}
use Rattle.gw_rules.specs.Laws.{IsLeanCourse}
use Rattle.gw_rules.specs.PaymentLogExample.{payment_request, asked_payment, logged_intent, logged_outcome, logged_reply, authorise_sent, keep_moves, ready_none_course, begun_course, enquired_again_course}
use Rattle.gw_rules.specs.RecoveryLogExample.{open_status_reply, resolved_status_reply, open_course, report_bytes, recovery_log}
use Rattle.gw_rules.specs.RowExample.{terminal_setup}
use Rattle.gw_rules.specs.Scene.{known_in}
use Rattle.gw_rules.specs.TerminalLogExample.{items_begin, enquired_course}
use Rattle.gw_rules.specs.View.{Move, Begin, Read, Make, view_from, at_first}
use Rattle.gw_books.specs.Past.{Occasion, OfRequest, OfMessage, Reported, SentCommand, MadeLink, SentReply, MadePoll, Past, past_of}
use Rattle.gw_books.specs.Books.{BookedEntry, Honest}
use Rattle.gw_books.specs.Said.{Said}
use Rattle.gw_books.specs.Agrees.{is_transaction, is_success}
use Rattle.gw_books.specs.Example.{first_numbering, payment_command, asked_past, paid_entry, paid_figures, older_entry}
use Rattle.gw_books.specs.Headline.{HasPast}
use Rattle.gw_books.specs.RecoveryLaws.{IsReportedAt, HasTrueOutcome, IsAsideIn, IsSaidAlong}
use Rattle.gw_books.specs.RoundLaws.{ComesNext, EndsRound}

-- ---- a payment is open as the power fails

-- its key
abbrev pub logged_key : Key
logged_key = record { sale = codes "S1"; poi = codes "T1"; service = codes "1" }

-- its command, at place 22, right before the power fails
abbrev pub logged_command : SentCommand
logged_command = record payment_command { key = Some logged_key }

-- the till's request, for which the calls are made
abbrev pub logged_occasion : Occasion
logged_occasion = OfRequest (till_header (codes "Payment") (codes "1")) (requests.Payment (ask_of 1099))

-- a till's request, by its ServiceID, for the status of the payment
abbrev pub status_occasion : List ℕ → Occasion
status_occasion service = OfRequest (till_header (codes "TransactionStatus") service) (requests.Status (Some (record { service = codes "1"; sale = None; poi = None })))

-- the link of the later run, at place 27: one record was kept by then
abbrev pub later_link : MadeLink
later_link = record { place = 27; numbering = first_numbering; records = 1 }

-- the site is polled in the later run while the terminal is linked, with these records kept
abbrev pub polled_later : ℕ → List Record → MadePoll
polled_later place kept = record { place = place; links = later_link ∷ []; kept = kept }

-- the Intent alone is kept
abbrev pub open_records : List Record
open_records = Intent logged_intent ∷ []

-- a till that asks for its status is sent, at place 33, that it is in progress
abbrev pub sent_open_status : SentReply
sent_open_status = record { place = 33; bytes = reply_value_bytes open_status_reply; occasion = status_occasion (codes "2"); kept = open_records; waiting = [] }

-- what has happened until the terminal's enquiry is to report
abbrev pub open_past : Past
open_past = record asked_past {
  place = 39;
  heard = 35;
  commands = logged_command ∷ [];
  links = later_link ∷ asked_past.links;
  lasting = later_link ∷ [];
  replies = sent_open_status ∷ [];
  polls = polled_later 38 open_records ∷ polled_later 34 open_records ∷ polled_later 31 open_records ∷ polled_later 29 open_records ∷ record { place = 26; links = []; kept = open_records } ∷ asked_past.polls;
  deeds = logged_occasion ∷ logged_occasion ∷ logged_occasion ∷ [];
}

-- This has happened along the log, and the book is honest for it. At the poll the later link lasts, on which the terminal's enquiry has reported: the payment, whose Intent was kept before that link was made, has this Outcome, which is the terminal's.
pub record IsResolvedAlong (log : List Turn) (past : Past) (book : List BookedEntry) (poll : MadePoll) (outcome : TheOutcome) : Type 0 where
  pub has_past : HasPast log past
  pub honest : Honest past book
  pub reported : IsReportedAt past poll later_link 0 logged_intent
  pub resolved : HasTrueOutcome past book poll.kept 0 logged_intent
  pub outcome_is : resolved.outcome ≡ outcome

-- ---- it is reported as approved

-- both records are kept
abbrev pub recovered_records : List Record
recovered_records = Intent logged_intent ∷ Outcome (logged_outcome 6) ∷ []

-- a till that asks for its status again is sent, at place 48, the reply to the payment
abbrev pub sent_resolved_status : SentReply
sent_resolved_status = record { place = 48; bytes = reply_value_bytes resolved_status_reply; occasion = status_occasion (codes "3"); kept = recovered_records; waiting = [] }

-- what has happened along the whole log: the approval was reported at place 39, the Outcome was written, and its gate, and the status was asked for
abbrev pub recovered_past : Past
recovered_past = record open_past {
  place = 51;
  heard = 39;
  ends = record { place = 39; numbering = first_numbering; ending = Reported 123 (Some paid_figures) } ∷ open_past.ends;
  replies = sent_resolved_status ∷ open_past.replies;
  polls = polled_later 49 recovered_records ∷ polled_later 46 recovered_records ∷ open_past.polls;
  deeds = OfMessage 0 Completion ∷ OfMessage 0 Completion ∷ open_past.deeds;
}

-- The payment was booked while the gateway had no power, before the turn at place 24 with which the later run begins: its Outcome is that approval.
abbrev pub RecoveredIsResolved : Type 0
RecoveredIsResolved = IsResolvedAlong recovery_log recovered_past (paid_entry ∷ []) (polled_later 46 recovered_records) (logged_outcome 6)

-- what the reply to the status repeats: the payment's success, with the numbers, the slot and the amount of that Outcome
abbrev pub recovered_said : Said
recovered_said = record { category = codes "Payment"; key = logged_key; result = codes "Success"; condition = []; has_poi_data = true; transaction = codes "000123-0017-0"; amount = codes "10.99" }

-- it is said along the log, of the payment's key
pub record RecoveredIsRepeated : Type 0 where
  pub is_said : IsSaidAlong recovered_past recovered_said
  pub key_is : recovered_said.key ≡ intent_key logged_intent
  pub transaction : is_transaction recovered_said ≡ true
  pub success : is_success recovered_said ≡ true

-- ---- nothing came of it

-- its Outcome then
abbrev pub unperformed_outcome : TheOutcome
unperformed_outcome = record { approved = false; slot = 0; number = 0; receipt = 0; amount = 0; condition = Some Aborted; moment = pos 6 }

-- both records are kept
abbrev pub unperformed_records : List Record
unperformed_records = Intent logged_intent ∷ Outcome unperformed_outcome ∷ []

-- the terminal reports that there is no last transaction, the Outcome is kept, and the site is polled; no till of this run has asked for it
abbrev pub unperformed_moves : List Move
unperformed_moves = Make (HeardPt 0 (ack ++ abort 0x64)) ∷ (items_begin 4 ++ Make (SentPt 0 ack true) ∷ Begin ∷ (keep_moves 1 (Outcome unperformed_outcome) ++ (items_begin 3 ++ Make (Polled (pos 7)) ∷ [])))

-- the whole course
abbrev pub unperformed_course : List Move
unperformed_course = open_course ++ unperformed_moves

-- what has happened along it: the terminal reported at place 39 that there is no last transaction, and the Outcome was written, and its gate
abbrev pub unperformed_past : Past
unperformed_past = record open_past {
  place = 46;
  heard = 39;
  ends = record { place = 39; numbering = first_numbering; ending = Reported 0 None } ∷ open_past.ends;
  polls = polled_later 45 unperformed_records ∷ open_past.polls;
  deeds = OfMessage 0 (Abort (Some 0x64)) ∷ OfMessage 0 (Abort (Some 0x64)) ∷ open_past.deeds;
}

-- nothing is booked: the payment is declined
abbrev pub UnperformedIsResolved : Type 0
UnperformedIsResolved = IsResolvedAlong (turns_of unperformed_course) unperformed_past [] (polled_later 45 unperformed_records) unperformed_outcome

-- ---- the till that asked is there

-- The link is lost as the terminal serves the payment, and made again in the same run. The terminal's report is heard, and acknowledged.
abbrev pub report_heard_course : List Move
report_heard_course = ready_none_course ++ begun_course ++ enquired_again_course ++ Make (Polled (pos 11)) ∷ Make (HeardPt 0 report_bytes) ∷ (items_begin 4 ++ Make (SentPt 0 ack true) ∷ (items_begin 3 ++ Make (SentPt 0 ack true) ∷ []))

-- the Completion is handled: the Outcome is kept, and the till gets its reply; then the next poll may come
abbrev pub saying_moves : List Move
saying_moves = Begin ∷ (keep_moves 1 (Outcome (logged_outcome 11)) ++ Make (SentTill 1 (reply_value_bytes (logged_reply 11)) true) ∷ items_begin 3)

-- the Completion comes next there, and reports of the payment, which is open, with a trace number that isn't below the one before; the till that asked is there
pub record RecoveredIsSaid : Type 0 where
  pub ends : EndsRound (turns_of report_heard_course) (view_from at_first report_heard_course) saying_moves
  pub next : ComesNext (view_from at_first report_heard_course) terminal_setup (Handle 0 completion_apdu)
  pub terminal : Terminal
  pub report : Report
  pub entry : TheEntry
  pub reports : ReportsOfOpen (known_in (view_from at_first report_heard_course).scene terminal_setup) 0 completion_apdu terminal report entry
  pub not_below : entry.intent.before ≤ report.trace
  pub outcome_is : outcome_reported entry report 11 ≡ logged_outcome 11
  pub asker_is : terminal.asker ≡ Some 1

-- ---- a terminal is set aside

-- the terminal has reported an approval with the trace number 123 as its last transaction
abbrev pub ready_last_course : List Move
ready_last_course = enquired_course ++ Make (Polled (pos 2)) ∷ Make (HeardPt 0 report_bytes) ∷ (items_begin 4 ++ Make (SentPt 0 ack true) ∷ (items_begin 3 ++ Make (SentPt 0 ack true) ∷ items_begin 4))

-- the Intent of a payment that comes then
abbrev pub later_logged_intent : TheIntent
later_logged_intent = record logged_intent { before = 123 }

-- it is asked, and its Intent is kept
abbrev pub begun_later_moves : List Move
begun_later_moves =
    Make (Polled (pos 3)) ∷ Make (Opened 1) ∷ (items_begin 2 ++ Make (Polled (pos 3)) ∷ Make (HeardTill 1 (frame payment_request)) ∷ Read asked_payment ∷ Begin ∷ Begin
    ∷ (keep_moves 0 (Intent later_logged_intent) ++ Make (SentPt 0 authorise_sent true) ∷ items_begin 2))

-- the link is lost and made again, and the terminal reports that there is no last transaction
abbrev pub below_moves : List Move
below_moves = enquired_again_course ++ Make (Polled (pos 11)) ∷ Make (HeardPt 0 (ack ++ abort 0x64)) ∷ (items_begin 4 ++ Make (SentPt 0 ack true) ∷ (items_begin 4 ++ Make (Polled (pos 12)) ∷ []))

-- the whole course
abbrev pub aside_course : List Move
aside_course = ready_last_course ++ begun_later_moves ++ below_moves

-- Its log is lawful, and at its end the terminal is set aside: it has reported 0, below the number before. Neither the book with the transaction that it has reported first nor the empty one is honest.
pub record AsideIsNotHonest : Type 0 where
  pub lean : IsLeanCourse (turns_of aside_course) aside_course
  pub aside : IsAsideIn (view_from at_first aside_course) 0 123 0
  pub booked : ¬ Honest (past_of aside_course) (older_entry 123 ∷ [])
  pub empty : ¬ Honest (past_of aside_course) []
