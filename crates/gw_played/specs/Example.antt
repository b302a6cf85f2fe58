-- Closed examples: courses along which the terminal is a played one that approves, declines, or cuts the connection, and reports its last transaction on its next link, with what it books along them.
use Rattle.std.specs.Prelude.{◌≡◌, ℕ, pos, true, false, List, [], ◌∷◌, ◌++◌, Some, None, codes}
use Rattle.gw_base.specs.declared.condition.Condition.TheVariants.{Aborted}
use Rattle.gw_base.specs.declared.currency.Currency.TheVariants.{Eur}
use Rattle.gw_site.specs.declared.turn.Turn.TheVariants.{Start, Polled, HeardPt, Lost, Linked, SentPt, SentTill, Synced, Crash}
use Rattle.sale_reply.specs.declared.reply.Told.TheVariants.{PaymentApproved, PaymentDeclined}
use Rattle.jrn_record.specs.declared.records.Outcome.{Outcome as TheOutcome}
use Rattle.jrn_record.specs.declared.records.Record.TheVariants.{Intent, Outcome}
use Rattle.jrn_record.specs.Grammar.{record_body}
use Rattle.pt_core.specs.declared.play.Play.{Play}
use Rattle.pt_core.specs.declared.play.Play.TheVariants as play
use Rattle.pt_core.specs.Example.{acknowledgement, approval}
use Rattle.pt_core.specs.History.{Setting}
use Rattle.gw_owes.specs.Reply.{ReplyValue, Finished, reply_value_bytes}
use Rattle.gw_owes.specs.Replies.{header_of_reply}
use Rattle.gw_owes.specs.TerminalExample.{ack, completion, abort, enquiry_sent}
use Rattle.gw_rules.specs.Laws.{IsLeanCourse}
use Rattle.gw_rules.specs.Lawful.{turns_of}
use Rattle.gw_rules.specs.RowExample.{terminal_setup, register_bytes}
use Rattle.gw_rules.specs.TerminalLogExample.{items_begin}
use Rattle.gw_rules.specs.View.{Move, Begin, Make}
use Rattle.gw_books.specs.Kinds.{BookedPayment}
use Rattle.gw_books.specs.Books.{BookedEntry}
use Rattle.gw_books.specs.Example.{paying_header, paying_intent, keeping_moves, asked_course, first_numbering, refused_course}
use Rattle.gw_books.specs.Past.{past_of}
use Rattle.gw_played.specs.Played.{played_book, ArePlayed, HaveAllLinked}

-- along this lawful course the terminal plays by this setting, and books this
pub record IsPlayedAlong (course : List Move) (setting : Setting) (book : List BookedEntry) : Type 0 where
  pub lean : IsLeanCourse (turns_of course) course
  pub played : ArePlayed (λ poi. setting) course
  pub linked : HaveAllLinked (codes "T1" ∷ []) (past_of course)
  pub book_is : played_book (λ poi. setting) (codes "T1" ∷ []) course ≡ book

-- a terminal with one play, and approvals after it; an enquiry without a transaction is aborted with 0x64
abbrev pub plays_first : Play → Setting
plays_first first = record { none = 0x64; plays = first ∷ [] }

-- its first entry, which it books as it hears the command, at place 22
abbrev pub first_entry : BookedEntry
first_entry = record { numbering = first_numbering; place = 23; cause = Some 22; kind = BookedPayment; number = 1; receipt = 1; amount = 1099; approved = true }

-- ---- a payment that is approved

-- its Outcome, of this moment, with the numbers of the entry
abbrev pub first_approval : ℕ → TheOutcome
first_approval moment = record { approved = true; slot = 0; number = 1; receipt = 1; amount = 1099; condition = None; moment = pos moment }

-- its reply
abbrev pub first_payment_reply : ℕ → ReplyValue
first_payment_reply moment = Finished (header_of_reply paying_header)
    (PaymentApproved (codes "X1") (codes "2026-11-27T12:00:00Z") (record { number = 1; receipt = 1; slot = 0; moment = pos moment }) 1099 (record { minor = 1099; currency = Eur }))

-- the terminal approves, the Outcome is kept, and the till gets its reply
abbrev pub approved_moves : List Move
approved_moves = Make (Polled (pos 5)) ∷ Make (HeardPt 0 (acknowledgement ++ approval)) ∷ (items_begin 4 ++ Make (SentPt 0 ack true) ∷ (items_begin 3 ++ Make (SentPt 0 ack true) ∷ Begin
    ∷ (keeping_moves 1 (Outcome (first_approval 5)) ++ Make (SentTill 1 (reply_value_bytes (first_payment_reply 5)) true) ∷ items_begin 3))) ++ Make (Polled (pos 6)) ∷ []

-- the whole course
abbrev pub played_approved_course : List Move
played_approved_course = asked_course ++ approved_moves

-- ---- a payment that is cut off

-- the connection is lost before the payment's end
abbrev pub cut_moves : List Move
cut_moves = Make (Polled (pos 5)) ∷ Make (Lost 0) ∷ (items_begin 3 ++ Make (Polled (pos 6)) ∷ [])

-- the whole course
abbrev pub played_cut_course : List Move
played_cut_course = asked_course ++ cut_moves

-- ---- it reports on its next link

-- five seconds after the loss the terminal is linked again, registers and is enquired, and then polled
abbrev pub linked_again_moves : List Move
linked_again_moves =
    items_begin 2 ++ Make (Polled (pos 10)) ∷ (items_begin 2 ++ Make (Linked 0) ∷ Make (SentPt 0 register_bytes true) ∷ Make (Polled (pos 11)) ∷ Make (HeardPt 0 (ack ++ completion))
    ∷ (items_begin 4 ++ Make (SentPt 0 ack true) ∷ Begin ∷ Make (SentPt 0 enquiry_sent true) ∷ (items_begin 3 ++ Make (Polled (pos 12)) ∷ [])))

-- it reports the payment: the Outcome is kept, and the till, which waits still, gets its reply
abbrev pub reporting_moves : List Move
reporting_moves = Make (HeardPt 0 (acknowledgement ++ approval)) ∷ (items_begin 4 ++ Make (SentPt 0 ack true) ∷ (items_begin 3 ++ Make (SentPt 0 ack true) ∷ Begin
    ∷ (keeping_moves 1 (Outcome (first_approval 12)) ++ Make (SentTill 1 (reply_value_bytes (first_payment_reply 12)) true) ∷ (items_begin 3 ++ Make (Polled (pos 13)) ∷ []))))

-- the whole course
abbrev pub played_reported_course : List Move
played_reported_course = asked_course ++ cut_moves ++ linked_again_moves ++ reporting_moves

-- the Outcome of a payment of which nothing came, of this moment
abbrev pub first_unperformed : ℕ → TheOutcome
first_unperformed moment = record { approved = false; slot = 0; number = 0; receipt = 0; amount = 0; condition = Some Aborted; moment = pos moment }

-- its reply
abbrev pub first_unperformed_reply : ℕ → ReplyValue
first_unperformed_reply moment = Finished (header_of_reply paying_header) (PaymentDeclined (codes "X1") (codes "2026-11-27T12:00:00Z") (record { number = 0; receipt = 0; slot = 0; moment = pos moment }) Aborted)

-- it reports that it has no transaction, as before the payment: the Outcome is kept, and the till gets its reply
abbrev pub reporting_none_moves : List Move
reporting_none_moves = Make (HeardPt 0 (ack ++ abort 0x64)) ∷ (items_begin 4 ++ Make (SentPt 0 ack true) ∷ Begin
    ∷ (keeping_moves 1 (Outcome (first_unperformed 12)) ++ Make (SentTill 1 (reply_value_bytes (first_unperformed_reply 12)) true) ∷ (items_begin 3 ++ Make (Polled (pos 13)) ∷ [])))

-- the whole course
abbrev pub played_unreported_course : List Move
played_unreported_course = asked_course ++ cut_moves ++ linked_again_moves ++ reporting_none_moves

-- ---- the power fails before

-- the file with the payment's Intent, and the closed gate after it
abbrev pub paying_file : List ℕ
paying_file = 165 ∷ (record_body (Intent paying_intent) ++ 0 ∷ [])

-- The power fails at the poll after the payment was asked for, and leaves that file. A run begins on it: the terminal is linked, registers and is enquired, and then polled.
abbrev pub next_run_moves : List Move
next_run_moves =
    Make (Polled (pos 5)) ∷ Make (Crash paying_file) ∷ Make (Start terminal_setup) ∷ Make Synced ∷ Make (Polled (pos 6)) ∷ (items_begin 2 ++ Make (Linked 0) ∷ Make (SentPt 0 register_bytes true) ∷ Make (Polled (pos 7)) ∷ Make (HeardPt 0 (ack ++ completion))
    ∷ (items_begin 4 ++ Make (SentPt 0 ack true) ∷ Begin ∷ Make (SentPt 0 enquiry_sent true) ∷ (items_begin 3 ++ Make (Polled (pos 8)) ∷ [])))

-- it reports the payment, and the Outcome is kept: no till waits in this run
abbrev pub reporting_later_moves : List Move
reporting_later_moves = Make (HeardPt 0 (acknowledgement ++ approval)) ∷ (items_begin 4 ++ Make (SentPt 0 ack true) ∷ (items_begin 3 ++ Make (SentPt 0 ack true) ∷ Begin
    ∷ (keeping_moves 1 (Outcome (first_approval 8)) ++ (items_begin 3 ++ Make (Polled (pos 9)) ∷ []))))

-- the whole course
abbrev pub played_recovered_course : List Move
played_recovered_course = asked_course ++ next_run_moves ++ reporting_later_moves

-- it reports that it has no transaction
abbrev pub reporting_none_later_moves : List Move
reporting_none_later_moves = Make (HeardPt 0 (ack ++ abort 0x64)) ∷ (items_begin 4 ++ Make (SentPt 0 ack true) ∷ Begin ∷ (keeping_moves 1 (Outcome (first_unperformed 8)) ++ (items_begin 3 ++ Make (Polled (pos 9)) ∷ [])))

-- the whole course
abbrev pub played_unperformed_course : List Move
played_unperformed_course = asked_course ++ next_run_moves ++ reporting_none_later_moves

-- ---- the examples

-- A payment that is approved is booked; one that is declined is not; and one at which the connection is cut is or is not. On its next link the terminal reports it where it has booked it, and else that it has no transaction; so it does where the power has failed before its approval, or its decline, was heard.
pub record PlayedExamples : Type 0 where
  pub approved : IsPlayedAlong played_approved_course (plays_first play.Approve) (first_entry ∷ [])
  pub declined : IsPlayedAlong refused_course (plays_first (play.Decline 0x6C)) []
  pub booked : IsPlayedAlong played_cut_course (plays_first play.CutAfterBook) (first_entry ∷ [])
  pub dropped : IsPlayedAlong played_cut_course (plays_first play.DropAtOnce) []
  pub booked_reported : IsPlayedAlong played_reported_course (plays_first play.CutAfterBook) (first_entry ∷ [])
  pub dropped_reported : IsPlayedAlong played_unreported_course (plays_first play.DropAtOnce) []
  pub approved_recovered : IsPlayedAlong played_recovered_course (plays_first play.Approve) (first_entry ∷ [])
  pub declined_recovered : IsPlayedAlong played_unperformed_course (plays_first (play.Decline 0x6C)) []
