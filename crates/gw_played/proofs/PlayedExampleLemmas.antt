-- The examples of played terminals, by computing.
use Rattle.std.proofs.Common.{◌≡◌, ℕ, zero, suc, Bool, true, false, List, [], ◌∷◌, ◌++◌, refl, sym, ◌∙◌, ap, subst, arith, append-nil}
use Rattle.std.proofs.lemmas.Bool.{and_parts}
use Rattle.std.specs.Prelude.{◌+◌, ◌&&◌, pos, bytes_eq, codes, if◌then◌else◌, map, slice_get, Some, None}
use Rattle.std.specs.List.{list_all, list_any}
use Rattle.gw_bytes.specs.Bytes.{AreBytes}
use Rattle.gw_site.specs.Image.{Image}
use Rattle.gw_site.specs.declared.turn.Turn.TheVariants.{Start, Polled, HeardPt, Linked, SentTill, SentPt, Synced, Crash}
use Rattle.gw_site.proofs.ImageLemmas.{file_image}
use Rattle.zvt_apdu.specs.DecodeStream.{decode_apdus, decode_apdus_within}
use Rattle.zvt_bmp.specs.Decode.{decode_field_value, decode_status, decode_status_field, decode_status_within}
use Rattle.zvt_msg.specs.CommandDecode.{decode_command}
use Rattle.zvt_msg.specs.MessageDecode.{decode_pt_message}
use Rattle.jrn_record.specs.declared.records.Outcome.{Outcome as TheOutcome}
use Rattle.jrn_record.specs.declared.records.Record.TheVariants.{Outcome}
use Rattle.gw_ledger.specs.History.{history}
use Rattle.pt_core.specs.declared.play.Play.TheVariants as play
use Rattle.pt_core.specs.Example.{acknowledgement, approval}
use Rattle.pt_core.specs.Exchange.{Exchange, Links, Sends, Hears, HearsSent}
use Rattle.pt_core.specs.History.{Setting}
use Rattle.gw_owes.specs.Calls.{Acknowledge, WriteBody, WriteGate}
use Rattle.gw_owes.specs.Reply.{ReplyValue, reply_value_bytes}
use Rattle.gw_owes.specs.TerminalExample.{ack, completion, abort, enquiry_sent}
use Rattle.gw_rules.specs.Lawful.{IsCourse, IsChunk, turns_of}
use Rattle.gw_rules.specs.Laws.{IsLeanCourse}
use Rattle.gw_rules.specs.Lean.{goes_on, IsLean}
use Rattle.gw_rules.specs.RowExample.{terminal_setup, register_bytes}
use Rattle.gw_rules.specs.TerminalLogExample.{items_begin}
use Rattle.gw_rules.specs.View.{View, Move, Begin, Read, Make, after, view_from, at_first}
use Rattle.gw_rules.proofs.CourseLemmas.{course-append}
use Rattle.gw_rules.proofs.RowExampleLemmas.{formed}
use Rattle.gw_rules.proofs.TestedLemmas.{course-tested}
use Rattle.gw_rules.proofs.TextLemmas.{bytes-tested}
use Rattle.gw_books.specs.Books.{BookedEntry}
use Rattle.gw_books.specs.Example.{payment_text, authorise, keeping_moves, asked_course, refused_moves, refused_course, first_numbering, first_link}
use Rattle.gw_books.specs.Past.{MadeLink, Past, past_of}
use Rattle.gw_books.proofs.CourseLemmas.{asked-lawful, declining-lawful}
use Rattle.gw_books.proofs.ExampleLemmas.{refused-past}
use Rattle.gw_played.specs.Example.{plays_first, first_entry, first_approval, first_payment_reply, approved_moves, played_approved_course, cut_moves, played_cut_course, linked_again_moves, reporting_moves, played_reported_course, first_unperformed, first_unperformed_reply, reporting_none_moves, played_unreported_course, paying_file, next_run_moves, reporting_later_moves, played_recovered_course, reporting_none_later_moves, played_unperformed_course, PlayedExamples}
use Rattle.gw_played.specs.Played.{PlacedExchange, exchanges_in, exchanges_of, book_along, played_book, ArePlayed, HaveAllLinked}

-- ---- what was exchanged

-- an exchange of the terminal, where it has the POIID
abbrev pub exchanged : Bool → ℕ → Exchange → List PlacedExchange → List PlacedExchange
exchanged own place exchange before = map (λ one. record { place = place; exchange = one }) (if own then exchange ∷ [] else []) ++ before

-- until the payment is asked for
abbrev pub asked_exchanges : Bool → List PlacedExchange
asked_exchanges own =
    exchanged own 22 (Sends authorise) (exchanged own 13 (Sends ack) (exchanged own 12 (Hears (ack ++ abort 0x64))
    (exchanged own 10 (Sends enquiry_sent) (exchanged own 9 (Sends ack) (exchanged own 8 (Hears (ack ++ completion)) (exchanged own 6 (Sends register_bytes) (exchanged own 5 Links [])))))))

-- what holds where the terminal has the POIID, and where it has it not, holds
by-poi : (P : Bool → Type 0) → P true → P false → (test : Bool) → P test
by-poi P own other true = own
by-poi P own other false = other

-- ---- lawful, and lean

abbrev pub is_lean : List Move → Bool
is_lean [] = true
is_lean (Begin ∷ moves) = goes_on moves && is_lean moves
is_lean (Read as_read ∷ moves) = goes_on moves && is_lean moves
is_lean (Make turn ∷ moves) = is_lean moves

-- a course that passes the test is lean
pub lean-tested : (moves : List Move) → is_lean moves ≡ true → IsLean moves
lean-tested [] e = tt
lean-tested (Begin ∷ moves) e = let p = and_parts (goes_on moves) (is_lean moves) e in (p.0, lean-tested moves p.1)
lean-tested (Read as_read ∷ moves) e = let p = and_parts (goes_on moves) (is_lean moves) e in (p.0, lean-tested moves p.1)
lean-tested (Make turn ∷ moves) e = lean-tested moves e

approving-chunk : IsChunk (acknowledgement ++ approval)
approving-chunk = record { count = (omega arith, omega arith); bytes = bytes-tested (acknowledgement ++ approval) refl }

pub approving-lawful : IsCourse (view_from at_first asked_course) approved_moves
unfolding decode_apdus decode_apdus_within decode_pt_message decode_status decode_status_within decode_status_field decode_field_value history payment_text
approving-lawful = (record { running = refl; calls = refl; items = refl }, ((record { polled = refl; connected_is = refl }, approving-chunk), (record { idle = record { round = refl; calls = refl }; first = refl }, (record { idle = record { round = refl; calls = refl }; first = refl }, (record { idle = record { round = refl; calls = refl }; first = refl }, (record { idle = record { round = refl; calls = refl }; first = refl }, ((Acknowledge, refl, refl), (record { idle = record { round = refl; calls = refl }; first = refl }, (record { idle = record { round = refl; calls = refl }; first = refl }, (record { idle = record { round = refl; calls = refl }; first = refl }, ((Acknowledge, refl, refl), (record { idle = record { round = refl; calls = refl }; first = refl }, ((WriteBody 1 (Outcome (first_approval 5)), refl, refl), (refl, ((WriteGate 1 (Outcome (first_approval 5)), refl, refl), (refl, ((first_payment_reply 5, refl, refl), (record { idle = record { round = refl; calls = refl }; first = refl }, (record { idle = record { round = refl; calls = refl }; first = refl }, (record { idle = record { round = refl; calls = refl }; first = refl }, (record { running = refl; calls = refl; items = refl }, tt)))))))))))))))))))))

-- a course that goes on where the payment was asked for
pub lean-course : (moves : List Move) → IsCourse (view_from at_first asked_course) moves → is_lean (asked_course ++ moves) ≡ true → IsLeanCourse (turns_of (asked_course ++ moves)) (asked_course ++ moves)
lean-course moves lawful e = record { turns_are = refl; lawful = course-append at_first asked_course moves asked-lawful lawful; lean = lean-tested (asked_course ++ moves) e }

approved-lean : IsLeanCourse (turns_of played_approved_course) played_approved_course
approved-lean = lean-course approved_moves approving-lawful refl

declined-lean : IsLeanCourse (turns_of refused_course) refused_course
declined-lean = lean-course (refused_moves ++ Make (Polled (pos 6)) ∷ []) declining-lawful refl

cutting-lawful : IsCourse (view_from at_first asked_course) cut_moves
unfolding decode_apdus decode_apdus_within decode_pt_message history payment_text
cutting-lawful = (record { running = refl; calls = refl; items = refl }, (record { polled = refl; connected_is = refl }, (record { idle = record { round = refl; calls = refl }; first = refl }, (record { idle = record { round = refl; calls = refl }; first = refl }, (record { idle = record { round = refl; calls = refl }; first = refl }, (record { running = refl; calls = refl; items = refl }, tt))))))

cut-lean : IsLeanCourse (turns_of played_cut_course) played_cut_course
cut-lean = lean-course cut_moves cutting-lawful refl

-- ---- on its next link

abbrev pub asked_view : View
asked_view = view_from at_first asked_course

abbrev cut_view : View
cut_view = view_from asked_view cut_moves

linking-lawful : IsCourse cut_view linked_again_moves
unfolding decode_apdus decode_apdus_within decode_pt_message history payment_text
linking-lawful = course-tested cut_view linked_again_moves refl

abbrev linked_view : View
linked_view = view_from cut_view linked_again_moves

-- what the terminal says where it reports the payment, up to where the Completion is handled
abbrev report_heard_moves : List Move
report_heard_moves = Make (HeardPt 0 (acknowledgement ++ approval)) ∷ (items_begin 4 ++ Make (SentPt 0 ack true) ∷ (items_begin 3 ++ Make (SentPt 0 ack true) ∷ []))

-- and where it reports none, up to where the Abort is handled
abbrev none_heard_moves : List Move
none_heard_moves = Make (HeardPt 0 (ack ++ abort 0x64)) ∷ (items_begin 4 ++ Make (SentPt 0 ack true) ∷ [])

-- the Outcome is kept, and the till gets its reply
abbrev resolved_moves : TheOutcome → ReplyValue → List Move
resolved_moves outcome reply = Begin ∷ (keeping_moves 1 (Outcome outcome) ++ Make (SentTill 1 (reply_value_bytes reply) true) ∷ (items_begin 3 ++ Make (Polled (pos 13)) ∷ []))

report-heard-lawful : IsCourse linked_view report_heard_moves
unfolding decode_apdus decode_apdus_within decode_pt_message decode_status decode_status_within decode_status_field decode_field_value history payment_text
report-heard-lawful = course-tested linked_view report_heard_moves refl

report-resolved-lawful : IsCourse (view_from linked_view report_heard_moves) (resolved_moves (first_approval 12) (first_payment_reply 12))
unfolding decode_apdus decode_apdus_within decode_pt_message decode_status decode_status_within decode_status_field decode_field_value history payment_text
report-resolved-lawful = (record { idle = record { round = refl; calls = refl }; first = refl }, ((WriteBody 1 (Outcome (first_approval 12)), refl, refl), (refl, ((WriteGate 1 (Outcome (first_approval 12)), refl, refl), (refl, ((first_payment_reply 12, refl, refl), (record { idle = record { round = refl; calls = refl }; first = refl }, (record { idle = record { round = refl; calls = refl }; first = refl }, (record { idle = record { round = refl; calls = refl }; first = refl }, (record { running = refl; calls = refl; items = refl }, tt))))))))))

none-heard-lawful : IsCourse linked_view none_heard_moves
unfolding decode_apdus decode_apdus_within decode_pt_message history payment_text
none-heard-lawful = course-tested linked_view none_heard_moves refl

none-resolved-lawful : IsCourse (view_from linked_view none_heard_moves) (resolved_moves (first_unperformed 12) (first_unperformed_reply 12))
unfolding decode_apdus decode_apdus_within decode_pt_message history payment_text
none-resolved-lawful = (record { idle = record { round = refl; calls = refl }; first = refl }, ((WriteBody 1 (Outcome (first_unperformed 12)), refl, refl), (refl, ((WriteGate 1 (Outcome (first_unperformed 12)), refl, refl), (refl, ((first_unperformed_reply 12, refl, refl), (record { idle = record { round = refl; calls = refl }; first = refl }, (record { idle = record { round = refl; calls = refl }; first = refl }, (record { idle = record { round = refl; calls = refl }; first = refl }, (record { running = refl; calls = refl; items = refl }, tt))))))))))

reported-lean : IsLeanCourse (turns_of played_reported_course) played_reported_course
reported-lean = lean-course (cut_moves ++ linked_again_moves ++ reporting_moves)
    (course-append asked_view cut_moves (linked_again_moves ++ reporting_moves) cutting-lawful
    (course-append cut_view linked_again_moves reporting_moves linking-lawful
    (course-append linked_view report_heard_moves (resolved_moves (first_approval 12) (first_payment_reply 12)) report-heard-lawful report-resolved-lawful)))
    refl

unreported-lean : IsLeanCourse (turns_of played_unreported_course) played_unreported_course
unreported-lean = lean-course (cut_moves ++ linked_again_moves ++ reporting_none_moves)
    (course-append asked_view cut_moves (linked_again_moves ++ reporting_none_moves) cutting-lawful
    (course-append cut_view linked_again_moves reporting_none_moves linking-lawful
    (course-append linked_view none_heard_moves (resolved_moves (first_unperformed 12) (first_unperformed_reply 12)) none-heard-lawful none-resolved-lawful)))
    refl

-- ---- in the next run

-- the site is polled, the power fails, and a run begins
abbrev failing_moves : List Move
failing_moves = Make (Polled (pos 5)) ∷ Make (Crash paying_file) ∷ Make (Start terminal_setup) ∷ []

paying-image : Image (after asked_view (Make (Polled (pos 5)))).scene.outside paying_file
unfolding decode_apdus decode_apdus_within decode_pt_message history payment_text
paying-image = file_image (turns_of asked_course ++ Polled (pos 5) ∷ [])

paying-bytes : AreBytes paying_file
paying-bytes = bytes-tested paying_file refl

failing-lawful : IsCourse asked_view failing_moves
unfolding decode_apdus decode_apdus_within decode_pt_message history payment_text
failing-lawful = (record { running = refl; calls = refl; items = refl }, ((paying-image, paying-bytes), ((refl, formed), tt)))

abbrev failed_view : View
failed_view = view_from asked_view failing_moves

-- its journal is open, and the terminal is linked and enquired
abbrev next_linked_moves : List Move
next_linked_moves =
    Make Synced ∷ Make (Polled (pos 6)) ∷ (items_begin 2 ++ Make (Linked 0) ∷ Make (SentPt 0 register_bytes true) ∷ Make (Polled (pos 7)) ∷ Make (HeardPt 0 (ack ++ completion))
    ∷ (items_begin 4 ++ Make (SentPt 0 ack true) ∷ Begin ∷ Make (SentPt 0 enquiry_sent true) ∷ (items_begin 3 ++ Make (Polled (pos 8)) ∷ [])))

next-linked-lawful : IsCourse failed_view next_linked_moves
unfolding decode_apdus decode_apdus_within decode_pt_message history payment_text
next-linked-lawful = course-tested failed_view next_linked_moves refl

next-run-lawful : IsCourse asked_view next_run_moves
next-run-lawful = course-append asked_view failing_moves next_linked_moves failing-lawful next-linked-lawful

abbrev next_run_view : View
next_run_view = view_from asked_view next_run_moves

-- the Outcome is kept, and no till waits
abbrev kept_moves : TheOutcome → List Move
kept_moves outcome = Begin ∷ (keeping_moves 1 (Outcome outcome) ++ (items_begin 3 ++ Make (Polled (pos 9)) ∷ []))

report-later-lawful : IsCourse next_run_view report_heard_moves
unfolding decode_apdus decode_apdus_within decode_pt_message decode_status decode_status_within decode_status_field decode_field_value history payment_text
report-later-lawful = course-tested next_run_view report_heard_moves refl

report-kept-lawful : IsCourse (view_from next_run_view report_heard_moves) (kept_moves (first_approval 8))
unfolding decode_apdus decode_apdus_within decode_pt_message decode_status decode_status_within decode_status_field decode_field_value history payment_text
report-kept-lawful = (record { idle = record { round = refl; calls = refl }; first = refl }, ((WriteBody 1 (Outcome (first_approval 8)), refl, refl), (refl, ((WriteGate 1 (Outcome (first_approval 8)), refl, refl), (refl, (record { idle = record { round = refl; calls = refl }; first = refl }, (record { idle = record { round = refl; calls = refl }; first = refl }, (record { idle = record { round = refl; calls = refl }; first = refl }, (record { running = refl; calls = refl; items = refl }, tt)))))))))

none-later-lawful : IsCourse next_run_view none_heard_moves
unfolding decode_apdus decode_apdus_within decode_pt_message history payment_text
none-later-lawful = course-tested next_run_view none_heard_moves refl

none-kept-lawful : IsCourse (view_from next_run_view none_heard_moves) (kept_moves (first_unperformed 8))
unfolding decode_apdus decode_apdus_within decode_pt_message history payment_text
none-kept-lawful = (record { idle = record { round = refl; calls = refl }; first = refl }, ((WriteBody 1 (Outcome (first_unperformed 8)), refl, refl), (refl, ((WriteGate 1 (Outcome (first_unperformed 8)), refl, refl), (refl, (record { idle = record { round = refl; calls = refl }; first = refl }, (record { idle = record { round = refl; calls = refl }; first = refl }, (record { idle = record { round = refl; calls = refl }; first = refl }, (record { running = refl; calls = refl; items = refl }, tt)))))))))

recovered-lean : IsLeanCourse (turns_of played_recovered_course) played_recovered_course
recovered-lean = lean-course (next_run_moves ++ reporting_later_moves)
    (course-append asked_view next_run_moves reporting_later_moves next-run-lawful (course-append next_run_view report_heard_moves (kept_moves (first_approval 8)) report-later-lawful report-kept-lawful))
    refl

unperformed-lean : IsLeanCourse (turns_of played_unperformed_course) played_unperformed_course
unperformed-lean = lean-course (next_run_moves ++ reporting_none_later_moves)
    (course-append asked_view next_run_moves reporting_none_later_moves next-run-lawful (course-append next_run_view none_heard_moves (kept_moves (first_unperformed 8)) none-later-lawful none-kept-lawful))
    refl

-- ---- its links

-- its second link, at this place, once the Intent was kept
abbrev second_link : ℕ → MadeLink
second_link place = record { place = place; numbering = first_numbering; records = 1 }

-- the link is of the terminal
abbrev is_of_terminal : MadeLink → Bool
is_of_terminal link = list_any (bytes_eq link.numbering.poi) (codes "T1" ∷ [])

-- where each link that was made is of the terminal, it is the one that was linked
pub all-linked : (past : Past) (links : List MadeLink) → past.links ≡ links → list_all is_of_terminal links ≡ true → HaveAllLinked (codes "T1" ∷ []) past
all-linked past links are all at link found = by_place links all at (ap (λ (l : List MadeLink). slice_get l at) (sym are) ∙ found)
  where
    by_place : (made : List MadeLink) → list_all is_of_terminal made ≡ true → (at : ℕ) → slice_get made at ≡ Some link → is_of_terminal link ≡ true
    by_place [] each at there = absurd (let none : None ≡ Some link = there in cc)
    by_place (one ∷ more) each zero there = let is : Some one ≡ Some link = there in ap is_of_terminal (let same : link ≡ one = cc in same) ∙ (and_parts (is_of_terminal one) (list_all is_of_terminal more) each).0
    by_place (one ∷ more) each (suc at) there = by_place more (and_parts (is_of_terminal one) (list_all is_of_terminal more) each).1 at there

declined-linked : HaveAllLinked (codes "T1" ∷ []) (past_of refused_course)
declined-linked = all-linked (past_of refused_course) (first_link ∷ []) (ap (λ (p : Past). p.links) refused-past) refl

cut-links : (past_of played_cut_course).links ≡ first_link ∷ []
unfolding decode_apdus decode_apdus_within decode_pt_message history payment_text
cut-links = refl

approved-links : (past_of played_approved_course).links ≡ first_link ∷ []
unfolding decode_apdus decode_apdus_within decode_pt_message decode_status decode_status_within decode_status_field decode_field_value history payment_text
approved-links = refl

reported-links : (past_of played_reported_course).links ≡ second_link 27 ∷ first_link ∷ []
unfolding decode_apdus decode_apdus_within decode_pt_message decode_status decode_status_within decode_status_field decode_field_value history payment_text
reported-links = refl

unreported-links : (past_of played_unreported_course).links ≡ second_link 27 ∷ first_link ∷ []
unfolding decode_apdus decode_apdus_within decode_pt_message history payment_text
unreported-links = refl

recovered-links : (past_of played_recovered_course).links ≡ second_link 28 ∷ first_link ∷ []
unfolding decode_apdus decode_apdus_within decode_pt_message decode_status decode_status_within decode_status_field decode_field_value history payment_text
recovered-links = refl

unperformed-links : (past_of played_unperformed_course).links ≡ second_link 28 ∷ first_link ∷ []
unfolding decode_apdus decode_apdus_within decode_pt_message history payment_text
unperformed-links = refl

-- ---- what is heard was sent, and what is booked

-- the exchanges of a payment that is declined
abbrev declined_exchanges : Bool → List PlacedExchange
declined_exchanges own = exchanged own 25 (Sends ack) (exchanged own 24 (Hears (ack ++ abort 0x6C)) (asked_exchanges own))

-- of one that is approved
abbrev pub approved_exchanges : Bool → List PlacedExchange
approved_exchanges own = exchanged own 26 (Sends ack) (exchanged own 25 (Sends ack) (exchanged own 24 (Hears (acknowledgement ++ approval)) (asked_exchanges own)))

-- until the enquiry on the next link, which is made at this place
abbrev linked_again_exchanges : ℕ → Bool → List PlacedExchange
linked_again_exchanges place own =
    exchanged own (place + 5) (Sends enquiry_sent) (exchanged own (place + 4) (Sends ack) (exchanged own (place + 3) (Hears (ack ++ completion)) (exchanged own (place + 1) (Sends register_bytes) (exchanged own place Links (asked_exchanges own)))))

-- where it reports the payment there
abbrev reported_exchanges : ℕ → Bool → List PlacedExchange
reported_exchanges place own = exchanged own (place + 9) (Sends ack) (exchanged own (place + 8) (Sends ack) (exchanged own (place + 7) (Hears (acknowledgement ++ approval)) (linked_again_exchanges place own)))

-- where it reports none
abbrev unreported_exchanges : ℕ → Bool → List PlacedExchange
unreported_exchanges place own = exchanged own (place + 8) (Sends ack) (exchanged own (place + 7) (Hears (ack ++ abort 0x64)) (linked_again_exchanges place own))

declined-exchanges : (poi : List ℕ) → exchanges_of poi refused_course ≡ declined_exchanges (bytes_eq (codes "T1") poi)
unfolding decode_apdus decode_apdus_within decode_pt_message history payment_text
declined-exchanges poi = refl

approved-exchanges : (poi : List ℕ) → exchanges_of poi played_approved_course ≡ approved_exchanges (bytes_eq (codes "T1") poi)
unfolding decode_apdus decode_apdus_within decode_pt_message decode_status decode_status_within decode_status_field decode_field_value history payment_text
approved-exchanges poi = refl

cut-exchanges : (poi : List ℕ) → exchanges_of poi played_cut_course ≡ asked_exchanges (bytes_eq (codes "T1") poi)
unfolding decode_apdus decode_apdus_within decode_pt_message history payment_text
cut-exchanges poi = refl

reported-exchanges : (poi : List ℕ) → exchanges_of poi played_reported_course ≡ reported_exchanges 27 (bytes_eq (codes "T1") poi)
unfolding decode_apdus decode_apdus_within decode_pt_message decode_status decode_status_within decode_status_field decode_field_value history payment_text
reported-exchanges poi = refl

unreported-exchanges : (poi : List ℕ) → exchanges_of poi played_unreported_course ≡ unreported_exchanges 27 (bytes_eq (codes "T1") poi)
unfolding decode_apdus decode_apdus_within decode_pt_message history payment_text
unreported-exchanges poi = refl

recovered-exchanges : (poi : List ℕ) → exchanges_of poi played_recovered_course ≡ reported_exchanges 28 (bytes_eq (codes "T1") poi)
unfolding decode_apdus decode_apdus_within decode_pt_message decode_status decode_status_within decode_status_field decode_field_value history payment_text
recovered-exchanges poi = refl

unperformed-exchanges : (poi : List ℕ) → exchanges_of poi played_unperformed_course ≡ unreported_exchanges 28 (bytes_eq (codes "T1") poi)
unfolding decode_apdus decode_apdus_within decode_pt_message history payment_text
unperformed-exchanges poi = refl

-- what is heard along the course is what was sent, where it is of the terminal's own exchanges
pub played-by : (course : List Move) (setting : Setting) (all : Bool → List PlacedExchange) → ((poi : List ℕ) → exchanges_of poi course ≡ all (bytes_eq (codes "T1") poi)) → HearsSent setting (exchanges_in (all true)) → HearsSent setting (exchanges_in (all false))
    → ArePlayed (λ poi. setting) course
played-by course setting all are own other poi =
    subst (λ exchanges. HearsSent setting (exchanges_in exchanges)) (sym (are poi)) (by-poi (λ test. HearsSent setting (exchanges_in (all test))) own other (bytes_eq (codes "T1") poi))

declined-hears : HearsSent (plays_first (play.Decline 0x6C)) (exchanges_in (declined_exchanges true))
unfolding decode_apdus decode_apdus_within decode_command
declined-hears = (([], refl), (([], refl), (([], refl), tt)))

approved-hears : HearsSent (plays_first play.Approve) (exchanges_in (approved_exchanges true))
unfolding decode_apdus decode_apdus_within decode_command
approved-hears = (([], refl), (([], refl), (([], refl), tt)))

asked-hears : HearsSent (plays_first play.CutAfterBook) (exchanges_in (asked_exchanges true)) × HearsSent (plays_first play.DropAtOnce) (exchanges_in (asked_exchanges true))
unfolding decode_apdus decode_apdus_within decode_command
asked-hears = ((([], refl), (([], refl), tt)), (([], refl), (([], refl), tt)))

reported-hears : HearsSent (plays_first play.CutAfterBook) (exchanges_in (reported_exchanges 27 true)) × HearsSent (plays_first play.Approve) (exchanges_in (reported_exchanges 28 true))
unfolding decode_apdus decode_apdus_within decode_command
reported-hears = ((([], refl), (([], refl), (([], refl), (([], refl), tt)))), (([], refl), (([], refl), (([], refl), (([], refl), tt)))))

unreported-hears : HearsSent (plays_first play.DropAtOnce) (exchanges_in (unreported_exchanges 27 true)) × HearsSent (plays_first (play.Decline 0x6C)) (exchanges_in (unreported_exchanges 28 true))
unfolding decode_apdus decode_apdus_within decode_command
unreported-hears = ((([], refl), (([], refl), (([], refl), (([], refl), tt)))), (([], refl), (([], refl), (([], refl), (([], refl), tt)))))

-- the book is that of the terminal's own exchanges
pub booked-by : (course : List Move) (setting : Setting) (all : Bool → List PlacedExchange) (book : List BookedEntry) → ((poi : List ℕ) → exchanges_of poi course ≡ all (bytes_eq (codes "T1") poi)) → book_along setting (codes "T1") (all true) ≡ book
    → played_book (λ poi. setting) (codes "T1" ∷ []) course ≡ book
booked-by course setting all book are is = append-nil (book_along setting (codes "T1") (exchanges_of (codes "T1") course)) ∙ ap (book_along setting (codes "T1")) (are (codes "T1")) ∙ is

declined-book : book_along (plays_first (play.Decline 0x6C)) (codes "T1") (declined_exchanges true) ≡ []
unfolding decode_apdus decode_apdus_within decode_command
declined-book = refl

approved-book : book_along (plays_first play.Approve) (codes "T1") (approved_exchanges true) ≡ first_entry ∷ []
unfolding decode_apdus decode_apdus_within decode_command
approved-book = refl

cut-book : book_along (plays_first play.CutAfterBook) (codes "T1") (asked_exchanges true) ≡ first_entry ∷ []
unfolding decode_apdus decode_apdus_within decode_command
cut-book = refl

dropped-book : book_along (plays_first play.DropAtOnce) (codes "T1") (asked_exchanges true) ≡ []
unfolding decode_apdus decode_apdus_within decode_command
dropped-book = refl

reported-book : book_along (plays_first play.CutAfterBook) (codes "T1") (reported_exchanges 27 true) ≡ first_entry ∷ []
unfolding decode_apdus decode_apdus_within decode_command
reported-book = refl

unreported-book : book_along (plays_first play.DropAtOnce) (codes "T1") (unreported_exchanges 27 true) ≡ []
unfolding decode_apdus decode_apdus_within decode_command
unreported-book = refl

recovered-book : book_along (plays_first play.Approve) (codes "T1") (reported_exchanges 28 true) ≡ first_entry ∷ []
unfolding decode_apdus decode_apdus_within decode_command
recovered-book = refl

unperformed-book : book_along (plays_first (play.Decline 0x6C)) (codes "T1") (unreported_exchanges 28 true) ≡ []
unfolding decode_apdus decode_apdus_within decode_command
unperformed-book = refl

-- ---- the examples

pub played-examples : PlayedExamples
played-examples = record {
  approved = record {
    lean = approved-lean;
    played = played-by played_approved_course (plays_first play.Approve) approved_exchanges approved-exchanges approved-hears tt;
    linked = all-linked (past_of played_approved_course) (first_link ∷ []) approved-links refl;
    book_is = booked-by played_approved_course (plays_first play.Approve) approved_exchanges (first_entry ∷ []) approved-exchanges approved-book;
  };
  declined = record {
    lean = declined-lean;
    played = played-by refused_course (plays_first (play.Decline 0x6C)) declined_exchanges declined-exchanges declined-hears tt;
    linked = declined-linked;
    book_is = booked-by refused_course (plays_first (play.Decline 0x6C)) declined_exchanges [] declined-exchanges declined-book;
  };
  booked = record {
    lean = cut-lean;
    played = played-by played_cut_course (plays_first play.CutAfterBook) asked_exchanges cut-exchanges asked-hears.0 tt;
    linked = all-linked (past_of played_cut_course) (first_link ∷ []) cut-links refl;
    book_is = booked-by played_cut_course (plays_first play.CutAfterBook) asked_exchanges (first_entry ∷ []) cut-exchanges cut-book;
  };
  dropped = record {
    lean = cut-lean;
    played = played-by played_cut_course (plays_first play.DropAtOnce) asked_exchanges cut-exchanges asked-hears.1 tt;
    linked = all-linked (past_of played_cut_course) (first_link ∷ []) cut-links refl;
    book_is = booked-by played_cut_course (plays_first play.DropAtOnce) asked_exchanges [] cut-exchanges dropped-book;
  };
  booked_reported = record {
    lean = reported-lean;
    played = played-by played_reported_course (plays_first play.CutAfterBook) (reported_exchanges 27) reported-exchanges reported-hears.0 tt;
    linked = all-linked (past_of played_reported_course) (second_link 27 ∷ first_link ∷ []) reported-links refl;
    book_is = booked-by played_reported_course (plays_first play.CutAfterBook) (reported_exchanges 27) (first_entry ∷ []) reported-exchanges reported-book;
  };
  dropped_reported = record {
    lean = unreported-lean;
    played = played-by played_unreported_course (plays_first play.DropAtOnce) (unreported_exchanges 27) unreported-exchanges unreported-hears.0 tt;
    linked = all-linked (past_of played_unreported_course) (second_link 27 ∷ first_link ∷ []) unreported-links refl;
    book_is = booked-by played_unreported_course (plays_first play.DropAtOnce) (unreported_exchanges 27) [] unreported-exchanges unreported-book;
  };
  approved_recovered = record {
    lean = recovered-lean;
    played = played-by played_recovered_course (plays_first play.Approve) (reported_exchanges 28) recovered-exchanges reported-hears.1 tt;
    linked = all-linked (past_of played_recovered_course) (second_link 28 ∷ first_link ∷ []) recovered-links refl;
    book_is = booked-by played_recovered_course (plays_first play.Approve) (reported_exchanges 28) (first_entry ∷ []) recovered-exchanges recovered-book;
  };
  declined_recovered = record {
    lean = unperformed-lean;
    played = played-by played_unperformed_course (plays_first (play.Decline 0x6C)) (unreported_exchanges 28) unperformed-exchanges unreported-hears.1 tt;
    linked = all-linked (past_of played_unperformed_course) (second_link 28 ∷ first_link ∷ []) unperformed-links refl;
    book_is = booked-by played_unperformed_course (plays_first (play.Decline 0x6C)) (unreported_exchanges 28) [] unperformed-exchanges unperformed-book;
  };
}
