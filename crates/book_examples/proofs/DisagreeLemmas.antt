-- What doesn't agree, and the books that aren't honest.
use Rattle.std.proofs.Common.{◌≡◌, Bool, true, false, List, [], ◌∷◌, ◌++◌, refl, sym, ap, subst, arith}
use Rattle.std.specs.Prelude.{take, Some, None, codes, map}
use Rattle.std.specs.Fmt.{digits}
use Rattle.std.specs.List.{list_all}
use Rattle.gw_base.specs.declared.condition.Condition.{Condition}
use Rattle.gw_base.specs.declared.condition.Condition.TheVariants.{InProgress, NotAllowed, NotFound, UnavailableDevice}
use Rattle.gw_base.specs.declared.currency.Currency.TheVariants.{Eur}
use Rattle.gw_base.specs.Transaction.{transaction_text}
use Rattle.gw_site.specs.declared.turn.Turn.TheVariants.{HeardTill, Linked, SentPt, Wrote}
use Rattle.json_text.specs.declared.fault.FaultKind.TheVariants.{NotJson}
use Rattle.sale_frame.specs.Grammar.{frame}
use Rattle.gw_owes.specs.ReadAs.{NoJson}
use Rattle.zvt_apdu.specs.DecodeStream.{decode_apdus, decode_apdus_within}
use Rattle.zvt_bmp.specs.Decode.{decode_field_value, decode_status_field, decode_status_within, decode_status}
use Rattle.zvt_msg.specs.MessageDecode.{decode_pt_message}
use Rattle.sale_values.specs.Money.{money_text}
use Rattle.sale_values.specs.declared.header.Header.{Header}
use Rattle.sale_values.specs.declared.request.SaleRequest.{SaleRequest}
use Rattle.sale_values.specs.declared.request.SaleRequest.TheVariants as requests
use Rattle.sale_msg.specs.Path.{tree_at}
use Rattle.sale_reply.specs.Limits.{IsHeaderWithinLimits, IsToldWithinLimits}
use Rattle.sale_reply.specs.Reply.{message_tree, header_tree, result_tree, sale_data, poi_data, payment_result, approved_body, result_body, status_body, repeated_message}
use Rattle.sale_reply.specs.declared.reply.SaleReply.TheVariants as reply
use Rattle.sale_reply.specs.declared.reply.Told.{Told as ResultBody}
use Rattle.sale_reply.specs.declared.reply.Told.TheVariants.{PaymentApproved}
use Rattle.jrn_record.specs.declared.records.Record.TheVariants.{Intent, Outcome}
use Rattle.gw_ledger.specs.History.{history}
use Rattle.gw_owes.specs.Reply.{ReplyValue, Repeated, reply_value_tree, reply_value_bytes}
use Rattle.gw_owes.specs.Replies.{header_of_reply, failure, failure_reply}
use Rattle.gw_rules.proofs.TextLemmas.{ident-tested}
use Rattle.gw_rules.specs.View.{Begin, Read, Make}
use Rattle.gw_books.specs.Agrees.{are_distinct_keys, entry_key, success_agrees, refusal_agrees, unaccepted_agrees, not_found_agrees, in_progress_agrees, report_resolves, is_inside, EachSaid, Agrees}
use Rattle.gw_books.specs.Books.{BookedEntry, Honest, is_caused, is_of_its_link}
use Rattle.gw_books.specs.BrokenLaws.{BreaksAgreement}
use Rattle.gw_books.specs.Example.{polled_linked, asked_past, opened_moves, payment_text, paying_header, payment_ask, paying_intent, kept_approval, approved_mark, paid_result_body, paid_reply, sent_success, authorise, asked_course, paid_course, payment_command, paid_entry, refusal_reply, entry_in_time}
use Rattle.gw_books.specs.Past.{OfRequest, OfNothing, SentReply, MadePoll, Past, past_of}
use Rattle.gw_books.specs.ReversalExample.{misasked_course}
use Rattle.gw_books.specs.Said.{all_said, IsFramed}
use Rattle.gw_books.proofs.BrokenLemmas.{no-false, not-true, breaks-by, last-refused}
use Rattle.gw_books.proofs.ExampleLemmas.{Agreement, each-agrees, header-within, approved-within, success-framed, refusal-framed}
use Rattle.gw_books.proofs.MessageLemmas.{reply-framed}
use Rattle.book_examples.specs.DisagreeExample.{twice_course, twice_booked, course_sent, status_asking_header, other_paying_header, own_status_header, course_replied, unresolved_course, TwiceDisagrees, EntriesOfOneKey, KeylessDisagrees, UnbookedDisagrees, LaterEntryDisagrees, ProgressDisagrees, UnacceptedDisagrees, SameContentDisagrees, OtherKeyDisagrees, OtherContentAgrees, NotFoundDisagrees, RepeatAgrees, OtherRepeatDisagrees, OutsideDisagrees, UnresolvedDisagrees, WaitingIsInProgress, UnreportedMayBeOpen, LinksEnd, UncausedBooks, DisorderedBooks, UntrueBooks, ReportedBooks, OtherTerminalBooks, other_numbering}
use Rattle.book_examples.specs.Example.{later_entry}

-- ---- commands

-- what has happened where the command is sent twice
abbrev twice_past : Past
twice_past = record asked_past { place = 24; commands = record payment_command { place = 23 } ∷ asked_past.commands; deeds = OfNothing ∷ asked_past.deeds }

twice-past : past_of twice_course ≡ twice_past
unfolding decode_apdus decode_apdus_within decode_pt_message history payment_text
twice-past = refl

sent-twice : (book : List BookedEntry) → ¬ Agrees twice_past book
sent-twice book agrees = no-false agrees.sent_once

pub twice-disagrees : TwiceDisagrees
twice-disagrees = breaks-by twice_course twice_past [] twice-past (record { caused = refl; linked = refl; ordered = refl; numbered = refl; true_ends = refl }) (sent-twice [])

pub entries-of-one-key : EntriesOfOneKey
entries-of-one-key = record {
  breaks = breaks-by twice_course twice_past twice_booked twice-past (record { caused = refl; linked = refl; ordered = refl; numbered = refl; true_ends = refl }) (sent-twice twice_booked);
  one_key = ap (λ past. are_distinct_keys (map (entry_key past) twice_booked)) twice-past;
}

-- what has happened where a command has no key
abbrev keyless_past : Past
keyless_past = record asked_past {
  place = 17;
  commands = record payment_command { place = 16; key = None } ∷ [];
  polls = polled_linked 14 [] ∷ polled_linked 11 [] ∷ polled_linked 7 [] ∷ record { place = 4; links = []; kept = [] } ∷ [];
  deeds = OfNothing ∷ [];
}

keyless-past : past_of (opened_moves ++ Make (SentPt 0 authorise true) ∷ []) ≡ keyless_past
unfolding decode_apdus decode_apdus_within decode_pt_message history
keyless-past = refl

pub keyless-disagrees : KeylessDisagrees
keyless-disagrees = breaks-by (opened_moves ++ Make (SentPt 0 authorise true) ∷ []) keyless_past [] keyless-past (record { caused = refl; linked = refl; ordered = refl; numbered = refl; true_ends = refl }) (λ agrees. no-false agrees.keyed)

-- ---- replies

-- the reply after the command
abbrev early_sent : ReplyValue → SentReply
early_sent reply = record { place = 23; bytes = reply_value_bytes reply; occasion = OfNothing; kept = Intent paying_intent ∷ []; waiting = [] }

-- what has happened until then
abbrev early_past : ReplyValue → Past
early_past reply = record asked_past { place = 24; replies = early_sent reply ∷ [] }

early-past : (reply : ReplyValue) → past_of (course_sent reply) ≡ early_past reply
unfolding decode_apdus decode_apdus_within decode_pt_message history payment_text
early-past reply = refl

unbooked : (book : List BookedEntry) → Honest (early_past paid_reply) book → list_all (success_agrees (early_past paid_reply) book (early_sent paid_reply)) (all_said (reply_value_tree paid_reply)) ≡ false
    → BreaksAgreement (course_sent paid_reply) book
unbooked book honest f =
    breaks-by (course_sent paid_reply) (early_past paid_reply) book (early-past paid_reply) honest
    (λ agrees. last-refused success_agrees (early_past paid_reply) book (early_sent paid_reply) [] (reply_value_tree paid_reply) refl success-framed f agrees.success)

none-booked : list_all (success_agrees (early_past paid_reply) [] (early_sent paid_reply)) (all_said (reply_value_tree paid_reply)) ≡ false
unfolding history message_tree header_tree result_tree sale_data poi_data payment_result approved_body result_body transaction_text money_text digits tree_at
none-booked = refl

older-booked : list_all (success_agrees (early_past paid_reply) (record paid_entry { numbering = other_numbering; place = 0; cause = None } ∷ []) (early_sent paid_reply)) (all_said (reply_value_tree paid_reply)) ≡ false
unfolding history message_tree header_tree result_tree sale_data poi_data payment_result approved_body result_body transaction_text money_text digits tree_at
older-booked = refl

later-booked : list_all (success_agrees (early_past paid_reply) (paid_entry ∷ []) (early_sent paid_reply)) (all_said (reply_value_tree paid_reply)) ≡ false
unfolding history message_tree header_tree result_tree sale_data poi_data payment_result approved_body result_body transaction_text money_text digits tree_at
later-booked = refl

declined-booked : list_all (success_agrees (early_past paid_reply) (record entry_in_time { approved = false } ∷ []) (early_sent paid_reply)) (all_said (reply_value_tree paid_reply)) ≡ false
unfolding history message_tree header_tree result_tree sale_data poi_data payment_result approved_body result_body transaction_text money_text digits tree_at
declined-booked = refl

other-amount : list_all (success_agrees (early_past paid_reply) (record entry_in_time { amount = 1000 } ∷ []) (early_sent paid_reply)) (all_said (reply_value_tree paid_reply)) ≡ false
unfolding history message_tree header_tree result_tree sale_data poi_data payment_result approved_body result_body transaction_text money_text digits tree_at
other-amount = refl

other-receipt : list_all (success_agrees (early_past paid_reply) (record entry_in_time { receipt = 18 } ∷ []) (early_sent paid_reply)) (all_said (reply_value_tree paid_reply)) ≡ false
unfolding history message_tree header_tree result_tree sale_data poi_data payment_result approved_body result_body transaction_text money_text digits tree_at
other-receipt = refl

pub unbooked-disagrees : UnbookedDisagrees
unbooked-disagrees = record {
  none = unbooked [] (record { caused = refl; linked = refl; ordered = refl; numbered = refl; true_ends = refl }) none-booked;
  older = unbooked (record paid_entry { numbering = other_numbering; place = 0; cause = None } ∷ []) (record { caused = refl; linked = refl; ordered = refl; numbered = refl; true_ends = refl }) older-booked;
  later = unbooked (paid_entry ∷ []) (record { caused = refl; linked = refl; ordered = refl; numbered = refl; true_ends = refl }) later-booked;
  declined = unbooked (record entry_in_time { approved = false } ∷ []) (record { caused = refl; linked = refl; ordered = refl; numbered = refl; true_ends = refl }) declined-booked;
  amount = unbooked (record entry_in_time { amount = 1000 } ∷ []) (record { caused = refl; linked = refl; ordered = refl; numbered = refl; true_ends = refl }) other-amount;
  receipt = unbooked (record entry_in_time { receipt = 18 } ∷ []) (record { caused = refl; linked = refl; ordered = refl; numbered = refl; true_ends = refl }) other-receipt;
}

approved-later : list_all (refusal_agrees (early_past refusal_reply) (later_entry ∷ []) (early_sent refusal_reply)) (all_said (reply_value_tree refusal_reply)) ≡ false
unfolding history message_tree header_tree result_tree sale_data poi_data result_body transaction_text digits tree_at
approved-later = refl

pub later-entry-disagrees : LaterEntryDisagrees
later-entry-disagrees =
    breaks-by (course_sent refusal_reply) (early_past refusal_reply) (later_entry ∷ []) (early-past refusal_reply) (record { caused = refl; linked = refl; ordered = refl; numbered = refl; true_ends = refl })
    (λ agrees. last-refused refusal_agrees (early_past refusal_reply) (later_entry ∷ []) (early_sent refusal_reply) [] (reply_value_tree refusal_reply) refl refusal-framed approved-later agrees.refusal)

-- ---- what is replied after the payment

abbrev replied_past : Header → SaleRequest → ReplyValue → Past
replied_past header request reply = past_of (course_replied header request reply)

-- the reply, at place 34
replied_sent : Header → SaleRequest → ReplyValue → SentReply
replied_sent header request reply = record { place = 34; bytes = reply_value_bytes reply; occasion = OfRequest header request; kept = Intent paying_intent ∷ Outcome kept_approval ∷ []; waiting = [] }

replied-are : (header : Header) (request : SaleRequest) (reply : ReplyValue) → (replied_past header request reply).replies ≡ replied_sent header request reply ∷ sent_success ∷ []
unfolding decode_apdus decode_apdus_within decode_pt_message decode_status decode_status_within decode_status_field decode_field_value history payment_text replied_sent
replied-are header request reply = refl

-- the book with the entry of the payment is honest
replied-honest : (header : Header) (request : SaleRequest) (reply : ReplyValue) → Honest (replied_past header request reply) (paid_entry ∷ [])
unfolding decode_apdus decode_apdus_within decode_pt_message decode_status decode_status_within decode_status_field decode_field_value history payment_text
replied-honest header request reply = record { caused = refl; linked = refl; ordered = refl; numbered = refl; true_ends = refl }

-- a failure with this header is framed
failure-framed : (header : Header) (condition : Condition) → IsHeaderWithinLimits (header_of_reply header) → IsFramed (reply_value_bytes (failure_reply header condition)) (reply_value_tree (failure_reply header condition))
failure-framed header condition within = reply-framed (failure_reply header condition) (reply.Plain (header_of_reply header) (failure condition)) refl (within, tt)

-- what a reply says, whatever has happened else and is booked
abbrev SaysAfter : Agreement → Header → SaleRequest → ReplyValue → Bool → Type 0
SaysAfter agrees header request reply result = (past : Past) (book : List BookedEntry) → list_all (agrees past book (replied_sent header request reply)) (all_said (reply_value_tree reply)) ≡ result

-- the failure doesn't agree
refused-after : (agrees : Agreement) (header : Header) (request : SaleRequest) (condition : Condition) (book : List BookedEntry) → IsHeaderWithinLimits (header_of_reply header)
    → SaysAfter agrees header request (failure_reply header condition) false → EachSaid agrees (replied_past header request (failure_reply header condition)) book → ⊥
unfolding replied_sent
refused-after agrees header request condition book within f each =
    let reply = failure_reply header condition in
    let past = replied_past header request reply in
    last-refused agrees past book (replied_sent header request reply) (sent_success ∷ []) (reply_value_tree reply) (replied-are header request reply) (failure-framed header condition within) (f past book) each

-- nor does one to another request
refused-beside : (agrees : Agreement) (asking header : Header) (request : SaleRequest) (condition : Condition) (book : List BookedEntry) → IsHeaderWithinLimits (header_of_reply header)
    → SaysAfter agrees asking request (failure_reply header condition) false → EachSaid agrees (replied_past asking request (failure_reply header condition)) book → ⊥
unfolding replied_sent
refused-beside agrees asking header request condition book within f each =
    let reply = failure_reply header condition in
    let past = replied_past asking request reply in
    last-refused agrees past book (replied_sent asking request reply) (sent_success ∷ []) (reply_value_tree reply) (replied-are asking request reply) (failure-framed header condition within) (f past book) each

-- both replies agree
agree-after : (agrees : Agreement) (header : Header) (request : SaleRequest) (reply : ReplyValue) (book : List BookedEntry) → IsFramed (reply_value_bytes reply) (reply_value_tree reply)
    → list_all (agrees (replied_past header request reply) book (replied_sent header request reply)) (all_said (reply_value_tree reply)) ≡ true
    → list_all (agrees (replied_past header request reply) book sent_success) (all_said (reply_value_tree paid_reply)) ≡ true → EachSaid agrees (replied_past header request reply) book
unfolding replied_sent
agree-after agrees header request reply book framed one other =
    each-agrees agrees (replied_past header request reply) book (replied_sent header request reply ∷ sent_success ∷ []) (replied-are header request reply)
    (record { message = reply_value_tree reply; framed = framed; passes = one }, (record { message = reply_value_tree paid_reply; framed = success-framed; passes = other }, tt))

abbrev same_ask : SaleRequest
same_ask = requests.Payment payment_ask

progress-false : SaysAfter in_progress_agrees paying_header same_ask (failure_reply paying_header InProgress) false
unfolding history message_tree header_tree result_tree tree_at replied_sent
progress-false past book = refl

pub progress-disagrees : ProgressDisagrees
progress-disagrees = record {
  honest = replied-honest paying_header same_ask (failure_reply paying_header InProgress);
  disagrees = λ agrees. refused-after in_progress_agrees paying_header same_ask InProgress (paid_entry ∷ []) header-within progress-false agrees.in_progress;
}

device-false : SaysAfter unaccepted_agrees paying_header same_ask (failure_reply paying_header UnavailableDevice) false
unfolding history message_tree header_tree result_tree tree_at replied_sent
device-false past book = refl

pub unaccepted-disagrees : UnacceptedDisagrees
unaccepted-disagrees = record {
  honest = replied-honest paying_header same_ask (failure_reply paying_header UnavailableDevice);
  disagrees = λ agrees. refused-after unaccepted_agrees paying_header same_ask UnavailableDevice (paid_entry ∷ []) header-within device-false agrees.unaccepted;
}

same-false : SaysAfter unaccepted_agrees paying_header same_ask (failure_reply paying_header NotAllowed) false
unfolding history message_tree header_tree result_tree tree_at replied_sent
same-false past book = refl

pub same-content-disagrees : SameContentDisagrees
same-content-disagrees = record {
  honest = replied-honest paying_header same_ask (failure_reply paying_header NotAllowed);
  disagrees = λ agrees. refused-after unaccepted_agrees paying_header same_ask NotAllowed (paid_entry ∷ []) header-within same-false agrees.unaccepted;
}

abbrev other_ask : SaleRequest
other_ask = requests.Payment (record payment_ask { amount = 500 })

other-true : SaysAfter unaccepted_agrees paying_header other_ask (failure_reply paying_header NotAllowed) true
unfolding history message_tree header_tree result_tree tree_at replied_sent
other-true past book = refl

success-true : (past : Past) (book : List BookedEntry) → list_all (unaccepted_agrees past book sent_success) (all_said (reply_value_tree paid_reply)) ≡ true
unfolding history message_tree header_tree result_tree sale_data poi_data payment_result approved_body result_body transaction_text money_text digits tree_at
success-true past book = refl

pub other-content-agrees : OtherContentAgrees
other-content-agrees =
    let reply = failure_reply paying_header NotAllowed in
    let past = replied_past paying_header other_ask reply in
    agree-after unaccepted_agrees paying_header other_ask reply (paid_entry ∷ []) (failure-framed paying_header NotAllowed header-within) (other-true past (paid_entry ∷ [])) (success-true past (paid_entry ∷ []))

-- ---- other keys

other-key-false : SaysAfter unaccepted_agrees other_paying_header other_ask (failure_reply paying_header NotAllowed) false
unfolding history message_tree header_tree result_tree tree_at replied_sent
other-key-false past book = refl

abbrev unknown_ask : SaleRequest
unknown_ask = requests.Status (Some (record { service = codes "9"; sale = None; poi = None }))

own-status-within : IsHeaderWithinLimits (header_of_reply own_status_header)
own-status-within = record { category = ident-tested 40 (codes "TransactionStatus") refl; service = ident-tested 10 (codes "7") refl; device = tt; sale = ident-tested 40 (codes "S1") refl; poi = ident-tested 40 (codes "T1") refl }

own-key-false : SaysAfter not_found_agrees status_asking_header unknown_ask (failure_reply own_status_header NotFound) false
unfolding history message_tree header_tree result_tree tree_at replied_sent
own-key-false past book = refl

pub other-key-disagrees : OtherKeyDisagrees
other-key-disagrees = record {
  not_allowed = record {
    honest = replied-honest other_paying_header other_ask (failure_reply paying_header NotAllowed);
    disagrees = λ agrees. refused-beside unaccepted_agrees other_paying_header paying_header other_ask NotAllowed (paid_entry ∷ []) header-within other-key-false agrees.unaccepted;
  };
  not_found = record {
    honest = replied-honest status_asking_header unknown_ask (failure_reply own_status_header NotFound);
    disagrees = λ agrees. refused-beside not_found_agrees status_asking_header own_status_header unknown_ask NotFound (paid_entry ∷ []) own-status-within own-key-false agrees.not_found;
  };
}

-- ---- a status

pub asking-within : IsHeaderWithinLimits (header_of_reply status_asking_header)
asking-within = record { category = ident-tested 40 (codes "TransactionStatus") refl; service = ident-tested 10 (codes "8") refl; device = tt; sale = ident-tested 40 (codes "S1") refl; poi = ident-tested 40 (codes "T1") refl }

abbrev named_ask : SaleRequest
named_ask = requests.Status (Some (record { service = codes "7"; sale = None; poi = None }))

named-false : SaysAfter not_found_agrees status_asking_header named_ask (failure_reply status_asking_header NotFound) false
unfolding history message_tree header_tree result_tree tree_at replied_sent
named-false past book = refl

last-false : SaysAfter not_found_agrees status_asking_header (requests.Status None) (failure_reply status_asking_header NotFound) false
unfolding history message_tree header_tree result_tree tree_at replied_sent
last-false past book = refl

pub not-found-disagrees : NotFoundDisagrees
not-found-disagrees = record {
  named = record {
    honest = replied-honest status_asking_header named_ask (failure_reply status_asking_header NotFound);
    disagrees = λ agrees. refused-after not_found_agrees status_asking_header named_ask NotFound (paid_entry ∷ []) asking-within named-false agrees.not_found;
  };
  last = record {
    honest = replied-honest status_asking_header (requests.Status None) (failure_reply status_asking_header NotFound);
    disagrees = λ agrees. refused-after not_found_agrees status_asking_header (requests.Status None) NotFound (paid_entry ∷ []) asking-within last-false agrees.not_found;
  };
}

-- the reply that repeats this
abbrev repeats : ResultBody → ReplyValue
repeats result = Repeated (header_of_reply status_asking_header) (header_of_reply paying_header) result

repeat-framed : (result : ResultBody) → IsToldWithinLimits result → IsFramed (reply_value_bytes (repeats result)) (reply_value_tree (repeats result))
repeat-framed result within = reply-framed (repeats result) (reply.Status (header_of_reply status_asking_header) (header_of_reply paying_header) result) refl (asking-within, header-within, within)

-- the past of a course that goes on after the payment has its commands
commands-are : (header : Header) (request : SaleRequest) (reply : ReplyValue) → (replied_past header request reply).commands ≡ payment_command ∷ []
unfolding decode_apdus decode_apdus_within decode_pt_message decode_status decode_status_within decode_status_field decode_field_value history payment_text
commands-are header request reply = refl

-- a repeat, by the commands alone
repeat-says : (past : Past) → past.commands ≡ payment_command ∷ [] → list_all (success_agrees past (paid_entry ∷ []) (replied_sent status_asking_header (requests.Status None) (repeats paid_result_body))) (all_said (reply_value_tree (repeats paid_result_body))) ≡ true
unfolding history message_tree header_tree result_tree sale_data poi_data payment_result approved_body result_body status_body repeated_message transaction_text money_text digits tree_at replied_sent
repeat-says past e = subst (λ commands. list_all (success_agrees (record past { commands = commands }) (paid_entry ∷ []) (replied_sent status_asking_header (requests.Status None) (repeats paid_result_body))) (all_said (reply_value_tree (repeats paid_result_body))) ≡ true) (sym e) refl

success-says : (past : Past) → past.commands ≡ payment_command ∷ [] → list_all (success_agrees past (paid_entry ∷ []) sent_success) (all_said (reply_value_tree paid_reply)) ≡ true
unfolding history message_tree header_tree result_tree sale_data poi_data payment_result approved_body result_body transaction_text money_text digits tree_at
success-says past e = subst (λ commands. list_all (success_agrees (record past { commands = commands }) (paid_entry ∷ []) sent_success) (all_said (reply_value_tree paid_reply)) ≡ true) (sym e) refl

pub repeat-agrees : RepeatAgrees
repeat-agrees =
    let past = replied_past status_asking_header (requests.Status None) (repeats paid_result_body) in
    let commands = commands-are status_asking_header (requests.Status None) (repeats paid_result_body) in
    agree-after success_agrees status_asking_header (requests.Status None) (repeats paid_result_body) (paid_entry ∷ []) (repeat-framed paid_result_body approved-within) (repeat-says past commands) (success-says past commands)

abbrev other_result : ResultBody
other_result = PaymentApproved (codes "X1") (codes "2026-11-27T12:00:00Z") (record approved_mark { receipt = 18 }) 1099 (record { minor = 1099; currency = Eur })

other-within : IsToldWithinLimits other_result
other-within = (approved-within.0, approved-within.1, record { six_digits = omega arith; four_digits = omega arith; slot_fits = omega arith }, omega arith)

other-says : (past : Past) → past.commands ≡ payment_command ∷ [] → list_all (success_agrees past (paid_entry ∷ []) (replied_sent status_asking_header (requests.Status None) (repeats other_result))) (all_said (reply_value_tree (repeats other_result))) ≡ false
unfolding history message_tree header_tree result_tree sale_data poi_data payment_result approved_body result_body status_body repeated_message transaction_text money_text digits tree_at replied_sent
other-says past e = subst (λ commands. list_all (success_agrees (record past { commands = commands }) (paid_entry ∷ []) (replied_sent status_asking_header (requests.Status None) (repeats other_result))) (all_said (reply_value_tree (repeats other_result))) ≡ false) (sym e) refl

not-repeated : ¬ Agrees (replied_past status_asking_header (requests.Status None) (repeats other_result)) (paid_entry ∷ [])
unfolding replied_sent
not-repeated agrees =
    let past = replied_past status_asking_header (requests.Status None) (repeats other_result) in
    last-refused success_agrees past (paid_entry ∷ []) (replied_sent status_asking_header (requests.Status None) (repeats other_result)) (sent_success ∷ []) (reply_value_tree (repeats other_result))
    (replied-are status_asking_header (requests.Status None) (repeats other_result)) (repeat-framed other_result other-within) (other-says past (commands-are status_asking_header (requests.Status None) (repeats other_result))) agrees.success

pub other-repeat-disagrees : OtherRepeatDisagrees
other-repeat-disagrees = record { honest = replied-honest status_asking_header (requests.Status None) (repeats other_result); disagrees = not-repeated }

-- ---- outside input, and enquiries

abbrev outside_past : Past
outside_past = past_of (paid_course ++ Make (HeardTill 1 (frame (0 ∷ []))) ∷ Read (NoJson (record { at = 0; kind = NotJson })) ∷ Begin ∷ Make (Wrote 513 (0 ∷ [])) ∷ [])

outside-honest : Honest outside_past (paid_entry ∷ [])
unfolding decode_apdus decode_apdus_within decode_pt_message decode_status decode_status_within decode_status_field decode_field_value history payment_text
outside-honest = record { caused = refl; linked = refl; ordered = refl; numbered = refl; true_ends = refl }

outside-deeds : list_all is_inside outside_past.deeds ≡ false
unfolding decode_apdus decode_apdus_within decode_pt_message decode_status decode_status_within decode_status_field decode_field_value history payment_text
outside-deeds = refl

pub outside-disagrees : OutsideDisagrees
outside-disagrees = record { honest = outside-honest; disagrees = λ agrees. not-true _ outside-deeds agrees.inside }

unresolved-poll : list_all (λ (poll : MadePoll). list_all (report_resolves (past_of unresolved_course) poll) poll.links) (past_of unresolved_course).polls ≡ false
unfolding decode_apdus decode_apdus_within decode_pt_message history payment_text
unresolved-poll = refl

unresolved-honest : Honest (past_of unresolved_course) []
unfolding decode_apdus decode_apdus_within decode_pt_message history payment_text
unresolved-honest = record { caused = refl; linked = refl; ordered = refl; numbered = refl; true_ends = refl }

pub unresolved-disagrees : UnresolvedDisagrees
unresolved-disagrees = record { honest = unresolved-honest; disagrees = λ agrees. not-true _ unresolved-poll agrees.resolved }

pub unreported-may-be-open : UnreportedMayBeOpen
unfolding decode_apdus decode_apdus_within decode_pt_message history payment_text
unreported-may-be-open = refl

pub links-end : LinksEnd
unfolding decode_apdus decode_apdus_within decode_pt_message history payment_text
links-end = record { cut = refl; start = refl; crash = refl }

-- ---- books that aren't honest

in-part-false : list_all (λ (entry : BookedEntry). is_caused (past_of (opened_moves ++ Make (SentPt 0 (take 5 authorise) false) ∷ [])) entry entry.cause) (record paid_entry { cause = Some 16 } ∷ []) ≡ false
unfolding decode_apdus decode_apdus_within decode_pt_message history
in-part-false = refl

-- the command of a reversal caused no payment
payment-false : list_all (λ (entry : BookedEntry). is_caused (past_of misasked_course) entry entry.cause) (paid_entry ∷ []) ≡ false
unfolding decode_apdus decode_apdus_within decode_pt_message history payment_text
payment-false = refl

replaced-false : list_all (is_of_its_link (past_of (asked_course ++ Make (Linked 0) ∷ []))) (later_entry ∷ []) ≡ false
unfolding decode_apdus decode_apdus_within decode_pt_message history payment_text
replaced-false = refl

pub uncaused-books : UncausedBooks
uncaused-books = record {
  unsent = λ honest. no-false honest.caused;
  elsewhere = λ honest. no-false honest.caused;
  reversal = λ honest. no-false honest.caused;
  refund = λ honest. no-false honest.caused;
  payment = λ honest. not-true _ payment-false honest.caused;
  in_part = λ honest. not-true _ in-part-false honest.caused;
  before = λ honest. no-false honest.caused;
  without = λ honest. no-false honest.caused;
  replaced = λ honest. not-true _ replaced-false honest.linked;
}

pub disordered-books : DisorderedBooks
disordered-books = record {
  falling = λ honest. no-false honest.ordered;
  same = λ honest. no-false honest.ordered;
  unplaced = λ honest. no-false honest.ordered;
  double = λ honest. no-false honest.ordered;
  number = λ honest. no-false honest.numbered;
  receipt = λ honest. no-false honest.numbered;
}

pub untrue-books : UntrueBooks
untrue-books = record {
  unbooked = λ honest. no-false honest.true_ends;
  amount = λ honest. no-false honest.true_ends;
  late = λ honest. no-false honest.true_ends;
  declined = λ honest. no-false honest.true_ends;
  declined_later = λ honest. no-false honest.true_ends;
  declined_late = λ honest. no-false honest.true_ends;
  unknown = λ honest. no-false honest.true_ends;
  unreported = λ honest. no-false honest.true_ends;
  none = λ honest. no-false honest.true_ends;
  other = λ honest. no-false honest.true_ends;
  approved = λ honest. no-false honest.true_ends;
  not_approved = λ honest. no-false honest.true_ends;
}

pub reported-books : ReportedBooks
reported-books = record {
  approved = record { caused = refl; linked = refl; ordered = refl; numbered = refl; true_ends = refl };
  declined = record { caused = refl; linked = refl; ordered = refl; numbered = refl; true_ends = refl };
  refused = record { caused = refl; linked = refl; ordered = refl; numbered = refl; true_ends = refl };
}

pub other-terminal-books : OtherTerminalBooks
other-terminal-books = record {
  entry = record { caused = refl; linked = refl; ordered = refl; numbered = refl; true_ends = refl };
  link = record { caused = refl; linked = refl; ordered = refl; numbered = refl; true_ends = refl };
  refund = record { caused = refl; linked = refl; ordered = refl; numbered = refl; true_ends = refl };
}

pub waiting-is-in-progress : WaitingIsInProgress
unfolding history
waiting-is-in-progress = record { waits = refl; waits_not = refl }
