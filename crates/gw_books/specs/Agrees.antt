-- What was done, and what tills were sent, against the book.
use Rattle.std.specs.Prelude.{◌≡◌, ℕ, Bool, true, false, nat_lt, nat_le, ◌&&◌, ◌||◌, ◌==◌, not, is_some, bytes_eq, codes, if◌then◌else◌, All, List, [], ◌∷◌, map, find, Option, Some, None}
use Rattle.std.specs.List.{list_any, list_all}
use Rattle.std.specs.Option.{option_and_then, option_map, option_to_list}
use Rattle.gw_base.specs.Transaction.{transaction_text}
use Rattle.gw_base.specs.declared.key.Key.{Key}
use Rattle.json_text.specs.Tree.{Tree}
use Rattle.sale_values.specs.Key.{key_of}
use Rattle.sale_values.specs.Money.{money_text}
use Rattle.sale_values.specs.declared.header.Header.{Header}
use Rattle.sale_values.specs.declared.request.Reference.{Reference}
use Rattle.sale_values.specs.declared.request.SaleRequest.{SaleRequest}
use Rattle.sale_values.specs.declared.request.SaleRequest.TheVariants as requests
use Rattle.jrn_record.specs.declared.records.Record.{Record}
use Rattle.gw_ledger.specs.declared.entry.Entry.{Entry}
use Rattle.gw_ledger.specs.Accounts.{open_slot}
use Rattle.gw_ledger.specs.Fold.{found_of, last_entry}
use Rattle.gw_ledger.specs.Keys.{is_key, intent_key, same_key, slot_of}
use Rattle.gw_ledger.specs.Slots.{intent_at, is_open}
use Rattle.gw_owes.specs.Content.{has_same_content}
use Rattle.gw_books.specs.Kinds.{BookedPayment, BookedReversal, is_kind}
use Rattle.gw_books.specs.Past.{Occasion, OfRequest, OfMessage, OfNothing, SentCommand, MadeLink, Ending, Approved, Declined, Reported, HeardEnd, SentReply, MadePoll, Past}
use Rattle.gw_books.specs.Books.{BookedEntry}
use Rattle.gw_books.specs.Said.{Said, all_said, IsFramed}
use Rattle.gw_books.specs.SaidLaws.{header_key}

-- ---- one command a key, and one entry a key

-- the key of the command that was sent at a place
abbrev pub key_at_place : List SentCommand → ℕ → Option Key
key_at_place commands place = option_and_then (λ (command : SentCommand). command.key) (find (λ (command : SentCommand). command.place == place) commands)

-- the key of an entry is that of the command that caused it
abbrev pub entry_key : Past → BookedEntry → Option Key
entry_key past entry = option_and_then (key_at_place past.commands) entry.cause

-- no two of them are the same key
abbrev pub are_distinct_keys : List (Option Key) → Bool
are_distinct_keys [] = true
are_distinct_keys (first ∷ rest) = list_all (λ key. not (list_any (is_key key) rest)) (option_to_list first) && are_distinct_keys rest

-- ---- what is said

-- it is said of a payment or a reversal
abbrev pub is_transaction : Said → Bool
is_transaction said = bytes_eq said.category (codes "Payment") || bytes_eq said.category (codes "Reversal")

-- it is a success
abbrev pub is_success : Said → Bool
is_success said = bytes_eq said.result (codes "Success") || bytes_eq said.result (codes "Partial")

-- it is a failure
abbrev pub is_failure : Said → Bool
is_failure said = bytes_eq said.result (codes "Failure")

-- it is a failure for this reason
abbrev pub fails_with : List ℕ → Said → Bool
fails_with condition said = is_failure said && bytes_eq said.condition condition

-- ---- a success is booked, and a refusal isn't

-- the entry is approved, and its key is this one
abbrev pub is_approved_entry : Past → Key → BookedEntry → Bool
is_approved_entry past key entry = entry.approved && is_key key (entry_key past entry)

-- the text names a transaction with the numbers of the entry and the slot of the key's Intent
abbrev pub names_entry : List Record → Key → List ℕ → BookedEntry → Bool
names_entry kept key text entry = list_any (λ slot. bytes_eq text (transaction_text entry.number entry.receipt slot)) (option_to_list (slot_of kept key))

-- the entry is of the kind that is said: a reversal for the category `Reversal`, and a payment for any other
abbrev pub is_of_category : Said → BookedEntry → Bool
is_of_category said entry = is_kind (if bytes_eq said.category (codes "Reversal") then BookedReversal else BookedPayment) entry.kind

-- the entry is the approved one of what is said, is of its category, is placed before the reply, and has the numbers and the amount that are said
abbrev pub is_entry_said : Past → SentReply → Said → BookedEntry → Bool
is_entry_said past reply said entry =
    is_approved_entry past said.key entry
    && (is_of_category said entry && (nat_le entry.place reply.place && (names_entry reply.kept said.key said.transaction entry && bytes_eq said.amount (money_text entry.amount))))

-- a success of a payment or a reversal has its entry
abbrev pub success_agrees : Past → List BookedEntry → SentReply → Said → Bool
success_agrees past book reply said = not (is_transaction said && is_success said) || list_any (is_entry_said past reply said) book

-- what has `POIData` and is no success is a refusal of one that was accepted: it has no approved entry in the whole book, and so never
abbrev pub refusal_agrees : Past → List BookedEntry → SentReply → Said → Bool
refusal_agrees past book reply said = not (is_transaction said && (not (is_success said) && said.has_poi_data)) || not (list_any (is_approved_entry past said.key) book)

-- ---- what was not accepted

-- the key is accepted: its Intent is kept
abbrev pub is_accepted : List Record → Key → Bool
is_accepted kept key = is_some (option_and_then (intent_at kept) (slot_of kept key))

-- the request that the reply was sent for has this key, and other content than what the records have under it
abbrev pub has_other_content : List Record → Key → Occasion → Bool
has_other_content kept key (OfRequest header request) = same_key key (header_key header) && list_any (λ found. not (has_same_content kept request found)) (option_to_list (found_of kept key))
has_other_content kept key (OfMessage number message) = false
has_other_content kept key OfNothing = false

-- anything else of a payment or a reversal that is no success, but `InProgress`, `MessageFormat`, and `NotAllowed` to other content, is of a key that was not accepted
abbrev pub unaccepted_agrees : Past → List BookedEntry → SentReply → Said → Bool
unaccepted_agrees past book reply said =
    not (is_transaction said && (not (is_success said) && not said.has_poi_data)) || (fails_with (codes "InProgress") said || (fails_with (codes "MessageFormat") said
    || (not (is_accepted reply.kept said.key) || (fails_with (codes "NotAllowed") said && has_other_content reply.kept said.key reply.occasion))))

-- ---- what isn't found, or is in progress

-- the key that a status asks for: the one that it names, or else that of the last payment or reversal of its SaleID and POIID
abbrev pub key_asked : List Record → Header → Option Reference → Option Key
key_asked kept header (Some reference) = Some (key_of header reference)
key_asked kept header None = option_map (λ (entry : Entry). intent_key entry.intent) (last_entry kept header.sale header.poi)

-- the key that a request is about: that of a status is the one that it asks for, and that of any other its own
abbrev pub key_about : List Record → Key → Header → SaleRequest → Option Key
key_about kept own header requests.Login = Some own
key_about kept own header requests.Logout = Some own
key_about kept own header (requests.Payment ask) = Some own
key_about kept own header (requests.Reversal ask) = Some own
key_about kept own header (requests.Abort reference) = Some own
key_about kept own header (requests.Status reference) = key_asked kept header reference
key_about kept own header (requests.Reconciliation period) = Some own
key_about kept own header (requests.Display outputs) = Some own
key_about kept own header (requests.Print qualifier) = Some own
key_about kept own header requests.Diagnosis = Some own

-- the key that a reply is about: where it is a reply to the request that it was sent for, the key that this is about, and else its own
abbrev pub key_meant : List Record → Key → Occasion → Option Key
key_meant kept own (OfRequest header request) = if same_key own (header_key header) then key_about kept own header request else Some own
key_meant kept own (OfMessage number message) = Some own
key_meant kept own OfNothing = Some own

-- the key is unresolved: its Intent is open, or it waits, or is that of an end of day that is served
abbrev pub is_unresolved : SentReply → Key → Bool
is_unresolved reply key = list_any (is_open reply.kept) (option_to_list (slot_of reply.kept key)) || list_any (same_key key) reply.waiting

-- the `NotFound` of a status is about a key that was not accepted, or about none
abbrev pub not_found_agrees : Past → List BookedEntry → SentReply → Said → Bool
not_found_agrees past book reply said = not (bytes_eq said.category (codes "TransactionStatus") && fails_with (codes "NotFound") said)
    || not (list_any (is_accepted reply.kept) (option_to_list (key_meant reply.kept said.key reply.occasion)))

-- `InProgress` is about a key that is unresolved
abbrev pub in_progress_agrees : Past → List BookedEntry → SentReply → Said → Bool
in_progress_agrees past book reply said = not (fails_with (codes "InProgress") said) || list_any (is_unresolved reply) (option_to_list (key_meant reply.kept said.key reply.occasion))

-- it is so of each thing that is said in a reply: in the bytes of a whole frame
abbrev pub EachSaid : (Past → List BookedEntry → SentReply → Said → Bool) → Past → List BookedEntry → Type 0
EachSaid agrees past book = All (λ (reply : SentReply). (message : Tree) → IsFramed reply.bytes message → list_all (agrees past book reply) (all_said message) ≡ true) past.replies

-- ---- what was open before a link whose enquiry has reported

-- an enquiry has reported
abbrev pub is_report : Ending → Bool
is_report (Approved place figures) = false
is_report (Declined place trace) = false
is_report (Reported trace figures) = true

-- the end is the report of an enquiry on this link, before the poll
abbrev pub is_report_on : MadePoll → MadeLink → HeardEnd → Bool
is_report_on poll link end = is_report end.ending && (bytes_eq end.numbering.poi link.numbering.poi && (nat_lt link.place end.place && nat_lt end.place poll.place))

-- no Intent of its POIID is open at the poll that was kept before the link was made
abbrev pub is_resolved_on : MadePoll → MadeLink → Bool
is_resolved_on poll link = list_all (λ slot. nat_le link.records slot) (option_to_list (open_slot poll.kept link.numbering.poi))

-- where an enquiry has reported on the link, which lasts at the poll, nothing is open that was open as it was made
abbrev pub report_resolves : Past → MadePoll → MadeLink → Bool
report_resolves past poll link = not (list_any (is_report_on poll link) past.ends) || is_resolved_on poll link

-- ---- outside input

-- it is about a request of a till, or a message of a terminal, within the grammars
abbrev pub is_inside : Occasion → Bool
is_inside (OfRequest header request) = true
is_inside (OfMessage number message) = true
is_inside OfNothing = false

-- ---- agrees

-- what was done and said agrees with the book
pub record Agrees (past : Past) (book : List BookedEntry) : Type 0 where
  -- each command that may charge a card has a key, no two have the same one, and no two entries are of one key
  pub keyed : list_all (λ (command : SentCommand). is_some command.key) past.commands ≡ true
  pub sent_once : are_distinct_keys (map (λ (command : SentCommand). command.key) past.commands) ≡ true
  pub booked_once : are_distinct_keys (map (entry_key past) book) ≡ true
  -- a success is booked
  pub success : EachSaid success_agrees past book
  -- a refusal is not booked
  pub refusal : EachSaid refusal_agrees past book
  -- what is said not to be accepted has no Intent, but for `MessageFormat` and for `NotAllowed` to other content
  pub unaccepted : EachSaid unaccepted_agrees past book
  -- what is not found has no Intent
  pub not_found : EachSaid not_found_agrees past book
  -- what is in progress is unresolved
  pub in_progress : EachSaid in_progress_agrees past book
  -- at a poll, where a link lasts whose enquiry has reported, nothing is open that was open as the link was made
  pub resolved : list_all (λ (poll : MadePoll). list_all (report_resolves past poll) poll.links) past.polls ≡ true
  -- outside input changes no book
  pub inside : list_all is_inside past.deeds ≡ true
