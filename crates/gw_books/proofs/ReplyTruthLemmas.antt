-- What replies say is true of the records: of the reply to an Outcome, and by the parts of the reply to a request.
use Rattle.std.proofs.Common.{◌≡◌, ℕ, ◌≤◌, eqb, Bool, true, false, List, [], ◌∷◌, ◌++◌, length, refl, sym, ◌∙◌, ap, subst, arith, inl, inr, append_assoc, append-nil}
use Rattle.std.proofs.lemmas.Bool.{and_from, and_left, and_right, or_left, or_right, eqb-true}
use Rattle.std.proofs.lemmas.Option.{get_or_from_slice_get, same_Some}
use Rattle.std.specs.Prelude.{◌&&◌, ◌||◌, not, nat_le, is_some, bytes_eq, codes, if◌then◌else◌, slice_get, Option, Some, None, IfSome, option_and_then, option_map, option_to_list}
use Rattle.std.specs.List.{list_any}
use Rattle.gw_base.specs.Condition.{name_of}
use Rattle.gw_base.specs.Transaction.{transaction_text}
use Rattle.gw_base.specs.declared.condition.Condition.{Condition}
use Rattle.gw_base.specs.declared.condition.Condition.TheVariants.{Aborted, Busy, Cancel, InProgress, InsertedCard, InvalidCard, LoggedOut, MessageFormat, NotAllowed, NotFound, Refusal, UnavailableDevice, UnavailableService}
use Rattle.gw_base.specs.declared.key.Key.{Key}
use Rattle.sale_values.specs.Money.{money_text}
use Rattle.sale_values.specs.declared.header.Header.{Header}
use Rattle.sale_values.specs.declared.request.SaleRequest.{SaleRequest}
use Rattle.sale_reply.specs.Names.{paid_result, result_name}
use Rattle.sale_reply.specs.declared.reply.ReplyResult.TheVariants.{Success, Partial}
use Rattle.sale_reply.specs.declared.reply.Told.{Told as ResultBody}
use Rattle.sale_reply.specs.declared.reply.Told.TheVariants.{PaymentApproved, PaymentDeclined, ReversalApproved, ReversalDeclined}
use Rattle.jrn_record.specs.Limits.{HasReason, HasTillText, IsIntent, IsOutcome, IsRecord, reason_code}
use Rattle.jrn_record.specs.declared.records.Deal.{Deal}
use Rattle.jrn_record.specs.declared.records.Deal.TheVariants.{Payment, Reversal}
use Rattle.jrn_record.specs.declared.records.Intent.{Intent as TheIntent}
use Rattle.jrn_record.specs.declared.records.Outcome.{Outcome as TheOutcome}
use Rattle.jrn_record.specs.declared.records.Record.{Record}
use Rattle.jrn_record.specs.declared.records.Record.TheVariants.{Intent, Outcome, Settled}
use Rattle.gw_ledger.specs.declared.entry.Closed.{Closed as TheClosed}
use Rattle.gw_ledger.specs.declared.entry.Entry.{Entry as TheEntry}
use Rattle.gw_ledger.specs.declared.entry.Found.{Found}
use Rattle.gw_ledger.specs.declared.entry.Found.TheVariants.{Entry, Closed}
use Rattle.gw_ledger.specs.Fold.{AreFolded, closed_of, found_by, found_of, last_entry}
use Rattle.gw_ledger.specs.History.{history}
use Rattle.gw_ledger.specs.Keys.{intent_key, last_slot, same_key, slot_of}
use Rattle.gw_ledger.specs.Laws.{IsEntryWithin}
use Rattle.gw_ledger.specs.Slots.{as_outcome, ended_at, ended_in, entry_at, entry_with, intent_at, is_open, is_outcome_of, outcome_at}
use Rattle.xlate.specs.Reply.{deal_category, entry_body, header_of, money_of, outcome_body, reply_header, result_body_of, totals_body, transaction_mark, with_reason, with_texts}
use Rattle.gw_owes.specs.Content.{has_same_content}
use Rattle.gw_owes.specs.KeptReplies.{kept_reply}
use Rattle.gw_owes.specs.Reply.{ReplyValue, Finished}
use Rattle.gw_owes.specs.Serving.{reply_to_outcome}
use Rattle.gw_owes.proofs.RecordLemmas.{LedgerLaws, entry-parts, intent-stays, last-there, still-there, there-within}
use Rattle.gw_books.specs.Past.{Occasion, OfRequest, no_past}
use Rattle.gw_books.specs.Said.{Said}
use Rattle.gw_books.specs.SaidLaws.{display_said, finished_said, header_key, plain_said}
use Rattle.gw_books.specs.Agrees.{fails_with, has_other_content, in_progress_agrees, is_accepted, is_failure, is_success, is_transaction, is_unresolved, key_about, key_meant, not_found_agrees, unaccepted_agrees}
use Rattle.gw_books.proofs.Holding.{IsNoTransaction, IsReplyTrue, IsSaidTrue, SaysOutcome, SaysSuccess, sent_with}
use Rattle.gw_books.proofs.KeyedLemmas.{key-itself}
use Rattle.gw_books.proofs.ListLemmas.{In}
use Rattle.gw_books.proofs.RecordMoreLemmas.{own-slot}

-- ---- tests

no-second : (test other : Bool) → other ≡ false → (test && other) ≡ true → ⊥
no-second true other fails both = cc
no-second false other fails both = cc

no-first : (test other : Bool) → test ≡ false → (test && other) ≡ true → ⊥
no-first true other fails both = cc
no-first false other fails both = cc

-- what holds only of what passes a test holds where that isn't passed
passes : (test rest : Bool) → test ≡ false → (not test || rest) ≡ true
passes true rest fails = cc
passes false rest fails = refl

-- ---- what is said is no failure

-- where not both of the first two hold, not all three do
not-all : (one other third : Bool) → (one && other) ≡ false → (one && (other && third)) ≡ false
not-all true true third fails = cc
not-all true false third fails = refl
not-all false other third fails = refl

not-three : (one other third : Bool) → (one && other) ≡ false → (one && (other && third)) ≡ true → ⊥
not-three one other third fails all = let none : (one && (other && third)) ≡ false = not-all one other third fails in cc

-- what is said to have succeeded, or has no result and is of no payment and no reversal, is true where a success of one is
unfailed-true : (records : List Record) (occasion : Occasion) (said : Said) → is_failure said ≡ false → (is_transaction said && not (is_success said)) ≡ false
    → ((is_transaction said && is_success said) ≡ true → SaysSuccess records said) → IsSaidTrue records [] occasion said
unfailed-true records occasion said unfailed succeeds success = record {
  success = success;
  refusal = λ all. absurd (not-three (is_transaction said) (not (is_success said)) said.has_poi_data succeeds all);
  unaccepted = passes (is_transaction said && (not (is_success said) && not said.has_poi_data)) _ (not-all (is_transaction said) (not (is_success said)) (not said.has_poi_data) succeeds);
  not_found = passes (bytes_eq said.category (codes "TransactionStatus") && fails_with (codes "NotFound") said) _
      (and_right (bytes_eq said.category (codes "TransactionStatus")) (fails_with (codes "NotFound") said) (and_left (is_failure said) (bytes_eq said.condition (codes "NotFound")) unfailed));
  in_progress = passes (fails_with (codes "InProgress") said) _ (and_left (is_failure said) (bytes_eq said.condition (codes "InProgress")) unfailed);
}

-- by its category
pub kind-is : (header : Header) (category : List ℕ) → header.category ≡ category
    → (bytes_eq category (codes "Payment") || bytes_eq category (codes "Reversal")) ≡ false → IsNoTransaction header
kind-is header category is apart = ap (λ (name : List ℕ). bytes_eq name (codes "Payment") || bytes_eq name (codes "Reversal")) is ∙ apart

-- a reply without a result body, of no payment and no reversal, succeeds
pub succeeded-true : (records : List Record) (occasion : Occasion) (header : Header) → IsNoTransaction header → IsSaidTrue records [] occasion (plain_said header None)
succeeded-true records occasion header apart =
    unfailed-true records occasion (plain_said header None) refl (and_left (is_transaction (plain_said header None)) false apart) (λ both. absurd (no-first (is_transaction (plain_said header None)) true apart both))

-- a reply to a Display has no result, and is of no payment and no reversal
pub display-true : (records : List Record) (occasion : Occasion) (header : Header) → IsNoTransaction header → IsSaidTrue records [] occasion (display_said header)
display-true records occasion header apart =
    unfailed-true records occasion (display_said header) refl (and_left (is_transaction (display_said header)) true apart) (λ both. absurd (no-second (is_transaction (display_said header)) false refl both))

-- the totals of a reconciliation are said of no payment and no reversal
pub totals-true : (records : List Record) (occasion : Occasion) (closed : TheClosed) → IsSaidTrue records [] occasion (finished_said (header_of (Closed closed)) (totals_body closed))
totals-true records occasion closed = unfailed-true records occasion (finished_said (header_of (Closed closed)) (totals_body closed)) refl refl (λ both. absurd cc)

-- ---- a Failure without a result body

-- it is true where it agrees
failed-true : (records : List Record) (waiting : List Key) (occasion : Occasion) (header : Header) (condition : Condition)
    → unaccepted_agrees no_past [] (sent_with records waiting occasion) (plain_said header (Some condition)) ≡ true
    → not_found_agrees no_past [] (sent_with records waiting occasion) (plain_said header (Some condition)) ≡ true
    → in_progress_agrees no_past [] (sent_with records waiting occasion) (plain_said header (Some condition)) ≡ true
    → IsSaidTrue records waiting occasion (plain_said header (Some condition))
failed-true records waiting occasion header condition unaccepted not_found in_progress = record {
  success = λ both. absurd (no-second (is_transaction (plain_said header (Some condition))) false refl both);
  refusal = λ both. absurd (no-second (is_transaction (plain_said header (Some condition))) false refl both);
  unaccepted = unaccepted;
  not_found = not_found;
  in_progress = in_progress;
}

-- the reason is neither that a key is in progress nor that it isn't found
abbrev pub IsIdle : Condition → Type 0
IsIdle condition = (bytes_eq (name_of condition) (codes "InProgress") ≡ false) × (bytes_eq (name_of condition) (codes "NotFound") ≡ false)

idle-true : (records : List Record) (occasion : Occasion) (header : Header) (condition : Condition) → IsIdle condition
    → unaccepted_agrees no_past [] (sent_with records [] occasion) (plain_said header (Some condition)) ≡ true → IsSaidTrue records [] occasion (plain_said header (Some condition))
idle-true records occasion header condition idle unaccepted = failed-true records [] occasion header condition unaccepted
    (passes (bytes_eq header.category (codes "TransactionStatus") && bytes_eq (name_of condition) (codes "NotFound")) _
    (and_right (bytes_eq header.category (codes "TransactionStatus")) (bytes_eq (name_of condition) (codes "NotFound")) idle.1))
    (passes (bytes_eq (name_of condition) (codes "InProgress")) _ idle.0)

kind-agrees : (records : List Record) (occasion : Occasion) (header : Header) (condition : Condition) → IsNoTransaction header
    → unaccepted_agrees no_past [] (sent_with records [] occasion) (plain_said header (Some condition)) ≡ true
kind-agrees records occasion header condition apart =
    passes (is_transaction (plain_said header (Some condition)) && true) _ (and_left (is_transaction (plain_said header (Some condition))) true apart)

-- that of no payment and no reversal
pub other-kind-true : (records : List Record) (occasion : Occasion) (header : Header) (condition : Condition) → IsIdle condition → IsNoTransaction header
    → IsSaidTrue records [] occasion (plain_said header (Some condition))
other-kind-true records occasion header condition idle apart = idle-true records occasion header condition idle (kind-agrees records occasion header condition apart)

-- that of a key which was not accepted, where the reply is about that key
pub unknown-true : (records : List Record) (occasion : Occasion) (header : Header) (condition : Condition) → bytes_eq (name_of condition) (codes "InProgress") ≡ false
    → key_meant records (header_key header) occasion ≡ Some (header_key header) → is_accepted records (header_key header) ≡ false → IsSaidTrue records [] occasion (plain_said header (Some condition))
unknown-true records occasion header condition idle meant lacks =
    let said : Said = plain_said header (Some condition) in
    let other : Bool = fails_with (codes "NotAllowed") said && has_other_content records (header_key header) occasion in
    let none : (not (is_accepted records (header_key header)) || other) ≡ true = or_left (not (is_accepted records (header_key header))) other (ap not lacks) in
    let format : (fails_with (codes "MessageFormat") said || (not (is_accepted records (header_key header)) || other)) ≡ true = or_right (fails_with (codes "MessageFormat") said) _ none in
    failed-true records [] occasion header condition (or_right (not (is_transaction said && true)) _ (or_right (fails_with (codes "InProgress") said) _ format))
    (or_right _ _ (ap (λ (key : Option Key). not (list_any (is_accepted records) (option_to_list key))) meant ∙ ap (λ (b : Bool). not (b || false)) lacks))
    (passes (bytes_eq (name_of condition) (codes "InProgress")) _ idle)

-- that of a body of another form
pub malformed-true : (records : List Record) (occasion : Occasion) (header : Header) → IsSaidTrue records [] occasion (plain_said header (Some MessageFormat))
malformed-true records occasion header = idle-true records occasion header MessageFormat (refl, refl) (or_right _ _ refl)

-- that of other content under the key
pub other-content-true : (records : List Record) (asking header : Header) (request : SaleRequest) (found : Found) → header_key header ≡ header_key asking → found_of records (header_key header) ≡ Some found
    → has_same_content records request found ≡ false → IsSaidTrue records [] (OfRequest asking request) (plain_said header (Some NotAllowed))
other-content-true records asking header request found own is other = idle-true records (OfRequest asking request) header NotAllowed (refl, refl)
    (or_right _ _ (or_right (not (is_accepted records (header_key header))) _
    (and_from (same_key (header_key header) (header_key asking)) _ (ap (same_key (header_key header)) (sym own) ∙ key-itself (header_key header))
    (ap (λ (there : Option Found). list_any (λ (one : Found). not (has_same_content records request one)) (option_to_list there)) is ∙ ap (λ (b : Bool). not b || false) other))))

-- a reply to the request that is handled is about the key that this is about
pub meant-by : (records : List Record) (header : Header) (request : SaleRequest) → key_meant records (header_key header) (OfRequest header request) ≡ key_about records (header_key header) header request
meant-by records header request = ap (λ (own : Bool). if own then key_about records (header_key header) header request else Some (header_key header)) (key-itself (header_key header))

-- one to any request that may be about its own key is about that
pub meant-own : (records : List Record) (own : Key) (asking : Header) (request : SaleRequest) → key_about records own asking request ≡ Some own → key_meant records own (OfRequest asking request) ≡ Some own
meant-own records own asking request about = by (same_key own (header_key asking))
  where
    by : (same : Bool) → (if same then key_about records own asking request else Some own) ≡ Some own
    by true = about
    by false = refl

-- the key is that of an open Intent
pub record IsOpenKey (records : List Record) (key : Key) : Type 0 where
  pub slot : ℕ
  pub slot_is : slot_of records key ≡ Some slot
  pub opened : is_open records slot ≡ true

-- that of a key which is open
pub open-true : (records : List Record) (occasion : Occasion) (header : Header) (key : Key) → key_meant records (header_key header) occasion ≡ Some key → IsOpenKey records key
    → IsSaidTrue records [] occasion (plain_said header (Some InProgress))
open-true records occasion header key meant unresolved = failed-true records [] occasion header InProgress
    (or_right _ _ refl)
    (passes (bytes_eq header.category (codes "TransactionStatus") && false) _ (and_right (bytes_eq header.category (codes "TransactionStatus")) false refl))
    (ap (λ (one : Option Key). list_any (is_unresolved (sent_with records [] occasion)) (option_to_list one)) meant
    ∙ (ap (λ (at : Option ℕ). (list_any (is_open records) (option_to_list at) || false) || false) unresolved.slot_is
    ∙ ap (λ (b : Bool). ((b || false) || false) || false) unresolved.opened))

-- that of a key which waits
pub waits-true : (records : List Record) (waiting : List Key) (occasion : Occasion) (header : Header) (key : Key) → key_meant records (header_key header) occasion ≡ Some key → list_any (same_key key) waiting ≡ true
    → IsSaidTrue records waiting occasion (plain_said header (Some InProgress))
waits-true records waiting occasion header key meant waits = failed-true records waiting occasion header InProgress
    (or_right _ _ refl)
    (passes (bytes_eq header.category (codes "TransactionStatus") && false) _ (and_right (bytes_eq header.category (codes "TransactionStatus")) false refl))
    (ap (λ (one : Option Key). list_any (is_unresolved (sent_with records waiting occasion)) (option_to_list one)) meant
    ∙ ap (λ (b : Bool). b || false) (or_right (list_any (is_open records) (option_to_list (slot_of records key))) (list_any (same_key key) waiting) waits))

-- what is unresolved where none waits is so whatever waits
unresolved-more : (records : List Record) (waiting : List Key) (occasion : Occasion) (key : Option Key)
    → list_any (is_unresolved (sent_with records [] occasion)) (option_to_list key) ≡ true → list_any (is_unresolved (sent_with records waiting occasion)) (option_to_list key) ≡ true
unresolved-more records waiting occasion None e = e
unresolved-more records waiting occasion (Some key) e = by (list_any (is_open records) (option_to_list (slot_of records key))) e
  where
    by : (b : Bool) → ((b || false) || false) ≡ true → ((b || list_any (same_key key) waiting) || false) ≡ true
    by true f = refl
    by false f = cc

-- and so is what is true
pub true-more : (records : List Record) (waiting : List Key) (occasion : Occasion) (said : Said) → IsSaidTrue records [] occasion said → IsSaidTrue records waiting occasion said
true-more records waiting occasion said truth = record {
  success = truth.success;
  refusal = truth.refusal;
  unaccepted = truth.unaccepted;
  not_found = truth.not_found;
  in_progress = by (fails_with (codes "InProgress") said) truth.in_progress;
}
  where
    by : (b : Bool) → (not b || list_any (is_unresolved (sent_with records [] occasion)) (option_to_list (key_meant records said.key occasion))) ≡ true
        → (not b || list_any (is_unresolved (sent_with records waiting occasion)) (option_to_list (key_meant records said.key occasion))) ≡ true
    by true e = unresolved-more records waiting occasion (key_meant records said.key occasion) e
    by false e = refl

pub reply-true-more : (records : List Record) (waiting : List Key) (occasion : Occasion) (reply : ReplyValue) → IsReplyTrue records [] occasion reply → IsReplyTrue records waiting occasion reply
reply-true-more records waiting occasion reply truth = λ said there. true-more records waiting occasion said (truth said there)

-- that of a status which finds nothing
pub not-found-true : (records : List Record) (occasion : Occasion) (header : Header) → IsNoTransaction header
    → list_any (is_accepted records) (option_to_list (key_meant records (header_key header) occasion)) ≡ false → IsSaidTrue records [] occasion (plain_said header (Some NotFound))
not-found-true records occasion header apart none = failed-true records [] occasion header NotFound (kind-agrees records occasion header NotFound apart) (or_right _ _ (ap not none)) refl

-- ---- an Outcome

-- the entry has this Outcome in the records
pub record HasOutcome (records : List Record) (entry : TheEntry) (outcome : TheOutcome) : Type 0 where
  pub at : ℕ
  pub found : slice_get records at ≡ Some (Outcome outcome)
  pub intent_is : intent_at records entry.slot ≡ Some entry.intent
  pub slot_is : outcome.slot ≡ entry.slot
  pub key_slot : slot_of records (intent_key entry.intent) ≡ Some entry.slot
  pub within : IsOutcome outcome

module _ (records : List Record) (entry : TheEntry) (outcome : TheOutcome) (has : HasOutcome records entry outcome) (said : Said) (key_is : said.key ≡ intent_key entry.intent) (category_is : said.category ≡ deal_category entry.intent.what) where
  says-outcome : (approved : Bool) → outcome.approved ≡ approved → SaysOutcome records said approved
  says-outcome approved is = record {
    at = has.at;
    outcome = outcome;
    intent = entry.intent;
    found = has.found;
    intent_is = ap (intent_at records) has.slot_is ∙ has.intent_is;
    approved_is = is;
    key_is = key_is;
    category_is = category_is;
  }

  says-success : outcome.approved ≡ true → said.transaction ≡ transaction_text outcome.number outcome.receipt entry.slot → said.amount ≡ money_text outcome.amount → SaysSuccess records said
  unfolding says-outcome
  says-success is transaction amount = record {
    says = says-outcome true is;
    slot_is = ap (slot_of records) key_is ∙ (has.key_slot ∙ ap Some (sym has.slot_is));
    transaction_is = transaction ∙ ap (transaction_text outcome.number outcome.receipt) (sym has.slot_is);
    amount_is = amount;
  }

-- a decline is true where it says the Outcome
declined-true : (records : List Record) (occasion : Occasion) (said : Said) → is_success said ≡ false → said.has_poi_data ≡ true → bytes_eq said.category (codes "TransactionStatus") ≡ false
    → bytes_eq said.condition (codes "InProgress") ≡ false → SaysOutcome records said false → IsSaidTrue records [] occasion said
declined-true records occasion said declined has_data no_status reason says = record {
  success = λ both. absurd (no-second (is_transaction said) (is_success said) declined both);
  refusal = λ both. says;
  unaccepted = passes (is_transaction said && (not (is_success said) && not said.has_poi_data)) _
      (and_right (is_transaction said) (not (is_success said) && not said.has_poi_data) (and_right (not (is_success said)) (not said.has_poi_data) (ap not has_data)));
  not_found = passes (bytes_eq said.category (codes "TransactionStatus") && fails_with (codes "NotFound") said) _
      (and_left (bytes_eq said.category (codes "TransactionStatus")) (fails_with (codes "NotFound") said) no_status);
  in_progress = passes (fails_with (codes "InProgress") said) _ (and_right (is_failure said) (bytes_eq said.condition (codes "InProgress")) reason);
}

-- a refusal has another reason
reason-idle : (reason : Condition) → 1 ≤ reason_code reason → bytes_eq (name_of reason) (codes "InProgress") ≡ false
reason-idle Aborted least = refl
reason-idle Busy least = refl
reason-idle Cancel least = refl
reason-idle InProgress least = absurd (omega (arith, least))
reason-idle InsertedCard least = refl
reason-idle InvalidCard least = refl
reason-idle LoggedOut least = refl
reason-idle MessageFormat least = refl
reason-idle NotAllowed least = refl
reason-idle NotFound least = refl
reason-idle Refusal least = refl
reason-idle UnavailableDevice least = refl
reason-idle UnavailableService least = refl

-- an approved payment has not failed
paid-unfailed : (requested paid : ℕ) → bytes_eq (result_name (paid_result requested paid)) (codes "Failure") ≡ false
paid-unfailed requested paid = by-test (nat_le requested paid)
  where
    by-test : (whole : Bool) → bytes_eq (result_name (if whole then Success else Partial)) (codes "Failure") ≡ false
    by-test true = refl
    by-test false = refl

-- it has succeeded, in whole or in part
paid-succeeds : (requested paid : ℕ) → not (bytes_eq (result_name (paid_result requested paid)) (codes "Success") || bytes_eq (result_name (paid_result requested paid)) (codes "Partial")) ≡ false
paid-succeeds requested paid = by-test (nat_le requested paid)
  where
    by-test : (whole : Bool) → not (bytes_eq (result_name (if whole then Success else Partial)) (codes "Success") || bytes_eq (result_name (if whole then Success else Partial)) (codes "Partial")) ≡ false
    by-test true = refl
    by-test false = refl

-- the texts that a body has
record HasTexts (make : List ℕ → List ℕ → ResultBody) (body : ResultBody) : Type 0 where
  transaction : List ℕ
  stamp : List ℕ
  is : make transaction stamp ≡ body

texts-are : (intent : TheIntent) (make : List ℕ → List ℕ → ResultBody) (body : ResultBody) → with_texts intent make ≡ Some body → HasTexts make body
texts-are intent make body = by-texts intent.transaction intent.stamp
  where
    by-texts : (transaction stamp : Option (List ℕ)) → option_and_then (λ (text : List ℕ). option_map (make text) stamp) transaction ≡ Some body → HasTexts make body
    by-texts None stamp is = absurd cc
    by-texts (Some transaction) None is = absurd cc
    by-texts (Some transaction) (Some stamp) is = record { transaction = transaction; stamp = stamp; is = same_Some (make transaction stamp) body is }

-- the reason that a body has
record HasItsReason (outcome : TheOutcome) (make : Condition → Option ResultBody) (body : ResultBody) : Type 0 where
  reason : Condition
  reason_is : outcome.condition ≡ Some reason
  is : make reason ≡ Some body

reason-is : (outcome : TheOutcome) (make : Condition → Option ResultBody) (body : ResultBody) → with_reason outcome make ≡ Some body → HasItsReason outcome make body
reason-is outcome make body = by-reason outcome.condition refl
  where
    by-reason : (condition : Option Condition) → outcome.condition ≡ condition → option_and_then make condition ≡ Some body → HasItsReason outcome make body
    by-reason None there is = absurd cc
    by-reason (Some reason) there is = record { reason = reason; reason_is = there; is = is }

module _ (records : List Record) (occasion : Occasion) (entry : TheEntry) (outcome : TheOutcome) (has : HasOutcome records entry outcome) where
  -- what a result body says under the header of a category
  abbrev said_of_entry : List ℕ → ResultBody → Said
  said_of_entry category body = finished_said (reply_header category entry.intent.sale entry.intent.poi entry.intent.service) body

  payment-approved : (transaction stamp : List ℕ) → entry.intent.what ≡ Payment → outcome.approved ≡ true
      → IsSaidTrue records [] occasion (said_of_entry (codes "Payment") (PaymentApproved transaction stamp (transaction_mark entry.slot outcome) entry.intent.amount (money_of entry.intent outcome)))
  payment-approved transaction stamp what is =
      let said : Said = said_of_entry (codes "Payment") (PaymentApproved transaction stamp (transaction_mark entry.slot outcome) entry.intent.amount (money_of entry.intent outcome)) in
      unfailed-true records occasion said (paid-unfailed entry.intent.amount outcome.amount)
      (and_right (is_transaction said) (not (is_success said)) (paid-succeeds entry.intent.amount outcome.amount)) (λ both. says-success records entry outcome has said refl (sym (ap deal_category what)) is refl refl)

  reversal-approved : entry.intent.what ≡ Reversal → outcome.approved ≡ true
      → IsSaidTrue records [] occasion (said_of_entry (codes "Reversal") (ReversalApproved (transaction_mark entry.slot outcome) (money_of entry.intent outcome)))
  reversal-approved what is =
      let said : Said = said_of_entry (codes "Reversal") (ReversalApproved (transaction_mark entry.slot outcome) (money_of entry.intent outcome)) in
      unfailed-true records occasion said refl refl (λ both. says-success records entry outcome has said refl (sym (ap deal_category what)) is refl refl)

  reason-within : (reason : Condition) → outcome.approved ≡ false → outcome.condition ≡ Some reason → bytes_eq (name_of reason) (codes "InProgress") ≡ false
  reason-within reason is there =
      reason-idle reason (subst (HasReason false) there (subst (λ (approved : Bool). HasReason approved outcome.condition) is has.within.condition))

  payment-declined : (transaction stamp : List ℕ) (reason : Condition) → entry.intent.what ≡ Payment → outcome.approved ≡ false → outcome.condition ≡ Some reason
      → IsSaidTrue records [] occasion (said_of_entry (codes "Payment") (PaymentDeclined transaction stamp (transaction_mark entry.slot outcome) reason))
  payment-declined transaction stamp reason what is there =
      let said : Said = said_of_entry (codes "Payment") (PaymentDeclined transaction stamp (transaction_mark entry.slot outcome) reason) in
      declined-true records occasion said refl refl refl (reason-within reason is there) (says-outcome records entry outcome has said refl (sym (ap deal_category what)) false is)

  reversal-declined : (reason : Condition) → entry.intent.what ≡ Reversal → outcome.approved ≡ false → outcome.condition ≡ Some reason
      → IsSaidTrue records [] occasion (said_of_entry (codes "Reversal") (ReversalDeclined (transaction_mark entry.slot outcome) reason))
  reversal-declined reason what is there =
      let said : Said = said_of_entry (codes "Reversal") (ReversalDeclined (transaction_mark entry.slot outcome) reason) in
      declined-true records occasion said refl refl refl (reason-within reason is there) (says-outcome records entry outcome has said refl (sym (ap deal_category what)) false is)

  body-true : (what : Deal) (approved : Bool) (body : ResultBody) → entry.intent.what ≡ what → outcome.approved ≡ approved → entry_body what approved entry.slot entry.intent outcome ≡ Some body
      → IsSaidTrue records [] occasion (said_of_entry (deal_category what) body)
  body-true Payment true body what is made =
      let texts = texts-are entry.intent (λ transaction stamp. PaymentApproved transaction stamp (transaction_mark entry.slot outcome) entry.intent.amount (money_of entry.intent outcome)) body made in
      subst (λ (result : ResultBody). IsSaidTrue records [] occasion (said_of_entry (codes "Payment") result)) texts.is (payment-approved texts.transaction texts.stamp what is)
  body-true Payment false body what is made =
      let reason = reason-is outcome (λ reason. with_texts entry.intent (λ transaction stamp. PaymentDeclined transaction stamp (transaction_mark entry.slot outcome) reason)) body made in
      let texts = texts-are entry.intent (λ transaction stamp. PaymentDeclined transaction stamp (transaction_mark entry.slot outcome) reason.reason) body reason.is in
      subst (λ (result : ResultBody). IsSaidTrue records [] occasion (said_of_entry (codes "Payment") result)) texts.is
      (payment-declined texts.transaction texts.stamp reason.reason what is reason.reason_is)
  body-true Reversal true body what is made =
      subst (λ (result : ResultBody). IsSaidTrue records [] occasion (said_of_entry (codes "Reversal") result))
      (same_Some (ReversalApproved (transaction_mark entry.slot outcome) (money_of entry.intent outcome)) body made) (reversal-approved what is)
  body-true Reversal false body what is made =
      let reason = reason-is outcome (λ reason. Some (ReversalDeclined (transaction_mark entry.slot outcome) reason)) body made in
      subst (λ (result : ResultBody). IsSaidTrue records [] occasion (said_of_entry (codes "Reversal") result))
      (same_Some (ReversalDeclined (transaction_mark entry.slot outcome) reason.reason) body reason.is) (reversal-declined reason.reason what is reason.reason_is)

  -- what the result body of the Outcome says is true
  entry-true : (body : ResultBody) → outcome_body entry outcome ≡ Some body → IsSaidTrue records [] occasion (finished_said (header_of (Entry entry)) body)
  entry-true body made = body-true entry.intent.what outcome.approved body refl refl made

-- ---- the reply to an Outcome

-- what is said alone
pub alone-true : (records : List Record) (occasion : Occasion) (one said : Said) → IsSaidTrue records [] occasion one → In said (one ∷ []) → IsSaidTrue records [] occasion said
alone-true records occasion one said holds (inl same) = subst (IsSaidTrue records [] occasion) (sym same) holds
alone-true records occasion one said holds (inr none) = absurd none

-- what is said of two
pub both-true : (records : List Record) (occasion : Occasion) (one other said : Said) → IsSaidTrue records [] occasion one → IsSaidTrue records [] occasion other → In said (one ∷ other ∷ [])
    → IsSaidTrue records [] occasion said
both-true records occasion one other said holds more (inl same) = subst (IsSaidTrue records [] occasion) (sym same) holds
both-true records occasion one other said holds more (inr later) = alone-true records occasion other said more later

-- the entry of a slot, by its Intent
entry-of : (kept : List Record) (slot : ℕ) (intent : TheIntent) → intent_at kept slot ≡ Some intent → entry_at kept slot ≡ Some (entry_with kept slot (ended_at kept slot) intent)
entry-of kept slot intent is = ap (option_map (entry_with kept slot (ended_at kept slot))) is

-- an entry once it has this Outcome
abbrev resolved : ℕ → TheIntent → TheOutcome → TheEntry
resolved slot intent outcome = record { slot = slot; intent = intent; result = Some outcome }

-- the last record is within its limits
last-within : (kept : List Record) (outcome : TheOutcome) → AreFolded (kept ++ Outcome outcome ∷ []) → IsOutcome outcome
last-within kept outcome folded =
    let there = last-there kept (Outcome outcome) in
    subst IsRecord (get_or_from_slice_get (kept ++ Outcome outcome ∷ []) (length kept) (Outcome outcome) (Outcome outcome) there)
    (folded.within (length kept) (Outcome outcome) (there-within (kept ++ Outcome outcome ∷ []) (length kept) (Outcome outcome) there))

-- the Outcome that comes next is that of the entry
resolved-has : (laws : LedgerLaws) (kept : List Record) (slot : ℕ) (outcome : TheOutcome) (intent : TheIntent) → AreFolded (kept ++ Outcome outcome ∷ []) → outcome.slot ≡ slot
    → intent_at kept slot ≡ Some intent → HasOutcome (kept ++ Outcome outcome ∷ []) (resolved slot intent outcome) outcome
resolved-has laws kept slot outcome intent folded slot_is is =
    let there : intent_at (kept ++ Outcome outcome ∷ []) slot ≡ Some intent = intent-stays kept (Outcome outcome ∷ []) slot intent is in
    record {
      at = length kept;
      found = last-there kept (Outcome outcome);
      intent_is = there;
      slot_is = slot_is;
      key_slot = own-slot laws (kept ++ Outcome outcome ∷ []) slot intent folded there;
      within = last-within kept outcome folded;
    }

-- the reply to an Outcome, as soon as it is kept, is true
pub outcome-true : (laws : LedgerLaws) (kept : List Record) (slot : ℕ) (outcome : TheOutcome) (intent : TheIntent) (occasion : Occasion) (reply : ReplyValue)
    → AreFolded kept → AreFolded (kept ++ Outcome outcome ∷ []) → outcome.slot ≡ slot → intent_at kept slot ≡ Some intent → reply_to_outcome kept slot outcome ≡ Some reply
    → IsReplyTrue (kept ++ Outcome outcome ∷ []) [] occasion reply
outcome-true laws kept slot outcome intent occasion reply before folded slot_is is replied = by-body (outcome_body (resolved slot intent outcome) outcome) refl made
  where
    made : kept_reply (Entry (resolved slot intent outcome)) ≡ Some reply
    made = sym (ap (option_and_then (λ (entry : TheEntry). kept_reply (Entry (record entry { result = Some outcome })))) (entry-of kept slot intent is)) ∙ replied

    by-body : (body : Option ResultBody) → outcome_body (resolved slot intent outcome) outcome ≡ body → option_map (Finished (header_of (Entry (resolved slot intent outcome)))) body ≡ Some reply
        → IsReplyTrue (kept ++ Outcome outcome ∷ []) [] occasion reply
    by-body None body_is made = absurd cc
    by-body (Some body) body_is made =
        subst (IsReplyTrue (kept ++ Outcome outcome ∷ []) [] occasion) (same_Some (Finished (header_of (Entry (resolved slot intent outcome))) body) reply made)
        (λ said there. alone-true (kept ++ Outcome outcome ∷ []) occasion (finished_said (header_of (Entry (resolved slot intent outcome))) body) said
        (entry-true (kept ++ Outcome outcome ∷ []) occasion (resolved slot intent outcome) outcome (resolved-has laws kept slot outcome intent folded slot_is is) body body_is) there)

-- ---- where an Outcome is

-- what holds of no records, and stays with each more, holds of all
module _ (P : List Record → Type 0) (step : (before : List Record) (next : Record) → P before → P (before ++ next ∷ [])) where
  with-more : (before rest : List Record) → P before → P (before ++ rest)
  with-more before [] holds = subst P (sym (append-nil before)) holds
  with-more before (next ∷ rest) holds = subst P (append_assoc before (next ∷ []) rest) (with-more (before ++ next ∷ []) rest (step before next holds))

  of-all : P [] → (records : List Record) → P records
  of-all none records = with-more [] records none

-- an Outcome of the slot is there
record IsEndedBy (records : List Record) (slot at : ℕ) : Type 0 where
  outcome : TheOutcome
  found : slice_get records at ≡ Some (Outcome outcome)
  slot_is : outcome.slot ≡ slot

abbrev EndAtOutcomes : List Record → Type 0
EndAtOutcomes records = (slot at : ℕ) → ended_at records slot ≡ Some at → IsEndedBy records slot at

-- the record is an Outcome of this slot
record IsItsOutcome (slot : ℕ) (next : Record) : Type 0 where
  outcome : TheOutcome
  is : next ≡ Outcome outcome
  slot_is : outcome.slot ≡ slot

its-outcome : (slot : ℕ) (next : Record) → is_outcome_of slot next ≡ true → IsItsOutcome slot next
its-outcome slot (Intent intent) test = absurd cc
its-outcome slot (Outcome outcome) test = record { outcome = outcome; is = refl; slot_is = eqb-true outcome.slot slot test }
its-outcome slot (Settled settled) test = absurd cc

end-step : (laws : LedgerLaws) (before : List Record) (next : Record) → EndAtOutcomes before → EndAtOutcomes (before ++ next ∷ [])
end-step laws before next ends slot at ended =
    by-tests (eqb (length before) slot) (is_outcome_of slot next) refl (sym (ap (ended_in slot) (laws.newest before next)) ∙ ended)
  where
    by-tests : (here own : Bool) → is_outcome_of slot next ≡ own → (if here then None else (if own then Some (length before) else ended_at before slot)) ≡ Some at
        → IsEndedBy (before ++ next ∷ []) slot at
    by-tests true own test same = absurd cc
    by-tests false true test same =
        let its = its-outcome slot next test in
        record {
          outcome = its.outcome;
          found = subst (λ (n : ℕ). slice_get (before ++ next ∷ []) n ≡ Some (Outcome its.outcome)) (same_Some (length before) at same) (last-there before next ∙ ap Some its.is);
          slot_is = its.slot_is;
        }
    by-tests false false test same =
        let earlier = ends slot at same in
        record { outcome = earlier.outcome; found = still-there before (next ∷ []) at (Outcome earlier.outcome) earlier.found; slot_is = earlier.slot_is }

no-ends : EndAtOutcomes []
unfolding history
no-ends slot at ended = absurd cc

end-at-outcomes : LedgerLaws → (records : List Record) → EndAtOutcomes records
end-at-outcomes laws records = of-all EndAtOutcomes (end-step laws) no-ends records

-- ---- what is found

-- the key is that of an entry of the records
pub record IsEntryOf (records : List Record) (key : Key) (entry : TheEntry) : Type 0 where
  pub slot : ℕ
  pub slot_is : slot_of records key ≡ Some slot
  pub entry_is : entry_at records slot ≡ Some entry

-- what is found under the key is its entry, or a reconciliation
abbrev pub IsFoundUnder : List Record → Key → Found → Type 0
IsFoundUnder records key (Entry entry) = IsEntryOf records key entry
IsFoundUnder records key (Closed closed) = Unit {0}

pub found-under : (records : List Record) (key : Key) (found : Found) → found_of records key ≡ Some found → IsFoundUnder records key found
found-under records key found is = by-slot (slot_of records key) refl is
  where
    by-record : (slot : ℕ) → slot_of records key ≡ Some slot → (one : Record) → found_by records slot one ≡ Some found → IsFoundUnder records key found
    by-record slot slot_is (Intent intent) same = by-entry (entry_at records slot) refl same
      where
        by-entry : (entry : Option TheEntry) → entry_at records slot ≡ entry → option_map Entry entry ≡ Some found → IsFoundUnder records key found
        by-entry None here same = absurd cc
        by-entry (Some entry) here same = subst (IsFoundUnder records key) (same_Some (Entry entry) found same) (record { slot = slot; slot_is = slot_is; entry_is = here })
    by-record slot slot_is (Outcome outcome) same = absurd cc
    by-record slot slot_is (Settled settled) same = subst (IsFoundUnder records key) (same_Some (Closed (closed_of records slot settled)) found same) tt

    by-place : (slot : ℕ) → slot_of records key ≡ Some slot → (one : Option Record) → option_and_then (found_by records slot) one ≡ Some found → IsFoundUnder records key found
    by-place slot slot_is None same = absurd cc
    by-place slot slot_is (Some one) same = by-record slot slot_is one same

    by-slot : (at : Option ℕ) → slot_of records key ≡ at → option_and_then (λ (slot : ℕ). option_and_then (found_by records slot) (slice_get records slot)) at ≡ Some found
        → IsFoundUnder records key found
    by-slot None there same = absurd cc
    by-slot (Some slot) there same = by-place slot there (slice_get records slot) same

-- the result of an entry
result-of : (records : List Record) (slot : ℕ) (entry : TheEntry) → entry_at records slot ≡ Some entry → option_and_then (outcome_at records) (ended_at records slot) ≡ entry.result
result-of records slot entry is = by-intent (intent_at records slot) is
  where
    by-intent : (asked : Option TheIntent) → option_map (entry_with records slot (ended_at records slot)) asked ≡ Some entry
        → option_and_then (outcome_at records) (ended_at records slot) ≡ entry.result
    by-intent None same = absurd cc
    by-intent (Some intent) same = ap (λ (one : TheEntry). one.result) (same_Some (entry_with records slot (ended_at records slot) intent) entry same)

no-texts : (intent : TheIntent) (make : List ℕ → List ℕ → ResultBody) → HasTillText Payment 80 intent.transaction → HasTillText Payment 35 intent.stamp → with_texts intent make ≡ None → ⊥
no-texts intent make = by-texts intent.transaction intent.stamp
  where
    by-texts : (transaction stamp : Option (List ℕ)) → HasTillText Payment 80 transaction → HasTillText Payment 35 stamp
        → option_and_then (λ (text : List ℕ). option_map (make text) stamp) transaction ≡ None → ⊥
    by-texts None stamp has more none = has
    by-texts (Some transaction) None has more none = more
    by-texts (Some transaction) (Some stamp) has more none = cc

no-reason : (outcome : TheOutcome) (make : Condition → Option ResultBody) → HasReason false outcome.condition → ((reason : Condition) → make reason ≡ None → ⊥) → with_reason outcome make ≡ None → ⊥
no-reason outcome make = by-reason outcome.condition
  where
    by-reason : (condition : Option Condition) → HasReason false condition → ((reason : Condition) → make reason ≡ None → ⊥) → option_and_then make condition ≡ None → ⊥
    by-reason None has made none = has
    by-reason (Some reason) has made none = made reason none

-- an entry within its limits that has an Outcome has a result body
has-body : (entry : TheEntry) (outcome : TheOutcome) → IsIntent entry.intent → IsOutcome outcome → outcome_body entry outcome ≡ None → ⊥
has-body entry outcome intent within = by-deal entry.intent.what outcome.approved intent.transaction intent.stamp within.condition
  where
    by-deal : (what : Deal) (approved : Bool) → HasTillText what 80 entry.intent.transaction → HasTillText what 35 entry.intent.stamp → HasReason approved outcome.condition
        → entry_body what approved entry.slot entry.intent outcome ≡ None → ⊥
    by-deal Payment true transaction stamp condition none =
        no-texts entry.intent (λ text time. PaymentApproved text time (transaction_mark entry.slot outcome) entry.intent.amount (money_of entry.intent outcome)) transaction stamp none
    by-deal Payment false transaction stamp condition none =
        no-reason outcome (λ reason. with_texts entry.intent (λ text time. PaymentDeclined text time (transaction_mark entry.slot outcome) reason)) condition
        (λ reason. no-texts entry.intent (λ text time. PaymentDeclined text time (transaction_mark entry.slot outcome) reason) transaction stamp) none
    by-deal Reversal true transaction stamp condition none = cc
    by-deal Reversal false transaction stamp condition none =
        no-reason outcome (λ reason. Some (ReversalDeclined (transaction_mark entry.slot outcome) reason)) condition (λ reason none. cc) none

-- one without a result body has no Outcome
no-result : (entry : TheEntry) → IsEntryWithin entry → result_body_of (Entry entry) ≡ None → entry.result ≡ None
no-result entry within = by-result entry.result within.result
  where
    by-result : (result : Option TheOutcome) → IfSome result IsOutcome → option_and_then (outcome_body entry) result ≡ None → result ≡ None
    by-result None limits none = refl
    by-result (Some outcome) limits none = absurd (has-body entry outcome within.intent limits none)

module _ (laws : LedgerLaws) (records : List Record) (folded : AreFolded records) where
  -- the Outcome of an entry is in the records
  pub has-outcome : (slot : ℕ) (entry : TheEntry) (outcome : TheOutcome) → entry_at records slot ≡ Some entry → entry.result ≡ Some outcome → HasOutcome records entry outcome
  has-outcome slot entry outcome is result = by-ended (ended_at records slot) refl (result-of records slot entry is ∙ result)
    where
      by-ended : (ended : Option ℕ) → ended_at records slot ≡ ended → option_and_then (outcome_at records) ended ≡ Some outcome → HasOutcome records entry outcome
      by-ended None ended_is there = absurd cc
      by-ended (Some at) ended_is there =
          let parts = entry-parts records slot entry is in
          let end = end-at-outcomes laws records slot at ended_is in
          let same : end.outcome ≡ outcome = same_Some end.outcome outcome (sym (ap (option_and_then as_outcome) end.found) ∙ there) in
          record {
            at = at;
            found = end.found ∙ ap (λ (one : TheOutcome). Some (Outcome one)) same;
            intent_is = ap (intent_at records) parts.0 ∙ parts.1;
            slot_is = sym (ap (λ (one : TheOutcome). one.slot) same) ∙ (end.slot_is ∙ sym parts.0);
            key_slot = own-slot laws records slot entry.intent folded parts.1 ∙ ap Some (sym parts.0);
            within = subst (λ (one : Option TheOutcome). IfSome one IsOutcome) result ((laws.within records folded).0 slot entry is).result;
          }

  -- an entry without one is open
  entry-open : (slot : ℕ) (entry : TheEntry) → entry_at records slot ≡ Some entry → entry.result ≡ None → is_open records slot ≡ true
  entry-open slot entry is result = by-ended (ended_at records slot) refl (result-of records slot entry is ∙ result)
    where
      by-ended : (ended : Option ℕ) → ended_at records slot ≡ ended → option_and_then (outcome_at records) ended ≡ None → is_open records slot ≡ true
      by-ended None ended_is there =
          ap (λ (asked : Option TheIntent). is_some asked && not (is_some (ended_at records slot))) (entry-parts records slot entry is).1 ∙ ap (λ (ended : Option ℕ). not (is_some ended)) ended_is
      by-ended (Some at) ended_is there =
          let end = end-at-outcomes laws records slot at ended_is in
          let outcome : outcome_at records at ≡ Some end.outcome = ap (option_and_then as_outcome) end.found in
          absurd cc

  -- the entry of the last Intent is under its own key
  pub last-under : (sale poi : List ℕ) (entry : TheEntry) → last_entry records sale poi ≡ Some entry → IsEntryOf records (intent_key entry.intent) entry
  last-under sale poi entry is = by-slot (last_slot records sale poi) is
    where
      by-slot : (at : Option ℕ) → option_and_then (entry_at records) at ≡ Some entry → IsEntryOf records (intent_key entry.intent) entry
      by-slot None there = absurd cc
      by-slot (Some slot) there = record { slot = slot; slot_is = own-slot laws records slot entry.intent folded (entry-parts records slot entry there).1; entry_is = there }

  -- a key under which what is found has no result body is open
  pub open-key : (key : Key) (found : Found) → IsFoundUnder records key found → result_body_of found ≡ None → IsOpenKey records key
  open-key key (Entry entry) under none = record {
    slot = under.slot;
    slot_is = under.slot_is;
    opened = entry-open under.slot entry under.entry_is (no-result entry ((laws.within records folded).0 under.slot entry under.entry_is) none);
  }
  open-key key (Closed closed) under none = absurd cc

  -- what the result body of what is found says is true
  pub finished-true : (occasion : Occasion) (key : Key) (found : Found) (body : ResultBody) → IsFoundUnder records key found → result_body_of found ≡ Some body
      → IsSaidTrue records [] occasion (finished_said (header_of found) body)
  finished-true occasion key (Entry entry) body under is = by-result entry.result refl is
    where
      by-result : (result : Option TheOutcome) → entry.result ≡ result → option_and_then (outcome_body entry) result ≡ Some body → IsSaidTrue records [] occasion (finished_said (header_of (Entry entry)) body)
      by-result None result_is made = absurd cc
      by-result (Some outcome) result_is made = entry-true records occasion entry outcome (has-outcome under.slot entry outcome under.entry_is result_is) body made
  finished-true occasion key (Closed closed) body under is =
      subst (λ (result : ResultBody). IsSaidTrue records [] occasion (finished_said (header_of (Closed closed)) result)) (same_Some (totals_body closed) body is)
      (totals-true records occasion closed)
