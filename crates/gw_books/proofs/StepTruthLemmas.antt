-- What the reply to a request says is true of the records.
use Rattle.std.proofs.Common.{◌≡◌, ℕ, Bool, true, false, List, [], ◌∷◌, refl, sym, ◌∙◌, ap, subst}
use Rattle.std.proofs.lemmas.Bool.{and_parts, false_from_ne_true, or_from}
use Rattle.std.proofs.lemmas.Option.{same_Some}
use Rattle.std.proofs.lemmas.Slice.Eq.{bytes_eq-Decides}
use Rattle.std.specs.Prelude.{◌||◌, pos, bytes_eq, codes, is_some, not, if◌then◌else◌, Option, Some, None, option_and_then, option_map, option_to_list, unwrap_or}
use Rattle.std.specs.List.{list_any}
use Rattle.gw_base.specs.declared.condition.Condition.{Condition}
use Rattle.gw_base.specs.declared.condition.Condition.TheVariants.{Busy, InProgress, MessageFormat, NotAllowed, NotFound, UnavailableDevice, UnavailableService}
use Rattle.gw_base.specs.declared.key.Key.{Key}
use Rattle.json_text.specs.Tree.{Tree}
use Rattle.sale_values.specs.Key.{key_of}
use Rattle.sale_values.specs.declared.fault.SaleFault.{SaleFault}
use Rattle.sale_values.specs.declared.fault.SaleFault.TheVariants.{NoHeader, Missing, Wrong, Unserved}
use Rattle.gw_base.specs.Condition.{name_of}
use Rattle.sale_values.specs.declared.header.Header.{Header}
use Rattle.sale_values.specs.declared.request.Output.{Output}
use Rattle.sale_values.specs.declared.request.Reference.{Reference}
use Rattle.sale_values.specs.declared.request.SaleRequest.{SaleRequest}
use Rattle.sale_values.specs.declared.request.SaleRequest.TheVariants as requests
use Rattle.sale_msg.specs.Grammar.{IsRequest, IsSaleFault}
use Rattle.sale_msg.specs.declared.category.Category.TheVariants as categories
use Rattle.sale_reply.specs.declared.reply.Detail.TheVariants as details
use Rattle.sale_reply.specs.declared.reply.Shown.{Shown}
use Rattle.sale_reply.specs.declared.reply.Told.{Told as ResultBody}
use Rattle.jrn_record.specs.declared.records.Record.{Record}
use Rattle.gw_ledger.specs.declared.entry.Entry.{Entry as TheEntry}
use Rattle.gw_ledger.specs.declared.entry.Found.{Found}
use Rattle.gw_ledger.specs.declared.entry.Found.TheVariants.{Entry}
use Rattle.gw_ledger.specs.Fold.{AreFolded, found_of, last_entry}
use Rattle.gw_ledger.specs.Keys.{intent_key, same_key}
use Rattle.xlate.specs.Reply.{header_of, result_body_of}
use Rattle.gw_owes.specs.Content.{has_same_content}
use Rattle.gw_owes.specs.Core.{Core, Wait}
use Rattle.gw_owes.specs.Days.{asks_day, is_day_again, is_day_key, is_key_of_day, named_serves_day}
use Rattle.gw_owes.specs.Displays.{display_result, reply_of_display}
use Rattle.gw_owes.specs.Diagnosis.{NamedTerminal, diagnosis_reply, named_terminal}
use Rattle.gw_owes.specs.KeptReplies.{found_by_status, found_for, is_open_key, own_key, repeated_reply, status_reply, status_reply_at}
use Rattle.gw_owes.specs.ReadAs.{ReadAs, Request, Silent, NoMessage, NoJson}
use Rattle.gw_owes.specs.RecordLaws.{IsInOrder, IsReadFromTill}
use Rattle.gw_owes.specs.Reply.{ReplyValue, Finished, Display, Print, Reject}
use Rattle.gw_owes.specs.Replies.{display_reply, failure, failure_reply, header_of_reply, refused_results, reject_event, reply_to_fault, reply_to_malformed}
use Rattle.gw_owes.specs.Requests.{abort_reply, reply_at, reply_to}
use Rattle.gw_owes.specs.Row.{Known}
use Rattle.gw_owes.specs.Sessions.{is_one_too_many, is_session}
use Rattle.gw_owes.specs.SessionRows.{success_reply}
use Rattle.gw_owes.specs.Steps.{StepResult, KeptReply, Fails, Begins, Waits, RequestStep, first_result, reply_of_result, result_at_queue, service_reply, steps}
use Rattle.gw_owes.specs.Waits.{asks_pending, is_pending, is_pending_again, is_queue_full, repeats_waiting, waiting_for, waiting_with}
use Rattle.gw_owes.proofs.HeardLemmas.{of-both}
use Rattle.gw_owes.proofs.LimitLemmas.{service-there}
use Rattle.gw_owes.proofs.RecordLemmas.{LedgerLaws}
use Rattle.gw_owes.proofs.StepLemmas.{each-on-record-is-replied}
use Rattle.gw_books.specs.Past.{Occasion, OfRequest, OfNothing, occasion_read, waiting_keys}
use Rattle.gw_books.specs.Said.{Said}
use Rattle.gw_books.specs.SaidLaws.{display_said, finished_said, header_key, plain_said}
use Rattle.gw_books.specs.Agrees.{is_accepted, key_about, key_asked}
use Rattle.gw_books.proofs.Holding.{IsNoTransaction, IsReplyTrue, IsSaidTrue}
use Rattle.gw_books.proofs.ListLemmas.{In, bytes-are}
use Rattle.gw_books.proofs.RecordMoreLemmas.{unknown-accepted}
use Rattle.gw_books.proofs.ReplyTruthLemmas.{IsFoundUnder, IsIdle, alone-true, both-true, display-true, finished-true, found-under, kind-is, last-under, malformed-true, meant-by, meant-own, not-found-true, open-key, open-true, other-content-true, other-kind-true, reply-true-more, succeeded-true, unknown-true, waits-true}
use Rattle.gw_books.proofs.WaitingLemmas.{day-waits, pending-waits, single-true, waiting-waits}

-- ---- replies by their kinds

-- the reply that there is
reply-is : (records : List Record) (occasion : Occasion) (one reply : ReplyValue) → IsReplyTrue records [] occasion one → Some one ≡ Some reply → IsReplyTrue records [] occasion reply
reply-is records occasion one reply holds same = subst (IsReplyTrue records [] occasion) (same_Some one reply same) holds

pub failure-true : (records : List Record) (occasion : Occasion) (header : Header) (condition : Condition) → IsSaidTrue records [] occasion (plain_said (header_of_reply header) (Some condition))
    → IsReplyTrue records [] occasion (failure_reply header condition)
failure-true records occasion header condition holds = λ said there. alone-true records occasion (plain_said (header_of_reply header) (Some condition)) said holds there

-- ---- no message

-- the category is none of the served ones
unserved-apart : (message : Tree) (header : Header) → IsSaleFault message (Unserved header) → IsNoTransaction (header_of_reply header)
unserved-apart message header faulty =
    or_from (bytes_eq header.category (codes "Payment")) (bytes_eq header.category (codes "Reversal"))
    (false_from_ne_true (bytes_eq header.category (codes "Payment")) (λ same. faulty.2 categories.Payment (sym ((bytes_eq-Decides header.category (codes "Payment")).0 same))))
    (false_from_ne_true (bytes_eq header.category (codes "Reversal")) (λ same. faulty.2 categories.Reversal (sym ((bytes_eq-Decides header.category (codes "Reversal")).0 same))))

-- where the one holds by its test, and the other does, that holds which there is
of-tested : {A : Type 0} (P : A → Type 0) (test : Bool) (one other : A) → (test ≡ true → P one) → P other → P (if test then one else other)
of-tested P true one other first second = first refl
of-tested P false one other first second = second

-- a body of another form
malformed-reply-true : (records : List Record) (occasion : Occasion) (moment : ℕ) (header : Header) (path : List ℕ) → IsReplyTrue records [] occasion (reply_to_malformed moment header path)
malformed-reply-true records occasion moment header path =
    of-both (IsReplyTrue records [] occasion) (bytes_eq header.category (codes "Abort")) _ _ (λ said none. absurd none)
    (of-tested (IsReplyTrue records [] occasion) (bytes_eq header.category (codes "Display")) _ _
    (λ is said there.
    alone-true records occasion (display_said (header_of_reply header)) said
    (display-true records occasion (header_of_reply header) (kind-is header (codes "Display") (bytes-are header.category (codes "Display") is) refl)) there)
    (of-both (IsReplyTrue records [] occasion) (bytes_eq header.category (codes "Print")) _ _ plain plain))
  where
    plain : (said : Said) → In said (plain_said (header_of_reply header) (Some MessageFormat) ∷ []) → IsSaidTrue records [] occasion said
    plain said there = alone-true records occasion (plain_said (header_of_reply header) (Some MessageFormat)) said (malformed-true records occasion (header_of_reply header)) there

fault-true : (records : List Record) (name : List ℕ) (moment : ℕ) (message : Tree) (fault : SaleFault) → IsSaleFault message fault → IsReplyTrue records [] OfNothing (reply_to_fault name moment fault)
fault-true records name moment message (NoHeader path) faulty = λ said none. absurd none
fault-true records name moment message (Missing header path) faulty = malformed-reply-true records OfNothing moment header path
fault-true records name moment message (Wrong header path) faulty = malformed-reply-true records OfNothing moment header path
fault-true records name moment message (Unserved header) faulty =
    failure-true records OfNothing header UnavailableService (other-kind-true records OfNothing (header_of_reply header) UnavailableService (refl, refl) (unserved-apart message header faulty))

-- ---- steps

-- a result that doesn't say that a key is in progress
abbrev IsIdleResult : StepResult → Type 0
IsIdleResult KeptReply = ⊥
IsIdleResult (Fails condition) = bytes_eq (name_of condition) (codes "InProgress") ≡ false
IsIdleResult Begins = Unit {0}
IsIdleResult Waits = Unit {0}

-- each step that applies has such a result
abbrev AreIdle : List RequestStep → Type 0
AreIdle [] = Unit {0}
AreIdle (step ∷ steps) = (step.applies ≡ true → IsIdleResult step.result) × AreIdle steps

-- so has the first that does
first-idle : (otherwise : StepResult) (steps : List RequestStep) → IsIdleResult otherwise → AreIdle steps → IsIdleResult (first_result otherwise steps)
first-idle otherwise [] last idle = last
first-idle otherwise (step ∷ steps) last idle = by-test step.applies refl (first-idle otherwise steps last idle.1)
  where
    by-test : (applies : Bool) → step.applies ≡ applies → IsIdleResult (first_result otherwise steps) → IsIdleResult (if applies then step.result else first_result otherwise steps)
    by-test true is later = idle.0 is
    by-test false is later = later

-- nor has what there is for a terminal that serves another request
queue-idle : (known : Known) (named : Option NamedTerminal) → IsIdleResult (result_at_queue known named)
queue-idle known named = by-full (is_queue_full known named)
  where
    by-full : (full : Bool) → IsIdleResult (if full then Fails Busy else Waits)
    by-full true = refl
    by-full false = tt

-- where the key isn't on record, and nothing that waits or is served is asked for again
none-idle : (known : Known) (header : Header) (request : SaleRequest) (named : Option NamedTerminal) → is_pending_again known header request named ≡ false → IsIdleResult (first_result (result_at_queue known named) (steps known header request None named))
none-idle known header request named new = first-idle (result_at_queue known named) (steps known header request None named) (queue-idle known named) (
  λ applies. absurd cc,
  (
    λ applies. absurd cc,
    (
      λ applies. absurd cc,
      (
        λ applies. absurd (let clash : true ≡ false = sym applies ∙ new in cc),
        (
          λ applies. refl,
          (λ applies. refl, (λ applies. refl, (λ applies. refl, (λ applies. refl, (λ applies. refl, (λ applies. refl, (λ applies. refl, (λ applies. refl, (λ applies. tt, (λ applies. refl, (λ applies. tt, tt))))))))))),
        ),
      ),
    ),
  ),
)

-- where it is, that is in progress
again-fails : (known : Known) (header : Header) (request : SaleRequest) (named : Option NamedTerminal) → is_pending_again known header request named ≡ true → first_result (result_at_queue known named) (steps known header request None named) ≡ Fails InProgress
again-fails known header request named is = rw is refl

-- the key of a header with a ServiceID
own-key-is : (header : Header) (service : List ℕ) → header.service ≡ Some service → own_key header ≡ Some (header_key header)
own-key-is header service = by-service header.service
  where
    by-service : (there : Option (List ℕ)) → there ≡ Some service
        → ◌≡◌ {A = Option Key} (option_map (λ (text : List ℕ). record { sale = header.sale; poi = header.poi; service = text }) there)
        (Some (record { sale = header.sale; poi = header.poi; service = unwrap_or there [] }))
    by-service None is = absurd cc
    by-service (Some text) is = refl

-- what is repeated is there
repeats-there : (kept : List Record) (poi : List ℕ) (request : SaleRequest) (found : Option Wait) → repeats_waiting kept poi request found ≡ true → is_some found ≡ true
repeats-there kept poi request None is = absurd cc
repeats-there kept poi request (Some wait) is = refl

module _ (laws : LedgerLaws) (known : Known) (folded : AreFolded known.kept) (header : Header) (request : SaleRequest) (about : (own : Key) → key_about known.kept own header request ≡ Some own)
    (service : List ℕ) (service_is : header.service ≡ Some service) (named : Option NamedTerminal) (named_is : named_terminal known.core header.poi ≡ named) (reply : ReplyValue)
  where
    abbrev waiting : List Key
    waiting = waiting_keys known.core

    -- what is asked for again waits, or is the end of day that is served
    again-waits : is_pending_again known header request named ≡ true → list_any (same_key (header_key header)) waiting ≡ true
    again-waits is = by-day (is_day_again header request named) refl is
      where
        by-day : (day : Bool) → is_day_again header request named ≡ day → (day || repeats_waiting known.kept header.poi request (waiting_for known.core header)) ≡ true → list_any (same_key (header_key header)) waiting ≡ true
        by-day true again e =
            let day : is_key_of_day (own_key header) named ≡ true = (and_parts (is_day_key header named) (asks_day request) again).0 in
            let serves : is_key_of_day (Some (header_key header)) named ≡ true = subst (λ (key : Option Key). is_key_of_day key named ≡ true) (own-key-is header service service_is) day in
            day-waits known.core (header_key header) (ap (named_serves_day (header_key header)) named_is ∙ serves)
        by-day false again e = waiting-waits known.core (header_key header)
            (repeats-there known.kept header.poi request (waiting_with (header_key header) known.core.waits)
            (subst (λ (key : Option Key). repeats_waiting known.kept header.poi request (option_and_then (λ (one : Key). waiting_with one known.core.waits) key) ≡ true) (own-key-is header service service_is) e))

    found-is : found_for known.kept header ≡ found_of known.kept (header_key header)
    found-is = ap (option_and_then (found_of known.kept)) (own-key-is header service service_is)

    -- a result that doesn't say that the key is in progress
    idle-reply : found_of known.kept (header_key header) ≡ None → (result : StepResult) → IsIdleResult result → reply_of_result known.kept header result ≡ Some reply
        → IsReplyTrue known.kept [] (OfRequest header request) reply
    idle-reply none KeptReply idle is = absurd idle
    idle-reply none (Fails condition) idle is = reply-is known.kept (OfRequest header request) (failure_reply header condition) reply
        (failure-true known.kept (OfRequest header request) header condition
        (unknown-true known.kept (OfRequest header request) (header_of_reply header) condition idle (meant-own known.kept (header_key header) header request (about (header_key header))) (unknown-accepted known.kept (header_key header) none))) is
    idle-reply none Begins idle is = absurd cc
    idle-reply none Waits idle is = absurd cc

    -- the key is on record
    on-record : (found : Found) → found_of known.kept (header_key header) ≡ Some found → service_reply known header request named ≡ Some reply → IsReplyTrue known.kept [] (OfRequest header request) reply
    on-record found there is = by-content (has_same_content known.kept request found) (result_body_of found) refl refl
      where
        by-content : (same : Bool) (kept : Option ResultBody) → has_same_content known.kept request found ≡ same → result_body_of found ≡ kept → IsReplyTrue known.kept [] (OfRequest header request) reply
        by-content true (Some body) content kept =
            reply-is known.kept (OfRequest header request) (Finished (header_of found) body) reply
            (λ said said_is. alone-true known.kept (OfRequest header request) (finished_said (header_of found) body) said
            (finished-true laws known.kept folded (OfRequest header request) (header_key header) found body (found-under known.kept (header_key header) found there) kept) said_is)
            (sym ((each-on-record-is-replied known header request named found (found-is ∙ there)).finished content body kept) ∙ is)
        by-content true None content kept =
            reply-is known.kept (OfRequest header request) (failure_reply header InProgress) reply
            (failure-true known.kept (OfRequest header request) header InProgress
            (open-true known.kept (OfRequest header request) (header_of_reply header) (header_key header) (meant-own known.kept (header_key header) header request (about (header_key header)))
            (open-key laws known.kept folded (header_key header) found (found-under known.kept (header_key header) found there) kept)))
            (sym ((each-on-record-is-replied known header request named found (found-is ∙ there)).in_progress content kept) ∙ is)
        by-content false kept content kept_is =
            reply-is known.kept (OfRequest header request) (failure_reply header NotAllowed) reply
            (failure-true known.kept (OfRequest header request) header NotAllowed (other-content-true known.kept header (header_of_reply header) request found refl there content))
            (sym ((each-on-record-is-replied known header request named found (found-is ∙ there)).other_content content) ∙ is)

    -- the key isn't on record
    off-record : found_of known.kept (header_key header) ≡ None → reply_of_result known.kept header (first_result (result_at_queue known named) (steps known header request None named)) ≡ Some reply
        → IsReplyTrue known.kept waiting (OfRequest header request) reply
    off-record none is = by-again (is_pending_again known header request named) refl
      where
        by-again : (again : Bool) → is_pending_again known header request named ≡ again → IsReplyTrue known.kept waiting (OfRequest header request) reply
        by-again true same =
            subst (IsReplyTrue known.kept waiting (OfRequest header request))
            (same_Some (failure_reply header InProgress) reply (sym (ap (reply_of_result known.kept header) (again-fails known header request named same)) ∙ is))
            (λ said there. single-true known.kept waiting (OfRequest header request) (plain_said (header_of_reply header) (Some InProgress)) said
            (waits-true known.kept waiting (OfRequest header request) (header_of_reply header) (header_key header) (meant-own known.kept (header_key header) header request (about (header_key header))) (again-waits same)) there)
        by-again false other =
            reply-true-more known.kept waiting (OfRequest header request) reply
            (idle-reply none (first_result (result_at_queue known named) (steps known header request None named)) (none-idle known header request named other) is)

    -- a Payment, a Reversal or a Reconciliation
    service-true : service_reply known header request named ≡ Some reply → IsReplyTrue known.kept waiting (OfRequest header request) reply
    service-true is = by-found (found_of known.kept (header_key header)) refl
      where
        by-found : (there : Option Found) → found_of known.kept (header_key header) ≡ there → IsReplyTrue known.kept waiting (OfRequest header request) reply
        by-found None none = off-record none
            (sym (ap (λ (there : Option Found). reply_of_result known.kept header (first_result (result_at_queue known named) (steps known header request there named))) (found-is ∙ none)) ∙ is)
        by-found (Some found) there = reply-true-more known.kept waiting (OfRequest header request) reply (on-record found there is)

-- ---- a TransactionStatus

-- what a status finds is under the key that it asks for
record IsAsked (kept : List Record) (header : Header) (reference : Option Reference) (found : Found) : Type 0 where
  key : Key
  key_is : key_asked kept header reference ≡ Some key
  under : IsFoundUnder kept key found

module _ (laws : LedgerLaws) (kept : List Record) (folded : AreFolded kept) (header : Header) (apart : IsNoTransaction header) where
  -- it finds nothing
  none-asked : (reference : Option Reference) → found_by_status kept header reference ≡ None → list_any (is_accepted kept) (option_to_list (key_asked kept header reference)) ≡ false
  none-asked (Some reference) none = or_from (is_accepted kept (key_of header reference)) false (unknown-accepted kept (key_of header reference) none) refl
  none-asked None none = by-last (last_entry kept header.sale header.poi) none
    where
      by-last : (last : Option TheEntry) → option_map Entry last ≡ None → list_any (is_accepted kept) (option_to_list (option_map (λ (entry : TheEntry). intent_key entry.intent) last)) ≡ false
      by-last None lacks = refl
      by-last (Some entry) lacks = absurd cc

  asked-under : (reference : Option Reference) (found : Found) → found_by_status kept header reference ≡ Some found → IsAsked kept header reference found
  asked-under (Some reference) found is = record { key = key_of header reference; key_is = refl; under = found-under kept (key_of header reference) found is }
  asked-under None found is = by-last (last_entry kept header.sale header.poi) refl is
    where
      by-last : (last : Option TheEntry) → last_entry kept header.sale header.poi ≡ last → option_map Entry last ≡ Some found → IsAsked kept header None found
      by-last None there same = absurd cc
      by-last (Some entry) there same = record {
        key = intent_key entry.intent;
        key_is = ap (option_map (λ (one : TheEntry). intent_key one.intent)) there;
        under = subst (IsFoundUnder kept (intent_key entry.intent)) (same_Some (Entry entry) found same) (last-under laws kept folded header.sale header.poi entry there);
      }

  found-true : (reference : Option Reference) (found : Found) → IsAsked kept header reference found → (body : Option ResultBody) → result_body_of found ≡ body
      → IsReplyTrue kept [] (OfRequest header (requests.Status reference)) (repeated_reply header found body)
  found-true reference found asked None none = failure-true kept (OfRequest header (requests.Status reference)) header InProgress
      (open-true kept (OfRequest header (requests.Status reference)) (header_of_reply header) asked.key (meant-by kept header (requests.Status reference) ∙ asked.key_is) (open-key laws kept folded asked.key found asked.under none))
  found-true reference found asked (Some body) is =
      λ said there. both-true kept (OfRequest header (requests.Status reference)) (plain_said (header_of_reply header) None) (finished_said (header_of found) body) said
      (succeeded-true kept (OfRequest header (requests.Status reference)) (header_of_reply header) apart)
      (finished-true laws kept folded (OfRequest header (requests.Status reference)) asked.key found body asked.under is) there

  status-true : (reference : Option Reference) → IsReplyTrue kept [] (OfRequest header (requests.Status reference)) (status_reply header (found_by_status kept header reference))
  status-true reference = by-found (found_by_status kept header reference) refl
    where
      by-found : (there : Option Found) → found_by_status kept header reference ≡ there → IsReplyTrue kept [] (OfRequest header (requests.Status reference)) (status_reply header there)
      by-found None none = failure-true kept (OfRequest header (requests.Status reference)) header NotFound
          (not-found-true kept (OfRequest header (requests.Status reference)) (header_of_reply header) apart (ap (λ (key : Option Key). list_any (is_accepted kept) (option_to_list key)) (meant-by kept header (requests.Status reference)) ∙ none-asked reference none))
      by-found (Some found) is = found-true reference found (asked-under reference found is) (result_body_of found) refl

  -- the same where a request may wait, or an end of day may be served
  status-at-true : (core : Core) (reference : Option Reference)
      → IsReplyTrue kept (waiting_keys core) (OfRequest header (requests.Status reference)) (status_reply_at header (found_by_status kept header reference) (asks_pending core header reference))
  status-at-true core reference = by-found (found_by_status kept header reference) refl
    where
      served : (asked : Option Reference) → asks_pending core header asked ≡ true → IsReplyTrue kept (waiting_keys core) (OfRequest header (requests.Status asked)) (failure_reply header InProgress)
      served None serves = absurd cc
      served (Some one) serves =
          λ said there. single-true kept (waiting_keys core) (OfRequest header (requests.Status (Some one))) (plain_said (header_of_reply header) (Some InProgress)) said
          (waits-true kept (waiting_keys core) (OfRequest header (requests.Status (Some one))) (header_of_reply header) (key_of header one) (meant-by kept header (requests.Status (Some one))) (pending-waits core (key_of header one) serves)) there

      by-served : (b : Bool) → asks_pending core header reference ≡ b → found_by_status kept header reference ≡ None
          → IsReplyTrue kept (waiting_keys core) (OfRequest header (requests.Status reference)) (status_reply_at header None b)
      by-served true serves none = served reference serves
      by-served false apart_from none =
          reply-true-more kept (waiting_keys core) (OfRequest header (requests.Status reference)) (status_reply header None)
          (subst (λ (there : Option Found). IsReplyTrue kept [] (OfRequest header (requests.Status reference)) (status_reply header there)) none (status-true reference))

      by-found : (there : Option Found) → found_by_status kept header reference ≡ there
          → IsReplyTrue kept (waiting_keys core) (OfRequest header (requests.Status reference)) (status_reply_at header there (asks_pending core header reference))
      by-found None none = by-served (asks_pending core header reference) refl none
      by-found (Some found) is =
          reply-true-more kept (waiting_keys core) (OfRequest header (requests.Status reference)) (status_reply header (Some found))
          (subst (λ (there : Option Found). IsReplyTrue kept [] (OfRequest header (requests.Status reference)) (status_reply header there)) is (status-true reference))

-- ---- requests that aren't served

module _ (records : List Record) (occasion : Occasion) (header : Header) (apart : IsNoTransaction header) where
  unserved-true : (condition : Condition) → IsIdle condition → IsReplyTrue records [] occasion (failure_reply header condition)
  unserved-true condition idle = failure-true records occasion header condition (other-kind-true records occasion (header_of_reply header) condition idle apart)

  diagnosis-true : (named : Option NamedTerminal) → IsReplyTrue records [] occasion (diagnosis_reply header named)
  diagnosis-true None = unserved-true UnavailableDevice (refl, refl)
  diagnosis-true (Some named) = λ said there. alone-true records occasion (plain_said (header_of_reply header) None) said (succeeded-true records occasion (header_of_reply header) apart) there

  print-true : (qualifier : List ℕ) → IsReplyTrue records [] occasion (Print (header_of_reply header) qualifier (failure UnavailableDevice))
  print-true qualifier = λ said there. alone-true records occasion (plain_said (header_of_reply header) (Some UnavailableDevice)) said
      (other-kind-true records occasion (header_of_reply header) UnavailableDevice (refl, refl) apart) there

  -- it succeeds
  success-true : IsReplyTrue records [] occasion (success_reply header)
  success-true = λ said there. alone-true records occasion (plain_said (header_of_reply header) None) said (succeeded-true records occasion (header_of_reply header) apart) there

  -- a Login or a Logout that is refused
  refused-true : (unnamed one_too_many : Bool) (reply : ReplyValue) → reply_of_result records header (if unnamed then Fails UnavailableDevice else (if one_too_many then Fails UnavailableService else Begins)) ≡ Some reply
      → IsReplyTrue records [] occasion reply
  refused-true true one_too_many reply is = reply-is records occasion (failure_reply header UnavailableDevice) reply (unserved-true UnavailableDevice (refl, refl)) is
  refused-true false true reply is = reply-is records occasion (failure_reply header UnavailableService) reply (unserved-true UnavailableService (refl, refl)) is
  refused-true false false reply is = absurd cc

-- the reply to a Display with these results, where there are any
pub display-results-true : (records : List Record) (occasion : Occasion) (header : Header) (results : Option (List Shown)) (reply : ReplyValue) → IsNoTransaction header → display_reply header results ≡ Some reply
    → IsReplyTrue records [] occasion reply
display-results-true records occasion header None reply apart is = absurd cc
display-results-true records occasion header (Some results) reply apart is = reply-is records occasion (Display (header_of_reply header) results) reply
    (λ said there. alone-true records occasion (display_said (header_of_reply header)) said (display-true records occasion (header_of_reply header) apart) there) is

-- the reply to a Display that doesn't begin
display-reply-true : (records : List Record) (occasion : Occasion) (header : Header) (outputs : List Output) (result : StepResult) (reply : ReplyValue) → IsNoTransaction header
    → reply_of_display header outputs result ≡ Some reply → IsReplyTrue records [] occasion reply
display-reply-true records occasion header outputs KeptReply reply apart is = absurd cc
display-reply-true records occasion header outputs (Fails condition) reply apart is = display-results-true records occasion header (refused_results condition outputs) reply apart is
display-reply-true records occasion header outputs Begins reply apart is = absurd cc
display-reply-true records occasion header outputs Waits reply apart is = absurd cc

abort-true : (records : List Record) (occasion : Occasion) (opened : Bool) (known : Known) (header : Header) (reply : ReplyValue) → abort_reply opened known header ≡ Some reply → IsReplyTrue records [] occasion reply
abort-true records occasion true known header reply is = absurd cc
abort-true records occasion false known header reply is =
    reply-is records occasion (Reject header.sale header.poi (pos known.moment) details.Abort) reply (λ said none. absurd none) is

-- ---- each request

request-true : (laws : LedgerLaws) (known : Known) (message body : Tree) (header : Header) (request : SaleRequest) (named : Option NamedTerminal) (reply : ReplyValue)
    → named_terminal known.core header.poi ≡ named
    → AreFolded known.kept → IsRequest message body header request → reply_at named known header request ≡ Some reply → IsReplyTrue known.kept (waiting_keys known.core) (OfRequest header request) reply
request-true laws known message body header requests.Login named reply named_is folded asks is =
    reply-true-more known.kept (waiting_keys known.core) (OfRequest header requests.Login) reply
    (refused-true known.kept (OfRequest header requests.Login) header (kind-is header (codes "Login") (sym asks.category) refl) (not (is_some named)) (is_one_too_many known.core header requests.Login) reply is)
request-true laws known message body header requests.Logout named reply named_is folded asks is =
    reply-true-more known.kept (waiting_keys known.core) (OfRequest header requests.Logout) reply
    (refused-true known.kept (OfRequest header requests.Logout) header (kind-is header (codes "Logout") (sym asks.category) refl) (not (is_some named)) (is_one_too_many known.core header requests.Logout) reply is)
request-true laws known message body header (requests.Payment ask) named reply named_is folded asks is =
    let service = service-there body asks.members.members.0 in
    service-true laws known folded header (requests.Payment ask) (λ own. refl) service.text (sym asks.request_of.header_is.values.service ∙ service.is) named named_is reply is
request-true laws known message body header (requests.Reversal ask) named reply named_is folded asks is =
    let service = service-there body asks.members.members.0 in
    service-true laws known folded header (requests.Reversal ask) (λ own. refl) service.text (sym asks.request_of.header_is.values.service ∙ service.is) named named_is reply is
request-true laws known message body header (requests.Abort reference) named reply named_is folded asks is =
    reply-true-more known.kept (waiting_keys known.core) (OfRequest header (requests.Abort reference)) reply
    (abort-true known.kept (OfRequest header (requests.Abort reference)) (is_open_key known.kept header reference || is_pending known.core (key_of header reference)) known header reply is)
request-true laws known message body header (requests.Status reference) named reply named_is folded asks is =
    subst (IsReplyTrue known.kept (waiting_keys known.core) (OfRequest header (requests.Status reference)))
    (same_Some (status_reply_at header (found_by_status known.kept header reference) (asks_pending known.core header reference)) reply is)
    (status-at-true laws known.kept folded header (kind-is header (codes "TransactionStatus") (sym asks.category) refl) known.core reference)
request-true laws known message body header (requests.Reconciliation period) named reply named_is folded asks is =
    let service = service-there body asks.members.members.0 in
    service-true laws known folded header (requests.Reconciliation period) (λ own. refl) service.text (sym asks.request_of.header_is.values.service ∙ service.is) named named_is reply is
request-true laws known message body header (requests.Display outputs) named reply named_is folded asks is =
    reply-true-more known.kept (waiting_keys known.core) (OfRequest header (requests.Display outputs)) reply
    (display-reply-true known.kept (OfRequest header (requests.Display outputs)) header outputs (display_result outputs named) reply (kind-is header (codes "Display") (sym asks.category) refl) is)
request-true laws known message body header (requests.Print qualifier) named reply named_is folded asks is =
    reply-true-more known.kept (waiting_keys known.core) (OfRequest header (requests.Print qualifier)) reply
    (reply-is known.kept (OfRequest header (requests.Print qualifier)) (Print (header_of_reply header) qualifier (failure UnavailableDevice)) reply
    (print-true known.kept (OfRequest header (requests.Print qualifier)) header (kind-is header (codes "Print") (sym asks.category) refl) qualifier) is)
request-true laws known message body header requests.Diagnosis named reply named_is folded asks is =
    reply-true-more known.kept (waiting_keys known.core) (OfRequest header requests.Diagnosis) reply
    (reply-is known.kept (OfRequest header requests.Diagnosis) (diagnosis_reply header named) reply
    (diagnosis-true known.kept (OfRequest header requests.Diagnosis) header (kind-is header (codes "Diagnosis") (sym asks.category) refl) named) is)

-- the reply to a till's message is true of the records
pub asked-true : (laws : LedgerLaws) (known : Known) (as_read : ReadAs) (reply : ReplyValue) → IsInOrder known → IsReadFromTill as_read → reply_to known as_read ≡ Some reply
    → IsReplyTrue known.kept (waiting_keys known.core) (occasion_read as_read) reply
asked-true laws known (Request header request) reply order read is =
    let message = read.1 in
    let asked = message.read in
    request-true laws known message.tree asked.0 header request (named_terminal known.core header.poi) reply refl order.folded asked.1 is
asked-true laws known Silent reply order read is = absurd cc
asked-true laws known (NoMessage fault) reply order read is =
    let message = read.1 in
    reply-true-more known.kept (waiting_keys known.core) OfNothing reply
    (reply-is known.kept OfNothing (reply_to_fault known.setup.name known.moment fault) reply (fault-true known.kept known.setup.name known.moment message.tree fault message.faulty) is)
asked-true laws known (NoJson fault) reply order read is =
    reply-true-more known.kept (waiting_keys known.core) OfNothing reply
    (reply-is known.kept OfNothing (reject_event known.setup.name known.moment (details.Json fault)) reply (λ said none. absurd none) is)

-- ---- a Login or a Logout succeeds

session-asked : (records : List Record) (message body : Tree) (header : Header) (request : SaleRequest) → is_session request ≡ true → IsRequest message body header request → IsReplyTrue records [] (OfRequest header request) (success_reply header)
session-asked records message body header requests.Login is asks = success-true records (OfRequest header requests.Login) header (kind-is header (codes "Login") (sym asks.category) refl)
session-asked records message body header requests.Logout is asks = success-true records (OfRequest header requests.Logout) header (kind-is header (codes "Logout") (sym asks.category) refl)
session-asked records message body header (requests.Payment ask) is asks = absurd cc
session-asked records message body header (requests.Reversal ask) is asks = absurd cc
session-asked records message body header (requests.Abort reference) is asks = absurd cc
session-asked records message body header (requests.Status reference) is asks = absurd cc
session-asked records message body header (requests.Reconciliation period) is asks = absurd cc
session-asked records message body header (requests.Display outputs) is asks = absurd cc
session-asked records message body header (requests.Print qualifier) is asks = absurd cc
session-asked records message body header requests.Diagnosis is asks = absurd cc

-- its reply is true of the records
pub session-true : (records : List Record) (header : Header) (request : SaleRequest) → is_session request ≡ true → IsReadFromTill (Request header request) → IsReplyTrue records [] (OfRequest header request) (success_reply header)
session-true records header request is read =
    let message = read.1 in
    let asked = message.read in
    session-asked records message.tree asked.0 header request is asked.1
