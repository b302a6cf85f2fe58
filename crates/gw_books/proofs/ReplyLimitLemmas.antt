-- Each reply that is owed lies within its limits.
use Rattle.std.proofs.Common.{◌≡◌, ℕ, ◌<◌, ◌≤◌, ◌^◌, Bool, true, false, List, [], ◌∷◌, length, take, slice_get, refl, sym, subst, arith, length-take}
use Rattle.std.specs.Prelude.{◌||◌, pos, bytes_eq, if◌then◌else◌, Option, Some, None, IfSome, codes, option_and_then, option_map}
use Rattle.std.proofs.lemmas.List.Elements.{All-nil, All-cons}
use Rattle.gw_base.specs.declared.condition.Condition.{Condition}
use Rattle.gw_base.specs.declared.condition.Condition.TheVariants.{InProgress, NotFound, UnavailableDevice, UnavailableService}
use Rattle.gw_base.specs.declared.key.Key.{Key}
use Rattle.gw_base.specs.Ident.{IsIdent}
use Rattle.gw_base.proofs.MomentLemmas.{stamp_of-plain}
use Rattle.json_text.specs.Canonical.{canonical}
use Rattle.json_text.specs.Spellable.{IsSpellable}
use Rattle.json_text.specs.Tree.{Tree}
use Rattle.sale_values.specs.declared.fault.SaleFault.{SaleFault}
use Rattle.sale_values.specs.declared.fault.SaleFault.TheVariants.{NoHeader, Missing, Wrong, Unserved}
use Rattle.sale_values.specs.declared.header.Header.{Header}
use Rattle.sale_values.specs.Key.{key_of}
use Rattle.sale_values.specs.declared.request.Output.{Output}
use Rattle.sale_values.specs.declared.request.Reference.{Reference}
use Rattle.sale_values.specs.declared.request.SaleRequest.{SaleRequest}
use Rattle.sale_values.specs.declared.request.SaleRequest.TheVariants as requests
use Rattle.sale_msg.specs.Grammar.{Asks, HasBody, IsRequest, IsSaleFault}
use Rattle.sale_msg.specs.declared.category.Category.TheVariants as categories
use Rattle.sale_msg.specs.declared.table.Envelope.TheVariants as envelopes
use Rattle.sale_reply.specs.Limits.{IsHeaderWithinLimits, IsShownWithinLimits, IsToldWithinLimits, IsTotalWithinLimits, IsWithinLimits}
use Rattle.sale_reply.specs.Reply.{tree_of}
use Rattle.sale_reply.specs.declared.reply.Detail.TheVariants as details
use Rattle.sale_reply.specs.declared.reply.SaleReply.{SaleReply}
use Rattle.sale_reply.specs.declared.reply.SaleReply.TheVariants as replies
use Rattle.sale_reply.specs.declared.reply.Shown.{Shown}
use Rattle.sale_reply.specs.declared.reply.Told.{Told}
use Rattle.sale_reply.proofs.ReplySizeLemmas.{reply_size}
use Rattle.sale_reply.proofs.SpellableLemmas.{reply_spellable}
use Rattle.jrn_record.specs.Limits.{HasTillText, IsOutcome, IsSettled}
use Rattle.jrn_record.specs.declared.records.Deal.{Deal}
use Rattle.jrn_record.specs.declared.records.Deal.TheVariants.{Payment, Reversal}
use Rattle.jrn_record.specs.declared.records.Intent.{Intent as TheIntent}
use Rattle.jrn_record.specs.declared.records.Outcome.{Outcome as TheOutcome}
use Rattle.jrn_record.specs.declared.records.Record.{Record}
use Rattle.jrn_record.specs.declared.records.Record.TheVariants.{Intent, Outcome, Settled}
use Rattle.jrn_record.specs.declared.records.Settled.{Settled as TheSettled}
use Rattle.gw_ledger.specs.declared.entry.Entry.{Entry as TheEntry}
use Rattle.gw_ledger.specs.declared.entry.Found.{Found}
use Rattle.gw_ledger.specs.declared.entry.Found.TheVariants.{Entry, Closed}
use Rattle.gw_ledger.specs.Fold.{AreFolded, closed_of, found_by, found_of}
use Rattle.gw_ledger.specs.Keys.{last_slot, slot_of}
use Rattle.gw_ledger.specs.Laws.{IsFoundWithin}
use Rattle.gw_ledger.specs.Slots.{entry_at}
use Rattle.gw_ledger.proofs.FirstBadLemmas.{folded_before}
use Rattle.gw_ledger.proofs.FoldLemmas.{present-le, room_for}
use Rattle.gw_ledger.proofs.RecordLemmas.{folded_beside}
use Rattle.xlate.specs.Reply.{deal_category, entry_body, header_of, outcome_body, result_body_of}
use Rattle.xlate.proofs.LimitLemmas.{numbers_limited}
use Rattle.gw_owes.specs.Core.{Core}
use Rattle.gw_owes.specs.Waits.{asks_pending, is_pending}
use Rattle.gw_owes.specs.Displays.{display_result, reply_of_display}
use Rattle.gw_owes.specs.Diagnosis.{NamedTerminal, diagnosis_reply, named_terminal, status_of_standing}
use Rattle.gw_owes.specs.KeptReplies.{found_by_status, found_for, is_open_key, kept_reply, own_key, repeated_reply, status_reply_at}
use Rattle.gw_owes.specs.ReadAs.{ReadAs, Request, Silent, NoMessage, NoJson}
use Rattle.gw_owes.specs.Reconciliations.{closed_after, reply_to_settled}
use Rattle.gw_owes.specs.RecordLaws.{AreResultsWithinLimits, IsInOrder, IsReadFromTill}
use Rattle.gw_owes.specs.Replies.{display_reply, failure, failure_reply, format_failure, has_device_class, header_of_reply, malformed_output, refused_results, reject_event, success, reply_to_fault, reply_to_malformed}
use Rattle.gw_owes.specs.Reply.{ReplyValue, Plain, Finished, Repeated, Display, Print, Reject, reply_value_tree}
use Rattle.gw_owes.specs.Requests.{abort_reply, reply_at, reply_to}
use Rattle.gw_owes.specs.Row.{Known}
use Rattle.gw_owes.specs.Serving.{reply_to_outcome}
use Rattle.gw_owes.specs.SessionRows.{session_result, success_reply}
use Rattle.gw_owes.specs.Steps.{StepResult, KeptReply, Fails, Begins, Waits, reply_of_result, step_result}
use Rattle.gw_owes.proofs.HeardLemmas.{of-both}
use Rattle.gw_owes.proofs.LimitLemmas.{ident-at}
use Rattle.gw_owes.proofs.RecordLemmas.{LedgerLaws, entry-parts, intent-within, there-within}
use Rattle.gw_books.proofs.EventLimitLemmas.{json-fault-within}
use Rattle.gw_books.proofs.Holding.{IsReplyWithin}
use Rattle.gw_owes.proofs.BeginLemmas.{refused-within}
use Rattle.gw_owes.proofs.ReadLimitLemmas.{body-path, header-read, headless-path, known-ident}

-- a reply whose parts lie within their limits
pub value-within : (reply : ReplyValue) (value : SaleReply) → reply_value_tree reply ≡ tree_of value → IsWithinLimits value → IsReplyWithin reply
value-within reply value is within =
    let at_most : length (canonical (tree_of value)) ≤ 65536 = (reply_size (λ now. (stamp_of-plain now).0) value within).holds in
    let small : length (canonical (tree_of value)) < 2 ^ 32 = omega (arith, at_most) in
    record {
      spellable = subst IsSpellable (sym is) (reply_spellable (λ now. (stamp_of-plain now).1) value within);
      small = subst (λ (tree : Tree). length (canonical tree) < 2 ^ 32) (sym is) small;
    }

pub some-holds : {A : Type 0} (P : A → Type 0) (found : Option A) (one : A) → IfSome found P → found ≡ Some one → P one
some-holds P found one all is = subst (λ (each : Option _). IfSome each P) is all

-- ---- headers

reply-header : (header : Header) → IsHeaderWithinLimits header → IsHeaderWithinLimits (header_of_reply header)
reply-header header within = record {
  category = within.category;
  service = within.service;
  device = of-both (λ (device : Option (List ℕ)). IfSome device (λ (id : List ℕ). IsIdent 10 id)) (has_device_class header.category) header.device None within.device tt;
  sale = within.sale;
  poi = within.poi;
}

pub failure-within : (header : Header) (condition : Condition) → IsHeaderWithinLimits header → IsReplyWithin (failure_reply header condition)
failure-within header condition within = value-within (failure_reply header condition) (replies.Plain (header_of_reply header) (failure condition)) refl (reply-header header within, tt)

-- ---- what the records have

category-ident : (what : Deal) → IsIdent 40 (deal_category what)
category-ident Payment = known-ident 40 (codes "Payment") refl
category-ident Reversal = known-ident 40 (codes "Reversal") refl

found-header : (found : Found) → IsFoundWithin found → IsHeaderWithinLimits (header_of found)
found-header (Entry entry) within = record {
  category = category-ident entry.intent.what;
  service = within.intent.service;
  device = tt;
  sale = within.intent.sale;
  poi = within.intent.poi;
}
found-header (Closed closed) within = record {
  category = known-ident 40 (codes "Reconciliation") refl;
  service = within.service;
  device = tt;
  sale = within.sale;
  poi = within.poi;
}

amount-small : (outcome : TheOutcome) → IsOutcome outcome → outcome.amount < 2 ^ 64
amount-small outcome is = omega (arith, present-le outcome.approved outcome.amount is.amount)

texts-body : (body : List ℕ → List ℕ → Told) (transaction stamp : Option (List ℕ)) → HasTillText Payment 80 transaction → HasTillText Payment 35 stamp
    → ((t s : List ℕ) → IsIdent 80 t → IsIdent 35 s → IsToldWithinLimits (body t s)) → IfSome (option_and_then (λ (t : List ℕ). option_map (body t) stamp) transaction) IsToldWithinLimits
texts-body body None stamp t s each = absurd t
texts-body body (Some transaction) None t s each = absurd s
texts-body body (Some transaction) (Some stamp) t s each = each transaction stamp t s

reason-body : (body : Condition → Option Told) (reason : Option Condition) → ((condition : Condition) → IfSome (body condition) IsToldWithinLimits) → IfSome (option_and_then body reason) IsToldWithinLimits
reason-body body None each = tt
reason-body body (Some condition) each = each condition

-- the result body of an entry whose records lie within their limits
entry-body : (what : Deal) (approved : Bool) (slot : ℕ) (intent : TheIntent) (outcome : TheOutcome) → slot < 2 ^ 32 → IsOutcome outcome → HasTillText what 80 intent.transaction → HasTillText what 35 intent.stamp
    → IfSome (entry_body what approved slot intent outcome) IsToldWithinLimits
entry-body Payment true slot intent outcome small is t s =
    texts-body _ intent.transaction intent.stamp t s (λ transaction stamp p q. (p, q, numbers_limited outcome slot is small, amount-small outcome is))
entry-body Payment false slot intent outcome small is t s =
    reason-body _ outcome.condition (λ condition. texts-body _ intent.transaction intent.stamp t s (λ transaction stamp p q. (p, q, numbers_limited outcome slot is small)))
entry-body Reversal true slot intent outcome small is t s = (numbers_limited outcome slot is small, amount-small outcome is)
entry-body Reversal false slot intent outcome small is t s = reason-body _ outcome.condition (λ condition. numbers_limited outcome slot is small)

-- the slot of an entry and the totals of a reconciliation fit their bits
abbrev IsFoundSmall : Found → Type 0
IsFoundSmall (Entry entry) = entry.slot < 2 ^ 32
IsFoundSmall (Closed closed) = IsTotalWithinLimits closed.totals.debit × IsTotalWithinLimits closed.totals.reversed

found-body : (found : Found) → IsFoundSmall found → IsFoundWithin found → IfSome (result_body_of found) IsToldWithinLimits
found-body (Entry entry) small within = by-result entry.result within.result
  where
    by-result : (result : Option TheOutcome) → IfSome result IsOutcome → IfSome (option_and_then (outcome_body entry) result) IsToldWithinLimits
    by-result None is = tt
    by-result (Some outcome) is = entry-body entry.intent.what outcome.approved entry.slot entry.intent outcome small is within.intent.transaction within.intent.stamp
found-body (Closed closed) small within = small

-- what is found lies within the limits of a reply
record IsFoundLimited (found : Found) : Type 0 where
  small : IsFoundSmall found
  within : IsFoundWithin found

kept-within : (found : Found) → IsFoundLimited found → IfSome (kept_reply found) IsReplyWithin
kept-within found limited = by-body (result_body_of found) (found-body found limited.small limited.within)
  where
    by-body : (body : Option Told) → IfSome body IsToldWithinLimits → IfSome (option_map (Finished (header_of found)) body) IsReplyWithin
    by-body None body_within = tt
    by-body (Some body) body_within = value-within (Finished (header_of found) body) (replies.Told (header_of found) body) refl (found-header found limited.within, body_within)

repeated-within : (header : Header) (found : Found) → IsHeaderWithinLimits header → IsFoundLimited found → IsReplyWithin (repeated_reply header found (result_body_of found))
repeated-within header found within limited = by-body (result_body_of found) (found-body found limited.small limited.within)
  where
    by-body : (body : Option Told) → IfSome body IsToldWithinLimits → IsReplyWithin (repeated_reply header found body)
    by-body None body_within = failure-within header InProgress within
    by-body (Some body) body_within =
        value-within (Repeated (header_of_reply header) (header_of found) body) (replies.Status (header_of_reply header) (header_of found) body) refl (reply-header header within, found-header found limited.within, body_within)

module _ (laws : LedgerLaws) (kept : List Record) (folded : AreFolded kept) (few : length kept ≤ 1000000) where
  entry-small : (slot : ℕ) (entry : TheEntry) → entry_at kept slot ≡ Some entry → entry.slot < 2 ^ 32
  entry-small slot entry there =
      let parts = entry-parts kept slot entry there in
      omega (arith, parts.0, intent-within kept slot entry.intent parts.1)

  entry-limited : (slot : ℕ) (entry : TheEntry) → entry_at kept slot ≡ Some entry → IsFoundLimited (Entry entry)
  entry-limited slot entry there = record { small = entry-small slot entry there; within = (laws.within kept folded).0 slot entry there }

  -- the totals of the records before a slot
  totals-small : (slot : ℕ) (settled : TheSettled) → slot < length kept → IsFoundSmall (Closed (closed_of kept slot settled))
  totals-small slot settled inside =
      let fewer : length (take slot kept) < 1000000 = omega (arith, few, inside, length-take slot kept) in
      let room = room_for (take slot kept) (folded_before kept slot (folded_beside kept folded)) fewer 0 (omega arith) settled.poi settled.currency in
      ((omega (arith, room.debits), omega (arith, room.debited)), (omega (arith, room.reversals), omega (arith, room.undone)))

  found-there : (slot : ℕ) (one : Record) → slice_get kept slot ≡ Some one → (found : Found) → found_by kept slot one ≡ Some found → IsFoundSmall found
  found-there slot (Intent intent) at found is = by-entry (entry_at kept slot) refl is
    where
      by-entry : (entry : Option TheEntry) → entry_at kept slot ≡ entry → option_map Entry entry ≡ Some found → IsFoundSmall found
      by-entry None here same = absurd cc
      by-entry (Some entry) here same = let one : Entry entry ≡ found = cc in subst IsFoundSmall one (entry-small slot entry here)
  found-there slot (Outcome outcome) at found is = absurd cc
  found-there slot (Settled settled) at found is =
      let one : Closed (closed_of kept slot settled) ≡ found = cc in subst IsFoundSmall one (totals-small slot settled (there-within kept slot (Settled settled) at))

  found-small : (key : Key) (found : Found) → found_of kept key ≡ Some found → IsFoundSmall found
  found-small key found is = by-slot (slot_of kept key) is
    where
      by-record : (slot : ℕ) (one : Option Record) → slice_get kept slot ≡ one → option_and_then (found_by kept slot) one ≡ Some found → IsFoundSmall found
      by-record slot None at same = absurd cc
      by-record slot (Some one) at same = found-there slot one at found same

      by-slot : (slot : Option ℕ) → option_and_then (λ (slot : ℕ). option_and_then (found_by kept slot) (slice_get kept slot)) slot ≡ Some found → IsFoundSmall found
      by-slot None same = absurd cc
      by-slot (Some slot) same = by-record slot (slice_get kept slot) refl same

  found-limited : (key : Key) (found : Found) → found_of kept key ≡ Some found → IsFoundLimited found
  found-limited key found is = record { small = found-small key found is; within = (laws.within kept folded).1 key found is }

  for-limited : (key : Option Key) (found : Found) → option_and_then (found_of kept) key ≡ Some found → IsFoundLimited found
  for-limited None found is = absurd cc
  for-limited (Some key) found is = found-limited key found is

  last-limited : (slot : Option ℕ) (found : Found) → option_map Entry (option_and_then (entry_at kept) slot) ≡ Some found → IsFoundLimited found
  last-limited None found is = absurd cc
  last-limited (Some slot) found is = by-entry (entry_at kept slot) refl is
    where
      by-entry : (entry : Option TheEntry) → entry_at kept slot ≡ entry → option_map Entry entry ≡ Some found → IsFoundLimited found
      by-entry None here same = absurd cc
      by-entry (Some entry) here same = let one : Entry entry ≡ found = cc in subst IsFoundLimited one (entry-limited slot entry here)

  status-limited : (header : Header) (reference : Option Reference) (found : Found) → found_by_status kept header reference ≡ Some found → IsFoundLimited found
  status-limited header None found is = last-limited (last_slot kept header.sale header.poi) found is
  status-limited header (Some reference) found is = found-limited (key_of header reference) found is

  -- the reply to a status, also where an end of day is served
  status-at-within : (core : Core) (header : Header) (reference : Option Reference) → IsHeaderWithinLimits header
      → IsReplyWithin (status_reply_at header (found_by_status kept header reference) (asks_pending core header reference))
  status-at-within core header reference within = by-found (found_by_status kept header reference) (asks_pending core header reference) refl
    where
      by-found : (found : Option Found) (served : Bool) → found_by_status kept header reference ≡ found → IsReplyWithin (status_reply_at header found served)
      by-found None true is = failure-within header InProgress within
      by-found None false is = failure-within header NotFound within
      by-found (Some found) served is = repeated-within header found within (status-limited header reference found is)

  -- the reply that the steps give
  result-within : (header : Header) (result : StepResult) → IsHeaderWithinLimits header → IfSome (reply_of_result kept header result) IsReplyWithin
  result-within header KeptReply within = by-found (found_for kept header) refl
    where
      by-found : (found : Option Found) → found_for kept header ≡ found → IfSome (option_and_then kept_reply found) IsReplyWithin
      by-found None is = tt
      by-found (Some found) is = kept-within found (for-limited (own_key header) found is)
  result-within header (Fails condition) within = failure-within header condition within
  result-within header Begins within = tt
  result-within header Waits within = tt

  -- the reply once an entry has its Outcome
  ended-within : (slot : ℕ) (outcome : TheOutcome) → IsOutcome outcome → IfSome (reply_to_outcome kept slot outcome) IsReplyWithin
  ended-within slot outcome is = by-entry (entry_at kept slot) refl
    where
      by-entry : (entry : Option TheEntry) → entry_at kept slot ≡ entry → IfSome (option_and_then (λ (entry : TheEntry). kept_reply (Entry (record entry { result = Some outcome }))) entry) IsReplyWithin
      by-entry None there = tt
      by-entry (Some entry) there =
          let limited = entry-limited slot entry there in
          kept-within (Entry (record entry { result = Some outcome })) (record { small = limited.small; within = record { intent = limited.within.intent; result = is } })

few-records : (known : Known) → IsInOrder known → length known.kept ≤ 1000000
few-records known order = omega (arith, order.room, order.of_setup.within.slots.1)

-- the reply to an entry that has its Outcome now is within its limits
pub outcome-within : (laws : LedgerLaws) (known : Known) (slot : ℕ) (outcome : TheOutcome) (reply : ReplyValue) → IsInOrder known → IsOutcome outcome → reply_to_outcome known.kept slot outcome ≡ Some reply → IsReplyWithin reply
outcome-within laws known slot outcome reply order is replies =
    some-holds IsReplyWithin (reply_to_outcome known.kept slot outcome) reply (ended-within laws known.kept order.folded (few-records known order) slot outcome is) replies

-- the totals of the records that are to be settled now
settled-small : (known : Known) (settled : TheSettled) → IsInOrder known → length known.kept < 1000000 → IsFoundSmall (Closed (closed_after known.kept settled))
settled-small known settled order fewer =
    let room = room_for known.kept (folded_beside known.kept order.folded) fewer 0 (omega arith) settled.poi settled.currency in
    ((omega (arith, room.debits), omega (arith, room.debited)), (omega (arith, room.reversals), omega (arith, room.undone)))

-- the reply to a reconciliation that is settled now is within its limits, where its Settled is and has a slot
pub settled-reply-within : (known : Known) (settled : TheSettled) (reply : ReplyValue) → IsInOrder known → IsSettled settled → length known.kept < known.setup.slots → reply_to_settled known.kept settled ≡ Some reply → IsReplyWithin reply
settled-reply-within known settled reply order is slot replies =
    let most = order.of_setup.within.slots.1 in
    some-holds IsReplyWithin (reply_to_settled known.kept settled) reply
    (kept-within (Closed (closed_after known.kept settled)) (record { small = settled-small known settled order (omega (arith, slot, most)); within = is })) replies

-- ---- requests

reject-within : (known : Known) (header : Header) (is_open : Bool) → IsHeaderWithinLimits header → IfSome (abort_reply is_open known header) IsReplyWithin
reject-within known header true within = tt
reject-within known header false within =
    value-within (Reject header.sale header.poi (pos known.moment) details.Abort) (replies.Reject header.sale header.poi (pos known.moment) details.Abort) refl (within.sale, within.poi, tt)

diagnosis-within : (header : Header) (named : Option NamedTerminal) → IsHeaderWithinLimits header → IsReplyWithin (diagnosis_reply header named)
diagnosis-within header None within = failure-within header UnavailableDevice within
diagnosis-within header (Some named) within =
    value-within (diagnosis_reply header (Some named)) (replies.Diagnosis (header_of_reply header) (status_of_standing named.terminal.standing)) refl (reply-header header within)

-- the reply to a Display with these results, where there are any
pub results-within : (header : Header) (results : Option (List Shown)) → IsHeaderWithinLimits header → IfSome results AreResultsWithinLimits → IfSome (display_reply header results) IsReplyWithin
results-within header None within are = tt
results-within header (Some results) within are =
    value-within (Display (header_of_reply header) results) (replies.Display (header_of_reply header) results) refl (reply-header header within, are.0, are.1)

display-within : (body : Tree) (header : Header) (outputs : List Output) (result : StepResult) → IsHeaderWithinLimits header → HasBody categories.Display body → Asks body (requests.Display outputs)
    → IfSome (reply_of_display header outputs result) IsReplyWithin
display-within body header outputs KeptReply within has asks = tt
display-within body header outputs (Fails condition) within has asks = results-within header (refused_results condition outputs) within (refused-within body condition outputs has asks)
display-within body header outputs Begins within has asks = tt
display-within body header outputs Waits within has asks = tt

module _ (laws : LedgerLaws) (known : Known) (order : IsInOrder known) where
  service-within : (header : Header) (result : StepResult) → IsHeaderWithinLimits header → IfSome (reply_of_result known.kept header result) IsReplyWithin
  service-within header result within = result-within laws known.kept order.folded (few-records known order) header result within

  request-within : (message body : Tree) (header : Header) (named : Option NamedTerminal) (request : SaleRequest) → IsHeaderWithinLimits header → IsRequest message body header request → IfSome (reply_at named known header request) IsReplyWithin
  request-within message body header named requests.Login within is = service-within header (session_result known header requests.Login named) within
  request-within message body header named requests.Logout within is = service-within header (session_result known header requests.Logout named) within
  request-within message body header named (requests.Payment ask) within is = service-within header (step_result known header (requests.Payment ask) named) within
  request-within message body header named (requests.Reversal ask) within is = service-within header (step_result known header (requests.Reversal ask) named) within
  request-within message body header named (requests.Abort reference) within is = reject-within known header (is_open_key known.kept header reference || is_pending known.core (key_of header reference)) within
  request-within message body header named (requests.Status reference) within is = status-at-within laws known.kept order.folded (few-records known order) known.core header reference within
  request-within message body header named (requests.Reconciliation period) within is = service-within header (step_result known header (requests.Reconciliation period) named) within
  request-within message body header named (requests.Display outputs) within is = display-within body header outputs (display_result outputs named) within is.members is.asks
  request-within message body header named (requests.Print qualifier) within is =
      value-within (Print (header_of_reply header) qualifier (failure UnavailableDevice)) (replies.Print (header_of_reply header) qualifier (failure UnavailableDevice)) refl
      (reply-header header within, ident-at _ 40 body qualifier (λ tree form. form) is.members.members.1.1.0 is.asks, tt)
  request-within message body header named requests.Diagnosis within is = diagnosis-within header named within

-- ---- messages that are no request

malformed-within : (moment : ℕ) (header : Header) (path : List ℕ) → IsHeaderWithinLimits header → IsIdent 100 path → IsReplyWithin (reply_to_malformed moment header path)
malformed-within moment header path within ident = by (bytes_eq header.category (codes "Abort")) (bytes_eq header.category (codes "Display")) (bytes_eq header.category (codes "Print"))
  where
    by : (a d p : Bool)
        → IsReplyWithin (if a then Reject header.sale header.poi (pos moment) (details.Body path) else
        (if d then Display (header_of_reply header) (malformed_output path ∷ []) else
        (if p then Print (header_of_reply header) (codes "Document") (format_failure path) else
        Plain (header_of_reply header) (format_failure path))))
    by true d p = value-within (Reject header.sale header.poi (pos moment) (details.Body path)) (replies.Reject header.sale header.poi (pos moment) (details.Body path)) refl (within.sale, within.poi, ident)
    by false true p =
        let limited : IsShownWithinLimits (malformed_output path) = record { device = known-ident 40 (codes "CustomerDisplay") refl; qualify = known-ident 40 (codes "Display") refl; verdict = ident } in
        value-within (Display (header_of_reply header) (malformed_output path ∷ [])) (replies.Display (header_of_reply header) (malformed_output path ∷ [])) refl
        (reply-header header within, omega arith, All-cons IsShownWithinLimits (malformed_output path) [] limited (All-nil IsShownWithinLimits))
    by false false true =
        value-within (Print (header_of_reply header) (codes "Document") (format_failure path)) (replies.Print (header_of_reply header) (codes "Document") (format_failure path)) refl
        (reply-header header within, known-ident 40 (codes "Document") refl, ident)
    by false false false = value-within (Plain (header_of_reply header) (format_failure path)) (replies.Plain (header_of_reply header) (format_failure path)) refl (reply-header header within, ident)

fault-within : (name : List ℕ) (moment : ℕ) (message : Tree) (fault : SaleFault) → IsIdent 40 name → IsSaleFault message fault → IsReplyWithin (reply_to_fault name moment fault)
fault-within name moment message (NoHeader path) ident is =
    value-within (reject_event name moment (details.Header path)) (replies.Reject (codes "0") name (pos moment) (details.Header path)) refl (known-ident 40 (codes "0") refl, ident, headless-path message path is)
fault-within name moment message (Missing header path) ident (body, category, has) =
    malformed-within moment header path (header-read envelopes.Request body header has.request_of.header_is) (body-path category body _ has.first)
fault-within name moment message (Wrong header path) ident (body, category, has) =
    malformed-within moment header path (header-read envelopes.Request body header has.request_of.header_is) (body-path category body _ has.first)
fault-within name moment message (Unserved header) ident (body, request_of, other) = failure-within header UnavailableService (header-read envelopes.Request body header request_of.header_is)

-- ---- all messages

each-within : (laws : LedgerLaws) (known : Known) (as_read : ReadAs) → IsInOrder known → IsReadFromTill as_read → IfSome (reply_to known as_read) IsReplyWithin
each-within laws known (Request header request) order read =
    let message = read.1 in
    let is = message.read in
    request-within laws known order message.tree is.0 header (named_terminal known.core header.poi) request (header-read envelopes.Request is.0 header is.1.request_of.header_is) is.1
each-within laws known Silent order read = tt
each-within laws known (NoMessage fault) order read =
    let message = read.1 in fault-within known.setup.name known.moment message.tree fault order.of_setup.within.name message.faulty
each-within laws known (NoJson fault) order read = json-fault-within (codes "0") known.setup.name (pos known.moment) fault (known-ident 40 (codes "0") refl) order.of_setup.within.name

-- the reply to what was read of a till is within its limits
pub asked-within : (laws : LedgerLaws) (known : Known) (as_read : ReadAs) (reply : ReplyValue) → IsInOrder known → IsReadFromTill as_read → reply_to known as_read ≡ Some reply → IsReplyWithin reply
asked-within laws known as_read reply order read is = some-holds IsReplyWithin (reply_to known as_read) reply (each-within laws known as_read order read) is

-- so is the success of a request that was read
pub success-within : (header : Header) (request : SaleRequest) → IsReadFromTill (Request header request) → IsReplyWithin (success_reply header)
success-within header request read =
    let message = read.1 in
    let is = message.read in
    value-within (success_reply header) (replies.Plain (header_of_reply header) success) refl (reply-header header (header-read envelopes.Request is.0 header is.1.request_of.header_is), tt)
