-- A finished key keeps its reply: with each record that may come next its slot, its Intent, its Outcome and the totals of a reconciliation stay; and what is kept is what its till is sent.
use Rattle.std.proofs.Common.{◌≡◌, ◌∙◌, ℕ, zero, suc, ◌<◌, Bool, true, false, ◌&&◌, cond, not, List, [], ◌∷◌, ◌++◌, length, pos, Option, Some, None, is_some, IsTrue, slice_get, refl, sym, ap, subst, arith, lit<, lit≤, append_assoc}
use Rattle.std.specs.Prelude.{All, if◌then◌else◌, codes, option_and_then, option_map}
use Rattle.std.proofs.lemmas.Bool.{eqb-true}
use Rattle.std.proofs.lemmas.Int.{ints}
use Rattle.std.proofs.lemmas.List.{append-nil, take-append-le}
use Rattle.std.proofs.lemmas.List.Elements.{All-head, All-tail}
use Rattle.std.proofs.lemmas.Option.{same_Some}
use Rattle.gw_base.specs.declared.condition.Condition.{Condition}
use Rattle.gw_base.specs.Limits.{IsTrace}
use Rattle.gw_base.specs.Moment.{IsMoment}
use Rattle.gw_base.specs.declared.key.Key.{Key}
use Rattle.jrn_record.specs.Limits.{HasReason, HasTillText, IsIntent, IsOutcome, IsRecord}
use Rattle.jrn_record.specs.declared.records.Deal.{Deal}
use Rattle.jrn_record.specs.declared.records.Deal.TheVariants.{Payment, Reversal}
use Rattle.jrn_record.specs.declared.records.Intent.{Intent as TheIntent}
use Rattle.jrn_record.specs.declared.records.Outcome.{Outcome as TheOutcome}
use Rattle.jrn_record.specs.declared.records.Settled.{Settled as TheSettled}
use Rattle.jrn_record.specs.declared.records.Record.{Record}
use Rattle.jrn_record.specs.declared.records.Record.TheVariants.{Intent, Outcome, Settled}
use Rattle.gw_ledger.specs.declared.entry.Closed.{Closed as TheClosed}
use Rattle.gw_ledger.specs.declared.entry.Entry.{Entry as TheEntry}
use Rattle.gw_ledger.specs.declared.entry.Found.{Found}
use Rattle.gw_ledger.specs.declared.entry.Found.TheVariants.{Entry, Closed}
use Rattle.gw_ledger.specs.Fold.{AreFolded, FitBy, fits, fits_beside_key, found_by, found_of, has_new_key, is_unknown}
use Rattle.gw_ledger.specs.History.{history}
use Rattle.gw_ledger.specs.Keys.{intent_key, is_key, record_key, settled_key, slot_of}
use Rattle.gw_ledger.specs.Slots.{as_intent, as_outcome, ended_at, ended_in, entry_at, entry_with, intent_at, is_outcome_of, outcome_at}
use Rattle.gw_ledger.specs.Sums.{totals_of}
use Rattle.gw_ledger.proofs.ExampleLemmas.{ident, is_ident}
use Rattle.gw_ledger.proofs.FoldLemmas.{open_parts}
use Rattle.gw_ledger.proofs.KeyTableLemmas.{slot_push}
use Rattle.gw_ledger.proofs.RecordLemmas.{fits_beside}
use Rattle.gw_ledger.proofs.TieLemmas.{eqb_above, eqb_same}
use Rattle.sale_reply.specs.declared.reply.Told.{Told}
use Rattle.xlate.specs.Reply.{entry_body, header_of, outcome_body}
use Rattle.gw_owes.specs.KeptReplies.{is_finished, kept_reply}
use Rattle.gw_owes.specs.Reply.{ReplyValue, Finished}
use Rattle.gw_owes.specs.Serving.{reply_to_outcome}
use Rattle.gw_owes.proofs.RecordLemmas.{LedgerLaws, folded-more, intent-stays, intent-within, last-there, still-there, there-within, unended-parts}
use Rattle.gw_books.specs.Example.{paying_intent, kept_approval}
use Rattle.gw_books.specs.RepeatLaws.{FinishedStays, FirstReplyIsKept, PaidStays, asked_records, later_intent, paid_records}
use Rattle.gw_books.proofs.KeyedLemmas.{is-key-is}
use Rattle.gw_books.proofs.RecordMoreLemmas.{own-slot}

-- ---- the slot of a key

first-part : (a b : Bool) → IsTrue (a && b) → IsTrue a
first-part true b both = refl
first-part false b both = absurd cc

-- a new key has no slot
new-apart : (before : List Record) (new key : Key) (slot : ℕ) → IsTrue (is_unknown before new) → slot_of before key ≡ Some slot → new ≡ key → ⊥
new-apart before new key slot unknown there same =
    let known : is_unknown before new ≡ false = ap (λ (at : Option ℕ). not (is_some at)) (ap (slot_of before) same ∙ there) in
    cc

known-apart : (before : List Record) (next : Record) (key : Key) (slot : ℕ) → IsTrue (has_new_key before next) → slot_of before key ≡ Some slot → record_key next ≡ Some key → ⊥
known-apart before (Intent intent) key slot unknown there own = new-apart before (intent_key intent) key slot unknown there (same_Some (intent_key intent) key own)
known-apart before (Outcome outcome) key slot unknown there own = cc
known-apart before (Settled settled) key slot unknown there own = new-apart before (settled_key settled) key slot unknown there (same_Some (settled_key settled) key own)

-- the slot of a known key stays
slot-stays : (before : List Record) (next : Record) (key : Key) (slot : ℕ) → IsTrue (fits before next) → slot_of before key ≡ Some slot → slot_of (before ++ next ∷ []) key ≡ Some slot
slot-stays before next key slot fitting there = slot_push before next key ∙ by-test (is_key key (record_key next)) refl
  where
    by-test : (own : Bool) → is_key key (record_key next) ≡ own → cond own (Some (length before)) (slot_of before key) ≡ Some slot
    by-test true tie = absurd (known-apart before next key slot (first-part (has_new_key before next) (fits_beside_key before next) fitting) there (is-key-is key (record_key next) tie))
    by-test false tie = there

-- ---- an Outcome

-- the Outcome at a slot stays
outcome-stays : (before more : List Record) (at : ℕ) (outcome : TheOutcome) → outcome_at before at ≡ Some outcome → outcome_at (before ++ more) at ≡ Some outcome
outcome-stays before more at outcome found = by-record (slice_get before at) refl found
  where
    by-record : (one : Option Record) → slice_get before at ≡ one → option_and_then as_outcome one ≡ Some outcome → outcome_at (before ++ more) at ≡ Some outcome
    by-record None is there = absurd cc
    by-record (Some one) is there = ap (option_and_then as_outcome) (still-there before more at one is) ∙ there

-- no Outcome comes where there is one
ended-apart : (before : List Record) (next : Record) (slot at : ℕ) → IsTrue (fits_beside_key before next) → ended_at before slot ≡ Some at → is_outcome_of slot next ≡ true → ⊥
ended-apart before (Intent intent) slot at fitting ended own = cc
ended-apart before (Outcome outcome) slot at fitting ended own =
    let unended : ended_at before outcome.slot ≡ None = (unended-parts before outcome.slot (open_parts before outcome fitting)).unended in
    let same : ended_at before outcome.slot ≡ Some at = ap (ended_at before) (eqb-true outcome.slot slot own) ∙ ended in
    cc
ended-apart before (Settled settled) slot at fitting ended own = cc

-- where the Outcome of a slot is
module _ (laws : LedgerLaws) (before : List Record) (next : Record) (slot : ℕ) (within : slot < length before) where
  pub ended-more : ended_at (before ++ next ∷ []) slot ≡ (if is_outcome_of slot next then Some (length before) else ended_at before slot)
  ended-more = ap (ended_in slot) (laws.newest before next)
      ∙ ap (λ (here : Bool). if here then None else (if is_outcome_of slot next then Some (length before) else ended_at before slot)) (eqb_above (length before) slot within)

  pub ended-stays : (at : ℕ) → IsTrue (fits_beside_key before next) → ended_at before slot ≡ Some at → ended_at (before ++ next ∷ []) slot ≡ Some at
  ended-stays at fitting ended = ended-more ∙ by-test (is_outcome_of slot next) refl
    where
      by-test : (own : Bool) → is_outcome_of slot next ≡ own → (if own then Some (length before) else ended_at before slot) ≡ Some at
      by-test true test = absurd (ended-apart before next slot at fitting ended test)
      by-test false test = ended

-- ---- an entry

-- the entry of a slot
abbrev pub entry_of : ℕ → TheIntent → Option TheOutcome → TheEntry
entry_of slot intent result = record { slot = slot; intent = intent; result = result }

-- an Intent has this entry once its Outcome is there
pub ended-entry : (records : List Record) (slot at : ℕ) (intent : TheIntent) (outcome : TheOutcome) → intent_at records slot ≡ Some intent → ended_at records slot ≡ Some at → outcome_at records at ≡ Some outcome
    → entry_at records slot ≡ Some (entry_of slot intent (Some outcome))
ended-entry records slot at intent outcome asked ended found =
    ap (λ (end : Option ℕ). option_map (entry_with records slot end) (intent_at records slot)) ended
    ∙ (ap (option_map (entry_with records slot (Some at))) asked ∙ ap (λ (result : Option TheOutcome). Some (entry_of slot intent result)) found)

-- an entry that has its Outcome stays
entry-stays : (laws : LedgerLaws) (before : List Record) (next : Record) (slot : ℕ) (entry : TheEntry) (outcome : TheOutcome) → IsTrue (fits_beside_key before next)
    → entry_at before slot ≡ Some entry → entry.result ≡ Some outcome → entry_at (before ++ next ∷ []) slot ≡ Some entry
entry-stays laws before next slot entry outcome fitting is result = by-intent (intent_at before slot) refl is
  where
    by-end : (intent : TheIntent) → intent_at before slot ≡ Some intent → (end : Option ℕ) → ended_at before slot ≡ end → entry_with before slot end intent ≡ entry
        → option_and_then (outcome_at before) end ≡ Some outcome → entry_at (before ++ next ∷ []) slot ≡ Some entry
    by-end intent asked None ended same found = absurd cc
    by-end intent asked (Some at) ended same found =
        ended-entry (before ++ next ∷ []) slot at intent outcome (intent-stays before (next ∷ []) slot intent asked)
        (ended-stays laws before next slot (intent-within before slot intent asked) at fitting ended) (outcome-stays before (next ∷ []) at outcome found)
        ∙ (ap (λ (there : Option TheOutcome). Some (entry_of slot intent there)) (sym found) ∙ ap Some same)

    by-intent : (asked : Option TheIntent) → intent_at before slot ≡ asked → option_map (entry_with before slot (ended_at before slot)) asked ≡ Some entry
        → entry_at (before ++ next ∷ []) slot ≡ Some entry
    by-intent None asked same = absurd cc
    by-intent (Some intent) asked same =
        let one : entry_with before slot (ended_at before slot) intent ≡ entry = same_Some (entry_with before slot (ended_at before slot) intent) entry same in
        by-end intent asked (ended_at before slot) refl one (ap (λ (e : TheEntry). e.result) one ∙ result)

-- an entry that is finished has its Outcome
finished-result : (entry : TheEntry) → is_finished (Entry entry) ≡ true → (outcome : TheOutcome) × (entry.result ≡ Some outcome)
finished-result entry = by-result entry.result refl
  where
    by-result : (result : Option TheOutcome) → entry.result ≡ result → is_some (option_and_then (outcome_body entry) result) ≡ true → (outcome : TheOutcome) × (entry.result ≡ Some outcome)
    by-result None is finished = absurd cc
    by-result (Some outcome) is finished = (outcome, is)

-- ---- what is finished

-- a reconciliation after these records
abbrev closed_after : List Record → ℕ → TheSettled → TheClosed
closed_after records slot settled = record { slot = slot; settled = settled; totals = totals_of records settled.poi settled.currency }

-- what is finished under a key stays with one more record
found-stays : (laws : LedgerLaws) (before : List Record) (next : Record) (key : Key) (found : Found) → IsTrue (fits before next) → found_of before key ≡ Some found → is_finished found ≡ true
    → found_of (before ++ next ∷ []) key ≡ Some found
found-stays laws before next key found fitting is finished = by-slot (slot_of before key) refl is
  where
    by-entry : (slot : ℕ) (entry : Option TheEntry) → entry_at before slot ≡ entry → option_map Entry entry ≡ Some found → option_map Entry (entry_at (before ++ next ∷ []) slot) ≡ Some found
    by-entry slot None here same = absurd cc
    by-entry slot (Some entry) here same =
        let has = finished-result entry (ap is_finished (same_Some (Entry entry) found same) ∙ finished) in
        ap (option_map Entry) (entry-stays laws before next slot entry has.0 (fits_beside before next fitting) here has.1) ∙ same

    by-record : (slot : ℕ) → slot < length before → (one : Record) → found_by before slot one ≡ Some found → found_by (before ++ next ∷ []) slot one ≡ Some found
    by-record slot within (Intent intent) same = by-entry slot (entry_at before slot) refl same
    by-record slot within (Outcome outcome) same = absurd cc
    by-record slot within (Settled settled) same =
        ap (λ (records : List Record). Some (Closed (closed_after records slot settled))) (take-append-le slot before (next ∷ []) (omega (arith, within))) ∙ same

    by-place : (slot : ℕ) → slot_of before key ≡ Some slot → (one : Option Record) → slice_get before slot ≡ one → option_and_then (found_by before slot) one ≡ Some found
        → found_of (before ++ next ∷ []) key ≡ Some found
    by-place slot there None at same = absurd cc
    by-place slot there (Some one) at same =
        ap (option_and_then (λ (place : ℕ). option_and_then (found_by (before ++ next ∷ []) place) (slice_get (before ++ next ∷ []) place))) (slot-stays before next key slot fitting there)
        ∙ (ap (option_and_then (found_by (before ++ next ∷ []) slot)) (still-there before (next ∷ []) slot one at) ∙ by-record slot (there-within before slot one at) one same)

    by-slot : (slot : Option ℕ) → slot_of before key ≡ slot → option_and_then (λ (place : ℕ). option_and_then (found_by before place) (slice_get before place)) slot ≡ Some found
        → found_of (before ++ next ∷ []) key ≡ Some found
    by-slot None there same = absurd cc
    by-slot (Some slot) there same = by-place slot there (slice_get before slot) refl same

-- the later of records that fit do so after the first
fit-rest : (before first rest : List Record) → FitBy fits before (first ++ rest) → FitBy fits (before ++ first) rest
fit-rest before [] rest fit = subst (λ (records : List Record). FitBy fits records rest) (sym (append-nil before)) fit
fit-rest before (one ∷ first) rest fit = subst (λ (records : List Record). FitBy fits records rest) (append_assoc before (one ∷ []) first) (fit-rest (before ++ one ∷ []) first rest fit.1)

found-stays-on : (laws : LedgerLaws) (before rest : List Record) (key : Key) (found : Found) → FitBy fits before rest → found_of before key ≡ Some found → is_finished found ≡ true
    → found_of (before ++ rest) key ≡ Some found
found-stays-on laws before [] key found fit is finished = subst (λ (records : List Record). found_of records key ≡ Some found) (sym (append-nil before)) is
found-stays-on laws before (next ∷ rest) key found fit is finished =
    subst (λ (records : List Record). found_of records key ≡ Some found) (append_assoc before (next ∷ []) rest)
    (found-stays-on laws (before ++ next ∷ []) rest key found fit.1 (found-stays laws before next key found fit.0 is finished) finished)

-- what is finished under a key stays, whatever records come later
pub finished-stays : LedgerLaws → FinishedStays
finished-stays laws records more key found folded is finished = found-stays-on laws records more key found (fit-rest [] records more folded.fit) is finished

-- ---- the reply

intent-record : (records : List Record) (slot : ℕ) (intent : TheIntent) → intent_at records slot ≡ Some intent → slice_get records slot ≡ Some (Intent intent)
intent-record records slot intent asked = by-record (slice_get records slot) refl asked
  where
    by-record : (one : Option Record) → slice_get records slot ≡ one → option_and_then as_intent one ≡ Some intent → slice_get records slot ≡ Some (Intent intent)
    by-record None is there = absurd cc
    by-record (Some (Intent other)) is there = is ∙ ap (λ (i : TheIntent). Some (Intent i)) (same_Some other intent there)
    by-record (Some (Outcome outcome)) is there = absurd cc
    by-record (Some (Settled settled)) is there = absurd cc

-- the key of an Intent has its entry
pub entry-found : (laws : LedgerLaws) (records : List Record) (slot : ℕ) (intent : TheIntent) (entry : TheEntry) → AreFolded records → intent_at records slot ≡ Some intent
    → entry_at records slot ≡ Some entry → found_of records (intent_key intent) ≡ Some (Entry entry)
entry-found laws records slot intent entry folded asked is =
    ap (option_and_then (λ (place : ℕ). option_and_then (found_by records place) (slice_get records place))) (own-slot laws records slot intent folded asked)
    ∙ (ap (option_and_then (found_by records slot)) (intent-record records slot intent asked) ∙ ap (option_map Entry) is)

-- a record of those that are folded lies within its limits
record-within : (records : List Record) (at : ℕ) (one : Record) → AreFolded records → slice_get records at ≡ Some one → IsRecord one
record-within records at one folded there = within-at records at folded.within there
  where
    within-at : (list : List Record) (at : ℕ) → All IsRecord list → slice_get list at ≡ Some one → IsRecord one
    within-at [] at all there = absurd cc
    within-at (first ∷ list) zero all there = subst IsRecord (same_Some first one there) (All-head IsRecord first list all)
    within-at (first ∷ list) (suc at) all there = within-at list at (All-tail IsRecord first list all) there

-- there is a result body where the records have what it has
body-there : (what : Deal) (approved : Bool) (slot : ℕ) (intent : TheIntent) (outcome : TheOutcome) → HasTillText what 80 intent.transaction → HasTillText what 35 intent.stamp → HasReason approved outcome.condition
    → (body : Told) × (entry_body what approved slot intent outcome ≡ Some body)
body-there what approved slot intent outcome text stamp reason = by-texts what approved intent.transaction intent.stamp outcome.condition refl refl refl text stamp reason
  where
    by-texts : (what : Deal) (approved : Bool) (a b : Option (List ℕ)) (c : Option Condition) → intent.transaction ≡ a → intent.stamp ≡ b → outcome.condition ≡ c
        → HasTillText what 80 a → HasTillText what 35 b → HasReason approved c → (body : Told) × (entry_body what approved slot intent outcome ≡ Some body)
    by-texts Payment true None b c e f g t s r = absurd t
    by-texts Payment true (Some a) None c e f g t s r = absurd s
    by-texts Payment true (Some a) (Some b) c e f g t s r = rw (e, f) (_, refl)
    by-texts Payment false None b c e f g t s r = absurd t
    by-texts Payment false (Some a) None c e f g t s r = absurd s
    by-texts Payment false (Some a) (Some b) None e f g t s r = absurd r
    by-texts Payment false (Some a) (Some b) (Some c) e f g t s r = rw (e, f, g) (_, refl)
    by-texts Reversal true a b c e f g t s r = (_, refl)
    by-texts Reversal false a b None e f g t s r = absurd r
    by-texts Reversal false a b (Some c) e f g t s r = rw g (_, refl)

-- the kept reply is the one that the till is sent as the Outcome is kept
pub first-reply-is-kept : LedgerLaws → FirstReplyIsKept
first-reply-is-kept laws kept outcome intent folded asked =
    let records : List Record = kept ++ Outcome outcome ∷ [] in
    let there : intent_at records outcome.slot ≡ Some intent = intent-stays kept (Outcome outcome ∷ []) outcome.slot intent asked in
    let ended : ended_at records outcome.slot ≡ Some (length kept) =
    ended-more laws kept (Outcome outcome) outcome.slot (intent-within kept outcome.slot intent asked)
    ∙ ap (λ (own : Bool). if own then Some (length kept) else ended_at kept outcome.slot) (eqb_same outcome.slot) in
    let entry : entry_at records outcome.slot ≡ Some (entry_of outcome.slot intent (Some outcome)) =
    ended-entry records outcome.slot (length kept) intent outcome there ended (ap (option_and_then as_outcome) (last-there kept (Outcome outcome))) in
    let found : found_of records (intent_key intent) ≡ Some (Entry (entry_of outcome.slot intent (Some outcome))) =
    entry-found laws records outcome.slot intent (entry_of outcome.slot intent (Some outcome)) folded there entry in
    let is_intent : IsIntent intent = record-within records outcome.slot (Intent intent) folded (intent-record records outcome.slot intent there) in
    let is_outcome : IsOutcome outcome = record-within records (length kept) (Outcome outcome) folded (last-there kept (Outcome outcome)) in
    let body = body-there intent.what outcome.approved outcome.slot intent outcome is_intent.transaction is_intent.stamp is_outcome.condition in
    let reply : ReplyValue = Finished (header_of (Entry (entry_of outcome.slot intent (Some outcome)))) body.0 in
    let replies : kept_reply (Entry (entry_of outcome.slot intent (Some outcome))) ≡ Some reply = ap (option_map (Finished (header_of (Entry (entry_of outcome.slot intent (Some outcome)))))) body.1 in
    let sent : reply_to_outcome kept outcome.slot outcome ≡ kept_reply (Entry (entry_of outcome.slot intent (Some outcome))) =
    ap (λ (one : Option TheIntent). option_and_then (λ (entry : TheEntry). kept_reply (Entry (record entry { result = Some outcome }))) (option_map (entry_with kept outcome.slot (ended_at kept outcome.slot)) one)) asked in
    record { reply = reply; is_kept = ap (option_and_then kept_reply) found ∙ replies; is_sent = sent ∙ replies }

-- ---- the example

-- the payments of the example
asked-within : (service : List ℕ) (before seconds : ℕ) → is_ident 10 service ≡ true → IsTrace before → IsMoment (pos seconds)
    → IsIntent (record paying_intent { service = service; before = before; moment = pos seconds })
asked-within service before seconds is_service is_trace is_moment = record {
  sale = ident 40 (codes "S1") refl;
  poi = ident 40 (codes "T1") refl;
  service = ident 10 service is_service;
  transaction = ident 80 (codes "X1") refl;
  stamp = ident 35 (codes "2026-11-27T12:00:00Z") refl;
  amount = (lit≤ tt, lit≤ tt);
  before = is_trace;
  original = tt;
  moment = is_moment;
}

-- the approval
approved-within : IsOutcome kept_approval
approved-within = record {
  slot = lit< tt;
  number = (lit≤ tt, lit≤ tt);
  receipt = (lit≤ tt, lit≤ tt);
  amount = (lit≤ tt, lit≤ tt);
  condition = tt;
  moment = (omega (arith, ints), omega (arith, ints));
}

no-records : AreFolded []
no-records = record { within = λ at default lt. absurd (omega (arith, lt)); fit = tt }

asked-fits : IsTrue (fits [] (Intent paying_intent))
unfolding history
asked-fits = refl

approved-fits : IsTrue (fits asked_records (Outcome kept_approval))
unfolding history
approved-fits = refl

later-fits : IsTrue (fits paid_records (Intent later_intent))
unfolding history
later-fits = refl

asked-folded : AreFolded asked_records
asked-folded = folded-more [] (Intent paying_intent) no-records (asked-within (codes "7") 0 4 refl (lit≤ tt) (omega (arith, ints), omega (arith, ints))) asked-fits

paid-folded : AreFolded paid_records
paid-folded = folded-more asked_records (Outcome kept_approval) asked-folded approved-within approved-fits

later-folded : AreFolded (paid_records ++ Intent later_intent ∷ [])
later-folded = folded-more paid_records (Intent later_intent) paid-folded (asked-within (codes "8") 123 6 refl (lit≤ tt) (omega (arith, ints), omega (arith, ints))) later-fits

pub paid-stays : PaidStays
unfolding history
paid-stays = record { folded = paid-folded; asked = refl; sent = refl; kept = refl; later = later-folded; found = refl; finished = refl; stays = refl }
