-- What the records say of open keys and of last trace numbers with one more record, and what stays of the trace numbers that an honest book bears out.
use Rattle.std.proofs.Common.{◌≡◌, ◌∙◌, ℕ, zero, suc, ◌<◌, ◌≤◌, Bool, true, false, List, [], ◌∷◌, ◌++◌, length, Option, Some, None, is_some, IsTrue, All, slice_get, refl, sym, ap, subst, arith, ◌⊎◌, inl, inr}
use Rattle.std.specs.Prelude.{if◌then◌else◌, option_map}
use Rattle.std.proofs.lemmas.Bool.{cases_lt}
use Rattle.std.proofs.lemmas.List.{length-append}
use Rattle.std.proofs.lemmas.Option.{same_Some}
use Rattle.gw_base.specs.declared.setup.Pt.{Pt}
use Rattle.jrn_record.specs.Limits.{IsRecord}
use Rattle.jrn_record.specs.declared.records.Intent.{Intent as TheIntent}
use Rattle.jrn_record.specs.declared.records.Outcome.{Outcome as TheOutcome}
use Rattle.jrn_record.specs.declared.records.Record.{Record}
use Rattle.jrn_record.specs.declared.records.Record.TheVariants.{Intent, Outcome, Settled}
use Rattle.jrn_record.specs.declared.records.Settled.{Settled as TheSettled}
use Rattle.gw_ledger.specs.declared.account.Account.{Account}
use Rattle.gw_ledger.specs.Accounts.{account_of, account_with, is_poi, last_number_of, open_slot, poi_of}
use Rattle.gw_ledger.specs.Fold.{AreFolded, FitBy, fits, fits_beside_key}
use Rattle.gw_ledger.specs.History.{same_text}
use Rattle.gw_ledger.specs.Keys.{intent_key, slot_of}
use Rattle.gw_ledger.specs.Laws.{trace_in}
use Rattle.gw_ledger.specs.Slots.{as_intent, ended_at, ended_in, intent_at, is_outcome_of}
use Rattle.gw_ledger.proofs.FoldLemmas.{along, intent_inside, open_has_intent, open_parts}
use Rattle.gw_ledger.proofs.HistoryLemmas.{history-push}
use Rattle.gw_ledger.proofs.OpenLemmas.{account_push}
use Rattle.gw_ledger.proofs.RecordLemmas.{folded_beside, get_push, intent_push}
use Rattle.gw_ledger.proofs.TieLemmas.{eqb_above, eqb_same}
use Rattle.gw_owes.proofs.RecordLemmas.{LedgerLaws, intent-stays, intent-within, open-unended, same-text-is, same-text-itself, settled-leaves}
use Rattle.gw_books.specs.Books.{BookedEntry}
use Rattle.gw_books.specs.Past.{Numbering, numbering_at, numbering_of, SentCommand}
use Rattle.gw_books.proofs.Holding.{IsUnsent}
use Rattle.gw_books.proofs.ListLemmas.{In}
use Rattle.gw_books.proofs.Numbering.{AreIntentsNumbered, AreLastBooked, AreRecordsNumbered, HasEntryBefore, HasEntryBeforeAll, IsBookedNumber, IsEntryFrom, IsForKey, IsIntentNumbered, IsOfSent, IsOpenNumbered, IsReadyNumber, IsSentFrom}
use Rattle.gw_books.proofs.RecordMoreLemmas.{own-slot}

-- ---- the first of the records

all-first : (records more : List Record) → All IsRecord (records ++ more) → All IsRecord records
all-first [] more within k d inside = absurd (omega arith)
all-first (first ∷ records) more within zero d inside = within 0 d (omega arith)
all-first (first ∷ records) more within (suc k) d inside = all-first records more (λ j e lt. within (suc j) e (omega arith)) k d (omega arith)

fit-first : (before records more : List Record) → FitBy fits before (records ++ more) → FitBy fits before records
fit-first before [] more fit = tt
fit-first before (first ∷ records) more fit = (fit.0, fit-first (before ++ first ∷ []) records more fit.1)

-- the first of records that are folded are so too
pub folded-first : (records more : List Record) → AreFolded (records ++ more) → AreFolded records
folded-first records more folded = record {
  within = all-first records more folded.within;
  fit = fit-first [] records more folded.fit;
}

-- ---- what is open

-- an open slot has its Intent
pub open-has-intent : (laws : LedgerLaws) (records : List Record) → AreFolded records → (poi : List ℕ) (slot : ℕ) → open_slot records poi ≡ Some slot → (intent : TheIntent) × (intent_at records slot ≡ Some intent)
open-has-intent laws records folded poi slot found = let parts = open-unended laws records folded poi slot found in (parts.intent, parts.intent_is)

-- it is one of this terminal
pub open-poi : (laws : LedgerLaws) (records : List Record) → AreFolded records → (poi : List ℕ) (slot : ℕ) (intent : TheIntent) → open_slot records poi ≡ Some slot → intent_at records slot ≡ Some intent → intent.poi ≡ poi
open-poi laws records folded poi slot intent found there =
    let mine = ((laws.open_slots records folded poi slot).0 found).1 in
    sym (same-text-is poi intent.poi (sym (ap (λ (asked : Option TheIntent). is_poi poi (option_map (λ (i : TheIntent). i.poi) asked)) there) ∙ mine))

-- each Outcome of the records ends its slot
abbrev OutcomesEnd : List Record → Type 0
OutcomesEnd records = (at : ℕ) (outcome : TheOutcome) → slice_get records at ≡ Some (Outcome outcome) → (outcome.slot < length records) × (is_some (ended_at records outcome.slot) ≡ true)

-- a slot before one more record ends with it, where that is its Outcome
ended-push : (before : List Record) (next : Record) (slot : ℕ) → slot < length before → ended_at (before ++ next ∷ []) slot ≡ (if is_outcome_of slot next then Some (length before) else ended_at before slot)
ended-push before next slot within = ap (ended_in slot) (history-push before next)
    ∙ ap (λ (here : Bool). if here then None else (if is_outcome_of slot next then Some (length before) else ended_at before slot)) (eqb_above (length before) slot within)

ends-step : (before : List Record) (next : Record) → OutcomesEnd before → IsRecord next → IsTrue (fits_beside_key before next) → OutcomesEnd (before ++ next ∷ [])
ends-step before next ends within fitting at outcome found = elim (get_push before next at (Outcome outcome) found) [
  | inl earlier ↦ earlier-ends (ends at outcome earlier.1)
  | inr last ↦
      let opened = open_parts before outcome (subst (λ (r : Record). IsTrue (fits_beside_key before r)) last.1 fitting) in
      let inside : outcome.slot < length before = intent_inside before outcome.slot (open_has_intent before outcome.slot opened) in
      let own : is_outcome_of outcome.slot next ≡ true = ap (is_outcome_of outcome.slot) last.1 ∙ eqb_same outcome.slot in
      (longer inside, ap (λ (end : Option ℕ). is_some end) (ended-push before next outcome.slot inside ∙ ap (λ (b : Bool). if b then Some (length before) else ended_at before outcome.slot) own))
]
  where
    longer : outcome.slot < length before → outcome.slot < length (before ++ next ∷ [])
    longer inside = omega (arith, inside, length-append before (next ∷ []))

    by-test : (b : Bool) → is_some (ended_at before outcome.slot) ≡ true → is_some (if b then Some (length before) else ended_at before outcome.slot) ≡ true
    by-test true ended = refl
    by-test false ended = ended

    earlier-ends : (outcome.slot < length before) × (is_some (ended_at before outcome.slot) ≡ true) → (outcome.slot < length (before ++ next ∷ [])) × (is_some (ended_at (before ++ next ∷ []) outcome.slot) ≡ true)
    earlier-ends was = (longer was.0, ap (λ (end : Option ℕ). is_some end) (ended-push before next outcome.slot was.0) ∙ by-test (is_outcome_of outcome.slot next) was.1)

none-end : OutcomesEnd []
none-end at outcome found = absurd cc

-- no Outcome of the records is that of an open key
pub open-key-unended : (laws : LedgerLaws) (records : List Record) → AreFolded records → (poi : List ℕ) (slot : ℕ) (intent : TheIntent) → open_slot records poi ≡ Some slot → intent_at records slot ≡ Some intent
    → (at : ℕ) (outcome : TheOutcome) (other : TheIntent) → slice_get records at ≡ Some (Outcome outcome) → intent_at records outcome.slot ≡ Some other → intent_key other ≡ intent_key intent → ⊥
open-key-unended laws records folded poi slot intent is_open there at outcome other found asked one-key =
    let same : outcome.slot ≡ slot = same_Some outcome.slot slot (sym (own-slot laws records outcome.slot other folded asked) ∙ ap (slot_of records) one-key ∙ own-slot laws records slot intent folded there) in
    let ended : is_some (ended_at records outcome.slot) ≡ true = (along OutcomesEnd ends-step none-end records (folded_beside records folded) at outcome found).1 in
    let unended : ended_at records slot ≡ None = (open-unended laws records folded poi slot is_open).unended in
    let clash : false ≡ true = sym (ap (λ (end : Option ℕ). is_some end) unended) ∙ ap (λ (n : ℕ). is_some (ended_at records n)) (sym same) ∙ ended in
    absurd cc

-- ---- one more record

-- a terminal's own record
own-poi : (poi own : List ℕ) → is_poi poi (Some own) ≡ true → own ≡ poi
own-poi poi own mine = sym (same-text-is poi own mine)

-- and one of another
other-poi : (poi own : List ℕ) → is_poi poi (Some own) ≡ false → own ≡ poi → ⊥
other-poi poi own apart same = let clash : true ≡ false = sym (same-text-itself poi) ∙ ap (same_text poi) (sym same) ∙ apart in absurd cc

-- the last trace number is the one before, or that of one more record
trace-after : (slot : ℕ) (next : Record) (account : Account) → ((account_with slot next account).trace ≡ account.trace) ⊎ ((account_with slot next account).trace ≡ trace_in next)
trace-after slot (Intent intent) account = elim (cases_lt account.trace intent.before) [ inl lt ↦ inr (omega arith) | inr ge ↦ inl (omega arith) ]
trace-after slot (Outcome outcome) account = elim (cases_lt account.trace outcome.number) [ inl lt ↦ inr (omega arith) | inr ge ↦ inl (omega arith) ]
trace-after slot (Settled settled) account = inl refl

-- a terminal's last trace number with one more record is the one before, or the record's own, which is then one of the terminal
pub last-after : (records : List Record) (next : Record) (poi : List ℕ)
    → (last_number_of (records ++ next ∷ []) poi ≡ last_number_of records poi) ⊎ ((is_poi poi (poi_of records next) ≡ true) × (last_number_of (records ++ next ∷ []) poi ≡ trace_in next))
last-after records next poi = by-test (is_poi poi (poi_of records next)) refl (ap (λ (a : Account). a.trace) (account_push records next poi))
  where
    by-test : (b : Bool) → is_poi poi (poi_of records next) ≡ b → last_number_of (records ++ next ∷ []) poi ≡ (if b then account_with (length records) next (account_of records poi) else account_of records poi).trace
        → (last_number_of (records ++ next ∷ []) poi ≡ last_number_of records poi) ⊎ ((is_poi poi (poi_of records next) ≡ true) × (last_number_of (records ++ next ∷ []) poi ≡ trace_in next))
    by-test true mine is = elim (trace-after (length records) next (account_of records poi)) [
      | inl before ↦ inl (is ∙ before)
      | inr own ↦ inr (mine, is ∙ own)
    ]
    by-test false apart is = inl is

-- what is open with one more Intent is that one, at its terminal, or was open before, at another
pub open-after-intent : (records : List Record) (intent : TheIntent) (poi : List ℕ) (slot : ℕ) → open_slot (records ++ Intent intent ∷ []) poi ≡ Some slot
    → ((intent.poi ≡ poi) × (slot ≡ length records)) ⊎ ((intent.poi ≡ poi → ⊥) × (open_slot records poi ≡ Some slot))
open-after-intent records intent poi slot found = by-test (is_poi poi (Some intent.poi)) refl (sym (ap (λ (a : Account). a.unresolved) (account_push records (Intent intent) poi)) ∙ found)
  where
    by-test : (b : Bool) → is_poi poi (Some intent.poi) ≡ b → (if b then account_with (length records) (Intent intent) (account_of records poi) else account_of records poi).unresolved ≡ Some slot
        → ((intent.poi ≡ poi) × (slot ≡ length records)) ⊎ ((intent.poi ≡ poi → ⊥) × (open_slot records poi ≡ Some slot))
    by-test true mine there = inl (own-poi poi intent.poi mine, sym (same_Some (length records) slot there))
    by-test false apart there = inr (other-poi poi intent.poi apart, there)

-- what is open with one more Outcome was open before, at another terminal than the Outcome's
pub open-after-outcome : (records : List Record) (outcome : TheOutcome) (intent : TheIntent) (poi : List ℕ) (slot : ℕ) → intent_at records outcome.slot ≡ Some intent
    → open_slot (records ++ Outcome outcome ∷ []) poi ≡ Some slot → (intent.poi ≡ poi → ⊥) × (open_slot records poi ≡ Some slot)
open-after-outcome records outcome intent poi slot asked found =
    by-test (is_poi poi (poi_of records (Outcome outcome))) refl (sym (ap (λ (a : Account). a.unresolved) (account_push records (Outcome outcome) poi)) ∙ found)
  where
    of-intent : poi_of records (Outcome outcome) ≡ Some intent.poi
    of-intent = ap (option_map (λ (i : TheIntent). i.poi)) asked

    by-test : (b : Bool) → is_poi poi (poi_of records (Outcome outcome)) ≡ b → (if b then account_with (length records) (Outcome outcome) (account_of records poi) else account_of records poi).unresolved ≡ Some slot
        → (intent.poi ≡ poi → ⊥) × (open_slot records poi ≡ Some slot)
    by-test true mine there = absurd cc
    by-test false apart there = (other-poi poi intent.poi (sym (ap (is_poi poi) of-intent) ∙ apart), there)

-- ---- the numbers

-- a terminal's own record is of its numbering
own-numbering : (numbering : Numbering) (intent : TheIntent) → is_poi numbering.poi (Some intent.poi) ≡ true → numbering_of intent ≡ numbering
own-numbering numbering intent mine = ap (λ (poi : List ℕ). record { poi = poi }) (own-poi numbering.poi intent.poi mine)

-- a number that is booked is one of the same terminal
booked-at : (book : List BookedEntry) (numbering own : Numbering) (place trace last : ℕ) → own ≡ numbering → last ≡ trace → IsBookedNumber book own place trace → IsBookedNumber book numbering place last
booked-at book numbering own place trace last same is booked =
    subst (λ (n : ℕ). IsBookedNumber book numbering place n) (sym is) (subst (λ (one : Numbering). IsBookedNumber book one place trace) same booked)

-- one more record: where it is an Intent, nothing was sent for its key
module _ (records : List Record) (next : Record) (book : List BookedEntry) (commands : List SentCommand) (unsent : (intent : TheIntent) → as_intent next ≡ Some intent → IsUnsent commands (intent_key intent)) where
  -- what was sent for its Intents was sent for those before
  sent-before : (poi : List ℕ) (slot : ℕ) (command : SentCommand) → In command commands → IsSentFrom (records ++ next ∷ []) poi slot command → IsSentFrom records poi slot command
  sent-before poi slot command sent since = elim (intent_push records next since.at since.intent since.intent_is) [
    | inl earlier ↦ record { at = since.at; intent = since.intent; from = since.from; intent_is = earlier.1; poi_is = since.poi_is; key_is = since.key_is }
    | inr it ↦ absurd (unsent since.intent it.1 command sent since.key_is)
  ]

  -- and what is of those before is of all
  entry-more : (poi : List ℕ) (slot : ℕ) (entry : BookedEntry) → IsEntryFrom commands records poi slot entry → IsEntryFrom commands (records ++ next ∷ []) poi slot entry
  entry-more poi slot entry of = record {
    command = of.command;
    sent = of.sent;
    since = record { at = of.since.at; intent = of.since.intent; from = of.since.from; intent_is = intent-stays records (next ∷ []) of.since.at of.since.intent of.since.intent_is; poi_is = of.since.poi_is; key_is = of.since.key_is };
    caused = of.caused;
  }

  -- each Intent before stays as it is numbered
  intent-more : (place slot : ℕ) (intent : TheIntent) → IsIntentNumbered book commands place records slot intent → IsIntentNumbered book commands place (records ++ next ∷ []) slot intent
  intent-more place slot intent is = record {
    sent_to = is.sent_to;
    base = base is.base;
    lower = λ entry within same of approved. more entry (is.lower entry within same of approved);
    others = λ entry within same of command sent key_is. more entry (is.others entry within same of command sent key_is);
  }
    where
      base : (intent.before ≡ 0) ⊎ HasEntryBeforeAll book commands records (numbering_of intent) place slot intent.before → (intent.before ≡ 0) ⊎ HasEntryBeforeAll book commands (records ++ next ∷ []) (numbering_of intent) place slot intent.before
      base (inl none) = inl none
      base (inr has) = inr (record { numbered = has.numbered; earlier = λ command sent since. has.earlier command sent (sent-before intent.poi slot command sent since) })

      more : {A : Type 0} (entry : BookedEntry) → A ⊎ IsEntryFrom commands records intent.poi slot entry → A ⊎ IsEntryFrom commands (records ++ next ∷ []) intent.poi slot entry
      more entry (inl so) = inl so
      more entry (inr of) = inr (entry-more intent.poi slot entry of)

-- one more Intent whose number before is that of its terminal which is ready, and for whose key nothing was sent
pub numbered-with-intent : (records : List Record) (intent : TheIntent) (book : List BookedEntry) (commands : List SentCommand) (place : ℕ)
    → AreRecordsNumbered book commands place records → IsReadyNumber book commands (numbering_of intent) place intent.before → IsUnsent commands (intent_key intent)
    → AreRecordsNumbered book commands place (records ++ Intent intent ∷ [])
numbered-with-intent records intent book commands place numbered ready unsent = record { intents = intents; last = last }
  where
    its-key : (other : TheIntent) → as_intent (Intent intent) ≡ Some other → IsUnsent commands (intent_key other)
    its-key other is = subst (λ (i : TheIntent). IsUnsent commands (intent_key i)) (same_Some intent other is) unsent

    -- nothing was sent for the key, so what is to hold of its commands does
    none-since : (command : SentCommand) → In command commands → IsSentFrom (records ++ Intent intent ∷ []) intent.poi (length records) command → ⊥
    none-since command sent since = elim (intent_push records (Intent intent) since.at since.intent since.intent_is) [
      | inl earlier ↦ let below = earlier.0 in let from = since.from in omega (arith, below, from)
      | inr it ↦ its-key since.intent it.1 command sent since.key_is
    ]

    based : IsBookedNumber book (numbering_of intent) place intent.before → (intent.before ≡ 0) ⊎ HasEntryBeforeAll book commands (records ++ Intent intent ∷ []) (numbering_of intent) place (length records) intent.before
    based (inl none) = inl none
    based (inr has) = inr (record { numbered = has; earlier = λ command sent since. absurd (none-since command sent since) })

    own : IsIntentNumbered book commands place (records ++ Intent intent ∷ []) (length records) intent
    own = record {
      sent_to = λ command within key_is. absurd (unsent command within key_is);
      base = based ready.booked;
      lower = λ entry within poi_is of-sent approved. inl (ready.greatest entry within poi_is of-sent approved);
      others = λ entry within poi_is of-sent command sent key_is. absurd (unsent command sent key_is);
    }

    intents : AreIntentsNumbered book commands place (records ++ Intent intent ∷ [])
    intents slot other there = elim (intent_push records (Intent intent) slot other there) [
      | inl earlier ↦ intent-more records (Intent intent) book commands its-key place slot other (numbered.intents slot other earlier.1)
      | inr it ↦
          subst (λ (at : ℕ). IsIntentNumbered book commands place (records ++ Intent intent ∷ []) at other) (sym it.0)
          (subst (λ (i : TheIntent). IsIntentNumbered book commands place (records ++ Intent intent ∷ []) (length records) i) (same_Some intent other it.1) own)
    ]

    last : AreLastBooked book place (records ++ Intent intent ∷ [])
    last numbering = elim (last-after records (Intent intent) numbering.poi) [
      | inl same ↦ subst (λ (n : ℕ). IsBookedNumber book numbering place n) (sym same) (numbered.last numbering)
      | inr mine ↦
          booked-at book numbering (numbering_of intent) place intent.before (last_number_of (records ++ Intent intent ∷ []) numbering.poi) (own-numbering numbering intent mine.0) mine.1 ready.booked
    ]

-- with one more record that is no Intent
intents-beside : (records : List Record) (next : Record) → as_intent next ≡ None → (book : List BookedEntry) (commands : List SentCommand) (place : ℕ) → AreIntentsNumbered book commands place records
    → AreIntentsNumbered book commands place (records ++ next ∷ [])
intents-beside records next none book commands place intents slot other there = elim (intent_push records next slot other there) [
  | inl earlier ↦ intent-more records next book commands (λ intent is. no-intent intent is) place slot other (intents slot other earlier.1)
  | inr it ↦ no-intent other it.1
]
  where
    no-intent : {A : Type 0} (intent : TheIntent) → as_intent next ≡ Some intent → A
    no-intent intent is = let clash : None ≡ Some intent = sym none ∙ is in absurd cc

-- one more Outcome whose number is booked at its terminal
pub numbered-with-outcome : (records : List Record) (outcome : TheOutcome) (intent : TheIntent) → intent_at records outcome.slot ≡ Some intent
    → (book : List BookedEntry) (commands : List SentCommand) (place : ℕ) → AreRecordsNumbered book commands place records → IsBookedNumber book (numbering_of intent) place outcome.number
    → AreRecordsNumbered book commands place (records ++ Outcome outcome ∷ [])
numbered-with-outcome records outcome intent asked book commands place numbered booked = record { intents = intents-beside records (Outcome outcome) refl book commands place numbered.intents; last = last }
  where
    last : AreLastBooked book place (records ++ Outcome outcome ∷ [])
    last numbering = elim (last-after records (Outcome outcome) numbering.poi) [
      | inl same ↦ subst (λ (n : ℕ). IsBookedNumber book numbering place n) (sym same) (numbered.last numbering)
      | inr mine ↦
          let own = own-numbering numbering intent (sym (ap (λ (i : Option TheIntent). is_poi numbering.poi (option_map (λ (j : TheIntent). j.poi) i)) asked) ∙ mine.0) in
          booked-at book numbering (numbering_of intent) place outcome.number (last_number_of (records ++ Outcome outcome ∷ []) numbering.poi) own mine.1 booked
    ]

-- one more Settled, which has no trace number
pub numbered-with-settled : (laws : LedgerLaws) (records : List Record) (settled : TheSettled) (book : List BookedEntry) (commands : List SentCommand) (place : ℕ) → AreRecordsNumbered book commands place records
    → AreRecordsNumbered book commands place (records ++ Settled settled ∷ [])
numbered-with-settled laws records settled book commands place numbered = record {
  intents = intents-beside records (Settled settled) refl book commands place numbered.intents;
  last = λ numbering. subst (λ (n : ℕ). IsBookedNumber book numbering place n) (sym (settled-leaves laws records settled numbering.poi).number_stays) (numbered.last numbering);
}

-- ---- the open key

-- a terminal's open slot is that of its last Intent
abbrev OpensLast : List Record → Type 0
OpensLast records = (poi : List ℕ) (slot at : ℕ) (intent : TheIntent) → open_slot records poi ≡ Some slot → intent_at records at ≡ Some intent → intent.poi ≡ poi → at ≤ slot

last-step : LedgerLaws → (before : List Record) (next : Record) → OpensLast before → IsRecord next → IsTrue (fits_beside_key before next) → OpensLast (before ++ next ∷ [])
last-step laws before (Intent new) lasts within fitting poi slot at intent is_open there same = elim (open-after-intent before new poi slot is_open) [
  | inl mine ↦
      let inside : at < length (before ++ Intent new ∷ []) = intent-within (before ++ Intent new ∷ []) at intent there in
      let last = mine.1 in
      omega (arith, inside, length-append before (Intent new ∷ []), last)
  | inr was ↦ elim (intent_push before (Intent new) at intent there) [
    | inl earlier ↦ lasts poi slot at intent was.1 earlier.1 same
    | inr it ↦ absurd (was.0 (ap (λ (i : TheIntent). i.poi) (same_Some new intent it.1) ∙ same))
  ]
]
last-step laws before (Outcome outcome) lasts within fitting poi slot at intent is_open there same = by-asked (intent_at before outcome.slot) refl (open_has_intent before outcome.slot (open_parts before outcome fitting))
  where
    by-asked : (asked : Option TheIntent) → intent_at before outcome.slot ≡ asked → is_some asked ≡ true → at ≤ slot
    by-asked None is some = absurd cc
    by-asked (Some asked) is some = elim (intent_push before (Outcome outcome) at intent there) [
      | inl earlier ↦ lasts poi slot at intent (open-after-outcome before outcome asked poi slot is is_open).1 earlier.1 same
      | inr it ↦ let clash = it.1 in absurd cc
    ]
last-step laws before (Settled settled) lasts within fitting poi slot at intent is_open there same = elim (intent_push before (Settled settled) at intent there) [
  | inl earlier ↦ lasts poi slot at intent (sym (settled-leaves laws before settled poi).slot_stays ∙ is_open) earlier.1 same
  | inr it ↦ let clash = it.1 in absurd cc
]

none-last : OpensLast []
none-last poi slot at intent is_open there same = absurd cc

pub open-is-last : (laws : LedgerLaws) (records : List Record) → AreFolded records → (poi : List ℕ) (slot at : ℕ) (intent : TheIntent) → open_slot records poi ≡ Some slot → intent_at records at ≡ Some intent → intent.poi ≡ poi → at ≤ slot
open-is-last laws records folded = along OpensLast (last-step laws) none-last records (folded_beside records folded)

-- it is numbered as its terminal is
pub open-numbering : (laws : LedgerLaws) (records : List Record) → AreFolded records → (pt : Pt) (slot : ℕ) (intent : TheIntent) → open_slot records pt.poi ≡ Some slot → intent_at records slot ≡ Some intent → numbering_of intent ≡ numbering_at pt
open-numbering laws records folded pt slot intent is_open there = ap (λ (poi : List ℕ). record { poi = poi }) (open-poi laws records folded pt.poi slot intent is_open there)

-- what holds of each Intent, of the one that is open: no Intent of its terminal is later
pub open-numbered : (laws : LedgerLaws) (records : List Record) → AreFolded records → (book : List BookedEntry) (commands : List SentCommand) (place : ℕ) → AreIntentsNumbered book commands place records
    → (poi : List ℕ) (slot : ℕ) (intent : TheIntent) → open_slot records poi ≡ Some slot → intent_at records slot ≡ Some intent → IsOpenNumbered book commands (numbering_of intent) place (intent_key intent) intent.before
open-numbered laws records folded book commands place intents poi slot intent is_open there =
    record { sent_to = is.sent_to; base = base is.base; lower = lower; others = others }
  where
    mine : intent.poi ≡ poi
    mine = open-poi laws records folded poi slot intent is_open there

    is : IsIntentNumbered book commands place records slot intent
    is = intents slot intent there

    -- an entry from its slot on is its key's
    for-key : (entry : BookedEntry) → IsEntryFrom commands records intent.poi slot entry → IsForKey commands (intent_key intent) entry
    for-key entry of = record { command = of.command; sent = of.sent; key_is = of.since.key_is ∙ ap (λ (i : TheIntent). Some (intent_key i)) same; caused = of.caused }
      where
        here : of.since.at ≡ slot
        here = let last = open-is-last laws records folded poi slot of.since.at of.since.intent is_open of.since.intent_is (of.since.poi_is ∙ mine) in let from = of.since.from in omega (arith, last, from)

        same : of.since.intent ≡ intent
        same = same_Some of.since.intent intent (sym of.since.intent_is ∙ ap (intent_at records) here ∙ there)

    base : (intent.before ≡ 0) ⊎ HasEntryBeforeAll book commands records (numbering_of intent) place slot intent.before → (intent.before ≡ 0) ⊎ HasEntryBefore book commands (numbering_of intent) place (intent_key intent) intent.before
    base (inl none) = inl none
    base (inr has) = inr (record { numbered = has.numbered; earlier = λ command sent key_is. has.earlier command sent (record { at = slot; intent = intent; from = omega arith; intent_is = there; poi_is = refl; key_is = key_is }) })

    lower : (entry : BookedEntry) → In entry book → entry.numbering ≡ numbering_of intent → IsOfSent commands entry → entry.approved ≡ true → (entry.number ≤ intent.before) ⊎ IsForKey commands (intent_key intent) entry
    lower entry within same of approved = elim (is.lower entry within same of approved) [
      | inl low ↦ inl low
      | inr from ↦ inr (for-key entry from)
    ]

    others : (entry : BookedEntry) → In entry book → entry.numbering ≡ numbering_of intent → IsOfSent commands entry → (command : SentCommand) → In command commands → command.key ≡ Some (intent_key intent)
        → (entry.place ≤ command.place) ⊎ IsForKey commands (intent_key intent) entry
    others entry within same of command sent key_is = elim (is.others entry within same of command sent key_is) [
      | inl early ↦ inl early
      | inr from ↦ inr (for-key entry from)
    ]
