-- What one more record leaves of what holds of the records: the slots of keys, what is accepted, the Outcomes that are true, the links that are resolved, and what terminals serve.
use Rattle.std.proofs.Common.{◌≡◌, ◌∙◌, ℕ, zero, suc, ◌≤◌, Bool, true, false, ◌&&◌, cond, not, List, [], ◌∷◌, ◌++◌, length, Option, Some, None, is_some, IsTrue, slice_get, refl, sym, ap, subst, arith, ◌⊎◌, inl, inr, append_assoc}
use Rattle.std.specs.Prelude.{if◌then◌else◌, option_and_then, option_map}
use Rattle.std.specs.Ordering.{is_eq}
use Rattle.std.proofs.lemmas.Cmp.{tied_itself}
use Rattle.std.proofs.lemmas.List.{append-nil}
use Rattle.std.proofs.lemmas.Option.{same_Some}
use Rattle.gw_base.specs.Key.{key_cmp}
use Rattle.gw_base.specs.declared.key.Key.{Key}
use Rattle.gw_base.proofs.KeyLemmas.{key_cmp-ties}
use Rattle.jrn_record.specs.Limits.{IsRecord}
use Rattle.jrn_record.specs.declared.records.Intent.{Intent as TheIntent}
use Rattle.jrn_record.specs.declared.records.Outcome.{Outcome as TheOutcome}
use Rattle.jrn_record.specs.declared.records.Record.{Record}
use Rattle.jrn_record.specs.declared.records.Record.TheVariants.{Intent, Outcome, Settled}
use Rattle.jrn_record.specs.declared.records.Settled.{Settled as TheSettled}
use Rattle.gw_ledger.specs.declared.account.Account.{Account}
use Rattle.gw_ledger.specs.declared.entry.Found.TheVariants.{Entry}
use Rattle.gw_ledger.specs.Accounts.{is_poi, open_slot, poi_of, account_of, account_with}
use Rattle.gw_ledger.specs.Fold.{AreFolded, FitBy, fits, fits_beside_key, found_by, found_of, has_new_key}
use Rattle.gw_ledger.specs.Keys.{intent_key, is_key, key_at, record_key, settled_key, slot_of}
use Rattle.gw_ledger.specs.Slots.{as_intent, ended_at, entry_at, entry_with, intent_at}
use Rattle.gw_ledger.proofs.FoldLemmas.{along, open_has_intent, open_parts}
use Rattle.gw_ledger.proofs.KeyTableLemmas.{key_total, slot_push}
use Rattle.gw_ledger.proofs.RecordLemmas.{folded_beside, get_push, intent_push}
use Rattle.gw_ledger.proofs.SortedLemmas.{slot_has_key}
use Rattle.gw_ledger.proofs.TieLemmas.{is_equal}
use Rattle.gw_owes.specs.RecordLaws.{AreRecordsOf}
use Rattle.gw_owes.specs.declared.terminal.Service.TheVariants.{Transaction, EndOfDay, Display}
use Rattle.gw_owes.specs.declared.terminal.Standing.{Standing}
use Rattle.gw_owes.specs.declared.terminal.Standing.TheVariants.{Unlinked, Registering, Enquiring, Ready, Serving, Aside}
use Rattle.gw_owes.proofs.RecordLemmas.{LedgerLaws, account-more, entry-parts, intent-stays, open_entry_of, still-there}
use Rattle.gw_books.specs.Kinds.{BookedKind}
use Rattle.gw_books.specs.Agrees.{is_accepted}
use Rattle.gw_books.specs.Books.{BookedEntry}
use Rattle.gw_books.specs.Past.{SentCommand, MadeLink}
use Rattle.gw_books.proofs.Holding.{AreOutcomesTrue, BearsOut, IsAskedAs, IsDeclineTrue, IsFirstOf, IsOutcomeTrue, IsResolvedOn, IsServingSound}

-- ---- the slot of a key

key-is : (key : Key) (own : Option Key) → is_key key own ≡ true → own ≡ Some key
key-is key None tie = absurd cc
key-is key (Some other) tie = ap Some (sym ((key_cmp-ties key other).0 (is_equal (key_cmp key other) tie)))

key-itself : (key : Key) (own : Option Key) → own ≡ Some key → is_key key own ≡ true
key-itself key own same = ap (is_key key) same ∙ ap is_eq (tied_itself key_total key)

no-slot : (slot : Option ℕ) → IsTrue (not (is_some slot)) → slot ≡ None
no-slot None unknown = refl
no-slot (Some slot) unknown = absurd cc

first-part : (a b : Bool) → IsTrue (a && b) → IsTrue a
first-part true b both = refl
first-part false b both = absurd cc

new-slot : (records : List Record) (next : Record) (key : Key) → record_key next ≡ Some key → IsTrue (has_new_key records next) → slot_of records key ≡ None
new-slot records (Intent intent) key own unknown = subst (λ k. slot_of records k ≡ None) (same_Some (intent_key intent) key own) (no-slot (slot_of records (intent_key intent)) unknown)
new-slot records (Outcome outcome) key own unknown = absurd cc
new-slot records (Settled settled) key own unknown = subst (λ k. slot_of records k ≡ None) (same_Some (settled_key settled) key own) (no-slot (slot_of records (settled_key settled)) unknown)

-- a key among one more record is that of an earlier one, or of the last
key-more : (records : List Record) (next : Record) (slot : ℕ) (key : Key) → key_at (records ++ next ∷ []) slot ≡ Some key → (key_at records slot ≡ Some key) ⊎ ((slot ≡ length records) × (record_key next ≡ Some key))
key-more [] next zero key found = inr (refl, found)
key-more [] next (suc slot) key found = absurd cc
key-more (first ∷ records) next zero key found = inl found
key-more (first ∷ records) next (suc slot) key found = elim (key-more records next slot key found) [
  | inl before ↦ inl before
  | inr last ↦ inr (ap suc last.0, last.1)
]

-- each key is found at its own slot
abbrev HasOwnSlots : List Record → Type 0
HasOwnSlots records = (slot : ℕ) (key : Key) → key_at records slot ≡ Some key → slot_of records key ≡ Some slot

own-step : (before : List Record) (next : Record) → HasOwnSlots before → IsTrue (fits before next) → HasOwnSlots (before ++ next ∷ [])
own-step before next own fitting slot key found = elim (key-more before next slot key found) [
  | inl earlier ↦ by-test (is_key key (record_key next)) refl (own slot key earlier)
  | inr last ↦ slot_push before next key ∙ ap (λ (b : Bool). cond b (Some (length before)) (slot_of before key)) (key-itself key (record_key next) last.1) ∙ ap Some (sym last.0)
]
  where
    by-test : (b : Bool) → is_key key (record_key next) ≡ b → slot_of before key ≡ Some slot → slot_of (before ++ next ∷ []) key ≡ Some slot
    by-test true tie there =
        let none : slot_of before key ≡ None = new-slot before next key (key-is key (record_key next) tie) (first-part (has_new_key before next) (fits_beside_key before next) fitting) in
        absurd cc
    by-test false tie there = slot_push before next key ∙ ap (λ (b : Bool). cond b (Some (length before)) (slot_of before key)) tie ∙ there

own-slots : (before rest : List Record) → HasOwnSlots before → FitBy fits before rest → HasOwnSlots (before ++ rest)
own-slots before [] own fit = subst HasOwnSlots (sym (append-nil before)) own
own-slots before (next ∷ rest) own fit = subst HasOwnSlots (append_assoc before (next ∷ []) rest) (own-slots (before ++ next ∷ []) rest (own-step before next own fit.0) fit.1)

none-own : HasOwnSlots []
none-own slot key found = absurd cc

-- the key at the slot of an Intent is its own
pub key-of-intent : (records : List Record) (slot : ℕ) (intent : TheIntent) → intent_at records slot ≡ Some intent → key_at records slot ≡ Some (intent_key intent)
key-of-intent records slot intent found = by-record (slice_get records slot) refl found
  where
    by-record : (one : Option Record) → slice_get records slot ≡ one → option_and_then as_intent one ≡ Some intent → key_at records slot ≡ Some (intent_key intent)
    by-record None is there = absurd cc
    by-record (Some (Intent other)) is there = ap (option_and_then record_key) is ∙ ap (λ (i : TheIntent). Some (intent_key i)) (same_Some other intent there)
    by-record (Some (Outcome outcome)) is there = absurd cc
    by-record (Some (Settled settled)) is there = absurd cc

-- the key of an Intent is found at its slot
pub own-slot : (laws : LedgerLaws) (records : List Record) (slot : ℕ) (intent : TheIntent) → AreFolded records → intent_at records slot ≡ Some intent → slot_of records (intent_key intent) ≡ Some slot
own-slot laws records slot intent folded found = own-slots [] records none-own folded.fit slot (intent_key intent) (key-of-intent records slot intent found)

-- ---- what is accepted

-- the key of an Intent is accepted
pub accepted-intent : (laws : LedgerLaws) (records : List Record) (slot : ℕ) (intent : TheIntent) → AreFolded records → intent_at records slot ≡ Some intent → is_accepted records (intent_key intent) ≡ true
accepted-intent laws records slot intent folded found =
    ap (λ (at : Option ℕ). is_some (option_and_then (intent_at records) at)) (own-slot laws records slot intent folded found) ∙ ap (λ (asked : Option TheIntent). is_some asked) found

-- where the records have nothing under a key, it isn't accepted
pub unknown-accepted : (records : List Record) (key : Key) → found_of records key ≡ None → is_accepted records key ≡ false
unknown-accepted records key none = by-slot (slot_of records key) refl none
  where
    by-record : (slot : ℕ) (one : Option Record) → slice_get records slot ≡ one → option_and_then (found_by records slot) one ≡ None → is_some (intent_at records slot) ≡ false
    by-record slot None is lacks = ap (λ (r : Option Record). is_some (option_and_then as_intent r)) is
    by-record slot (Some (Intent intent)) is lacks =
        let there : intent_at records slot ≡ Some intent = ap (option_and_then as_intent) is in
        let found : entry_at records slot ≡ Some (entry_with records slot (ended_at records slot) intent) = ap (option_map (entry_with records slot (ended_at records slot))) there in
        let clash : Some (Entry (entry_with records slot (ended_at records slot) intent)) ≡ None = sym (ap (option_map Entry) found) ∙ lacks in
        absurd cc
    by-record slot (Some (Outcome outcome)) is lacks = ap (λ (r : Option Record). is_some (option_and_then as_intent r)) is
    by-record slot (Some (Settled settled)) is lacks = ap (λ (r : Option Record). is_some (option_and_then as_intent r)) is

    by-slot : (found : Option ℕ) → slot_of records key ≡ found → option_and_then (λ slot. option_and_then (found_by records slot) (slice_get records slot)) found ≡ None → is_some (option_and_then (intent_at records) found) ≡ false
    by-slot None is lacks = refl
    by-slot (Some slot) is lacks = by-record slot (slice_get records slot) refl lacks

-- the Intent of an accepted key
pub record IsAcceptedWith (records : List Record) (key : Key) : Type 0 where
  pub slot : ℕ
  pub slot_is : slot_of records key ≡ Some slot
  pub intent : TheIntent
  pub intent_is : intent_at records slot ≡ Some intent
  pub key_is : intent_key intent ≡ key

pub accepted-parts : (records : List Record) (key : Key) → is_accepted records key ≡ true → IsAcceptedWith records key
accepted-parts records key accepted = by-slot (slot_of records key) refl accepted
  where
    by-intent : (slot : ℕ) → slot_of records key ≡ Some slot → (asked : Option TheIntent) → intent_at records slot ≡ asked → is_some asked ≡ true → IsAcceptedWith records key
    by-intent slot at None is some = absurd cc
    by-intent slot at (Some intent) is some = record {
      slot = slot;
      slot_is = at;
      intent = intent;
      intent_is = is;
      key_is = same_Some (intent_key intent) key (sym (key-of-intent records slot intent is) ∙ slot_has_key records key slot at);
    }

    by-slot : (found : Option ℕ) → slot_of records key ≡ found → is_some (option_and_then (intent_at records) found) ≡ true → IsAcceptedWith records key
    by-slot None is some = absurd cc
    by-slot (Some slot) is some = by-intent slot is (intent_at records slot) refl some

-- an accepted key stays so
pub accepted-more : (laws : LedgerLaws) (records : List Record) (next : Record) (key : Key) → AreFolded (records ++ next ∷ []) → is_accepted records key ≡ true → is_accepted (records ++ next ∷ []) key ≡ true
accepted-more laws records next key folded accepted =
    let parts = accepted-parts records key accepted in
    subst (λ (k : Key). is_accepted (records ++ next ∷ []) k ≡ true) parts.key_is
    (accepted-intent laws (records ++ next ∷ []) parts.slot parts.intent folded (intent-stays records (next ∷ []) parts.slot parts.intent parts.intent_is))

-- what an Intent asks stays with more records
pub asked-first : (kept more : List Record) (key : Key) (kind : BookedKind) → IsFirstOf kept more → IsAskedAs kept key kind → IsAskedAs more key kind
asked-first kept more key kind first asked = record {
  slot = asked.slot;
  intent = asked.intent;
  intent_is = subst (λ records. intent_at records asked.slot ≡ Some asked.intent) (sym first.1) (intent-stays kept first.0 asked.slot asked.intent asked.intent_is);
  own = asked.own;
  kind_is = asked.kind_is;
}

-- ---- Outcomes that are true

-- so they are of the first records
pub outcomes-of-first : (commands : List SentCommand) (book : List BookedEntry) (place : ℕ) (records more : List Record) → AreOutcomesTrue commands book place (records ++ more) → AreOutcomesTrue commands book place records
outcomes-of-first commands book place records more are at outcome intent found intent_is =
    are at outcome intent (still-there records more at (Outcome outcome) found) (intent-stays records more outcome.slot intent intent_is)

borne-later : (approved : Bool) (commands : List SentCommand) (book : List BookedEntry) (place later : ℕ) (key : Key) (outcome : TheOutcome) → place ≤ later → BearsOut approved commands book place key outcome → BearsOut approved commands book later key outcome
borne-later true commands book place later key outcome le own =
    let booked = own.booked in
    let placed = booked.placed in
    record {
      command = own.command;
      sent = own.sent;
      key_is = own.key_is;
      booked = record {
        entry = booked.entry;
        within = booked.within;
        caused = booked.caused;
        placed = omega (arith, placed, le);
        approved = booked.approved;
        number = booked.number;
        receipt = booked.receipt;
        amount = booked.amount;
      };
    }
borne-later false commands book place later key outcome le own = own

-- an Outcome that is true stays so
pub outcome-later : (commands : List SentCommand) (book : List BookedEntry) (place later : ℕ) (key : Key) (outcome : TheOutcome) → place ≤ later → IsOutcomeTrue commands book place key outcome → IsOutcomeTrue commands book later key outcome
outcome-later commands book place later key outcome le own = borne-later outcome.approved commands book place later key outcome le own

pub outcomes-later : (commands : List SentCommand) (book : List BookedEntry) (place later : ℕ) (records : List Record) → place ≤ later → AreOutcomesTrue commands book place records → AreOutcomesTrue commands book later records
outcomes-later commands book place later records le are at outcome intent found intent_is = outcome-later commands book place later (intent_key intent) outcome le (are at outcome intent found intent_is)

-- the records have no Outcome of this key
abbrev pub IsUnended : List Record → Key → Type 0
IsUnended records key = (at : ℕ) (outcome : TheOutcome) (intent : TheIntent) → slice_get records at ≡ Some (Outcome outcome) → intent_at records outcome.slot ≡ Some intent → intent_key intent ≡ key → ⊥

-- neither have the first of them
pub unended-first : (records more : List Record) (key : Key) → IsUnended (records ++ more) key → IsUnended records key
unended-first records more key none at outcome intent found intent_is = none at outcome intent (still-there records more at (Outcome outcome) found) (intent-stays records more outcome.slot intent intent_is)

borne-sent : (approved : Bool) (command : SentCommand) (commands : List SentCommand) (book : List BookedEntry) (place : ℕ) (key : Key) (outcome : TheOutcome) → (command.key ≡ Some key → ⊥)
    → BearsOut approved commands book place key outcome → BearsOut approved (command ∷ commands) book place key outcome
borne-sent true command commands book place key outcome apart own = record { command = own.command; sent = inr own.sent; key_is = own.key_is; booked = own.booked }
borne-sent false command commands book place key outcome apart own = none
  where
    none : IsDeclineTrue (command ∷ commands) book key
    none one (inl same) key_is = absurd (apart (ap (λ (c : SentCommand). c.key) (sym same) ∙ key_is))
    none one (inr within) key_is = own one within key_is

-- and once one more command is sent, for another key
pub outcome-sent : (command : SentCommand) (commands : List SentCommand) (book : List BookedEntry) (place : ℕ) (key : Key) (outcome : TheOutcome) → (command.key ≡ Some key → ⊥)
    → IsOutcomeTrue commands book place key outcome → IsOutcomeTrue (command ∷ commands) book place key outcome
outcome-sent command commands book place key outcome apart own = borne-sent outcome.approved command commands book place key outcome apart own

-- so do those of records without an Outcome of the command's key
pub outcomes-sent : (command : SentCommand) (commands : List SentCommand) (book : List BookedEntry) (place : ℕ) (records : List Record) (key : Key) → command.key ≡ Some key → IsUnended records key
    → AreOutcomesTrue commands book place records → AreOutcomesTrue (command ∷ commands) book place records
outcomes-sent command commands book place records key key_is unended are at outcome intent found intent_is =
    outcome-sent command commands book place (intent_key intent) outcome (λ own. unended at outcome intent found intent_is (same_Some (intent_key intent) key (sym own ∙ key_is))) (are at outcome intent found intent_is)

-- ---- the first of the records

-- all of them are
pub first-itself : (records : List Record) → IsFirstOf records records
first-itself records = ([], sym (append-nil records))

-- the first of the first are
pub first-of-first : (first records more : List Record) → IsFirstOf first records → IsFirstOf records more → IsFirstOf first more
first-of-first first records more own later = (own.0 ++ later.0, later.1 ∙ ap (λ (l : List Record). l ++ later.0) own.1 ∙ append_assoc first own.0 later.0)

-- ---- the Intents of Outcomes

-- each Outcome of the records has its Intent there
abbrev OutcomesHaveIntents : List Record → Type 0
OutcomesHaveIntents records = (at : ℕ) (outcome : TheOutcome) → slice_get records at ≡ Some (Outcome outcome) → is_some (intent_at records outcome.slot) ≡ true

some-stays : (records : List Record) (next : Record) (slot : ℕ) → is_some (intent_at records slot) ≡ true → is_some (intent_at (records ++ next ∷ []) slot) ≡ true
some-stays records next slot some = by-intent (intent_at records slot) refl some
  where
    by-intent : (asked : Option TheIntent) → intent_at records slot ≡ asked → is_some asked ≡ true → is_some (intent_at (records ++ next ∷ []) slot) ≡ true
    by-intent None is there = absurd cc
    by-intent (Some intent) is there = ap (λ (i : Option TheIntent). is_some i) (intent-stays records (next ∷ []) slot intent is)

have-step : (before : List Record) (next : Record) → OutcomesHaveIntents before → IsRecord next → IsTrue (fits_beside_key before next) → OutcomesHaveIntents (before ++ next ∷ [])
have-step before next have within fitting at outcome found = elim (get_push before next at (Outcome outcome) found) [
  | inl earlier ↦ some-stays before next outcome.slot (have at outcome earlier.1)
  | inr last ↦ some-stays before next outcome.slot (open_has_intent before outcome.slot (open_parts before outcome (subst (λ (r : Record). IsTrue (fits_beside_key before r)) last.1 fitting)))
]

none-have : OutcomesHaveIntents []
none-have at outcome found = absurd cc

-- the Intent of an Outcome among the records
pub outcome-has-intent : (records : List Record) (at : ℕ) (outcome : TheOutcome) → AreFolded records → slice_get records at ≡ Some (Outcome outcome) → (intent : TheIntent) × (intent_at records outcome.slot ≡ Some intent)
outcome-has-intent records at outcome folded found = by-intent (intent_at records outcome.slot) refl (along OutcomesHaveIntents have-step none-have records (folded_beside records folded) at outcome found)
  where
    by-intent : (asked : Option TheIntent) → intent_at records outcome.slot ≡ asked → is_some asked ≡ true → (intent : TheIntent) × (intent_at records outcome.slot ≡ Some intent)
    by-intent None is some = absurd cc
    by-intent (Some intent) is some = (intent, is)

-- the Outcomes are true with one more record, where that is none or is true
pub outcomes-more : (commands : List SentCommand) (book : List BookedEntry) (place : ℕ) (records : List Record) (next : Record) → AreFolded records → AreOutcomesTrue commands book place records
    → ((outcome : TheOutcome) (intent : TheIntent) → next ≡ Outcome outcome → intent_at records outcome.slot ≡ Some intent → IsOutcomeTrue commands book place (intent_key intent) outcome)
    → AreOutcomesTrue commands book place (records ++ next ∷ [])
outcomes-more commands book place records next folded are new at outcome intent found intent_is = elim (get_push records next at (Outcome outcome) found) [
  | inl earlier ↦ before earlier.1
  | inr last ↦ new outcome intent last.1 (at-end last.1)
]
  where
    before : slice_get records at ≡ Some (Outcome outcome) → IsOutcomeTrue commands book place (intent_key intent) outcome
    before earlier =
        let there = outcome-has-intent records at outcome folded earlier in
        let same : there.0 ≡ intent = same_Some there.0 intent (sym (intent-stays records (next ∷ []) outcome.slot there.0 there.1) ∙ intent_is) in
        are at outcome intent earlier (there.1 ∙ ap Some same)

    at-end : next ≡ Outcome outcome → intent_at records outcome.slot ≡ Some intent
    at-end last = elim (intent_push records next outcome.slot intent intent_is) [
      | inl earlier ↦ earlier.1
      | inr own ↦ let clash : as_intent (Outcome outcome) ≡ Some intent = ap as_intent (sym last) ∙ own.1 in absurd cc
    ]

pub outcomes-and-intent : (commands : List SentCommand) (book : List BookedEntry) (place : ℕ) (records : List Record) (intent : TheIntent) → AreFolded records → AreOutcomesTrue commands book place records
    → AreOutcomesTrue commands book place (records ++ Intent intent ∷ [])
outcomes-and-intent commands book place records intent folded are = outcomes-more commands book place records (Intent intent) folded are (λ outcome other is found. absurd cc)

pub outcomes-and-outcome : (commands : List SentCommand) (book : List BookedEntry) (place : ℕ) (records : List Record) (outcome : TheOutcome) → AreFolded records → AreOutcomesTrue commands book place records
    → ((intent : TheIntent) → intent_at records outcome.slot ≡ Some intent → IsOutcomeTrue commands book place (intent_key intent) outcome) → AreOutcomesTrue commands book place (records ++ Outcome outcome ∷ [])
outcomes-and-outcome commands book place records outcome folded are new = outcomes-more commands book place records (Outcome outcome) folded are its-own
  where
    its-own : (other : TheOutcome) (intent : TheIntent) → Outcome outcome ≡ Outcome other → intent_at records other.slot ≡ Some intent → IsOutcomeTrue commands book place (intent_key intent) other
    its-own other intent is found =
        let same : outcome ≡ other = cc in
        subst (λ (o : TheOutcome). IsOutcomeTrue commands book place (intent_key intent) o) same (new intent (subst (λ (o : TheOutcome). intent_at records o.slot ≡ Some intent) (sym same) found))

pub outcomes-and-settled : (commands : List SentCommand) (book : List BookedEntry) (place : ℕ) (records : List Record) (settled : TheSettled) → AreFolded records → AreOutcomesTrue commands book place records
    → AreOutcomesTrue commands book place (records ++ Settled settled ∷ [])
outcomes-and-settled commands book place records settled folded are = outcomes-more commands book place records (Settled settled) folded are (λ outcome other is found. absurd cc)

-- ---- links

-- what is open as one more record comes was open before, or is that record
open-more : (laws : LedgerLaws) (records : List Record) (next : Record) (poi : List ℕ) (slot : ℕ) → open_slot (records ++ next ∷ []) poi ≡ Some slot → (open_slot records poi ≡ Some slot) ⊎ (slot ≡ length records)
open-more laws records next poi slot found = by-test (is_poi poi (poi_of records next)) (sym (ap (λ (a : Account). a.unresolved) (account-more laws records next poi)) ∙ found)
  where
    by-record : (one : Record) → (account_with (length records) one (account_of records poi)).unresolved ≡ Some slot → (open_slot records poi ≡ Some slot) ⊎ (slot ≡ length records)
    by-record (Intent intent) there = inr (sym (same_Some (length records) slot there))
    by-record (Outcome outcome) there = absurd cc
    by-record (Settled settled) there = inl there

    by-test : (b : Bool) → (if b then account_with (length records) next (account_of records poi) else account_of records poi).unresolved ≡ Some slot → (open_slot records poi ≡ Some slot) ⊎ (slot ≡ length records)
    by-test true there = by-record next there
    by-test false there = inl there

-- what is resolved on a link stays so
pub resolved-more : (laws : LedgerLaws) (records : List Record) (next : Record) (link : MadeLink) → link.records ≤ length records → IsResolvedOn records link → IsResolvedOn (records ++ next ∷ []) link
resolved-more laws records next link before resolved slot found = elim (open-more laws records next link.numbering.poi slot found) [
  | inl was ↦ resolved slot was
  | inr last ↦ subst (λ (n : ℕ). link.records ≤ n) (sym last) before
]

-- with none open all is resolved
pub resolved-none : (records : List Record) (link : MadeLink) → open_slot records link.numbering.poi ≡ None → IsResolvedOn records link
resolved-none records link none slot found = let clash : None ≡ Some slot = sym none ∙ found in absurd cc

-- ---- what terminals serve

-- what a terminal of this standing serves is an Intent of the records, where it is a payment or a reversal
abbrev pub HasServedIntent : List Record → Standing → Type 0
HasServedIntent records (Unlinked due) = Unit {0}
HasServedIntent records Registering = Unit {0}
HasServedIntent records Enquiring = Unit {0}
HasServedIntent records (Ready last) = Unit {0}
HasServedIntent records (Serving (Transaction slot) last) = (intent : TheIntent) × (intent_at records slot ≡ Some intent)
HasServedIntent records (Serving (EndOfDay header period) last) = Unit {0}
HasServedIntent records (Serving (Display header outputs) last) = Unit {0}
HasServedIntent records (Aside before reported) = Unit {0}

-- so it is where the records have what the standing says
pub served-intent : (records : List Record) (poi : List ℕ) (standing : Standing) → AreRecordsOf records poi standing → HasServedIntent records standing
served-intent records poi (Unlinked due) has = tt
served-intent records poi Registering has = tt
served-intent records poi Enquiring has = tt
served-intent records poi (Ready last) has = tt
served-intent records poi (Serving (Transaction slot) last) has = by-slot (open_slot records poi) has.is_open
  where
    by-slot : (found : Option ℕ) → option_and_then (entry_at records) found ≡ Some (open_entry_of slot has.intent) → (intent : TheIntent) × (intent_at records slot ≡ Some intent)
    by-slot None there = absurd cc
    by-slot (Some at) there = let parts = entry-parts records at (open_entry_of slot has.intent) there in (has.intent, ap (intent_at records) parts.0 ∙ parts.1)
served-intent records poi (Serving (EndOfDay header period) last) has = tt
served-intent records poi (Serving (Display header outputs) last) has = tt
served-intent records poi (Aside before reported) has = tt

-- what holds of what it serves stays with more records
pub serving-more : (records more : List Record) (commands : List SentCommand) (poi : List ℕ) (standing : Standing) → HasServedIntent records standing → IsServingSound records commands poi standing
    → IsServingSound (records ++ more) commands poi standing
serving-more records more commands poi (Unlinked due) served sound = tt
serving-more records more commands poi Registering served sound = tt
serving-more records more commands poi Enquiring served sound = tt
serving-more records more commands poi (Ready last) served sound = tt
serving-more records more commands poi (Serving (Transaction slot) last) served sound = λ intent found.
    let same : served.0 ≡ intent = same_Some served.0 intent (sym (intent-stays records more slot served.0 served.1) ∙ found) in
    sound intent (served.1 ∙ ap Some same)
serving-more records more commands poi (Serving (EndOfDay header period) last) served sound = tt
serving-more records more commands poi (Serving (Display header outputs) last) served sound = tt
serving-more records more commands poi (Aside before reported) served sound = tt

-- and of the first ones
pub serving-of-first : (records more : List Record) (commands : List SentCommand) (poi : List ℕ) (standing : Standing) → IsServingSound (records ++ more) commands poi standing → IsServingSound records commands poi standing
serving-of-first records more commands poi (Unlinked due) sound = tt
serving-of-first records more commands poi Registering sound = tt
serving-of-first records more commands poi Enquiring sound = tt
serving-of-first records more commands poi (Ready last) sound = tt
serving-of-first records more commands poi (Serving (Transaction slot) last) sound = λ intent found. sound intent (intent-stays records more slot intent found)
serving-of-first records more commands poi (Serving (EndOfDay header period) last) sound = tt
serving-of-first records more commands poi (Serving (Display header outputs) last) sound = tt
serving-of-first records more commands poi (Aside before reported) sound = tt
