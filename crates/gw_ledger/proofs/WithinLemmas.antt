-- Each field of an entry and of what is found lies within its limits.
use Rattle.std.proofs.Common.{◌≡◌, ℕ, List, Option, Some, None, slice_get, refl, subst}
use Rattle.std.specs.Prelude.{IfSome, option_and_then, option_map}
use Rattle.std.proofs.lemmas.Option.{get_or_from_slice_get, slice_get_within}
use Rattle.gw_base.specs.declared.key.Key.{Key}
use Rattle.jrn_record.specs.Limits.{IsIntent, IsOutcome, IsRecord}
use Rattle.jrn_record.specs.declared.records.Intent.{Intent as TheIntent}
use Rattle.jrn_record.specs.declared.records.Outcome.{Outcome as TheOutcome}
use Rattle.jrn_record.specs.declared.records.Record.{Record}
use Rattle.jrn_record.specs.declared.records.Record.TheVariants.{Intent, Outcome, Settled}
use Rattle.gw_ledger.specs.declared.entry.Entry.{Entry as TheEntry}
use Rattle.gw_ledger.specs.declared.entry.Found.{Found}
use Rattle.gw_ledger.specs.declared.entry.Found.TheVariants.{Entry, Closed}
use Rattle.gw_ledger.specs.Fold.{AreFolded, closed_of, found_by, found_of}
use Rattle.gw_ledger.specs.Keys.{slot_of}
use Rattle.gw_ledger.specs.Laws.{IsEntryWithin, IsFoundWithin}
use Rattle.gw_ledger.specs.Slots.{as_intent, as_outcome, ended_at, entry_at, entry_with, intent_at, outcome_at}

module _ (records : List Record) (folded : AreFolded records) where
  -- a record at a slot is one of them
  record_within : (slot : ℕ) (the_record : Record) → slice_get records slot ≡ Some the_record → IsRecord the_record
  record_within slot the_record found =
      subst IsRecord (get_or_from_slice_get records slot the_record the_record found) (folded.within slot the_record (slice_get_within records slot the_record found))

  intent_within : (slot : ℕ) (intent : TheIntent) → intent_at records slot ≡ Some intent → IsIntent intent
  intent_within slot intent found = by_record (slice_get records slot) refl found
    where
      by_record : (the_record : Option Record) → slice_get records slot ≡ the_record → option_and_then as_intent the_record ≡ Some intent → IsIntent intent
      by_record None is same = cc
      by_record (Some (Intent other)) is same = let one : other ≡ intent = cc in subst IsIntent one (record_within slot (Intent other) is)
      by_record (Some (Outcome outcome)) is same = cc
      by_record (Some (Settled settled)) is same = cc

  outcome_within : (slot : ℕ) (outcome : TheOutcome) → outcome_at records slot ≡ Some outcome → IsOutcome outcome
  outcome_within slot outcome found = by_record (slice_get records slot) refl found
    where
      by_record : (the_record : Option Record) → slice_get records slot ≡ the_record → option_and_then as_outcome the_record ≡ Some outcome → IsOutcome outcome
      by_record None is same = cc
      by_record (Some (Intent intent)) is same = cc
      by_record (Some (Outcome other)) is same = let one : other ≡ outcome = cc in subst IsOutcome one (record_within slot (Outcome other) is)
      by_record (Some (Settled settled)) is same = cc

  result_within : (ended : Option ℕ) → IfSome (option_and_then (outcome_at records) ended) IsOutcome
  result_within None = tt
  result_within (Some at) = by_outcome (outcome_at records at) refl
    where
      by_outcome : (outcome : Option TheOutcome) → outcome_at records at ≡ outcome → IfSome outcome IsOutcome
      by_outcome None is = tt
      by_outcome (Some outcome) is = outcome_within at outcome is

  pub entry_within : (slot : ℕ) (entry : TheEntry) → entry_at records slot ≡ Some entry → IsEntryWithin entry
  entry_within slot entry found = by_intent (intent_at records slot) refl found
    where
      by_intent : (asked : Option TheIntent) → intent_at records slot ≡ asked → option_map (entry_with records slot (ended_at records slot)) asked ≡ Some entry → IsEntryWithin entry
      by_intent None is same = cc
      by_intent (Some intent) is same =
          let one : entry_with records slot (ended_at records slot) intent ≡ entry = cc in
          subst IsEntryWithin one (record { intent = intent_within slot intent is; result = result_within (ended_at records slot) })

  found_there : (slot : ℕ) (the_record : Record) → slice_get records slot ≡ Some the_record → (found : Found) → found_by records slot the_record ≡ Some found → IsFoundWithin found
  found_there slot (Intent intent) at found is = by_entry (entry_at records slot) refl is
    where
      by_entry : (entry : Option TheEntry) → entry_at records slot ≡ entry → option_map Entry entry ≡ Some found → IsFoundWithin found
      by_entry None here same = cc
      by_entry (Some entry) here same = let one : Entry entry ≡ found = cc in subst IsFoundWithin one (entry_within slot entry here)
  found_there slot (Outcome outcome) at found is = cc
  found_there slot (Settled settled) at found is =
      let one : Closed (closed_of records slot settled) ≡ found = cc in subst IsFoundWithin one (record_within slot (Settled settled) at)

  pub found_within : (key : Key) (found : Found) → found_of records key ≡ Some found → IsFoundWithin found
  found_within key found is = by_slot (slot_of records key) is
    where
      by_record : (slot : ℕ) (the_record : Option Record) → slice_get records slot ≡ the_record → option_and_then (found_by records slot) the_record ≡ Some found → IsFoundWithin found
      by_record slot None at same = cc
      by_record slot (Some the_record) at same = found_there slot the_record at found same

      by_slot : (slot : Option ℕ) → option_and_then (λ slot. option_and_then (found_by records slot) (slice_get records slot)) slot ≡ Some found → IsFoundWithin found
      by_slot None same = cc
      by_slot (Some slot) same = by_record slot (slice_get records slot) refl same
