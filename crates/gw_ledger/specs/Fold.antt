-- The fold of the records: which record may come next, what has a key, and the ledger as plain data.
use Rattle.std.specs.Prelude.{◌≡◌, ℕ, ◌<◌, ◌≤◌, nat_lt, nat_le, ◌==◌, Bool, true, false, ◌&&◌, not, IsTrue, List, [], ◌∷◌, ◌++◌, All, map, length, take, slice_get, Option, Some, None, is_some, option_and_then, option_map}
use Rattle.gw_base.specs.declared.currency.Currency.{Currency}
use Rattle.gw_base.specs.declared.key.Key.{Key}
use Rattle.jrn_record.specs.Limits.{IsRecord}
use Rattle.jrn_record.specs.Grammar.{record_body}
use Rattle.jrn_record.specs.declared.records.Deal.{Deal}
use Rattle.jrn_record.specs.declared.records.Deal.TheVariants.{Payment, Reversal}
use Rattle.jrn_record.specs.declared.records.Intent.{Intent as TheIntent}
use Rattle.jrn_record.specs.declared.records.Outcome.{Outcome as TheOutcome}
use Rattle.jrn_record.specs.declared.records.Settled.{Settled as TheSettled}
use Rattle.jrn_record.specs.declared.records.Record.{Record}
use Rattle.jrn_record.specs.declared.records.Record.TheVariants.{Intent, Outcome, Settled}
use Rattle.gw_ledger.specs.declared.entry.Entry.{Entry as TheEntry}
use Rattle.gw_ledger.specs.declared.entry.Closed.{Closed as TheClosed}
use Rattle.gw_ledger.specs.declared.entry.Found.{Found}
use Rattle.gw_ledger.specs.declared.entry.Found.TheVariants.{Entry, Closed}
use Rattle.gw_ledger.specs.declared.fault.LedgerFault.{LedgerFault}
use Rattle.gw_ledger.specs.declared.fault.LedgerFault.TheVariants.{BadRecord, Memory}
use Rattle.gw_ledger.specs.History.{same_text}
use Rattle.gw_ledger.specs.Slots.{intent_at, entry_at, is_open, is_reversible_intent, is_reversed}
use Rattle.gw_ledger.specs.Keys.{intent_key, settled_key, slot_of, last_slot}
use Rattle.gw_ledger.specs.Accounts.{open_slot, last_number_of, is_settled}
use Rattle.gw_ledger.specs.Sums.{same_currency, totals_of}

-- the key is unknown
abbrev pub is_unknown : List Record → Key → Bool
is_unknown records key = not (is_some (slot_of records key))

-- the Outcome approves this amount
abbrev pub is_approved_with : ℕ → Option TheOutcome → Bool
is_approved_with amount None = false
is_approved_with amount (Some outcome) = outcome.approved && (outcome.amount == amount)

-- the entry is an approved payment at this terminal, in this currency, of this amount
abbrev pub is_approved_payment : List ℕ → Currency → ℕ → Option TheEntry → Bool
is_approved_payment poi currency amount None = false
is_approved_payment poi currency amount (Some entry) =
    is_reversible_intent (Some entry.intent) && same_text poi entry.intent.poi
    && same_currency currency entry.intent.currency && is_approved_with amount entry.result

-- what an Intent refers to may be reversed by it: an approved payment of its terminal, amount and currency that is
-- neither reversed nor settled; a payment refers to nothing
abbrev pub may_reverse : List Record → TheIntent → Option ℕ → Bool
may_reverse records intent None = false
may_reverse records intent (Some slot) =
    is_approved_payment intent.poi intent.currency intent.amount (entry_at records slot)
    && not (is_reversed records slot) && not (is_settled records slot)

-- the Intent is a payment, or a reversal whose original it may reverse
abbrev pub has_fitting_original : List Record → TheIntent → Deal → Bool
has_fitting_original records intent Payment = true
has_fitting_original records intent Reversal = may_reverse records intent intent.original

-- an approved trace number is above the trace number before it
abbrev pub rises : Bool → ℕ → Option TheIntent → Bool
rises approved trace None = false
rises true trace (Some intent) = nat_lt intent.before trace
rises false trace (Some intent) = true

-- the key of an Intent or a Settled is unknown
abbrev pub has_new_key : List Record → Record → Bool
has_new_key records (Intent intent) = is_unknown records (intent_key intent)
has_new_key records (Outcome outcome) = true
has_new_key records (Settled settled) = is_unknown records (settled_key settled)

-- whatever its key, the record may come after these: an Intent's terminal has no open Intent, and its trace number
-- before isn't below the terminal's last one; a reversal has an original that it may reverse; an Outcome is of an open
-- Intent, and an approved one has a greater trace number
abbrev pub fits_beside_key : List Record → Record → Bool
fits_beside_key records (Intent intent) =
    not (is_some (open_slot records intent.poi))
    && nat_le (last_number_of records intent.poi) intent.before && has_fitting_original records intent intent.what
fits_beside_key records (Outcome outcome) =
    is_open records outcome.slot && rises outcome.approved outcome.number (intent_at records outcome.slot)
fits_beside_key records (Settled settled) = true

-- the record may come after these: its key is new, where it has one, and whatever its key it may come
abbrev pub fits : List Record → Record → Bool
fits records the_record = has_new_key records the_record && fits_beside_key records the_record

-- each of the records passes a test after those before it
abbrev pub FitBy : (List Record → Record → Bool) → List Record → List Record → Type 0
FitBy test before [] = Unit {0}
FitBy test before (the_record ∷ rest) = IsTrue (test before the_record) × FitBy test (before ++ the_record ∷ []) rest

-- each of the records may come after those before it
abbrev pub Fit : List Record → List Record → Type 0
Fit = FitBy fits

-- the records that a ledger is the fold of: each within its limits, and each after those before it
pub record AreFolded (records : List Record) : Type 0 where
  pub within : All IsRecord records
  pub fit : Fit [] records

-- Inner: records of which each is within its limits, and each may come after those before it, whatever their keys
pub record AreFoldedBesideKeys (records : List Record) : Type 0 where
  pub within : All IsRecord records
  pub fit : FitBy fits_beside_key [] records

-- the bodies are those of records that are folded
pub record AreBodiesOf (bodies : List (List ℕ)) (records : List Record) : Type 0 where
  pub bodies_are : bodies ≡ map record_body records
  pub folded : AreFolded records

-- the first slot that isn't a record, or a record that may not come after those before it
pub record IsFirstBad (bodies : List (List ℕ)) (slot : ℕ) : Type 0 where
  pub records : List Record
  pub before : AreBodiesOf (take slot bodies) records
  pub inside : slot < length bodies
  pub none_fits : (the_record : Record) → IsRecord the_record → slice_get bodies slot ≡ Some (record_body the_record) → IsTrue (fits records the_record) → ⊥

-- what a refused record has, where it was refused for what it is; without memory nothing
abbrev pub IfBad : (ℕ → Type 0) → LedgerFault → Type 0
IfBad P (BadRecord fault) = P fault.slot
IfBad P Memory = Unit {0}

-- Inner: the body is that of a record, and the records have it
pub record IsBodyAdded (before : List Record) (body : List ℕ) (after : List Record) : Type 0 where
  pub the_record : Record
  pub body_is : body ≡ record_body the_record
  pub after_is : after ≡ before ++ the_record ∷ []

-- Inner: the body is that of no record that may come next, whatever its key
abbrev pub IsRefusedBesideKey : List Record → List ℕ → Type 0
IsRefusedBesideKey before body =
    (the_record : Record) → IsRecord the_record → body ≡ record_body the_record → IsTrue (fits_beside_key before the_record) → ⊥

-- Inner: the records are those of the first bodies, and the next body is that of no record that may come next, whatever its key
pub record AreFirstBodiesOf (bodies : List (List ℕ)) (records : List Record) : Type 0 where
  pub inside : length records ≤ length bodies
  pub bodies_are : map record_body records ≡ take (length records) bodies
  pub refused : (body : List ℕ) → slice_get bodies (length records) ≡ Some body → IsRefusedBesideKey records body

-- a reconciliation, with the totals of the records before it
abbrev pub closed_of : List Record → ℕ → TheSettled → TheClosed
closed_of records slot settled =
    record { slot = slot; settled = settled; totals = totals_of (take slot records) settled.poi settled.currency }

-- what the record at this slot has begun
abbrev pub found_by : List Record → ℕ → Record → Option Found
found_by records slot (Intent intent) = option_map Entry (entry_at records slot)
found_by records slot (Outcome outcome) = None
found_by records slot (Settled settled) = Some (Closed (closed_of records slot settled))

-- what has the key: an entry, open or with its Outcome, or a reconciliation; `None` where it is unknown
abbrev pub found_of : List Record → Key → Option Found
found_of records key =
    option_and_then (λ slot. option_and_then (found_by records slot) (slice_get records slot)) (slot_of records key)

-- the entry of the last Intent of this till at this terminal
abbrev pub last_entry : List Record → List ℕ → List ℕ → Option TheEntry
last_entry records sale poi = option_and_then (entry_at records) (last_slot records sale poi)

-- the open entry of the terminal
abbrev pub open_entry : List Record → List ℕ → Option TheEntry
open_entry records poi = option_and_then (entry_at records) (open_slot records poi)

-- the ledger as contracts see it: the records that it is the fold of, and for how many more it has room
pub record LedgerValue : Type 0 where
  pub records : List Record
  pub spare : ℕ
