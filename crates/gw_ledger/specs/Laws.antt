-- Laws of the fold of the records.
use Rattle.std.specs.Prelude.{◌≡◌, ◌↔◌, ◌⊎◌, slice_get, ℕ, zero, suc, ◌+◌, ◌<◌, ◌≤◌, Bool, true, IsTrue, List, [], ◌∷◌, ◌++◌, length, Option, Some, None, IfSome, IsSome, false, option_map}
use Rattle.gw_base.specs.declared.currency.Currency.{Currency}
use Rattle.gw_base.specs.declared.key.Key.{Key}
use Rattle.jrn_record.specs.Limits.{IsIntent, IsOutcome, IsSettled}
use Rattle.jrn_record.specs.declared.records.Deal.TheVariants.{Payment}
use Rattle.jrn_record.specs.declared.records.Intent.{Intent as TheIntent}
use Rattle.jrn_record.specs.declared.records.Outcome.{Outcome as TheOutcome}
use Rattle.jrn_record.specs.declared.records.Settled.{Settled as TheSettled}
use Rattle.jrn_record.specs.declared.records.Record.{Record}
use Rattle.jrn_record.specs.declared.records.Record.TheVariants.{Intent, Outcome, Settled}
use Rattle.gw_ledger.specs.declared.entry.Entry.{Entry}
use Rattle.gw_ledger.specs.declared.entry.Found.{Found}
use Rattle.gw_ledger.specs.declared.entry.Found.TheVariants.{Entry as FoundEntry, Closed as FoundClosed}
use Rattle.gw_ledger.specs.Accounts.{is_poi, is_settled, last_number_of, open_slot, poi_of}
use Rattle.gw_ledger.specs.Fold.{AreFolded, fits, found_of, may_reverse, open_entry}
use Rattle.gw_ledger.specs.History.{Placed, history}
use Rattle.gw_ledger.specs.Keys.{intent_key, settled_key}
use Rattle.gw_ledger.specs.Slots.{ended_at, entry_at, intent_at, is_open, is_reversed}
use Rattle.gw_ledger.specs.Sums.{one_if, open_count_of, totals_of}
use Rattle.gw_ledger.specs.Transaction.{is_named, named_of}

-- one more record is the newest, after all the others
abbrev pub NewestIsFirst : Type 0
NewestIsFirst = (records : List Record) (next : Record)
    → history (records ++ next ∷ []) ≡ record { before = records; the_record = next } ∷ history records

-- a record of another terminal leaves a terminal's open slot and its last trace number
abbrev pub OthersLeaveTerminal : Type 0
OthersLeaveTerminal = (records : List Record) (next : Record) (poi : List ℕ) → is_poi poi (poi_of records next) ≡ false
    → (open_slot (records ++ next ∷ []) poi ≡ open_slot records poi)
    × (last_number_of (records ++ next ∷ []) poi ≡ last_number_of records poi)

-- how many numbers below n pass a test
abbrev pub count_below : (ℕ → Bool) → ℕ → ℕ
count_below test zero = 0
count_below test (suc n) = count_below test n + one_if (test n)

-- the trace number in a record: an Intent's trace number before, or an Outcome's own
abbrev pub trace_in : Record → ℕ
trace_in (Intent intent) = intent.before
trace_in (Outcome outcome) = outcome.number
trace_in (Settled settled) = 0

-- the record is one of this terminal
abbrev pub is_of_poi : List ℕ → Placed → Bool
is_of_poi poi p = is_poi poi (poi_of p.before p.the_record)

-- one of the terminal's records has this trace number
pub record IsTraceOf (records : List Record) (poi : List ℕ) (trace : ℕ) : Type 0 where
  pub at : ℕ
  pub placed : Placed
  pub found : slice_get (history records) at ≡ Some placed
  pub of_poi : is_of_poi poi placed ≡ true
  pub trace_is : trace_in placed.the_record ≡ trace

-- a terminal's last trace number is at least that of each of its records, and one of them has it, or it is 0
abbrev pub LastNumberIsGreatest : Type 0
LastNumberIsGreatest = (records : List Record) (poi : List ℕ)
    → ((at : ℕ) (p : Placed) → slice_get (history records) at ≡ Some p → is_of_poi poi p ≡ true → trace_in p.the_record ≤ last_number_of records poi)
    × ((last_number_of records poi ≡ 0) ⊎ IsTraceOf records poi (last_number_of records poi))

-- a Settled of this terminal is at a slot after this one
pub record IsSettledAfter (records : List Record) (poi : List ℕ) (slot : ℕ) : Type 0 where
  pub at : ℕ
  pub settled : TheSettled
  pub found : slice_get records at ≡ Some (Settled settled)
  pub poi_is : settled.poi ≡ poi
  pub after : slot < at

-- a payment that has its Outcome is settled where a Settled of its terminal comes after that
abbrev pub SettledIsAfter : Type 0
SettledIsAfter = (records : List Record) (slot ended : ℕ) (intent : TheIntent) → intent_at records slot ≡ Some intent → intent.what ≡ Payment
    → ended_at records slot ≡ Some ended → (is_settled records slot ≡ true) ↔ IsSettledAfter records intent.poi ended

-- the count of open Intents is the number of slots that are open
abbrev pub CountIsOfOpenSlots : Type 0
CountIsOfOpenSlots = (records : List Record) → AreFolded records
    → open_count_of records ≡ count_below (is_open records) (length records)

-- the terminal of the Intent at this slot
abbrev pub poi_at : List Record → ℕ → Option (List ℕ)
poi_at records slot = option_map (λ intent. intent.poi) (intent_at records slot)

-- the slot is open, and its Intent is one of this terminal
abbrev pub IsOpenAt : List Record → List ℕ → ℕ → Type 0
IsOpenAt records poi slot = (is_open records slot ≡ true) × (is_poi poi (poi_at records slot) ≡ true)

-- the open slot of a terminal is the one slot that is open and has an Intent of that terminal
abbrev pub OpenSlotIsOpen : Type 0
OpenSlotIsOpen = (records : List Record) → AreFolded records → (poi : List ℕ) (slot : ℕ)
    → (open_slot records poi ≡ Some slot) ↔ IsOpenAt records poi slot

-- a text names one entry at a terminal
abbrev pub TextNamesOne : Type 0
TextNamesOne = (records : List Record) → length records ≤ 1000000 → (poi text : List ℕ) (slot : ℕ)
    → is_named poi text (entry_at records slot) ≡ true → named_of records poi text ≡ entry_at records slot

-- what a text names at a terminal is an entry of that terminal, at its slot, with its Outcome, and has this text
abbrev pub NamedIsEntry : Type 0
NamedIsEntry = (records : List Record) (poi text : List ℕ) (entry : Entry) → named_of records poi text ≡ Some entry
    → (entry_at records entry.slot ≡ Some entry) × (is_named poi text (Some entry) ≡ true)

-- each field of an entry's records lies within its limits
pub record IsEntryWithin (entry : Entry) : Type 0 where
  pub intent : IsIntent entry.intent
  pub result : IfSome entry.result IsOutcome

-- each field of what is found lies within its limits
abbrev pub IsFoundWithin : Found → Type 0
IsFoundWithin (FoundEntry entry) = IsEntryWithin entry
IsFoundWithin (FoundClosed closed) = IsSettled closed.settled

-- each field of the records of an entry, and of what is found under a key, lies within its limits
abbrev pub EntriesAreWithin : Type 0
EntriesAreWithin = (records : List Record) → AreFolded records
    → ((slot : ℕ) (entry : Entry) → entry_at records slot ≡ Some entry → IsEntryWithin entry)
    × ((key : Key) (found : Found) → found_of records key ≡ Some found → IsFoundWithin found)

-- a payment may come next where its key is unknown, its terminal has no open entry, and its trace number before isn't below
-- the terminal's last one
abbrev pub PaymentFits : Type 0
PaymentFits = (records : List Record) → AreFolded records → (intent : TheIntent) → intent.what ≡ Payment
    → found_of records (intent_key intent) ≡ None → open_entry records intent.poi ≡ None
    → last_number_of records intent.poi ≤ intent.before → IsTrue (fits records (Intent intent))

-- an Outcome may come next where it is that of a terminal's open entry, and its trace number is above the one before
-- where it approves
abbrev pub OutcomeFits : Type 0
OutcomeFits = (records : List Record) → AreFolded records → (poi : List ℕ) (entry : Entry) (outcome : TheOutcome)
    → open_entry records poi ≡ Some entry → outcome.slot ≡ entry.slot
    → (outcome.approved ≡ true → entry.intent.before < outcome.number) → IsTrue (fits records (Outcome outcome))

-- there is an Outcome, and it approves this amount
abbrev pub HasApproval : ℕ → Option TheOutcome → Type 0
HasApproval amount None = ⊥
HasApproval amount (Some outcome) = (outcome.approved ≡ true) × (outcome.amount ≡ amount)

-- the entry is a payment that the Intent may reverse: an approved one of its terminal, its currency and its amount
pub record IsOriginalOf (intent : TheIntent) (entry : Entry) : Type 0 where
  pub what : entry.intent.what ≡ Payment
  pub poi : entry.intent.poi ≡ intent.poi
  pub currency : entry.intent.currency ≡ intent.currency
  pub approved : HasApproval intent.amount entry.result

-- a reversal may come next where its key is unknown, its terminal has no open entry, its trace number before isn't below the
-- terminal's last one, and its original is a payment that it may reverse, which is neither reversed nor settled
abbrev pub ReversalFits : Type 0
ReversalFits = (records : List Record) → AreFolded records → (intent : TheIntent) (slot : ℕ) (entry : Entry)
    → intent.original ≡ Some slot → found_of records (intent_key intent) ≡ None → open_entry records intent.poi ≡ None
    → last_number_of records intent.poi ≤ intent.before → entry_at records slot ≡ Some entry → IsOriginalOf intent entry
    → is_reversed records slot ≡ false → is_settled records slot ≡ false → IsTrue (fits records (Intent intent))

-- a reconciliation may come next where its key is unknown
abbrev pub SettledFits : Type 0
SettledFits = (records : List Record) → AreFolded records → (settled : TheSettled) → found_of records (settled_key settled) ≡ None
    → IsTrue (fits records (Settled settled))

-- after a Settled its key has the reconciliation, with the totals of its terminal before it
abbrev pub SettledIsFound : Type 0
SettledIsFound = (records : List Record) (settled : TheSettled)
    → found_of (records ++ Settled settled ∷ []) (settled_key settled)
    ≡ Some (FoundClosed (record { slot = length records; settled = settled; totals = totals_of records settled.poi settled.currency }))

-- after it the totals of its terminal are none, in every currency
abbrev pub TotalsBeginAnew : Type 0
TotalsBeginAnew = (records : List Record) (settled : TheSettled) (currency : Currency)
    → totals_of (records ++ Settled settled ∷ []) settled.poi currency ≡ record { debit = (0, 0); reversed = (0, 0); currency = currency }

-- the totals of another terminal are as before
abbrev pub OtherTotalsStay : Type 0
OtherTotalsStay = (records : List Record) (settled : TheSettled) (poi : List ℕ) → (poi ≡ settled.poi → ⊥) → (currency : Currency)
    → totals_of (records ++ Settled settled ∷ []) poi currency ≡ totals_of records poi currency

-- another key has what it had
abbrev pub OtherKeysStay : Type 0
OtherKeysStay = (records : List Record) (settled : TheSettled) (key : Key) → (key ≡ settled_key settled → ⊥)
    → found_of (records ++ Settled settled ∷ []) key ≡ found_of records key

-- each entry is as before
abbrev pub EntriesStay : Type 0
EntriesStay = (records : List Record) (settled : TheSettled) (slot : ℕ)
    → entry_at (records ++ Settled settled ∷ []) slot ≡ entry_at records slot

-- both have the same open entries and the same last trace numbers
pub record HaveSameOpen (before after : List Record) : Type 0 where
  pub entries : (poi : List ℕ) → open_entry after poi ≡ open_entry before poi
  pub traces : (poi : List ℕ) → last_number_of after poi ≡ last_number_of before poi
  pub count : open_count_of after ≡ open_count_of before

-- a Settled leaves what is open, and the last trace numbers
abbrev pub OpenStays : Type 0
OpenStays = (records : List Record) (settled : TheSettled) → HaveSameOpen records (records ++ Settled settled ∷ [])

-- the entry is one of the records: a payment of this terminal that has its Outcome
pub record IsEndedPayment (records : List Record) (poi : List ℕ) (entry : Entry) : Type 0 where
  pub kept : entry_at records entry.slot ≡ Some entry
  pub what : entry.intent.what ≡ Payment
  pub poi_is : entry.intent.poi ≡ poi
  pub ended : IsSome entry.result

-- after a Settled each payment of its terminal that has its Outcome is settled, and no Intent may reverse it
abbrev pub PaymentsAreSettled : Type 0
PaymentsAreSettled = (records : List Record) (settled : TheSettled) (entry : Entry) → IsEndedPayment records settled.poi entry
    → (is_settled (records ++ Settled settled ∷ []) entry.slot ≡ true)
    × ((intent : TheIntent) → may_reverse (records ++ Settled settled ∷ []) intent (Some entry.slot) ≡ false)
