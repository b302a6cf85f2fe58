-- The records of a journal beside the books of its terminals: each Intent has a window of trace numbers, and in an honest book an approved entry in it has the Intent's key.
use Rattle.std.specs.Prelude.{◌≡◌, ◌<◌, ◌≤◌, ℕ, Bool, true, false, nat_lt, List, slice_get, Some}
use Rattle.std.specs.List.{list_all}
use Rattle.std.specs.Option.{option_to_list}
use Rattle.jrn_record.specs.declared.records.Intent.{Intent as TheIntent}
use Rattle.jrn_record.specs.declared.records.Outcome.{Outcome as TheOutcome}
use Rattle.jrn_record.specs.declared.records.Record.{Record}
use Rattle.jrn_record.specs.declared.records.Record.TheVariants.{Outcome}
use Rattle.gw_ledger.specs.Fold.{AreFolded}
use Rattle.gw_ledger.specs.Slots.{intent_at}
use Rattle.gw_books.specs.Books.{BookedEntry}
use Rattle.gw_books.specs.Past.{Numbering, numbering_of}
use Rattle.gw_books.specs.RecoveryLaws.{is_as_asked}

-- ---- windows

-- the first Intent of this numbering after the slot
pub record IsNextIntent (records : List Record) (slot : ℕ) (numbering : Numbering) (next : ℕ) (intent : TheIntent) : Type 0 where
  pub intent_is : intent_at records next ≡ Some intent
  pub numbering_is : numbering_of intent ≡ numbering
  pub later : slot < next
  pub first : (between : ℕ) (other : TheIntent) → slot < between → between < next → intent_at records between ≡ Some other → numbering_of other ≡ numbering → ⊥

-- a trace number in the window of the Intent in this slot: above its number before, and at most the number before of the next Intent of its numbering; without a next one the window has no upper end
pub record IsInWindow (records : List Record) (slot : ℕ) (intent : TheIntent) (number : ℕ) : Type 0 where
  pub above : intent.before < number
  pub within : (next : ℕ) (other : TheIntent) → IsNextIntent records slot (numbering_of intent) next other → number ≤ other.before

-- an approved entry of its numbering whose number is in its window
pub record IsApprovedInWindow (records : List Record) (slot : ℕ) (intent : TheIntent) (entry : BookedEntry) : Type 0 where
  pub numbering_is : entry.numbering ≡ numbering_of intent
  pub approved : entry.approved ≡ true
  pub inside : IsInWindow records slot intent entry.number

-- the window of an approved Intent has an entry of its kind, with the numbers and the amount of its Outcome
pub record HasItsEntry (records : List Record) (book : List BookedEntry) (intent : TheIntent) (outcome : TheOutcome) : Type 0 where
  pub at : ℕ
  pub entry : BookedEntry
  pub found : slice_get book at ≡ Some entry
  pub in_window : IsApprovedInWindow records outcome.slot intent entry
  pub kind : is_as_asked intent entry ≡ true
  pub number : entry.number ≡ outcome.number
  pub receipt : entry.receipt ≡ outcome.receipt
  pub amount : entry.amount ≡ outcome.amount

-- the records and the book match; no place and no cause of an entry is read
pub record Matches (records : List Record) (book : List BookedEntry) : Type 0 where
  -- each record is within its limits, and may come after those before it
  pub folded : AreFolded records
  -- trace numbers rise along the entries of one numbering
  pub rises : (first second : ℕ) (one other : BookedEntry) → first < second → slice_get book first ≡ Some one → slice_get book second ≡ Some other → one.numbering ≡ other.numbering → one.number < other.number
  -- each window has at most one approved entry
  pub once : (slot : ℕ) (intent : TheIntent) (first second : ℕ) (one other : BookedEntry) → intent_at records slot ≡ Some intent → slice_get book first ≡ Some one → slice_get book second ≡ Some other
      → IsApprovedInWindow records slot intent one → IsApprovedInWindow records slot intent other → first ≡ second
  -- that of an approved key has its entry
  pub approved : (at : ℕ) (outcome : TheOutcome) (intent : TheIntent) → slice_get records at ≡ Some (Outcome outcome) → intent_at records outcome.slot ≡ Some intent → outcome.approved ≡ true → HasItsEntry records book intent outcome
  -- that of a declined key has none
  pub declined : (at : ℕ) (outcome : TheOutcome) (intent : TheIntent) → slice_get records at ≡ Some (Outcome outcome) → intent_at records outcome.slot ≡ Some intent → outcome.approved ≡ false
      → (booked : ℕ) (entry : BookedEntry) → slice_get book booked ≡ Some entry → IsApprovedInWindow records outcome.slot intent entry → ⊥

-- ---- entries whose command is in the log

-- the entry has no command, or one before this place
abbrev pub is_caused_before : ℕ → BookedEntry → Bool
is_caused_before place entry = list_all (λ cause. nat_lt cause place) (option_to_list entry.cause)
