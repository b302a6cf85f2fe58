-- Closed examples in which the whole premise of each law holds: a day, and the day with one more payment that is open.
use Rattle.std.specs.Prelude.{◌≡◌, ◌<◌, ◌≤◌, true, false, IsTrue, [], ◌∷◌, ◌++◌, List, length, Some, None, codes}
use Rattle.jrn_record.specs.declared.records.Deal.TheVariants.{Payment}
use Rattle.jrn_record.specs.declared.records.Intent.{Intent as TheIntent}
use Rattle.jrn_record.specs.declared.records.Outcome.{Outcome as TheOutcome}
use Rattle.jrn_record.specs.declared.records.Settled.{Settled as TheSettled}
use Rattle.jrn_record.specs.declared.records.Record.{Record}
use Rattle.jrn_record.specs.declared.records.Record.TheVariants.{Intent, Outcome, Settled}
use Rattle.gw_ledger.specs.declared.entry.Entry.{Entry as TheEntry}
use Rattle.gw_ledger.specs.declared.entry.Found.TheVariants.{Entry}
use Rattle.gw_ledger.specs.Accounts.{is_poi, is_settled, last_number_of, open_slot, poi_of}
use Rattle.gw_ledger.specs.Example.{day_approval, day, key, day_payment, reconciliation, day_reversal, second, settled}
use Rattle.gw_ledger.specs.Fold.{AreFolded, fits, found_of, open_entry}
use Rattle.gw_ledger.specs.Keys.{intent_key, settled_key}
use Rattle.gw_ledger.specs.Laws.{IsEndedPayment, IsEntryWithin, IsOpenAt, IsOriginalOf, IsSettledAfter, count_below}
use Rattle.gw_ledger.specs.Slots.{ended_at, entry_at, intent_at, is_open, is_reversed}
use Rattle.gw_ledger.specs.Sums.{open_count_of}
use Rattle.gw_ledger.specs.Transaction.{is_named, named_of}

-- a payment of 1.00 after the day
abbrev pub fourth : TheIntent
fourth = day_payment (codes "A") (codes "4") 100 125

-- the day with it
abbrev pub day_opened : List Record
day_opened = day ++ Intent fourth ∷ []

-- its entry while it is open
abbrev pub unresolved : TheEntry
unresolved = record { slot = 6; intent = fourth; result = None }

-- its approval
abbrev pub fourth_approval : TheOutcome
fourth_approval = day_approval 6 126 100

-- a reversal of the day's second payment
abbrev pub second_reversal : TheIntent
second_reversal = day_reversal (codes "A") (codes "4") 2 500 125

-- a reconciliation after the day
abbrev pub day_settled : TheSettled
day_settled = reconciliation (codes "A") (codes "4")

-- the day with it
abbrev pub day_closed : List Record
day_closed = day ++ settled (codes "A") (codes "4") ∷ []

-- a payment of another terminal leaves terminal `A`
pub record ExampleOther : Type 0 where
  pub other : is_poi (codes "A") (poi_of day (Intent (day_payment (codes "B") (codes "4") 100 0))) ≡ false

-- one slot is open, and it is the open slot of its terminal
pub record ExampleOpen : Type 0 where
  pub folded : AreFolded day_opened
  pub counted : open_count_of day_opened ≡ 1
  pub slots : count_below (is_open day_opened) (length day_opened) ≡ 1
  pub slot : open_slot day_opened (codes "A") ≡ Some 6
  pub is_open_at : IsOpenAt day_opened (codes "A") 6

-- the day's second payment is settled by the reconciliation after it
pub record ExampleSettledAfter : Type 0 where
  pub intent : intent_at day_closed 2 ≡ Some second.intent
  pub what : second.intent.what ≡ Payment
  pub ended : ended_at day_closed 2 ≡ Some 3
  pub is_settled_after : IsSettledAfter day_closed second.intent.poi 3
  pub settled : is_settled day_closed 2 ≡ true

-- a text that names the day's second payment
pub record ExampleNamed : Type 0 where
  pub few : length day ≤ 1000000
  pub entry : entry_at day 2 ≡ Some second
  pub text : is_named (codes "A") (codes "000124-0017-2") (entry_at day 2) ≡ true
  pub named : named_of day (codes "A") (codes "000124-0017-2") ≡ Some second

-- what is found within the limits
pub record ExampleWithin : Type 0 where
  pub folded : AreFolded day
  pub entry : entry_at day 2 ≡ Some second
  pub found : found_of day (key (codes "2")) ≡ Some (Entry second)
  pub within : IsEntryWithin second

-- a payment that may come next
pub record ExamplePayment : Type 0 where
  pub folded : AreFolded day
  pub what : fourth.what ≡ Payment
  pub unknown : found_of day (intent_key fourth) ≡ None
  pub none_open : open_entry day fourth.poi ≡ None
  pub not_below : last_number_of day fourth.poi ≤ fourth.before
  pub may_come : IsTrue (fits day (Intent fourth))

-- its approval
pub record ExampleOutcome : Type 0 where
  pub folded : AreFolded day_opened
  pub entry : open_entry day_opened (codes "A") ≡ Some unresolved
  pub slot : fourth_approval.slot ≡ unresolved.slot
  pub above : fourth_approval.approved ≡ true → unresolved.intent.before < fourth_approval.number
  pub may_come : IsTrue (fits day_opened (Outcome fourth_approval))

-- a reversal that may come next
pub record ExampleReversal : Type 0 where
  pub folded : AreFolded day
  pub original : second_reversal.original ≡ Some 2
  pub unknown : found_of day (intent_key second_reversal) ≡ None
  pub none_open : open_entry day second_reversal.poi ≡ None
  pub not_below : last_number_of day second_reversal.poi ≤ second_reversal.before
  pub entry : entry_at day 2 ≡ Some second
  pub is_original : IsOriginalOf second_reversal second
  pub not_reversed : is_reversed day 2 ≡ false
  pub not_settled : is_settled day 2 ≡ false
  pub may_come : IsTrue (fits day (Intent second_reversal))

-- a reconciliation that may come next
pub record ExampleReconciliation : Type 0 where
  pub folded : AreFolded day
  pub unknown : found_of day (settled_key day_settled) ≡ None
  pub may_come : IsTrue (fits day (Settled day_settled))

-- a reconciliation after the day: it settles the day's second payment, and leaves terminal `B` and the key of that payment
pub record ExampleSettling : Type 0 where
  pub may_come : IsTrue (fits day (Settled day_settled))
  pub other_poi : codes "B" ≡ day_settled.poi → ⊥
  pub other_key : key (codes "2") ≡ settled_key day_settled → ⊥
  pub ended : IsEndedPayment day day_settled.poi second
  pub settled : is_settled (day ++ Settled day_settled ∷ []) 2 ≡ true
