-- Laws of reversals: what may be reversed, and that a payment is reversed at most once.
use Rattle.std.specs.Prelude.{◌≡◌, ◌↔◌, ◌⊎◌, ℕ, ◌<◌, ◌++◌, true, false, List, [], ◌∷◌, Option, Some, None, slice_get, codes}
use Rattle.jrn_record.specs.declared.records.Deal.TheVariants.{Reversal}
use Rattle.jrn_record.specs.declared.records.Intent.{Intent as TheIntent}
use Rattle.jrn_record.specs.declared.records.Outcome.{Outcome as TheOutcome}
use Rattle.jrn_record.specs.declared.records.Record.{Record}
use Rattle.jrn_record.specs.declared.records.Record.TheVariants.{Outcome}
use Rattle.gw_ledger.specs.declared.entry.Entry.{Entry}
use Rattle.gw_ledger.specs.Example.{approved, day, day_approval, day_decline, day_refusal, day_reversal, undo}
use Rattle.gw_ledger.specs.Fold.{AreFolded, fits}
use Rattle.gw_ledger.specs.Laws.{IsOriginalOf}
use Rattle.gw_ledger.specs.Slots.{entry_at, intent_at, is_reversed}

-- the record at a slot is the approved Outcome of a reversal of this payment
pub record IsReversedAt (records : List Record) (payment at : ℕ) : Type 0 where
  pub outcome : TheOutcome
  pub intent : TheIntent
  pub found : slice_get records at ≡ Some (Outcome outcome)
  pub approved : outcome.approved ≡ true
  pub asked : intent_at records outcome.slot ≡ Some intent
  pub what : intent.what ≡ Reversal
  pub original : intent.original ≡ Some payment

-- a payment is reversed at most once: no two records are approved Outcomes of reversals of it
abbrev pub ReversedOnce : Type 0
ReversedOnce = (records : List Record) → AreFolded records → (payment first second : ℕ)
    → IsReversedAt records payment first → IsReversedAt records payment second → first ≡ second

-- a payment counts as reversed exactly where there is such an Outcome
abbrev pub ReversedIsApproved : Type 0
ReversedIsApproved = (records : List Record) → AreFolded records → (payment : ℕ)
    → (is_reversed records payment ≡ true) ↔ ((at : ℕ) × IsReversedAt records payment at)

-- the entry is one of the records, and a reversal of this payment
pub record IsReversalOf (records : List Record) (payment : ℕ) (entry : Entry) : Type 0 where
  pub kept : entry_at records entry.slot ≡ Some entry
  pub what : entry.intent.what ≡ Reversal
  pub original : entry.intent.original ≡ Some payment

-- there is an Outcome, and it declines
abbrev pub IsDeclined : Option TheOutcome → Type 0
IsDeclined None = ⊥
IsDeclined (Some outcome) = outcome.approved ≡ false

-- of two reversals of a payment one is declined: while one is open, or once one is approved, no other is accepted
abbrev pub OthersAreDeclined : Type 0
OthersAreDeclined = (records : List Record) → AreFolded records → (payment : ℕ) (first second : Entry)
    → IsReversalOf records payment first → IsReversalOf records payment second → (first.slot ≡ second.slot → ⊥)
    → IsDeclined first.result ⊎ IsDeclined second.result

-- what an accepted reversal refers to: an earlier payment that was approved, at its terminal, in its currency, with its whole
-- amount
pub record HasPaidOriginal (records : List Record) (payment : ℕ) (entry : Entry) : Type 0 where
  pub original : Entry
  pub kept : entry_at records payment ≡ Some original
  pub is_original : IsOriginalOf entry.intent original
  pub earlier : payment < entry.slot

-- each accepted reversal has its original
abbrev pub OriginalIsPayment : Type 0
OriginalIsPayment = (records : List Record) → AreFolded records → (payment : ℕ) (entry : Entry)
    → IsReversalOf records payment entry → HasPaidOriginal records payment entry

-- the day, and the reversal of its second payment, which is declined
abbrev pub day_refused : List Record
day_refused = day ++ undo (codes "A") (codes "4") 2 500 125 ∷ day_decline 6 ∷ []

-- and asked once more
abbrev pub day_asked_again : List Record
day_asked_again = day_refused ++ undo (codes "A") (codes "5") 2 500 125 ∷ []

-- and approved
abbrev pub day_undone : List Record
day_undone = day_asked_again ++ approved 8 126 500 ∷ []

-- the reversal that was declined
abbrev pub first_try : Entry
first_try = record { slot = 6; intent = day_reversal (codes "A") (codes "4") 2 500 125; result = Some (day_refusal 6) }

-- the one that is approved
abbrev pub second_try : Entry
second_try = record { slot = 8; intent = day_reversal (codes "A") (codes "5") 2 500 125; result = Some (day_approval 8 126 500) }

-- a payment whose reversal was declined may be reversed, and then is reversed once; its reversals have their original
pub record ExampleReversedOnce : Type 0 where
  pub folded : AreFolded day_undone
  pub once : IsReversedAt day_undone 2 9
  pub reversed : is_reversed day_undone 2 ≡ true
  pub first : IsReversalOf day_undone 2 first_try
  pub second : IsReversalOf day_undone 2 second_try
  pub declined : IsDeclined first_try.result
  pub original : HasPaidOriginal day_undone 2 second_try

-- a second reversal of a payment may not come next: while the first is open, and once it is approved; where that was declined,
-- it may
pub record ExampleSecondReversal : Type 0 where
  pub after_decline : fits day_refused (undo (codes "A") (codes "5") 2 500 125) ≡ true
  pub while_open : fits day_asked_again (undo (codes "A") (codes "6") 2 500 125) ≡ false
  pub after_approval : fits day_undone (undo (codes "A") (codes "6") 2 500 126) ≡ false
