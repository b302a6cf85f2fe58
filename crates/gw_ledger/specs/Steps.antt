-- Inner: what an Outcome changes in the tables.
use Rattle.std.specs.Prelude.{ℕ, zero, suc, ◌+◌, ◌-◌, ◌<◌, Bool, true, false, ◌&&◌, if◌then◌else◌, List, [], ◌∷◌, Option, Some, None}
use Rattle.gw_base.specs.declared.currency.Currency.{Currency}
use Rattle.jrn_record.specs.declared.records.Deal.{Deal}
use Rattle.jrn_record.specs.declared.records.Deal.TheVariants.{Payment, Reversal}
use Rattle.jrn_record.specs.declared.records.Intent.{Intent as TheIntent}
use Rattle.jrn_record.specs.declared.records.Outcome.{Outcome as TheOutcome}
use Rattle.gw_ledger.specs.declared.account.Sums.{Sums}
use Rattle.gw_ledger.specs.declared.tables.Mark.{Mark}
use Rattle.gw_ledger.specs.declared.totals.Tally.{Tally}
use Rattle.gw_ledger.specs.Sums.{same_currency}

-- the mark at a slot, changed
abbrev pub changed_at : (Mark → Mark) → ℕ → List Mark → List Mark
changed_at change slot [] = []
changed_at change zero (mark ∷ marks) = change mark ∷ marks
changed_at change (suc slot) (mark ∷ marks) = mark ∷ changed_at change slot marks

-- the mark of an Intent whose Outcome is at this slot
abbrev pub ended_mark : ℕ → Mark → Mark
ended_mark at mark = record { ended = Some at; reversed = mark.reversed }

-- the mark of a reversed Intent
abbrev pub reversed_mark : Mark → Mark
reversed_mark mark = record { ended = mark.ended; reversed = true }

-- the marks with that of an original, where there is one
abbrev pub marks_reversed : Bool → Option ℕ → List Mark → List Mark
marks_reversed false original marks = marks
marks_reversed true None marks = marks
marks_reversed true (Some original) marks = changed_at reversed_mark original marks

-- the marks of the slots before an Outcome at this slot
abbrev pub marks_with : TheOutcome → Option ℕ → ℕ → List Mark → List Mark
marks_with outcome original at marks = marks_reversed outcome.approved original (changed_at (ended_mark at) outcome.slot marks)

-- one more approved payment or reversal
abbrev pub sums_added : Deal → ℕ → Sums → Sums
sums_added Payment amount sums = record { debit = (sums.debit.0 + 1, sums.debit.1 + amount); reversed = sums.reversed }
sums_added Reversal amount sums = record { debit = sums.debit; reversed = (sums.reversed.0 + 1, sums.reversed.1 + amount) }

-- the sums of a currency after an Outcome of this Intent
abbrev pub sums_with : TheIntent → TheOutcome → Currency → Sums → Sums
sums_with intent outcome currency sums =
    if outcome.approved && same_currency currency intent.currency then sums_added intent.what outcome.amount sums else sums

-- the tally after an Outcome
abbrev pub tally_with : TheOutcome → Tally → Tally
tally_with outcome tally =
    if outcome.approved
    then record { accepted = tally.accepted; approved = tally.approved + 1; declined = tally.declined; unresolved = tally.unresolved - 1; sum = tally.sum + outcome.amount }
    else record { accepted = tally.accepted; approved = tally.approved; declined = tally.declined + 1; unresolved = tally.unresolved - 1; sum = tally.sum }

-- one more approval of this amount keeps the counts below 2^32 and the sums below 2^64
pub record HasRoomFor (amount : ℕ) (sums : Sums) : Type 0 where
  pub debits : sums.debit.0 + 1 < 4294967296
  pub debited : sums.debit.1 + amount < 18446744073709551616
  pub reversals : sums.reversed.0 + 1 < 4294967296
  pub undone : sums.reversed.1 + amount < 18446744073709551616
