-- Counts and sums over the records: the totals since the last reconciliation, and the tally of all.
use Rattle.std.specs.Prelude.{ℕ, ◌+◌, ◌-◌, ◌==◌, Bool, true, false, ◌&&◌, not, if◌then◌else◌, List, [], ◌∷◌, Option, Some, None}
use Rattle.gw_base.specs.declared.currency.Currency.{Currency}
use Rattle.gw_base.specs.declared.currency.Currency.TheVariants.{Eur, Chf, Gbp, Usd, Dkk, Sek, Nok, Pln, Czk}
use Rattle.jrn_record.specs.declared.records.Deal.{Deal}
use Rattle.jrn_record.specs.declared.records.Deal.TheVariants.{Payment, Reversal}
use Rattle.jrn_record.specs.declared.records.Intent.{Intent as TheIntent}
use Rattle.jrn_record.specs.declared.records.Record.{Record}
use Rattle.jrn_record.specs.declared.records.Record.TheVariants.{Intent, Outcome, Settled}
use Rattle.gw_ledger.specs.declared.totals.Tally.{Tally}
use Rattle.gw_ledger.specs.declared.account.Sums.{Sums}
use Rattle.gw_ledger.specs.declared.totals.Totals.{Totals}
use Rattle.gw_ledger.specs.History.{Placed, history, same_text}
use Rattle.gw_ledger.specs.Slots.{intent_at}

-- a figure of each record, which may depend on those before it, added up
abbrev pub sum_over : (List Record → Record → ℕ) → List Placed → ℕ
sum_over figure [] = 0
sum_over figure (p ∷ older) = sum_over figure older + figure p.before p.the_record

-- 1 for a thing that is so, and 0 for one that isn't
abbrev pub one_if : Bool → ℕ
one_if true = 1
one_if false = 0

-- the record is a Settled of this terminal
abbrev pub settles : List ℕ → Record → Bool
settles poi (Intent intent) = false
settles poi (Outcome outcome) = false
settles poi (Settled settled) = same_text poi settled.poi

-- the records after the terminal's last Settled
abbrev pub unsettled : List ℕ → List Placed → List Placed
unsettled poi [] = []
unsettled poi (p ∷ older) = if settles poi p.the_record then [] else p ∷ unsettled poi older

-- a currency's index among the currencies
abbrev pub ordinal : Currency → ℕ
ordinal Eur = 0
ordinal Chf = 1
ordinal Gbp = 2
ordinal Usd = 3
ordinal Dkk = 4
ordinal Sek = 5
ordinal Nok = 6
ordinal Pln = 7
ordinal Czk = 8

-- two currencies are the same
abbrev pub same_currency : Currency → Currency → Bool
same_currency a b = ordinal a == ordinal b

-- the totals of a terminal, each by its `TransactionType` of nexo
pub data TotalType : Type 0 where
  Debit : TotalType
  ReverseDebit : TotalType

-- what is asked counts in this total, once it is approved
abbrev pub counts_in : TotalType → Deal → Bool
counts_in Debit Payment = true
counts_in Debit Reversal = false
counts_in ReverseDebit Payment = false
counts_in ReverseDebit Reversal = true

-- the Intent is of this terminal and currency, and counts in this total
abbrev pub is_of : List ℕ → Currency → TotalType → Option TheIntent → Bool
is_of poi currency total None = false
is_of poi currency total (Some intent) =
    same_text poi intent.poi && same_currency currency intent.currency && counts_in total intent.what

-- the record is the approved Outcome of such an Intent
abbrev pub approves : List ℕ → Currency → TotalType → List Record → Record → Bool
approves poi currency total before (Intent intent) = false
approves poi currency total before (Outcome outcome) =
    outcome.approved && is_of poi currency total (intent_at before outcome.slot)
approves poi currency total before (Settled settled) = false

-- the minor units of an Outcome
abbrev pub units_in : Record → ℕ
units_in (Intent intent) = 0
units_in (Outcome outcome) = outcome.amount
units_in (Settled settled) = 0

-- how many that count in this total were approved since the terminal's last Settled, in this currency
abbrev pub count_of : List Record → List ℕ → Currency → TotalType → ℕ
count_of records poi currency total =
    sum_over (λ before the_record. one_if (approves poi currency total before the_record)) (unsettled poi (history records))

-- and their minor units
abbrev pub units_sum_of : List Record → List ℕ → Currency → TotalType → ℕ
units_sum_of records poi currency total =
    sum_over (λ before the_record. if approves poi currency total before the_record then units_in the_record else 0)
    (unsettled poi (history records))

-- the counts and sums of payments and of reversals
abbrev pub sums_of : List Record → List ℕ → Currency → Sums
sums_of records poi currency = record {
  debit = (count_of records poi currency Debit, units_sum_of records poi currency Debit);
  reversed = (count_of records poi currency ReverseDebit, units_sum_of records poi currency ReverseDebit);
}

-- in this currency
abbrev pub totals_with : Currency → Sums → Totals
totals_with currency sums = record { debit = sums.debit; reversed = sums.reversed; currency = currency }

-- the totals of a terminal since its last Settled, in this currency
abbrev pub totals_of : List Record → List ℕ → Currency → Totals
totals_of records poi currency = totals_with currency (sums_of records poi currency)

-- the record is an Intent
abbrev pub is_intent : Record → Bool
is_intent (Intent intent) = true
is_intent (Outcome outcome) = false
is_intent (Settled settled) = false

-- the record is an approved Outcome
abbrev pub is_approval : Record → Bool
is_approval (Intent intent) = false
is_approval (Outcome outcome) = outcome.approved
is_approval (Settled settled) = false

-- the record is a declined Outcome
abbrev pub is_decline : Record → Bool
is_decline (Intent intent) = false
is_decline (Outcome outcome) = not outcome.approved
is_decline (Settled settled) = false

-- how many records there are of a kind
abbrev pub count_all : List Record → (Record → Bool) → ℕ
count_all records test = sum_over (λ before the_record. one_if (test the_record)) (history records)

-- one more open Intent after an Intent, one fewer after an Outcome
abbrev pub open_with : Record → ℕ → ℕ
open_with (Intent intent) count = count + 1
open_with (Outcome outcome) count = count - 1
open_with (Settled settled) count = count

-- how many Intents are open: one more with each Intent, one fewer with each Outcome
abbrev pub open_in : List Placed → ℕ
open_in [] = 0
open_in (p ∷ older) = open_with p.the_record (open_in older)

-- how many Intents of all records are open
abbrev pub open_count_of : List Record → ℕ
open_count_of records = open_in (history records)

-- the Intents, the approved and declined entries, those that are open, and the minor units of the approved ones
abbrev pub tally_of : List Record → Tally
tally_of records = record {
  accepted = count_all records is_intent;
  approved = count_all records is_approval;
  declined = count_all records is_decline;
  unresolved = open_count_of records;
  sum = sum_over (λ before the_record. if is_approval the_record then units_in the_record else 0) (history records);
}
