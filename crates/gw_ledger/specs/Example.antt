-- Closed examples of the fold: what each record leaves, and each reason for which a record may not come next.
use Rattle.std.specs.Prelude.{◌≡◌, ℕ, true, false, List, [], ◌∷◌, ◌++◌, Some, None, refl, codes}
use Rattle.std.specs.Prelude.{pos}
use Rattle.std.specs.Fmt.{digits}
use Rattle.gw_base.specs.declared.condition.Condition.TheVariants.{Aborted}
use Rattle.gw_base.specs.declared.currency.Currency.TheVariants.{Eur, Chf}
use Rattle.gw_base.specs.declared.key.Key.{Key}
use Rattle.gw_base.specs.Transaction.{transaction_text}
use Rattle.jrn_record.specs.declared.records.Deal.TheVariants.{Payment, Reversal}
use Rattle.jrn_record.specs.declared.records.How.TheVariants.{Sale}
use Rattle.jrn_record.specs.declared.records.Intent.{Intent as TheIntent}
use Rattle.jrn_record.specs.declared.records.Outcome.{Outcome as TheOutcome}
use Rattle.jrn_record.specs.declared.records.Settled.{Settled as TheSettled}
use Rattle.jrn_record.specs.declared.records.Record.{Record}
use Rattle.jrn_record.specs.declared.records.Record.TheVariants.{Intent, Outcome, Settled}
use Rattle.gw_ledger.specs.Accounts.{is_settled, last_number_of, open_slot}
use Rattle.gw_ledger.specs.declared.entry.Entry.{Entry as TheEntry}
use Rattle.gw_ledger.specs.declared.entry.Found.TheVariants.{Entry, Closed}
use Rattle.gw_ledger.specs.declared.totals.Totals.{Totals}
use Rattle.gw_ledger.specs.Fold.{fits, found_of, last_entry, open_entry}
use Rattle.gw_ledger.specs.History.{history}
use Rattle.gw_ledger.specs.Keys.{last_slot, slot_of}
use Rattle.gw_ledger.specs.Laws.{IsTraceOf}
use Rattle.gw_ledger.specs.Slots.{ended_at, is_reversed}
use Rattle.gw_ledger.specs.Sums.{count_of, units_sum_of, open_count_of, tally_of, totals_of, Debit, ReverseDebit}
use Rattle.gw_ledger.specs.Transaction.{named_of}

-- a payment of till `S` at terminal `poi`
abbrev pub day_payment : List ℕ → List ℕ → ℕ → ℕ → TheIntent
day_payment poi service amount before = record {
  what = Payment;
  sale = codes "S";
  poi = poi;
  service = service;
  transaction = Some (codes "T");
  stamp = Some (codes "now");
  amount = amount;
  currency = Eur;
  before = before;
  original = None;
  moment = pos 0;
}

-- its record
abbrev pub pay : List ℕ → List ℕ → ℕ → ℕ → Record
pay poi service amount before = Intent (day_payment poi service amount before)

-- a reversal of the entry at this slot
abbrev pub day_reversal : List ℕ → List ℕ → ℕ → ℕ → ℕ → TheIntent
day_reversal poi service original amount before = record {
  what = Reversal;
  sale = codes "S";
  poi = poi;
  service = service;
  transaction = None;
  stamp = None;
  amount = amount;
  currency = Eur;
  before = before;
  original = Some original;
  moment = pos 0;
}

-- its record
abbrev pub undo : List ℕ → List ℕ → ℕ → ℕ → ℕ → Record
undo poi service original amount before = Intent (day_reversal poi service original amount before)

-- an approval of the Intent at this slot
abbrev pub day_approval : ℕ → ℕ → ℕ → TheOutcome
day_approval slot trace amount = record {
  approved = true;
  slot = slot;
  number = trace;
  receipt = 17;
  amount = amount;
  condition = None;
  moment = pos 0;
}

-- its record
abbrev pub approved : ℕ → ℕ → ℕ → Record
approved slot trace amount = Outcome (day_approval slot trace amount)

-- a refusal of the Intent at this slot, which was aborted
abbrev pub day_refusal : ℕ → TheOutcome
day_refusal slot = record {
  approved = false;
  slot = slot;
  number = 0;
  receipt = 0;
  amount = 0;
  condition = Some Aborted;
  moment = pos 0;
}

-- its record
abbrev pub day_decline : ℕ → Record
day_decline slot = Outcome (day_refusal slot)

-- a reconciliation of a terminal
abbrev pub reconciliation : List ℕ → List ℕ → TheSettled
reconciliation poi service = record {
  how = Sale;
  sale = codes "S";
  poi = poi;
  service = service;
  currency = Eur;
  moment = pos 0;
}

-- its record
abbrev pub settled : List ℕ → List ℕ → Record
settled poi service = Settled (reconciliation poi service)

-- the key of till `S` at terminal `A` with this ServiceID
abbrev pub key : List ℕ → Key
key service = record { sale = codes "S"; poi = codes "A"; service = service }

-- 10.99 and 5.00 approved, and the first reversed
abbrev pub day : List Record
day =
    pay (codes "A") (codes "1") 1099 0 ∷ approved 0 123 1099
    ∷ pay (codes "A") (codes "2") 500 123 ∷ approved 2 124 500
    ∷ undo (codes "A") (codes "3") 0 1099 124 ∷ approved 4 125 1099 ∷ []

-- the day's second payment
abbrev pub second : TheEntry
second = record { slot = 2; intent = day_payment (codes "A") (codes "2") 500 123; result = Some (day_approval 2 124 500) }

-- the totals of the day are two payments of 15.99 and one reversal of 10.99; those of another terminal are none
example_totals : (count_of day (codes "A") Eur Debit ≡ 2) × (units_sum_of day (codes "A") Eur Debit ≡ 1599)
    × (count_of day (codes "A") Eur ReverseDebit ≡ 1) × (units_sum_of day (codes "A") Eur ReverseDebit ≡ 1099)
    × (count_of day (codes "A") Chf Debit ≡ 0) × (count_of day (codes "B") Eur Debit ≡ 0)
unfolding history
example_totals = (refl, refl, refl, refl, refl, refl)

-- after a reconciliation they begin anew
example_totals_after : (count_of (day ++ settled (codes "A") (codes "4") ∷ []) (codes "A") Eur Debit ≡ 0)
    × (units_sum_of (day ++ settled (codes "B") (codes "4") ∷ []) (codes "A") Eur Debit ≡ 1599)
unfolding history
example_totals_after = (refl, refl)

-- the totals of the day
abbrev day_totals : Totals
day_totals = record { debit = (2, 1599); reversed = (1, 1099); currency = Eur }

-- no totals
abbrev no_totals : Totals
no_totals = record { debit = (0, 0); reversed = (0, 0); currency = Eur }

-- a payment that is asked before a reconciliation and approved after it
abbrev across : List Record
across = day ++ pay (codes "A") (codes "4") 100 125 ∷ settled (codes "A") (codes "5") ∷ approved 6 126 100 ∷ []

-- the whole of the totals: those of the day, none after a reconciliation, and payments by the slots of their Outcomes
example_all_totals : (totals_of day (codes "A") Eur ≡ day_totals)
    × (totals_of (day ++ settled (codes "A") (codes "4") ∷ []) (codes "A") Eur ≡ no_totals)
    × (totals_of (day ++ settled (codes "B") (codes "4") ∷ []) (codes "A") Eur ≡ day_totals)
    × (totals_of across (codes "A") Eur ≡ record { debit = (1, 100); reversed = (0, 0); currency = Eur })
unfolding history
example_all_totals = (refl, refl, refl, refl)

-- a reconciliation has the totals before it, also where a second one follows, which has none
example_closed : (found_of (day ++ settled (codes "A") (codes "4") ∷ []) (key (codes "4"))
    ≡ Some (Closed (record { slot = 6; settled = reconciliation (codes "A") (codes "4"); totals = day_totals })))
    × (found_of (day ++ settled (codes "A") (codes "4") ∷ settled (codes "A") (codes "5") ∷ []) (key (codes "4"))
    ≡ Some (Closed (record { slot = 6; settled = reconciliation (codes "A") (codes "4"); totals = day_totals })))
    × (found_of (day ++ settled (codes "A") (codes "4") ∷ settled (codes "A") (codes "5") ∷ []) (key (codes "5"))
    ≡ Some (Closed (record { slot = 7; settled = reconciliation (codes "A") (codes "5"); totals = no_totals })))
    × (found_of across (key (codes "5"))
    ≡ Some (Closed (record { slot = 7; settled = reconciliation (codes "A") (codes "5"); totals = day_totals })))
unfolding history
example_closed = (refl, refl, refl, refl)

-- an entry by its key: approved, declined, open, unknown
example_found : (found_of day (key (codes "2"))
    ≡ Some (Entry (record { slot = 2; intent = day_payment (codes "A") (codes "2") 500 123; result = Some (day_approval 2 124 500) })))
    × (found_of (day ++ pay (codes "A") (codes "4") 100 125 ∷ day_decline 6 ∷ []) (key (codes "4"))
    ≡ Some (Entry (record { slot = 6; intent = day_payment (codes "A") (codes "4") 100 125; result = Some (day_refusal 6) })))
    × (found_of (day ++ pay (codes "A") (codes "4") 100 125 ∷ []) (key (codes "4"))
    ≡ Some (Entry (record { slot = 6; intent = day_payment (codes "A") (codes "4") 100 125; result = None })))
    × (found_of day (key (codes "4")) ≡ None)
unfolding history
example_found = (refl, refl, refl, refl)

-- the last entry of a till at a terminal, which a reconciliation leaves
example_last : (last_entry day (codes "S") (codes "A")
    ≡ Some (record { slot = 4; intent = day_reversal (codes "A") (codes "3") 0 1099 124; result = Some (day_approval 4 125 1099) }))
    × (last_entry (day ++ settled (codes "A") (codes "4") ∷ []) (codes "S") (codes "A")
    ≡ Some (record { slot = 4; intent = day_reversal (codes "A") (codes "3") 0 1099 124; result = Some (day_approval 4 125 1099) }))
    × (last_entry day (codes "S") (codes "B") ≡ None) × (last_entry day (codes "R") (codes "A") ≡ None)
unfolding history
example_last = (refl, refl, refl, refl)

-- an open entry is that of its terminal alone, until its Outcome
example_open : (open_slot (day ++ pay (codes "A") (codes "4") 100 125 ∷ []) (codes "A") ≡ Some 6)
    × (open_entry (day ++ pay (codes "A") (codes "4") 100 125 ∷ []) (codes "A")
    ≡ Some (record { slot = 6; intent = day_payment (codes "A") (codes "4") 100 125; result = None }))
    × (open_slot (day ++ pay (codes "A") (codes "4") 100 125 ∷ []) (codes "B") ≡ None)
    × (open_slot (day ++ pay (codes "A") (codes "4") 100 125 ∷ day_decline 6 ∷ []) (codes "A") ≡ None)
    × (open_slot (day ++ pay (codes "A") (codes "4") 100 125 ∷ settled (codes "A") (codes "5") ∷ []) (codes "A") ≡ Some 6)
unfolding history
example_open = (refl, refl, refl, refl, refl)

-- how many Intents are open, of all terminals
example_open_count : (open_count_of day ≡ 0)
    × (open_count_of (day ++ pay (codes "A") (codes "4") 100 125 ∷ pay (codes "B") (codes "5") 100 0 ∷ []) ≡ 2)
    × (open_count_of (day ++ pay (codes "A") (codes "4") 100 125 ∷ pay (codes "B") (codes "5") 100 0 ∷ day_decline 6 ∷ []) ≡ 1)
unfolding history
example_open_count = (refl, refl, refl)

-- the tally is of approved payments and reversals alike, and no reconciliation changes it
example_tally :
    (tally_of day ≡ record { accepted = 3; approved = 3; declined = 0; unresolved = 0; sum = 2698 })
    × (tally_of (day ++ settled (codes "A") (codes "4") ∷ []) ≡ record { accepted = 3; approved = 3; declined = 0; unresolved = 0; sum = 2698 })
    × (tally_of (day ++ pay (codes "A") (codes "4") 100 125 ∷ day_decline 6 ∷ pay (codes "A") (codes "5") 100 125 ∷ [])
    ≡ record { accepted = 5; approved = 3; declined = 1; unresolved = 1; sum = 2698 })
unfolding history
example_tally = (refl, refl, refl)

-- each Outcome, the last trace number, and that nothing is open
example_standing : (ended_at day 0 ≡ Some 1) × (ended_at day 4 ≡ Some 5) × (open_slot day (codes "A") ≡ None)
    × (last_number_of day (codes "A") ≡ 125) × (last_number_of day (codes "B") ≡ 0)
    × (last_slot day (codes "S") (codes "A") ≡ Some 4)
    × (slot_of day (record { sale = codes "S"; poi = codes "A"; service = codes "2" }) ≡ Some 2)
    × (slot_of day (record { sale = codes "S"; poi = codes "A"; service = codes "4" }) ≡ None)
unfolding history
example_standing = (refl, refl, refl, refl, refl, refl, refl, refl)

-- the first payment is reversed and the second isn't; both are settled by a reconciliation of their terminal
example_marks : (is_reversed day 0 ≡ true) × (is_reversed day 2 ≡ false) × (is_reversed day 4 ≡ false)
    × (is_settled day 2 ≡ false)
    × (is_settled (day ++ settled (codes "A") (codes "4") ∷ []) 2 ≡ true)
    × (is_settled (day ++ settled (codes "B") (codes "4") ∷ []) 2 ≡ false)
    × (is_settled (day ++ settled (codes "A") (codes "4") ∷ []) 4 ≡ false)
unfolding history
example_marks = (refl, refl, refl, refl, refl, refl, refl)

-- a known key, a second open Intent, a trace number before that is below the last
example_intents : (fits day (pay (codes "A") (codes "4") 100 125) ≡ true) × (fits day (pay (codes "A") (codes "2") 100 125) ≡ false)
    × (fits day (settled (codes "A") (codes "2")) ≡ false)
    × (fits (day ++ pay (codes "A") (codes "4") 100 125 ∷ []) (pay (codes "A") (codes "5") 100 125) ≡ false)
    × (fits (day ++ pay (codes "A") (codes "4") 100 125 ∷ []) (pay (codes "B") (codes "5") 100 0) ≡ true)
    × (fits day (pay (codes "A") (codes "4") 100 124) ≡ false)
unfolding history
example_intents = (refl, refl, refl, refl, refl, refl)

-- a reversal of a reversed payment, of a reversal, of another amount, at another terminal, in another currency, of a settled
-- payment, of a declined one
example_reversals : (fits day (undo (codes "A") (codes "4") 2 500 125) ≡ true)
    × (fits day (undo (codes "A") (codes "4") 0 1099 125) ≡ false)
    × (fits day (undo (codes "A") (codes "4") 4 1099 125) ≡ false)
    × (fits day (undo (codes "A") (codes "4") 2 499 125) ≡ false)
    × (fits day (undo (codes "B") (codes "4") 2 500 125) ≡ false)
    × (fits day (Intent (record (day_reversal (codes "A") (codes "4") 2 500 125) { currency = Chf })) ≡ false)
    × (fits (day ++ settled (codes "A") (codes "4") ∷ []) (undo (codes "A") (codes "5") 2 500 125) ≡ false)
    × (fits (pay (codes "A") (codes "1") 100 0 ∷ day_decline 0 ∷ []) (undo (codes "A") (codes "2") 0 100 0) ≡ false)
unfolding history
example_reversals = (refl, refl, refl, refl, refl, refl, refl, refl)

-- an Outcome without its open Intent, and an approved trace number that isn't above the one before
example_outcomes : (fits [] (day_decline 0) ≡ false) × (fits [] (approved 0 123 1099) ≡ false)
    × (fits day (day_decline 2) ≡ false) × (fits day (day_decline 1) ≡ false) × (fits day (day_decline 6) ≡ false)
    × (fits (day ++ pay (codes "A") (codes "4") 100 125 ∷ []) (day_decline 6) ≡ true)
    × (fits (day ++ pay (codes "A") (codes "4") 100 125 ∷ []) (approved 6 125 100) ≡ false)
    × (fits (day ++ pay (codes "A") (codes "4") 100 125 ∷ []) (approved 6 126 100) ≡ true)
unfolding history
example_outcomes = (refl, refl, refl, refl, refl, refl, refl, refl)

-- the text of the day's second payment names nothing at another terminal
example_named : named_of day (codes "B") (codes "000124-0017-2") ≡ None
unfolding history transaction_text digits
example_named = refl

-- the last trace number of the day's terminal is that of the newest record, its last Outcome; another terminal has none
example_last_number : IsTraceOf day (codes "A") 125 × (last_number_of day (codes "A") ≡ 125) × (last_number_of day (codes "B") ≡ 0)
unfolding history
example_last_number = (record { at = 0; placed = _; found = refl; of_poi = refl; trace_is = refl }, refl, refl)
