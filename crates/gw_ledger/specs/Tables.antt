-- Inner: the tables by slot and by terminal are the fold of the records, whatever their keys.
use Rattle.std.specs.Prelude.{◌≡◌, ℕ, ◌+◌, ◌*◌, ◌<◌, ◌≤◌, List, length, take, Option, Some, None, IsSome, slice_get, slice_index_or, Vec, vec_len, vec_capacity}
use Rattle.std.specs.Ordering.{nat_cmp, ordering_then}
use Rattle.std.specs.Cmp.Lexicographic.{slice_cmp}
use Rattle.std.specs.declared.cmp.Ordering.{Ordering}
use Rattle.gw_base.specs.declared.currency.Currency.{Currency}
use Rattle.jrn_record.specs.declared.records.Intent.{Intent as TheIntent}
use Rattle.jrn_record.specs.declared.records.Record.{Record}
use Rattle.jrn_record.specs.declared.records.Record.TheVariants.{Settled}
use Rattle.gw_ledger.specs.declared.account.Account.{Account}
use Rattle.gw_ledger.specs.declared.account.Desk.{Desk}
use Rattle.gw_ledger.specs.declared.account.Sums.{Sums}
use Rattle.gw_ledger.specs.declared.tables.Mark.{Mark}
use Rattle.gw_ledger.specs.declared.totals.Tally.{Tally}
use Rattle.gw_ledger.specs.declared.totals.Totals.{Totals}
use Rattle.gw_ledger.specs.Accounts.{account_of, new_account}
use Rattle.gw_ledger.specs.Fold.{AreFoldedBesideKeys}
use Rattle.gw_ledger.specs.History.{history}
use Rattle.gw_ledger.specs.Keys.{last_slot}
use Rattle.gw_ledger.specs.Records.{RecordsValue}
use Rattle.gw_ledger.specs.Slots.{ended_at, intent_at, reversed_in}
use Rattle.gw_ledger.specs.Sums.{ordinal, sums_of, tally_of, totals_of}
use Rattle.gw_ledger.specs.Table.{IsTable, value_at}

-- the order of terminals
abbrev pub poi_cmp : List ℕ → List ℕ → Ordering
poi_cmp = slice_cmp nat_cmp

-- the order of tills and terminals
abbrev pub pair_cmp : List ℕ × List ℕ → List ℕ × List ℕ → Ordering
pair_cmp a b = ordering_then (slice_cmp nat_cmp a.0 b.0) (slice_cmp nat_cmp a.1 b.1)

-- the mark of a slot
abbrev pub mark_of : List Record → ℕ → Mark
mark_of records slot = record { ended = ended_at records slot; reversed = reversed_in slot (history records) }

-- no sums
abbrev pub no_sums : Sums
no_sums = record { debit = (0, 0); reversed = (0, 0) }

-- the account of a terminal that may have no row yet
abbrev pub account_in_row : Option Desk → Account
account_in_row None = new_account
account_in_row (Some desk) = desk.account

-- and its sums in a currency
abbrev pub sums_in_row : Option Desk → Currency → Sums
sums_in_row None currency = no_sums
sums_in_row (Some desk) currency = slice_index_or desk.sums (ordinal currency) no_sums

-- the tables agree with the records
pub record AreTables (records : List Record) (marks : List Mark) (lasts : List ((List ℕ × List ℕ) × ℕ))
    (desks : List (List ℕ × Desk)) (closings : List (ℕ × Totals)) (tally : Tally) : Type 0 where
  pub folded : AreFoldedBesideKeys records
  pub few : length records ≤ 1000000
  pub marks_len : length marks ≡ length records
  pub marks_are : (slot : ℕ) → slot < length records → slice_get marks slot ≡ Some (mark_of records slot)
  pub lasts_table : IsTable pair_cmp lasts
  pub lasts_are : (sale poi : List ℕ) → value_at pair_cmp lasts (sale, poi) ≡ last_slot records sale poi
  pub desks_table : IsTable poi_cmp desks
  pub accounts_are : (poi : List ℕ) → account_in_row (value_at poi_cmp desks poi) ≡ account_of records poi
  pub sums_are : (poi : List ℕ) (currency : Currency) → sums_in_row (value_at poi_cmp desks poi) currency ≡ sums_of records poi currency
  pub asked_have_desks : (slot : ℕ) (intent : TheIntent) → intent_at records slot ≡ Some intent → IsSome (value_at poi_cmp desks intent.poi)
  pub closings_table : IsTable nat_cmp closings
  pub closings_are : (slot : ℕ) (settled : _) → slice_get records slot ≡ Some (Settled settled)
      → value_at nat_cmp closings slot ≡ Some (totals_of (take slot records) settled.poi settled.currency)
  pub tally_is : tally ≡ tally_of records

-- the vectors have room for what is still to come: the Outcomes of the open Intents, and for `spare` more Intents or
-- Settled, with the Outcome of each
pub record HaveRoom {A : Type 0} (records : RecordsValue) (marks : Vec Mark A) (lasts : Vec ((List ℕ × List ℕ) × ℕ) A)
    (desks : Vec (List ℕ × Desk) A) (closings : Vec (ℕ × Totals) A) (unresolved spare : ℕ) : Type 0 where
  pub for_slots : unresolved + 2 * spare ≤ records.slots
  pub for_intents : spare ≤ records.intents
  pub for_outcomes : unresolved + spare ≤ records.outcomes
  pub for_reconciliations : spare ≤ records.reconciliations
  pub for_marks : vec_len marks + unresolved + 2 * spare ≤ vec_capacity marks
  pub for_lasts : vec_len lasts + spare ≤ vec_capacity lasts
  pub for_desks : vec_len desks + spare ≤ vec_capacity desks
  pub for_closings : vec_len closings + spare ≤ vec_capacity closings
