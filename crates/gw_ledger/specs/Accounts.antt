-- What the records say of a terminal: its open entry, its last trace number, its last reconciliation.
use Rattle.std.specs.Prelude.{ℕ, suc, nat_lt, max, Bool, false, ◌&&◌, if◌then◌else◌, List, [], ◌∷◌, length, Option, Some, None, option_map}
use Rattle.jrn_record.specs.declared.records.Intent.{Intent as TheIntent}
use Rattle.jrn_record.specs.declared.records.Record.{Record}
use Rattle.jrn_record.specs.declared.records.Record.TheVariants.{Intent, Outcome, Settled}
use Rattle.gw_ledger.specs.declared.account.Account.{Account}
use Rattle.gw_ledger.specs.History.{Placed, history, same_text}
use Rattle.gw_ledger.specs.Slots.{intent_at, is_reversible_intent, ended_at}

-- the terminal of a record; that of an Outcome is its Intent's
abbrev pub poi_of : List Record → Record → Option (List ℕ)
poi_of before (Intent intent) = Some intent.poi
poi_of before (Outcome outcome) = option_map (λ intent. intent.poi) (intent_at before outcome.slot)
poi_of before (Settled settled) = Some settled.poi

-- a terminal is this one
abbrev pub is_poi : List ℕ → Option (List ℕ) → Bool
is_poi poi None = false
is_poi poi (Some other) = same_text poi other

-- a terminal without records
abbrev pub new_account : Account
new_account = record { unresolved = None; trace = 0; settled = 0 }

-- one more record of the terminal, at this slot
abbrev pub account_with : ℕ → Record → Account → Account
account_with at (Intent intent) a = record { unresolved = Some at; trace = max a.trace intent.before; settled = a.settled }
account_with at (Outcome outcome) a = record { unresolved = None; trace = max a.trace outcome.number; settled = a.settled }
account_with at (Settled settled) a = record { unresolved = a.unresolved; trace = a.trace; settled = suc at }

-- a terminal after these records
abbrev pub account_in : List ℕ → List Placed → Account
account_in poi [] = new_account
account_in poi (p ∷ older) =
    if is_poi poi (poi_of p.before p.the_record) then account_with (length p.before) p.the_record (account_in poi older)
    else account_in poi older

-- a terminal after all records
abbrev pub account_of : List Record → List ℕ → Account
account_of records poi = account_in poi (history records)

-- the slot of the terminal's open Intent
abbrev pub open_slot : List Record → List ℕ → Option ℕ
open_slot records poi = let account = account_of records poi in account.unresolved

-- the greatest trace number in the terminal's records, else 0
abbrev pub last_number_of : List Record → List ℕ → ℕ
last_number_of records poi = let account = account_of records poi in account.trace

-- an Outcome's slot is before the terminal's last Settled
abbrev pub is_before_last_settled : List Record → Option TheIntent → Option ℕ → Bool
is_before_last_settled records None ended = false
is_before_last_settled records (Some intent) None = false
is_before_last_settled records (Some intent) (Some ended) =
    let account = account_of records intent.poi in nat_lt ended account.settled

-- what the Intent at this slot asks may be reversed, and a Settled of its terminal comes after its Outcome
abbrev pub is_settled : List Record → ℕ → Bool
is_settled records slot =
    is_reversible_intent (intent_at records slot) && is_before_last_settled records (intent_at records slot) (ended_at records slot)
