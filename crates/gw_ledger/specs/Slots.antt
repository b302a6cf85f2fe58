-- What the records say of a slot: its Intent, where that one's Outcome is, and whether it is reversed.
use Rattle.std.specs.Prelude.{ℕ, ◌==◌, Bool, true, false, ◌&&◌, ◌||◌, if◌then◌else◌, List, [], ◌∷◌, length, Option, Some, None, is_some, not, slice_get, option_and_then, option_map}
use Rattle.jrn_record.specs.declared.records.Deal.{Deal}
use Rattle.jrn_record.specs.declared.records.Deal.TheVariants.{Payment, Reversal}
use Rattle.jrn_record.specs.declared.records.Intent.{Intent as TheIntent}
use Rattle.jrn_record.specs.declared.records.Outcome.{Outcome as TheOutcome}
use Rattle.jrn_record.specs.declared.records.Settled.{Settled as TheSettled}
use Rattle.jrn_record.specs.declared.records.Record.{Record}
use Rattle.jrn_record.specs.declared.records.Record.TheVariants.{Intent, Outcome, Settled}
use Rattle.gw_ledger.specs.declared.entry.Entry.{Entry}
use Rattle.gw_ledger.specs.History.{Placed, history}

-- a record as an Intent
abbrev pub as_intent : Record → Option TheIntent
as_intent (Intent intent) = Some intent
as_intent (Outcome outcome) = None
as_intent (Settled settled) = None

-- a record as an Outcome
abbrev pub as_outcome : Record → Option TheOutcome
as_outcome (Intent intent) = None
as_outcome (Outcome outcome) = Some outcome
as_outcome (Settled settled) = None

-- what is asked may be reversed, once it is approved
abbrev pub is_reversible : Deal → Bool
is_reversible Payment = true
is_reversible Reversal = false

-- the Intent at this slot
abbrev pub intent_at : List Record → ℕ → Option TheIntent
intent_at records slot = option_and_then as_intent (slice_get records slot)

-- the Outcome at this slot
abbrev pub outcome_at : List Record → ℕ → Option TheOutcome
outcome_at records slot = option_and_then as_outcome (slice_get records slot)

-- Inner: a record as a Settled
abbrev pub as_settled : Record → Option TheSettled
as_settled (Intent intent) = None
as_settled (Outcome outcome) = None
as_settled (Settled settled) = Some settled

-- Inner: the Settled at this slot
abbrev pub settled_at : List Record → ℕ → Option TheSettled
settled_at records slot = option_and_then as_settled (slice_get records slot)

-- the record is an Outcome of the Intent at this slot
abbrev pub is_outcome_of : ℕ → Record → Bool
is_outcome_of slot (Intent intent) = false
is_outcome_of slot (Outcome outcome) = outcome.slot == slot
is_outcome_of slot (Settled settled) = false

-- the slot of the newest Outcome for this slot among the records after it
abbrev pub ended_in : ℕ → List Placed → Option ℕ
ended_in slot [] = None
ended_in slot (p ∷ older) =
    if length p.before == slot then None
    else (if is_outcome_of slot p.the_record then Some (length p.before) else ended_in slot older)

-- the slot of the Outcome of the Intent at this slot; `None` where that is open
abbrev pub ended_at : List Record → ℕ → Option ℕ
ended_at records slot = ended_in slot (history records)

-- the entry of an Intent, with its Outcome at this slot
abbrev pub entry_with : List Record → ℕ → Option ℕ → TheIntent → Entry
entry_with records slot ended intent =
    record { slot = slot; intent = intent; result = option_and_then (outcome_at records) ended }

-- the entry whose Intent is at this slot, with its Outcome
abbrev pub entry_at : List Record → ℕ → Option Entry
entry_at records slot = option_map (entry_with records slot (ended_at records slot)) (intent_at records slot)

-- the Intent at this slot has no Outcome
abbrev pub is_open : List Record → ℕ → Bool
is_open records slot = is_some (intent_at records slot) && not (is_some (ended_at records slot))

-- the slot of an original is this one
abbrev pub is_original : ℕ → Option ℕ → Bool
is_original slot None = false
is_original slot (Some original) = original == slot

-- the Intent is a reversal of the one at this slot
abbrev pub is_reversal_of : ℕ → Option TheIntent → Bool
is_reversal_of slot None = false
is_reversal_of slot (Some intent) = is_original slot intent.original

-- the record is the approved Outcome of a reversal of the Intent at this slot
abbrev pub reverses : ℕ → List Record → Record → Bool
reverses slot before (Intent intent) = false
reverses slot before (Outcome outcome) = outcome.approved && is_reversal_of slot (intent_at before outcome.slot)
reverses slot before (Settled settled) = false

-- among the records after this slot is the approved Outcome of a reversal of it
abbrev pub reversed_in : ℕ → List Placed → Bool
reversed_in slot [] = false
reversed_in slot (p ∷ older) =
    if length p.before == slot then false else reverses slot p.before p.the_record || reversed_in slot older

-- there is an Intent, and what it asks may be reversed
abbrev pub is_reversible_intent : Option TheIntent → Bool
is_reversible_intent None = false
is_reversible_intent (Some intent) = is_reversible intent.what

-- what the Intent at this slot asks may be reversed, and an approved reversal has it as its original
abbrev pub is_reversed : List Record → ℕ → Bool
is_reversed records slot = is_reversible_intent (intent_at records slot) && reversed_in slot (history records)
