-- Where the records have a key, and the last Intent of a till at a terminal.
use Rattle.std.specs.Prelude.{ℕ, Bool, false, ◌&&◌, if◌then◌else◌, List, [], ◌∷◌, length, Option, Some, None, slice_get, option_and_then}
use Rattle.std.specs.Ordering.{is_eq}
use Rattle.gw_base.specs.declared.key.Key.{Key}
use Rattle.gw_base.specs.Key.{key_cmp}
use Rattle.jrn_record.specs.declared.records.Intent.{Intent as TheIntent}
use Rattle.jrn_record.specs.declared.records.Settled.{Settled as TheSettled}
use Rattle.jrn_record.specs.declared.records.Record.{Record}
use Rattle.jrn_record.specs.declared.records.Record.TheVariants.{Intent, Outcome, Settled}
use Rattle.gw_ledger.specs.History.{Placed, history, same_text}

-- the key of an Intent
abbrev pub intent_key : TheIntent → Key
intent_key intent = record { sale = intent.sale; poi = intent.poi; service = intent.service }

-- the key of a Settled
abbrev pub settled_key : TheSettled → Key
settled_key settled = record { sale = settled.sale; poi = settled.poi; service = settled.service }

-- the key of a record; an Outcome has none of its own
abbrev pub record_key : Record → Option Key
record_key (Intent intent) = Some (intent_key intent)
record_key (Outcome outcome) = None
record_key (Settled settled) = Some (settled_key settled)

-- two keys are the same
abbrev pub same_key : Key → Key → Bool
same_key a b = is_eq (key_cmp a b)

-- a key is this one
abbrev pub is_key : Key → Option Key → Bool
is_key key None = false
is_key key (Some other) = same_key key other

-- Inner: the key of the record at this slot
abbrev pub key_at : List Record → ℕ → Option Key
key_at records slot = option_and_then record_key (slice_get records slot)

-- the slot of the newest record that has the key
abbrev pub slot_in : Key → List Placed → Option ℕ
slot_in key [] = None
slot_in key (p ∷ older) = if is_key key (record_key p.the_record) then Some (length p.before) else slot_in key older

-- the slot of the Intent or Settled that has the key; `None` where the key is unknown
abbrev pub slot_of : List Record → Key → Option ℕ
slot_of records key = slot_in key (history records)

-- the record is an Intent of this till at this terminal
abbrev pub is_asked_by : List ℕ → List ℕ → Record → Bool
is_asked_by sale poi (Intent intent) = same_text sale intent.sale && same_text poi intent.poi
is_asked_by sale poi (Outcome outcome) = false
is_asked_by sale poi (Settled settled) = false

-- the slot of the newest Intent of a till at a terminal
abbrev pub last_in : List ℕ → List ℕ → List Placed → Option ℕ
last_in sale poi [] = None
last_in sale poi (p ∷ older) = if is_asked_by sale poi p.the_record then Some (length p.before) else last_in sale poi older

-- the slot of the last Intent of this till at this terminal
abbrev pub last_slot : List Record → List ℕ → List ℕ → Option ℕ
last_slot records sale poi = last_in sale poi (history records)
