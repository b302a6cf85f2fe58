-- The text that names a transaction at its terminal, and the entry that a text names.
use Rattle.std.specs.Prelude.{ℕ, zero, suc, Bool, false, ◌&&◌, if◌then◌else◌, List, length, Option, Some, None, option_map}
use Rattle.gw_base.specs.Transaction.{transaction_text}
use Rattle.jrn_record.specs.declared.records.Record.{Record}
use Rattle.gw_ledger.specs.declared.entry.Entry.{Entry}
use Rattle.gw_ledger.specs.History.{same_text}
use Rattle.gw_ledger.specs.Slots.{entry_at}

-- the text of an entry; one that is open has none
abbrev pub text_of : Entry → Option (List ℕ)
text_of entry = option_map (λ outcome. transaction_text outcome.number outcome.receipt entry.slot) entry.result

-- a text is this one
abbrev pub is_text : List ℕ → Option (List ℕ) → Bool
is_text text None = false
is_text text (Some other) = same_text text other

-- the entry is one of this terminal, has its Outcome, and has this text
abbrev pub is_named : List ℕ → List ℕ → Option Entry → Bool
is_named poi text None = false
is_named poi text (Some entry) = same_text poi entry.intent.poi && is_text text (text_of entry)

-- the entry that the text names at this terminal, of those whose slots are below this one
abbrev pub named_below : List Record → List ℕ → List ℕ → ℕ → Option Entry
named_below records poi text zero = None
named_below records poi text (suc slot) =
    if is_named poi text (entry_at records slot) then entry_at records slot else named_below records poi text slot

-- the entry that the text names at this terminal
abbrev pub named_of : List Record → List ℕ → List ℕ → Option Entry
named_of records poi text = named_below records poi text (length records)
