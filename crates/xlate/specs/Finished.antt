-- What the ledger has of a request that is finished.
use Rattle.std.specs.Prelude.{Option, Some, None}
use Rattle.jrn_record.specs.declared.records.Intent.{Intent as TheIntent}
use Rattle.jrn_record.specs.declared.records.Outcome.{Outcome as TheOutcome}
use Rattle.jrn_record.specs.Limits.{IsIntent, IsOutcome, IsSettled}
use Rattle.gw_ledger.specs.declared.entry.Entry.{Entry as TheEntry}
use Rattle.gw_ledger.specs.declared.entry.Found.{Found}
use Rattle.gw_ledger.specs.declared.entry.Found.TheVariants.{Entry, Closed}

-- there is an Outcome, and each field of both records lies within its limits
abbrev pub HasOutcome : TheIntent → Option TheOutcome → Type 0
HasOutcome intent None = ⊥
HasOutcome intent (Some outcome) = IsIntent intent × IsOutcome outcome

-- the entry is resolved, and each field of its records lies within its limits
abbrev pub IsResolved : TheEntry → Type 0
IsResolved entry = HasOutcome entry.intent entry.result

-- the request has its result, and each field of its records lies within its limits
abbrev pub IsFinished : Found → Type 0
IsFinished (Entry entry) = IsResolved entry
IsFinished (Closed closed) = IsSettled closed.settled
