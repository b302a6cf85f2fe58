-- What an opening returns, by the file as it began.
use Rattle.std.specs.Prelude.{◌≡◌, ◌↔◌, ℕ, List, length, Result, Err}
use Rattle.jrn_log.specs.declared.fault.OpenFault.{OpenFault}
use Rattle.jrn_log.specs.declared.fault.OpenFault.TheVariants.{TooLong, Cut}
use Rattle.jrn_log.specs.Slots.{AreSlots, IsFileTooLong, IsTruncatedSlot}
use Rattle.jrn_log.specs.Journal.{JournalValue}
use Rattle.jrn_log.specs.JournalTurns.{IsAboutFile}

-- Ok: the bodies of the open slots, and a journal of just these
abbrev pub OpensWith : ℕ → List ℕ → JournalValue × List (List ℕ) → Type 0
OpensWith slots file (journal, bodies) = AreSlots file bodies × (journal ≡ record { len = length bodies; slots = slots; opened = length file })

-- too long, with its length: exactly where the file is
abbrev pub IsExactlyTooLong : {T : Type 0} → ℕ → List ℕ → Result T OpenFault → Type 0
IsExactlyTooLong slots file result = IsAboutFile result → (count : ℕ) → (result ≡ Err (TooLong count)) ↔ ((count ≡ length file) × IsFileTooLong slots file)

-- truncated, with the slot: exactly where a file that isn't too long is
abbrev pub IsExactlyTruncated : {T : Type 0} → ℕ → List ℕ → Result T OpenFault → Type 0
IsExactlyTruncated slots file result = IsAboutFile result → (slot : ℕ) → (result ≡ Err (Cut slot)) ↔ ((IsFileTooLong slots file → ⊥) × IsTruncatedSlot file slot)
