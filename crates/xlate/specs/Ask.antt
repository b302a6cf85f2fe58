-- The command that asks a terminal for what an Intent says.
use Rattle.std.specs.Prelude.{◌≡◌, ℕ, true, List, Option, Some, None}
use Rattle.gw_base.specs.Bcd.{IsBcd}
use Rattle.gw_base.specs.Currency.{currency_number}
use Rattle.gw_base.specs.declared.setup.Pt.{Pt}
use Rattle.jrn_record.specs.declared.records.Deal.{Deal}
use Rattle.jrn_record.specs.declared.records.Deal.TheVariants.{Payment, Reversal}
use Rattle.jrn_record.specs.declared.records.Intent.{Intent as TheIntent}
use Rattle.jrn_record.specs.declared.records.Outcome.{Outcome as TheOutcome}
use Rattle.jrn_record.specs.Limits.{IsIntent, IsOutcome}
use Rattle.gw_ledger.specs.declared.entry.Entry.{Entry}
use Rattle.zvt_msg.specs.CommandGrammar.{HasCommandDigits}
use Rattle.zvt_msg.specs.declared.command.Command.{Command}
use Rattle.zvt_msg.specs.declared.command.Command.TheVariants.{Authorise, Reverse}

-- an Outcome that approves
abbrev pub IsApproval : Option TheOutcome → Type 0
IsApproval None = ⊥
IsApproval (Some outcome) = outcome.approved ≡ true

-- what a terminal is asked for has its original: a payment none, a reversal the approved entry at the slot that its Intent names
abbrev pub HasItsOriginal : Deal → Option ℕ → Option Entry → Type 0
HasItsOriginal Payment slot None = Unit {0}
HasItsOriginal Payment slot (Some entry) = ⊥
HasItsOriginal Reversal slot None = ⊥
HasItsOriginal Reversal slot (Some entry) = (slot ≡ Some entry.slot) × IsApproval entry.result

-- the receipt number of an Outcome; 0 where there is none
abbrev pub receipt_in : Option TheOutcome → ℕ
receipt_in None = 0
receipt_in (Some outcome) = outcome.receipt

-- the receipt number of an original; 0 where there is none
abbrev pub receipt_of : Option Entry → ℕ
receipt_of None = 0
receipt_of (Some entry) = receipt_in entry.result

-- a payment is an authorisation of its amount in its currency; a reversal is one of its original's receipt
abbrev pub ask_for : Deal → TheIntent → Option Entry → List ℕ → Command
ask_for Payment intent original password = Authorise intent.amount (currency_number intent.currency)
ask_for Reversal intent original password = Reverse password (receipt_of original)

-- the command for an Intent at a terminal with this setup
abbrev pub ask : TheIntent → Option Entry → Pt → Command
ask intent original pt = ask_for intent.what intent original pt.password

-- each field of the original's Outcome lies within its limits
abbrev pub IsOriginalWithinLimits : Option Entry → Type 0
IsOriginalWithinLimits None = Unit {0}
IsOriginalWithinLimits (Some entry) = (outcome : TheOutcome) → entry.result ≡ Some outcome → IsOutcome outcome

-- of records within their limits, each number of the command has at most its field's digits, so that it can be written
abbrev pub CommandsHaveDigits : Type 0
CommandsHaveDigits = (intent : TheIntent) (original : Option Entry) (pt : Pt) → IsIntent intent → IsOriginalWithinLimits original
    → IsBcd pt.password → HasCommandDigits (ask intent original pt)
