-- The limits of a record's fields.
use Rattle.std.specs.Prelude.{◌≡◌, ℕ, ◌^◌, ◌<◌, ◌≤◌, Bool, true, false, List, Option, Some, None}
use Rattle.gw_base.specs.Ident.{IsIdent}
use Rattle.gw_base.specs.Limits.{IsAmount, IsTrace, IsReceipt}
use Rattle.gw_base.specs.Moment.{IsMoment}
use Rattle.gw_base.specs.declared.condition.Condition.{Condition}
use Rattle.gw_base.specs.declared.condition.Condition.TheVariants.{Aborted, Busy, Cancel, InProgress, InsertedCard, InvalidCard, LoggedOut, MessageFormat, NotAllowed, NotFound, Refusal, UnavailableDevice, UnavailableService}
use Rattle.jrn_record.specs.declared.records.Deal.{Deal}
use Rattle.jrn_record.specs.declared.records.Deal.TheVariants.{Payment, Reversal}
use Rattle.jrn_record.specs.declared.records.Intent.{Intent as TheIntent}
use Rattle.jrn_record.specs.declared.records.Outcome.{Outcome as TheOutcome}
use Rattle.jrn_record.specs.declared.records.Settled.{Settled as TheSettled}
use Rattle.jrn_record.specs.declared.records.Record.{Record}
use Rattle.jrn_record.specs.declared.records.Record.TheVariants.{Intent, Outcome, Settled}

-- a text of the till, which a payment has and a reversal hasn't
abbrev pub HasTillText : Deal → ℕ → Option (List ℕ) → Type 0
HasTillText Payment most None = ⊥
HasTillText Payment most (Some text) = IsIdent most text
HasTillText Reversal most None = Unit {0}
HasTillText Reversal most (Some text) = ⊥

-- the slot of the original, which a reversal has and a payment hasn't
abbrev pub HasOriginal : Deal → Option ℕ → Type 0
HasOriginal Payment None = Unit {0}
HasOriginal Payment (Some slot) = ⊥
HasOriginal Reversal None = ⊥
HasOriginal Reversal (Some slot) = slot < 2 ^ 32

-- each field of an Intent lies within its limits
pub record IsIntent (intent : TheIntent) : Type 0 where
  pub sale : IsIdent 40 intent.sale
  pub poi : IsIdent 40 intent.poi
  pub service : IsIdent 10 intent.service
  pub transaction : HasTillText intent.what 80 intent.transaction
  pub stamp : HasTillText intent.what 35 intent.stamp
  pub amount : IsAmount intent.amount
  pub before : IsTrace intent.before
  pub original : HasOriginal intent.what intent.original
  pub moment : IsMoment intent.moment

-- a number that is within its limits where it is present (an approval has it), and is 0 where it is not (a refusal)
abbrev pub IsPresentAs : Bool → (ℕ → Type 0) → ℕ → Type 0
IsPresentAs true IsLimited number = IsLimited number
IsPresentAs false IsLimited number = number ≡ 0

-- Inner: a number that lies between the least and the greatest where it is present, and is 0 where it is not
abbrev pub IsPresentWithin : Bool → ℕ → ℕ → ℕ → Type 0
IsPresentWithin present least greatest number = IsPresentAs present (λ n. (least ≤ n) × (n ≤ greatest)) number

-- the code of a condition that a refusal can have; 0 for every other
abbrev pub reason_code : Condition → ℕ
reason_code Aborted = 1
reason_code Cancel = 2
reason_code Refusal = 3
reason_code InvalidCard = 4
reason_code InsertedCard = 5
reason_code UnavailableService = 6
reason_code NotAllowed = 7
reason_code Busy = 0
reason_code InProgress = 0
reason_code LoggedOut = 0
reason_code MessageFormat = 0
reason_code NotFound = 0
reason_code UnavailableDevice = 0

-- a refusal has its reason, and an approval has none
abbrev pub HasReason : Bool → Option Condition → Type 0
HasReason true None = Unit {0}
HasReason true (Some condition) = ⊥
HasReason false None = ⊥
HasReason false (Some condition) = 1 ≤ reason_code condition

-- each field of an Outcome lies within its limits
pub record IsOutcome (outcome : TheOutcome) : Type 0 where
  pub slot : outcome.slot < 2 ^ 32
  pub number : IsPresentAs outcome.approved (λ trace. (1 ≤ trace) × IsTrace trace) outcome.number
  pub receipt : IsPresentAs outcome.approved (λ receipt. (0 ≤ receipt) × IsReceipt receipt) outcome.receipt
  pub amount : IsPresentAs outcome.approved IsAmount outcome.amount
  pub condition : HasReason outcome.approved outcome.condition
  pub moment : IsMoment outcome.moment

-- each field of a Settled lies within its limits
pub record IsSettled (settled : TheSettled) : Type 0 where
  pub sale : IsIdent 40 settled.sale
  pub poi : IsIdent 40 settled.poi
  pub service : IsIdent 10 settled.service
  pub moment : IsMoment settled.moment

-- each field of a record lies within its limits
abbrev pub IsRecord : Record → Type 0
IsRecord (Intent intent) = IsIntent intent
IsRecord (Outcome outcome) = IsOutcome outcome
IsRecord (Settled settled) = IsSettled settled
