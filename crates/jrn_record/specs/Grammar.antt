-- How a record spells its fields: integers with the most significant byte first, and zeros where a body is unused.
use Rattle.std.specs.Prelude.{ℕ, ◌-◌, Bool, true, false, List, [], ◌∷◌, ◌++◌, length, replicate, Option, Some, None, ℤ, unsigned_abs}
use Rattle.std.specs.Int.{to_be_bytes, w32, w64}
use Rattle.gw_base.specs.Bcd.{bcd_of}
use Rattle.gw_base.specs.Currency.{currency_number}
use Rattle.gw_base.specs.declared.condition.Condition.{Condition}
use Rattle.jrn_record.specs.Limits.{reason_code}
use Rattle.jrn_record.specs.declared.records.Deal.{Deal}
use Rattle.jrn_record.specs.declared.records.Deal.TheVariants.{Payment, Reversal}
use Rattle.jrn_record.specs.declared.records.How.{How}
use Rattle.jrn_record.specs.declared.records.How.TheVariants.{Sale, Acquirer}
use Rattle.jrn_record.specs.declared.records.Intent.{Intent as TheIntent}
use Rattle.jrn_record.specs.declared.records.Outcome.{Outcome as TheOutcome}
use Rattle.jrn_record.specs.declared.records.Settled.{Settled as TheSettled}
use Rattle.jrn_record.specs.declared.records.Record.{Record}
use Rattle.jrn_record.specs.declared.records.Record.TheVariants.{Intent, Outcome, Settled}

-- a text after its length, filled with zeros to the size
abbrev pub text_field : ℕ → List ℕ → List ℕ
text_field size text = length text ∷ (text ++ replicate (size - 1 - length text) 0)

-- a text that may be absent, which is as an empty one
abbrev pub option_field : ℕ → Option (List ℕ) → List ℕ
option_field size None = replicate size 0
option_field size (Some text) = text_field size text

-- the byte of what is asked of the terminal
abbrev pub deal_code : Deal → ℕ
deal_code Payment = 1
deal_code Reversal = 2

-- a payment has no original, and spells the greatest number
abbrev pub original_code : Option ℕ → ℕ
original_code None = 0xFFFFFFFF
original_code (Some slot) = slot

-- the byte of an approval, or of a refusal
abbrev pub approval_code : Bool → ℕ
approval_code true = 1
approval_code false = 2

-- the byte of a refusal's reason; an approval spells 0
abbrev pub condition_code : Option Condition → ℕ
condition_code None = 0
condition_code (Some condition) = reason_code condition

-- the byte of whose reconciliation it was
abbrev pub how_code : How → ℕ
how_code Sale = 1
how_code Acquirer = 2

-- a moment in eight bytes
abbrev pub moment_field : ℤ → List ℕ
moment_field moment = to_be_bytes w64 (unsigned_abs moment)

-- the fields of an Intent, in the order of its table
abbrev pub intent_fields : TheIntent → List (List ℕ)
intent_fields i =
    (1 ∷ []) ∷ (deal_code i.what ∷ []) ∷ text_field 41 i.sale ∷ text_field 41 i.poi ∷ text_field 11 i.service
    ∷ option_field 81 i.transaction ∷ option_field 36 i.stamp ∷ bcd_of 6 i.amount ∷ bcd_of 2 (currency_number i.currency)
    ∷ bcd_of 3 i.before ∷ to_be_bytes w32 (original_code i.original) ∷ moment_field i.moment ∷ replicate 20 0 ∷ []

-- the fields of an Outcome
abbrev pub outcome_fields : TheOutcome → List (List ℕ)
outcome_fields o =
    (2 ∷ []) ∷ (approval_code o.approved ∷ []) ∷ to_be_bytes w32 o.slot ∷ bcd_of 3 o.number ∷ bcd_of 2 o.receipt
    ∷ bcd_of 6 o.amount ∷ (condition_code o.condition ∷ []) ∷ moment_field o.moment ∷ replicate 229 0 ∷ []

-- the fields of a Settled
abbrev pub settled_fields : TheSettled → List (List ℕ)
settled_fields s =
    (3 ∷ []) ∷ (how_code s.how ∷ []) ∷ text_field 41 s.sale ∷ text_field 41 s.poi ∷ text_field 11 s.service
    ∷ bcd_of 2 (currency_number s.currency) ∷ moment_field s.moment ∷ replicate 150 0 ∷ []

-- the fields of a record, in the order of its table
abbrev pub record_fields : Record → List (List ℕ)
record_fields (Intent intent) = intent_fields intent
record_fields (Outcome outcome) = outcome_fields outcome
record_fields (Settled settled) = settled_fields settled

-- the fields, one after the other
abbrev pub joined : List (List ℕ) → List ℕ
joined [] = []
joined (field ∷ rest) = field ++ joined rest

-- the body of a record
abbrev pub record_body : Record → List ℕ
record_body the_record = joined (record_fields the_record)
