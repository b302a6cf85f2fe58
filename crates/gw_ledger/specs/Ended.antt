-- Inner: the slot of an Outcome, or none, as one number.
use Rattle.std.specs.Prelude.{◌≡◌, ℕ, zero, suc, Option, Some, None, refl}

-- the slot before this one, where there is one
abbrev pub slot_before : ℕ → Option ℕ
slot_before zero = None
slot_before (suc slot) = Some slot

-- the slot after this one, or the first where there is none
abbrev pub slot_after : Option ℕ → ℕ
slot_after None = 0
slot_after (Some slot) = suc slot

-- the number is that of what it means
pub slot_after-before : (next : ℕ) → slot_after (slot_before next) ≡ next
slot_after-before zero = refl
slot_after-before (suc slot) = refl
