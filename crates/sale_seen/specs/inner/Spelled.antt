-- Inner: what the digits of a text spell, and what follows them.
use Rattle.std.specs.Prelude.{◌≡◌, ℕ, ◌+◌, ◌-◌, ◌*◌, ◌^◌, ◌<◌, List, [], ◌∷◌, ◌++◌, decimal, if◌then◌else◌}
use Rattle.std.specs.Char.{is_ascii_digit}
use Rattle.sale_seen.specs.Transaction.{AreSoManyDigits}

-- a number with one more byte after it, which counts where it is a digit
abbrev pub after_byte : ℕ → ℕ → ℕ
after_byte n c = if is_ascii_digit c then 10 * n + (c - 48) else n

-- the number that the digits of a text spell after another
abbrev pub spelled_on : ℕ → List ℕ → ℕ
spelled_on n [] = n
spelled_on n (c ∷ text) = spelled_on (after_byte n c) text

-- the text begins with so many digits and a dash, and this follows
abbrev pub FollowsDigits : ℕ → List ℕ → List ℕ → Type 0
FollowsDigits count text rest = (digits : List ℕ) × AreSoManyDigits count digits × (text ≡ digits ++ 0x2D ∷ rest)

-- the text is a number of 32 bits
abbrev pub IsSlotText : List ℕ → Type 0
IsSlotText text = (slot : ℕ) × (slot < 2 ^ 32) × (text ≡ decimal slot)
