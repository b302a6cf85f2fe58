-- The text of a number (RFC 8259, section 6).
use Rattle.std.specs.Prelude.{◌≡◌, ℕ, List, [], ◌∷◌, ◌++◌, ◌≤◌, ◌⊎◌}

-- DIGIT
abbrev pub IsDigit : ℕ → Type 0
IsDigit c = (48 ≤ c) × (c ≤ 57)

-- *DIGIT
abbrev pub AreDigits : List ℕ → Type 0
AreDigits [] = Unit {0}
AreDigits (c ∷ s) = IsDigit c × AreDigits s

-- 1*DIGIT
abbrev pub IsDigits : List ℕ → Type 0
IsDigits [] = ⊥
IsDigits (c ∷ s) = IsDigit c × AreDigits s

-- int = zero / ( digit1-9 *DIGIT )
abbrev pub IsInt : List ℕ → Type 0
IsInt [] = ⊥
IsInt (c ∷ s) = ((c ≡ 48) × (s ≡ [])) ⊎ ((49 ≤ c) × (c ≤ 57) × AreDigits s)

-- [ frac ], frac = decimal-point 1*DIGIT
abbrev pub IsFrac : List ℕ → Type 0
IsFrac [] = Unit {0}
IsFrac (c ∷ s) = (c ≡ 46) × IsDigits s

-- ( minus / plus ) 1*DIGIT
abbrev pub IsSigned : List ℕ → Type 0
IsSigned [] = ⊥
IsSigned (c ∷ s) = ((c ≡ 43) ⊎ (c ≡ 45)) × IsDigits s

-- [ exp ], exp = e [ minus / plus ] 1*DIGIT
abbrev pub IsExp : List ℕ → Type 0
IsExp [] = Unit {0}
IsExp (c ∷ s) = ((c ≡ 101) ⊎ (c ≡ 69)) × (IsDigits s ⊎ IsSigned s)

-- [ frac ] [ exp ]
pub record IsFraction (s : List ℕ) : Type 0 where
  pub frac : List ℕ
  pub exp : List ℕ
  pub parts : s ≡ frac ++ exp
  pub frac_is : IsFrac frac
  pub exp_is : IsExp exp

-- int [ frac ] [ exp ]
pub record IsMagnitude (s : List ℕ) : Type 0 where
  pub int : List ℕ
  pub rest : List ℕ
  pub parts : s ≡ int ++ rest
  pub int_is : IsInt int
  pub rest_is : IsFraction rest

-- minus int [ frac ] [ exp ]
abbrev pub IsNegative : List ℕ → Type 0
IsNegative [] = ⊥
IsNegative (c ∷ s) = (c ≡ 45) × IsMagnitude s

-- number = [ minus ] int [ frac ] [ exp ]
abbrev pub IsNumberText : List ℕ → Type 0
IsNumberText s = IsMagnitude s ⊎ IsNegative s
