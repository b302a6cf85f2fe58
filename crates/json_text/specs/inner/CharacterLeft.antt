-- Inner: what is left of one character's spelling, in each state of its reader.
use Rattle.std.specs.Prelude.{◌≡◌, ℕ, ◌+◌, ◌-◌, ◌*◌, ◌<◌, ◌≤◌, List, [], ◌∷◌, ◌++◌, length, ◌⊎◌}
use Rattle.std.specs.Char.{InScalarRange}
use Rattle.json_text.specs.Character.{IsCharacter, AreHex, IsUnit, IsHigh, IsLow, of_pair}
use Rattle.json_text.specs.Scan.{Scan, inside, escaped, owes, scan_step}
use Rattle.json_text.specs.declared.character.CharacterState.{CharacterState}
use Rattle.json_text.specs.declared.character.CharacterState.TheVariants as character_states
use Rattle.json_text.specs.declared.character.CharacterStep.{CharacterStep}
use Rattle.json_text.specs.declared.character.CharacterStep.TheVariants as character_steps

-- the bytes complete the bits to the character c: the first is from low to high, the others from 80 to BF
abbrev pub Completes : ℕ → ℕ → ℕ → List ℕ → ℕ → Type 0
Completes low high bits [] c = c ≡ bits
Completes low high bits (x ∷ w) c = (low ≤ x) × (x ≤ high) × Completes 128 191 (bits * 64 + (x - 128)) w c

-- the unit of a low surrogate, which makes c with the high one
pub record IsSecond (high : ℕ) (w : List ℕ) (c : ℕ) : Type 0 where
  pub low : ℕ
  pub unit : IsUnit low w
  pub low_is : IsLow low
  pub c_is : c ≡ of_pair high low

-- what completes the character c after the unit u
abbrev pub AfterUnit : ℕ → List ℕ → ℕ → Type 0
AfterUnit u w c = ((w ≡ []) × (c ≡ u) × InScalarRange u) ⊎ (IsHigh u × IsSecond u w c)

-- digits that complete the bits to a unit, and then what completes the character
pub record InFirst (owed bits : ℕ) (w : List ℕ) (c : ℕ) : Type 0 where
  pub digits : List ℕ
  pub rest : List ℕ
  pub unit : ℕ
  pub parts : w ≡ digits ++ rest
  pub len : length digits ≡ owed
  pub value : AreHex digits bits unit
  pub following : AfterUnit unit rest c

-- digits that complete the bits to a low surrogate
pub record InSecond (high owed bits : ℕ) (w : List ℕ) (c : ℕ) : Type 0 where
  pub low : ℕ
  pub len : length w ≡ owed
  pub value : AreHex w bits low
  pub low_is : IsLow low
  pub c_is : c ≡ of_pair high low

-- w is left of a spelling of c
abbrev pub LeftOfCharacter : CharacterState → List ℕ → ℕ → Type 0
LeftOfCharacter (character_states.Utf8 owed low high bits) w c = (length w ≡ owed) × Completes low high bits w c
LeftOfCharacter character_states.Escape w c = IsCharacter c (92 ∷ w)
LeftOfCharacter (character_states.First owed bits) w c = InFirst owed bits w c
LeftOfCharacter (character_states.Between high) w c = IsSecond high w c
LeftOfCharacter (character_states.SecondEscape high) w c = IsSecond high (92 ∷ w) c
LeftOfCharacter (character_states.Second high owed bits) w c = InSecond high owed bits w c

-- what the scan says in this state
abbrev pub scan_within : CharacterState → Scan
scan_within (character_states.Utf8 owed low high bits) = owes owed
scan_within character_states.Escape = escaped
scan_within (character_states.First owed bits) = inside
scan_within (character_states.Between high) = inside
scan_within (character_states.SecondEscape high) = escaped
scan_within (character_states.Second high owed bits) = inside

-- the numbers of a state are such that a character can still come of it
pub record Utf8Bounds (owed low high bits : ℕ) : Type 0 where
  pub some : 1 ≤ owed
  pub few : owed ≤ 3
  pub low_from : 128 ≤ low
  pub low_to : low ≤ high
  pub high_to : high ≤ 191
  pub one : bits < 32768
  pub two : 2 ≤ owed → bits < 512
  pub three : 3 ≤ owed → bits < 8

-- so many digits of the first unit are owed, those read are of these bits, and no low surrogate can come of them
pub record FirstBounds (owed bits : ℕ) : Type 0 where
  pub some : 1 ≤ owed
  pub few : owed ≤ 4
  pub one : bits < 4096
  pub two : 2 ≤ owed → bits < 256
  pub three : 3 ≤ owed → bits < 16
  pub four : 4 ≤ owed → bits ≡ 0
  pub two_digits : owed ≡ 2 → 0xDC ≤ bits → 0xE0 ≤ bits
  pub three_digits : owed ≡ 1 → 0xDC0 ≤ bits → 0xE00 ≤ bits

-- so many digits of the second unit are owed, and of those read only a low surrogate can come
pub record SecondBounds (owed bits : ℕ) : Type 0 where
  pub some : 1 ≤ owed
  pub few : owed ≤ 4
  pub no_digit : owed ≡ 4 → bits ≡ 0
  pub one_digit : owed ≡ 3 → bits ≡ 0xD
  pub two_digits : owed ≡ 2 → (0xDC ≤ bits) × (bits < 0xE0)
  pub three_digits : owed ≡ 1 → (0xDC0 ≤ bits) × (bits < 0xE00)

-- the bounds of each state
abbrev pub Bounds : CharacterState → Type 0
Bounds (character_states.Utf8 owed low high bits) = Utf8Bounds owed low high bits
Bounds character_states.Escape = Unit {0}
Bounds (character_states.First owed bits) = FirstBounds owed bits
Bounds (character_states.Between high) = IsHigh high
Bounds (character_states.SecondEscape high) = IsHigh high
Bounds (character_states.Second high owed bits) = IsHigh high × SecondBounds owed bits

-- what is left in this state completes characters
pub record IsSound (s : CharacterState) : Type 0 where
  pub bounds : Bounds s
  pub scalar : (w : List ℕ) (c : ℕ) → LeftOfCharacter s w c → InScalarRange c

-- where L says what is left, the byte x leaves what the state s says
pub record LeavesNext (L : List ℕ → ℕ → Type 0) (here : Scan) (x : ℕ) (s : CharacterState) : Type 0 where
  pub on : (w : List ℕ) (c : ℕ) → L (x ∷ w) c → LeftOfCharacter s w c
  pub back : (w : List ℕ) (c : ℕ) → LeftOfCharacter s w c → L (x ∷ w) c
  pub bounds : Bounds s
  pub scans : scan_step here x ≡ scan_within s

-- the byte x completes the character c, and no other
pub record LeavesNone (L : List ℕ → ℕ → Type 0) (here : Scan) (x c : ℕ) : Type 0 where
  pub on : (w : List ℕ) (d : ℕ) → L (x ∷ w) d → (w ≡ []) × (d ≡ c)
  pub back : L (x ∷ []) c
  pub scans : scan_step here x ≡ inside

-- what the byte x does
abbrev pub IsCharacterStep : (List ℕ → ℕ → Type 0) → Scan → ℕ → CharacterStep → Type 0
IsCharacterStep L here x (character_steps.Whole c) = LeavesNone L here x c
IsCharacterStep L here x (character_steps.Next s) = LeavesNext L here x s
IsCharacterStep L here x character_steps.Wrong = (w : List ℕ) (c : ℕ) → L (x ∷ w) c → ⊥

-- a whole spelling
abbrev pub Starts : List ℕ → ℕ → Type 0
Starts w c = IsCharacter c w
