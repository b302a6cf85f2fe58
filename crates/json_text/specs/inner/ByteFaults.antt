-- Inner: the bytes at which a text is refused.
use Rattle.std.specs.Prelude.{◌≡◌, ◌≢◌, ℕ, ◌<◌, ◌≤◌, List, true, false}
use Rattle.json_text.specs.Grammar.{Rules}
use Rattle.json_text.specs.Scan.{Scan, outside, inside, IsBadUtf8}
use Rattle.json_text.specs.inner.ReaderStates.{ReaderState, Level, IsDead, IsAlive, scan_of}
use Rattle.json_text.specs.declared.fault.FaultKind.{FaultKind}
use Rattle.json_text.specs.declared.fault.FaultKind.TheVariants as kinds
use Rattle.json_text.specs.declared.fault.ReadError.{ReadError}
use Rattle.json_text.specs.declared.fault.ReadError.TheVariants as errors

-- the error of a fault at this offset
abbrev pub fault_at : ℕ → FaultKind → ReadError
fault_at offset fault_kind = errors.Fault (record { at = offset; kind = fault_kind })

-- the byte c would open one level too many: it is dead at 32 levels, and alive where enough are allowed
pub record IsTooDeep (p : ReaderState) (st : List Level) (c : ℕ) : Type 0 where
  pub dead : (R : Rules) → R.limit ≤ 32 → IsDead R p st c
  pub enough : ℕ
  pub alive : (R : Rules) → enough < R.limit → IsAlive R p st c
  pub scans : scan_of p ≡ outside

-- the byte c would close a name that the object has already: it is dead where names have to differ, and alive where not
pub record IsRepeated (p : ReaderState) (st : List Level) (c : ℕ) : Type 0 where
  pub dead : (R : Rules) → R.distinct ≡ true → IsDead R p st c
  pub alive : (R : Rules) → R.distinct ≡ false → IsAlive R p st c
  pub scans : scan_of p ≡ inside
  pub quote : c ≡ 34

-- no text goes on with the byte c, whatever the rules; U says whether it is bad UTF-8 of a string
pub record IsWrongByte (p : ReaderState) (st : List Level) (c : ℕ) (U : Type 0) : Type 0 where
  pub dead : (R : Rules) → IsDead R p st c
  pub utf8 : U

-- no bracket, brace or quotation mark that begins a value
pub record IsNoMark (c : ℕ) : Type 0 where
  pub bracket : c ≢ 91
  pub brace : c ≢ 123
  pub quote : c ≢ 34

-- the kind of a byte with which no string goes on
abbrev pub IsKindAt : Scan → ℕ → FaultKind → Type 0
IsKindAt s c kinds.NotJson = IsBadUtf8 s c → ⊥
IsKindAt s c kinds.TooDeep = ⊥
IsKindAt s c kinds.Repeated = ⊥
IsKindAt s c kinds.BadUtf8 = IsBadUtf8 s c

-- the byte c is a fault of this kind
abbrev pub FailsAt : ReaderState → List Level → ℕ → FaultKind → Type 0
FailsAt p st c kinds.NotJson = IsWrongByte p st c (IsBadUtf8 (scan_of p) c → ⊥)
FailsAt p st c kinds.TooDeep = IsTooDeep p st c
FailsAt p st c kinds.Repeated = IsRepeated p st c
FailsAt p st c kinds.BadUtf8 = IsWrongByte p st c (IsBadUtf8 (scan_of p) c)
