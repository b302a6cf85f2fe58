-- Where a text is malformed, and why.
use Rattle.std.specs.Prelude.{◌≡◌, ℕ, ◌+◌, ◌<◌, ◌≤◌, ◌↔◌, List, length, take, slice_index, true, false}
use Rattle.json_text.specs.Tree.{Tree}
use Rattle.json_text.specs.Grammar.{BeginsTextBy, BeginsText, Spells}
use Rattle.json_text.specs.Scan.{scan, IsBadUtf8}
use Rattle.json_text.specs.declared.fault.FaultKind.{FaultKind}
use Rattle.json_text.specs.declared.fault.FaultKind.TheVariants as kinds
use Rattle.json_text.specs.declared.fault.ReadError.{ReadError}
use Rattle.json_text.specs.declared.fault.ReadError.TheVariants as errors

-- with more levels allowed, some text begins with the bytes up to this offset and the byte there
abbrev pub OpensTooDeep : List ℕ → ℕ → Type 0
OpensTooDeep b offset = (offset < length b) × ((limit : ℕ) × (32 ≤ limit) × BeginsTextBy (record { limit = limit; distinct = true }) (take (offset + 1) b))

-- with a name allowed twice, some text begins with the bytes up to this offset and the byte there
abbrev pub ClosesRepeated : List ℕ → ℕ → Type 0
ClosesRepeated b offset = (offset < length b) × BeginsTextBy (record { limit = 32; distinct = false }) (take (offset + 1) b)

-- the byte at this offset is in a string, and is 80 or above or truncates a character
abbrev pub BreaksUtf8 : List ℕ → ℕ → Type 0
BreaksUtf8 b offset = (offset < length b) × IsBadUtf8 (scan (take offset b)) (slice_index b offset)

-- b is no text: some text begins with its bytes up to this offset, and none with one byte more
pub record IsJsonFault (b : List ℕ) (offset : ℕ) (fault_kind : FaultKind) : Type 0 where
  pub within : offset ≤ length b
  pub begins : BeginsText (take offset b)
  pub longest : offset < length b → BeginsText (take (offset + 1) b) → ⊥
  pub spelled_by_none : (v : Tree) → Spells v b → ⊥
  -- the kind is NotJson exactly where it is none of these
  pub too_deep : (fault_kind ≡ kinds.TooDeep) ↔ OpensTooDeep b offset
  pub repeated : (fault_kind ≡ kinds.Repeated) ↔ ClosesRepeated b offset
  pub bad_utf8 : (fault_kind ≡ kinds.BadUtf8) ↔ BreaksUtf8 b offset

-- the bytes have this fault, or memory was refused
abbrev pub RefusesText : List ℕ → ReadError → Type 0
RefusesText b errors.Memory = Unit {0}
RefusesText b (errors.Fault f) = IsJsonFault b f.at f.kind
