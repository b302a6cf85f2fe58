-- What a power failure leaves at each turn of an append and of an opening.
use Rattle.std.specs.Prelude.{◌≡◌, ◌⊎◌, ℕ, List, [], ◌∷◌, ◌++◌, length}
use Rattle.gw_site.specs.Outside.{outside_of}
use Rattle.gw_site.specs.Image.{Image}
use Rattle.gw_site.specs.declared.turn.Turn.{Turn}
use Rattle.gw_site.specs.declared.turn.Turn.TheVariants.{Synced}
use Rattle.jrn_log.specs.Slots.{AreSlots}
use Rattle.jrn_log.specs.JournalTurns.{gate_write}

-- the gate of this slot was written in these turns
abbrev pub IsGateWritten : ℕ → List Turn → Type 0
IsGateWritten slot made = (first : List Turn) × (rest : List Turn) × (made ≡ first ++ gate_write slot ∷ rest)

-- the file has these bodies, or, once the gate of the next slot was written, these and one more
abbrev pub HasOldOrNew : List (List ℕ) → List ℕ → List Turn → List ℕ → Type 0
HasOldOrNew bodies body made file = AreSlots file bodies ⊎ (IsGateWritten (length bodies) made × AreSlots file (bodies ++ body ∷ []))

-- whatever a power failure leaves after so many turns of an append after this log
abbrev pub AppendLeaves : List Turn → List (List ℕ) → List ℕ → List Turn → Type 0
AppendLeaves before bodies body made = (file : List ℕ) → Image (outside_of (before ++ made)) file → HasOldOrNew bodies body made file

-- the log went on from before, and at each turn of it an append leaves the old bodies or the new
abbrev pub AppendImages : List Turn → List Turn → List (List ℕ) → List ℕ → Type 0
AppendImages before after bodies body = (made rest : List Turn) → after ≡ before ++ (made ++ rest) → AppendLeaves before bodies body made

-- whatever a power failure leaves after so many turns of an opening, from its sync on, has these bodies
abbrev pub OpeningLeaves : List Turn → List (List ℕ) → List Turn → Type 0
OpeningLeaves before bodies made = (file : List ℕ) → Image (outside_of (before ++ Synced ∷ made)) file → AreSlots file bodies

-- at each turn by which the log went on from before, from its sync on, an opening leaves these bodies
abbrev pub OpeningImages : List Turn → List Turn → List (List ℕ) → Type 0
OpeningImages before after bodies = (made rest : List Turn) → after ≡ before ++ Synced ∷ (made ++ rest) → OpeningLeaves before bodies made
